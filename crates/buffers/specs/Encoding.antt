-- A run in a lent buffer: rule, cores, count, the fence in two words and the withdrawn set, then eleven words for each of the 32 places. The words past
-- the count are not read.
use Rattle.std.specs.Prelude.{Result, Ok, Err, Option, Some, None, Bool, true, ◌&&◌, ◌||◌, cond, List, [], ◌∷◌, ◌++◌, ℕ, zero, suc, ◌+◌, ◌*◌, ◌-◌, ◌/◌, ◌%◌, ◌^◌, length, get_or, take, drop, replicate, leb, eqb}
use Rattle.phase.specs.declared.Phase.{Phase}
use Rattle.phase.specs.declared.Phase.TheVariants.{Coming, Working, Holding, Resting}
use Rattle.phase.specs.declared.Task.{Task}
use Rattle.phase.specs.Task.{unused}
use Rattle.run.specs.declared.Run.{Run}
use Rattle.table.specs.Words.{fence_of}
use Rattle.buffers.specs.declared.run_buffer.PhaseWords.{PhaseWords}
use Rattle.model.specs.Sizes.{most_tasks}

-- THE SIZES

-- the words in front of the places: rule, cores, count, the fence in two, and the withdrawn set
abbrev pub head_words : ℕ
head_words = 6

-- the words of a place
abbrev pub each_words : ℕ
each_words = 11

-- the index of the parity of a place's job ..
abbrev pub parity_at : ℕ
parity_at = 6

-- .. the kind of its phase ..
abbrev pub kind_at : ℕ
kind_at = parity_at + 1

-- .. its first number ..
abbrev pub first_number_at : ℕ
first_number_at = kind_at + 1

-- .. its second ..
abbrev pub second_number_at : ℕ
second_number_at = kind_at + 2

-- .. and its third
abbrev pub third_number_at : ℕ
third_number_at = kind_at + 3

-- the places of a run
abbrev pub places : ℕ
places = most_tasks

-- the words of the head and n places
abbrev pub words_to : ℕ → ℕ
words_to n = head_words + each_words * n

-- the words of a run
abbrev pub run_words : ℕ
run_words = words_to places

-- THE ENCODING

-- a kind of phase and three numbers
abbrev pub phase_words : ℕ → ℕ → ℕ → ℕ → PhaseWords
phase_words k a b c = record { kind = k; first = a; second = b; third = c }

-- a phase: 0 Coming, 1 Working with the ticks since its release, those had and those reserved (request 109), 2 Holding with the ticks since its release
-- and those reserved, 3 Resting; 0 for a number that it does not have
abbrev pub of_phase : Phase → PhaseWords
of_phase (Coming left) = phase_words 0 left 0 0
of_phase (Working z had reserved) = phase_words 1 z had reserved
of_phase (Holding z reserved) = phase_words 2 z reserved 0
of_phase (Resting z) = phase_words 3 z 0 0

-- a job's parity (request 108): 0 odd, 1 even
abbrev pub parity_word : Bool → ℕ
parity_word even = cond even 1 0

-- a task's six words, that of a parity, and the four of a phase
abbrev pub place_with : Task → ℕ → PhaseWords → List ℕ
place_with t n ph =
    t.parameters.offset ∷ (t.parameters.width ∷ (t.parameters.length ∷ (t.parameters.deadline ∷ (t.parameters.period ∷ (t.parameters.second ∷ (n ∷ (ph.kind ∷ (ph.first ∷ (ph.second ∷ (ph.third ∷ []))))))))))

-- a place: offset, width of odd jobs, length, deadline, period, width of even jobs, and the parity and the phase
abbrev pub place_words : Task → List ℕ
place_words t = place_with t (parity_word t.even) (of_phase t.phase)

-- places, one after the other
unfoldable pub places_words : List Task → List ℕ
places_words [] = []
places_words (t ∷ ts) = place_words t ++ places_words ts

-- the count in a word; a count above 32, which no run that 14 accepts has, is written as 33
abbrev pub count_word : ℕ → ℕ
count_word n = cond (leb n places) n 33

-- the fence in two words, low word first
abbrev pub low_word : ℕ → ℕ
low_word fence = fence % 2 ^ 32

abbrev pub high_word : ℕ → ℕ
high_word fence = fence / 2 ^ 32

-- the head of a run and its first n places
unfoldable pub encode_to : ℕ → Run → List ℕ
encode_to n r =
    r.rule ∷ (r.cores ∷ (count_word r.count ∷ (low_word r.fence ∷ (high_word r.fence ∷ (r.withdrawn ∷ places_words (take n r.tasks))))))

-- a run in words: the head and all places
abbrev pub encode : Run → List ℕ
encode r = encode_to places r

-- a buffer after the head and the first n places of a run are written into it: the words after them stay
abbrev pub overwritten : ℕ → Run → List ℕ → List ℕ
overwritten n r ws = encode_to n r ++ drop (words_to n) ws

-- THE DECODING

-- the phase of a kind and its numbers
abbrev pub phase_of : ℕ → ℕ → ℕ → ℕ → Phase
phase_of k a b c = cond (eqb k 0) (Coming a) (cond (eqb k 1) (Working a b c) (cond (eqb k 2) (Holding a b) (Resting a)))

-- a phase has this kind, this second number and this third: no kind above 3, no third number but of Working, and no second but of Working and Holding
abbrev pub is_phase : ℕ → ℕ → ℕ → Bool
is_phase k b c = leb k 3 && (eqb k 1 || (eqb c 0 && (eqb k 2 || eqb b 0)))

-- the parity of a word ..
abbrev pub even_of : ℕ → Bool
even_of n = eqb n 1

-- .. and that it has one
abbrev pub is_parity : ℕ → Bool
is_parity n = leb n 1

-- the phase of a kind and its numbers, where they have one
abbrev pub phase_read : PhaseWords → Result Phase (Unit {0})
phase_read w = cond (is_phase w.kind w.second w.third) (Ok (phase_of w.kind w.first w.second w.third)) (Err tt)

-- a parity, and a phase
abbrev pub is_task_state : ℕ → ℕ → ℕ → ℕ → Bool
is_task_state n k b c = is_parity n && is_phase k b c

-- the place whose words are in front
abbrev pub place_in : List ℕ → Task
place_in ws = record {
  parameters = record {
    offset = get_or ws 0 0;
    width = get_or ws 1 0;
    length = get_or ws 2 0;
    deadline = get_or ws 3 0;
    period = get_or ws 4 0;
    second = get_or ws 5 0;
  };
  even = even_of (get_or ws parity_at 0);
  phase = phase_of (get_or ws kind_at 0) (get_or ws first_number_at 0) (get_or ws second_number_at 0) (get_or ws third_number_at 0);
}

-- they are a place: they have a parity and a phase
abbrev pub is_place : List ℕ → Bool
is_place ws = is_task_state (get_or ws parity_at 0) (get_or ws kind_at 0) (get_or ws second_number_at 0) (get_or ws third_number_at 0)

-- the place, where they are one
abbrev pub place_read : List ℕ → Option Task
place_read ws = cond (is_place ws) (Some (place_in ws)) None

-- the first n places
unfoldable pub places_in : ℕ → List ℕ → List Task
places_in zero ws = []
places_in (suc n) ws = place_in ws ∷ places_in n (drop each_words ws)

-- each of them is one
unfoldable pub are_places : ℕ → List ℕ → Bool
are_places zero ws = true
are_places (suc n) ws = is_place ws && are_places n (drop each_words ws)

-- the count in a buffer
abbrev pub count_in : List ℕ → ℕ
count_in ws = get_or ws 2 0

-- a buffer holds a run: it has the words of one, the count is at most 32, and every parity and phase below the count is one
unfoldable pub holds_run : List ℕ → Bool
holds_run ws = leb run_words (length ws) && (leb (count_in ws) places && are_places (count_in ws) (drop head_words ws))

-- these tasks in front, and zeros and Resting(0) in the places past them
abbrev pub padded : ℕ → List Task → List Task
padded n ts = ts ++ replicate (places - n) unused

-- the fence in a buffer
abbrev pub fence_in : List ℕ → ℕ
fence_in ws = fence_of (get_or ws 3 0) (get_or ws 4 0)

-- the run at the front of the buffer
unfoldable pub run_in : List ℕ → Run
run_in ws = record {
  rule = get_or ws 0 0;
  cores = get_or ws 1 0;
  fence = fence_in ws;
  withdrawn = get_or ws 5 0;
  count = count_in ws;
  tasks = padded (count_in ws) (places_in (count_in ws) (drop head_words ws));
}

-- the run that a buffer holds, or none
pub data BufferRun : Type 0 where
  run : Run → BufferRun
  none : BufferRun

-- the run where it holds one
abbrev pub decode : List ℕ → BufferRun
decode ws = cond (holds_run ws) (run (run_in ws)) none

-- .. as code reads it
abbrev pub run_read : BufferRun → Option Run
run_read (run r) = Some r
run_read none = None

-- a run with its places past the count cleared: zeros and Resting(0), as start leaves them
abbrev pub cleared : Run → Run
cleared r = record {
  rule = r.rule;
  cores = r.cores;
  fence = r.fence;
  withdrawn = r.withdrawn;
  count = r.count;
  tasks = padded r.count (take r.count r.tasks);
}

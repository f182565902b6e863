-- A supplied plan in a lent buffer (request 112): the words of its run, its tick, and four words for each of the 32 notes.
use Rattle.std.specs.Prelude.{Option, Some, None, Bool, true, ◌&&◌, cond, List, [], ◌∷◌, ◌++◌, ℕ, zero, suc, ◌+◌, ◌*◌, length, get_or, take, drop, leb}
use Rattle.phase.specs.declared.Phase.{Phase}
use Rattle.phase.specs.declared.Phase.TheVariants.{Resting}
use Rattle.plan_check.specs.declared.Note.{Note}
use Rattle.plan_check.specs.declared.SuppliedPlan.{SuppliedPlan}
use Rattle.plan_check.specs.State.{note}
use Rattle.buffers.specs.declared.run_buffer.PhaseWords.{PhaseWords}
use Rattle.buffers.specs.Encoding.{places, run_words, of_phase, encode, overwritten, phase_of, is_phase, holds_run, run_in, cleared}

-- THE SIZES

-- the index of the tick: right after the run
abbrev pub tick_at : ℕ
tick_at = run_words

-- the index of the first note
abbrev pub notes_at : ℕ
notes_at = tick_at + 1

-- the words of a note
abbrev pub note_size : ℕ
note_size = 4

-- the index of note n
abbrev pub note_at : ℕ → ℕ
note_at n = notes_at + note_size * n

-- the words of a plan
abbrev pub plan_words : ℕ
plan_words = note_at places

-- THE ENCODING

-- the four words of a phase
abbrev pub four_words : PhaseWords → List ℕ
four_words ph = ph.kind ∷ (ph.first ∷ (ph.second ∷ (ph.third ∷ [])))

-- a note: the kind of its phase and three numbers, as a place has them
abbrev pub note_words : Note → List ℕ
note_words n = four_words (of_phase n.phase)

-- notes, one after the other
unfoldable pub notes_words : List Note → List ℕ
notes_words [] = []
notes_words (n ∷ ns) = note_words n ++ notes_words ns

-- a plan in words: the run with all its places, the tick, and all notes
unfoldable pub encode_plan : SuppliedPlan → List ℕ
encode_plan w = encode w.run ++ (w.tick ∷ notes_words w.noted)

-- a buffer after these words are written into it from word n on: the words before and after them stay
abbrev pub put_at : ℕ → List ℕ → List ℕ → List ℕ
put_at n vs ws = (take n ws ++ vs) ++ drop (n + length vs) ws

-- a buffer after the head and the first n places of a plan's run, and its tick, are written into it ..
abbrev pub moved_in : ℕ → SuppliedPlan → List ℕ → List ℕ
moved_in n w ws = put_at tick_at (w.tick ∷ []) (overwritten n w.run ws)

-- .. and its first n notes, where they are to be written too
unfoldable pub plan_over : Bool → ℕ → SuppliedPlan → List ℕ → List ℕ
plan_over noting n w ws = cond noting (put_at notes_at (notes_words (take n w.noted)) (moved_in n w ws)) (moved_in n w ws)

-- THE DECODING

-- the phase of four words; Resting(0), which no run has, where they are no phase
abbrev pub phase_noted : ℕ → ℕ → ℕ → ℕ → Phase
phase_noted k a b c = cond (is_phase k b c) (phase_of k a b c) (Resting 0)

-- the note whose words are in front
abbrev pub note_in : List ℕ → Note
note_in ws = note (phase_noted (get_or ws 0 0) (get_or ws 1 0) (get_or ws 2 0) (get_or ws 3 0))

-- they are a note: they have a phase
abbrev pub is_note : List ℕ → Bool
is_note ws = is_phase (get_or ws 0 0) (get_or ws 2 0) (get_or ws 3 0)

-- the first n notes
unfoldable pub notes_in : ℕ → List ℕ → List Note
notes_in zero ws = []
notes_in (suc n) ws = note_in ws ∷ notes_in n (drop note_size ws)

-- each of them is one
unfoldable pub are_notes : ℕ → List ℕ → Bool
are_notes zero ws = true
are_notes (suc n) ws = is_note ws && are_notes n (drop note_size ws)

-- a buffer holds a plan: it has the words of one, and those in front are a run; any words are a tick, and any are notes
unfoldable pub holds_plan : List ℕ → Bool
holds_plan ws = leb plan_words (length ws) && holds_run ws

-- the plan at the front of the buffer
unfoldable pub plan_in : List ℕ → SuppliedPlan
plan_in ws = record { run = run_in ws; tick = get_or ws tick_at 0; noted = notes_in places (drop notes_at ws) }

-- the plan that a buffer holds, or none
pub data BufferPlan : Type 0 where
  plan : SuppliedPlan → BufferPlan
  none : BufferPlan

-- the plan where it holds one
abbrev pub decode_plan : List ℕ → BufferPlan
decode_plan ws = cond (holds_plan ws) (plan (plan_in ws)) none

-- .. as code reads it
abbrev pub plan_read : BufferPlan → Option SuppliedPlan
plan_read (plan w) = Some w
plan_read none = None

-- a plan with the places of its run past the count cleared
abbrev pub cleared_plan : SuppliedPlan → SuppliedPlan
cleared_plan w = record { run = cleared w.run; tick = w.tick; noted = w.noted }

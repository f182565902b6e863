-- Encoding and decoding are inverse to each other: what is encoded is decoded with its places past the count cleared,
-- and to encode again what a buffer holds changes none of its words.
use mathlib.Core.Path.{◌≡◌, refl, sym, ap, subst, ◌∙◌}
use mathlib.Core.Bool.{Bool, true, false, ◌&&◌, cond}
use mathlib.Core.List.{List, [], ◌∷◌, ◌++◌, append-nil}
use mathlib.Core.Logic.{inl}
use Prim.Native.Nat.{ℕ, zero, suc, ◌+◌, ◌*◌, ◌-◌, ◌≤◌}
use native.Mathlib.Nat.{not-suc-le-zero, le_of_suc-le-suc}
use native.Mathlib.Omega.{arith}
use lib.ListN.{length, get_or, take, drop, replicate, length-append, length-drop}
use lib.Seq.{drop-cons, drop-drop, length-take-le, take-take, take_at}
use lib.Dec.{leb, eqb}
use borrow.Author.Tests.{le-leb, leb-true, leb-false, eqb-true}
use Rattle.model.proofs.Bools.{and_left, and_right, and_both}
use Rattle.phase.specs.declared.Phase.{Phase}
use Rattle.phase.specs.declared.Phase.TheVariants.{Coming, Working, Holding, Resting}
use Rattle.phase.specs.declared.Task.{Task}
use Rattle.phase.specs.Task.{unused}
use Rattle.run.specs.declared.Run.{Run}
use Rattle.model.specs.Sizes.{most_word}
use Rattle.run.specs.Numbers.{RunOut}
use Rattle.table.specs.Words.{fence_of}
use Rattle.buffers.specs.Encoding.{head_words, each_words, parity_at, kind_at, first_number_at, second_number_at, third_number_at, places, words_to, run_words, phase_words}
use Rattle.buffers.specs.Encoding.{of_phase, parity_word, place_with, place_words, places_words, count_word, low_word, high_word, fence_in, encode_to, encode, overwritten}
use Rattle.buffers.specs.Encoding.{phase_of, is_phase, even_of, is_parity, place_in}
use Rattle.buffers.specs.Encoding.{is_place, places_in, are_places, count_in, holds_run, padded, run_in, run, none, decode, cleared}
use Rattle.buffers.proofs.Places.{length-words, length-read, by-held, held-long, held-few, held-places}

-- WHAT IS ENCODED IS DECODED

phase-is : (ph : Phase) → is_phase (of_phase ph).kind (of_phase ph).second (of_phase ph).third ≡ true
phase-is (Coming left) = refl
phase-is (Working z had reserved) = refl
phase-is (Holding z reserved) = refl
phase-is (Resting z) = refl

phase-back : (ph : Phase) → phase_of (of_phase ph).kind (of_phase ph).first (of_phase ph).second (of_phase ph).third ≡ ph
phase-back (Coming left) = refl
phase-back (Working z had reserved) = refl
phase-back (Holding z reserved) = refl
phase-back (Resting z) = refl

parity-is : (e : Bool) → is_parity (parity_word e) ≡ true
parity-is true = refl
parity-is false = refl

parity-back : (e : Bool) → even_of (parity_word e) ≡ e
parity-back true = refl
parity-back false = refl

pub places-are : (n : ℕ) (ts : List Task) (behind : List ℕ) → n ≤ length ts → are_places n (places_words ts ++ behind) ≡ true
unfolding are_places places_words
places-are zero ts behind h = refl
places-are (suc n) [] behind h = absurd (not-suc-le-zero h)
places-are (suc n) (t ∷ ts) behind h =
    and_both _ (are_places n (places_words ts ++ behind))
    (and_both (is_parity (parity_word t.even)) _ (parity-is t.even) (phase-is t.phase))
    (places-are n ts behind (le_of_suc-le-suc h))

with_task_state : Task → Bool → Phase → Task
with_task_state t e ph = record {
  parameters = t.parameters;
  even = e;
  phase = ph;
}

pub places-back : (n : ℕ) (ts : List Task) (behind : List ℕ) → n ≤ length ts → places_in n (places_words ts ++ behind) ≡ take n ts
unfolding places_in places_words with_task_state
places-back zero ts behind h = refl
places-back (suc n) [] behind h = absurd (not-suc-le-zero h)
places-back (suc n) (t ∷ ts) behind h =
    λ i. with_task_state t (parity-back t.even i) (phase-back t.phase i) ∷ places-back n ts behind (le_of_suc-le-suc h) i

-- the two words of a fence
fence-back : (f : ℕ) → fence_of (low_word f) (high_word f) ≡ f
fence-back f = omega arith

-- the number of words of the head and n places
pub length_to : (n : ℕ) (r : Run) → n ≤ length r.tasks → length (encode_to n r) ≡ words_to n
unfolding encode_to
length_to n r h = let a = length-words (take n r.tasks) in let b = length-take-le n r.tasks h in omega arith

-- a run whose places below the count are written comes back cleared, whatever is after them in a buffer that is long enough
module _ (n : ℕ) (r : Run) (behind : List ℕ) (all : length r.tasks ≡ places) (few : r.count ≤ n) (most : n ≤ places) (long : run_words ≤ length (encode_to n r ++ behind)) where
  abbrev answer_written : List ℕ
  answer_written = places_words (take n r.tasks) ++ behind

  within : r.count ≤ length (take n r.tasks)
  within = let l = length-take-le n r.tasks (omega arith) in omega arith

  count-back : count_word r.count ≡ r.count
  count-back = ap (λ (t : Bool). cond t r.count 33) (le-leb r.count places (omega arith))

  holds-encoded : holds_run (encode_to n r ++ behind) ≡ true
  unfolding holds_run encode_to
  holds-encoded =
      and_both (leb run_words (length (encode_to n r ++ behind))) _
      (le-leb run_words (length (encode_to n r ++ behind)) long)
      (subst (λ (k : ℕ). leb k places && are_places k answer_written ≡ true) (sym count-back)
      (and_both (leb r.count places) _ (le-leb r.count places (omega arith)) (places-are r.count (take n r.tasks) behind within)))

  run-back : run_in (encode_to n r ++ behind) ≡ cleared r
  unfolding run_in encode_to
  run-back =
      (λ i. record {
        rule = r.rule;
        cores = r.cores;
        fence = fence-back r.fence i;
        withdrawn = r.withdrawn;
        count = count-back i;
        tasks = padded (count-back i) (places_in (count-back i) answer_written);
      })
      ∙ ap (λ (ts : List Task). record { rule = r.rule; cores = r.cores; fence = r.fence; withdrawn = r.withdrawn; count = r.count; tasks = padded r.count ts })
      (places-back r.count (take n r.tasks) behind within ∙ take-take r.count n r.tasks few)

  pub decode-to : decode (encode_to n r ++ behind) ≡ run (cleared r)
  decode-to = by-held (encode_to n r ++ behind) holds-encoded ∙ ap run run-back

-- so does the run of 32 places and a count of at most 32 from its encoding
pub decode-encode : (r : Run) → length r.tasks ≡ places → r.count ≤ places → (behind : List ℕ) → decode (encode r ++ behind) ≡ run (cleared r)
decode-encode r all few behind =
    let l = length_to places r (omega arith) in
    let a = length-append (encode r) behind in
    decode-to places r behind all few (omega arith) (omega arith)

-- a run that 14 accepts has a count of at most 32 ..
pub few-accepted : (r : Run) → (¬ RunOut r) → r.count ≤ places
few-accepted r fine = go (leb r.count places) refl
  where
    go : (t : Bool) → leb r.count places ≡ t → r.count ≤ places
    go true e = leb-true r.count places e
    go false e = absurd (fine (inl (λ f. let h = leb-false r.count places e in let l = f.1 in omega arith)))

-- .. so every run that 14 accepts comes back cleared; it gets equal rows and answers (`cleared-unread`)
pub decode-accepted : (r : Run) → length r.tasks ≡ places → (¬ RunOut r) → decode (encode r) ≡ run (cleared r)
decode-accepted r all fine =
    ap decode (sym (append-nil (encode r))) ∙ decode-encode r all (few-accepted r fine) []

-- WHAT IS DECODED IS ENCODED

-- a kind and its numbers that a phase has are the phase's own
no_number : (k a b c : ℕ) → eqb c 0 && eqb b 0 ≡ true → phase_words k a 0 0 ≡ phase_words k a b c
no_number k a b c e =
    λ i. phase_words k a (sym (eqb-true b 0 (and_right (eqb c 0) (eqb b 0) e)) i) (sym (eqb-true c 0 (and_left (eqb c 0) (eqb b 0) e)) i)

pub phase-encode : (k a b c : ℕ) → is_phase k b c ≡ true → of_phase (phase_of k a b c) ≡ phase_words k a b c
phase-encode zero a b c e = no_number 0 a b c e
phase-encode (suc zero) a b c e = refl
phase-encode (suc (suc zero)) a b c e = ap (λ (n : ℕ). phase_words 2 a b n) (sym (eqb-true c 0 (and_left (eqb c 0) true e)))
phase-encode (suc (suc (suc zero))) a b c e = no_number 3 a b c e
phase-encode (suc (suc (suc (suc k)))) a b c e =
    let l = leb-true (suc (suc (suc (suc k)))) 3 (and_left (leb (suc (suc (suc (suc k)))) 3) _ e) in
    absurd (omega arith)

-- and so is a parity's word
parity-encode : (n : ℕ) → is_parity n ≡ true → parity_word (even_of n) ≡ n
parity-encode zero e = refl
parity-encode (suc zero) e = refl
parity-encode (suc (suc n)) e = let l = leb-true (suc (suc n)) 1 e in absurd (omega arith)

-- the words of a place in front, one by one
front :
    (ws : List ℕ) → each_words ≤ length ws
    → place_with (place_in ws) (get_or ws parity_at 0) (phase_words (get_or ws kind_at 0) (get_or ws first_number_at 0) (get_or ws second_number_at 0) (get_or ws third_number_at 0)) ++ drop each_words ws
    ≡ ws
front ws h =
    sym
    (drop-cons ws 0 0 (omega arith)
    ∙ ap (λ (l : List ℕ). get_or ws 0 0 ∷ l) (drop-cons ws 1 0 (omega arith)
    ∙ ap (λ (l : List ℕ). get_or ws 1 0 ∷ l) (drop-cons ws 2 0 (omega arith)
    ∙ ap (λ (l : List ℕ). get_or ws 2 0 ∷ l) (drop-cons ws 3 0 (omega arith)
    ∙ ap (λ (l : List ℕ). get_or ws 3 0 ∷ l) (drop-cons ws 4 0 (omega arith)
    ∙ ap (λ (l : List ℕ). get_or ws 4 0 ∷ l) (drop-cons ws 5 0 (omega arith)
    ∙ ap (λ (l : List ℕ). get_or ws 5 0 ∷ l) (drop-cons ws 6 0 (omega arith)
    ∙ ap (λ (l : List ℕ). get_or ws 6 0 ∷ l) (drop-cons ws 7 0 (omega arith)
    ∙ ap (λ (l : List ℕ). get_or ws 7 0 ∷ l) (drop-cons ws 8 0 (omega arith)
    ∙ ap (λ (l : List ℕ). get_or ws 8 0 ∷ l) (drop-cons ws 9 0 (omega arith)
    ∙ ap (λ (l : List ℕ). get_or ws 9 0 ∷ l) (drop-cons ws 10 0 (omega arith))))))))))))

place-encode : (ws : List ℕ) → each_words ≤ length ws → is_place ws ≡ true → place_words (place_in ws) ++ drop each_words ws ≡ ws
place-encode ws h e =
    let n = get_or ws parity_at 0 in
    let k = get_or ws kind_at 0 in
    let a = get_or ws first_number_at 0 in
    let b = get_or ws second_number_at 0 in
    let c = get_or ws third_number_at 0 in
    (λ i. place_with (place_in ws) (parity-encode n (and_left (is_parity n) (is_phase k b c) e) i) (phase-encode k a b c (and_right (is_parity n) (is_phase k b c) e) i)
    ++ drop each_words ws)
    ∙ front ws h

pub places-encode : (n : ℕ) (ws : List ℕ) → each_words * n ≤ length ws → are_places n ws ≡ true → places_words (places_in n ws) ++ drop (each_words * n) ws ≡ ws
unfolding are_places places_in places_words
places-encode zero ws h e = refl
places-encode (suc n) ws h e =
    let d = length-drop each_words ws in
    let k : each_words * suc n ≡ each_words + each_words * n = omega arith in
    let rest = places-encode n (drop each_words ws) (omega arith) (and_right (is_place ws) (are_places n (drop each_words ws)) e) in
    ap (λ (m : ℕ). places_words (places_in (suc n) ws) ++ drop m ws) k
    ∙ (ap (λ (l : List ℕ). places_words (places_in (suc n) ws) ++ l) (sym (drop-drop (each_words * n) each_words ws))
    ∙ (ap (λ (l : List ℕ). place_words (place_in ws) ++ l) rest
    ∙ place-encode ws (omega arith) (and_left (is_place ws) (are_places n (drop each_words ws)) e)))

words_back : (ws : List ℕ) → get_or ws 3 0 ≤ most_word → holds_run ws ≡ true → overwritten (run_in ws).count (run_in ws) ws ≡ ws
unfolding encode_to run_in
words_back ws narrow e =
    let n = count_in ws in
    let read = places_in n (drop head_words ws) in
    let len = held-long ws e in
    let few = held-few ws e in
    let d = length-drop head_words ws in
    let counted : count_word n ≡ n = ap (λ (t : Bool). cond t n 33) (le-leb n places few) in
    let used : take n (padded n read) ≡ read = take_at read (replicate (places - n) unused) n (length-read n (drop head_words ws)) in
    let low : low_word (fence_in ws) ≡ get_or ws 3 0 = omega (arith, narrow) in
    let high : high_word (fence_in ws) ≡ get_or ws 4 0 = omega (arith, narrow) in
    (λ i. get_or ws 0 0 ∷ (get_or ws 1 0 ∷ (counted i ∷ (low i ∷ (high i ∷ (get_or ws 5 0 ∷ (places_words (used i) ++ drop (words_to n) ws)))))))
    ∙ (ap (λ (l : List ℕ). head_of (places_words read ++ l)) (sym (drop-drop (each_words * n) head_words ws))
    ∙ (ap head_of (places-encode n (drop head_words ws) (omega arith) (held-places ws e))
    ∙ sym
    (drop-cons ws 0 0 (omega arith)
    ∙ ap (λ (l : List ℕ). get_or ws 0 0 ∷ l) (drop-cons ws 1 0 (omega arith)
    ∙ ap (λ (l : List ℕ). get_or ws 1 0 ∷ l) (drop-cons ws 2 0 (omega arith)
    ∙ ap (λ (l : List ℕ). get_or ws 2 0 ∷ l) (drop-cons ws 3 0 (omega arith)
    ∙ ap (λ (l : List ℕ). get_or ws 3 0 ∷ l) (drop-cons ws 4 0 (omega arith)
    ∙ ap (λ (l : List ℕ). get_or ws 4 0 ∷ l) (drop-cons ws 5 0 (omega arith)))))))))
  where
    -- the words of the head, and what is after them
    head_of : List ℕ → List ℕ
    head_of l = get_or ws 0 0 ∷ (get_or ws 1 0 ∷ (count_in ws ∷ (get_or ws 3 0 ∷ (get_or ws 4 0 ∷ (get_or ws 5 0 ∷ l)))))

-- a buffer that is decoded to a run holds it
pub held-run : (ws : List ℕ) (r : Run) → decode ws ≡ run r → (holds_run ws ≡ true) × (run_in ws ≡ r)
held-run ws r e = go (holds_run ws) refl
  where
    go : (t : Bool) → holds_run ws ≡ t → (holds_run ws ≡ true) × (run_in ws ≡ r)
    go true h =
        let same : run (run_in ws) ≡ run r = sym (by-held ws h) ∙ e in
        (h, cc)
    go false h =
        let same : none ≡ run r = sym (by-held ws h) ∙ e in
        absurd (let z : ◌≡◌ {A = ℕ} 0 1 = cc in omega arith)

-- to encode it again changes no word, where the fence's low number is a word, as it is in every lent buffer
pub encode-decode : (ws : List ℕ) → get_or ws 3 0 ≤ most_word → (r : Run) → decode ws ≡ run r → overwritten r.count r ws ≡ ws
encode-decode ws narrow r e =
    let h = held-run ws r e in
    ap (λ (q : Run). overwritten q.count q ws) (sym h.1) ∙ words_back ws narrow h.0

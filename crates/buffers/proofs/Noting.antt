-- Words put into a buffer, and the words of notes: one note more, written or read; what is written is read again.
use mathlib.Core.Path.{◌≡◌, refl, sym, ap, ◌∙◌}
use mathlib.Core.Bool.{true}
use mathlib.Core.List.{List, [], ◌∷◌, ◌++◌, append_assoc, append-nil}
use Prim.Native.Nat.{ℕ, zero, suc, ◌+◌, ◌*◌, ◌≤◌, ◌<◌}
use native.Mathlib.Nat.{not-suc-le-zero, le_of_suc-le-suc}
use native.Mathlib.Omega.{arith}
use lib.ListN.{length, get_or, take, drop, set, length-append, length-drop, take-append-drop}
use lib.Seq.{sets-eq, drop-cons, drop-drop, drop_at, get_or_at, length-take-le, take_at, take-take}
use Rattle.model.proofs.Bools.{and_left, and_right}
use Rattle.phase.specs.declared.Phase.{Phase}
use Rattle.phase.specs.declared.Phase.TheVariants.{Coming, Working, Holding, Resting}
use Rattle.run.proofs.Written.{take_more}
use Rattle.plan_check.specs.declared.Note.{Note}
use Rattle.plan_check.specs.State.{note, past_note}
use Rattle.buffers.specs.declared.run_buffer.PhaseWords.{PhaseWords}
use Rattle.buffers.specs.Encoding.{phase_words, of_phase, phase_of}
use Rattle.buffers.specs.Supplied.{notes_at, note_size, note_at, four_words, note_words, notes_words, put_at, phase_noted, note_in, notes_in, is_note, are_notes}
use Rattle.buffers.proofs.Inverse.{phase-encode}

-- WORDS PUT INTO A BUFFER

module _ (n : ℕ) (vs ws : List ℕ) where
  split : n ≤ length ws → put_at n vs ws ≡ take n ws ++ (vs ++ drop (n + length vs) ws)
  split h = append_assoc (take n ws) vs (drop (n + length vs) ws)

  length_front : n ≤ length ws → length (take n ws ++ vs) ≡ n + length vs
  length_front h = length-append (take n ws) vs ∙ ap (λ (k : ℕ). k + length vs) (length-take-le n ws h)

  pub length-put : n + length vs ≤ length ws → length (put_at n vs ws) ≡ length ws
  length-put h =
      let a = length-append (take n ws ++ vs) (drop (n + length vs) ws) in
      let b = length_front (omega arith) in
      let d = length-drop (n + length vs) ws in
      omega arith

  -- what is before them stays ..
  pub take_put : (k : ℕ) → k ≤ n → n ≤ length ws → take k (put_at n vs ws) ≡ take k ws
  take_put k l h =
      sym (take-take k n (put_at n vs ws) l)
      ∙ (ap (take k) (ap (take n) (split h) ∙ take_at (take n ws) (vs ++ drop (n + length vs) ws) n (length-take-le n ws h))
      ∙ take-take k n ws l)

  -- .. and what is after them
  pub drop-put : n ≤ length ws → drop (n + length vs) (put_at n vs ws) ≡ drop (n + length vs) ws
  drop-put h = drop_at (take n ws ++ vs) (drop (n + length vs) ws) (n + length vs) (length_front h)

  pub from-put : n ≤ length ws → drop n (put_at n vs ws) ≡ vs ++ drop (n + length vs) ws
  from-put h = ap (drop n) (split h) ∙ drop_at (take n ws) (vs ++ drop (n + length vs) ws) n (length-take-le n ws h)

  -- more words, put right after them
  pub put_next : (ys : List ℕ) (m : ℕ) → m ≡ n + length vs → n + length vs ≤ length ws → put_at m ys (put_at n vs ws) ≡ put_at n (vs ++ ys) ws
  put_next ys m e h =
      let front = take n ws ++ vs in
      let rest = drop (n + length vs) ws in
      let first : take (n + length vs) (put_at n vs ws) ≡ front = take_at front rest (n + length vs) (length_front (omega arith)) in
      let after : drop ((n + length vs) + length ys) (put_at n vs ws) ≡ drop ((n + length vs) + length ys) ws =
      sym (drop-drop (length ys) (n + length vs) (put_at n vs ws))
      ∙ (ap (drop (length ys)) (drop-put (omega arith)) ∙ drop-drop (length ys) (n + length vs) ws) in
      let many = length-append vs ys in
      let at : (n + length vs) + length ys ≡ n + length (vs ++ ys) = omega arith in
      ap (λ (k : ℕ). put_at k ys (put_at n vs ws)) e
      ∙ ((λ i. (first i ++ ys) ++ after i)
      ∙ ((λ i. append_assoc (take n ws) vs ys i ++ drop (at i) ws)))

-- a word put
pub word-put : (ws : List ℕ) (n x : ℕ) → n < length ws → set ws n x ≡ put_at n (x ∷ []) ws
word-put ws n x h = sets-eq (x ∷ []) ws n (omega arith)

pub word_read : (ws : List ℕ) (n x : ℕ) → n < length ws → get_or (put_at n (x ∷ []) ws) n 0 ≡ x
word_read ws n x h =
    ap (λ (l : List ℕ). get_or l n 0) (split n (x ∷ []) ws (omega arith)) ∙ get_or_at (take n ws) x (drop (n + 1) ws) 0 n (length-take-le n ws (omega arith))

-- to put again what is there changes nothing
pub put_same : (ws vs : List ℕ) (n : ℕ) → vs ++ drop (n + length vs) ws ≡ drop n ws → n ≤ length ws → put_at n vs ws ≡ ws
put_same ws vs n e h = split n vs ws h ∙ (ap (λ (l : List ℕ). take n ws ++ l) e ∙ take-append-drop n ws)

-- the four stores of a note
pub note-put :
    (ws : List ℕ) (at a b c d : ℕ) → at + note_size ≤ length ws
    → set (set (set (set ws at a) (at + 1) b) (at + 2) c) (at + 3) d ≡ put_at at (a ∷ (b ∷ (c ∷ (d ∷ [])))) ws
note-put ws at a b c d h =
    let one : at + 1 ≡ suc at = omega arith in
    let two : at + 2 ≡ suc (suc at) = omega arith in
    let three : at + 3 ≡ suc (suc (suc at)) = omega arith in
    (λ i. set (set (set (set ws at a) (one i) b) (two i) c) (three i) d)
    ∙ sets-eq (a ∷ (b ∷ (c ∷ (d ∷ [])))) ws at h

-- NOTES, WRITTEN

notes-more : (ns : List Note) (n : Note) → notes_words (ns ++ (n ∷ [])) ≡ notes_words ns ++ note_words n
unfolding notes_words
notes-more [] n = refl
notes-more (m ∷ ns) n = ap (λ (l : List ℕ). note_words m ++ l) (notes-more ns n)

pub length-notes : (ns : List Note) → length (notes_words ns) ≡ note_size * length ns
unfolding notes_words
length-notes [] = refl
length-notes (n ∷ ns) = let e = length-notes ns in omega arith

-- none
pub no-notes : (ns : List Note) (ws : List ℕ) → notes_at ≤ length ws → ws ≡ put_at notes_at (notes_words (take 0 ns)) ws
unfolding notes_words
no-notes ns ws h =
    sym (ap (λ (l : List ℕ). l ++ drop notes_at ws) (append-nil (take notes_at ws)) ∙ take-append-drop notes_at ws)

-- one more
pub one-note :
    (ns : List Note) (i : ℕ) (ws vs : List ℕ) → i < length ns → note_at (i + 1) ≤ length ws → vs ≡ put_at notes_at (notes_words (take i ns)) ws
    → put_at (note_at i) (note_words (get_or ns i past_note)) vs ≡ put_at notes_at (notes_words (take (i + 1) ns)) ws
one-note ns i ws vs l h e =
    let a = length-notes (take i ns) in
    let b = length-take-le i ns (omega arith) in
    let at : note_at i ≡ notes_at + length (notes_words (take i ns)) = omega (arith, a, b) in
    let more : notes_words (take (i + 1) ns) ≡ notes_words (take i ns) ++ note_words (get_or ns i past_note) =
    ap notes_words (take_more ns i past_note l) ∙ notes-more (take i ns) (get_or ns i past_note) in
    ap (put_at (note_at i) (note_words (get_or ns i past_note))) e
    ∙ (put_next notes_at (notes_words (take i ns)) ws (note_words (get_or ns i past_note)) (note_at i) at (omega (arith, a, b, h))
    ∙ ap (λ (l : List ℕ). put_at notes_at l ws) (sym more))

-- .. as it is written
pub next-note :
    (ns : List Note) (i : ℕ) (ws vs : List ℕ) {us : List ℕ} → i < length ns → note_at (i + 1) ≤ length ws
    → vs ≡ put_at notes_at (notes_words (take i ns)) ws → us ≡ put_at (note_at i) (note_words (get_or ns i past_note)) vs
    → us ≡ put_at notes_at (notes_words (take (i + 1) ns)) ws
next-note ns i ws vs l h e q = q ∙ one-note ns i ws vs l h e

-- NOTES, READ

pub read-note : (n : ℕ) (ws : List ℕ) → notes_in (suc n) ws ≡ notes_in n ws ++ (note_in (drop (note_size * n) ws) ∷ [])
unfolding notes_in
read-note zero ws = refl
read-note (suc n) ws =
    let e : note_size + note_size * n ≡ note_size * suc n = omega arith in
    ap (λ (l : List Note). note_in ws ∷ l) (read-note n (drop note_size ws)
    ∙ ap (λ (l : List ℕ). notes_in n (drop note_size ws) ++ (note_in l ∷ [])) (drop-drop (note_size * n) note_size ws ∙ ap (λ (k : ℕ). drop k ws) e))

pub length-noted : (n : ℕ) (ws : List ℕ) → length (notes_in n ws) ≡ n
unfolding notes_in
length-noted zero ws = refl
length-noted (suc n) ws = ap suc (length-noted n (drop note_size ws))

-- the first of them
pub take-noted : (n k : ℕ) (ws : List ℕ) → n ≤ k → take n (notes_in k ws) ≡ notes_in n ws
unfolding notes_in
take-noted zero k ws h = refl
take-noted (suc n) zero ws h = absurd (not-suc-le-zero h)
take-noted (suc n) (suc k) ws h = ap (λ (l : List Note). note_in ws ∷ l) (take-noted n k (drop note_size ws) (le_of_suc-le-suc h))

-- WHAT IS WRITTEN IS READ AGAIN

phase-noted : (ph : Phase) → phase_noted (of_phase ph).kind (of_phase ph).first (of_phase ph).second (of_phase ph).third ≡ ph
phase-noted (Coming left) = refl
phase-noted (Working z had reserved) = refl
phase-noted (Holding z reserved) = refl
phase-noted (Resting z) = refl

pub notes-back : (k : ℕ) (ns : List Note) (ws : List ℕ) → k ≤ length ns → notes_in k (notes_words ns ++ ws) ≡ take k ns
unfolding notes_in notes_words
notes-back zero ns ws h = refl
notes-back (suc k) [] ws h = absurd (not-suc-le-zero h)
notes-back (suc k) (n ∷ ns) ws h = λ i. note (phase-noted n.phase i) ∷ notes-back k ns ws (le_of_suc-le-suc h) i

-- notes written over the first ones: those after them are read as before
pub notes-over :
    (k : ℕ) (ns : List Note) (ws : List ℕ) → length ns ≤ k
    → notes_in k (notes_words ns ++ drop (note_size * length ns) ws) ≡ ns ++ drop (length ns) (notes_in k ws)
unfolding notes_in notes_words
notes-over k [] ws h = refl
notes-over zero (n ∷ ns) ws h = absurd (not-suc-le-zero h)
notes-over (suc k) (n ∷ ns) ws h =
    let e : note_size * suc (length ns) ≡ note_size + note_size * length ns = omega arith in
    ap (λ (l : List Note). note (phase_noted (of_phase n.phase).kind (of_phase n.phase).first (of_phase n.phase).second (of_phase n.phase).third) ∷ l)
    (ap (λ (m : ℕ). notes_in k (notes_words ns ++ drop m ws)) e
    ∙ (ap (λ (l : List ℕ). notes_in k (notes_words ns ++ l)) (sym (drop-drop (note_size * length ns) note_size ws))
    ∙ notes-over k ns (drop note_size ws) (le_of_suc-le-suc h)))
    ∙ ap (λ (ph : Phase). note ph ∷ (ns ++ drop (length ns) (notes_in k (drop note_size ws)))) (phase-noted n.phase)

-- WHAT IS READ IS WRITTEN AGAIN

note-front : (ws : List ℕ) → note_size ≤ length ws → four_words (phase_words (get_or ws 0 0) (get_or ws 1 0) (get_or ws 2 0) (get_or ws 3 0)) ++ drop note_size ws ≡ ws
note-front ws h =
    sym
    (drop-cons ws 0 0 (omega arith)
    ∙ ap (λ (l : List ℕ). get_or ws 0 0 ∷ l) (drop-cons ws 1 0 (omega arith)
    ∙ ap (λ (l : List ℕ). get_or ws 1 0 ∷ l) (drop-cons ws 2 0 (omega arith)
    ∙ ap (λ (l : List ℕ). get_or ws 2 0 ∷ l) (drop-cons ws 3 0 (omega arith)))))

note-encode : (ws : List ℕ) → note_size ≤ length ws → is_note ws ≡ true → note_words (note_in ws) ++ drop note_size ws ≡ ws
note-encode ws h e =
    let k = get_or ws 0 0 in
    let a = get_or ws 1 0 in
    let b = get_or ws 2 0 in
    let c = get_or ws 3 0 in
    let same : phase_noted k a b c ≡ phase_of k a b c = rw e refl in
    (λ i. four_words ((ap of_phase same ∙ phase-encode k a b c e) i) ++ drop note_size ws)
    ∙ note-front ws h

-- notes that are phases are the encoding of what is read of them
pub notes-encode : (n : ℕ) (ws : List ℕ) → note_size * n ≤ length ws → are_notes n ws ≡ true → notes_words (notes_in n ws) ++ drop (note_size * n) ws ≡ ws
unfolding are_notes notes_in notes_words
notes-encode zero ws h e = refl
notes-encode (suc n) ws h e =
    let d = length-drop note_size ws in
    let k : note_size * suc n ≡ note_size + note_size * n = omega arith in
    let rest = notes-encode n (drop note_size ws) (omega arith) (and_right (is_note ws) (are_notes n (drop note_size ws)) e) in
    ap (λ (m : ℕ). notes_words (notes_in (suc n) ws) ++ drop m ws) k
    ∙ (ap (λ (l : List ℕ). notes_words (notes_in (suc n) ws) ++ l) (sym (drop-drop (note_size * n) note_size ws))
    ∙ (ap (λ (l : List ℕ). note_words (note_in ws) ++ l) rest
    ∙ note-encode ws (omega arith) (and_left (is_note ws) (are_notes n (drop note_size ws)) e)))

-- What is read of a buffer, or none.
use mathlib.Core.Path.{◌≡◌, refl, sym, ap, ◌∙◌}
use mathlib.Core.Bool.{Bool, true, false, cond}
use mathlib.Core.List.{List, []}
use Prim.Native.Nat.{ℕ, ◌+◌, ◌*◌, ◌-◌, ◌/◌, ◌≤◌, ◌<◌}
use native.Mathlib.Omega.{arith}
use lib.ListN.{length, get_or, take, drop}
use lib.Seq.{get_or-take, drop-drop, length-take-le}
use Rattle.std.proofs.lemmas.List.{take_all, length-drop}
use Rattle.std.proofs.Common.{Option, Some, None}
use Rattle.run.specs.declared.Run.{Run}
use Rattle.buffers.specs.Encoding.{parity_at, kind_at, first_number_at, second_number_at, third_number_at, head_words, each_words, words_to, phase_of, even_of, is_task_state, place_read}
use Rattle.buffers.specs.Supplied.{notes_at, note_size, note_at, plan_words, phase_noted, note_in}
use Rattle.plan_check.specs.State.{note}
use Rattle.refinement.proofs.Listed.{chunk_at}
use Rattle.std.specs.Simd.{first_chunks}
use Rattle.buffers.specs.Encoding.{places, run_words, count_in, holds_run, run_in, BufferRun, run, none, decode, run_read}
use Rattle.buffers.proofs.Places.{by-held, held-long, held-few}

-- what is behind word n, as a slice
pub behind : (ws : List ℕ) (n : ℕ) → take (length ws - n) (drop n ws) ≡ drop n ws
behind ws n = take_all (length ws - n) (drop n ws) (let e = length-drop n ws in omega arith)

-- a place is in the first words of a list
front-place : (xs : List ℕ) → place_read (take each_words xs) ≡ place_read xs
front-place xs =
    let w : (j : ℕ) → j < each_words → get_or (take each_words xs) j 0 ≡ get_or xs j 0 = λ j l. get_or-take each_words xs j 0 l in
    λ i. cond
    (is_task_state (w parity_at (omega arith) i) (w kind_at (omega arith) i) (w second_number_at (omega arith) i) (w third_number_at (omega arith) i))
    (Some (record {
      parameters = record {
        offset = w 0 (omega arith) i;
        width = w 1 (omega arith) i;
        length = w 2 (omega arith) i;
        deadline = w 3 (omega arith) i;
        period = w 4 (omega arith) i;
        second = w 5 (omega arith) i;
      };
      even = even_of (w parity_at (omega arith) i);
      phase = phase_of (w kind_at (omega arith) i) (w first_number_at (omega arith) i) (w second_number_at (omega arith) i) (w third_number_at (omega arith) i);
    }))
    None

-- .. and a note
front-note : (xs : List ℕ) → note_in (take note_size xs) ≡ note_in xs
front-note xs =
    let w : (j : ℕ) → j < note_size → get_or (take note_size xs) j 0 ≡ get_or xs j 0 = λ j l. get_or-take note_size xs j 0 l in
    λ i. note (phase_noted (w 0 (omega arith) i) (w 1 (omega arith) i) (w 2 (omega arith) i) (w 3 (omega arith) i))

-- chunk i of those behind word `at`, of which there are m and more
module _ (ws : List ℕ) (at n m : ℕ) (long : at + n * m ≤ length ws) (cs : List (List ℕ))
    (are : cs ≡ first_chunks n (length (take (length ws - at) (drop at ws)) / n) (take (length ws - at) (drop at ws)))
    (inside : m ≤ length (take (length ws - at) (drop at ws)) / n) where
  chunk-behind : (k i : ℕ) → k ≤ m → i < k → get_or (take k cs) i [] ≡ take n (drop (at + n * i) ws)
  chunk-behind k i few l =
      get_or-take k cs i [] l
      ∙ (ap (λ (ds : List (List ℕ)). get_or ds i []) are
      ∙ (chunk_at n (length (take (length ws - at) (drop at ws)) / n) (take (length ws - at) (drop at ws)) i (omega (arith, few, l, inside))
      ∙ ap (take n) (ap (drop (n * i)) (behind ws at) ∙ drop-drop (n * i) at ws)))

-- the places of a run, and the notes of a plan, in chunks
pub place-chunk :
    (ws : List ℕ) → run_words ≤ length ws → (cs : List (List ℕ))
    → cs ≡ first_chunks each_words (length (take (length ws - head_words) (drop head_words ws)) / each_words) (take (length ws - head_words) (drop head_words ws))
    → (k i : ℕ) → k ≤ places → i < k → place_read (get_or (take k cs) i []) ≡ place_read (drop (words_to i) ws)
place-chunk ws long cs are k i few l =
    let many = ap length (behind ws head_words) ∙ length-drop head_words ws in
    ap place_read (chunk-behind ws head_words each_words places (omega arith) cs are (omega (arith, many)) k i few l) ∙ front-place (drop (words_to i) ws)

pub note-chunk :
    (ws : List ℕ) → plan_words ≤ length ws → (cs : List (List ℕ))
    → cs ≡ first_chunks note_size (length (take (length ws - notes_at) (drop notes_at ws)) / note_size) (take (length ws - notes_at) (drop notes_at ws))
    → (k i : ℕ) → k ≤ places → i < k → note_in (get_or (take k cs) i []) ≡ note_in (drop (note_at i) ws)
note-chunk ws long cs are k i few l =
    let many = ap length (behind ws notes_at) ∙ length-drop notes_at ws in
    ap note_in (chunk-behind ws notes_at note_size places (omega arith) cs are (omega (arith, many)) k i few l) ∙ front-note (drop (note_at i) ws)

-- as many as there are
pub place-room :
    (ws : List ℕ) → run_words ≤ length ws → (cs : List (List ℕ)) → length cs ≡ length (take (length ws - head_words) (drop head_words ws)) / each_words
    → (k : ℕ) → k ≤ places → length (take k cs) ≡ k
place-room ws long cs e k few =
    let many = ap length (behind ws head_words) ∙ length-drop head_words ws in
    length-take-le k cs (omega (arith, many))

pub note-room :
    (ws : List ℕ) → plan_words ≤ length ws → (cs : List (List ℕ)) → length cs ≡ length (take (length ws - notes_at) (drop notes_at ws)) / note_size
    → (k : ℕ) → k ≤ places → length (take k cs) ≡ k
note-room ws long cs e k few =
    let many = ap length (behind ws notes_at) ∙ length-drop notes_at ws in
    length-take-le k cs (omega (arith, many))

-- none is read where the test fails
pub none-read : {T : Type 0} (b : Bool) (x : T) → cond b (Some x) None ≡ None → b ≡ false
none-read true x e = absurd (cc)
none-read false x e = refl

module _ (ws : List ℕ) where
  -- by whether it holds a run
  pub run-none : holds_run ws ≡ false → None ≡ run_read (decode ws)
  run-none e = ap run_read (sym (by-held ws e))

  pub run-some : holds_run ws ≡ true → Some (run_in ws) ≡ run_read (decode ws)
  run-some e = ap run_read (sym (by-held ws e))

  -- a run that is read
  pub run-held : (r : Run) → Some r ≡ run_read (decode ws) → (holds_run ws ≡ true) × (r ≡ run_in ws)
  run-held r e = go (holds_run ws) refl
    where
      go : (t : Bool) → holds_run ws ≡ t → (holds_run ws ≡ true) × (r ≡ run_in ws)
      go true h = (h, let same : Some r ≡ Some (run_in ws) = e ∙ sym (run-some h) in cc)
      go false h = let no : Some r ≡ None = e ∙ sym (run-none h) in absurd (cc)

  pub run-free : None ≡ run_read (decode ws) → holds_run ws ≡ false
  run-free e = go (holds_run ws) refl
    where
      go : (t : Bool) → holds_run ws ≡ t → holds_run ws ≡ false
      go true h = let no : None ≡ Some (run_in ws) = e ∙ sym (run-some h) in absurd (cc)
      go false h = h

  pub run-fits : (r : Run) → Some r ≡ run_read (decode ws) → (r.count ≤ places) × (run_words ≤ length ws)
  unfolding run_in
  run-fits r e =
      let (h, same) = run-held r e in
      let n : r.count ≡ count_in ws = ap (λ (q : Run). q.count) same in
      let few = held-few ws h in
      (omega arith, held-long ws h)

-- Words past the count are neither read nor changed. Not read: places of equal words are equal (`same-places`).
use mathlib.Core.Path.{◌≡◌, refl, sym, ap, ◌∙◌}
use mathlib.Core.Bool.{true}
use mathlib.Core.List.{List, ◌++◌}
use Prim.Native.Nat.{ℕ, ◌*◌, ◌-◌, ◌≤◌, ◌<◌}
use native.Mathlib.Omega.{arith}
use lib.ListN.{length, get_or, take, drop, length-drop, replicate, take-append-drop}
use lib.Seq.{length-take-le, get_or-take, take-add, take_all, take_at, drop_at}
use Rattle.run.specs.Answer.{Answer}
use Rattle.run.specs.Answer.{Taken, Refused}
use Rattle.run.specs.declared.Run.{Run}
use Rattle.run.specs.Answer.{by_answer}
use Rattle.model.specs.Advance.{Entry}
use Rattle.refinement.specs.Entries.{entry_of}
use Rattle.run.specs.UnusedPlaces.{TailUnread}
use Rattle.run.proofs.UnusedPlaces.{past-unread}
use Rattle.phase.specs.Task.{unused}
use Rattle.buffers.specs.Encoding.{head_words, each_words, places, words_to, places_words, encode_to, overwritten, places_in, are_places, count_in, holds_run, padded, run_in, BufferRun, run, none, decode, cleared}
use Rattle.buffers.specs.Runs.{row_from, sets_from, entry_from}
use Rattle.buffers.specs.Runs.{working_from}
use Rattle.buffers.specs.UnusedPlaces.{used_in, SameUsed, WordsUnread}
use Rattle.table.specs.Words.{fence_of}
use Rattle.buffers.proofs.Places.{length-words, length-read, held_by, by-held, held-few, held-places}
use Rattle.buffers.proofs.Inverse.{length_to, held-run, places-are, places-back, places-encode}
use Rattle.buffers.proofs.Keeping.{count_kept}
use Rattle.buffers.proofs.Kept.{StoredRun, held_fits, fits-entered}

-- the buffer's count is that of the run that it holds
held-count : (ws : List ℕ) (r : Run) → decode ws ≡ run r → r.count ≡ count_in ws
unfolding run_in
held-count ws r e = sym (ap (λ (q : Run). q.count) (held-run ws r e).1)

-- words that are places are the encoding of these places, and so are words that are equal to them
pub record SamePlaces (n : ℕ) (ws vs : List ℕ) : Type 0 where
  pub are : are_places n vs ≡ true
  pub read : places_in n vs ≡ places_in n ws

same-places : (n : ℕ) (ws vs : List ℕ) → each_words * n ≤ length ws → are_places n ws ≡ true → take (each_words * n) ws ≡ take (each_words * n) vs → SamePlaces n ws vs
same-places n ws vs h e u =
    let read = places_in n ws in
    let many = length-read n ws in
    let front : take (each_words * n) ws ≡ places_words read =
    ap (take (each_words * n)) (sym (places-encode n ws h e))
    ∙ take_at (places_words read) (drop (each_words * n) ws) (each_words * n) (length-words read ∙ ap (λ (k : ℕ). each_words * k) many) in
    let other : places_words read ++ drop (each_words * n) vs ≡ vs =
    ap (λ (l : List ℕ). l ++ drop (each_words * n) vs) (sym front ∙ u) ∙ take-append-drop (each_words * n) vs in
    record {
      are = ap (are_places n) (sym other) ∙ places-are n read (drop (each_words * n) vs) (omega arith);
      read = ap (places_in n) (sym other) ∙ (places-back n read (drop (each_words * n) vs) (omega arith) ∙ take_all n read (omega arith));
    }

-- a run that is cleared, as it is when it comes back from its encoding, is the run up to its count: it gets equal rows, sets and answers
pub cleared-unread : (r : Run) → length r.tasks ≡ places → r.count ≤ places → (x e : ℕ) → TailUnread r (cleared r) x e
cleared-unread r all few x e =
    let n = r.count in
    past-unread r (cleared r)
    (record {
      rule = refl;
      cores = refl;
      fence = refl;
      withdrawn = refl;
      count = refl;
      tasks = sym (take_at (take n r.tasks) (replicate (places - n) unused) n (length-take-le n r.tasks (omega arith)));
    }) x e

-- NOT READ

module _ (ws vs : List ℕ) (s : SameUsed ws vs) where
  same_count : count_in ws ≡ count_in vs
  same_count =
      sym (get_or-take (used_in ws) ws 2 0 (omega arith))
      ∙ (ap (λ (l : List ℕ). get_or l 2 0) s.used ∙ get_or-take (used_in ws) vs 2 0 (omega arith))

  turned : SameUsed vs ws
  turned = record {
    long = s.other-long;
    other-long = s.long;
    used = ap (λ (n : ℕ). take (words_to n) vs) (sym same_count) ∙ (sym s.used ∙ ap (λ (n : ℕ). take (words_to n) ws) same_count);
  }

  -- a word of the head
  same_word : (i : ℕ) → i < head_words → get_or ws i 0 ≡ get_or vs i 0
  same_word i l =
      sym (get_or-take (used_in ws) ws i 0 (omega arith))
      ∙ (ap (λ (l : List ℕ). get_or l i 0) s.used ∙ get_or-take (used_in ws) vs i 0 (omega arith))

  -- the words of the places below the count
  behind-head : (l : List ℕ) → head_words ≤ length l → drop head_words (take (used_in ws) l) ≡ take (each_words * count_in ws) (drop head_words l)
  behind-head l h =
      ap (drop head_words) (take-add head_words (each_words * count_in ws) l)
      ∙ drop_at (take head_words l) (take (each_words * count_in ws) (drop head_words l)) head_words (length-take-le head_words l h)

  module _ (e : holds_run ws ≡ true) where
    same_read : SamePlaces (count_in ws) (drop head_words ws) (drop head_words vs)
    same_read =
        let few = held-few ws e in
        let d = length-drop head_words ws in
        let long = s.long in
        let other = s.other-long in
        same-places (count_in ws) (drop head_words ws) (drop head_words vs) (omega arith) (held-places ws e)
        (sym (behind-head ws (omega arith)) ∙ (ap (drop head_words) s.used ∙ behind-head vs (omega arith)))

    also-holds : holds_run vs ≡ true
    also-holds =
        held_by vs s.other-long (omega (arith, same_count, held-few ws e))
        ∙ (ap (λ (n : ℕ). are_places n (drop head_words vs)) (sym same_count) ∙ same_read.are)

    same-run : run_in vs ≡ run_in ws
    unfolding run_in
    same-run = λ i. record {
      rule = sym (same_word 0 (omega arith)) i;
      cores = sym (same_word 1 (omega arith)) i;
      fence = fence_of (sym (same_word 3 (omega arith)) i) (sym (same_word 4 (omega arith)) i);
      withdrawn = sym (same_word 5 (omega arith)) i;
      count = sym same_count i;
      tasks = (ap (λ (n : ℕ). padded n (places_in n (drop head_words vs))) (sym same_count) ∙ ap (padded (count_in ws)) same_read.read) i;
    }

  -- a run that the one holds is held by the other
  also-held : (r : Run) → decode ws ≡ run r → decode vs ≡ run r
  also-held r e =
      let h = held-run ws r e in
      by-held vs (also-holds h.0) ∙ ap run (same-run h.0 ∙ h.1)

pub same-held : (ws vs : List ℕ) → SameUsed ws vs → decode ws ≡ decode vs
same-held ws vs s = go (decode ws) (decode vs) refl refl
  where
    go : (h g : BufferRun) → decode ws ≡ h → decode vs ≡ g → decode ws ≡ decode vs
    go (run r) g e f = e ∙ sym (also-held ws vs s r e)
    go none (run r) e f = also-held vs ws (turned ws vs s) r f ∙ sym f
    go none none e f = e ∙ sym f

-- NOT CHANGED

-- what an entry on run r leaves in a buffer, in two parts: up to the count, and after it
module _ (r : Run) (f : StoredRun r) (x : Entry) where
  abbrev next : Run
  next = (entry_of r x).run

  length-next : length (encode_to next.count next) ≡ words_to r.count
  length-next =
      let g = fits-entered r x f in
      let few = g.few in
      let all = g.all in
      length_to next.count next (omega arith) ∙ ap words_to (count_kept r x)

  front : (ws vs : List ℕ) → take (words_to r.count) ws ≡ take (words_to r.count) vs
      → take (words_to r.count) (entry_from (run r) x ws).buffer ≡ take (words_to r.count) (entry_from (run r) x vs).buffer
  front ws vs e = go (entry_of r x).answer
    where
      call_result : (l : List ℕ) → take (words_to r.count) (overwritten next.count next l) ≡ encode_to next.count next
      call_result l = take_at (encode_to next.count next) (drop (words_to next.count) l) (words_to r.count) length-next

      go : (a : Answer)
          → take (words_to r.count) (by_answer a (overwritten next.count next ws) ws) ≡ take (words_to r.count) (by_answer a (overwritten next.count next vs) vs)
      go Taken = call_result ws ∙ sym (call_result vs)
      go (Refused n p) = e

  behind : (ws : List ℕ) → drop (words_to r.count) (entry_from (run r) x ws).buffer ≡ drop (words_to r.count) ws
  behind ws = go (entry_of r x).answer
    where
      go : (a : Answer) → drop (words_to r.count) (by_answer a (overwritten next.count next ws) ws) ≡ drop (words_to r.count) ws
      go Taken =
          drop_at (encode_to next.count next) (drop (words_to next.count) ws) (words_to r.count) length-next
          ∙ ap (λ (n : ℕ). drop (words_to n) ws) (count_kept r x)
      go (Refused n p) = refl

-- an entry, taken or refused, leaves every word past the count as found
pub words-unchanged : (ws : List ℕ) (x : Entry) → drop (used_in ws) (entry_from (decode ws) x ws).buffer ≡ drop (used_in ws) ws
words-unchanged ws x = go (decode ws) refl
  where
    go : (h : BufferRun) → decode ws ≡ h → drop (used_in ws) (entry_from (decode ws) x ws).buffer ≡ drop (used_in ws) ws
    go (run r) e =
        let at : used_in ws ≡ words_to r.count = ap words_to (sym (held-count ws r e)) in
        ap (λ (h : BufferRun). drop (used_in ws) (entry_from h x ws).buffer) e
        ∙ (ap (λ (k : ℕ). drop k (entry_from (run r) x ws).buffer) at ∙ (behind r (held_fits ws r e).0 x ws ∙ ap (λ (k : ℕ). drop k ws) (sym at)))
    go none e = ap (λ (h : BufferRun). drop (used_in ws) (entry_from h x ws).buffer) e

-- two buffers that are equal up to the count get equal rows, sets and answers, and are equal up to the count again after an entry
pub words-unread : (ws vs : List ℕ) → SameUsed ws vs → (x : Entry) → WordsUnread ws vs x
words-unread ws vs s x = record {
  held = same-held ws vs s;
  row = λ e. ap (λ (h : BufferRun). row_from h e) (same-held ws vs s);
  sets = λ e. ap (λ (h : BufferRun). sets_from h e) (same-held ws vs s);
  working = λ e. ap (λ (h : BufferRun). working_from h e) (same-held ws vs s);
  answer = answered (decode ws) ∙ ap (λ (h : BufferRun). (entry_from h x vs).answer) (same-held ws vs s);
  used = go (decode ws) refl ∙ ap (λ (h : BufferRun). take (used_in ws) (entry_from h x vs).buffer) (same-held ws vs s);
}
  where
    answered : (h : BufferRun) → (entry_from h x ws).answer ≡ (entry_from h x vs).answer
    answered (run r) = refl
    answered none = refl

    go : (h : BufferRun) → decode ws ≡ h → take (used_in ws) (entry_from (decode ws) x ws).buffer ≡ take (used_in ws) (entry_from (decode ws) x vs).buffer
    go (run r) e =
        let at : used_in ws ≡ words_to r.count = ap words_to (sym (held-count ws r e)) in
        let same : take (words_to r.count) ws ≡ take (words_to r.count) vs = ap (λ (k : ℕ). take k ws) (sym at) ∙ (s.used ∙ ap (λ (k : ℕ). take k vs) at) in
        (λ i. take (at i) (entry_from (e i) x ws).buffer) ∙ (front r (held_fits ws r e).0 x ws vs same ∙ sym (λ i. take (at i) (entry_from (e i) x vs).buffer))
    go none e =
        ap (λ (h : BufferRun). take (used_in ws) (entry_from h x ws).buffer) e
        ∙ (s.used ∙ sym (ap (λ (h : BufferRun). take (used_in ws) (entry_from h x vs).buffer) e))

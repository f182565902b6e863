-- An entry on a run in a buffer keeps its count of places; a run asked and entered by a function.
use mathlib.Core.Path.{◌≡◌, refl, sym, ap, ◌∙◌}
use mathlib.Core.Bool.{true}
use mathlib.Core.List.{List}
use Prim.Native.Nat.{ℕ, ◌≤◌}
use native.Mathlib.Omega.{arith}
use Rattle.run.specs.Answer.{Answer, Taken, Refused, by_answer}
use Rattle.run.specs.declared.Run.{Run}
use Rattle.run.specs.Advance.{Advanced}
use Rattle.model.specs.Advance.{Entry, advance, withdraw, withdraw_all, singleton}
use Rattle.model.specs.Search.{bit}
use Rattle.run.specs.Run.{moved, withdrawn_in}
use Rattle.run.specs.Numbers.{unknown_in, past_count}
use Rattle.run.specs.Advance.{advance_answer, advance_of}
use Rattle.run.specs.Withdraw.{withdraw_answer, withdraw_of, withdraw_all_of}
use Rattle.refinement.specs.Entries.{entry_of}
use Rattle.buffers.specs.Encoding.{places, count_in, holds_run, run_in}
use Rattle.std.proofs.Common.{Result, Ok, Err}
use Rattle.model.specs.declared.refusal.Refusal.{Refusal}
use Rattle.model.specs.declared.refusal.Refusal.TheVariants.{NotARun}
use Rattle.run.specs.Advance.{advanced}
use Rattle.buffers.specs.Encoding.{overwritten, BufferRun, run, none}
use Rattle.buffers.specs.Runs.{Entered, kept_run, entry_from, Asked, kept_next, EntryOn}
use Rattle.buffers.proofs.Places.{held-few}

-- a withdrawal, by its answer, keeps the count
count-withdrawn : (r : Run) (x : ℕ) (a : Answer) → (by_answer a (withdrawn_in x r) r).count ≡ r.count
count-withdrawn r x Taken = unfold withdrawn_in in refl
count-withdrawn r x (Refused n p) = refl

-- an entry keeps the count
pub count_kept : (r : Run) (x : Entry) → (entry_of r x).run.count ≡ r.count
unfolding advance_of withdraw_of withdraw_all_of
count_kept r (advance x e) = go (advance_answer r x e)
  where
    go : (a : Answer) → (by_answer a (moved (bit x) e r) r).count ≡ r.count
    go Taken = unfold moved in refl
    go (Refused n p) = refl
count_kept r (withdraw q) = count-withdrawn r (singleton q) (withdraw_answer r (unknown_in r q))
count_kept r (withdraw_all x) = count-withdrawn r x (withdraw_answer r (past_count r.count x))

-- the run that an entry returns has the buffer's count of places
pub entry-few :
    (ws : List ℕ) (x : Entry) (a : Advanced) (r : Run) → holds_run ws ≡ true → r ≡ run_in ws → a ≡ entry_of r x → a.run.count ≤ places
unfolding run_in
entry-few ws x a r h e p =
    let same : a.run.count ≡ count_in ws = ap (λ (v : Advanced). v.run.count) p ∙ (count_kept r x ∙ ap (λ (q : Run). q.count) e) in
    let few = held-few ws h in
    omega arith

-- ASKED, AND ENTERED BY A FUNCTION

-- what is asked, in the words of a definition
pub asked-as :
    {T V : Type 0} {post : Run → Result T Refusal → Type 0} (view : Result T Refusal → V) (answer : BufferRun → V)
    → ((r : Run) (x : Result T Refusal) → post r x → view x ≡ answer (run r)) → view (Err NotARun) ≡ answer none
    → (d : BufferRun) {x : Result T Refusal} → Asked post d x → view x ≡ answer d
asked-as view answer h z (run r) {x} a = h r x a
asked-as view answer h z none a = ap view a ∙ z

-- the next run has the count of the one held
kept-as :
    (r : Run) (x : Entry) (next : Result Run Refusal) (ws : List ℕ) → advanced r next ≡ entry_of r x
    → kept_next r next ws ≡ kept_run (entry_of r x).answer (entry_of r x).run ws
kept-as r x (Ok w) ws e =
    let count : r.count ≡ w.count = sym (ap (λ (v : Advanced). v.run.count) e ∙ count_kept r x) in
    ap (λ (n : ℕ). record { answer = Taken; buffer = overwritten n w ws }) count ∙ ap (λ (v : Advanced). kept_run v.answer v.run ws) e
kept-as r x (Err n) ws e = ap (λ (v : Advanced). kept_run v.answer v.run ws) e

-- an entry by a function that gives its next run
pub entry-done :
    {post : Run → Result Run Refusal → Type 0} (x : Entry) → ((r : Run) (next : Result Run Refusal) → post r next → advanced r next ≡ entry_of r x)
    → (d : BufferRun) (ws : List ℕ) (done : Entered) → EntryOn post d ws done → done ≡ entry_from d x ws
entry-done x h (run r) ws done e = let (next, posted, is) = e in is ∙ kept-as r x next ws (h r next posted)
entry-done x h none ws done e = e

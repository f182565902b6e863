-- Whether a deadline is missed before a tick: the test, and its relation to the first miss.
use native.Mathlib.Omega.{arith}
use mathlib.Core.Path.{◌≡◌, refl, sym, ◌∙◌}
use mathlib.Core.Bool.{true, false, true≢false}
use Prim.Native.Nat.{ℕ, suc, ◌<◌}
use native.Mathlib.Nat.{le_trans}
use lib.ListN.{length}
use Rattle.model.specs.Search.{any, least}
use Rattle.model.specs.Task.{Table, AllValid}
use Rattle.model.specs.Lists.{Missed}
use Rattle.model.specs.Verdict.{FirstMiss, missed_at, missed_in}
use Rattle.model.proofs.Search.{least-any, least-below, least-lowest}
use Rattle.model.proofs.Faithful.{missed-exact, missed-in-exact}
use Rattle.table.proofs.Decide.{Decides}
use Rattle.judge.proofs.FirstMiss.{found}
use Rattle.plan.specs.Numbers.{MissBefore}

module _ (s : Table) (ok : AllValid s) (b : ℕ) where
  -- one with a miss before b has a first
  first : any b (missed_in s) ≡ true → MissBefore s b
  first e =
      let t : ℕ = least b (missed_in s) in
      let n : ℕ = length s.tasks in
      let some-place : any n (missed_at s t) ≡ true = unfold missed_in in least-any b (missed_in s) e in
      let below : least n (missed_at s t) < n = least-below n (missed_at s t) some-place in
      let f : FirstMiss s t (suc (least n (missed_at s t))) = record {
        place = (least n (missed_at s t), refl);
        missed = (missed-exact s ok t (least n (missed_at s t)) below).0 (least-any n (missed_at s t) some-place);
        no-earlier = λ q u h m. true≢false (sym ((missed-in-exact s ok u).1 (q, m)) ∙ least-lowest b (missed_in s) u h);
        no-higher = λ q h m. true≢false (sym ((missed-exact s ok t q (le_trans h (omega (arith, below)))).1 m) ∙ least-lowest n (missed_at s t) q h);
      } in
      (t, suc (least n (missed_at s t)), f, least-below b (missed_in s) e)

  -- b is above the tick of the first miss exactly if the test is true
  pub miss-decides : Decides (any b (missed_in s)) (MissBefore s b)
  miss-decides = (first, λ x. found s ok b x.2.place.0 x.0 x.3 x.2.missed)

  -- where it is false, every deadline before b is met
  pub all-met : any b (missed_in s) ≡ false → (p t : ℕ) → t < b → ¬ Missed s p t
  all-met e p t l m = true≢false (sym (found s ok b p t l m) ∙ e)

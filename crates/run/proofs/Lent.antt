-- What is lent in a tick of a run: places past the count have nothing and lend nothing, and only rule 4 lends.
use mathlib.Core.Path.{◌≡◌, refl, sym, ap, ◌∙◌}
use mathlib.Core.Bool.{Bool, true, false, ◌&&◌, true≢false}
use mathlib.Core.List.{[]}
use Prim.Native.Nat.{ℕ, ◌≤◌}
use native.Mathlib.Omega.{arith}
use lib.ListN.{get_or, take, length-map, length-take, get_or-eq_default}
use Rattle.model.specs.Fence.{unfenced}
use Rattle.model.specs.Grants.{some}
use Rattle.model.specs.Lending.{lends}
use Rattle.model.specs.Task.{lending}
use Rattle.model.proofs.Grants.{grants-length}
use Rattle.phase.specs.Phase.{claiming, holder}
use Rattle.phase.specs.Task.{width_now}
use Rattle.phase.proofs.Phases.{lends-decides}
use Rattle.rule.proofs.Granting.{same-either}
use Rattle.run.specs.declared.Run.{Run}
use Rattle.run.specs.Run.{rule_in, emptied_at, widths_now, grants_in, offer_in, seeks_in, lent_in, has_lent}
use Rattle.run.proofs.Loans.{lent_nothing}

pub past-grants : (r : Run) (e p : ℕ) → r.count ≤ p → get_or (grants_in r e) p [] ≡ []
unfolding grants_in
past-grants r e p l =
    get_or-eq_default (grants_in r e) []
    (omega (
      arith,
      grants-length (rule_in r) (widths_now r) (λ q. claiming (emptied_at r e q)) (unfenced r.fence r.cores),
      length-map (take r.count r.tasks) width_now,
      length-take r.count r.tasks,
    ))

pub past-offer : (r : Run) (e p : ℕ) → r.count ≤ p → offer_in r e p ≡ []
unfolding offer_in
past-offer r e p l = rw (past-grants r e p l) (same-either (lends (rule_in r) && holder (emptied_at r e p)) [])

pub lent-lends : (r : Run) (e p : ℕ) → has_lent r e p ≡ true → rule_in r ≡ lending
unfolding lent_in offer_in
lent-lends r e p q = go (lends (rule_in r)) refl
  where
    go : (x : Bool) → lends (rule_in r) ≡ x → rule_in r ≡ lending
    go true i = (lends-decides (rule_in r)).0 i
    go false i = absurd (true≢false (sym q ∙ ap some (lent_nothing (widths_now r) (seeks_in r e) (offer_in r e) (λ o. rw i) r.count p)))

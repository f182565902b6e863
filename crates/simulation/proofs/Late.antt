-- A place is found late exactly if its deadline is missed at this tick of the full-length run.
use mathlib.Core.Path.{◌≡◌, sym, ◌∙◌}
use mathlib.Core.Bool.{Bool, true, false, true≢false}
use Prim.Native.Nat.{ℕ, suc, ◌≤◌, ◌<◌}
use native.Mathlib.Nat.{le_antisymm}
use native.Mathlib.Omega.{arith}
use lib.ListN.{length, get_or}
use lib.Dec.{eqb, ltb}
use borrow.Author.Tests.{eqb-true, eq-eqb, ltb-true, lt-ltb}
use Rattle.model.specs.Search.{any, least, bit}
use Rattle.model.specs.Task.{Table, task, AllValid}
use Rattle.model.specs.Lists.{full, Missed}
use Rattle.model.specs.Verdict.{missed_at, missed_in}
use Rattle.model.proofs.Bools.{and_left, and_right, and_both}
use Rattle.std.specs.Cmp.{both_ways}
use Rattle.std.proofs.lemmas.Bool.{false_from_ne_true}
use Rattle.model.proofs.Search.{any_some, any_of, least-any, least-lowest}
use Rattle.simulation.specs.Machine.{Machine, overdue}
use Rattle.model.proofs.Runs.{full-tick, missed-at}
use Rattle.model.proofs.Faithful.{missed-exact}
use Rattle.simulation.specs.PlaceRelation.{PlaceRelatedAt}
use Rattle.simulation.proofs.Place.{overdue-has, overdue-is}
use Rattle.simulation.proofs.MachineRelated.{Walked, Ready}

not-less : {a b : ℕ} → ¬ (a < b) → b ≤ a
not-less h = omega arith

module _ (s : Table) (ok : AllValid s) where
  module _ (t i : ℕ) (m : Machine) (h : Walked s t i m) where
    -- a place that the walk has not passed is at its event with ticks left exactly if its deadline is missed
    pub late-missed : (p : ℕ) → p < length s.tasks → i ≤ p → get_or m.event p 0 ≡ t → 0 < get_or m.left p 0 → Missed s p t
    late-missed p l b at some =
        let x = overdue-has (task s p) t ((full s t).job p) (get_or m.left p 0) (get_or m.event p 0) (get_or m.next p 0) (bit m.claiming p)
        (h.waiting p l b) at some in
        missed-at s p t x.0 l x.1 x.2

    pub missed-late : (p : ℕ) → p < length s.tasks → i ≤ p → Missed s p t → (get_or m.event p 0 ≡ t) × (0 < get_or m.left p 0)
    missed-late p l b (_, x) =
        overdue-is (task s p) (ok p l) t ((full s t).job p) (get_or m.left p 0) (get_or m.event p 0) (get_or m.next p 0) (bit m.claiming p)
        (h.waiting p l b) t x.0 (omega arith) (x.1 ∙ full-tick s t) x.2

    -- the same of the tests
    pub late-exact : (p : ℕ) → p < length s.tasks → i ≤ p → overdue t m p ≡ missed_at s t p
    late-exact p l b =
        both_ways (overdue t m p) (missed_at s t p)
        (λ e.
        (missed-exact s ok t p l).1
        (late-missed p l b
        (eqb-true (get_or m.event p 0) t (and_left (eqb (get_or m.event p 0) t) (ltb 0 (get_or m.left p 0)) e))
        (ltb-true 0 (get_or m.left p 0) (and_right (eqb (get_or m.event p 0) t) (ltb 0 (get_or m.left p 0)) e))))
        (λ e.
        let x = missed-late p l b ((missed-exact s ok t p l).0 e) in
        and_both (eqb (get_or m.event p 0) t) (ltb 0 (get_or m.left p 0)) (eq-eqb (get_or m.event p 0) t x.0) (lt-ltb 0 (get_or m.left p 0) x.1))

    -- where the walk has passed, no deadline is missed
    pub passed-met : (p : ℕ) → p < i → ¬ Missed s p t
    passed-met p b (l, x) =
        let y = overdue-is (task s p) (ok p l) (suc t) ((full s t).job p) (get_or m.left p 0) (get_or m.event p 0) (get_or m.next p 0) (bit m.claiming p)
        (h.done p l b) t x.0 (omega arith) (x.1 ∙ full-tick s t) x.2 in
        absurd (omega (arith, ahead (bit m.claiming p) (h.done p l b), y.0))
      where
        ahead : (c : Bool) → PlaceRelatedAt (task s p) (suc t) ((full s t).job p) (get_or m.left p 0) (get_or m.event p 0) (get_or m.next p 0) c → t < get_or m.event p 0
        ahead true w = w.ahead_of
        ahead false w = w.ahead_of

    pub passed_none : (p : ℕ) → p < length s.tasks → p < i → missed_at s t p ≡ false
    passed_none p l b = false_from_ne_true (missed_at s t p) (λ e. passed-met p b ((missed-exact s ok t p l).0 e))

    -- where the walk finds a place late, it is the first that misses at t
    pub late-first : i < length s.tasks → overdue t m i ≡ true → (missed_in s t ≡ true) × (least (length s.tasks) (missed_at s t) ≡ i)
    unfolding missed_in
    late-first l e = (any_of (length s.tasks) (missed_at s t) i l hit, le_antisymm no-later no-earlier)
      where
        hit : missed_at s t i ≡ true
        hit = sym (late-exact i l (omega arith)) ∙ e

        no-later : least (length s.tasks) (missed_at s t) ≤ i
        no-later = not-less (λ q. true≢false (sym hit ∙ least-lowest (length s.tasks) (missed_at s t) i q))

        found : missed_at s t (least (length s.tasks) (missed_at s t)) ≡ true
        found = least-any (length s.tasks) (missed_at s t) (any_of (length s.tasks) (missed_at s t) i l hit)

        no-earlier : i ≤ least (length s.tasks) (missed_at s t)
        no-earlier =
            not-less
            (λ q. true≢false (sym found ∙ passed_none (least (length s.tasks) (missed_at s t)) (omega (arith, no-later)) q))

  -- a tick that is ready has no miss
  pub ready-none : (t : ℕ) (m : Machine) → Ready s t m → missed_in s t ≡ false
  unfolding missed_in
  ready-none t m h =
      false_from_ne_true (any (length s.tasks) (missed_at s t))
      (λ e.
      let x = any_some (length s.tasks) (missed_at s t) e in
      true≢false (sym x.2 ∙ passed_none t (length s.tasks) m h x.0 x.1 x.1))

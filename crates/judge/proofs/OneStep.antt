-- A run that goes on to the next tick takes one tick, or one jump.
use native.Mathlib.Nat.{eq-or-lt_of_le}
use native.Mathlib.Omega.{arith}
use mathlib.Core.Logic.{⊎_elim}
use mathlib.Core.Path.{◌≡◌, refl, sym, ap, ◌∙◌, subst}
use Prim.Native.Nat.{ℕ, zero, suc, ◌+◌, ◌-◌, ◌≤◌, ◌<◌}
use Rattle.model.specs.Task.{Table}
use Rattle.model.specs.Lists as book
use Rattle.table.specs.declared.Loaded.{Loaded}
use Rattle.table.specs.Fit.{loaded_table}
use Rattle.simulation.specs.TickState.{Numbers, TickState, next_tick_state}
use Rattle.simulation.specs.EventState.{EventState}
use Rattle.simulation.specs.Jump.{jumped, JumpStarts, JumpLands, JumpOf}
use Rattle.simulation.proofs.JumpLands.{jump-lands}
use Rattle.judge.specs.FirstMiss.{Missed}
use Rattle.judge.specs.FirstMiss.{Never, At}
use Rattle.judge.specs.FirstMiss.{MissedOf, miss_meaning, no_miss}
use Rattle.judge.specs.RunOn.{ticks_on, TicksBegin, stop_tick, TicksRun, jumps_on, JumpsBegin, StopsAt, JumpsRun}

-- where no deadline is missed up to and including tick u, none is found before the next
none_found : (s : Table) (u : ℕ) (m : Missed) → ((p w : ℕ) → w < u → ¬ book.Missed s p w) → ((p : ℕ) → ¬ book.Missed s p u) → MissedOf s (u + 1) m → m ≡ Never
none_found s u m before here h = go m (h.none.1 met)
  where
    met : (p w : ℕ) → w < u + 1 → ¬ book.Missed s p w
    met p w l =
        ⊎_elim
        (λ (e : w ≡ u). subst (λ (x : ℕ). ¬ book.Missed s p x) (sym e) (here p))
        (λ (e : w < u). before p w e)
        (eq-or-lt_of_le (omega arith))

    go : (x : Missed) → miss_meaning x ≡ no_miss → x ≡ Never
    go Never e = refl
    go (At t p) e = let z : ◌≡◌ {A = ℕ} 0 1 = cc in absurd (omega arith)

pub one-tick :
    (t : Loaded) (n : Numbers) (s s' : TickState) (m : Missed) → TicksBegin t n s (s.tick + 1) → ((p : ℕ) → ¬ book.Missed (loaded_table t) p s.tick)
    → TicksRun n s (s.tick + 1) m s' → s' ≡ next_tick_state n s
unfolding ticks_on
one-tick t n s s' m b here h =
    let e = none_found (loaded_table t) s.tick m b.refines.before.met here (h.missed t b) in
    let one : s.tick + 1 - s.tick ≡ 1 = omega arith in
    h.run ∙ (ap (λ (x : Missed). ticks_on n (stop_tick x (s.tick + 1) - s.tick) s) e ∙ ap (λ (k : ℕ). ticks_on n k s) one)

pub one-jump : (t : Loaded) (n : Numbers) (s s' : EventState) (m : Missed) → JumpStarts t n s → JumpsRun n s (s.tick + 1) m s' → JumpOf n s s'
unfolding jumps_on
one-jump t n s s' m b h = record { value = value; lands = λ x y. subst (JumpLands x s) (sym value) (jump-lands x n s y) }
  where
    begins : JumpsBegin t n s (s.tick + 1)
    begins = record { fit = b.fit; numbers = b.numbers; represents = b.represents; early = omega (arith, b.early) }

    past : s.tick + 1 ≤ s'.tick
    past =
        subst (λ (x : Missed). StopsAt x (s.tick + 1) s'.tick) (none_found (loaded_table t) s.tick m b.represents.met b.met (h.missed t begins))
        h.stops

    go : (k : ℕ) → s' ≡ jumps_on n k s → ((i : ℕ) → i < k → (jumps_on n i s).tick < s.tick + 1) → s' ≡ jumped n s
    go zero e l = absurd (omega (arith, past, ap (λ (x : EventState). x.tick) e))
    go (suc zero) e l = e
    go (suc (suc k)) e l = absurd (omega (arith, l 1 (omega arith), (jump-lands t n s b).next.after))

    value : s' ≡ jumped n s
    value = go h.count h.run h.before

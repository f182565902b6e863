-- Under which rules' numbers ended work holds its cores, and cores are lent; and a phase with space for one more tick has it as it is seen.
use mathlib.Core.Path.{◌≡◌, refl}
use mathlib.Core.Bool.{Bool, true, false, ◌||◌, ◌&&◌, cond}
use Prim.Native.Nat.{ℕ}
use native.Mathlib.Omega.{arith}
use lib.Dec.{eqb}
use Rattle.model.specs.Lending.{lends}
use Rattle.model.specs.Task.{Rule, greedy, limited, idling, lending, rule_of}
use Rattle.phase.specs.declared.Phase.{Phase}
use Rattle.phase.specs.declared.Phase.TheVariants.{Holding, Resting}
use Rattle.phase.specs.NoOverflow.{NoOverflow}
use Rattle.phase.specs.Phase.{idles, released, empty_phase, phase_emptied}
use Rattle.phase.proofs.Phases.{by-eq}

pub idles-rule : (n : ℕ) → idles (rule_of n) ≡ eqb n 3 || eqb n 4
idles-rule n =
    by-eq (λ (x : Bool). idles (cond x limited (cond (eqb n 3) idling (cond (eqb n 4) lending greedy))) ≡ eqb n 3 || eqb n 4) n 2
    (λ e. rw e)
    (λ e. go (eqb n 3) (eqb n 4))
  where
    go : (x y : Bool) → idles (cond x idling (cond y lending greedy)) ≡ x || y
    go true y = refl
    go false true = refl
    go false false = refl

pub lends-rule : (n : ℕ) → lends (rule_of n) ≡ eqb n 4
lends-rule n =
    by-eq (λ (x : Bool). lends (cond x limited (cond (eqb n 3) idling (cond (eqb n 4) lending greedy))) ≡ eqb n 4) n 2
    (λ e. rw e)
    (λ e.
    by-eq (λ (x : Bool). lends (cond x idling (cond (eqb n 4) lending greedy)) ≡ eqb n 4) n 3
    (λ q. rw q)
    (λ q. go (eqb n 4)))
  where
    go : (y : Bool) → lends (cond y lending greedy) ≡ y
    go true = refl
    go false = refl

pub emptied-no-overflow : (r : Rule) (empty : Bool) (ph : Phase) → NoOverflow ph → NoOverflow (phase_emptied r empty ph)
emptied-no-overflow r empty ph h = go (empty && released ph)
  where
    none : (x : Bool) → NoOverflow (cond x (Holding 0 0) (Resting 0))
    none true = (omega arith, omega arith)
    none false = omega arith

    go : (x : Bool) → NoOverflow (cond x (empty_phase r) ph)
    go true = none (idles r)
    go false = h

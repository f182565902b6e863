-- THE SIMULATION HAS TO BEGIN AT TICK 0: a table whose third task has a job that takes 2 ticks, before the last S, and from then on never takes more than 1.
use mathlib.Core.Bool.{true}
use mathlib.Core.List.{[], ◌∷◌}
use mathlib.Core.Logic.{inl}
use mathlib.Core.Path.{refl, subst, ◌≡◌}
use Prim.Native.Nat.{◌*◌, ◌+◌, ◌-◌, suc, zero, ℕ, ◌≤◌}
use native.Mathlib.Omega.{arith}
use Rattle.model.proofs.Computing.{computing}
use Rattle.model.proofs.Examples.{on, t}
use Rattle.model.proofs.Horizon.{repeat-all}
use Rattle.model.proofs.Verdict.{verdict-exact}
use Rattle.model.specs.Jobs.{Job}
use Rattle.model.specs.Lists.{NeverMissed, full}
use Rattle.model.specs.Horizon.{S, hyperperiod, last_s}
use Rattle.model.specs.Task.{AllValid, Table, Task, idling, release, task}
use Rattle.model.specs.Verdict.{Firm, verdict}
use Rattle.response_time.specs.Response.{WorstResponse, ended_after, greatest, worst_response, worst_response_by, response_time}
use Rattle.response_time.proofs.Response.{worst-response-exact}

-- four cores, rule 3; the last S is 8, and P is 12
abbrev pub early : Table
early = on 4 idling (t 6 2 1 2 3 ∷ t 0 4 1 4 6 ∷ t 0 2 1 2 4 ∷ [])

early-valid : AllValid early
early-valid zero l = record { odd_pos = omega arith; even-pos = omega arith; length-pos = omega arith; deadline-pos = omega arith; constrained = omega arith }
early-valid (suc zero) l = record { odd_pos = omega arith; even-pos = omega arith; length-pos = omega arith; deadline-pos = omega arith; constrained = omega arith }
early-valid (suc (suc zero)) l = record { odd_pos = omega arith; even-pos = omega arith; length-pos = omega arith; deadline-pos = omega arith; constrained = omega arith }
early-valid (suc (suc (suc p))) l = absurd (omega arith)

-- what is computed: the table is Firm, the response time of its third task, S and P, and that its jobs 2, 3 and 4 end after a tick
pub record Computed : Type 0 where
  pub fits : verdict early ≡ Firm 8 12
  pub figure : worst_response early 2 ≡ 2
  pub start : S early.tasks 2 ≡ 8
  pub period : hyperperiod early.tasks ≡ 12
  pub second : ended_after early 2 2 1 ≡ true
  pub third : ended_after early 2 3 1 ≡ true
  pub fourth : ended_after early 2 4 1 ≡ true

computed : Computed
unfolding worst_response_by greatest response_time computing
computed = record { fits = refl; figure = refl; start = refl; period = refl; second = refl; third = refl; fourth = refl }

-- the last S is that of the third task
last-start : last_s early.tasks ≡ 8
last-start = computed.start

never : NeverMissed early
never = (verdict-exact early early-valid).accepted.0 (8, 12, inl computed.fits)

-- from job 2 on each goes as the one three periods before it
later : (j : ℕ) → ended_after early 2 (2 + j) 1 ≡ true
later zero = computed.second
later (suc zero) = computed.third
later (suc (suc zero)) = computed.fourth
later (suc (suc (suc j))) = go (later j)
  where
    τ : Task
    τ = task early 2

    go : ended_after early 2 (2 + j) 1 ≡ true → ended_after early 2 (2 + suc (suc (suc j))) 1 ≡ true
    go e =
        let P = computed.period in
        let whole : hyperperiod early.tasks ≡ 3 * τ.period = omega (arith, P) in
        let from : S early.tasks 2 ≤ release τ (2 + j) = omega (arith, computed.start) in
        let number : 2 + j + 3 ≡ 2 + suc (suc (suc j)) = omega arith in
        let when : release τ (2 + j) + 1 + hyperperiod early.tasks ≡ release τ (2 + suc (suc (suc j))) + 1 = omega (arith, P) in
        subst (λ (k : ℕ). ((full early (release τ (2 + suc (suc (suc j))) + 1)).job 2 k).ended ≡ true) number
        (subst (λ (u : ℕ). ((full early u).job 2 (2 + j + 3)).ended ≡ true) when
        (subst (λ (x : Job). x.ended ≡ true) (repeat-all early early-valid 2 (omega arith) 3 whole (2 + j) from 1) e))

-- THE THEOREM: the response time is 2, and every job that is released from the last S on has ended after 1 tick
pub only-before-S : WorstResponse early 2 2 × ((k : ℕ) → last_s early.tasks ≤ release (task early 2) k → ended_after early 2 k 1 ≡ true)
only-before-S = (
  subst (WorstResponse early 2) computed.figure (worst-response-exact early early-valid never 2 (omega arith)),
  λ k h.
      let e : 2 + (k - 2) ≡ k = omega (arith, last-start) in
      subst (λ (i : ℕ). ended_after early 2 i 1 ≡ true) e (later (k - 2)),
)

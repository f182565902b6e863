-- A task that neither 7 nor 8 turns down is within the limits.
use mathlib.Core.Path.{◌≡◌}
use mathlib.Core.Bool.{false}
use mathlib.Core.Logic.{◌⊎◌, inl, inr}
use Prim.Native.Nat.{ℕ, ◌≤◌, ◌<◌}
use native.Mathlib.Omega.{arith}
use Rattle.model.specs.Task.{Task, ValidTask}
use Rattle.table.specs.Limits.{InRange, in_range, WidthOut, TimesOut, task_out, most_time}
use Rattle.table.proofs.Decide.{stable, fails}
use Rattle.table.proofs.Tests.{from-decides, task-decides}

-- v and w 1 to the number m of unfenced cores; O 0 to 1,000,000; C and T 1 to 1,000,000; D 1 to T
pub record Inside (m : ℕ) (τ : Task) : Type 0 where
  pub odd-from : InRange 1 m τ.odd_width
  pub even-from : InRange 1 m τ.even_width
  pub offset-most : τ.offset ≤ most_time
  pub length_from : InRange 1 most_time τ.length
  pub period-from : InRange 1 most_time τ.period
  pub deadline-from : InRange 1 τ.period τ.deadline

within : (a b x : ℕ) → ¬ (¬ InRange a b x) → InRange a b x
within a b x n = stable (in_range a b x) (InRange a b x) (from-decides a b x) n

pub inside : (m : ℕ) (τ : Task) → ¬ (WidthOut m τ ⊎ TimesOut τ) → Inside m τ
inside m τ n =
    let zero : ¬ (τ.odd_width ≡ 0) = λ e. n (inl (inl (inl e))) in
    let width_limit : ¬ (m < τ.odd_width) = λ e. n (inl (inl (inr e))) in
    let zero' : ¬ (τ.even_width ≡ 0) = λ e. n (inl (inr (inl e))) in
    let wide' : ¬ (m < τ.even_width) = λ e. n (inl (inr (inr e))) in
    let late : ¬ (most_time < τ.offset) = λ e. n (inr (inl e)) in
    record {
      odd-from = omega arith;
      even-from = omega arith;
      offset-most = omega arith;
      length_from = within 1 most_time τ.length (λ e. n (inr (inr (inl e))));
      period-from = within 1 most_time τ.period (λ e. n (inr (inr (inr (inl e)))));
      deadline-from = within 1 τ.period τ.deadline (λ e. n (inr (inr (inr (inr e)))));
    }

pub inside-test : (m : ℕ) (τ : Task) → task_out m τ ≡ false → Inside m τ
inside-test m τ e = inside m τ (fails (task_out m τ) (WidthOut m τ ⊎ TimesOut τ) (task-decides m τ) e)

-- and so within the assumptions of the model's theorems
pub inside-valid : (m : ℕ) (τ : Task) → Inside m τ → ValidTask τ
inside-valid m τ i = record {
  odd_pos = i.odd-from.0;
  even-pos = i.even-from.0;
  length-pos = i.length_from.0;
  deadline-pos = i.deadline-from.0;
  constrained = i.deadline-from.1;
}

-- A task whose two widths are equal is a task of one width (request 108): every job has it, P counts with T, and firm is the old rule.
use mathlib.Core.Bool.{Bool, cond, false, true}
use mathlib.Core.List.{List}
use mathlib.Core.Logic.{◌↔◌}
use mathlib.Core.Path.{sym, ◌≡◌}
use Prim.Native.Nat.{◌%◌, ◌<◌, suc, ℕ, ◌≤◌}
use native.Mathlib.Omega.{arith}
use lib.Dec.{eqb}
use lib.ListN.{get_or, length}
use borrow.Author.Tests.{eq-eqb}
use Rattle.model.specs.Firm.{ParallelismMonotonic}
use Rattle.model.specs.Task.{Task, cycle, absent_task, width_of}

pub equal-width : (τ : Task) → τ.odd_width ≡ τ.even_width → (k : ℕ) → width_of τ k ≡ τ.odd_width
equal-width τ e k = go (eqb (k % 2) 0)
  where
    go : (b : Bool) → cond b τ.odd_width τ.even_width ≡ τ.odd_width
    go true = omega arith
    go false = sym e

pub equal-cycle : (τ : Task) → τ.odd_width ≡ τ.even_width → cycle τ ≡ τ.period
equal-cycle τ e = rw (eq-eqb τ.odd_width τ.even_width e)

-- each width is at most the next
pub equal-monotonic :
    (τs : List Task) → ((p : ℕ) → p < length τs → (get_or τs p absent_task).odd_width ≡ (get_or τs p absent_task).even_width)
    → ParallelismMonotonic τs ↔ ((p : ℕ) → suc p < length τs → (get_or τs p absent_task).odd_width ≤ (get_or τs (suc p) absent_task).odd_width)
equal-monotonic τs e = (
  (λ h p l. omega (arith, h p l, e p (omega arith), e (suc p) l)),
  (λ h p l. omega (arith, h p l, e p (omega arith), e (suc p) l)),
)

-- One line of the book over a tick at full length.
use mathlib.Core.Path.{◌≡◌}
use mathlib.Core.Bool.{Bool, true, false, ◌&&◌, cond}
use Prim.Native.Nat.{ℕ, suc}
use lib.Dec.{leb}
use Rattle.model.specs.Task.{Task, Rule}
use Rattle.model.specs.Jobs.{Job}
use Rattle.model.specs.Claims.{claims}
use Rattle.model.specs.Advance.{work}
use Rattle.model.proofs.Jobs.{mk}

-- a line after a tick in which its task had cores or not, with no report
abbrev pub line_on : Rule → Task → ℕ → Bool → (ℕ → Job) → ℕ → Job
line_on r τ t w js i = cond (claims r τ i t (js i) && w) (work τ.length false (js i)) (js i)

pub line-off : (r : Rule) (τ : Task) (t : ℕ) (w : Bool) (js : ℕ → Job) (i : ℕ) → claims r τ i t (js i) ≡ false → line_on r τ t w js i ≡ js i
line-off r τ t w js i e = rw e

pub line-own : (r : Rule) (τ : Task) (t : ℕ) (w : Bool) (js : ℕ → Job) (i : ℕ) → claims r τ i t (js i) ≡ true → line_on r τ t w js i ≡ cond w (work τ.length false (js i)) (js i)
line-own r τ t w js i e = rw e

-- an open job that is served has had one tick more, and ends at C
pub work-open : (C u : ℕ) (j : Job) → j ≡ mk u u false → work C false j ≡ mk (suc u) (suc u) (leb C (suc u))
unfolding work
work-open C u j e = rw e

-- The present tick of a run with the empty jobs e: the answer to a row; and where it is taken, the sets of cores, the places that are given cores, that
-- borrow some and that work.
use Rattle.std.specs.Prelude.{Result, IfOk, ◌≡◌, ℕ}
use Rattle.model.specs.Search.{bit}
use Rattle.model.specs.declared.refusal.Refusal.{Refusal}
use Rattle.run.specs.declared.Run.{Run}
use Rattle.run.specs.declared.tick.Tick.{Tick}
use Rattle.run.specs.Answer.{answer_in}
use Rattle.run.specs.Run.{has_cores, has_lent}
use Rattle.run.specs.Sets.{sets_of}
use Rattle.run.specs.Working.{working_of}

-- what a tick that is taken holds
pub record Ticks (r : Run) (e : ℕ) (t : Tick) : Type 0 where
  pub shows : t.sets ≡ (sets_of r e).sets
  pub gives : (p : ℕ) → bit t.given p ≡ has_cores r e p
  pub lends : (p : ℕ) → bit t.lent p ≡ has_lent r e p
  pub works : t.working ≡ (working_of r e).set

pub record TickOf (r : Run) (e : ℕ) (t : Result Tick Refusal) : Type 0 where
  pub answered : answer_in t ≡ (sets_of r e).answer
  pub holds : IfOk t (Ticks r e)

-- Places past the count (scope, 'The run in the cab'): later calls neither read nor change them. `past-unread` and `past-unchanged` show it.
use Rattle.std.specs.Prelude.{◌≡◌, ℕ, take}
use Rattle.run.specs.declared.Run.{Run}
use Rattle.run.specs.Advance.{advance_of}
use Rattle.run.specs.Row.{row_of}
use Rattle.run.specs.Sets.{sets_of}
use Rattle.run.specs.Withdraw.{withdraw_of, withdraw_all_of}
use Rattle.run.specs.Working.{working_of}

-- two runs that are equal up to the count
pub record SameBelow (r s : Run) : Type 0 where
  pub rule : r.rule ≡ s.rule
  pub cores : r.cores ≡ s.cores
  pub fence : r.fence ≡ s.fence
  pub withdrawn : r.withdrawn ≡ s.withdrawn
  pub count : r.count ≡ s.count
  pub tasks : take r.count r.tasks ≡ take s.count s.tasks

-- they get equal rows, sets, positions that work and answers, and advance to runs that are equal up to the count, for all reports and empties; the same holds of a
-- withdrawal, of one position or of several together
pub record TailUnread (r s : Run) (x e : ℕ) : Type 0 where
  pub row : row_of r e ≡ row_of s e
  pub sets : sets_of r e ≡ sets_of s e
  pub working : working_of r e ≡ working_of s e
  pub answer : (advance_of r x e).answer ≡ (advance_of s x e).answer
  pub run : SameBelow (advance_of r x e).run (advance_of s x e).run
  pub withdraw-answer : (p : ℕ) → (withdraw_of r p).answer ≡ (withdraw_of s p).answer
  pub withdraw-run : (p : ℕ) → SameBelow (withdraw_of r p).run (withdraw_of s p).run
  pub withdraw-all-answer : (x : ℕ) → (withdraw_all_of r x).answer ≡ (withdraw_all_of s x).answer
  pub withdraw-all-run : (x : ℕ) → SameBelow (withdraw_all_of r x).run (withdraw_all_of s x).run

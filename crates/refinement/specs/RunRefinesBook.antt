-- DEMAND 3, refinement: a single claim about the list (scope, 'The book of a run'): `demand-3` shows it of every table with the verdict Firm.
use Rattle.std.specs.Prelude.{◌≡◌, List, ℕ}
use Rattle.model.specs.Advance.{Entry}
use Rattle.model.specs.Refusals.{taken}
use Rattle.model.specs.FirmGuarantee.{FirmGuarantee}
use Rattle.table.specs.Words.{table_of}
use Rattle.run.specs.Answer.{answer_meaning}
use Rattle.run.specs.Start.{start_of}
use Rattle.refinement.specs.Refines.{Refines}

-- the claims about the words of a table and a list xs of advances and withdrawals
pub record RunRefinesBook (ws : List ℕ) (xs : List Entry) : Type 0 where
  -- start takes the table
  pub started : answer_meaning (start_of ws).answer ≡ taken
  -- each answer in the list is the book's, and so is the row asked of the run after it with any empty jobs
  pub refines : Refines ws xs
  -- no deadline is missed, the list is behind the full-length run on no job, and under rules 1 to 3, of two lists at one tick the one with no
  -- longer job is never behind
  pub kept : FirmGuarantee (table_of ws) xs

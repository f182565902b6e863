-- The run that starts from the words of a table that passes 1 to 9 and 19 represents the empty book.
use mathlib.Core.Path.{◌≡◌, refl}
use mathlib.Core.List.{List}
use Prim.Native.Nat.{ℕ}
use Rattle.model.specs.Task.{rule_of}
use Rattle.model.specs.Jobs.{empty_book}
use Rattle.table.specs.Words.{rule, table_of}
use Rattle.table.specs.Numbers.{NoneApplies}
use Rattle.table.proofs.Passed.{passed-valid}
use Rattle.run.specs.Start.{started_run}
use Rattle.run.proofs.StartPasses.{start-passes}
use Rattle.refinement.proofs.Related.{related-start}
use Rattle.refinement.proofs.Represents.{Represents}

module _ (ws : List ℕ) (none : NoneApplies ws) where
  same-rule : rule_of (rule ws) ≡ (table_of ws).rule
  unfolding table_of
  same-rule = refl

  pub represents-start : Represents (table_of ws) empty_book (started_run (rule ws) (table_of ws))
  represents-start = record { passes = start-passes ws none; related = related-start (rule ws) (table_of ws) same-rule (passed-valid ws none) }

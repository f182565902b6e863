-- The text of a row after its tick.
use Rattle.std.specs.Prelude.{List, [], ◌∷◌, ◌++◌, ℕ}
use Rattle.model.specs.Fence.{unfenced}
use Rattle.model.specs.Search.{bit}
use Rattle.model.specs.Task.{rule_of}
use Rattle.model.specs.Grants.{claimants, grants}
use Rattle.model.specs.Row.{row}
use Rattle.text.specs.Format.{newline}
use Rattle.text.specs.Output.{fields}

-- the bytes of the cores and a newline, where of the tasks of these widths those of the set c claim
unfoldable pub cells : ℕ → ℕ → ℕ → List ℕ → ℕ → List ℕ
cells rule cores fence widths c = fields (row fence cores (grants (rule_of rule) (claimants widths (bit c)) (unfenced fence cores))) ++ (newline ∷ [])

-- A set of cores is one 64-bit number, core 0 its lowest digit (scope, 'Layers': the free set). Contracts use the list of its cores, lowest first.
use Rattle.std.specs.Prelude.{List, ℕ}
use Rattle.model.specs.Search.{bit, filtered, up_from}
use Rattle.model.specs.Sizes.{most_cores}

-- the cores of a set in ascending order: the numbers below 64 that are in it
unfoldable pub cores : ℕ → List ℕ
cores n = filtered (bit n) (up_from 0 most_cores)

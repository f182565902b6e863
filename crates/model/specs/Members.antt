-- The members of a set that is one number, by its binary digits.
use Rattle.std.specs.Prelude.{List, ℕ}
use Rattle.model.specs.Search.{bit, filtered, up_from}

-- in ascending order; a member is below the number of the set
unfoldable pub members : ℕ → List ℕ
members n = filtered (bit n) (up_from 0 n)

-- The rows of the plan (scope, 'The plan'): rows a up to but not including b of the full-length run, core 0 first, one byte a core.
use Rattle.std.specs.Prelude.{List, [], ◌++◌, ℕ, zero, suc, ◌-◌}
use Rattle.model.specs.Task.{Table}
use Rattle.model.specs.Claims.{book_row}
use Rattle.model.specs.Lists.{full}

-- n rows of the full-length run, one after the other, from tick t on
unfoldable pub full_rows_from : Table → ℕ → ℕ → List ℕ
full_rows_from s t zero = []
full_rows_from s t (suc n) = book_row s (full s t) ++ full_rows_from s (suc t) n

-- rows a up to but not including b
abbrev pub rows_of : Table → ℕ → ℕ → List ℕ
rows_of s a b = full_rows_from s a (b - a)

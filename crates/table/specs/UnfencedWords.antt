-- The words of a table with just its unfenced cores and no fence (request 102). They represent that table (`unfenced-table`), and they pass where the words
-- do (`unfenced-passes`).
use Rattle.std.specs.Prelude.{List, ◌∷◌, ℕ, drop}
use Rattle.model.specs.Fence.{unfenced_count}
use Rattle.table.specs.Words.{header_words, head, core_count, rule, fence}

-- as many cores as are unfenced, an empty fence, and all else as it is
unfoldable pub unfenced_words : List ℕ → List ℕ
unfenced_words ws = head ws ∷ (unfenced_count (fence ws) (core_count ws) ∷ (rule ws ∷ (0 ∷ (0 ∷ drop header_words ws))))

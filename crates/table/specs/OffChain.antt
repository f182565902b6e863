-- The words of a record off the chain change no answer (scope, 'The table'): tables that differ only there.
use Rattle.std.specs.Prelude.{◌≡◌, List, ℕ, ◌<◌, length}
use Rattle.table.specs.Words.{header_words, record_words, word, records, field, visited}
use Rattle.table.specs.Limits.{InRange}
use Rattle.table.specs.Numbers.{Reaches}

-- two tables of equal length agree on the header and on every record that the walk meets (`off-chain`: load gives the same of both)
pub record SameOnChain (ws us : List ℕ) : Type 0 where
  pub size : length ws ≡ length us
  pub header : (i : ℕ) → i < header_words → word ws i ≡ word us i
  pub on_chain : (k j : ℕ) → Reaches ws k → InRange 1 (records ws) (visited ws k) → j < record_words → field ws (visited ws k) j ≡ field us (visited ws k) j

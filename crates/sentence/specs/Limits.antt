-- The length of a sentence, by the limits of a table.
use Rattle.std.specs.Prelude.{List, [], ◌∷◌, ℕ, ◌+◌, ◌≤◌, ◌<◌}
use Rattle.text.specs.Decimal.{digit_count}
use Rattle.sentence.specs.Facts.{Facts, Part, Ascending}
use Rattle.model.specs.Sizes.{most_tasks}
use Rattle.table.specs.Limits.{most_time}

-- every part's count and the ticks had are together at most `most`
unfoldable pub CountsWithin : ℕ → ℕ → List Part → Type 0
CountsWithin had most [] = Unit {0}
CountsWithin had most (p ∷ ps) = (had + p.count ≤ most) × CountsWithin had most ps

-- facts of a miss in a table whose ticks are at most `last`: C and a waiting job's deadline are at most 1,000,000
pub record FactsWithinLimits (last : ℕ) (f : Facts) : Type 0 where
  pub position : f.position ≤ most_tasks
  pub tick : digit_count f.tick ≤ digit_count last
  pub short : f.had < f.length
  pub length : f.length ≤ most_time
  pub others : Ascending 0 f.position f.others
  pub together : CountsWithin f.had most_time f.others

-- the longest sentence for ticks up to this one: 700 bytes up to 1,000,000,000 (`sentence-short`)
abbrev pub longest_sentence : ℕ → ℕ
longest_sentence last = 690 + digit_count last

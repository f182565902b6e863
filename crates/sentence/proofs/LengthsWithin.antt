-- No sentence is longer than the limit of the ticks lets it be: where no number applies the words are a table that passes, with a first miss.
-- Assumes nothing.
use mathlib.Core.Path.{◌≡◌, refl}
use mathlib.Core.Bool.{Bool, true, false}
use mathlib.Core.List.{List}
use Prim.Native.Nat.{ℕ, suc, ◌≤◌}
use native.Mathlib.Omega.{arith}
use lib.ListN.{length}
use Rattle.model.specs.Search.{any}
use Rattle.model.specs.Task.{AllValid}
use Rattle.model.specs.Horizon.{horizon}
use Rattle.model.specs.Verdict.{missed_in, first_miss}
use Rattle.table.specs.Limits.{most_horizon}
use Rattle.table.specs.Words.{table_of}
use Rattle.table.specs.Numbers as table
use Rattle.table.proofs.Passed.{passed-count, passed-inside, passed-valid, passed-horizon}
use Rattle.sentence.specs.Limits.{longest_sentence}
use Rattle.sentence.specs.Sentence.{sentence_text}
use Rattle.sentence.specs.Waiting.{miss_place, facts_in, facts_of}
use Rattle.sentence.specs.Numbers.{words, seventeen, NoneApplies}
use Rattle.sentence.proofs.Answers.{never, first_found, first-within}
use Rattle.sentence.proofs.Misses.{miss-at-most}
use Rattle.sentence.proofs.Waiting.{missed_here}

module _ (ws : List ℕ) (bytes : ℕ) (none : NoneApplies ws bytes) where
  passed : table.NoneApplies ws
  passed n p x = none n p (words n p x)

  sound : AllValid (table_of ws)
  sound = passed-valid ws passed

  found : any (suc (horizon (table_of ws))) (missed_in (table_of ws)) ≡ true
  found = go (any (suc (horizon (table_of ws))) (missed_in (table_of ws))) refl
    where
      go : (b : Bool) → any (suc (horizon (table_of ws))) (missed_in (table_of ws)) ≡ b → any (suc (horizon (table_of ws))) (missed_in (table_of ws)) ≡ true
      go true e = e
      go false e = absurd (none 17 0 (seventeen (never (table_of ws) sound e)))

  -- THEOREM (sentence-longest): the sentence has at most 700 bytes
  pub sentence-longest : length (sentence_text (facts_of ws)) ≤ longest_sentence most_horizon
  unfolding facts_in
  sentence-longest =
      let s = table_of ws in
      let f = first_found s sound found in
      let below = (missed_here s sound (first_miss s) (miss_place s) f).0 in
      let inside = passed-inside ws passed (miss_place s) below in
      let count = passed-count ws passed in
      let within = first-within s sound found in
      let last = passed-horizon ws passed in
      miss-at-most s sound (first_miss s) (miss_place s) f (omega arith) (omega arith) (omega arith) (omega arith)

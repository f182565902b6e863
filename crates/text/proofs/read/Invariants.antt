-- The answer from the start is the answer for the numbers read and the lines left.
use Rattle.std.proofs.Common.{List, ◌≡◌, ◌≤◌, ◌-◌, ℕ, length, drop}
use Rattle.text.specs.Format.{words_of, lines, most_numbers}
use Rattle.text.specs.Input.{pad_numbers}
use Rattle.text.proofs.Reading.{words_from}
use Rattle.text.proofs.read.Given as goal

abbrev pub invariant-loop-at : goal.invariant-loop-at
invariant-loop-at l =
    (ws : List ℕ) × (l.words ≡ pad_numbers ws) × (l.count ≡ length ws) × (length ws ≤ most_numbers) × (words_from ws (lines (drop l.at l.bytes)) ≡ words_of l.bytes)

abbrev pub decreases-loop-at : goal.decreases-loop-at
decreases-loop-at l = length l.bytes - l.at

-- The places below i are put together, the others are as they were.
use Rattle.std.proofs.Common.{◌≡◌, ℕ, ◌≤◌, ◌<◌, length, get_or, bit_or}
use Rattle.rule.proofs.merge.Given as goal

abbrev pub invariant-loop-i : goal.invariant-loop-i
invariant-loop-i l = record {
  size : length l.sets ≡ 32;
  below : (p : ℕ) → p < l.i → get_or l.sets p 0 ≡ bit_or (get_or l.fn.sets p 0) (get_or l.more p 0);
  above : (p : ℕ) → l.i ≤ p → get_or l.sets p 0 ≡ get_or l.fn.sets p 0;
}

use Rattle.std.proofs.Common.{◌≡◌, Bool, ℕ, ◌<◌}
use Rattle.model.proofs.Gathered.{Gathered}
use Rattle.model.proofs.sets.places_where.Given as goal

-- the set has those of the first i places at which the test holds, whatever says so
abbrev pub invariant-loop-i : goal.invariant-loop-i
invariant-loop-i g l = (f : ℕ → Bool) → ((p : ℕ) (r : Bool) → p < l.count → g.F.Fn.post l.holds (p, tt) r → r ≡ f p) → Gathered f l.i l.set

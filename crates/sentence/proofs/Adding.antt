-- The counts of 32 places, one more for each place of a set: place after place as the set is walked, and the value at a place.
use mathlib.Core.Path.{◌≡◌, sym, ap, ◌∙◌}
use mathlib.Core.Bool.{Bool, cond}
use mathlib.Core.List.{List, []}
use Prim.Native.Nat.{ℕ, ◌+◌, ◌-◌, ◌≤◌, ◌<◌}
use native.Mathlib.Omega.{arith}
use lib.ListN.{length, get_or, set, take, replicate, length-append, length-replicate}
use lib.Seq.{length-take-le}
use Rattle.model.specs.Search.{bit}
use Rattle.model.specs.Members.{members}
use Rattle.simulation.specs.Places.{map_places}
use Rattle.simulation.proofs.Places.{each_none, each-still, each_more, each_same, each-length, each_at}
use Rattle.simulation.proofs.SetWalk.{taken, Off, none-taken, all-taken}
use Rattle.sentence.specs.Counting.{added, above}

-- one more for each place that passes the test
abbrev pub counted : (ℕ → Bool) → List ℕ → List ℕ
counted f ran = map_places (λ q n. cond (f q) (n + 1) n) ran

-- nothing is taken off the set yet
pub counted_none : (granted rest : ℕ) (ran : List ℕ) → rest ≡ granted → counted (taken granted rest) ran ≡ ran
counted_none granted rest ran e =
    each_none (λ q n. cond (taken granted rest q) (n + 1) n) ran (λ q x. ap (λ (b : Bool). cond b (x + 1) x) (none-taken granted rest e q))

module _ (granted rest p others : ℕ) (ran now : List ℕ) (w : Off granted rest p others) (e : now ≡ counted (taken granted rest) ran) where
  -- the lowest place still has its count
  pub count-still : get_or now p 0 ≡ get_or ran p 0
  count-still =
      ap (λ (l : List ℕ). get_or l p 0) e
      ∙ each-still (λ q n. cond (taken granted rest q) (n + 1) n) ran p (λ x. ap (λ (b : Bool). cond b (x + 1) x) w.off)

  -- .. and then one more
  pub counted-more : set now p (get_or now p 0 + 1) ≡ counted (taken granted others) ran
  counted-more =
      ap (λ (l : List ℕ). set l p (get_or now p 0 + 1)) e
      ∙ each_more (λ q n. cond (taken granted rest q) (n + 1) n) (λ q n. cond (taken granted others q) (n + 1) n) ran p (get_or now p 0 + 1)
      (ap (λ (b : Bool). cond b (get_or ran p 0 + 1) (get_or ran p 0)) w.on ∙ ap (λ (x : ℕ). x + 1) (sym count-still))
      (λ q x ne. ap (λ (b : Bool). cond b (x + 1) x) (w.same q ne))

-- nothing is left of the set
pub counted-all : (granted rest : ℕ) (ran : List ℕ) → members rest ≡ [] → counted (taken granted rest) ran ≡ added granted ran
counted-all granted rest ran none =
    each_same (λ q n. cond (taken granted rest q) (n + 1) n) (λ q n. cond (bit granted q) (n + 1) n) ran
    (λ q. ap (λ (b : Bool). cond b (get_or ran q 0 + 1) (get_or ran q 0)) (all-taken granted rest none q))

-- the value at a place
pub added-at : (granted : ℕ) (ran : List ℕ) (q : ℕ) → q < length ran → get_or (added granted ran) q 0 ≡ cond (bit granted q) (get_or ran q 0 + 1) (get_or ran q 0)
added-at granted ran q l = each_at (λ q n. cond (bit granted q) (n + 1) n) ran q l

pub added-length : (granted : ℕ) (ran : List ℕ) → length (added granted ran) ≡ length ran
added-length granted ran = each-length (λ q n. cond (bit granted q) (n + 1) n) ran

-- THE COUNTS OF THE PLACES ABOVE

-- as many as before
pub above-length : (i : ℕ) (ran : List ℕ) → i ≤ 32 → length ran ≡ 32 → length (above i ran) ≡ 32
above-length i ran h l =
    omega (arith, length-append (take i ran) (replicate (32 - i) 0), length-take-le i ran (omega arith), length-replicate {A = ℕ} (32 - i) 0)

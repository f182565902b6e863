-- A list that has several numbers for each of 32 places: a store in one part of it, and a read. The machine of a list of three for each.
use mathlib.Core.Path.{◌≡◌, refl, ap, ◌∙◌}
use mathlib.Core.List.{List, [], ◌∷◌, ◌++◌}
use Prim.Native.Nat.{ℕ, zero, suc, ◌+◌, ◌-◌, ◌≤◌, ◌<◌}
use native.Mathlib.Nat.{zero-add, suc-add, not-suc-le-zero, le_of_suc-le-suc}
use native.Mathlib.Omega.{arith}
use lib.ListN.{length, get_or, set, take, drop, length-drop, take-append-drop}
use lib.Seq.{get_or-take, get_or-drop, take_all, take-set-le, length-take-le}
use Rattle.simulation.specs.Places.{segment}
use Rattle.simulation.specs.Machine.{Machine, machine, machine_of, Sized}
use Rattle.simulation.proofs.Moves.{same-machine}

-- a store in the front, and in the rest, of a list
take-set : (n : ℕ) (xs : List ℕ) (i v : ℕ) → take n (set xs i v) ≡ set (take n xs) i v
take-set zero xs i v = refl
take-set (suc n) [] i v = refl
take-set (suc n) (x ∷ xs) zero v = refl
take-set (suc n) (x ∷ xs) (suc i) v = ap (λ (l : List ℕ). x ∷ l) (take-set n xs i v)

drop-set : (k : ℕ) (xs : List ℕ) (i v : ℕ) → drop k (set xs (k + i) v) ≡ set (drop k xs) i v
drop-set zero xs i v = ap (λ (j : ℕ). set xs j v) (zero-add i)
drop-set (suc k) [] i v = refl
drop-set (suc k) (x ∷ xs) i v = ap (λ (j : ℕ). drop (suc k) (set (x ∷ xs) j v)) (suc-add k i) ∙ drop-set k xs i v

drop-set-lt : (k : ℕ) (xs : List ℕ) (i v : ℕ) → i < k → drop k (set xs i v) ≡ drop k xs
drop-set-lt zero xs i v h = absurd (not-suc-le-zero h)
drop-set-lt (suc k) [] i v h = refl
drop-set-lt (suc k) (x ∷ xs) zero v h = refl
drop-set-lt (suc k) (x ∷ xs) (suc i) v h = drop-set-lt k xs i v (le_of_suc-le-suc h)

-- a store before the rest leaves it, and one at k + i is one at i of it
drop-set-ge : (k : ℕ) (xs : List ℕ) (i v : ℕ) → k ≤ i → drop k (set xs i v) ≡ set (drop k xs) (i - k) v
drop-set-ge k xs i v h =
    let e : i ≡ k + (i - k) = omega arith in
    ap (λ (j : ℕ). drop k (set xs j v)) e ∙ drop-set k xs (i - k) v

-- PARTS

pub part_at : (k : ℕ) (xs : List ℕ) (p : ℕ) → p < 32 → get_or (segment k xs) p 0 ≡ get_or xs (k + p) 0
unfolding segment
part_at k xs p h = get_or-take 32 (drop k xs) p 0 h ∙ get_or-drop k xs p 0

pub front_at : (xs : List ℕ) (p : ℕ) → p < 32 → get_or (segment 0 xs) p 0 ≡ get_or xs p 0
unfolding segment
front_at xs p h = get_or-take 32 xs p 0 h

pub part-set : (k : ℕ) (xs : List ℕ) (p v : ℕ) → segment k (set xs (k + p) v) ≡ set (segment k xs) p v
unfolding segment
part-set k xs p v = ap (take 32) (drop-set k xs p v) ∙ take-set 32 (drop k xs) p v

pub part-before : (k : ℕ) (xs : List ℕ) (i v : ℕ) → k + 32 ≤ i → segment k (set xs i v) ≡ segment k xs
unfolding segment
part-before k xs i v h =
    ap (take 32) (drop-set-ge k xs i v (omega arith)) ∙ take-set-le 32 (drop k xs) (i - k) v (omega arith)

pub part-after : (k : ℕ) (xs : List ℕ) (i v : ℕ) → i < k → segment k (set xs i v) ≡ segment k xs
unfolding segment
part-after k xs i v h = ap (take 32) (drop-set-lt k xs i v h)

pub part_length : (k : ℕ) (xs : List ℕ) → k + 32 ≤ length xs → length (segment k xs) ≡ 32
unfolding segment
part_length k xs h = length-take-le 32 (drop k xs) (omega (arith, length-drop k xs))

-- A LIST OF TWO for each place

-- a store at each of its parts
module _ (xs : List ℕ) (p v w : ℕ) (h : p < 32) where
  pub pair-first : segment 0 (set (set xs p v) (32 + p) w) ≡ set (segment 0 xs) p v
  pair-first = part-before 0 (set xs p v) (32 + p) w (omega arith) ∙ unfold segment in take-set 32 xs p v

  pub pair-second : segment 32 (set (set xs p v) (32 + p) w) ≡ set (segment 32 xs) p w
  pair-second = part-set 32 (set xs p v) p w ∙ ap (λ (l : List ℕ). set l p w) (part-after 32 xs p v (omega arith))

-- it is its two parts
pub pair_parts : (xs : List ℕ) → length xs ≡ 64 → segment 0 xs ++ segment 32 xs ≡ xs
unfolding segment
pair_parts xs e = ap (λ (l : List ℕ). take 32 xs ++ l) (take_all 32 (drop 32 xs) (omega (arith, length-drop 32 xs))) ∙ take-append-drop 32 xs

-- THE MACHINE of a list of 96

-- a store at each of its parts
module _ (xs : List ℕ) (c p v : ℕ) (h : p < 32) where
  pub store-left : machine_of (set xs p v) c ≡ machine (set (segment 0 xs) p v) (segment 32 xs) (segment 64 xs) c
  store-left = same-machine (unfold segment in take-set 32 xs p v) (part-after 32 xs p v (omega arith)) (part-after 64 xs p v (omega arith)) refl

  pub store-event : machine_of (set xs (32 + p) v) c ≡ machine (segment 0 xs) (set (segment 32 xs) p v) (segment 64 xs) c
  store-event = same-machine (part-before 0 xs (32 + p) v (omega arith)) (part-set 32 xs p v) (part-after 64 xs (32 + p) v (omega arith)) refl

  pub store-next : machine_of (set xs (64 + p) v) c ≡ machine (segment 0 xs) (segment 32 xs) (set (segment 64 xs) p v) c
  store-next = same-machine (part-before 0 xs (64 + p) v (omega arith)) (part-before 32 xs (64 + p) v (omega arith)) (part-set 64 xs p v) refl

-- a store at all three parts, as a release makes it
pub stored-all :
    (xs : List ℕ) (c p v w x : ℕ) → p < 32
    → machine_of (set (set (set xs p v) (32 + p) w) (64 + p) x) c ≡ machine (set (segment 0 xs) p v) (set (segment 32 xs) p w) (set (segment 64 xs) p x) c
stored-all xs c p v w x h =
    store-next (set (set xs p v) (32 + p) w) c p x h
    ∙ (ap (λ (m : Machine). machine m.left m.event (set m.next p x) c) (store-event (set xs p v) c p w h)
    ∙ ap (λ (m : Machine). machine m.left (set m.event p w) (set m.next p x) c) (store-left xs c p v h))

-- .. and at the last two, as the start makes it
pub stored-later :
    (xs : List ℕ) (c p w x : ℕ) → p < 32
    → machine_of (set (set xs (32 + p) w) (64 + p) x) c ≡ machine (segment 0 xs) (set (segment 32 xs) p w) (set (segment 64 xs) p x) c
stored-later xs c p w x h =
    store-next (set xs (32 + p) w) c p x h
    ∙ ap (λ (m : Machine). machine m.left m.event (set m.next p x) c) (store-event xs c p w h)

pub sized_of : (xs : List ℕ) (c : ℕ) → length xs ≡ 96 → Sized (machine_of xs c)
sized_of xs c e = record {
  left = part_length 0 xs (omega arith);
  event = part_length 32 xs (omega arith);
  next = part_length 64 xs (omega arith);
}

-- A set of gathered places is empty exactly if no place passes the test, and its lowest is the first that does.
use mathlib.Core.Path.{◌≡◌, sym, ap, ◌∙◌}
use mathlib.Core.Bool.{Bool, true, false, ◌&&◌}
use Prim.Native.Nat.{ℕ, ◌^◌, ◌<◌}
use lib.Count.{count_trailing_zeros}
use lib.Dec.{ltb}
use borrow.Author.Tests.{lt-ltb, ltb-true}
use native.Mathlib.Omega.{arith}
use Rattle.model.specs.Search.{any, bit, least}
use Rattle.model.proofs.Bools.{and_left, and_right}
use Rattle.model.proofs.Digits.{bit-none, lowest-of}
use Rattle.model.proofs.Search.{any_of, least-is, none_any}
use Rattle.model.proofs.Gathered.{Gathered}

module _ (f : ℕ → Bool) (n x : ℕ) (g : Gathered f n x) where
  below : (p : ℕ) → p < n → bit x p ≡ f p
  below p l = g p ∙ ap (λ (t : Bool). t && f p) (lt-ltb p n l)

  -- no place
  pub none-gathered : x ≡ 0 → any n f ≡ false
  none-gathered e = none_any n f (λ p l. sym (below p l) ∙ (ap (λ (y : ℕ). bit y p) e ∙ bit-none p))

  -- or some, of which the lowest is the first
  pub some-gathered : (k : ℕ) → x < 2 ^ k → 0 < x → (count_trailing_zeros k x < n) × (any n f ≡ true) × (least n f ≡ count_trailing_zeros k x)
  some-gathered k h p =
      let l = (lowest-of k x p h).1 in
      let q = count_trailing_zeros k x in
      let e : ltb q n && f q ≡ true = sym (g q) ∙ l.here in
      let i : q < n = ltb-true q n (and_left (ltb q n) (f q) e) in
      let t : f q ≡ true = and_right (ltb q n) (f q) e in
      (i, any_of n f q i t, least-is n f q i t (λ j m. sym (below j (omega arith)) ∙ l.below j m))

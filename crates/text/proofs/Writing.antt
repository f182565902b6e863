-- Bytes written into a buffer: before what was written, and after it.
use mathlib.Core.List.{List, [], ◌∷◌, ◌++◌, append_assoc}
use mathlib.Core.Path.{◌≡◌, refl, ap, ap₂, sym, ◌∙◌, subst₂}
use Prim.Native.Nat.{ℕ, zero, suc, ◌+◌, ◌-◌, ◌/◌, ◌%◌, ◌≤◌, ◌<◌}
use native.Mathlib.Nat.{add-zero, not-suc-le-zero}
use native.Mathlib.Numerals.{add-one}
use native.Mathlib.Omega.{arith}
use lib.ListN.{length, take, drop, set, get_or, take-append-drop, length-append, length-drop}
use lib.Seq.{take-suc, append_snoc, set_at, set_split, take_at, drop-append-add, drop-drop, length-take-le}
use Rattle.text.specs.Decimal.{last_digits}
use Rattle.text.specs.Written.{written, Put}

-- nothing is written
pub written_none : (l : List ℕ) (i : ℕ) → written l i [] ≡ l
written_none l i = rw add-zero (take-append-drop i l)

-- one byte before what was written
pub written-before : (l : List ℕ) (i d : ℕ) (s : List ℕ) → i < length l → set (written l (suc i) s) i d ≡ written l i (d ∷ s)
written-before l i d s h =
    let n : suc i + length s ≡ i + suc (length s) = omega arith in
    let e : take (suc i) l ++ (s ++ drop (suc i + length s) l) ≡ take i l ++ (get_or l i 0 ∷ (s ++ drop (suc i + length s) l)) =
    ap (λ (p : List ℕ). p ++ (s ++ drop (suc i + length s) l)) (take-suc l i 0 h) ∙ append_snoc (take i l) (get_or l i 0) (s ++ drop (suc i + length s) l) in
    ap (λ (p : List ℕ). set p i d) e
    ∙ set_at (take i l) (get_or l i 0) (s ++ drop (suc i + length s) l) d i (length-take-le i l (omega arith))
    ∙ ap (λ (k : ℕ). take i l ++ (d ∷ (s ++ drop k l))) n

-- the buffer is as long as it was
pub written-length : (l : List ℕ) (i : ℕ) (s : List ℕ) → i + length s ≤ length l → length (written l i s) ≡ length l
written-length l i s h = simp (length-append, length-drop) (rw (length-take-le i l (omega arith)) (omega arith))

-- the last digit of a number, before what was written
pub last-before : (k n : ℕ) (s : List ℕ) → 0 < k → last_digits (k - 1) (n / 10) ++ ((48 + n % 10) ∷ s) ≡ last_digits k n ++ s
unfolding last_digits
last-before zero n s h = absurd (not-suc-le-zero h)
last-before (suc k) n s h =
    let e : suc k - 1 ≡ k = omega arith in
    rw e (sym (append_snoc (last_digits k (n / 10)) (48 + n % 10) s))

-- one byte
pub written_one : (l : List ℕ) (i d : ℕ) → i < length l → set l i d ≡ written l i (d ∷ [])
written_one l i d h =
    let e : suc i ≡ i + 1 = omega arith in
    set_split l i d h ∙ ap (λ (k : ℕ). take i l ++ (d ∷ drop k l)) e

-- more bytes after what was written
pub written_after :
    (l : List ℕ) (i : ℕ) (s u : List ℕ) → i + length s + length u ≤ length l → written (written l i s) (i + length s) u ≡ written l i (s ++ u)
written_after l i s u h =
    let a : List ℕ = take i l ++ s in
    let d : List ℕ = drop (i + length s) l in
    let n : length a ≡ i + length s = length-append (take i l) s ∙ ap (λ (k : ℕ). k + length s) (length-take-le i l (omega arith)) in
    let tail : drop (i + length s + length u) (a ++ d) ≡ drop (i + length s + length u) l =
    ap (λ (k : ℕ). drop (k + length u) (a ++ d)) (sym n) ∙ drop-append-add a d (length u) ∙ drop-drop (length u) (i + length s) l in
    let k : i + length s + length u ≡ i + length (s ++ u) = omega (arith, length-append s u) in
    ap (λ (w : List ℕ). take (i + length s) w ++ (u ++ drop (i + length s + length u) w)) (sym (append_assoc (take i l) s d))
    ∙ ap₂ (λ (x y : List ℕ). x ++ (u ++ y)) (take_at a d (i + length s) n) (tail ∙ ap (λ (j : ℕ). drop j l) k)
    ∙ append_assoc (take i l) s (u ++ drop (i + length (s ++ u)) l)
    ∙ ap (λ (x : List ℕ). take i l ++ x) (sym (append_assoc s u (drop (i + length (s ++ u)) l)))

-- THE SAME OF WHAT WAS PUT

pub put-none : (l : List ℕ) (i : ℕ) → Put l i [] l i
put-none l i = record { bytes = sym (written_none l i); ends = omega arith }

pub put_one : (l : List ℕ) (i d : ℕ) → i < length l → Put l i (d ∷ []) (set l i d) (i + 1)
put_one l i d h = record { bytes = written_one l i d h; ends = refl }

pub put-length : {a b : List ℕ} {i j : ℕ} {s : List ℕ} → Put a i s b j → j ≤ length a → length b ≡ length a
put-length {a} {b} {i} {j} {s} p h = ap length p.bytes ∙ written-length a i s (omega (arith, p.ends))

pub put_then : {a b c : List ℕ} {i j k : ℕ} {s u : List ℕ} → Put a i s b j → Put b j u c k → k ≤ length a → Put a i (s ++ u) c k
put_then {a} {b} {c} {i} {j} {k} {s} {u} p q h = record {
  bytes =
      q.bytes ∙ ap₂ (λ (w : List ℕ) (n : ℕ). written w n u) p.bytes p.ends
      ∙ written_after a i s u (omega (arith, p.ends, q.ends));
  ends = omega (arith, p.ends, q.ends, length-append s u);
}

-- one byte more of a list that is copied
pub put_next :
    (l m : List ℕ) (i k : ℕ) (s : List ℕ) → Put l i (take k s) m (i + k) → k < length s → i + k < length l → length m ≡ length l
    → Put l i (take (k + 1) s) (set m (i + k) (get_or s k 0)) (i + (k + 1))
put_next l m i k s p h f e =
    let one : Put m (i + k) (get_or s k 0 ∷ []) (set m (i + k) (get_or s k 0)) (i + k + 1) = put_one m (i + k) (get_or s k 0) (omega arith) in
    let q : Put l i (take k s ++ (get_or s k 0 ∷ [])) (set m (i + k) (get_or s k 0)) (i + k + 1) = put_then p one (omega arith) in
    let n : i + k + 1 ≡ i + (k + 1) = omega arith in
    let t : take k s ++ (get_or s k 0 ∷ []) ≡ take (k + 1) s = sym (ap (λ (j : ℕ). take j s) (add-one k) ∙ take-suc s k 0 h) in
    subst₂ (λ (x : List ℕ) (j : ℕ). Put l i x (set m (i + k) (get_or s k 0)) j) t n q

-- what was written at the front is there
pub put_front : {a b : List ℕ} {j : ℕ} {s : List ℕ} → Put a 0 s b j → take j b ≡ s
put_front {a} {b} {j} {s} p =
    ap (take j) p.bytes ∙ take_at s (drop (0 + length s) a) j (omega (arith, p.ends))

-- A byte's value has one digit below 10, two below 100, and else three.
use mathlib.Core.List.{List, [], ◌∷◌}
use mathlib.Core.Path.{◌≡◌, sym, subst}
use Prim.Native.Nat.{ℕ, ◌+◌, ◌/◌, ◌%◌, ◌≤◌, ◌<◌}
use native.Mathlib.Omega.{arith}
use lib.ListN.{length, set, length-set}
use Rattle.text.specs.Decimal.{decimal}
use Rattle.text.specs.Written.{Put}
use Rattle.text.proofs.Decimals.{decimal-one, decimal-length, count_most}
use Rattle.text.proofs.Writing.{put_one, put_then}
use Rattle.text.proofs.RowText.{decimal-two}
use Rattle.text.proofs.row.put_byte.Goals as goal

-- one digit, and two
one : (l : List ℕ) (i n : ℕ) → n < 10 → i < length l → Put l i (decimal n) (set l i (48 + n)) (i + 1)
one l i n h f = subst (λ (s : List ℕ). Put l i s (set l i (48 + n)) (i + 1)) (sym (decimal-one n h)) (put_one l i (48 + n) f)

two : (l : List ℕ) (i n : ℕ) → 10 ≤ n → n < 100 → i + 1 < length l → Put l i (decimal n) (set (set l i (48 + n / 10)) (i + 1) (48 + n % 10)) (i + 2)
two l i n h g f =
    let m = set l i (48 + n / 10) in
    let e : length m ≡ length l = length-set l i (48 + n / 10) in
    let k : i + 1 + 1 ≡ i + 2 = omega arith in
    let p : Put l i ((48 + n / 10) ∷ (48 + n % 10) ∷ []) (set m (i + 1) (48 + n % 10)) (i + 1 + 1) =
    put_then (put_one l i (48 + n / 10) (omega arith)) (put_one m (i + 1) (48 + n % 10) (omega arith)) (omega arith) in
    subst (λ (j : ℕ). Put l i (decimal n) (set m (i + 1) (48 + n % 10)) j) k
    (subst (λ (s : List ℕ). Put l i s (set m (i + 1) (48 + n % 10)) (i + 1 + 1)) (sym (decimal-two n h g)) p)

pub returns-then-number-lt10 : goal.returns-then-number-lt10
returns-then-number-lt10 c = let a = c.args in (one a.text.now a.at a.number c.if-number-lt10.true (omega arith), omega arith)

pub returns-then-number-lt100 : goal.returns-then-number-lt100
returns-then-number-lt100 c =
    let a = c.args in
    (two a.text.now a.at a.number c.if-number-lt10.false c.if-number-lt100.true (omega arith), omega arith)

pub put-requires : goal.put-requires
put-requires c = omega (arith, count_most 2 c.args.number (omega arith))

pub returns : goal.returns
returns c =
    let a = c.args in
    (c.put.ensures, omega (arith, c.put.ensures.ends, decimal-length a.number, count_most 2 a.number (omega arith)))

-- The order in which the numbers are checked: what comes before a number, and that one number at most is the first.
use mathlib.Core.Path.{◌≡◌, refl, sym}
use mathlib.Core.Bool.{Bool, true, false, ◌&&◌, cond}
use mathlib.Core.List.{List}
use mathlib.Core.Logic.{◌⊎◌, inl, inr, ⊎_elim}
use Prim.Native.Nat.{ℕ, ◌-◌, ◌≤◌, ◌<◌}
use native.Mathlib.Omega.{arith}
use lib.Dec.{eqb, ltb}
use borrow.Author.Tests.{ltb-true, ltb-false}
use Rattle.table.specs.Numbers.{Applies, one, two, three, nineteen, four, five, six, seven, eight, nine, place, Earlier, FirstOf}

-- the place of 7 and 8, which they share
abbrev pub shared : ℕ
shared = 8

-- the number at a place that no two share
abbrev pub number_at : ℕ → ℕ
number_at k = cond (eqb k 4) 19 (cond (ltb 4 k && ltb k shared) (k - 1) k)

-- a number that applies to a table: it is at one of the places 1 to 9, and at a place that is not shared it is the only one
pub record Placed (n : ℕ) : Type 0 where
  pub from : 1 ≤ place n
  pub most : place n < 10
  pub alone : (place n ≡ shared → ⊥) → n ≡ number_at (place n)
  pub pair : place n ≡ shared → (n ≡ 7) ⊎ (n ≡ 8)

placed-alone : (n : ℕ) → 1 ≤ place n → place n < 10 → (place n ≡ shared → ⊥) → n ≡ number_at (place n) → Placed n
placed-alone n a b c d = record { from = a; most = b; alone = λ x. d; pair = λ x. absurd (c x) }

pub applies-ordered : (ws : List ℕ) (n p : ℕ) → Applies ws n p → Placed n
unfolding place
applies-ordered ws n p (one h) = placed-alone 1 (omega arith) (omega arith) (λ x. omega arith) refl
applies-ordered ws n p (two h) = placed-alone 2 (omega arith) (omega arith) (λ x. omega arith) refl
applies-ordered ws n p (three h) = placed-alone 3 (omega arith) (omega arith) (λ x. omega arith) refl
applies-ordered ws n p (nineteen h) = placed-alone 19 (omega arith) (omega arith) (λ x. omega arith) refl
applies-ordered ws n p (four h) = placed-alone 4 (omega arith) (omega arith) (λ x. omega arith) refl
applies-ordered ws n p (five k c h) = placed-alone 5 (omega arith) (omega arith) (λ x. omega arith) refl
applies-ordered ws n p (six k c h) = placed-alone 6 (omega arith) (omega arith) (λ x. omega arith) refl
applies-ordered ws n p (seven q o h) = record { from = omega arith; most = omega arith; alone = λ x. absurd (x refl); pair = λ x. inl refl }
applies-ordered ws n p (eight q o h) = record { from = omega arith; most = omega arith; alone = λ x. absurd (x refl); pair = λ x. inr refl }
applies-ordered ws n p (nine h) = placed-alone 9 (omega arith) (omega arith) (λ x. omega arith) refl

-- of two numbers one is lower, or they are the same
order : (a b : ℕ) → (a < b) ⊎ ((b < a) ⊎ (a ≡ b))
order a b = go (ltb a b) refl (ltb b a) refl
  where
    go : (t : Bool) → ltb a b ≡ t → (u : Bool) → ltb b a ≡ u → (a < b) ⊎ ((b < a) ⊎ (a ≡ b))
    go true e u f = inl (ltb-true a b e)
    go false e true f = inr (inl (ltb-true b a f))
    go false e false f = let x = ltb-false a b e in let y = ltb-false b a f in inr (inr (omega arith))

-- nothing is checked before itself ..
pub not-before-itself : (n p : ℕ) → ¬ Earlier n p n p
not-before-itself n p x = ⊎_elim (λ l. omega arith) (λ l. ⊎_elim (λ y. omega arith) (λ y. omega arith) l.1) x

-- .. nor is a number of a later place; the numbers of the plan, the run and the sentence come after those of the table ..
pub later : (m q n p : ℕ) → place n < place m → ¬ Earlier m q n p
later m q n p l (inl h) = omega arith
later m q n p l (inr (e, h)) = omega arith

pub number-most : (ws : List ℕ) (n p : ℕ) → Applies ws n p → place n < 10
number-most ws n p a = (applies-ordered ws n p a).most

-- .. and of two numbers with their positions one is checked before the other, or they are the same
ordered : (n p m q : ℕ) → Earlier n p m q ⊎ (Earlier m q n p ⊎ ((n ≡ m) × (p ≡ q)))
ordered n p m q = go (order (place n) (place m)) (order p q) (order n m)
  where
    go : (place n < place m) ⊎ ((place m < place n) ⊎ (place n ≡ place m)) → (p < q) ⊎ ((q < p) ⊎ (p ≡ q)) → (n < m) ⊎ ((m < n) ⊎ (n ≡ m))
        → Earlier n p m q ⊎ (Earlier m q n p ⊎ ((n ≡ m) × (p ≡ q)))
    go (inl a) b c = inl (inl a)
    go (inr (inl a)) b c = inr (inl (inl a))
    go (inr (inr a)) (inl b) c = inl (inr (a, inl b))
    go (inr (inr a)) (inr (inl b)) c = inr (inl (inr (sym a, inl b)))
    go (inr (inr a)) (inr (inr b)) (inl c) = inl (inr (a, inr (b, c)))
    go (inr (inr a)) (inr (inr b)) (inr (inl c)) = inr (inl (inr (sym a, inr (sym b, c))))
    go (inr (inr a)) (inr (inr b)) (inr (inr c)) = inr (inr (c, b))

-- so one at most is the first of the numbers that apply
pub first-only : (applies : ℕ → ℕ → Type 0) (n p m q : ℕ) → FirstOf applies n p → FirstOf applies m q → (n ≡ m) × (p ≡ q)
first-only applies n p m q f g =
    ⊎_elim (λ e. absurd (g.1 n p e f.0)) (λ x. ⊎_elim (λ e. absurd (f.1 m q e g.0)) (λ e. e) x) (ordered n p m q)

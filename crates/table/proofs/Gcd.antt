-- Euclid's step preserves the common divisors, at its end the greatest of them is found, and the least common multiple is the
-- one number over it, times the other.
use mathlib.Core.Path.{◌≡◌, sym, ap, ◌∙◌, subst, subst⁻¹}
use Prim.Native.Nat.{ℕ, ◌*◌, ◌/◌, ◌%◌, ◌<◌, ◌∣◌}
use native.Mathlib.Nat.{dvd-mul_left, dvd-mul_right, dvd_antisymm, dvd-mod_iff, div-mul_cancel, mul-div_cancel', mul_comm, mul_assoc}
use native.Mathlib.Nat.{dvd_of_mul-dvd-mul_left, dvd_of_mul-dvd-mul_right, mul-dvd-mul_left, mul-dvd-mul_right, pos_of_dvd_of_pos, dvd_refl, dvd-zero}
use Rattle.model.specs.Horizon.{lcm}
use Rattle.model.proofs.Multiples.{lcm-left, lcm-right, lcm-divides}
use Rattle.table.specs.Gcd.{Gcd}

-- x and y have the common divisors of a and b
pub record SameDivisors (a b x y : ℕ) : Type 0 where
  pub kept : (d : ℕ) → d ∣ a → d ∣ b → (d ∣ x) × (d ∣ y)
  pub back : (d : ℕ) → d ∣ x → d ∣ y → (d ∣ a) × (d ∣ b)

pub same_start : (a b : ℕ) → SameDivisors a b a b
same_start a b = record { kept = λ d p q. (p, q); back = λ d p q. (p, q) }

pub same_step : (a b x y : ℕ) → SameDivisors a b x y → SameDivisors a b y (x % y)
same_step a b x y s = record {
  kept = λ d p q. let both = s.kept d p q in (both.1, (dvd-mod_iff d both.1).1 both.0);
  back = λ d p q. s.back d ((dvd-mod_iff d p).0 q) p;
}

pub same_end : (a b x y : ℕ) → SameDivisors a b x y → y ≡ 0 → Gcd a b x
same_end a b x y s e =
    let both = s.back x (dvd_refl x) (subst⁻¹ (λ (n : ℕ). x ∣ n) e (dvd-zero x)) in
    record { left = both.0; right = both.1; greatest = λ d p q. (s.kept d p q).0 }

-- a law of the definition, which nothing cites: there is one greatest common divisor
pub gcd-unique : (a b g h : ℕ) → Gcd a b g → Gcd a b h → g ≡ h
gcd-unique a b g h p q = dvd_antisymm (q.greatest g p.left p.right) (p.greatest h q.left q.right)

-- the least common multiple is one number over the greatest common divisor, times the other
pub lcm-by-gcd : (a b g : ℕ) → 0 < a → 0 < b → Gcd a b g → lcm a b ≡ a / g * b
lcm-by-gcd a b g ha hb d = dvd_antisymm below above
  where
    both : a * (b / g) ≡ a / g * b
    both =
        ap (λ (x : ℕ). x * (b / g)) (sym (div-mul_cancel g d.left))
        ∙ (mul_assoc (a / g) g (b / g) ∙ ap (λ (x : ℕ). a / g * x) (mul-div_cancel' g d.right))

    below : lcm a b ∣ a / g * b
    below = lcm-divides a b (a / g * b) ha hb (subst (λ (x : ℕ). a ∣ x) both (dvd-mul_right a (b / g))) (dvd-mul_left b (a / g))

    -- what is left of the product divides both numbers, and so the greatest common divisor
    rest : ℕ
    rest = a * b / lcm a b

    product : lcm a b * rest ≡ a * b
    product = mul-div_cancel' (lcm a b) (lcm-divides a b (a * b) ha hb (dvd-mul_right a b) (dvd-mul_left b a))

    rest-left : rest ∣ a
    rest-left =
        dvd_of_mul-dvd-mul_left {k = b} rest hb (subst (λ (x : ℕ). b * rest ∣ x) (product ∙ mul_comm a b) (mul-dvd-mul_right b (lcm-right a b) rest))

    rest-right : rest ∣ b
    rest-right = dvd_of_mul-dvd-mul_left {k = a} rest ha (subst (λ (x : ℕ). a * rest ∣ x) product (mul-dvd-mul_right a (lcm-left a b ha) rest))

    whole : a / g * b * g ≡ lcm a b * rest
    whole =
        mul_assoc (a / g) b g
        ∙ (ap (λ (x : ℕ). a / g * x) (mul_comm b g)
        ∙ (sym (mul_assoc (a / g) g b) ∙ (ap (λ (x : ℕ). x * b) (div-mul_cancel g d.left) ∙ sym product)))

    above : a / g * b ∣ lcm a b
    above =
        dvd_of_mul-dvd-mul_right {k = rest} (a / g * b) (pos_of_dvd_of_pos rest-left ha)
        (subst (λ (x : ℕ). a / g * b * rest ∣ x) whole (mul-dvd-mul_left rest (a / g * b) (d.greatest rest rest-left rest-right)))

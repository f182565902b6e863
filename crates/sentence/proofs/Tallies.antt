-- How many numbers below n pass a test: one more or none, at most n, and two tests that are never passed together.
use mathlib.Core.Path.{◌≡◌, refl, sym, ◌∙◌}
use mathlib.Core.Bool.{Bool, true, false, cond, true≢false}
use Prim.Native.Nat.{ℕ, zero, suc, ◌+◌, ◌-◌, ◌≤◌, ◌<◌}
use native.Mathlib.Omega.{arith}
use Rattle.sentence.specs.Waiting.{tally}

pub tally-none : (f : ℕ → Bool) → tally 0 f ≡ 0
unfolding tally
tally-none f = refl

pub tally-more : (n : ℕ) (f : ℕ → Bool) (b : Bool) → f n ≡ b → tally (suc n) f ≡ cond b (tally n f + 1) (tally n f)
unfolding tally
tally-more n f true e = rw e (omega arith)
tally-more n f false e = rw e

-- at most as many as there are
pub tally-most : (n : ℕ) (f : ℕ → Bool) → tally n f ≤ n
unfolding tally
tally-most zero f = omega arith
tally-most (suc n) f = go (f n) (tally-most n f)
  where
    go : (b : Bool) → tally n f ≤ n → cond b (suc (tally n f)) (tally n f) ≤ suc n
    go true l = omega arith
    go false l = omega arith

-- two tests that nothing passes both of, and nothing below r either of
pub tally-apart :
    (r n : ℕ) (f g : ℕ → Bool) → ((i : ℕ) → f i ≡ true → r ≤ i) → ((i : ℕ) → i < n → g i ≡ true → (r ≤ i) × (f i ≡ false)) → tally n f + tally n g ≤ n - r
unfolding tally
tally-apart r zero f g hf hg = omega arith
tally-apart r (suc n) f g hf hg = go (f n) refl (g n) refl (tally-apart r n f g hf (λ i l. hg i (omega arith)))
  where
    go : (a : Bool) → f n ≡ a → (b : Bool) → g n ≡ b → tally n f + tally n g ≤ n - r
        → cond a (suc (tally n f)) (tally n f) + cond b (suc (tally n g)) (tally n g) ≤ suc n - r
    go true e true q l = absurd (true≢false (sym e ∙ (hg n (omega arith) q).1))
    go true e false q l = omega (arith, hf n e)
    go false e true q l = omega (arith, (hg n (omega arith) q).0)
    go false e false q l = omega arith

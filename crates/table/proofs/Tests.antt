-- The tests of the numbers decide their conditions.
use mathlib.Core.Path.{◌≡◌, refl, sym, ap, subst, ◌∙◌}
use mathlib.Core.Bool.{Bool, true, false, not, ◌||◌, cond, true≢false}
use mathlib.Core.List.{List}
use mathlib.Core.Logic.{◌⊎◌, inl, inr, ⊎_elim}
use Prim.Native.Nat.{ℕ, zero, suc, ◌-◌, ◌/◌, ◌%◌, ◌^◌, ◌≤◌, ◌<◌}
use native.Mathlib.Nat.{pow-suc, eq-or-lt_of_le}
use native.Mathlib.Omega.{arith}
use lib.Count.{count_trailing_zeros}
use lib.Pow.{pow_pos}
use lib.ListN.{length}
use lib.Dec.{leb, ltb, eqb}
use borrow.Author.Tests.{eqb-true, eq-eqb, le-leb, leb-true, ltb-true, ltb-false}
use Rattle.model.specs.Search.{bit}
use Rattle.model.specs.Task.{Task}
use Rattle.model.specs.Sizes.{most_cores, most_tasks}
use Rattle.table.specs.Words.{header_words, record_words, records, visited}
use Rattle.table.specs.Limits.{InRange, in_range, CoresOut, cores_out, RuleOut, rule_out, FenceOut, fence_out, OneOut, one_out, WidthOut, width_out, TimesOut, times_out, task_out, most_time}
use Rattle.table.specs.Numbers.{WordsOut, EndAt, OutOfRangeAt, RepeatedAt}
use Rattle.table.specs.Answer.{words_out, out_of_range_at, repeated_at, stops_at}
use Rattle.model.proofs.Digits.{bit-zero, bit-suc, bit_past, odd-half, below-pow, lowest-of}
use Rattle.table.proofs.Decide.{Decides, decides-le, decides-lt, decides_eq, decides_not, decides_and, decides_or, decides-any}

pub from-decides : (a b x : ℕ) → Decides (in_range a b x) (InRange a b x)
from-decides a b x = decides_and (leb a x) (leb x b) (a ≤ x) (x ≤ b) (decides-le a x) (decides-le x b)

out-decides : (a b x : ℕ) → Decides (not (in_range a b x)) (¬ InRange a b x)
out-decides a b x = decides_not (in_range a b x) (InRange a b x) (from-decides a b x)

pub words-decides : (ws : List ℕ) → Decides (words_out ws) (WordsOut ws)
words-decides ws =
    decides_or _ _ _ _ (decides-lt (length ws) header_words)
    (decides_or _ _ _ _ (decides_not _ _ (decides_eq ((length ws - header_words) % record_words) 0)) (decides-lt most_tasks (records ws)))

pub cores-decides : (m : ℕ) → Decides (cores_out m) (CoresOut m)
cores-decides m = out-decides 1 most_cores m

pub rule-decides : (n : ℕ) → Decides (rule_out n) (RuleOut n)
rule-decides n = out-decides 1 4 n

-- a set whose cores up to m are all there is not below 2^m − 1 ..
all_there : (m f : ℕ) → ((c : ℕ) → c < m → bit f c ≡ true) → 2 ^ m - 1 ≤ f
all_there zero f h = omega arith
all_there (suc m) f h =
    let odd : f % 2 ≡ 1 = eqb-true (f % 2) 1 (sym (bit-zero f) ∙ h 0 (omega arith)) in
    let rest : 2 ^ m - 1 ≤ f / 2 = all_there m (f / 2) (λ c l. sym (bit-suc f c) ∙ h (suc c) (omega arith)) in
    omega (arith, pow-suc 2 m, pow_pos m)

-- .. and 2^m − 1 has them all
pub there-all : (m c : ℕ) → c < m → bit (2 ^ m - 1) c ≡ true
there-all zero c l = absurd (omega arith)
there-all (suc m) zero l =
    let odd = (odd-half (2 ^ suc m - 1) (2 ^ m - 1) (omega (arith, pow-suc 2 m, pow_pos m))).0 in
    bit-zero (2 ^ suc m - 1) ∙ eq-eqb ((2 ^ suc m - 1) % 2) 1 odd
there-all (suc m) (suc c) l =
    let half = (odd-half (2 ^ suc m - 1) (2 ^ m - 1) (omega (arith, pow-suc 2 m, pow_pos m))).1 in
    bit-suc (2 ^ suc m - 1) c ∙ (ap (λ (x : ℕ). bit x c) half ∙ there-all m c (omega arith))

-- a set that is not below 2^m has a core from m on
some-past : (m f : ℕ) → 2 ^ m ≤ f → (c : ℕ) × (m ≤ c) × (bit f c ≡ true)
some-past zero f h =
    let x = lowest-of f f h (below-pow f) in (count_trailing_zeros f f, omega arith, x.1.here)
some-past (suc m) f h =
    let x = some-past m (f / 2) (omega (arith, pow-suc 2 m)) in
    (suc x.0, omega (arith, x.1), bit-suc f x.0 ∙ x.2)

pub fence-decides : (m f : ℕ) → Decides (fence_out m f) (FenceOut m f)
fence-decides m f = (λ e. to (leb-true (2 ^ m - 1) f e), λ x. le-leb (2 ^ m - 1) f (in_range x))
  where
    to : 2 ^ m - 1 ≤ f → FenceOut m f
    to l = ⊎_elim
        (λ (e : 2 ^ m - 1 ≡ f). inr (λ c b. subst (λ (x : ℕ). bit x c ≡ true) e (there-all m c b)))
        (λ (g : 2 ^ m - 1 < f). inl (some-past m f (omega arith)))
        (eq-or-lt_of_le l)

    in_range : FenceOut m f → 2 ^ m - 1 ≤ f
    in_range (inl (c, l, e)) = go (ltb f (2 ^ m)) refl
      where
        go : (t : Bool) → ltb f (2 ^ m) ≡ t → 2 ^ m - 1 ≤ f
        go true b = absurd (true≢false (sym e ∙ bit_past m f c (ltb-true f (2 ^ m) b) l))
        go false b = omega (arith, ltb-false f (2 ^ m) b)
    in_range (inr h) = all_there m f h

one-decides : (m v : ℕ) → Decides (one_out m v) (OneOut m v)
one-decides m v = decides_or _ _ _ _ (decides_eq v 0) (decides-lt m v)

pub width-decides : (m : ℕ) (τ : Task) → Decides (width_out m τ) (WidthOut m τ)
width-decides m τ = decides_or _ _ _ _ (one-decides m τ.odd_width) (one-decides m τ.even_width)

pub times-decides : (τ : Task) → Decides (times_out τ) (TimesOut τ)
times-decides τ =
    decides_or _ _ _ _ (decides-lt most_time τ.offset)
    (decides_or _ _ _ _ (out-decides 1 most_time τ.length)
    (decides_or _ _ _ _ (out-decides 1 most_time τ.period) (out-decides 1 τ.period τ.deadline)))

-- a task is turned down exactly if 7 or 8 applies to it; the number is 7 where 7 does, and else 8
task-out-is : (s t : Bool) → not (eqb (cond s 7 (cond t 8 0)) 0) ≡ s || t
task-out-is true t = refl
task-out-is false true = refl
task-out-is false false = refl

pub task-decides : (m : ℕ) (τ : Task) → Decides (task_out m τ) (WidthOut m τ ⊎ TimesOut τ)
task-decides m τ = rw (task-out-is (width_out m τ) (times_out τ)) (decides_or (width_out m τ) (times_out τ) (WidthOut m τ) (TimesOut τ) (width-decides m τ) (times-decides τ))

pub past-decides : (ws : List ℕ) (k : ℕ) → Decides (out_of_range_at ws k) (OutOfRangeAt ws k)
past-decides ws k = decides-lt (records ws) (visited ws k)

pub again-decides : (ws : List ℕ) (k : ℕ) → Decides (repeated_at ws k) (RepeatedAt ws k)
again-decides ws k = decides-any k (λ j. eqb (visited ws j) (visited ws k)) (λ j. visited ws j ≡ visited ws k) (λ j. decides_eq (visited ws j) (visited ws k))

pub stops-decides : (ws : List ℕ) (k : ℕ) → Decides (stops_at ws k) (EndAt ws k ⊎ (OutOfRangeAt ws k ⊎ RepeatedAt ws k))
stops-decides ws k = decides_or _ _ _ _ (decides_eq (visited ws k) 0) (decides_or _ _ _ _ (past-decides ws k) (again-decides ws k))

-- S and P: each S is a release, the S never fall, and P is the least common multiple of the cycles.
use mathlib.Core.Bool.{Bool, cond, false, true}
use mathlib.Core.List.{List, [], ◌∷◌}
use mathlib.Core.Logic.{⊎_elim}
use mathlib.Core.Path.{ap, refl, subst⁻¹, sym, ◌∙◌, ◌≡◌}
use Prim.Native.Nat.{◌%◌, ◌*◌, ◌+◌, ◌-◌, ◌/◌, ◌<◌, suc, zero, ℕ, ◌≤◌, ◌∣◌}
use native.Mathlib.Nat.{div-add-mod', div-mul_cancel, dvd-mul_left, dvd_trans, one-dvd, div-lt_iff_lt-mul, eq_of_mul-eq-mul_right, eq-or-lt_of_le}
use native.Mathlib.Nat.{le_of_dvd, le_of_eq, le_of_suc-le-suc, le_trans, mod-lt, mul-le-mul_right, not-suc-le-zero}
use native.Mathlib.Omega.{arith}
use lib.Dec.{eqb}
use lib.ListN.{get_or, length, take}
use borrow.Author.Tests.{eqb-true}
use Rattle.model.proofs.Multiples.{lcm-assoc, lcm-comm, lcm-divides, lcm-left, lcm-pos, lcm-right}
use Rattle.model.specs.Horizon.{CommonMultiple, S, hyperperiod, last_s, lcm, release_from}
use Rattle.model.specs.Task.{Task, cycle, absent_task, release, width_of}

-- every period is positive
abbrev pub Periods : List Task → Type 0
Periods τs = (p : ℕ) → p < length τs → 0 < (get_or τs p absent_task).period

-- so is every cycle
pub cycle-pos : (τ : Task) → 0 < τ.period → 0 < cycle τ
cycle-pos τ h = go (eqb τ.odd_width τ.even_width)
  where
    go : (t : Bool) → 0 < cond t τ.period (2 * τ.period)
    go true = h
    go false = omega arith

-- the release taken is not before t ..
pub release-from : (τ : Task) (t : ℕ) → 0 < τ.period → t ≤ release_from τ t
release-from τ t h =
    omega (arith, div-add-mod' (t - τ.offset + (τ.period - 1)) τ.period, mod-lt (t - τ.offset + (τ.period - 1)) h)

-- .. and no release between is skipped
pub release-first : (τ : Task) (t k : ℕ) → 0 < τ.period → t ≤ release τ k → release_from τ t ≤ release τ k
release-first τ t k h l =
    let few : (t - τ.offset + (τ.period - 1)) / τ.period < suc k = (div-lt_iff_lt-mul h).1 (omega arith) in
    omega (arith, mul-le-mul_right τ.period (le_of_suc-le-suc few))

-- a later S is no earlier
pub S-next : (τs : List Task) (p : ℕ) → Periods τs → suc p < length τs → S τs p ≤ S τs (suc p)
unfolding S
S-next τs p h l = release-from (get_or τs (suc p) absent_task) (S τs p) (h (suc p) l)

pub S-monotonic : (τs : List Task) (q p : ℕ) → Periods τs → q ≤ p → p < length τs → S τs q ≤ S τs p
S-monotonic τs q zero h l k = le_of_eq (ap (S τs) (omega arith))
S-monotonic τs q (suc p) h l k =
    ⊎_elim
    (λ (e : q ≡ suc p). le_of_eq (ap (S τs) e))
    (λ (e : q < suc p). le_trans (S-monotonic τs q p h (le_of_suc-le-suc e) (omega arith)) (S-next τs p h k))
    (eq-or-lt_of_le l)

pub S-last : (τs : List Task) (p : ℕ) → Periods τs → p < length τs → S τs p ≤ last_s τs
S-last τs p h l = S-monotonic τs p (length τs - 1) h (omega arith) (omega arith)

-- it is a release of its place
pub S-release : (τs : List Task) (p : ℕ) → (a : ℕ) × (S τs p ≡ release (get_or τs p absent_task) a)
unfolding S
S-release τs zero = (0, omega arith)
S-release τs (suc p) =
    ((S τs p - (get_or τs (suc p) absent_task).offset + ((get_or τs (suc p) absent_task).period - 1)) / (get_or τs (suc p) absent_task).period, refl)

pub hyperperiod-pos : (τs : List Task) → 0 < hyperperiod τs
unfolding hyperperiod
hyperperiod-pos [] = omega arith
hyperperiod-pos (τ ∷ τs) = lcm-pos (cycle τ) (hyperperiod τs) (hyperperiod-pos τs)

-- every cycle divides P
pub cycle-divides : (τs : List Task) (p : ℕ) → Periods τs → p < length τs → cycle (get_or τs p absent_task) ∣ hyperperiod τs
unfolding hyperperiod
cycle-divides [] p h l = absurd (not-suc-le-zero l)
cycle-divides (τ ∷ τs) zero h l = lcm-left (cycle τ) (hyperperiod τs) (cycle-pos τ (h 0 (omega arith)))
cycle-divides (τ ∷ τs) (suc p) h l =
    dvd_trans (cycle (get_or τs p absent_task)) (cycle-divides τs p (λ p l. h (suc p) (omega arith)) (omega arith)) (lcm-right (cycle τ) (hyperperiod τs))

pub hyperperiod-cycles : (τs : List Task) (p : ℕ) → Periods τs → p < length τs → (m : ℕ) × (hyperperiod τs ≡ m * cycle (get_or τs p absent_task))
hyperperiod-cycles τs p h l =
    let T : ℕ = cycle (get_or τs p absent_task) in
    (hyperperiod τs / T, sym (div-mul_cancel T (cycle-divides τs p h l)))

-- so P is a number of periods ..
pub hyperperiod-divides : (τs : List Task) (p : ℕ) → Periods τs → p < length τs → (m : ℕ) × (hyperperiod τs ≡ m * (get_or τs p absent_task).period)
hyperperiod-divides τs p h l = go (eqb τ.odd_width τ.even_width) (hyperperiod-cycles τs p h l)
  where
    τ : Task
    τ = get_or τs p absent_task

    go : (t : Bool) → (m : ℕ) × (hyperperiod τs ≡ m * cond t τ.period (2 * τ.period)) → (m : ℕ) × (hyperperiod τs ≡ m * τ.period)
    go true x = x
    go false x = (2 * x.0, x.1 ∙ omega arith)

-- .. after which the widths are the same again: an even number where they differ
pub width-shift :
    (τs : List Task) (p : ℕ) → Periods τs → p < length τs → (m : ℕ) → hyperperiod τs ≡ m * (get_or τs p absent_task).period
    → (k : ℕ) → width_of (get_or τs p absent_task) (k + m) ≡ width_of (get_or τs p absent_task) k
width-shift τs p h l m e k = go (eqb τ.odd_width τ.even_width) refl (hyperperiod-cycles τs p h l)
  where
    τ : Task
    τ = get_or τs p absent_task

    same : (t u : Bool) → τ.odd_width ≡ τ.even_width → cond t τ.odd_width τ.even_width ≡ cond u τ.odd_width τ.even_width
    same true true q = refl
    same true false q = q
    same false true q = sym q
    same false false q = refl

    go : (t : Bool) → eqb τ.odd_width τ.even_width ≡ t → (n : ℕ) × (hyperperiod τs ≡ n * cond t τ.period (2 * τ.period))
        → width_of τ (k + m) ≡ width_of τ k
    go true q x = same (eqb ((k + m) % 2) 0) (eqb (k % 2) 0) (eqb-true τ.odd_width τ.even_width q)
    go false q x =
        let twice : m ≡ 2 * x.0 = eq_of_mul-eq-mul_right τ.period (h p l) m (2 * x.0) (sym e ∙ (x.1 ∙ omega arith)) in
        let even : (k + m) % 2 ≡ k % 2 = omega arith in
        ap (λ (n : ℕ). cond (eqb n 0) τ.odd_width τ.even_width) even

-- P divides every common multiple of the cycles
pub hyperperiod-common : (τs : List Task) → Periods τs → (n : ℕ) → ((p : ℕ) → p < length τs → cycle (get_or τs p absent_task) ∣ n) → hyperperiod τs ∣ n
unfolding hyperperiod
hyperperiod-common [] h n d = one-dvd n
hyperperiod-common (τ ∷ τs) h n d =
    lcm-divides (cycle τ) (hyperperiod τs) n (cycle-pos τ (h 0 (omega arith))) (hyperperiod-pos τs) (d 0 (omega arith))
    (hyperperiod-common τs (λ p l. h (suc p) (omega arith)) n (λ p l. d (suc p) (omega arith)))

pub hyperperiod-least : (τs : List Task) → Periods τs → (n : ℕ) → 0 < n → CommonMultiple τs n → hyperperiod τs ≤ n
hyperperiod-least τs h n pos d =
    le_of_dvd pos
    (hyperperiod-common τs h n
    (λ p l. subst⁻¹ (λ (x : ℕ). cycle (get_or τs p absent_task) ∣ x) (d p l).1 (dvd-mul_left (cycle (get_or τs p absent_task)) (d p l).0)))

-- one more task: the least common multiple with its cycle
pub hyperperiod-more :
    (τs : List Task) (i : ℕ) → Periods τs → i < length τs
    → hyperperiod (take (suc i) τs) ≡ lcm (hyperperiod (take i τs)) (cycle (get_or τs i absent_task))
unfolding hyperperiod
hyperperiod-more [] i h l = absurd (not-suc-le-zero l)
hyperperiod-more (τ ∷ τs) zero h l = lcm-comm (cycle τ) 1 (cycle-pos τ (h 0 l)) (omega arith)
hyperperiod-more (τ ∷ τs) (suc i) h l =
    ap (lcm (cycle τ)) (hyperperiod-more τs i (λ p q. h (suc p) (omega arith)) (omega arith))
    ∙ lcm-assoc (cycle τ) (hyperperiod (take i τs)) (cycle (get_or τs i absent_task)) (cycle-pos τ (h 0 (omega arith))) (hyperperiod-pos (take i τs)) (cycle-pos (get_or τs i absent_task) (h (suc i) l))

-- fewer tasks: a divisor
pub hyperperiod-fewer : (τs : List Task) (i : ℕ) → Periods τs → hyperperiod (take i τs) ∣ hyperperiod τs
unfolding hyperperiod
hyperperiod-fewer τs zero h = one-dvd (hyperperiod τs)
hyperperiod-fewer [] (suc i) h = one-dvd 1
hyperperiod-fewer (τ ∷ τs) (suc i) h =
    let pos : 0 < cycle τ = cycle-pos τ (h 0 (omega arith)) in
    lcm-divides (cycle τ) (hyperperiod (take i τs)) (lcm (cycle τ) (hyperperiod τs)) pos (hyperperiod-pos (take i τs))
    (lcm-left (cycle τ) (hyperperiod τs) pos)
    (dvd_trans (hyperperiod (take i τs)) (hyperperiod-fewer τs i (λ p q. h (suc p) (omega arith))) (lcm-right (cycle τ) (hyperperiod τs)))

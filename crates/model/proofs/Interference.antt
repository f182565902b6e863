-- THE INTERFERENCE TEST IS ENOUGH: whoever waits is kept waiting by places above, and in a window these are given cores in few ticks.
use mathlib.Core.Bool.{Bool, ◌&&◌, cond, false, true, true≢false}
use mathlib.Core.Logic.{⊎_elim}
use mathlib.Core.Path.{ap, refl, subst, sym, ◌∙◌, ◌≡◌}
use Prim.Native.Nat.{◌*◌, ◌+◌, ◌-◌, ◌<◌, min, suc, zero, ℕ, ◌≤◌}
use native.Mathlib.Nat.{add-suc, eq-or-lt_of_le, le_dest, le_of_eq, le_of_suc-le-suc, le_trans}
use native.Mathlib.Nat.{mul-le-mul_left, not-suc-le-zero}
use native.Mathlib.Omega.{arith}
use lib.Dec.{leb, ltb}
use lib.ListN.{length}
use borrow.Author.Tests.{leb-false, leb-true, ltb-true}
use Rattle.model.proofs.Bools.{and_left, and_right}
use Rattle.std.proofs.lemmas.Bool.{false_from_ne_true, true_from_ne_false}
use Rattle.model.proofs.Jobs.{before-due, claims-if, mk, newest-is, next, next-ended}
use Rattle.model.proofs.Runs.{full-next, full-stays, full-tick, bounds-full}
use Rattle.model.proofs.Waiting.{is_wider, kept-waiting, once, sum-add, sum-le, wider_parity}
use Rattle.model.proofs.Shares.{ServedWithin, every, every_second, got, got-most, served-claims, served-open}
use Rattle.model.specs.Jobs.{Job}
use Rattle.model.specs.Claims.{in_row, job_claims, served}
use Rattle.model.specs.Advance.{work}
use Rattle.model.specs.Lists.{NeverMissed, full}
use Rattle.model.specs.Interference.{EndsWithin, cores_in, interference_in, need, suffices, sum_below, waits_in}
use Rattle.model.specs.Task.{AllValid, Table, Task, due, narrowest, newest, release, task, widest}

-- A JOB THAT HAS NOT ENDED

had-next : (C : ℕ) (u : Bool) (h c : ℕ) (e : Bool) → e ≡ false → (next C false u (mk h c e)).had ≡ cond u (suc h) h
unfolding work
had-next C true h c true q = absurd (true≢false q)
had-next C true h c false q = refl
had-next C false h c e q = refl

-- a tick more, in which a place is given cores or not
min-next : (n g : ℕ) (t : Bool) → min n g + once t ≤ min (suc n) (g + once t)
min-next n g true = omega arith
min-next n g false = omega arith

module _ (s : Table) (ok : AllValid s) (p : ℕ) (l : p < length s.tasks) (k : ℕ) where
  abbrev σ : Task
  σ = task s p

  abbrev r : ℕ
  r = release σ k

  -- the ticks in which the jobs f of a place are given cores, of the z ticks from its release on
  abbrev all : ℕ → ℕ → ℕ
  all i z = got s (λ k. true) r i z

  abbrev wider : ℕ → ℕ → ℕ
  wider i z = got s (is_wider (task s i)) r i z

  -- the cores given to the places above in at most n of the z ticks from its release on
  abbrev load : ℕ → ℕ → ℕ
  load n z = sum_below p (λ i. narrowest (task s i) * min n (all i z) + (widest (task s i) - narrowest (task s i)) * min n (wider i z))

  abbrev serving : ℕ → ℕ → Bool
  serving t i = in_row s (full s t) i

  abbrev serving_wider : ℕ → ℕ → Bool
  serving_wider t i = in_row s (full s t) i && is_wider (task s i) (newest (task s i) (full s t).tick)

  abbrev busy : ℕ → ℕ
  busy t =
      sum_below p (λ i. narrowest (task s i) * once (serving t i) + (widest (task s i) - narrowest (task s i)) * once (serving_wider t i))

  load-more : (n z : ℕ) → load n z ≤ load n (suc z)
  load-more n z =
      sum-le p (λ i. narrowest (task s i) * min n (all i z) + (widest (task s i) - narrowest (task s i)) * min n (wider i z))
      (λ i. narrowest (task s i) * min n (all i (suc z)) + (widest (task s i) - narrowest (task s i)) * min n (wider i (suc z)))
      (λ i g. unfold got in both (mul-le-mul_left (narrowest (task s i)) (omega arith)) (mul-le-mul_left (widest (task s i) - narrowest (task s i)) (omega arith)))
    where
      both : {a b c d : ℕ} → a ≤ b → c ≤ d → a + c ≤ b + d
      both h g = omega arith

  load-next : (n z : ℕ) → load n z + busy (r + z) ≤ load (suc n) (suc z)
  load-next n z =
      le_trans (le_of_eq (sym (sum-add p
      (λ i. narrowest (task s i) * min n (all i z) + (widest (task s i) - narrowest (task s i)) * min n (wider i z))
      (λ i. narrowest (task s i) * once (serving (r + z) i) + (widest (task s i) - narrowest (task s i)) * once (serving_wider (r + z) i)))))
      (sum-le p
      (λ i.
      narrowest (task s i) * min n (all i z) + (widest (task s i) - narrowest (task s i)) * min n (wider i z)
      + (narrowest (task s i) * once (serving (r + z) i) + (widest (task s i) - narrowest (task s i)) * once (serving_wider (r + z) i)))
      (λ i. narrowest (task s i) * min (suc n) (all i (suc z)) + (widest (task s i) - narrowest (task s i)) * min (suc n) (wider i (suc z)))
      (λ i g. unfold got in
      spread
      (narrowest (task s i)) (widest (task s i) - narrowest (task s i)) (min n (all i z)) (min n (wider i z)) (once (serving (r + z) i)) (once (serving_wider (r + z) i))
      (rw (and-true (serving (r + z) i)) (min-next n (all i z) (serving (r + z) i)))
      (min-next n (wider i z) (serving_wider (r + z) i))))
    where
      and-true : (t : Bool) → (t && true) ≡ t
      and-true true = refl
      and-true false = refl

      spread : (v w a b c d : ℕ) {x y : ℕ} → a + c ≤ x → b + d ≤ y → v * a + w * b + (v * c + w * d) ≤ v * x + w * y
      spread v w a b c d h g = omega (arith, mul-le-mul_left v h, mul-le-mul_left w g)

  open-before : (t : ℕ) → ((full s (suc t)).job p k).ended ≡ false → ((full s t).job p k).ended ≡ false
  open-before t o = false_from_ne_true ((full s t).job p k).ended (λ e. true≢false (sym (stays e) ∙ o))
    where
      stays : ((full s t).job p k).ended ≡ true → ((full s (suc t)).job p k).ended ≡ true
      stays e = ap (λ (j : Job). j.ended) (full-next s t p k) ∙ (next-ended σ.length false (served s (full s t) p k) ((full s t).job p k) e).0

  -- inside its window a job that has not ended claims, and is its place's newest
  open-claims : (t : ℕ) → r ≤ t → t < due σ k → ((full s t).job p k).ended ≡ false → job_claims s (full s t) p k ≡ true
  open-claims t h g o = claims-if s.rule σ k (full s t).tick ((full s t).job p k) (omega (arith, full-tick s t)) (omega (arith, full-tick s t)) (rw o refl)

  open-newest : (t : ℕ) → r ≤ t → t < due σ k → newest σ (full s t).tick ≡ k
  open-newest t h g = newest-is σ k (full s t).tick (ok p l).constrained (omega (arith, full-tick s t)) (omega (arith, full-tick s t))

  -- in n of the ticks that it waited the places above were given n times what it needs
  waited :
      (z : ℕ) → z ≤ σ.deadline → ((full s (r + z)).job p k).ended ≡ false
      → (n : ℕ) → n + ((full s (r + z)).job p k).had ≤ z → n * need s p ≤ load n z
  waited zero h o zero few = omega arith
  waited zero h o (suc n) few = absurd (omega arith)
  waited (suc z) h o n few = go (in_row s (full s t) p) refl n (rw add-suc at few) (waited z (omega arith) now)
    where
      t : ℕ
      t = r + z

      now : ((full s t).job p k).ended ≡ false
      now = open-before t (rw add-suc at o)

      j : Job
      j = (full s t).job p k

      claiming : job_claims s (full s t) p k ≡ true
      claiming = open-claims t (omega arith) (omega arith) now

      had : (u : Bool) → in_row s (full s t) p ≡ u → ((full s (suc t)).job p k).had ≡ cond u (suc j.had) j.had
      had u q =
          let on : served s (full s t) p k ≡ u = unfold served in rw (claiming, q) in
          ap (λ (x : Job). x.had) (full-next s t p k)
          ∙ (had-next σ.length (served s (full s t) p k) j.had j.claimed j.ended now
          ∙ ap (λ (v : Bool). cond v (suc j.had) j.had) on)

      go : (u : Bool) → in_row s (full s t) p ≡ u → (n : ℕ) → n + ((full s (suc t)).job p k).had ≤ suc z
          → ((n : ℕ) → n + j.had ≤ z → n * need s p ≤ load n z)
          → n * need s p ≤ load n (suc z)
      go true q n few ih = le_trans (ih n (omega (arith, had true q))) (load-more n z)
      go false q zero few ih = omega arith
      go false q (suc n) few ih =
          omega (
            arith,
            ih n (omega (arith, had false q)),
            load-next n z,
            kept-waiting s ok (full s t) p l (ap (λ (x : ℕ). job_claims s (full s t) p x) (open-newest t (omega arith) (omega arith)) ∙ claiming) q,
          )

pub suffices-short : (s : Table) (e : ℕ → ℕ) (p L : ℕ) → suffices s e p L ≡ true → L ≤ (task s p).deadline
unfolding suffices
suffices-short s e p L q =
    let n : ℕ = waits_in (task s p) L in
    leb-true L (task s p).deadline (and_left (leb L (task s p).deadline) (ltb (interference_in s e p L n) (n * need s p)) q)

pub suffices-demand : (s : Table) (e : ℕ → ℕ) (p L : ℕ) → suffices s e p L ≡ true → interference_in s e p L (waits_in (task s p) L) < waits_in (task s p) L * need s p
unfolding suffices
suffices-demand s e p L q =
    let n : ℕ = waits_in (task s p) L in
    ltb-true (interference_in s e p L n) (n * need s p) (and_right (leb L (task s p).deadline) (ltb (interference_in s e p L n) (n * need s p)) q)

factor : (n m : ℕ) {x : ℕ} → x < n * m → 1 ≤ n
factor zero m h = absurd (omega arith)
factor (suc n) m h = omega arith

-- ONE PLACE: where the places above are given cores only in the e ticks from a release on, a window that passes bounds the time from release to end
pub place-ends :
    (s : Table) → AllValid s → (e : ℕ → ℕ) (p : ℕ) → p < length s.tasks
    → ((q : ℕ) → q < p → ((task s q).length ≤ e q) × (e q ≤ (task s q).deadline) × ServedWithin s q (e q))
    → (L : ℕ) → suffices s e p L ≡ true → EndsWithin s p L
place-ends s ok e p l above L ok-L k = true_from_ne_false ((full s (release σ k + L)).job p k).ended waiting
  where
    σ : Task
    σ = task s p

    n : ℕ
    n = waits_in σ L

    enough : interference_in s e p L n < n * need s p
    enough = suffices-demand s e p L ok-L

    few : load s ok p l k n L ≤ interference_in s e p L n
    few = unfold interference_in in
        sum-le p
        (λ i.
        narrowest (task s i) * min n (all s ok p l k i L) + (widest (task s i) - narrowest (task s i)) * min n (wider s ok p l k i L))
        (λ i. cores_in (task s i) (e i) L n)
        (λ i g.
        capped (narrowest (task s i)) (widest (task s i) - narrowest (task s i)) n
        (got-most s ok i (omega arith) (λ k. true) (task s i).period (every (task s i)) (e i) (above i g).2 (above i g).0 (above i g).1 (release σ k) L)
        (got-most s ok i (omega arith) (is_wider (task s i)) (2 * (task s i).period) (every_second (task s i) (wider_parity (task s i))) (e i) (above i g).2 (above i g).0 (above i g).1 (release σ k) L))
      where
        capped : (v w n : ℕ) {a b c d : ℕ} → a ≤ b → c ≤ d → v * min n a + w * min n c ≤ v * min n b + w * min n d
        capped v w n h g = omega (arith, mul-le-mul_left v (under n h), mul-le-mul_left w (under n g))
          where
            under : (n : ℕ) {a b : ℕ} → a ≤ b → min n a ≤ min n b
            under n h = omega arith

    waiting : ((full s (release σ k + L)).job p k).ended ≡ false → ⊥
    waiting o =
        let had = (bounds-full s ok (release σ k + L) p k l).short o in
        let some-n = factor n (need s p) enough in
        let all = waited s ok p l k L (suffices-short s e p L ok-L) o n (omega arith) in
        omega (arith, all, few, enough)

-- a job is given cores only before its deadline ..
pub served-due : (s : Table) → AllValid s → (q : ℕ) → q < length s.tasks → ServedWithin s q (task s q).deadline
served-due s ok q l k t e =
    omega (arith, before-due s.rule (task s q) k (full s t).tick ((full s t).job q k) (served-claims s ok q l t k e), full-tick s t)

-- .. and only until it has ended
pub served-ends : (s : Table) → AllValid s → (q : ℕ) → q < length s.tasks → (L e : ℕ) → L ≤ e → EndsWithin s q L → ServedWithin s q e
served-ends s ok q l L e h ends k t on = go (leb (release (task s q) k + e) t) refl
  where
    go : (u : Bool) → leb (release (task s q) k + e) t ≡ u → t < release (task s q) k + e
    go false g = leb-false (release (task s q) k + e) t g
    go true g =
        let past : release (task s q) k + L ≤ t = omega (arith, leb-true (release (task s q) k + e) t g) in
        let d = le_dest past in
        absurd (true≢false (sym (subst (λ (x : ℕ). ((full s x).job q k).ended ≡ true) d.1 (full-stays s (release (task s q) k + L) d.0 q k (ends k)))
        ∙ served-open s ok q l t k on))

-- a place whose jobs all end by their deadlines misses none
pub ends-meets :
    (s : Table) → ((p : ℕ) → p < length s.tasks → (L : ℕ) × (L ≤ (task s p).deadline) × EndsWithin s p L) → NeverMissed s
ends-meets s h p t (l, (k, e, o)) =
    let x = h p l in
    let d = le_dest x.1 in
    let at : release (task s p) k + x.0 + d.0 ≡ t = omega (arith, d.1, e, full-tick s t) in
    true≢false (sym (subst (λ (n : ℕ). ((full s n).job p k).ended ≡ true) at (full-stays s (release (task s p) k + x.0) d.0 p k (x.2 k))) ∙ o)

-- a window that passes is no shorter than the job
pub suffices-long : (s : Table) (e : ℕ → ℕ) (p L : ℕ) → suffices s e p L ≡ true → (task s p).length ≤ L
suffices-long s e p L q = omega (arith, factor (waits_in (task s p) L) (need s p) (suffices-demand s e p L q))

-- THE THEOREMS. With the deadlines of the places above, none of which is shorter than its job: each place by itself, whether the others pass or not
pub deadline-ends :
    (s : Table) → AllValid s → (p : ℕ) → p < length s.tasks → ((q : ℕ) → q < p → (task s q).length ≤ (task s q).deadline)
    → (L : ℕ) → suffices s (λ i. (task s i).deadline) p L ≡ true → EndsWithin s p L
deadline-ends s ok p l fit = place-ends s ok (λ i. (task s i).deadline) p l (λ q g. (fit q g, omega arith, served-due s ok q (omega arith)))

pub deadline-meets :
    (s : Table) → AllValid s → ((p : ℕ) → p < length s.tasks → (L : ℕ) × (suffices s (λ i. (task s i).deadline) p L ≡ true)) → NeverMissed s
deadline-meets s ok h =
    ends-meets s (λ p l.
    let x = h p l in
    (x.0, suffices-short s (λ i. (task s i).deadline) p x.0 x.1, deadline-ends s ok p l (λ q g. fit q (omega arith)) x.0 x.1))
  where
    fit : (q : ℕ) → q < length s.tasks → (task s q).length ≤ (task s q).deadline
    fit q l =
        let x = h q l in
        le_trans (suffices-long s (λ i. (task s i).deadline) q x.0 x.1) (suffices-short s (λ i. (task s i).deadline) q x.0 x.1)

-- with the windows of the places above, which are no longer: the places from the first on
module _ (s : Table) (ok : AllValid s) (e : ℕ → ℕ) (passes : (p : ℕ) → p < length s.tasks → suffices s e p (e p) ≡ true) where
  ends-below : (n : ℕ) → n ≤ length s.tasks → (q : ℕ) → q < n → EndsWithin s q (e q)
  ends-below zero l q g = absurd (not-suc-le-zero g)
  ends-below (suc n) l q g =
      ⊎_elim
      (λ (i : q ≡ n).
      subst (λ (x : ℕ). EndsWithin s x (e x)) (sym i)
      (place-ends s ok e n l (λ h u. (
        suffices-long s e h (e h) (passes h (omega arith)),
        suffices-short s e h (e h) (passes h (omega arith)),
        served-ends s ok h (omega arith) (e h) (e h) (omega arith) (ends-below n (omega arith) h u),
      )) (e n) (passes n l)))
      (λ (i : q < n). ends-below n (omega arith) q i)
      (eq-or-lt_of_le (le_of_suc-le-suc g))

  pub interference-ends : (p : ℕ) → p < length s.tasks → EndsWithin s p (e p)
  interference-ends p l = ends-below (suc p) l p (omega arith)

  pub interference-meets : NeverMissed s
  interference-meets = ends-meets s (λ p l. (e p, suffices-short s e p (e p) (passes p l), interference-ends p l))

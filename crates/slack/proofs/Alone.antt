-- THEOREM (alone-slack): a task alone, whose widths fit in the unfenced cores, runs in every tick from its release on, and so may grow to its deadline: its
-- slack is D − C, up to C = 1,000,000.
use mathlib.Core.Bool.{Bool, cond, false, true, true≢false}
use mathlib.Core.List.{[], ◌∷◌}
use mathlib.Core.Path.{◌≡◌, ap, refl, subst, sym, ◌∙◌}
use Prim.Native.Nat.{ℕ, suc, zero, ◌%◌, ◌+◌, ◌-◌, ◌<◌, ◌≤◌}
use native.Mathlib.Nat.{add-suc}
use native.Mathlib.Omega.{arith}
use lib.Dec.{eqb, ltb}
use borrow.Author.Tests.{ltb-false, ltb-true}
use Rattle.model.proofs.Bools.{and_both}
use Rattle.std.proofs.lemmas.Bool.{false_from_ne_true}
use Rattle.model.proofs.Examples.{on, t}
use Rattle.model.proofs.Grants.{runs-if}
use Rattle.model.proofs.Jobs.{claims-if, mk, newest-is, next, next-ended}
use Rattle.model.proofs.Runs.{full-next, full-tick, bounds-full}
use Rattle.model.proofs.Search.{least-found, least-most}
use Rattle.model.specs.Jobs.{Job}
use Rattle.model.specs.Claims.{in_row, job_claims, served, task_claims}
use Rattle.model.specs.Advance.{work}
use Rattle.model.specs.Lists.{NeverMissed, full}
use Rattle.model.specs.Fence.{unfenced_cores, unfenced_count}
use Rattle.model.specs.Grants.{claimants, grants}
use Rattle.model.specs.Search.{filtered, least, up_from}
use Rattle.model.specs.Task.{AllValid, Rule, ValidTask, Table, Task, due, limited, newest, release, width_of}
use Rattle.slack.specs.Longer.{grown, lengthen}
use Rattle.slack.specs.Slack.{misses, slack}
use Rattle.slack.proofs.Misses.{never-misses}

-- a table of one task
abbrev pub single : ℕ → ℕ → Rule → Task → Table
single m f r τ = record { tasks = τ ∷ []; cores = m; fence = f; rule = r }

-- a job that is given cores and has not ended has had one tick more
next-had : (C h c : ℕ) (e : Bool) → e ≡ false → (next C false true (mk h c e)).had ≡ suc h
unfolding work
next-had C h c true o = absurd (true≢false o)
next-had C h c false o = refl

module _ (m f : ℕ) (r : Rule) (τ : Task) (ok : ValidTask τ) (fits : (k : ℕ) → width_of τ k ≤ unfenced_count f m) where
  abbrev s : Table
  s = single m f r τ

  sound : AllValid s
  sound zero l = ok
  sound (suc p) l = absurd (omega arith)

  wide : (k : ℕ) → 1 ≤ width_of τ k
  wide k = go (eqb (k % 2) 0)
    where
      go : (b : Bool) → 1 ≤ cond b τ.odd_width τ.even_width
      go true = ok.odd_pos
      go false = ok.even-pos

  -- in every tick from its release to its deadline a job that has not ended is given cores
  runs-there : (n k : ℕ) → release τ k ≤ n → n < due τ k → ((full s n).job 0 k).ended ≡ false → served s (full s n) 0 k ≡ true
  unfolding served grants claimants
  runs-there n k a b o =
      and_both (job_claims s (full s n) 0 k) (in_row s (full s n) 0) claims-now
      (runs-if (record { claims = task_claims s (full s n) 0; width = width_of τ (newest τ (full s n).tick) }) (unfenced_cores s)
      (record {
        claiming = subst (λ (i : ℕ). job_claims s (full s n) 0 i ≡ true) (sym new) claims-now;
        wide = wide (newest τ (full s n).tick);
        room = fits (newest τ (full s n).tick);
      }))
    where
      claims-now : job_claims s (full s n) 0 k ≡ true
      claims-now = rw (full-tick s n) (claims-if r τ k n ((full s n).job 0 k) a b (rw o))

      new : newest τ (full s n).tick ≡ k
      new = rw (full-tick s n) (newest-is τ k n ok.constrained a b)

  -- so while it has not ended it has had every tick since its release
  had-all : (k z : ℕ) → z ≤ τ.deadline → ((full s (release τ k + z)).job 0 k).ended ≡ false → z ≤ ((full s (release τ k + z)).job 0 k).had
  had-all k zero l = λ o. omega arith
  had-all k (suc z) l = rw add-suc (more (had-all k z (omega arith)))
    where
      n : ℕ
      n = release τ k + z

      j : Job
      j = (full s n).job 0 k

      more : (j.ended ≡ false → z ≤ j.had) → ((full s (suc n)).job 0 k).ended ≡ false → suc z ≤ ((full s (suc n)).job 0 k).had
      more before o =
          let after : (next τ.length false (served s (full s n) 0 k) j).ended ≡ false = subst (λ (i : Job). i.ended ≡ false) (full-next s n 0 k) o in
          let open' : j.ended ≡ false =
          false_from_ne_true j.ended (λ d. true≢false (sym (next-ended τ.length false (served s (full s n) 0 k) j d).0 ∙ after)) in
          let runs = runs-there n k (omega arith) (omega arith) open' in
          let one : ((full s (suc n)).job 0 k).had ≡ suc j.had =
          ap (λ (i : Job). i.had) (full-next s n 0 k)
          ∙ (ap (λ (b : Bool). (next τ.length false b j).had) runs ∙ next-had τ.length j.had j.claimed j.ended open') in
          omega (arith, one, before open')

  -- and with C within D it never misses
  alone-never : τ.length ≤ τ.deadline → NeverMissed s
  alone-never short zero t (l, (k, e, o)) =
      let at : t ≡ due τ k = sym (e ∙ full-tick s t) in
      let few : ((full s t).job 0 k).had < τ.length = (bounds-full s sound t 0 k l).short o in
      let all : τ.deadline ≤ ((full s (due τ k)).job 0 k).had =
      had-all k τ.deadline (omega arith) (subst (λ (u : ℕ). ((full s u).job 0 k).ended ≡ false) at o) in
      omega (arith, ap (λ (u : ℕ). ((full s u).job 0 k).had) at)
  alone-never short (suc p) t (l, x) = absurd (omega (arith, l))

-- THE THEOREM
pub alone-slack :
    (m f : ℕ) (r : Rule) (τ : Task) → ValidTask τ → ((k : ℕ) → width_of τ k ≤ unfenced_count f m) → τ.length ≤ τ.deadline
    → slack (single m f r τ) 0 ≡ τ.deadline - τ.length
unfolding slack
alone-slack m f r τ ok fits short = go (ltb g room) refl
  where
    room : ℕ
    room = τ.deadline - τ.length

    late : ℕ → Bool
    late h = misses (grown (single m f r τ) 0 (suc h))

    g : ℕ
    g = least room late

    -- the task is valid with any growth too
    longer : (h : ℕ) → ValidTask (lengthen h τ)
    longer h = record {
      odd_pos = ok.odd_pos;
      even-pos = ok.even-pos;
      length-pos = omega (arith, ok.length-pos);
      deadline-pos = ok.deadline-pos;
      constrained = ok.constrained;
    }

    go : (b : Bool) → ltb g room ≡ b → g ≡ room
    go true e =
        let l : g < room = ltb-true g room e in
        absurd
        (true≢false
        (sym (least-found room late l)
        ∙ never-misses (single m f r (lengthen (suc g) τ)) (sound m f r (lengthen (suc g) τ) (longer (suc g)) fits)
        (alone-never m f r (lengthen (suc g) τ) (longer (suc g)) fits (omega arith))))
    go false e = omega (arith, ltb-false g room e, least-most room late)

-- UP TO A MILLION: one core, rule 2, C = 999,997 with D = T = 1,000,000, and with D one less
million : (d : ℕ) → 1 ≤ d → d ≤ 1000000 → ValidTask (t 0 1 999997 d 1000000)
million d a b = record { odd_pos = omega arith; even-pos = omega arith; length-pos = omega arith; deadline-pos = a; constrained = b }

narrow : (d k : ℕ) → width_of (t 0 1 999997 d 1000000) k ≤ unfenced_count 0 1
unfolding filtered up_from
narrow d k = go (eqb (k % 2) 0)
  where
    go : (b : Bool) → cond {A = ℕ} b 1 1 ≤ 1
    go true = omega arith
    go false = omega arith

pub up-to-a-million :
    (slack (on 1 limited (t 0 1 999997 1000000 1000000 ∷ [])) 0 ≡ 3) × (slack (on 1 limited (t 0 1 999997 999999 1000000 ∷ [])) 0 ≡ 2)
up-to-a-million = (
  alone-slack 1 0 limited (t 0 1 999997 1000000 1000000) (million 1000000 (omega arith) (omega arith)) (narrow 1000000) (omega arith),
  alone-slack 1 0 limited (t 0 1 999997 999999 1000000) (million 999999 (omega arith) (omega arith)) (narrow 999999) (omega arith),
)

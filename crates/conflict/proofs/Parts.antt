-- THEOREM (part-fewer): a part of a table has no longer horizon. Its last S is no later, and its P divides the table's.
use mathlib.Core.Bool.{Bool, cond, false, true}
use mathlib.Core.List.{List, [], ◌++◌, ◌∷◌}
use mathlib.Core.Path.{ap, refl, sym, ◌∙◌, ◌≡◌}
use Prim.Native.Nat.{◌*◌, ◌+◌, ◌-◌, ◌/◌, ◌<◌, suc, zero, ℕ, ◌≤◌, ◌∣◌}
use native.Mathlib.Nat.{div-lt_iff_lt-mul, le_of_dvd, le_refl, le_trans, not-suc-le-zero}
use native.Mathlib.Omega.{arith}
use lib.ListN.{get_or, length, take}
use lib.Seq.{take-length, take-suc}
use Rattle.model.proofs.Starts.{Periods, cycle-divides, hyperperiod-common, hyperperiod-pos, release-first, release-from}
use Rattle.model.specs.Horizon.{S, horizon, hyperperiod, last_s, release_from}
use Rattle.model.specs.Search.{bit}
use Rattle.model.specs.Task.{AllValid, ValidTask, Table, Task, cycle, absent_task}
use Rattle.conflict.specs.SubTable.{SubTableBounds, chosen, sub_table}
use Rattle.conflict.proofs.Chosen.{chosen-all, chosen-length}

-- the last S as a walk down the tasks, each start the first release not before the one above
unfoldable starts : ℕ → List Task → ℕ
starts a [] = a
starts a (τ ∷ τs) = starts (release_from τ a) τs

starts_more : (a : ℕ) (τs : List Task) (τ : Task) → starts a (τs ++ (τ ∷ [])) ≡ release_from τ (starts a τs)
unfolding starts
starts_more a [] τ = refl
starts_more a (σ ∷ τs) τ = starts_more (release_from σ a) τs τ

-- from 0 the first release is the offset
release-zero : (τ : Task) → 0 < τ.period → release_from τ 0 ≡ τ.offset
release-zero τ h = go ((0 - τ.offset + (τ.period - 1)) / τ.period) refl
  where
    few : (0 - τ.offset + (τ.period - 1)) / τ.period < 1
    few = (div-lt_iff_lt-mul h).1 (omega arith)

    go : (n : ℕ) → (0 - τ.offset + (τ.period - 1)) / τ.period ≡ n → τ.offset + n * τ.period ≡ τ.offset
    go zero e = omega arith
    go (suc n) e = absurd (omega (arith, few))

starts-S : (τs : List Task) → Periods τs → (p : ℕ) → p < length τs → starts 0 (take (suc p) τs) ≡ S τs p
unfolding S
starts-S [] h zero l = absurd (not-suc-le-zero l)
starts-S (τ ∷ τs) h zero l = unfold starts in release-zero τ (h 0 l)
starts-S τs h (suc p) l =
    ap (starts 0) (take-suc τs (suc p) absent_task l)
    ∙ (starts_more 0 (take (suc p) τs) (get_or τs (suc p) absent_task)
    ∙ ap (release_from (get_or τs (suc p) absent_task)) (starts-S τs h p (omega arith)))

starts-last : (τs : List Task) → Periods τs → starts 0 τs ≡ last_s τs
starts-last [] h = unfold starts S in refl
starts-last (τ ∷ τs) h =
    ap (starts 0) (sym (take-length (τ ∷ τs))) ∙ starts-S (τ ∷ τs) h (length τs) (omega arith) ∙ ap (S (τ ∷ τs)) (omega arith)

-- a later start has no earlier first release
release-mono : (τ : Task) (a b : ℕ) → 0 < τ.period → a ≤ b → release_from τ a ≤ release_from τ b
release-mono τ a b h l =
    release-first τ a ((b - τ.offset + (τ.period - 1)) / τ.period) h (le_trans l (release-from τ b h))

-- so with fewer tasks the last S is no later
starts-fewer : (τs : List Task) (k : ℕ → Bool) (a b : ℕ) → Periods τs → a ≤ b → starts a (chosen k τs) ≤ starts b τs
unfolding starts chosen
starts-fewer [] k a b h l = l
starts-fewer (τ ∷ τs) k a b h l = go (k 0) (starts-fewer τs (λ q. k (suc q)))
  where
    pos : 0 < τ.period
    pos = h 0 (omega arith)

    below : Periods τs
    below p m = h (suc p) (omega arith)

    rest : List Task
    rest = chosen (λ q. k (suc q)) τs

    go : (t : Bool) → ((a b : ℕ) → Periods τs → a ≤ b → starts a rest ≤ starts b τs) → starts a (cond t (τ ∷ rest) rest) ≤ starts (release_from τ b) τs
    go true ih = ih (release_from τ a) (release_from τ b) below (release-mono τ a b pos l)
    go false ih = ih a (release_from τ b) below (le_trans l (release-from τ b pos))

-- THE THEOREM
pub part-fewer : (s : Table) → AllValid s → (x : ℕ) → SubTableBounds s x
part-fewer s ok x = record {
  valid = some-valid;
  start = start;
  period = divides;
  sooner = unfold horizon in omega (arith, start, le_of_dvd (hyperperiod-pos s.tasks) divides);
  most = chosen-length (bit x) s.tasks;
}
  where
    all : Periods s.tasks
    all p l = le_trans (ok p l).deadline-pos (ok p l).constrained

    some-valid : AllValid (sub_table s x)
    some-valid = chosen-all ValidTask absent_task (bit x) s.tasks ok

    some : Periods (sub_table s x).tasks
    some p l = le_trans (some-valid p l).deadline-pos (some-valid p l).constrained

    start : last_s (sub_table s x).tasks ≤ last_s s.tasks
    start = rw (← starts-last (sub_table s x).tasks some, ← starts-last s.tasks all) (starts-fewer s.tasks (bit x) 0 0 all (le_refl 0))

    divides : hyperperiod (sub_table s x).tasks ∣ hyperperiod s.tasks
    divides =
        hyperperiod-common (sub_table s x).tasks some (hyperperiod s.tasks)
        (chosen-all (λ τ. cycle τ ∣ hyperperiod s.tasks) absent_task (bit x) s.tasks (λ p l. cycle-divides s.tasks p all l))

-- The first task that 7 or 8 turns down: what it is, and what a walk along the tasks answers.
use mathlib.Core.Path.{◌≡◌, refl, ap, ◌∙◌}
use mathlib.Core.Bool.{Bool, true, false, cond}
use mathlib.Core.List.{List}
use Prim.Native.Nat.{ℕ, suc, ◌+◌, ◌<◌}
use native.Mathlib.Omega.{arith}
use lib.Dec.{eqb, ltb}
use lib.ListN.{length, get_or}
use borrow.Author.Tests.{lt-ltb, le-ltb, ltb-false, ne_eqb, eqb-true, eqb-false}
use native.Mathlib.Nat.{le_refl}
use Rattle.model.specs.Task as model
use Rattle.model.specs.Task.{absent_task}
use Rattle.model.proofs.Search.{least-found, least-lowest, least-none, none_any, least-is}
use Rattle.table.specs.Limits.{task_number, task_out}
use Rattle.table.specs.Answer.{Passed, Refused, first_out, tasks_answer}

-- it is turned down, and none before it is
pub out-found : (m : ℕ) (τs : List model.Task) → first_out m τs < length τs → task_out m (get_or τs (first_out m τs) absent_task) ≡ true
unfolding first_out
out-found m τs l = least-found (length τs) (λ p. task_out m (get_or τs p absent_task)) l

pub out-lowest : (m : ℕ) (τs : List model.Task) (j : ℕ) → j < first_out m τs → task_out m (get_or τs j absent_task) ≡ false
unfolding first_out
out-lowest m τs j l = least-lowest (length τs) (λ p. task_out m (get_or τs p absent_task)) j l

module _ (m : ℕ) (τs : List model.Task) where
  -- no task before the place is turned down
  abbrev pub NoneOutTo : ℕ → Type 0
  NoneOutTo place = (p : ℕ) → p < place → task_out m (get_or τs p absent_task) ≡ false

  pub none-more : (place : ℕ) → NoneOutTo place → task_out m (get_or τs place absent_task) ≡ false → NoneOutTo (place + 1)
  none-more place fine here p l = go (eqb p place) refl
    where
      go : (t : Bool) → eqb p place ≡ t → task_out m (get_or τs p absent_task) ≡ false
      go true e = ap (λ (i : ℕ). task_out m (get_or τs i absent_task)) (eqb-true p place e) ∙ here
      go false e = let apart = eqb-false p place e in fine p (omega arith)

  -- the first that is, with its number
  pub out-here : (place n : ℕ) → place < length τs → NoneOutTo place → task_number m (get_or τs place absent_task) ≡ n → (n ≡ 0 → ⊥) → Refused n (suc place) ≡ tasks_answer m τs
  unfolding first_out
  out-here place n l fine e z =
      let out : task_out m (get_or τs place absent_task) ≡ true = rw (e, ne_eqb n 0 z) in
      let first : first_out m τs ≡ place = least-is (length τs) (λ p. task_out m (get_or τs p absent_task)) place l out fine in
      rw (first, lt-ltb place (length τs) l, e) refl

  -- there is none
  pub out_none : NoneOutTo (length τs) → first_out m τs ≡ length τs
  unfolding first_out
  out_none fine =
      least-none (length τs) (λ p. task_out m (get_or τs p absent_task)) (none_any (length τs) (λ p. task_out m (get_or τs p absent_task)) fine)

  pub passed-none : NoneOutTo (length τs) → Passed ≡ tasks_answer m τs
  passed-none fine = rw (out_none fine, le-ltb (length τs) (length τs) (le_refl (length τs))) refl

-- where none is, none is turned down at any place
pub none-out : (m : ℕ) (τs : List model.Task) → Passed ≡ tasks_answer m τs → (p : ℕ) → p < length τs → task_out m (get_or τs p absent_task) ≡ false
none-out m τs e p l = go (ltb (first_out m τs) (length τs)) refl _ _ e
  where
    go : (t : Bool) → ltb (first_out m τs) (length τs) ≡ t → (n q : ℕ) → Passed ≡ cond t (Refused n q) Passed → task_out m (get_or τs p absent_task) ≡ false
    go true f n q h = absurd (cc)
    go false f n q h = out-lowest m τs p (omega (arith, ltb-false (first_out m τs) (length τs) f))

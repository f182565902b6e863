-- Tables whose lengths have grown: they are valid and in the width order where the table is, S, P and the horizon stay, and less growth is accepted where more
-- is (`smaller-growth`).
use mathlib.Core.List.{List, [], ◌∷◌}
use mathlib.Core.Logic.{inl, inr}
use mathlib.Core.Path.{ap, ap₂, refl, subst, sym, ◌∙◌, ◌≡◌}
use Prim.Native.Nat.{◌+◌, ◌-◌, ◌<◌, suc, zero, ℕ, ◌≤◌}
use native.Mathlib.Nat.{add-zero, le_refl, le_trans, suc_inj, suc-ne-zero}
use native.Mathlib.Omega.{arith}
use lib.ListN.{get_or, length, length-set, set}
use lib.Seq.{get_or-set_same, set-get_or}
use Rattle.model.specs.Lists.{NeverMissed}
use Rattle.model.specs.Firm.{ParallelismMonotonic}
use Rattle.model.specs.Horizon.{S, horizon, hyperperiod, last_s}
use Rattle.model.specs.Task.{AllValid, ValidTask, Table, Task, absent_task, task}
use Rattle.slack.specs.Longer.{TableLengthened, TaskLengthened, grown, lengthen}
use Rattle.slack.specs.Ordered.{Ordered}
use Rattle.slack.proofs.Longer.{longer-misses}

-- a task is itself with the same length
lengthened-same : (τ : Task) → TaskLengthened τ τ
lengthened-same τ = record { offset = refl; odd_width = refl; longer = le_refl τ.length; deadline = refl; period = refl; even_width = refl }

-- one task of a list grown by g, and by h
lengthened-set :
    (τs : List Task) (p : ℕ) (τ : Task) (g h q : ℕ) → g ≤ h
    → TaskLengthened (get_or (set τs p (lengthen g τ)) q absent_task) (get_or (set τs p (lengthen h τ)) q absent_task)
lengthened-set [] p τ g h q l = lengthened-same absent_task
lengthened-set (σ ∷ τs) zero τ g h zero l =
    record { offset = refl; odd_width = refl; longer = omega arith; deadline = refl; period = refl; even_width = refl }
lengthened-set (σ ∷ τs) zero τ g h (suc q) l = lengthened-same (get_or τs q absent_task)
lengthened-set (σ ∷ τs) (suc p) τ g h zero l = lengthened-same σ
lengthened-set (σ ∷ τs) (suc p) τ g h (suc q) l = lengthened-set τs p τ g h q l

pub grown-more : (s : Table) (p g h : ℕ) → g ≤ h → TableLengthened (grown s p g) (grown s p h)
grown-more s p g h l = record {
  rules = refl;
  cores = refl;
  fences = refl;
  count = length-set s.tasks p (lengthen g (task s p)) ∙ sym (length-set s.tasks p (lengthen h (task s p)));
  places = λ q. lengthened-set s.tasks p (task s p) g h q l;
}

-- no growth
pub grown-none : (s : Table) (p : ℕ) → grown s p 0 ≡ s
grown-none s p =
    let e : τ ≡ task s p = rw (add-zero (task s p).length) in
    ap (λ (τs : List Task). record { tasks = τs; cores = s.cores; fence = s.fence; rule = s.rule })
    (ap (set s.tasks p) e ∙ set-get_or s.tasks p absent_task)
  where
    τ : Task
    τ = lengthen 0 (task s p)

pub grown-longer : (s : Table) (p g : ℕ) → TableLengthened s (grown s p g)
grown-longer s p g = subst (λ (s₀ : Table). TableLengthened s₀ (grown s p g)) (grown-none s p) (grown-more s p 0 g (omega arith))

-- as many tasks, and the one that has grown
pub grown-count : (s : Table) (p g : ℕ) → length (grown s p g).tasks ≡ length s.tasks
grown-count s p g = length-set s.tasks p (lengthen g (task s p))

pub grown-task : (s : Table) (p g : ℕ) → p < length s.tasks → task (grown s p g) p ≡ lengthen g (task s p)
grown-task s p g l = get_or-set_same s.tasks p (lengthen g (task s p)) absent_task l

-- WHAT STAYS

valid-lengthened : {τ τ' : Task} → TaskLengthened τ τ' → ValidTask τ → ValidTask τ'
valid-lengthened x ok = record {
  odd_pos = subst (λ (n : ℕ). 1 ≤ n) x.odd_width ok.odd_pos;
  even-pos = subst (λ (n : ℕ). 1 ≤ n) x.even_width ok.even-pos;
  length-pos = le_trans ok.length-pos x.longer;
  deadline-pos = subst (λ (n : ℕ). 1 ≤ n) x.deadline ok.deadline-pos;
  constrained = rw (← x.deadline, ← x.period) ok.constrained;
}

pub valid-longer : (s s' : Table) → TableLengthened s s' → AllValid s → AllValid s'
valid-longer s s' x ok p l = valid-lengthened (x.places p) (ok p (subst (λ (n : ℕ). p < n) (sym x.count) l))

pub ordered-longer : (s s' : Table) → TableLengthened s s' → Ordered s → Ordered s'
ordered-longer s s' x (inl e) = inl (sym x.rules ∙ e)
ordered-longer s s' x (inr (e, h)) = inr (sym x.rules ∙ e, monotonic-grown)
  where
    monotonic-grown : ParallelismMonotonic s'.tasks
    monotonic-grown p l =
        rw (← (x.places p).odd_width, ← (x.places p).even_width, ← (x.places (suc p)).odd_width, ← (x.places (suc p)).even_width)
        (h p (subst (λ (n : ℕ). suc p < n) (sym x.count) l))

-- S and P stay, and so does the horizon: 9 does not come up
same-S : (τs τs' : List Task) → ((q : ℕ) → TaskLengthened (get_or τs q absent_task) (get_or τs' q absent_task)) → (p : ℕ) → S τs p ≡ S τs' p
unfolding S
same-S τs τs' x zero = (x 0).offset
same-S τs τs' x (suc p) = rw ((x (suc p)).offset, (x (suc p)).period, same-S τs τs' x p)

pub start-longer : (s s' : Table) → TableLengthened s s' → last_s s.tasks ≡ last_s s'.tasks
start-longer s s' x =
    ap (λ (n : ℕ). S s.tasks (n - 1)) x.count ∙ same-S s.tasks s'.tasks x.places (length s'.tasks - 1)

same-P : (τs τs' : List Task) → length τs ≡ length τs' → ((q : ℕ) → TaskLengthened (get_or τs q absent_task) (get_or τs' q absent_task)) → hyperperiod τs ≡ hyperperiod τs'
unfolding hyperperiod
same-P [] [] e x = refl
same-P [] (τ' ∷ τs') e x = absurd (suc-ne-zero _ (sym e))
same-P (τ ∷ τs) [] e x = absurd (suc-ne-zero _ e)
same-P (τ ∷ τs) (τ' ∷ τs') e x = rw ((x 0).period, (x 0).odd_width, (x 0).even_width, same-P τs τs' (suc_inj e) (λ q. x (suc q)))

pub period-longer : (s s' : Table) → TableLengthened s s' → hyperperiod s.tasks ≡ hyperperiod s'.tasks
period-longer s s' x = same-P s.tasks s'.tasks x.count x.places

pub horizon-longer : (s s' : Table) → TableLengthened s s' → horizon s ≡ horizon s'
unfolding horizon
horizon-longer s s' x = ap₂ (λ (a b : ℕ). a + b) (start-longer s s' x) (period-longer s s' x)

module _ (s : Table) (ok : AllValid s) where
  pub valid-grown : (p g : ℕ) → AllValid (grown s p g)
  valid-grown p g = valid-longer s (grown s p g) (grown-longer s p g) ok

  -- THE LAW FOR ONE TASK: every smaller growth of an accepted growth is accepted
  pub smaller-growth : Ordered s → (p g h : ℕ) → h ≤ g → NeverMissed (grown s p g) → NeverMissed (grown s p h)
  smaller-growth o p g h l nm =
      longer-misses (grown s p h) (grown s p g) (valid-grown p h) (ordered-longer s (grown s p h) (grown-longer s p h) o) (grown-more s p h g l) nm

-- The test of a phase and its parity decides their limits, and a tick keeps them within these.
use mathlib.Core.Path.{◌≡◌, refl, ap}
use mathlib.Core.Bool.{Bool, true, false, not, ◌&&◌, ◌||◌, cond, false≢true, true≢false}
use mathlib.Core.Logic.{◌⊎◌, inl, inr, ⊎_elim}
use Prim.Native.Nat.{ℕ, ◌+◌, ◌-◌, ◌≤◌, ◌<◌}
use native.Mathlib.Omega.{arith}
use lib.Dec.{eqb}
use borrow.Author.Tests.{eqb-true, eqb-false, eq-eqb}
use Rattle.model.specs.Lending.{lends}
use Rattle.model.specs.Task.{Task, ValidTask, Rule, greedy, limited, idling, lending}
use Rattle.table.proofs.Decide.{Decides, decides-le, decides-lt, decides_eq, decides_and, decides_or}
use Rattle.phase.specs.declared.Phase.{Phase}
use Rattle.phase.specs.declared.Phase.TheVariants.{Coming, Working, Holding, Resting}
use Rattle.phase.specs.declared.TaskState.{TaskState}
use Rattle.phase.specs.Phase.{PhaseIn, idles, phase_in, late_in, released, empty_phase, phase_emptied, task_state, start_state, resting, holding, ended, worked, next_state}

-- TESTS

-- a property of a test of equality, from the two cases of what it tests
pub by-eq : (P : Bool → Type 0) (a b : ℕ) → (a ≡ b → P true) → ((a ≡ b → ⊥) → P false) → P (eqb a b)
by-eq P a b f g = go (eqb a b) refl
  where
    go : (x : Bool) → eqb a b ≡ x → P x
    go true e = f (eqb-true a b e)
    go false e = g (eqb-false a b e)

-- rules 3 and 4 are those under which ended work holds
pub idles-decides : (r : Rule) → Decides (idles r) ((r ≡ idling) ⊎ (r ≡ lending))
idles-decides greedy = (λ e. absurd (false≢true e), λ e. ⊎_elim (λ q. ap idles q) (λ q. ap idles q) e)
idles-decides limited = (λ e. absurd (false≢true e), λ e. ⊎_elim (λ q. ap idles q) (λ q. ap idles q) e)
idles-decides idling = (λ e. inl refl, λ e. refl)
idles-decides lending = (λ e. inr refl, λ e. refl)

-- and rule 4 is the one under which they are lent
pub lends-decides : (r : Rule) → Decides (lends r) (r ≡ lending)
lends-decides greedy = (λ e. absurd (false≢true e), λ e. ap lends e)
lends-decides limited = (λ e. absurd (false≢true e), λ e. ap lends e)
lends-decides idling = (λ e. absurd (false≢true e), λ e. ap lends e)
lends-decides lending = (λ e. refl, λ e. refl)

-- a job is odd if it is not an even one
odd-decides : (e : Bool) → Decides (not e) (e ≡ false)
odd-decides true = (λ q. absurd (false≢true q), λ q. absurd (true≢false q))
odd-decides false = (λ q. refl, λ q. refl)

-- the test is true exactly within the limits
pub phase-decides : (r : Rule) (τ : Task) (even : Bool) (ph : Phase) → Decides (phase_in r τ even ph) (PhaseIn r τ even ph)
phase-decides r τ even (Coming left) =
    decides_and _ _ _ _ (decides_and _ _ _ _ (decides-le 1 left) (decides-le left τ.offset)) (odd-decides even)
phase-decides r τ even (Working z had reserved) = (
  λ e. let x = deciding.0 e in ((omega arith, x.0), x.1.0, x.1.1.0, x.1.1.1.0, x.1.1.1.1),
  λ x. deciding.1 (x.0.1, (x.1, (x.2, (x.3, x.4)))),
)
  where
    deciding :
        Decides (phase_in r τ even (Working z had reserved))
        ((z ≤ τ.deadline) × ((had < τ.length) × ((had ≤ z) × ((reserved ≤ had) × ((r ≡ lending) ⊎ (reserved ≡ had))))))
    deciding =
        decides_and _ _ _ _ (decides-le z τ.deadline)
        (decides_and _ _ _ _ (decides-lt had τ.length)
        (decides_and _ _ _ _ (decides-le had z)
        (decides_and _ _ _ _ (decides-le reserved had) (decides_or _ _ _ _ (lends-decides r) (decides_eq reserved had)))))
phase-decides r τ even (Holding z reserved) = (
  λ e. let x = deciding.0 e in (x.0, x.1.0, x.1.1.0, x.1.1.1),
  λ x. deciding.1 (x.0, (x.1, (x.2, x.3))),
)
  where
    deciding :
        Decides (phase_in r τ even (Holding z reserved))
        (((r ≡ idling) ⊎ (r ≡ lending)) × ((z < τ.deadline) × ((reserved < τ.length) × (reserved ≤ z))))
    deciding =
        decides_and _ _ _ _ (idles-decides r)
        (decides_and _ _ _ _ (decides-lt z τ.deadline)
        (decides_and _ _ _ _ (decides-lt reserved τ.length) (decides-le reserved z)))
phase-decides r τ even (Resting z) = (
  λ e. let x = deciding.0 e in (x.0, omega arith),
  λ x. deciding.1 (x.0, omega arith),
)
  where
    deciding : Decides (phase_in r τ even (Resting z)) ((1 ≤ z) × (z < τ.period))
    deciding = decides_and _ _ _ _ (decides-le 1 z) (decides-lt z τ.period)

-- a hold ends at z = D, whatever was reserved: a law of the definition, though nothing cites it
pub hold-ends : (τ : Task) (even : Bool) (u : ℕ) → holding τ even τ.deadline u ≡ resting τ even τ.deadline
hold-ends τ even u = rw (eq-eqb τ.deadline τ.deadline refl) (go (eqb u τ.length))
  where
    go : (x : Bool) → cond (x || true) (resting τ even τ.deadline) (task_state even (Holding τ.deadline u)) ≡ resting τ even τ.deadline
    go true = refl
    go false = refl

-- ONE TICK KEEPS THE LIMITS

-- the state of a task is within the limits
abbrev pub StateIn : Rule → Task → TaskState → Type 0
StateIn r τ w = PhaseIn r τ w.even w.phase

module _ (r : Rule) (τ : Task) (ok : ValidTask τ) where
  resting-in : (even : Bool) (z : ℕ) → 1 ≤ z → z ≤ τ.period → StateIn r τ (resting τ even z)
  resting-in even z a b =
      by-eq (λ (x : Bool). StateIn r τ (cond x (task_state (not even) (Working 0 0 0)) (task_state even (Resting z)))) z τ.period
      (λ e. ((omega arith, omega arith), ok.length-pos, omega arith, omega arith, inr refl))
      (λ n. (a, omega arith))

  holding-in :
      (r ≡ idling) ⊎ (r ≡ lending) → (even : Bool) (z u : ℕ) → 1 ≤ z → z ≤ τ.deadline → u ≤ τ.length → u ≤ z
      → StateIn r τ (holding τ even z u)
  holding-in i even z u a b d w =
      by-eq (λ (x : Bool). StateIn r τ (cond (x || eqb z τ.deadline) (resting τ even z) (task_state even (Holding z u)))) u τ.length
      (λ e. resting-in even z a (omega (arith, ok.constrained)))
      (λ n.
      by-eq (λ (x : Bool). StateIn r τ (cond x (resting τ even z) (task_state even (Holding z u)))) z τ.deadline
      (λ e. resting-in even z a (omega (arith, ok.constrained)))
      (λ m. (i, omega arith, omega arith, w)))

  ended-in : (even : Bool) (z u : ℕ) → 1 ≤ z → z ≤ τ.deadline → u ≤ τ.length → u ≤ z → StateIn r τ (ended r τ even z u)
  ended-in even z u a b d w = go (idles r) refl
    where
      go : (x : Bool) → idles r ≡ x → StateIn r τ (cond x (holding τ even z u) (resting τ even z))
      go true e = holding-in ((idles-decides r).0 e) even z u a b d w
      go false e = resting-in even z a (omega (arith, ok.constrained))

  worked-in :
      (f even : Bool) (z h u : ℕ) → 1 ≤ z → z ≤ τ.deadline → h ≤ τ.length → h ≤ z → u ≤ h → (r ≡ lending) ⊎ (u ≡ h)
      → StateIn r τ (worked r τ f even z h u)
  worked-in true even z h u a b d w q i = ended-in even z u a b (omega arith) (omega arith)
  worked-in false even z h u a b d w q i =
      by-eq (λ (x : Bool). StateIn r τ (cond x (ended r τ even z u) (task_state even (Working z h u)))) h τ.length
      (λ e. ended-in even z u a b (omega arith) (omega arith))
      (λ n. ((omega arith, b), omega arith, w, q, i))

  -- a phase within its limits, whose task is not late and borrows only under rule 4, is within them one tick on
  pub next-in :
      (given lent f even : Bool) → (lent ≡ true → r ≡ lending) → (ph : Phase) → PhaseIn r τ even ph → late_in τ.deadline ph ≡ false
      → StateIn r τ (next_state r τ given lent f even ph)
  next-in given lent f even j (Coming left) h n =
      by-eq (λ (x : Bool). StateIn r τ (task_state even (cond x (Working 0 0 0) (Coming (left - 1))))) (left - 1) 0
      (λ e. ((omega arith, omega arith), ok.length-pos, omega arith, omega arith, inr refl))
      (λ e. ((omega arith, omega arith), h.1))
  next-in true lent f even j (Working z had u) h n =
      let less = eqb-false z τ.deadline n in
      worked-in f even (z + 1) (had + 1) (u + 1) (omega arith) (omega arith) (omega arith) (omega arith) (omega arith)
      (⊎_elim (λ (q : r ≡ lending). inl q) (λ (q : u ≡ had). inr (ap (λ (x : ℕ). x + 1) q)) h.4)
  next-in false true f even j (Working z had u) h n =
      let less = eqb-false z τ.deadline n in
      worked-in f even (z + 1) (had + 1) u (omega arith) (omega arith) (omega arith) (omega arith) (omega arith) (inl (j refl))
  next-in false false f even j (Working z had u) h n =
      let less = eqb-false z τ.deadline n in
      ((omega arith, omega arith), h.1, omega arith, h.3, h.4)
  next-in true lent f even j (Holding z u) h n = holding-in h.0 even (z + 1) (u + 1) (omega arith) (omega arith) (omega arith) (omega arith)
  next-in false lent f even j (Holding z u) h n = holding-in h.0 even (z + 1) u (omega arith) (omega arith) (omega arith) (omega arith)
  next-in given lent f even j (Resting z) h n = resting-in even (z + 1) (omega arith) (omega arith)

  -- .. and so if its job, released in this tick, is empty
  pub emptied-in :
      (empty given lent f even : Bool) → (lent ≡ true → r ≡ lending) → (ph : Phase) → PhaseIn r τ even ph → late_in τ.deadline ph ≡ false
      → StateIn r τ (next_state r τ given lent f even (phase_emptied r empty ph))
  emptied-in empty given lent f even j ph h n = go (empty && released ph)
    where
      none : (x : Bool) → idles r ≡ x → StateIn r τ (next_state r τ given lent f even (cond x (Holding 0 0) (Resting 0)))
      none true e = next-in given lent f even j (Holding 0 0) ((idles-decides r).0 e, ok.deadline-pos, ok.length-pos, omega arith) refl
      none false e = resting-in even (0 + 1) (omega arith) (omega (arith, ok.constrained, ok.deadline-pos))

      go : (x : Bool) → StateIn r τ (next_state r τ given lent f even (cond x (empty_phase r) ph))
      go true = none (idles r) refl
      go false = next-in given lent f even j ph h n

  -- and so is the start
  pub start-in : StateIn r τ (start_state τ.offset)
  start-in =
      by-eq (λ (x : Bool). StateIn r τ (task_state false (cond x (Working 0 0 0) (Coming τ.offset)))) τ.offset 0
      (λ e. ((omega arith, omega arith), ok.length-pos, omega arith, omega arith, inr refl))
      (λ n. ((omega arith, omega arith), refl))

-- an empty job is not late
pub emptied-late : (r : Rule) (D : ℕ) (empty : Bool) (ph : Phase) → late_in D ph ≡ false → late_in D (phase_emptied r empty ph) ≡ false
emptied-late r D empty ph n = go (empty && released ph)
  where
    none : (x : Bool) → late_in D (cond x (Holding 0 0) (Resting 0)) ≡ false
    none true = refl
    none false = refl

    go : (x : Bool) → late_in D (cond x (empty_phase r) ph) ≡ false
    go true = none (idles r)
    go false = n

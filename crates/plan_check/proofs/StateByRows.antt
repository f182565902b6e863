-- A TASK MOVED BY THE ROWS: its state after each row, moved by `next_state` as one that is given its cores exactly where it is in the row and is
-- never reported, is that of the rows, up to the first fault: its phase is `phase_by`, its parity that of its newest job.
use mathlib.Core.Bool.{◌&&◌, Bool, cond, false, not, true}
use mathlib.Core.List.{List}
use mathlib.Core.Path.{ap, ap₂, refl, subst, sym, ◌∙◌, ◌≡◌}
use Prim.Native.Nat.{◌%◌, ◌+◌, ◌-◌, ◌/◌, ◌<◌, suc, zero, ℕ, ◌≤◌}
use native.Mathlib.Nat.{le_trans, zero-div}
use native.Mathlib.Omega.{arith}
use lib.Dec.{eqb, leb, ltb}
use lib.ListN.{length}
use borrow.Author.Tests.{eq-eqb, eqb-false, eqb-true, le-ltb, leb-false, leb-true, lt-ltb, ltb-true, ne_eqb}
use Rattle.std.specs.Cmp.{both_ways}
use Rattle.model.proofs.Jobs.{newest-is}
use Rattle.model.specs.Task.{AllValid, Table, Task, due, newest, release, task}
use Rattle.phase.specs.Phase.{late_in, next_state, resting, task_state, start_state, working}
use Rattle.phase.specs.declared.Phase.{Phase}
use Rattle.phase.specs.declared.Phase.TheVariants.{Coming, Resting, Working}
use Rattle.phase.specs.declared.TaskState.{TaskState}
use Rattle.plan_check.proofs.PlanBook.{due_at, released_at}
use Rattle.plan_check.specs.Plan.{had_in_rows, phase_after, phase_by, runs}
use Rattle.plan_check.proofs.Newest.{newest-begun, newest-next, newest-only, newest-release}
use Rattle.plan_check.proofs.Owed.{before-offset, due-now, less_one, offset-release, open-owed, open_at, owed-due, owed-next, owed_at, unreleased}
use Rattle.plan_check.proofs.OneTick.{next_of, next-parity, phase-of, phase_of}
use Rattle.plan_check.proofs.PhaseBy.{phase-coming, phase-from}
use Rattle.plan_check.proofs.Ticks.{ticks-grow, ticks-none, ticks-on}

-- the state of place p at tick t, moved by the rows
unfoldable pub state_by_rows : Table → (ℕ → List ℕ) → ℕ → ℕ → TaskState
state_by_rows s r p zero = start_state (task s p).offset
state_by_rows s r p (suc t) = next_state s.rule (task s p) (runs r p t) false false (state_by_rows s r p t).even (state_by_rows s r p t).phase

-- the newest job of a task at tick t is an even one: jobs count from 0, so that its number is odd
abbrev pub even_at : Task → ℕ → Bool
even_at τ t = not (eqb (newest τ t % 2) 0)

-- its state by the rows
abbrev pub states_answer : Table → (ℕ → List ℕ) → ℕ → ℕ → TaskState
states_answer s r p t = task_state (even_at (task s p) t) (phase_by s r p t)

module _ (s : Table) (ok : AllValid s) (r : ℕ → List ℕ) (p : ℕ) (l : p < length s.tasks) where
  abbrev τ : Task
  τ = task s p

  pos : 0 < τ.period
  pos = le_trans (ok p l).deadline-pos (ok p l).constrained

  -- up to tick t no deadline of the task is missed, and before it the task is in the row only with ticks owed
  pub record Steady (t : ℕ) : Type 0 where
    pub timely : (u : ℕ) → u ≤ t → due_at τ u ≡ true → owed_at s r u p ≡ 0
    pub owing : (u : ℕ) → u < t → runs r p u ≡ true → 0 < open_at s r u p

  -- what is owed after a tick, by the job that was the newest in it
  owed-closed : (t : ℕ) → τ.offset ≤ t → owed_at s r (suc t) p ≡ τ.length - had_in_rows s r p (newest τ t) (suc t)
  owed-closed t h =
      owed-next s ok r p l t
      ∙ (ap (λ (x : ℕ). x - cond (runs r p t) 1 0) (open-owed s ok r p l t h)
      ∙ (less_one τ.length (had_in_rows s r p (newest τ t) t) (runs r p t)
      ∙ ap (λ (x : ℕ). τ.length - x) (sym (ticks-on r p (release τ (newest τ t)) t (newest-begun τ pos t h)))))

  -- a job with ticks owed is not due yet
  early-before : (t k : ℕ) → ((u : ℕ) → u ≤ t → due_at τ u ≡ true → owed_at s r u p ≡ 0) → 0 < τ.length - had_in_rows s r p k t → t < due τ k
  early-before t k timely h = go (leb (due τ k) t) refl
    where
      go : (b : Bool) → leb (due τ k) t ≡ b → t < due τ k
      go false e = leb-false (due τ k) t e
      go true e =
          let past = leb-true (due τ k) t e in
          let none : owed_at s r (due τ k) p ≡ 0 = timely (due τ k) past (due-now s ok r p l k) in
          absurd (omega (arith, owed-due s ok r p l k, ticks-grow r p (release τ k) (due τ k) t past))

  -- a release comes a period after the last
  release-next : (t : ℕ) → τ.offset ≤ t → released_at τ (suc t) ≡ eqb (t - release τ (newest τ t) + 1) τ.period
  release-next t h = go (eqb (t - release τ (newest τ t) + 1) τ.period) refl
    where
      k : ℕ
      k = newest τ t

      begun : release τ k ≤ t
      begun = newest-begun τ pos t h

      go : (b : Bool) → eqb (t - release τ k + 1) τ.period ≡ b → released_at τ (suc t) ≡ b
      go true e =
          let here : suc t ≡ release τ (suc k) = omega (arith, eqb-true (t - release τ k + 1) τ.period e, begun) in
          eq-eqb (release τ (newest τ (suc t))) (suc t) (ap (release τ) (ap (newest τ) here ∙ newest-release τ pos (suc k)) ∙ sym here)
      go false e =
          let before : suc t < release τ (suc k) =
          omega (arith, eqb-false (t - release τ k + 1) τ.period e, begun, newest-next τ pos t h) in
          let same : newest τ (suc t) ≡ k = newest-only τ pos k (suc t) (omega (arith, begun)) before in
          ne_eqb (release τ (newest τ (suc t))) (suc t) (λ q. omega (arith, ap (release τ) same, begun))

  -- the newest job a tick later: the next one where it is released, else the same
  newest-after : (t : ℕ) → τ.offset ≤ t → released_at τ (suc t) ≡ true → newest τ (suc t) ≡ suc (newest τ t)
  newest-after t h e =
      let begun = newest-begun τ pos t h in
      let here : suc t ≡ release τ (suc (newest τ t)) =
      omega (arith, eqb-true (t - release τ (newest τ t) + 1) τ.period (sym (release-next t h) ∙ e)) in
      ap (newest τ) here ∙ newest-release τ pos (suc (newest τ t))

  newest-stays : (t : ℕ) → τ.offset ≤ t → released_at τ (suc t) ≡ false → newest τ (suc t) ≡ newest τ t
  newest-stays t h e =
      let begun = newest-begun τ pos t h in
      let f = eqb-false (t - release τ (newest τ t) + 1) τ.period (sym (release-next t h) ∙ e) in
      newest-only τ pos (newest τ t) (suc t) (omega arith) (omega (arith, newest-next τ pos t h))

  -- up to the offset it is the first, an odd one
  first-odd : (t : ℕ) → t ≤ τ.offset → even_at τ t ≡ false
  first-odd t h =
      let none : t - τ.offset ≡ 0 = omega arith in
      ap (λ (n : ℕ). not (eqb (n / τ.period % 2) 0)) none ∙ ap (λ (n : ℕ). not (eqb (n % 2) 0)) (zero-div τ.period)

  -- at a release the phase is Working(0,0)
  phase-release : (t : ℕ) → released_at τ t ≡ true → phase_by s r p t ≡ Working 0 0 0
  phase-release t e =
      let here : release τ (newest τ t) ≡ t = eqb-true (release τ (newest τ t)) t e in
      let z : t - release τ (newest τ t) ≡ 0 = omega arith in
      phase-from s r p t (omega arith)
      ∙ (ap₂ (phase_after τ.length) z (ticks-none r p (release τ (newest τ t)) t (omega arith))
      ∙ ap (λ (b : Bool). cond b (Working 0 0 0) (Resting 0)) (lt-ltb 0 τ.length (ok p l).length-pos))

  -- from the offset on
  phase-by-from : (t : ℕ) → τ.offset ≤ t → phase_by s r p t ≡ phase_of τ (t - release τ (newest τ t)) (open_at s r t p)
  phase-by-from t h =
      phase-from s r p t h
      ∙ (phase-of τ (t - release τ (newest τ t)) (had_in_rows s r p (newest τ t) t)
      ∙ ap (phase_of τ (t - release τ (newest τ t))) (sym (open-owed s ok r p l t h)))

  -- it works exactly while ticks are owed
  pub works-by-phase : (t : ℕ) → working (phase_by s r p t) ≡ ltb 0 (open_at s r t p)
  works-by-phase t = go (leb τ.offset t) refl
    where
      works-of : (z o : ℕ) (b : Bool) → working (cond b (Working z (τ.length - o) (τ.length - o)) (Resting z)) ≡ b
      works-of z o true = refl
      works-of z o false = refl

      go : (b : Bool) → leb τ.offset t ≡ b → working (phase_by s r p t) ≡ ltb 0 (open_at s r t p)
      go true e = ap working (phase-by-from t (leb-true τ.offset t e)) ∙ works-of (t - release τ (newest τ t)) (open_at s r t p) (ltb 0 (open_at s r t p))
      go false e =
          let h = leb-false τ.offset t e in
          ap working (phase-coming s r p t h) ∙ sym (le-ltb 0 (open_at s r t p) (omega (arith, before-offset s ok r p l t h)))

  -- .. without a release
  phase-on :
      (t : ℕ) → τ.offset ≤ t → released_at τ (suc t) ≡ false
      → phase_by s r p (suc t) ≡ phase_of τ (t - release τ (newest τ t) + 1) (owed_at s r (suc t) p)
  phase-on t h e =
      let begun = newest-begun τ pos t h in
      let z : suc t - release τ (newest τ t) ≡ t - release τ (newest τ t) + 1 = omega arith in
      phase-by-from (suc t) (omega arith)
      ∙ ap₂ (phase_of τ) (ap (λ (k : ℕ). suc t - release τ k) (newest-stays t h e) ∙ z) (unreleased s ok r p l (suc t) e)

  -- one tick, from the offset on
  after-tick :
      (t : ℕ) (e : Bool) → τ.offset ≤ t → (runs r p t ≡ true → 0 < open_at s r t p)
      → next_state s.rule τ (runs r p t) false false e (phase_by s r p t)
      ≡ cond (ltb 0 (owed_at s r (suc t) p))
      (task_state e (Working (t - release τ (newest τ t) + 1) (τ.length - owed_at s r (suc t) p) (τ.length - owed_at s r (suc t) p)))
      (resting τ e (t - release τ (newest τ t) + 1))
  after-tick t e h owing =
      ap (next_state s.rule τ (runs r p t) false false e) (phase-by-from t h)
      ∙ (next_of s.rule τ (runs r p t) e (t - release τ (newest τ t)) (open_at s r t p) (omega (arith, open-owed s ok r p l t h)) owing
      ∙ ap
      (λ (o : ℕ). cond (ltb 0 o) (task_state e (Working (t - release τ (newest τ t) + 1) (τ.length - o) (τ.length - o))) (resting τ e (t - release τ (newest τ t) + 1)))
      (sym (owed-next s ok r p l t)))

  -- the step of the relation
  phase-next : (t : ℕ) → Steady (suc t) → next_state s.rule τ (runs r p t) false false (even_at τ t) (phase_by s r p t) ≡ states_answer s r p (suc t)
  phase-next t x = go (leb τ.offset t) refl
    where
      z : ℕ
      z = t - release τ (newest τ t)

      come : τ.offset - t - 1 ≡ τ.offset - suc t
      come = omega arith

      arriving : t < τ.offset → (b : Bool) → eqb (τ.offset - t - 1) 0 ≡ b
          → task_state (even_at τ t) (cond b (Working 0 0 0) (Coming (τ.offset - t - 1))) ≡ states_answer s r p (suc t)
      arriving h true e =
          ap₂ (λ (b : Bool) (ph : Phase). task_state b ph) (first-odd t (omega arith) ∙ sym (first-odd (suc t) (omega arith)))
          (sym (phase-release (suc t) (offset-release s ok r p l (suc t) (omega (arith, eqb-true (τ.offset - t - 1) 0 e)))))
      arriving h false e =
          ap₂ (λ (b : Bool) (ph : Phase). task_state b ph) (first-odd t (omega arith) ∙ sym (first-odd (suc t) (omega arith)))
          (ap Coming come ∙ sym (phase-coming s r p (suc t) (omega (arith, eqb-false (τ.offset - t - 1) 0 e))))

      -- with a release nothing is owed any more
      none-owed : τ.offset ≤ t → released_at τ (suc t) ≡ true → ltb 0 (owed_at s r (suc t) p) ≡ false
      none-owed h e = go (ltb 0 (owed_at s r (suc t) p)) refl
        where
          go : (b : Bool) → ltb 0 (owed_at s r (suc t) p) ≡ b → b ≡ false
          go false q = refl
          go true q =
              let some-owed : 0 < owed_at s r (suc t) p = ltb-true 0 (owed_at s r (suc t) p) q in
              let early : suc t < due τ (newest τ t) = early-before (suc t) (newest τ t) x.timely (omega (arith, owed-closed t h)) in
              let period : z + 1 ≡ τ.period = eqb-true (z + 1) τ.period (sym (release-next t h) ∙ e) in
              absurd (omega (arith, (ok p l).constrained, newest-begun τ pos t h))

      later : Bool → Bool → TaskState
      later owes new =
          cond owes (task_state (even_at τ t) (Working (z + 1) (τ.length - owed_at s r (suc t) p) (τ.length - owed_at s r (suc t) p)))
          (cond new (task_state (not (even_at τ t)) (Working 0 0 0)) (task_state (even_at τ t) (Resting (z + 1))))

      staying : τ.offset ≤ t → (b : Bool) → released_at τ (suc t) ≡ b → later (ltb 0 (owed_at s r (suc t) p)) (eqb (z + 1) τ.period) ≡ states_answer s r p (suc t)
      staying h true e =
          ap₂ later (none-owed h e) (sym (release-next t h) ∙ e)
          ∙ ap₂ (λ (b : Bool) (ph : Phase). task_state b ph)
          (sym (ap (λ (k : ℕ). not (eqb (k % 2) 0)) (newest-after t h e) ∙ next-parity (newest τ t))) (sym (phase-release (suc t) e))
      staying h false e =
          ap (later (ltb 0 (owed_at s r (suc t) p))) (sym (release-next t h) ∙ e)
          ∙ (move (ltb 0 (owed_at s r (suc t) p))
          ∙ ap₂ (λ (b : Bool) (ph : Phase). task_state b ph) (ap (λ (k : ℕ). not (eqb (k % 2) 0)) (sym (newest-stays t h e))) (sym (phase-on t h e)))
        where
          move : (b : Bool) → later b false
              ≡ task_state (even_at τ t) (cond b (Working (z + 1) (τ.length - owed_at s r (suc t) p) (τ.length - owed_at s r (suc t) p)) (Resting (z + 1)))
          move true = refl
          move false = refl

      go : (b : Bool) → leb τ.offset t ≡ b → next_state s.rule τ (runs r p t) false false (even_at τ t) (phase_by s r p t) ≡ states_answer s r p (suc t)
      go true e =
          let h = leb-true τ.offset t e in
          after-tick t (even_at τ t) h (x.owing t (omega arith)) ∙ staying h (released_at τ (suc t)) refl
      go false e =
          let h = leb-false τ.offset t e in
          ap (next_state s.rule τ (runs r p t) false false (even_at τ t)) (phase-coming s r p t h) ∙ arriving h (eqb (τ.offset - t - 1) 0) refl

  phase-start : start_state τ.offset ≡ states_answer s r p 0
  phase-start = go (eqb τ.offset 0) refl
    where
      go : (b : Bool) → eqb τ.offset 0 ≡ b → task_state false (cond b (Working 0 0 0) (Coming τ.offset)) ≡ states_answer s r p 0
      go true e =
          ap₂ (λ (b : Bool) (ph : Phase). task_state b ph) (sym (first-odd 0 (omega arith)))
          (sym (phase-release 0 (offset-release s ok r p l 0 (omega (arith, eqb-true τ.offset 0 e)))))
      go false e =
          let whole : τ.offset ≡ τ.offset - 0 = omega arith in
          ap₂ (λ (b : Bool) (ph : Phase). task_state b ph) (sym (first-odd 0 (omega arith)))
          (ap Coming whole ∙ sym (phase-coming s r p 0 (omega (arith, eqb-false τ.offset 0 e))))

  -- THE RELATION
  pub state-by-phase : (t : ℕ) → Steady t → state_by_rows s r p t ≡ states_answer s r p t
  unfolding state_by_rows
  state-by-phase zero x = phase-start
  state-by-phase (suc t) x =
      ap (λ (w : TaskState). next_state s.rule τ (runs r p t) false false w.even w.phase)
      (state-by-phase t (record { timely = λ u h. x.timely u (omega arith); owing = λ u h. x.owing u (omega arith) }))
      ∙ phase-next t x

  -- 25: a phase is Working at z = D exactly if a job that is due is still owed ticks
  pub late-by-phase :
      (t : ℕ) → Steady t → (runs r p t ≡ true → 0 < open_at s r t p)
      → late_in τ.deadline (state_by_rows s r p (suc t)).phase ≡ due_at τ (suc t) && ltb 0 (owed_at s r (suc t) p)
  late-by-phase t x owing =
      unfold state_by_rows in
      ap (λ (w : TaskState). late_in τ.deadline (next_state s.rule τ (runs r p t) false false w.even w.phase).phase) (state-by-phase t x) ∙ go (leb τ.offset t) refl
    where
      z : ℕ
      z = t - release τ (newest τ t)

      none : (b : Bool) → b && false ≡ false
      none true = refl
      none false = refl

      not-zero : eqb 0 τ.deadline ≡ false
      not-zero = ne_eqb 0 τ.deadline (λ e. omega (arith, (ok p l).deadline-pos))

      resting-not : (b : Bool) → late_in τ.deadline (cond b (task_state (not (even_at τ t)) (Working 0 0 0)) (task_state (even_at τ t) (Resting (z + 1)))).phase ≡ false
      resting-not true = not-zero
      resting-not false = refl

      coming-not : (b : Bool) (n : ℕ) → late_in τ.deadline (cond b (Working 0 0 0) (Coming n)) ≡ false
      coming-not true n = not-zero
      coming-not false n = refl

      -- the job that is due is the newest
      due-same : τ.offset ≤ t → 0 < owed_at s r (suc t) p → eqb (z + 1) τ.deadline ≡ due_at τ (suc t)
      due-same h some-owed = both_ways (eqb (z + 1) τ.deadline) (due_at τ (suc t)) there back
        where
          begun : release τ (newest τ t) ≤ t
          begun = newest-begun τ pos t h

          there : eqb (z + 1) τ.deadline ≡ true → due_at τ (suc t) ≡ true
          there e =
              subst (λ (u : ℕ). due_at τ u ≡ true) (omega (arith, eqb-true (z + 1) τ.deadline e, begun))
              (due-now s ok r p l (newest τ t))

          back : due_at τ (suc t) ≡ true → eqb (z + 1) τ.deadline ≡ true
          back e =
              let j : ℕ = newest τ (suc t - τ.deadline) in
              let d : due τ j ≡ suc t = eqb-true (due τ j) (suc t) e in
              let new : newest τ t ≡ j = newest-is τ j t (ok p l).constrained (omega (arith, (ok p l).deadline-pos)) (omega arith) in
              eq-eqb (z + 1) τ.deadline (omega (arith, ap (release τ) new, (ok p l).deadline-pos))

      on : (b : Bool) → ltb 0 (owed_at s r (suc t) p) ≡ b → τ.offset ≤ t
          → late_in τ.deadline
          (cond b (task_state (even_at τ t) (Working (z + 1) (τ.length - owed_at s r (suc t) p) (τ.length - owed_at s r (suc t) p))) (resting τ (even_at τ t) (z + 1))).phase
          ≡ due_at τ (suc t) && b
      on true e h = due-same h (ltb-true 0 (owed_at s r (suc t) p) e) ∙ sym (both (due_at τ (suc t)))
        where
          both : (b : Bool) → b && true ≡ b
          both true = refl
          both false = refl
      on false e h = resting-not (eqb (z + 1) τ.period) ∙ sym (none (due_at τ (suc t)))

      go : (b : Bool) → leb τ.offset t ≡ b
          → late_in τ.deadline (next_state s.rule τ (runs r p t) false false (even_at τ t) (phase_by s r p t)).phase ≡ due_at τ (suc t) && ltb 0 (owed_at s r (suc t) p)
      go true e =
          let h = leb-true τ.offset t e in
          ap (λ (w : TaskState). late_in τ.deadline w.phase) (after-tick t (even_at τ t) h owing) ∙ on (ltb 0 (owed_at s r (suc t) p)) refl h
      go false e =
          let h = leb-false τ.offset t e in
          let zero-owed : owed_at s r (suc t) p ≤ 0 = omega (arith, owed-next s ok r p l t, before-offset s ok r p l t h) in
          ap (λ (ph : Phase). late_in τ.deadline (next_state s.rule τ (runs r p t) false false (even_at τ t) ph).phase) (phase-coming s r p t h)
          ∙ (coming-not (eqb (τ.offset - t - 1) 0) (τ.offset - t - 1)
          ∙ sym (ap (λ (b : Bool). due_at τ (suc t) && b) (le-ltb 0 (owed_at s r (suc t) p) zero-owed) ∙ none (due_at τ (suc t))))

-- Places past the count, and what is recorded of them, are not read.
use mathlib.Core.Bool.{Bool, ◌&&◌, ◌||◌, cond, false, not, true}
use mathlib.Core.List.{List, [], map, ◌++◌, ◌∷◌}
use mathlib.Core.Path.{ap, ap₂, refl, subst, subst⁻¹, sym, ◌∙◌, ◌≡◌}
use Prim.Native.Nat.{◌<◌, suc, ℕ, ◌≤◌}
use native.Mathlib.Omega.{arith}
use lib.Dec.{eqb, leb}
use lib.ListN.{drop, get_or, length, length-map, take}
use lib.Seq.{get_or-take, length-take-le, take_at}
use Rattle.model.proofs.Search.{any_same}
use Rattle.model.specs.Horizon.{last_s}
use Rattle.model.specs.Search.{any}
use Rattle.table.specs.Limits.{horizon_out, task_out}
use Rattle.phase.specs.Phase.{late_in, phase_in, working}
use Rattle.phase.specs.Task.{past_end, task_of, width_now}
use Rattle.phase.specs.declared.Task.{Task}
use Rattle.run.proofs.Places.{length-map_first, take-map_first}
use Rattle.run.specs.Numbers.{late_at, place_out, run_out, width_limit_in}
use Rattle.run.specs.Run.{map_first, phase_at, place_at, rule_in, tasks_in}
use Rattle.run.specs.declared.Run.{Run}
use Rattle.plan_check.specs.Extent.{extent_of, first_number}
use Rattle.plan_check.specs.Checked.{row_answers_from}
use Rattle.plan_check.specs.Numbers.{after_row, unreachable_phase, differs, missed, same_phase, state_out}
use Rattle.plan_check.specs.UnusedPlaces.{SamePlan, PlanTailUnread}
use Rattle.plan_check.specs.Plan.{cell_count}
use Rattle.plan_check.specs.Row.{faulty, shown_in_row, any_unknown_byte, worked_row, worked_at, wrong_at}
use Rattle.plan_check.specs.RowAnswer.{RowAnswer, state_by_answer, row_answer_meaning}
use Rattle.plan_check.specs.State.{horizon_in, note_of, noted_at, noting, past_note, start_in}
use Rattle.plan_check.specs.CheckRow.{answer_at, final_answer, check_row_answer, check_row_of}
use Rattle.plan_check.specs.RowAnswer.{Answer}
use Rattle.plan_check.specs.RowAnswer.{Accepted, Refused, Taken}
use Rattle.plan_check.specs.declared.Note.{Note}
use Rattle.plan_check.specs.declared.SuppliedPlan.{SuppliedPlan}
use Rattle.plan_check.proofs.PlanExtent.{all-places}
use Rattle.plan_check.proofs.StateTests.{passes-run}
use Rattle.plan_check.proofs.Working.{horizon-kept}

-- a state with other places, and other notes
abbrev instead : SuppliedPlan → List Task → List Note → SuppliedPlan
instead w us ms = record {
  run = record { rule = w.run.rule; cores = w.run.cores; fence = w.run.fence; withdrawn = w.run.withdrawn; count = w.run.count; tasks = us };
  tick = w.tick;
  noted = ms;
}

-- TWO STATES that differ only past the count
module _
    (w : SuppliedPlan) (us : List Task) (ms : List Note) (same : take w.run.count w.run.tasks ≡ take w.run.count us)
    (same-notes : take w.run.count w.noted ≡ take w.run.count ms) where
  abbrev r : Run
  r = w.run

  abbrev v : SuppliedPlan
  v = instead w us ms

  abbrev q : Run
  q = v.run

  as-given : SamePlan w v
  as-given = record {
    run = record { rule = refl; cores = refl; fence = refl; withdrawn = refl; count = refl; tasks = same };
    tick = refl;
    noted = same-notes;
  }

  same_at : (p : ℕ) → p < r.count → place_at r p ≡ place_at q p
  same_at p l =
      sym (get_or-take r.count r.tasks p past_end l) ∙ (ap (λ (l : List Task). get_or l p past_end) same ∙ get_or-take r.count us p past_end l)

  same-note : (p : ℕ) → p < r.count → get_or w.noted p past_note ≡ get_or ms p past_note
  same-note p l =
      sym (get_or-take r.count w.noted p past_note l)
      ∙ (ap (λ (l : List Note). get_or l p past_note) same-notes ∙ get_or-take r.count ms p past_note l)

  -- 14
  same-run-out : run_out r ≡ run_out q
  unfolding run_out
  same-run-out =
      rw (any_same r.count (place_out r) (place_out q)
      (λ p l. ap (λ (t : Task). task_out (width_limit_in r) (task_of t) || not (phase_in (rule_in r) (task_of t) t.even t.phase)) (same_at p l)))

  same-unreachable : any r.count (λ p. unreachable_phase (phase_at r p)) ≡ any r.count (λ p. unreachable_phase (phase_at q p))
  same-unreachable =
      any_same r.count (λ p. unreachable_phase (phase_at r p)) (λ p. unreachable_phase (phase_at q p)) (λ p l. ap (λ (t : Task). unreachable_phase t.phase) (same_at p l))

  same_out : state_out r ≡ state_out q
  unfolding state_out
  same_out = λ i. same-run-out i || (not (eqb r.withdrawn 0) || same-unreachable i)

  -- how far they go
  same-tasks : tasks_in r ≡ tasks_in q
  same-tasks = ap (map task_of) same

  same-horizon : horizon_in r ≡ horizon_in q
  same-horizon = horizon-kept q r same-tasks

  same_start : start_in r ≡ start_in q
  same_start = ap last_s same-tasks

  same_first : first_number r ≡ first_number q
  unfolding first_number
  same_first = λ i. cond (same_out i) 14 (cond (horizon_out (same-horizon i)) 9 0)

  same-extent : extent_of r ≡ extent_of q
  unfolding extent_of
  same-extent = λ i. record {
    number = same_first i;
    start = cond (eqb (same_first i) 0) (same_start i) 0;
    horizon = cond (eqb (same_first i) 0) (same-horizon i) 0;
  }

  -- 25
  same-missed : missed r ≡ missed q
  unfolding missed
  same-missed = any_same r.count (late_at r) (late_at q) (λ p l. ap (λ (t : Task). late_in t.parameters.deadline t.phase) (same_at p l))

  -- 26
  same_differs : differs w ≡ differs v
  unfolding differs
  same_differs =
      any_same r.count (λ p. not (same_phase (phase_at r p) (noted_at w p))) (λ p. not (same_phase (phase_at q p) (noted_at v p)))
      (λ p l. ap₂ (λ (t : Task) (n : Note). not (same_phase t.phase n.phase)) (same_at p l) (same-note p l))

  same-answer-at : answer_at w ≡ answer_at v
  unfolding answer_at final_answer
  same-answer-at = λ i.
      cond (eqb w.tick (same-horizon i)) (cond (same-missed i) (Refused 25 w.tick) (cond (same_differs i) (Refused 26 w.tick) Accepted)) Taken

  -- 24
  same-faulty : (row : List ℕ) → faulty r row ≡ faulty q row
  unfolding faulty
  same-faulty row =
      ap (λ (t : Bool). any_unknown_byte r.fence r.count row || t)
      (any_same r.count (wrong_at r row) (wrong_at q row)
      (λ p l. ap (λ (t : Task). shown_in_row row p && not (eqb (cell_count (suc p) row) (width_now t) && working t.phase)) (same_at p l)))

-- the front of what is recorded, where all places are there
front : (n : ℕ) (ts : List Task) (ns : List Note) → n ≤ length ts → take n (map note_of (take n ts) ++ drop n ns) ≡ map note_of (take n ts)
front n ts ns h = take_at (map note_of (take n ts)) (drop n ns) n (length-map (take n ts) note_of ∙ length-take-le n ts h)

out-answer : (w : SuppliedPlan) (row : List ℕ) → state_out w.run ≡ true → check_row_answer w row ≡ Refused 14 0
unfolding check_row_answer
out-answer w row e = rw e

-- A ROW taken from them
module _
    (w : SuppliedPlan) (us : List Task) (ms : List Note) (same : take w.run.count w.run.tasks ≡ take w.run.count us)
    (same-notes : take w.run.count w.noted ≡ take w.run.count ms) (row : List ℕ) where
  abbrev n : ℕ
  n = w.run.count

  abbrev x : SuppliedPlan
  x = instead w us ms

  abbrev ts' : List Task
  ts' = map_first (worked_at w.run row) n w.run.tasks

  abbrev us' : List Task
  us' = map_first (worked_at x.run row) n us

  same-worked : take n ts' ≡ take n us'
  same-worked = take-map_first (worked_at w.run row) (worked_at x.run row) n w.run.tasks us (λ p t l. refl) same

  same-out-2 : state_out w.run ≡ state_out x.run
  same-out-2 = same_out w us ms same same-notes

  noted-both :
      n ≤ length w.run.tasks → n ≤ length us → (b : Bool)
      → take n (cond b (noting (worked_row w.run row) w.noted) w.noted) ≡ take n (cond b (noting (worked_row x.run row) ms) ms)
  unfolding worked_row
  noted-both h k true =
      front n ts' w.noted (omega (arith, length-map_first (worked_at w.run row) n w.run.tasks, h))
      ∙ (ap (map note_of) same-worked ∙ sym (front n us' ms (omega (arith, length-map_first (worked_at x.run row) n us, k))))
  noted-both h k false = same-notes

  start-after : start_in (worked_row w.run row) ≡ start_in (worked_row x.run row)
  unfolding worked_row
  start-after = ap (λ (l : List Task). last_s (map task_of l)) same-worked

  -- where 14 passes them
  module _ (e : state_out w.run ≡ false) where
    notes-after : take n (after_row w row).noted ≡ take n (after_row x row).noted
    notes-after =
        ap (λ (s : ℕ). take n (cond (eqb (suc w.tick) s) (noting (worked_row w.run row) w.noted) w.noted)) start-after
        ∙ noted-both (all-places w.run (passes-run w.run e)) (all-places x.run (passes-run x.run (sym same-out-2 ∙ e)))
        (eqb (suc w.tick) (start_in (worked_row x.run row)))

    answer-after : answer_at (after_row w row) ≡ answer_at (after_row x row)
    unfolding worked_row
    answer-after = same-answer-at (after_row w row) us' (after_row x row).noted same-worked notes-after

    same_after : SamePlan (after_row w row) (after_row x row)
    unfolding worked_row
    same_after = as-given (after_row w row) us' (after_row x row).noted same-worked notes-after

    passed-answer : check_row_answer w row ≡ check_row_answer x row
    unfolding check_row_answer
    passed-answer = λ i.
        cond (same-out-2 i) (Refused 14 0)
        (cond (horizon_out (same-horizon w us ms same same-notes i)) (Refused 9 0)
        (cond (leb (same-horizon w us ms same same-notes i) w.tick) (Refused 10 0)
        (cond (not (eqb (length row) w.run.cores)) (Refused 11 0)
        (cond (same-missed w us ms same same-notes i) (Refused 25 w.tick)
        (cond (same-faulty w us ms same same-notes row i) (Refused 24 w.tick) (answer-after i))))))

  same_answer : check_row_answer w row ≡ check_row_answer x row
  same_answer = go (state_out w.run) refl
    where
      go : (b : Bool) → state_out w.run ≡ b → check_row_answer w row ≡ check_row_answer x row
      go true e = out-answer w row e ∙ sym (out-answer x row (sym same-out-2 ∙ e))
      go false e = passed-answer e

  abbrev Both : Answer → Answer → Type 0
  Both a b = SamePlan (state_by_answer a (after_row w row) w) (state_by_answer b (after_row x row) x)

  same-plan : Both (check_row_answer w row) (check_row_answer x row)
  same-plan = subst (Both (check_row_answer w row)) same_answer (go (state_out w.run) refl)
    where
      given : SamePlan w x
      given = as-given w us ms same same-notes

      by : state_out w.run ≡ false → (a : Answer) → Both a a
      by e Taken = same_after e
      by e Accepted = same_after e
      by e (Refused m t) = given

      go : (b : Bool) → state_out w.run ≡ b → Both (check_row_answer w row) (check_row_answer w row)
      go true e = subst⁻¹ (λ (a : Answer). Both a a) (out-answer w row e) given
      go false e = by e (check_row_answer w row)

-- THE LAW, of any two states that are equal up to the count

-- the one with the other's places and notes is the other
put : (w v : SuppliedPlan) → SamePlan w v → instead w v.run.tasks v.noted ≡ v
put w v h = λ i. record {
  run = record {
    rule = h.run.rule i;
    cores = h.run.cores i;
    fence = h.run.fence i;
    withdrawn = h.run.withdrawn i;
    count = h.run.count i;
    tasks = v.run.tasks;
  };
  tick = h.tick i;
  noted = v.noted;
}

module _ (w v : SuppliedPlan) (h : SamePlan w v) where
  places : take w.run.count w.run.tasks ≡ take w.run.count v.run.tasks
  places = h.run.tasks ∙ ap (λ (n : ℕ). take n v.run.tasks) (sym h.run.count)

  notes : take w.run.count w.noted ≡ take w.run.count v.noted
  notes = h.noted ∙ ap (λ (n : ℕ). take n v.noted) (sym h.run.count)

  unread-extent : extent_of w.run ≡ extent_of v.run
  unread-extent =
      subst (λ (x : SuppliedPlan). extent_of w.run ≡ extent_of x.run) (put w v h) (same-extent w v.run.tasks v.noted places notes)

  unread-answer : (row : List ℕ) → (check_row_of w row).answer ≡ (check_row_of v row).answer
  unfolding check_row_of
  unread-answer row =
      subst (λ (x : SuppliedPlan). check_row_answer w row ≡ check_row_answer x row) (put w v h) (same_answer w v.run.tasks v.noted places notes row)

  unread-plan : (row : List ℕ) → SamePlan (check_row_of w row).plan (check_row_of v row).plan
  unfolding check_row_of
  unread-plan row =
      subst (λ (x : SuppliedPlan). SamePlan (state_by_answer (check_row_answer w row) (after_row w row) w) (state_by_answer (check_row_answer x row) (after_row x row) x)) (put w v h)
      (same-plan w v.run.tasks v.noted places notes row)

unread-answers : (rows : List (List ℕ)) (w v : SuppliedPlan) → SamePlan w v → row_answers_from w rows ≡ row_answers_from v rows
unfolding row_answers_from
unread-answers [] w v h = refl
unread-answers (row ∷ rows) w v h =
    ap₂ (λ (a : Answer) (l : List RowAnswer). row_answer_meaning a ∷ l) (unread-answer w v h row)
    (unread-answers rows (check_row_of w row).plan (check_row_of v row).plan (unread-plan w v h row))

pub past-unread : (w v : SuppliedPlan) → SamePlan w v → PlanTailUnread w v
past-unread w v h = record {
  extent = unread-extent w v h;
  answer = unread-answer w v h;
  plan = unread-plan w v h;
  answers = λ rows. unread-answers rows w v h;
}

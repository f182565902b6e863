-- The walk as code makes it: a place for each task met, a mark for each record met.
use mathlib.Core.Path.{◌≡◌, refl, sym, ap, ◌∙◌}
use mathlib.Core.Bool.{Bool, true, false, cond, ◌||◌, or-false, or-true}
use mathlib.Core.List.{List, [], ◌∷◌, ◌++◌, map, append_assoc}
use mathlib.Core.Logic.{inl, inr}
use Prim.Native.Nat.{ℕ, suc, ◌+◌, ◌-◌, ◌≤◌, ◌<◌}
use native.Mathlib.Omega.{arith}
use native.Mathlib.Numerals.{add-one}
use native.Mathlib.Nat.{zero-add, not-suc-le-zero}
use lib.Dec.{eqb}
use lib.ListN.{length, get_or, set, replicate, length-set, length-map, get_or-replicate}
use lib.Seq.{get_or-set_same, get_or-set_other, set_at}
use borrow.Author.Tests.{eq-eqb, ne_eqb, eqb-true, eqb-false, le-ltb}
use Rattle.model.specs.Search.{any, up_from}
use Rattle.model.proofs.Search.{none_any}
use Rattle.model.proofs.Lists.{up-length, up_more, map_more, map-map}
use Rattle.model.specs.Sizes.{most_tasks}
use Rattle.table.specs.declared.Task.{Task}
use Rattle.table.specs.Answer.{Past, Again, Whole}
use Rattle.table.specs.Task.{no_task}
use Rattle.table.specs.Words.{head, records, next, visited, count, chain, task_of_record, table_of}
use Rattle.table.specs.Numbers.{EndAt, RepeatedAt, Reaches}
use Rattle.table.specs.Answer.{out_of_range_at, repeated_at, stops_at, ending_of, chain_answer}
use Rattle.std.specs.Prelude.{Ok, Err}
use Rattle.model.specs.declared.refusal.Refusal.TheVariants.{NoRecord, RecordAgain}
use Rattle.table.specs.Load.{code_task, code_tasks, WalkOf}
use Rattle.table.proofs.Decide.{fails}
use Rattle.table.proofs.Tests.{past-decides, again-decides, stops-decides}
use Rattle.table.proofs.Tasks.{table-length}
use Rattle.table.proofs.Walk.{reaches_more, reaches-short, stops-there, ends_there}

-- the task that the walk meets at step j, as code keeps it
abbrev visited_task : List ℕ → ℕ → Task
visited_task ws j = code_task (task_of_record ws (visited ws j))

-- 32 places, of which the first k hold the tasks met
abbrev pub places_to : List ℕ → ℕ → List Task
places_to ws k = map (visited_task ws) (up_from 0 k) ++ replicate (most_tasks - k) no_task

-- the walk has come to step k, where it meets `at`
pub record Walking (ws : List ℕ) (tasks : List Task) (seen : List Bool) (k at : ℕ) : Type 0 where
  pub reached : Reaches ws k
  pub here : at ≡ visited ws k
  pub tasked : tasks ≡ places_to ws k
  pub marks : length seen ≡ most_tasks
  pub marked : (n : ℕ) → n < most_tasks → get_or seen n false ≡ any k (λ j. eqb (visited ws j) (suc n))

pub walking-none : (ws : List ℕ) → Walking ws (replicate most_tasks no_task) (replicate most_tasks false) 0 (head ws)
unfolding visited any up_from
walking-none ws = record {
  reached = λ j l. absurd (not-suc-le-zero l);
  here = refl;
  tasked = refl;
  marks = refl;
  marked = λ n l. get_or-replicate most_tasks n false false l;
}

-- where the chain ends, these are all its tasks
places-all : (ws : List ℕ) → places_to ws (count ws) ≡ code_tasks (table_of ws).tasks
unfolding table_of chain
places-all ws =
    let n = table-length ws in
    rw (n, map-map code_task (task_of_record ws) (map (visited ws) (up_from 0 (count ws))), map-map (λ n. code_task (task_of_record ws n)) (visited ws) (up_from 0 (count ws)))

past-not-whole : Past ≡ Whole → ⊥
past-not-whole e = let z : ◌≡◌ {A = ℕ} 0 1 = cc in omega arith

again-not-whole : Again ≡ Whole → ⊥
again-not-whole e = let z : ◌≡◌ {A = ℕ} 0 1 = cc in omega arith

module _ (ws : List ℕ) (tasks : List Task) (seen : List Bool) (k at : ℕ) (w : Walking ws tasks seen k at) where
  module _ (some : at ≡ 0 → ⊥) (inside : at ≤ records ws) (few : records ws ≤ most_tasks) where
    -- the mark of the record met is set exactly if it is met again
    mark : get_or seen (at - 1) false ≡ repeated_at ws k
    mark =
        let e : suc (at - 1) ≡ visited ws k = (let h = w.here in omega arith) in
        w.marked (at - 1) (omega arith) ∙ ap (λ (n : ℕ). any k (λ j. eqb (visited ws j) n)) e

    pub walking-again : get_or seen (at - 1) false ≡ true → RepeatedAt ws k
    walking-again e = (again-decides ws k).0 (sym mark ∙ e)

    module _ (new : get_or seen (at - 1) false ≡ false) where
      goes : Reaches ws (suc k)
      goes =
          let h = w.here in
          reaches_more ws k w.reached (λ e. some (h ∙ e), λ e. omega arith, fails (repeated_at ws k) (RepeatedAt ws k) (again-decides ws k) (sym mark ∙ new))

      -- there is a place for its task
      pub walking-room : k < records ws
      walking-room = reaches-short ws (suc k) goes

      tasked-more : set tasks k (code_task (task_of_record ws at)) ≡ places_to ws (suc k)
      tasked-more =
          let room = walking-room in
          let left : most_tasks - k ≡ suc (most_tasks - suc k) = omega arith in
          let long : length (map (visited_task ws) (up_from 0 k)) ≡ k = length-map (up_from 0 k) (visited_task ws) ∙ up-length 0 k in
          let before : tasks ≡ map (visited_task ws) (up_from 0 k) ++ replicate (suc (most_tasks - suc k)) no_task = w.tasked ∙ ap (λ (m : ℕ). map (visited_task ws) (up_from 0 k) ++ replicate m no_task) left in
          let more : map (visited_task ws) (up_from 0 (suc k)) ≡ map (visited_task ws) (up_from 0 k) ++ (visited_task ws k ∷ []) =
          ap (map (visited_task ws)) (up_more 0 k) ∙ map_more (visited_task ws) (up_from 0 k) (0 + k) ∙ ap (λ (m : ℕ). map (visited_task ws) (up_from 0 k) ++ (visited_task ws m ∷ [])) (zero-add k) in
          ap (λ (ts : List Task). set ts k (code_task (task_of_record ws at))) before
          ∙ set_at (map (visited_task ws) (up_from 0 k)) no_task (replicate (most_tasks - suc k) no_task) (code_task (task_of_record ws at)) k long
          ∙ ap (λ (n : ℕ). map (visited_task ws) (up_from 0 k) ++ (code_task (task_of_record ws n) ∷ replicate (most_tasks - suc k) no_task)) w.here
          ∙ sym (append_assoc (map (visited_task ws) (up_from 0 k)) (visited_task ws k ∷ []) (replicate (most_tasks - suc k) no_task))
          ∙ ap (λ (ts : List Task). ts ++ replicate (most_tasks - suc k) no_task) (sym more)

      marked_more : (n : ℕ) → n < most_tasks → get_or (set seen (at - 1) true) n false ≡ any (suc k) (λ j. eqb (visited ws j) (suc n))
      unfolding any
      marked_more n l = go (eqb n (at - 1)) refl
        where
          h : at ≡ visited ws k
          h = w.here

          m : length seen ≡ most_tasks
          m = w.marks

          go : (t : Bool) → eqb n (at - 1) ≡ t → get_or (set seen (at - 1) true) n false ≡ (any k (λ j. eqb (visited ws j) (suc n)) || eqb (visited ws k) (suc n))
          go true e =
              let q : n ≡ at - 1 = eqb-true n (at - 1) e in
              let s : visited ws k ≡ suc n = omega arith in
              ap (λ (i : ℕ). get_or (set seen (at - 1) true) i false) q ∙ get_or-set_same seen (at - 1) true false (omega arith)
              ∙ sym (ap (λ (b : Bool). any k (λ j. eqb (visited ws j) (suc n)) || b) (eq-eqb (visited ws k) (suc n) s) ∙ or-true (any k (λ j. eqb (visited ws j) (suc n))))
          go false e =
              let q : n ≡ at - 1 → ⊥ = eqb-false n (at - 1) e in
              let s : visited ws k ≡ suc n → ⊥ = λ x. q (omega arith) in
              get_or-set_other seen (at - 1) n true false q ∙ w.marked n l
              ∙ sym (ap (λ (b : Bool). any k (λ j. eqb (visited ws j) (suc n)) || b) (ne_eqb (visited ws k) (suc n) s) ∙ or-false (any k (λ j. eqb (visited ws j) (suc n))))

      -- one step on
      walking-more : Walking ws (set tasks k (code_task (task_of_record ws at))) (set seen (at - 1) true) (suc k) (next ws at)
      unfolding visited
      walking-more = record {
        reached = goes;
        here = ap (next ws) w.here;
        tasked = tasked-more;
        marks = length-set seen (at - 1) true ∙ w.marks;
        marked = marked_more;
      }

      -- as code takes it: with this task and this next number
      pub walking-step : (task : Task) (after : ℕ) → task ≡ code_task (task_of_record ws at) → after ≡ next ws at → Walking ws (set tasks k task) (set seen (at - 1) true) (k + 1) after
      walking-step task after e f = rw (e, f, add-one k) walking-more

  -- the three ends
  walk_of : stops_at ws k ≡ true → ending_of ws ≡ cond (out_of_range_at ws k) Past (cond (repeated_at ws k) Again Whole)
  unfolding ending_of
  walk_of e = rw (stops-there ws k w.reached e)

  pub walked-past : records ws < at → WalkOf ws (Err NoRecord)
  walked-past l =
      let h = w.here in
      let p = (past-decides ws k).1 (omega arith) in
      let e : ending_of ws ≡ Past = walk_of ((stops-decides ws k).1 (inr (inl (omega arith)))) ∙ rw p in
      record { answer = sym (ap chain_answer e); holds = tt }

  pub walked-again : RepeatedAt ws k → at ≤ records ws → WalkOf ws (Err RecordAgain)
  walked-again a l =
      let h = w.here in
      let p : out_of_range_at ws k ≡ false = le-ltb (records ws) (visited ws k) (omega arith) in
      let e : ending_of ws ≡ Again = walk_of ((stops-decides ws k).1 (inr (inr a))) ∙ rw (p, (again-decides ws k).1 a) in
      record { answer = sym (ap chain_answer e); holds = tt }

  pub walked_whole : at ≡ 0 → WalkOf ws (Ok (record { count = k; tasks = tasks }))
  walked_whole z =
      let h : EndAt ws k = sym w.here ∙ z in
      let p : out_of_range_at ws k ≡ false = le-ltb (records ws) (visited ws k) (omega arith) in
      let a : repeated_at ws k ≡ false = none_any k (λ j. eqb (visited ws j) (visited ws k)) (λ j l. ne_eqb (visited ws j) (visited ws k) (λ e. (w.reached j l).0 (e ∙ h))) in
      let c : count ws ≡ k = ends_there ws k w.reached h in
      let e : ending_of ws ≡ Whole = walk_of ((stops-decides ws k).1 (inl h)) ∙ rw (p, a) in
      record { answer = sym (ap chain_answer e); holds = (sym c, w.tasked ∙ ap (places_to ws) (sym c) ∙ places-all ws) }

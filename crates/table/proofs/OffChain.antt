-- The words of a record off the chain change no answer: the walk never reads them.
use mathlib.Core.Path.{◌≡◌, refl, sym, ap, ◌∙◌}
use mathlib.Core.Bool.{Bool, true, false}
use mathlib.Core.List.{List}
use Prim.Native.Nat.{ℕ, zero, suc, ◌-◌, ◌/◌, ◌≤◌, ◌<◌}
use native.Mathlib.Omega.{arith}
use lib.Dec.{eqb, ltb}
use lib.Seq.{ext_get_or}
use borrow.Author.Tests.{eqb-true, eqb-false}
use Rattle.model.specs.Task.{Table, absent_task, rule_of}
use Rattle.std.proofs.lemmas.Bool.{false_from_ne_true}
use Rattle.model.proofs.Search.{any_same}
use Rattle.table.specs.Answer.{Answer}
use Rattle.table.specs.Answer.{Passed, Refused}
use Rattle.table.specs.Answer.{Past, Again, Whole}
use Rattle.table.specs.Words.{header_words, record_words, rule, fence_of, records, field, next, visited, count, task_of_record, table_of}
use Rattle.table.specs.Limits.{InRange}
use Rattle.table.specs.Numbers.{EndAt, Reaches}
use Rattle.table.specs.Answer.{header_number, out_of_range_at, repeated_at, stops_at, last_step, ending_of, by_tasks, answer_of}
use Rattle.table.specs.Load.{passing, refusal, loaded_by, load_of}
use Rattle.table.specs.OffChain.{SameOnChain}
use Rattle.table.proofs.Walk.{last-reached, last-stops, last-ends, stops-there, ends_there, five-decides, six-decides}
use Rattle.table.proofs.Tasks.{table-length, table_at}
use Rattle.table.proofs.Exact.{passed-exact}
use Rattle.table.proofs.Contract.{answered_by, load-answer}
use Rattle.table.proofs.Loads.{load-header, load_past, load_again, load-tasks}

-- how the walk ends, by what it meets last
module _ (ws : List ℕ) where
  ending-past : out_of_range_at ws (last_step ws) ≡ true → ending_of ws ≡ Past
  unfolding ending_of
  ending-past p = rw p

  ending-again : out_of_range_at ws (last_step ws) ≡ false → repeated_at ws (last_step ws) ≡ true → ending_of ws ≡ Again
  unfolding ending_of
  ending-again p a = rw (p, a)

  ending-whole : out_of_range_at ws (last_step ws) ≡ false → repeated_at ws (last_step ws) ≡ false → ending_of ws ≡ Whole
  unfolding ending_of
  ending-whole p a = rw (p, a)

module _ (ws us : List ℕ) (s : SameOnChain ws us) where
  same-records : records ws ≡ records us
  same-records = ap (λ (n : ℕ). (n - header_words) / record_words) s.size

  same-header : header_number ws ≡ header_number us
  unfolding header_number
  same-header = rw (s.size, s.header 1 (omega arith), s.header 2 (omega arith), s.header 3 (omega arith), s.header 4 (omega arith), s.header 0 (omega arith))

  -- up to where it stops the walk meets the same
  reaches-down : (j k : ℕ) → j ≤ k → Reaches ws k → Reaches ws j
  reaches-down j k l c i h = c i (omega arith)

  record-visited : (k : ℕ) → Reaches ws (suc k) → InRange 1 (records ws) (visited ws k)
  record-visited k c =
      let a = (c k (omega arith)).0 in
      let b = (c k (omega arith)).1 in
      omega arith

  same-visited : (k : ℕ) → Reaches ws k → visited ws k ≡ visited us k
  unfolding visited
  same-visited zero c = s.header 0 (omega arith)
  same-visited (suc k) c =
      let d = reaches-down k (suc k) (omega arith) c in
      s.on_chain k 0 d (record-visited k c) (omega arith) ∙ ap (next us) (same-visited k d)

  same-past : (k : ℕ) → Reaches ws k → out_of_range_at ws k ≡ out_of_range_at us k
  same-past k c = ap (λ (n : ℕ). ltb n (visited ws k)) same-records ∙ ap (ltb (records us)) (same-visited k c)

  same-again : (k : ℕ) → Reaches ws k → repeated_at ws k ≡ repeated_at us k
  same-again k c =
      any_same k (λ j. eqb (visited ws j) (visited ws k)) (λ j. eqb (visited us j) (visited us k))
      (λ j l. ap (λ (n : ℕ). eqb n (visited ws k)) (same-visited j (reaches-down j k (omega arith) c)) ∙ ap (eqb (visited us j)) (same-visited k c))

  same-stops : (k : ℕ) → Reaches ws k → stops_at ws k ≡ stops_at us k
  same-stops k c = rw (same-past k c, same-again k c, same-visited k c)

  reaches_same : (k : ℕ) → Reaches ws k → Reaches us k
  reaches_same k c j l =
      let d = reaches-down j k (omega arith) c in
      let e = same-visited j d in
      let r = same-records in (
        λ x. (c j l).0 (e ∙ x),
        λ x. (c j l).1 (omega arith),
        λ x. (c j l).2 (x.0, x.1, same-visited x.0 (reaches-down x.0 j (let h = x.1 in omega arith) d) ∙ x.2 ∙ sym e),
      )

  same-last : last_step us ≡ last_step ws
  same-last =
      let c = last-reached ws in
      stops-there us (last_step ws) (reaches_same (last_step ws) c) (sym (same-stops (last_step ws) c) ∙ last-stops ws)

  same-ending : ending_of ws ≡ ending_of us
  unfolding ending_of
  same-ending = rw (same-last, same-past (last_step ws) (last-reached ws), same-again (last_step ws) (last-reached ws))

  -- and where it ends at the zero, the tasks are the same
  module _ (p : out_of_range_at ws (last_step ws) ≡ false) (a : repeated_at ws (last_step ws) ≡ false) where
    ends : EndAt ws (last_step ws)
    ends = last-ends ws p a

    count-last : count ws ≡ last_step ws
    count-last = ends_there ws (last_step ws) (last-reached ws) ends

    same_count : count us ≡ count ws
    same_count = ends_there us (last_step ws) (reaches_same (last_step ws) (last-reached ws)) (sym (same-visited (last_step ws) (last-reached ws)) ∙ ends) ∙ sym count-last

    same-record : (k : ℕ) → k < count ws → task_of_record ws (visited ws k) ≡ task_of_record us (visited us k)
    same-record k l =
        let n = count-last in
        let c = reaches-down (suc k) (last_step ws) (omega arith) (last-reached ws) in
        let d = reaches-down k (suc k) (omega arith) c in
        let f : (j : ℕ) → j < 7 → field ws (visited ws k) j ≡ field us (visited ws k) j = λ j h. s.on_chain k j d (record-visited k c) h in
        let one = f 1 (omega arith) in
        let two = f 2 (omega arith) in
        let three = f 3 (omega arith) in
        let four = f 4 (omega arith) in
        let five = f 5 (omega arith) in
        let six = f 6 (omega arith) in
        let same : task_of_record ws (visited ws k) ≡ task_of_record us (visited ws k) =
        λ i. record { offset = one i; odd_width = two i; length = three i; deadline = four i; period = five i; even_width = six i } in
        same ∙ ap (task_of_record us) (same-visited k d)

    same-tasks : (table_of ws).tasks ≡ (table_of us).tasks
    same-tasks =
        let m = table-length ws in
        let n = table-length us in
        let e = same_count in
        ext_get_or absent_task (table_of ws).tasks (table_of us).tasks (omega arith)
        (λ k l. table_at ws k (omega arith) ∙ same-record k (omega arith) ∙ sym (table_at us k (omega arith)))

    same-table : table_of ws ≡ table_of us
    unfolding table_of
    same-table =
        let τs = same-tasks in
        let m = s.header 1 (omega arith) in
        let r = ap rule_of (s.header 2 (omega arith)) in
        let low = s.header 3 (omega arith) in
        let high = s.header 4 (omega arith) in
        λ i. record { tasks = τs i; cores = m i; fence = fence_of (low i) (high i); rule = r i }

  -- by how the walk ends
  by-ending : (t : Bool) → out_of_range_at ws (last_step ws) ≡ t → (u : Bool) → repeated_at ws (last_step ws) ≡ u → header_number ws ≡ 0 → load_of ws ≡ load_of us
  by-ending true p u a h =
      let e = ending-past ws p in
      load_past ws h e ∙ sym (load_past us (sym same-header ∙ h) (sym same-ending ∙ e))
  by-ending false p true a h =
      let e = ending-again ws p a in
      load_again ws h e ∙ sym (load_again us (sym same-header ∙ h) (sym same-ending ∙ e))
  by-ending false p false a h =
      let e = ending-whole ws p a in
      load-tasks ws h e
      ∙ ap (λ (x : Table). loaded_by (by_tasks x) (passing (rule ws) x)) (same-table p a)
      ∙ ap (λ (r : ℕ). loaded_by (by_tasks (table_of us)) (passing r (table_of us))) (s.header 2 (omega arith))
      ∙ sym (load-tasks us (sym same-header ∙ h) (sym same-ending ∙ e))

  by-header : (t : Bool) → eqb (header_number ws) 0 ≡ t → load_of ws ≡ load_of us
  by-header true e = by-ending (out_of_range_at ws (last_step ws)) refl (repeated_at ws (last_step ws)) refl (eqb-true (header_number ws) 0 e)
  by-header false e =
      let n = eqb-false (header_number ws) 0 e in
      load-header ws n ∙ ap (λ (h : ℕ). refusal h 0) same-header ∙ sym (load-header us (λ z. n (same-header ∙ z)))

  -- load gives the same of both
  pub off-chain : load_of ws ≡ load_of us
  off-chain = by-header (eqb (header_number ws) 0) refl

  -- the same answer
  pub off-chain-answer : answer_of ws ≡ answer_of us
  off-chain-answer = sym (load-answer ws) ∙ ap answered_by off-chain ∙ load-answer us

  -- and where they pass, the same table: so the verdict, the rows and the run are the same
  pub off-chain-table : answer_of ws ≡ Passed → table_of ws ≡ table_of us
  off-chain-table e =
      let none = (passed-exact ws).0 e in
      same-table
      (false_from_ne_true (out_of_range_at ws (last_step ws)) (λ x. none 5 0 ((five-decides ws).0 x)))
      (false_from_ne_true (repeated_at ws (last_step ws)) (λ x. none 6 0 ((six-decides ws).0 x)))

  -- so every value that is made from the answer and the table, and in a refusal from the answer alone, is the same
  pub off-chain-by :
      {A : Type 0} (f : Answer → Table → A) → ((n p : ℕ) (a b : Table) → f (Refused n p) a ≡ f (Refused n p) b)
      → f (answer_of ws) (table_of ws) ≡ f (answer_of us) (table_of us)
  off-chain-by f alone = ap (λ (x : Answer). f x (table_of ws)) off-chain-answer ∙ go (answer_of us) refl
    where
      go : (x : Answer) → answer_of us ≡ x → f (answer_of us) (table_of ws) ≡ f (answer_of us) (table_of us)
      go Passed e = ap (f (answer_of us)) (off-chain-table (off-chain-answer ∙ e))
      go (Refused n p) e = rw e (alone n p (table_of ws) (table_of us))

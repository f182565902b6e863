-- THEOREM (linked-table, linked-applies): words whose chain is linked along some records of the chain represent the tasks of these records, and no number
-- but 9 turns them down, if none turns down the whole.
use mathlib.Core.Bool.{true}
use mathlib.Core.List.{List, map}
use mathlib.Core.Logic.{◌⊎◌, inl, inr}
use mathlib.Core.Path.{ap, ap₂, fun_ext, refl, subst, sym, ◌∙◌, ◌≡◌}
use Prim.Native.Nat.{ℕ, suc, zero, ◌%◌, ◌*◌, ◌+◌, ◌-◌, ◌/◌, ◌<◌, ◌≤◌}
use native.Mathlib.Nat.{add-zero, le_refl}
use native.Mathlib.Omega.{arith}
use lib.ListN.{get_or-eq_default, get_or, length}
use lib.Seq.{ext_get_or}
use Rattle.model.proofs.Lists.{map_at}
use Rattle.model.specs.Fence.{unfenced_count}
use Rattle.model.specs.Horizon.{horizon}
use Rattle.model.specs.Sizes.{most_tasks}
use Rattle.model.specs.Task.{Task, absent_task, rule_of}
use Rattle.table.proofs.HeaderPasses.{words_long}
use Rattle.table.proofs.Inside.{Inside}
use Rattle.table.proofs.Passed.{passed-inside}
use Rattle.table.proofs.Tasks.{chain-at, chain_length, table_at, table-length}
use Rattle.table.proofs.Tests.{again-decides, past-decides, stops-decides}
use Rattle.table.proofs.Walk.{ends_there, five-decides, six-decides, stops-there}
use Rattle.table.specs.Answer.{repeated_at, last_step, out_of_range_at}
use Rattle.table.specs.Limits.{CoresOut, FenceOut, HorizonOut, RuleOut, TimesOut, WidthOut}
use Rattle.table.specs.Numbers.{RepeatedAt, Applies, EndAt, NoneApplies, OutOfRangeAt, Reaches}
use Rattle.table.specs.Numbers.{eight, five, four, nine, nineteen, one, seven, six, three, two}
use Rattle.table.specs.Words.{chain, core_count, count, fence, fence_of, field, head, header_words, visited, next, record_words, records}
use Rattle.table.specs.Words.{table_of, task_at, task_of_record, word}
use Rattle.conflict.specs.Relinked.{linked, next_word_at}
use Rattle.conflict.proofs.Linked.{All, Distinct, chain-in, distinct-at, linked-first, linked-length, linked-next}
use Rattle.conflict.proofs.Linked.{linked-other, next-inside}

-- a task within its limits is turned down neither by 7 nor by 8
inside-widths : (m : ℕ) (τ : Task) → Inside m τ → ¬ WidthOut m τ
inside-widths m τ i (inl (inl e)) = omega (arith, i.odd-from)
inside-widths m τ i (inl (inr e)) = omega (arith, i.odd-from)
inside-widths m τ i (inr (inl e)) = omega (arith, i.even-from)
inside-widths m τ i (inr (inr e)) = omega (arith, i.even-from)

inside-times : (m : ℕ) (τ : Task) → Inside m τ → ¬ TimesOut τ
inside-times m τ i (inl e) = omega (arith, i.offset-most)
inside-times m τ i (inr (inl e)) = e i.length_from
inside-times m τ i (inr (inr (inl e))) = e i.period-from
inside-times m τ i (inr (inr (inr e))) = e i.deadline-from

-- a record of the chain
abbrev pub OnChain : List ℕ → ℕ → Type 0
OnChain ws n = (k : ℕ) × (k < count ws) × (n ≡ visited ws k)

-- ---- the words linked along records ns

module _ (ws : List ℕ) (none : NoneApplies ws) (ns : List ℕ) (on_chain : All (OnChain ws) ns) (records-differ : Distinct ns) where
  abbrev us : List ℕ
  us = linked 0 ns ws

  long : header_words ≤ length ws
  long = words_long ws (λ h. none 1 0 (one h))

  records-in : All (λ n. (1 ≤ n) × (n ≤ records ws)) ns
  records-in i l = let x = on_chain i l in subst (λ (n : ℕ). (1 ≤ n) × (n ≤ records ws)) (sym x.2) (chain-in ws none x.0 x.1)

  records-there : All (λ n. (1 ≤ n) × (next_word_at n < length ws)) ns
  records-there i l = let h = records-in i l in (h.0, next-inside ws (get_or ns i 0) h.0 h.1)

  pub same_length : length us ≡ length ws
  same_length = linked-length 0 ns ws

  same-records : records us ≡ records ws
  same-records = ap (λ (n : ℕ). (n - header_words) / record_words) same_length

  -- the header but for its head, and each record but for its next, stay
  same-header : (i : ℕ) → 1 ≤ i → i < header_words → word us i ≡ word ws i
  same-header i a b = linked-other i 0 ns ws (λ e. omega arith) (λ q l e. omega arith)

  same-field : (n j : ℕ) → 1 ≤ j → j < record_words → field us n j ≡ field ws n j
  same-field n j a b = linked-other (header_words + (n - 1) * record_words + j) 0 ns ws (λ e. omega arith) (λ q l e. omega arith)

  same-task : (n : ℕ) → task_of_record us n ≡ task_of_record ws n
  same-task n =
      let f : (j : ℕ) → 1 ≤ j → j < record_words → field us n j ≡ field ws n j = same-field n in
      let one = f 1 (omega arith) (omega arith) in
      let two = f 2 (omega arith) (omega arith) in
      let three = f 3 (omega arith) (omega arith) in
      let four = f 4 (omega arith) (omega arith) in
      let five = f 5 (omega arith) (omega arith) in
      let six = f 6 (omega arith) (omega arith) in
      λ i. record { offset = one i; odd_width = two i; length = three i; deadline = four i; period = five i; even_width = six i }

  -- the walk meets the records kept, and then the zero
  visited-kept : (k : ℕ) → k ≤ length ns → visited us k ≡ get_or ns k 0
  unfolding visited
  visited-kept zero l = linked-first 0 ns ws (omega (arith, long)) (λ q m e. omega arith)
  visited-kept (suc k) l = ap (next us) (visited-kept k (omega arith)) ∙ behind
    where
      behind : next us (get_or ns k 0) ≡ get_or ns (suc k) 0
      behind =
          ap (word us) (add-zero (next_word_at (get_or ns k 0)))
          ∙ (linked-next 0 ns ws (length ws) (le_refl (length ws)) records-there records-differ k l)

  ends-kept : EndAt us (length ns)
  ends-kept = visited-kept (length ns) (le_refl (length ns)) ∙ get_or-eq_default ns 0 (le_refl (length ns))

  reaches-kept : Reaches us (length ns)
  reaches-kept j l =
      let m : visited us j ≡ get_or ns j 0 = visited-kept j (omega arith) in
      let h = records-in j l in (
        λ e. omega (arith, m, h),
        λ e. omega (arith, m, h, same-records),
        λ a. distinct-at ns records-differ a.0 j a.1 l (sym (visited-kept a.0 (omega (arith, a.1))) ∙ (a.2 ∙ m)),
      )

  count_kept : count us ≡ length ns
  count_kept = ends_there us (length ns) reaches-kept ends-kept

  -- so its chain is that of the records kept
  pub chain-kept : chain us ≡ ns
  chain-kept =
      ext_get_or 0 (chain us) ns (chain_length us ∙ count_kept)
      (λ i l. let m : i < length ns = omega (arith, chain_length us, count_kept) in
      chain-at us i 0 (omega (arith, count_kept)) ∙ visited-kept i (omega arith))

  pub tasks-kept : (table_of us).tasks ≡ map (task_of_record ws) ns
  unfolding table_of
  tasks-kept = ap₂ (λ (f : ℕ → Task) (l : List ℕ). map f l) (fun_ext same-task) chain-kept

  -- THE WORDS REPRESENT THESE TASKS
  pub linked-table : table_of us ≡ record { tasks = map (task_of_record ws) ns; cores = (table_of ws).cores; fence = (table_of ws).fence; rule = (table_of ws).rule }
  unfolding table_of
  linked-table =
      let τs = tasks-kept in
      let m = same-header 1 (omega arith) (omega arith) in
      let r = same-header 2 (omega arith) (omega arith) in
      let low = same-header 3 (omega arith) (omega arith) in
      let high = same-header 4 (omega arith) (omega arith) in
      λ i. record { tasks = τs i; cores = m i; fence = fence_of (low i) (high i); rule = rule_of (r i) }

  -- ---- no number turns them down

  same-cores : core_count us ≡ core_count ws
  same-cores = same-header 1 (omega arith) (omega arith)

  same-fence : fence us ≡ fence ws
  same-fence = ap₂ fence_of (same-header 3 (omega arith) (omega arith)) (same-header 4 (omega arith) (omega arith))

  last-kept : last_step us ≡ length ns
  last-kept = stops-there us (length ns) reaches-kept ((stops-decides us (length ns)).1 (inl ends-kept))

  never-past : ¬ Applies us 5 0
  never-past a =
      let h : OutOfRangeAt us (length ns) =
      (past-decides us (length ns)).0 (subst (λ (k : ℕ). out_of_range_at us k ≡ true) last-kept ((five-decides us).1 a)) in
      omega (arith, ends-kept)

  never-again : ¬ Applies us 6 0
  never-again a =
      let h : RepeatedAt us (length ns) =
      (again-decides us (length ns)).0 (subst (λ (k : ℕ). repeated_at us k ≡ true) last-kept ((six-decides us).1 a)) in
      (reaches-kept h.0 h.1).0 (h.2 ∙ ends-kept)

  -- each task is one of the table's, and so within its limits
  abbrev wide : List ℕ → ℕ
  wide vs = unfenced_count (fence vs) (core_count vs)

  inside-kept : (q : ℕ) → 1 ≤ q → q ≤ count us → Inside (wide us) (task_at us q)
  inside-kept q a b =
      let l : q - 1 < count us = omega arith in
      let m : q - 1 < length ns = omega (arith, count_kept) in
      let x = on_chain (q - 1) m in
      let here : Inside (wide ws) (get_or (table_of ws).tasks x.0 absent_task) = passed-inside ws none x.0 (omega (arith, table-length ws, x.1)) in
      let same : get_or (table_of ws).tasks x.0 absent_task ≡ task_at us q =
      table_at ws x.0 x.1
      ∙ (ap (task_of_record ws) (sym x.2)
      ∙ (sym (map_at (task_of_record ws) ns (q - 1) absent_task 0 m)
      ∙ (ap (λ (τs : List Task). get_or τs (q - 1) absent_task) (sym tasks-kept) ∙ table_at us (q - 1) l))) in
      subst (λ (w : ℕ). Inside w (task_at us q)) (sym (ap₂ unfenced_count same-fence same-cores)) (subst (Inside (wide ws)) same here)

  head-kept : head us ≡ get_or ns 0 0
  unfolding visited
  head-kept = visited-kept 0 (omega arith)

  -- THE NUMBERS: none but 9
  pub linked-applies : 0 < length ns → (n p : ℕ) → Applies us n p → (n ≡ 9) × (p ≡ 0) × HorizonOut (horizon (table_of us))
  linked-applies l n p (one h) =
      absurd
      (none 1 0
      (one
      (subst (λ (k : ℕ). (k < header_words) ⊎ (((k - header_words) % record_words ≡ 0 → ⊥) ⊎ (most_tasks < (k - header_words) / record_words))) same_length h)))
  linked-applies l n p (two h) = absurd (none 2 0 (two (subst CoresOut same-cores h)))
  linked-applies l n p (three h) = absurd (none 3 0 (three (subst RuleOut (same-header 2 (omega arith) (omega arith)) h)))
  linked-applies l n p (nineteen h) =
      absurd (none 19 0 (nineteen (subst (FenceOut (core_count ws)) same-fence (subst (λ (m : ℕ). FenceOut m (fence us)) same-cores h))))
  linked-applies l n p (four h) = absurd (omega (arith, h, head-kept, records-in 0 l))
  linked-applies l n p (five k c h) = absurd (never-past (five k c h))
  linked-applies l n p (six k c h) = absurd (never-again (six k c h))
  linked-applies l n p (seven q o h) = absurd (inside-widths (wide us) (task_at us q) (inside-kept q o.0 o.1) h)
  linked-applies l n p (eight q o h) = absurd (inside-times (wide us) (task_at us q) (inside-kept q o.0 o.1) h)
  linked-applies l n p (nine h) = (refl, refl, h)

  -- no records at all: 4
  pub linked-empty : length ns ≡ 0 → Applies us 4 0
  unfolding visited
  linked-empty e = four (sym (ap (visited us) e) ∙ ends-kept)

-- THEOREM (every-growth): the words with one C grown represent the table that has grown, and no number turns them down where none turns down the whole and C
-- is within its limit. One word changes, which the walk along the chain does not read, nor S, P and the horizon.
use mathlib.Core.Bool.{Bool, false, true}
use mathlib.Core.List.{List}
use mathlib.Core.Logic.{◌⊎◌, inl, inr}
use mathlib.Core.Path.{ap, ap₂, fun_ext, refl, subst, sym, ◌∙◌, ◌≡◌}
use Prim.Native.Nat.{ℕ, suc, zero, ◌%◌, ◌*◌, ◌+◌, ◌-◌, ◌/◌, ◌<◌, ◌≤◌}
use native.Mathlib.Omega.{arith}
use lib.Dec.{eqb, ltb}
use lib.ListN.{get_or, length, length-set, set}
use lib.Seq.{ext_get_or, get_or-set_other, get_or-set_same}
use borrow.Author.Tests.{eqb-false, eqb-true, ltb-false, ltb-true}
use Rattle.model.specs.Fence.{unfenced_count}
use Rattle.model.specs.Horizon.{horizon}
use Rattle.model.specs.Search.{least}
use Rattle.model.specs.Sizes.{most_tasks}
use Rattle.model.specs.Task.{Task, absent_task, rule_of, task}
use Rattle.table.proofs.Passed.{passed-horizon, passed-inside, passed-reached}
use Rattle.table.proofs.Tasks.{table_at, table-length}
use Rattle.table.specs.Limits.{CoresOut, FenceOut, RuleOut, TimesOut, WidthOut, most_time}
use Rattle.table.specs.Numbers.{NoneApplies, Position, Reaches}
use Rattle.table.specs.Numbers.{eight, five, four, nine, nineteen, one, seven, six, three, two}
use Rattle.table.specs.Words.{core_count, count, fence, fence_of, field, header_words, visited, next, record_words, records}
use Rattle.table.specs.Words.{table_of, task_at, task_of_record, word}
use Rattle.slack.specs.GrownWords.{grown_words, length_at}
use Rattle.slack.specs.Longer.{grown, lengthen}
use Rattle.slack.proofs.Grown.{grown-longer, horizon-longer}

module _ (ws : List ℕ) (none : NoneApplies ws) (p : ℕ) (l : p < length (table_of ws).tasks) (g : ℕ) where
  abbrev us : List ℕ
  us = grown_words ws p g

  -- the record that changes, and which word
  abbrev own : ℕ
  own = visited ws p

  abbrev at : ℕ
  at = length_at own

  same_length : length us ≡ length ws
  unfolding grown_words
  same_length = length-set ws at (word ws at + g)

  same-records : records us ≡ records ws
  same-records = ap (λ (n : ℕ). (n - header_words) / record_words) same_length

  same_word : (i : ℕ) → (i ≡ at → ⊥) → word us i ≡ word ws i
  unfolding grown_words
  same_word i d = get_or-set_other ws at i (word ws at + g) 0 d

  same-header : (i : ℕ) → i < header_words → word us i ≡ word ws i
  same-header i a = same_word i (λ e. omega arith)

  -- the walk meets the same records
  same_next : (n : ℕ) → next us n ≡ next ws n
  same_next n = same_word (header_words + (n - 1) * record_words + 0) (λ e. omega arith)

  same-visited : (k : ℕ) → visited us k ≡ visited ws k
  unfolding visited
  same-visited zero = same-header 0 (omega arith)
  same-visited (suc k) = ap (next us) (same-visited k) ∙ same_next (visited ws k)

  same_count : count us ≡ count ws
  unfolding count
  same_count = ap₂ (λ (n : ℕ) (f : ℕ → ℕ). least (suc n) (λ k. eqb (f k) 0)) same-records (fun_ext same-visited)

  -- every word but the one of the record at place p
  same-field : (n j : ℕ) → j < record_words → (j ≡ 3 → ⊥) → field us n j ≡ field ws n j
  same-field n j a d = same_word (header_words + (n - 1) * record_words + j) (λ e. omega arith)

  l' : p < count ws
  l' = omega (arith, l, table-length ws)

  -- that is there, and no other place has that record
  own_in : (1 ≤ own) × (own ≤ records ws)
  own_in =
      let a : ¬ (own ≡ 0) = (passed-reached ws none p l').0 in
      let b : ¬ (records ws < own) = (passed-reached ws none p l').1 in
      omega arith

  own-only : (q : ℕ) → q < count ws → (q ≡ p → ⊥) → visited ws q ≡ own → ⊥
  own-only q m d e = go (ltb q p) refl
    where
      go : (t : Bool) → ltb q p ≡ t → ⊥
      go true h = (passed-reached ws none p l').2 (q, ltb-true q p h, e)
      go false h = (passed-reached ws none q m).2 (p, omega (arith, ltb-false q p h, d), sym e)

  other-record : (n : ℕ) → 1 ≤ n → (n ≡ own → ⊥) → task_of_record us n ≡ task_of_record ws n
  other-record n a d =
      let f : (j : ℕ) → j < record_words → field us n j ≡ field ws n j =
      λ j b. same_word (header_words + (n - 1) * record_words + j) (λ e. d (omega (arith, own_in))) in
      let one = f 1 (omega arith) in
      let two = f 2 (omega arith) in
      let three = f 3 (omega arith) in
      let four = f 4 (omega arith) in
      let five = f 5 (omega arith) in
      let six = f 6 (omega arith) in
      λ i. record { offset = one i; odd_width = two i; length = three i; deadline = four i; period = five i; even_width = six i }

  own-record : task_of_record us own ≡ lengthen g (task_of_record ws own)
  own-record =
      let f : (j : ℕ) → j < record_words → (j ≡ 3 → ⊥) → field us own j ≡ field ws own j = same-field own in
      let one = f 1 (omega arith) (λ e. omega arith) in
      let two = f 2 (omega arith) (λ e. omega arith) in
      let three : field us own 3 ≡ field ws own 3 + g = unfold grown_words in get_or-set_same ws at (word ws at + g) 0 (omega (arith, own_in)) in
      let four = f 4 (omega arith) (λ e. omega arith) in
      let five = f 5 (omega arith) (λ e. omega arith) in
      let six = f 6 (omega arith) (λ e. omega arith) in
      λ i. record { offset = one i; odd_width = two i; length = three i; deadline = four i; period = five i; even_width = six i }

  -- the task at each place
  task-grown : (q : ℕ) → q < count ws → task_of_record us (visited us q) ≡ get_or (grown (table_of ws) p g).tasks q absent_task
  task-grown q m = ap (task_of_record us) (same-visited q) ∙ go (eqb q p) refl
    where
      go : (t : Bool) → eqb q p ≡ t → task_of_record us (visited ws q) ≡ get_or (set (table_of ws).tasks p (lengthen g (task (table_of ws) p))) q absent_task
      go true e =
          let i : q ≡ p = eqb-true q p e in
          subst (λ (n : ℕ). task_of_record us (visited ws n) ≡ get_or (set (table_of ws).tasks p (lengthen g (task (table_of ws) p))) n absent_task) (sym i)
          (own-record
          ∙ (ap (lengthen g) (sym (table_at ws p l')) ∙ sym (get_or-set_same (table_of ws).tasks p (lengthen g (task (table_of ws) p)) absent_task l)))
      go false e =
          let d : ¬ (q ≡ p) = eqb-false q p e in
          let a : ¬ (visited ws q ≡ 0) = (passed-reached ws none q m).0 in
          other-record (visited ws q) (omega arith) (own-only q m d)
          ∙ (sym (table_at ws q m) ∙ sym (get_or-set_other (table_of ws).tasks p q (lengthen g (task (table_of ws) p)) absent_task d))

  tasks-grown : (table_of us).tasks ≡ (grown (table_of ws) p g).tasks
  tasks-grown =
      ext_get_or absent_task (table_of us).tasks (grown (table_of ws) p g).tasks
      (table-length us ∙ (same_count ∙ (sym (table-length ws) ∙ sym (length-set (table_of ws).tasks p (lengthen g (task (table_of ws) p))))))
      (λ q m.
      let k : q < count us = omega (arith, table-length us) in
      table_at us q k ∙ task-grown q (omega (arith, same_count)))

  -- THE WORDS REPRESENT THE TABLE THAT HAS GROWN
  pub grown-table : table_of us ≡ grown (table_of ws) p g
  unfolding table_of
  grown-table =
      let τs = tasks-grown in
      let m = same-header 1 (omega arith) in
      let r = same-header 2 (omega arith) in
      let low = same-header 3 (omega arith) in
      let high = same-header 4 (omega arith) in
      λ i. record { tasks = τs i; cores = m i; fence = fence_of (low i) (high i); rule = rule_of (r i) }

  -- ---- no number turns them down

  same-cores : core_count us ≡ core_count ws
  same-cores = same-header 1 (omega arith)

  same-fence : fence us ≡ fence ws
  same-fence = ap₂ fence_of (same-header 3 (omega arith)) (same-header 4 (omega arith))

  reaches-back : (k : ℕ) → Reaches us k → Reaches ws k
  reaches-back k c j m = (
    λ e. (c j m).0 (same-visited j ∙ e),
    λ e. (c j m).1 (omega (arith, e, same-visited j, same-records)),
    λ e. (c j m).2 (e.0, e.1, same-visited e.0 ∙ (e.2 ∙ sym (same-visited j))),
  )

  position : (q : ℕ) → Position us q → Position ws q
  position q o = (o.0, omega (arith, o.1, same_count))

  -- a task is as it was, or is the one that has grown
  abbrev Kept : ℕ → Type 0
  Kept q = (task_at us q ≡ task_at ws q) ⊎ ((q ≡ suc p) × (task_at us q ≡ lengthen g (task_at ws q)))

  task-kept : (q : ℕ) → Position ws q → Kept q
  task-kept q (a, b) = go (eqb (q - 1) p) refl
    where
      same : task_at us q ≡ task_of_record us (visited ws (q - 1))
      same = ap (task_of_record us) (same-visited (q - 1))

      go : (t : Bool) → eqb (q - 1) p ≡ t → Kept q
      go true e =
          let i : q - 1 ≡ p = eqb-true (q - 1) p e in
          inr (omega arith, same ∙ subst (λ (n : ℕ). task_of_record us (visited ws n) ≡ lengthen g (task_of_record ws (visited ws n))) (sym i) own-record)
      go false e =
          let d : ¬ (q - 1 ≡ p) = eqb-false (q - 1) p e in
          let m : q - 1 < count ws = omega arith in
          let z : ¬ (visited ws (q - 1) ≡ 0) = (passed-reached ws none (q - 1) m).0 in
          inl (same ∙ other-record (visited ws (q - 1)) (omega arith) (own-only (q - 1) m d))

  abbrev wide : List ℕ → ℕ
  wide vs = unfenced_count (fence vs) (core_count vs)

  same-width-limit : wide us ≡ wide ws
  same-width-limit = ap₂ unfenced_count same-fence same-cores

  module _ (most : (task (table_of ws) p).length + g ≤ most_time) where
    -- 7 reads no length, and 8 has it within its limit
    never-wide : (q : ℕ) → Kept q → WidthOut (wide us) (task_at us q) → WidthOut (wide ws) (task_at ws q)
    never-wide q (inl e) h = subst (λ (m : ℕ). WidthOut m (task_at ws q)) same-width-limit (subst (WidthOut (wide us)) e h)
    never-wide q (inr (i, e)) h = subst (λ (m : ℕ). WidthOut m (task_at ws q)) same-width-limit (subst (WidthOut (wide us)) e h)

    grown-times : (τ : Task) → 1 ≤ τ.length → τ.length + g ≤ most_time → TimesOut (lengthen g τ) → TimesOut τ
    grown-times τ a b (inl h) = inl h
    grown-times τ a b (inr (inl h)) = absurd (h (omega arith))
    grown-times τ a b (inr (inr h)) = inr (inr h)

    never-times : (q : ℕ) → Kept q → TimesOut (task_at us q) → TimesOut (task_at ws q)
    never-times q (inl e) h = subst TimesOut e h
    never-times q (inr (i, e)) h =
        let here : task (table_of ws) p ≡ task_at ws q = table_at ws p l' ∙ ap (λ (n : ℕ). task_of_record ws (visited ws n)) (omega arith) in
        grown-times (task_at ws q)
        (subst (λ (τ : Task). 1 ≤ τ.length) here (passed-inside ws none p l).length_from.0)
        (subst (λ (τ : Task). τ.length + g ≤ most_time) here most)
        (subst TimesOut e h)

    pub grown-passes : NoneApplies us
    grown-passes n q (one h) =
        none 1 0
        (one
        (subst (λ (k : ℕ). (k < header_words) ⊎ (((k - header_words) % record_words ≡ 0 → ⊥) ⊎ (most_tasks < (k - header_words) / record_words))) same_length h))
    grown-passes n q (two h) = none 2 0 (two (subst CoresOut same-cores h))
    grown-passes n q (three h) = none 3 0 (three (subst RuleOut (same-header 2 (omega arith)) h))
    grown-passes n q (nineteen h) =
        none 19 0 (nineteen (subst (FenceOut (core_count ws)) same-fence (subst (λ (m : ℕ). FenceOut m (fence us)) same-cores h)))
    grown-passes n q (four h) = none 4 0 (four (sym (same-header 0 (omega arith)) ∙ h))
    grown-passes n q (five k c h) = none 5 0 (five k (reaches-back k c) (omega (arith, h, same-visited k, same-records)))
    grown-passes n q (six k c h) = none 6 0 (six k (reaches-back k c) (h.0, h.1, sym (same-visited h.0) ∙ (h.2 ∙ same-visited k)))
    grown-passes n q (seven i o h) = none 7 i (seven i (position i o) (never-wide i (task-kept i (position i o)) h))
    grown-passes n q (eight i o h) = none 8 i (eight i (position i o) (never-times i (task-kept i (position i o)) h))
    grown-passes n q (nine h) =
        omega (arith, h, passed-horizon ws none, ap horizon grown-table, horizon-longer (table_of ws) (grown (table_of ws) p g) (grown-longer (table_of ws) p g))

-- THE THEOREM: a table that passes passes with one C grown within its limit, and is then the table that has grown
pub every-growth :
    (ws : List ℕ) → NoneApplies ws → (p : ℕ) → p < length (table_of ws).tasks → (g : ℕ) → (task (table_of ws) p).length + g ≤ most_time
    → NoneApplies (grown_words ws p g) × (table_of (grown_words ws p g) ≡ grown (table_of ws) p g)
every-growth ws none p l g most = (grown-passes ws none p l g most, grown-table ws none p l g)

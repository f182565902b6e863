-- A table with just its unfenced cores and no fence: it is the model's (`unfenced-table`), and no number turns it down where none turned the fenced one down
-- (`unfenced-passes`).
use mathlib.Core.Bool.{Bool, true, false, not, ◌&&◌}
use mathlib.Core.List.{List, [], ◌∷◌, map}
use mathlib.Core.Logic.{◌⊎◌, inr}
use mathlib.Core.Path.{◌≡◌, refl, sym, ap, ap₂, fun_ext, subst, ◌∙◌}
use Prim.Native.Nat.{ℕ, zero, suc, ◌+◌, ◌-◌, ◌*◌, ◌/◌, ◌%◌, ◌^◌, ◌≤◌, ◌<◌}
use native.Mathlib.Nat.{pow-suc}
use native.Mathlib.Omega.{arith}
use lib.Dec.{eqb}
use lib.ListN.{length, get_or, drop, length-drop}
use lib.Pow.{pow_pos}
use lib.Seq.{get_or-append-add, get_or-drop}
use borrow.Author.Tests.{eqb-true, eqb-false, leb-true, lt-ltb}
use Rattle.model.specs.Fence.{unfenced_table, unfenced_count, unfenced}
use Rattle.model.specs.Horizon.{horizon}
use Rattle.model.specs.Search.{bit, least, member, up_from}
use Rattle.model.specs.Sizes.{most_cores, most_tasks}
use Rattle.model.specs.Task.{Task, rule_of}
use Rattle.model.proofs.Fence.{unfenced-count}
use Rattle.model.proofs.Lists.{up-length}
use Rattle.cores.proofs.Ascending.{length-kept}
use Rattle.cores.proofs.Unfenced.{memb-open}
use Rattle.table.specs.UnfencedWords.{unfenced_words}
use Rattle.table.specs.Limits.{InRange, FenceOut, WidthOut, TimesOut, HorizonOut}
use Rattle.table.specs.Numbers.{one, two, three, nineteen, four, five, six, seven, eight, nine, Position, Reaches, NoneApplies}
use Rattle.table.specs.Words.{header_words, record_words, head, core_count, rule, fence, records, field, visited, count, chain, task_of_record, task_at, table_of}
use Rattle.table.proofs.HeaderPasses.{words_long}
use Rattle.table.proofs.Passed.{passed-cores, passed-fence}
use Rattle.table.proofs.Tests.{fence-decides}

module _ (ws : List ℕ) (long : header_words ≤ length ws) where
  abbrev us : List ℕ
  us = unfenced_words ws

  same_length : length us ≡ length ws
  unfolding unfenced_words
  same_length = omega (arith, length-drop header_words ws)

  same-records : records us ≡ records ws
  same-records = ap (λ (n : ℕ). (n - header_words) / record_words) same_length

  -- a word after the header
  same_word : (k : ℕ) → get_or us (header_words + k) 0 ≡ get_or ws (header_words + k) 0
  unfolding unfenced_words
  same_word k =
      get_or-append-add (head ws ∷ (unfenced_count (fence ws) (core_count ws) ∷ (rule ws ∷ (0 ∷ (0 ∷ []))))) (drop header_words ws) k 0
      ∙ get_or-drop header_words ws k 0

  same-field : (n j : ℕ) → field us n j ≡ field ws n j
  same-field n j =
      let at : header_words + (n - 1) * record_words + j ≡ header_words + ((n - 1) * record_words + j) = omega arith in
      ap (λ (i : ℕ). get_or us i 0) at ∙ (same_word ((n - 1) * record_words + j) ∙ ap (λ (i : ℕ). get_or ws i 0) (sym at))

  same-visited : (k : ℕ) → visited us k ≡ visited ws k
  unfolding visited unfenced_words
  same-visited zero = refl
  same-visited (suc k) = same-field (visited us k) 0 ∙ ap (λ (n : ℕ). field ws n 0) (same-visited k)

  same-visits : visited us ≡ visited ws
  same-visits = fun_ext same-visited

  same-task : (n : ℕ) → task_of_record us n ≡ task_of_record ws n
  same-task n = λ i. record {
    offset = same-field n 1 i;
    odd_width = same-field n 2 i;
    length = same-field n 3 i;
    deadline = same-field n 4 i;
    period = same-field n 5 i;
    even_width = same-field n 6 i;
  }

  same_at : (p : ℕ) → task_at us p ≡ task_at ws p
  same_at p = same-task (visited us (p - 1)) ∙ ap (task_of_record ws) (same-visited (p - 1))

  same_count : count us ≡ count ws
  unfolding count
  same_count = ap₂ (λ (n : ℕ) (f : ℕ → ℕ). least (suc n) (λ k. eqb (f k) 0)) same-records same-visits

  same-tasks : (table_of us).tasks ≡ (table_of ws).tasks
  unfolding table_of chain
  same-tasks = λ i. map (fun_ext same-task i) (map (same-visits i) (up_from 0 (same_count i)))

  -- THE TABLE is the one with just its unfenced cores
  unfenced-is : table_of us ≡ unfenced_table (table_of ws)
  unfolding table_of unfenced_words
  unfenced-is = λ i. record { tasks = same-tasks i; cores = unfenced_count (fence ws) (core_count ws); fence = 0; rule = rule_of (rule ws) }

-- THE NUMBERS

-- where not all cores are fenced, some are open, and no more than there are
some-open : (f m : ℕ) → ¬ FenceOut m f → 1 ≤ unfenced_count f m
unfolding member
some-open f m n = go (eqb (unfenced_count f m) 0) refl
  where
    none : unfenced_count f m ≡ 0 → unfenced f m ≡ []
    none e = empty (unfenced f m) e
      where
        empty : (l : List ℕ) → length l ≡ 0 → l ≡ []
        empty [] h = refl
        empty (c ∷ l) h = absurd (omega arith)

    fenced : (t : Bool) → false ≡ not t → t ≡ true
    fenced true e = refl
    fenced false e = sym (sym e)

    all : unfenced_count f m ≡ 0 → (c : ℕ) → c < m → bit f c ≡ true
    all e c l =
        fenced (bit f c)
        (ap (member c) (sym (none e)) ∙ (memb-open f m c ∙ ap (λ (t : Bool). t && not (bit f c)) (lt-ltb c m l)))

    go : (t : Bool) → eqb (unfenced_count f m) 0 ≡ t → 1 ≤ unfenced_count f m
    go true e = absurd (n (inr (all (eqb-true (unfenced_count f m) 0 e))))
    go false e = let x = eqb-false (unfenced_count f m) 0 e in omega arith

few-open : (f m : ℕ) → unfenced_count f m ≤ m
few-open f m = omega (arith, length-kept (λ c. not (bit f c)) (up_from 0 m), up-length 0 m)

-- no fence is no fault where there is a core
no-fence : (m : ℕ) → 1 ≤ m → ¬ FenceOut m 0
no-fence (suc m) l h = omega (arith, leb-true (2 ^ suc m - 1) 0 ((fence-decides (suc m) 0).1 h), pow-suc 2 m, pow_pos m)
no-fence zero l h = omega arith

-- NO NUMBER turns it down where none turned the fenced table down
module _ (ws : List ℕ) (none : NoneApplies ws) where
  abbrev m : ℕ
  m = unfenced_count (fence ws) (core_count ws)

  enough : header_words ≤ length ws
  enough = words_long ws (λ h. none 1 0 (one h))

  open-from : InRange 1 most_cores m
  open-from = (some-open (fence ws) (core_count ws) (passed-fence ws none), omega (arith, few-open (fence ws) (core_count ws), (passed-cores ws none).1))

  -- the walk meets the same
  reaches : (k : ℕ) → Reaches (unfenced_words ws) k → Reaches ws k
  reaches k c j l =
      let x = c j l in
      let r = same-records ws enough in
      let e = same-visited ws enough in (
        λ h. x.0 (e j ∙ h),
        λ h. x.1 (omega (arith, r, e j)),
        λ h. x.2 (h.0, h.1, e h.0 ∙ (h.2 ∙ sym (e j))),
      )

  position : (q : ℕ) → Position (unfenced_words ws) q → Position ws q
  position q o = (o.0, omega (arith, o.1, same_count ws enough))

  pub unfenced-passes : NoneApplies (unfenced_words ws)
  unfolding unfenced_words
  unfenced-passes n p (one h) =
      none 1 0 (one (subst (λ (k : ℕ). (k < header_words) ⊎ (((k - header_words) % record_words ≡ 0 → ⊥) ⊎ (most_tasks < (k - header_words) / record_words))) (same_length ws enough) h))
  unfenced-passes n p (two h) = h open-from
  unfenced-passes n p (three h) = none 3 0 (three h)
  unfenced-passes n p (nineteen h) = no-fence m open-from.0 h
  unfenced-passes n p (four h) = none 4 0 (four h)
  unfenced-passes n p (five k c h) = none 5 0 (five k (reaches k c) (omega (arith, same-records ws enough, same-visited ws enough k)))
  unfenced-passes n p (six k c h) = none 6 0 (six k (reaches k c) (h.0, h.1, sym (same-visited ws enough h.0) ∙ (h.2 ∙ same-visited ws enough k)))
  unfenced-passes n p (seven q o h) =
      none 7 q (seven q (position q o) (subst (λ (k : ℕ). WidthOut k (task_at ws q)) (unfenced-count m) (subst (λ (τ : Task). WidthOut (unfenced_count 0 m) τ) (same_at ws enough q) h)))
  unfenced-passes n p (eight q o h) = none 8 q (eight q (position q o) (subst TimesOut (same_at ws enough q) h))
  unfenced-passes n p (nine h) = none 9 0 (nine (subst HorizonOut (ap horizon (unfenced-is ws enough) ∙ unfenced-horizon) h))
    where
      unfenced-horizon : horizon (unfenced_table (table_of ws)) ≡ horizon (table_of ws)
      unfenced-horizon = unfold horizon in refl

  -- THE THEOREM: the words with just the unfenced cores pass too, and represent the table with just its unfenced cores
  pub unfenced-table : table_of (unfenced_words ws) ≡ unfenced_table (table_of ws)
  unfenced-table = unfenced-is ws enough

-- The words of an order: they represent the table in that order, and no number but 9 turns them down.
use mathlib.Core.Bool.{Bool, false, true}
use mathlib.Core.List.{List, ◌∷◌, map}
use mathlib.Core.Path.{◌≡◌, ap, refl, sym, ◌∙◌}
use Prim.Native.Nat.{ℕ, suc, ◌+◌, ◌<◌, ◌≤◌}
use native.Mathlib.Numerals.{add-one}
use native.Mathlib.Omega.{arith}
use lib.Dec.{ltb}
use lib.ListN.{drop, drop_of_length-le, get_or, length, length-map, set, take}
use lib.Seq.{drop-cons, get_or-take, length-take-le, take-set-lt}
use borrow.Author.Tests.{ltb-false, ltb-true}
use Rattle.model.proofs.Lists.{map_at}
use Rattle.model.specs.Horizon.{horizon}
use Rattle.model.specs.Sizes.{most_tasks}
use Rattle.model.specs.Task.{Table, Task, absent_task}
use Rattle.table.proofs.HeaderPasses.{words_long}
use Rattle.table.proofs.Passed.{passed-count}
use Rattle.table.proofs.Tasks.{table_at, table-length}
use Rattle.table.specs.Limits.{HorizonOut}
use Rattle.table.specs.Numbers.{Applies, NoneApplies, one}
use Rattle.table.specs.Words.{count, table_of, task_of_record, visited}
use Rattle.conflict.proofs.Linked.{All, Distinct, chain-in, chain-reached, distinct_from, next-inside}
use Rattle.conflict.proofs.LinkedWords.{OnChain, linked-applies, linked-table, same_length}
use Rattle.conflict.specs.Relinked.{linked, next_word_at}
use Rattle.priority_order.specs.Answer.{InOrder}
use Rattle.priority_order.specs.Orders.{Permutation, reordered}

-- a table that passes has 1 to 32 tasks
pub tasks-some : (ws : List ℕ) → NoneApplies ws → 0 < count ws
tasks-some ws none = omega (arith, (passed-count ws none).0, table-length ws)

pub tasks-few : (ws : List ℕ) → NoneApplies ws → count ws ≤ most_tasks
tasks-few ws none = omega (arith, (passed-count ws none).1, table-length ws)

-- the walk along an order as code makes it: the records from place i on are yet to be linked, the next of them at word `link`
pub record Linking (ws o copy : List ℕ) (link i : ℕ) : Type 0 where
  pub within : i ≤ count ws
  pub inside : link < length ws
  pub linking : linked link (drop i (map (visited ws) (take (count ws) o))) (take (length ws) copy) ≡ reordered ws o

module _ (ws : List ℕ) (none : NoneApplies ws) (o : List ℕ) (x : Permutation (count ws) o) where
  abbrev n : ℕ
  n = count ws

  -- the records in this order
  abbrev ns : List ℕ
  ns = map (visited ws) (take n o)

  places : length (take n o) ≡ n
  places = length-take-le n o (omega (arith, x.size, tasks-few ws none))

  pub numbers-length : length ns ≡ n
  numbers-length = length-map (take n o) (visited ws) ∙ places

  pub numbers-at : (i : ℕ) → i < n → get_or ns i 0 ≡ visited ws (get_or o i 0)
  numbers-at i l = map_at (visited ws) (take n o) i 0 0 (omega (arith, places)) ∙ ap (visited ws) (get_or-take n o i 0 l)

  on_chain : All (OnChain ws) ns
  on_chain i l =
      let m : i < n = omega (arith, numbers-length) in
      (get_or o i 0, x.within i m, numbers-at i m)

  -- two places of the chain have two records
  visited-differ : (a b : ℕ) → a < b → b < n → ¬ (visited ws a ≡ visited ws b)
  visited-differ a b l m e = (chain-reached ws none b m).2 (a, l, e)

  differ : Distinct ns
  differ = distinct_from ns apart
    where
      apart : (i j : ℕ) → i < j → j < length ns → ¬ (get_or ns i 0 ≡ get_or ns j 0)
      apart i j l m e =
          let k : j < n = omega (arith, numbers-length) in
          let h : i < n = omega arith in
          let f : visited ws (get_or o i 0) ≡ visited ws (get_or o j 0) = sym (numbers-at i h) ∙ (e ∙ numbers-at j k) in
          places-differ (get_or o i 0) (get_or o j 0) (x.within i h) (x.within j k) (x.distinct i j l k) f
        where
          places-differ : (a b : ℕ) → a < n → b < n → ¬ (a ≡ b) → ¬ (visited ws a ≡ visited ws b)
          places-differ a b u v d f = go (ltb a b) refl
            where
              go : (t : Bool) → ltb a b ≡ t → ⊥
              go true g = visited-differ a b (ltb-true a b g) v f
              go false g = visited-differ b a (omega (arith, ltb-false a b g, d)) u (sym f)

  pub reordered-length : length (reordered ws o) ≡ length ws
  unfolding reordered
  reordered-length = same_length ws none ns on_chain differ

  -- THE TABLE IN THIS ORDER
  pub order-table : InOrder (table_of ws) o (table_of (reordered ws o))
  unfolding reordered
  order-table =
      let e = linked-table ws none ns on_chain differ in
      let tasks : (table_of (reordered ws o)).tasks ≡ map (task_of_record ws) ns = ap (λ (s : Table). s.tasks) e in record {
        cores = ap (λ (s : Table). s.cores) e;
        fence = ap (λ (s : Table). s.fence) e;
        rule = ap (λ (s : Table). s.rule) e;
        size = ap {B = ℕ} length tasks ∙ (length-map ns (task_of_record ws) ∙ (numbers-length ∙ sym (table-length ws)));
        tasks = λ i l.
            let m : i < n = omega (arith, table-length ws) in
            ap (λ (τs : List Task). get_or τs i absent_task) tasks
            ∙ (map_at (task_of_record ws) ns i absent_task 0 (omega (arith, numbers-length))
            ∙ (ap (task_of_record ws) (numbers-at i m) ∙ sym (table_at ws (get_or o i 0) (x.within i m))));
      }

  -- THE NUMBERS: none but 9
  pub order-applies : (k p : ℕ) → Applies (reordered ws o) k p → (k ≡ 9) × (p ≡ 0) × HorizonOut (horizon (table_of (reordered ws o)))
  unfolding reordered
  order-applies k p a = linked-applies ws none ns on_chain differ (omega (arith, numbers-length, tasks-some ws none)) k p a

  -- ---- the walk along the order as code makes it

  pub linking-start : (copy : List ℕ) → take (length ws) copy ≡ ws → Linking ws o copy 0 0
  unfolding reordered
  linking-start copy e = record {
    within = omega arith;
    inside = omega (arith, words_long ws (λ h. none 1 0 (one h)));
    linking = ap (linked 0 ns) e;
  }

  -- the record at place i, and its words
  pub linking-record : (i : ℕ) → i < n → (1 ≤ visited ws (get_or o i 0)) × (next_word_at (visited ws (get_or o i 0)) < length ws)
  linking-record i l =
      let h = chain-in ws none (get_or o i 0) (x.within i l) in
      (h.0, next-inside ws (visited ws (get_or o i 0)) h.0 h.1)

  pub linking-more : (copy : List ℕ) (link i number : ℕ) → Linking ws o copy link i → i < n → number ≡ visited ws (get_or o i 0)
      → Linking ws o (set copy link number) (next_word_at number) (i + 1)
  unfolding linked
  linking-more copy link i number w l e = record {
    within = omega arith;
    inside = rw e (linking-record i l).1;
    linking =
        rw (add-one i)
        (ap (linked (next_word_at number) (drop (suc i) ns)) (take-set-lt (length ws) copy link number w.inside)
        ∙ (ap (λ (l : List ℕ). linked link l (take (length ws) copy)) (sym here) ∙ w.linking));
  }
    where
      here : drop i ns ≡ number ∷ drop (suc i) ns
      here = drop-cons ns i 0 (omega (arith, numbers-length)) ∙ ap (λ (k : ℕ). k ∷ drop (suc i) ns) (numbers-at i l ∙ sym e)

  pub linking-end : (copy : List ℕ) (link i : ℕ) → Linking ws o copy link i → n ≤ i → take (length ws) (set copy link 0) ≡ reordered ws o
  unfolding linked
  linking-end copy link i w l =
      take-set-lt (length ws) copy link 0 w.inside
      ∙ (ap (λ (m : List ℕ). linked link m (take (length ws) copy)) (sym (drop_of_length-le ns {i = i} (omega (arith, numbers-length)))) ∙ w.linking)

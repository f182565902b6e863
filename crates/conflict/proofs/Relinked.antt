-- THEOREM (every-part): the words of a part represent that part, and where some task is left no number turns them down, if none turns down the whole.
use mathlib.Core.List.{List}
use mathlib.Core.Path.{ap, subst, sym, ◌∙◌, ◌≡◌}
use Prim.Native.Nat.{ℕ, ◌<◌, ◌≤◌}
use native.Mathlib.Omega.{arith}
use lib.ListN.{length}
use Rattle.model.specs.Horizon.{horizon}
use Rattle.model.specs.Search.{bit}
use Rattle.model.specs.Task.{Table, Task}
use Rattle.table.proofs.Passed.{passed-horizon, passed-valid}
use Rattle.table.proofs.Tasks.{chain-at, chain_length, table-length}
use Rattle.table.specs.Numbers.{Applies, NoneApplies}
use Rattle.table.specs.Words.{chain, table_of, task_of_record}
use Rattle.conflict.specs.SubTable.{chosen, sub_table}
use Rattle.conflict.specs.Relinked.{relinked}
use Rattle.conflict.proofs.Chosen.{chosen-all, chosen-map}
use Rattle.conflict.proofs.Linked.{All, Distinct, chain-distinct, chosen-distinct, linked-length}
use Rattle.conflict.proofs.LinkedWords.{OnChain, chain-kept, linked-applies, linked-empty, linked-table, tasks-kept}
use Rattle.conflict.proofs.Parts.{part-fewer}

module _ (ws : List ℕ) (none : NoneApplies ws) (x : ℕ) where
  -- the records kept
  abbrev ns : List ℕ
  ns = chosen (bit x) (chain ws)

  on_chain : All (OnChain ws) ns
  on_chain =
      chosen-all (OnChain ws) 0 (bit x) (chain ws)
      (λ i l. let m : i < length (chain ws) = l in (i, omega (arith, chain_length ws), chain-at ws i 0 (omega (arith, chain_length ws))))

  differ : Distinct ns
  differ = chosen-distinct (bit x) (chain ws) (chain-distinct ws none)

  pub same_length : length (relinked ws x) ≡ length ws
  unfolding relinked
  same_length = linked-length 0 ns ws

  part-tasks : (table_of (relinked ws x)).tasks ≡ (sub_table (table_of ws) x).tasks
  unfolding relinked table_of
  part-tasks = tasks-kept ws none ns on_chain differ ∙ chosen-map (task_of_record ws) (bit x) (chain ws)

  -- THE WORDS REPRESENT THE PART
  pub part-table : table_of (relinked ws x) ≡ sub_table (table_of ws) x
  unfolding relinked table_of
  part-table =
      linked-table ws none ns on_chain differ
      ∙ ap
      (λ (τs : List Task). record { tasks = τs; cores = (table_of ws).cores; fence = (table_of ws).fence; rule = (table_of ws).rule })
      (chosen-map (task_of_record ws) (bit x) (chain ws))

  sooner : horizon (table_of (relinked ws x)) ≤ horizon (table_of ws)
  sooner = subst (λ (s : Table). horizon s ≤ horizon (table_of ws)) (sym part-table) (part-fewer (table_of ws) (passed-valid ws none) x).sooner

  as_many : length (sub_table (table_of ws) x).tasks ≡ length ns
  unfolding relinked
  as_many =
      ap {B = ℕ} length (sym part-tasks)
      ∙ (table-length (relinked ws x) ∙ (sym (chain_length (relinked ws x)) ∙ ap {B = ℕ} length (chain-kept ws none ns on_chain differ)))

  -- no number turns them down
  pub part-passes : 0 < length (sub_table (table_of ws) x).tasks → NoneApplies (relinked ws x)
  unfolding relinked
  part-passes l n p a =
      let h = linked-applies ws none ns on_chain differ (omega (arith, as_many)) n p a in
      omega (arith, h.2, sooner, passed-horizon ws none)

  -- the empty part is refused by 4
  pub part-empty : (length (sub_table (table_of ws) x).tasks ≡ 0) → Applies (relinked ws x) 4 0
  unfolding relinked
  part-empty e = linked-empty ws none ns on_chain differ (omega (arith, as_many))

-- THE THEOREM: every part that is not empty passes, as relinked words, where the whole does, and is that part
pub every-part :
    (ws : List ℕ) → NoneApplies ws → (x : ℕ) → 0 < length (sub_table (table_of ws) x).tasks
    → NoneApplies (relinked ws x) × (table_of (relinked ws x) ≡ sub_table (table_of ws) x)
every-part ws none x l = (part-passes ws none x l, part-table ws none x)

-- What a table has that passes all numbers.
use mathlib.Core.Path.{◌≡◌, ap, refl, subst, sym}
use mathlib.Core.Bool.{Bool, true, false, cond}
use mathlib.Core.List.{List}
use mathlib.Core.Logic.{⊎_elim}
use Prim.Native.Nat.{ℕ, suc, ◌-◌, ◌≤◌, ◌<◌}
use native.Mathlib.Omega.{arith}
use lib.ListN.{length}
use Rattle.model.specs.Task.{task, AllValid, rule_of}
use Rattle.model.specs.Fence.{unfenced_count}
use Rattle.model.specs.Horizon.{horizon}
use Rattle.std.proofs.lemmas.Bool.{false_from_ne_true}
use Rattle.model.specs.Sizes.{most_cores, most_tasks}
use Rattle.table.specs.Answer.{Past, Again, Whole}
use Rattle.table.specs.Words.{head, core_count, rule, fence, visited, count, task_at, table_of}
use Rattle.table.specs.Limits.{InRange, in_range, FenceOut, most_horizon}
use Rattle.table.specs.Numbers.{WordsOut, EndAt, Reaches, one, two, three, nineteen, four, seven, eight, nine, NoneApplies}
use Rattle.table.specs.Answer.{header_number, out_of_range_at, repeated_at, last_step, ending_of}
use Rattle.table.proofs.Decide.{stable}
use Rattle.table.proofs.Tests.{from-decides}
use Rattle.table.proofs.Walk.{last-reached, last-ends, reaches-short, ends_there, five-decides, six-decides}
use Rattle.table.proofs.HeaderPasses.{header-passes, words-few}
use Rattle.table.proofs.Tasks.{table-length, table_at}
use Rattle.table.proofs.Inside.{Inside, inside, inside-valid}

-- THE COUNT

-- a chain that ends at the zero and has a head has 1 to 32 records, of at most 32
count-from : (ws : List ℕ) → ¬ WordsOut ws → ¬ (head ws ≡ 0) → out_of_range_at ws (last_step ws) ≡ false → repeated_at ws (last_step ws) ≡ false → InRange 1 most_tasks (count ws)
unfolding visited
count-from ws w headed p a =
    let few = words-few ws w in
    let short = reaches-short ws (last_step ws) (last-reached ws) in
    let same = ends_there ws (last_step ws) (last-reached ws) (last-ends ws p a) in
    let some : ¬ (last_step ws ≡ 0) = λ z. headed (subst (EndAt ws) z (last-ends ws p a)) in
    omega arith

pub whole-count : (ws : List ℕ) → header_number ws ≡ 0 → ending_of ws ≡ Whole → InRange 1 most_tasks (count ws)
unfolding ending_of
whole-count ws h = go (out_of_range_at ws (last_step ws)) refl (repeated_at ws (last_step ws)) refl
  where
    go : (t : Bool) → out_of_range_at ws (last_step ws) ≡ t → (u : Bool) → repeated_at ws (last_step ws) ≡ u → cond t Past (cond u Again Whole) ≡ Whole → InRange 1 most_tasks (count ws)
    go true p u a e = let z : ◌≡◌ {A = ℕ} 0 1 = cc in absurd (omega arith)
    go false p true a e = let z : ◌≡◌ {A = ℕ} 0 1 = cc in absurd (omega arith)
    go false p false a e = let fine = header-passes ws h in count-from ws fine.words-in fine.headed p a

-- THE RULE

-- the table's rule, by its number
pub rule-of : (ws : List ℕ) (n : ℕ) → rule ws ≡ n → (table_of ws).rule ≡ rule_of n
unfolding table_of
rule-of ws n e = ap rule_of e

-- WHAT PASSES

module _ (ws : List ℕ) (none : NoneApplies ws) where
  -- 1 to 32 tasks
  pub passed-count : InRange 1 most_tasks (length (table_of ws).tasks)
  passed-count =
      let n = table-length ws in
      rw n (count-from ws (λ h. none 1 0 (one h)) (λ h. none 4 0 (four h))
      (false_from_ne_true (out_of_range_at ws (last_step ws)) (λ e. none 5 0 ((five-decides ws).0 e)))
      (false_from_ne_true (repeated_at ws (last_step ws)) (λ e. none 6 0 ((six-decides ws).0 e))))

  -- the walk comes to the end of the chain, and meets another record at each of its places
  pub passed-reached : Reaches ws (count ws)
  passed-reached =
      subst (Reaches ws)
      (sym
      (ends_there ws (last_step ws) (last-reached ws)
      (last-ends ws
      (false_from_ne_true (out_of_range_at ws (last_step ws)) (λ e. none 5 0 ((five-decides ws).0 e)))
      (false_from_ne_true (repeated_at ws (last_step ws)) (λ e. none 6 0 ((six-decides ws).0 e))))))
      (last-reached ws)

  -- 1 to 64 cores
  pub passed-cores : InRange 1 most_cores (core_count ws)
  passed-cores = stable (in_range 1 most_cores (core_count ws)) (InRange 1 most_cores (core_count ws)) (from-decides 1 most_cores (core_count ws)) (λ h. none 2 0 (two h))

  -- rule 1 to 4
  pub passed-rule : InRange 1 4 (rule ws)
  passed-rule = stable (in_range 1 4 (rule ws)) (InRange 1 4 (rule ws)) (from-decides 1 4 (rule ws)) (λ h. none 3 0 (three h))

  -- the fence names no core past the count, and not all
  pub passed-fence : ¬ FenceOut (core_count ws) (fence ws)
  passed-fence h = none 19 0 (nineteen h)

  -- what a width is measured against
  abbrev width_limit_of : ℕ
  width_limit_of = unfenced_count (fence ws) (core_count ws)

  -- each task is within its limits
  pub passed-inside : (p : ℕ) → p < length (table_of ws).tasks → Inside width_limit_of (task (table_of ws) p)
  passed-inside p l =
      let n = table-length ws in
      let e : suc p - 1 ≡ p = omega arith in
      let i : Inside width_limit_of (task_at ws (suc p)) =
      inside width_limit_of (task_at ws (suc p))
      (λ x. ⊎_elim (λ h. none 7 (suc p) (seven (suc p) (omega arith) h)) (λ h. none 8 (suc p) (eight (suc p) (omega arith) h)) x) in
      rw (table_at ws p (omega arith)) (rw e at i)

  -- so the theorems of the model hold of it
  pub passed-valid : AllValid (table_of ws)
  passed-valid p l = inside-valid width_limit_of (task (table_of ws) p) (passed-inside p l)

  -- no width is above the number of unfenced cores
  pub passed-widths : (p : ℕ) → p < length (table_of ws).tasks → ((task (table_of ws) p).odd_width ≤ width_limit_of) × ((task (table_of ws) p).even_width ≤ width_limit_of)
  passed-widths p l = ((passed-inside p l).odd-from.1, (passed-inside p l).even-from.1)

  -- the horizon is at most 1,000,000,000
  pub passed-horizon : horizon (table_of ws) ≤ most_horizon
  passed-horizon = let near : ¬ (most_horizon < horizon (table_of ws)) = λ h. none 9 0 (nine h) in omega arith

-- The table in the order has this first miss, and its facts are counted.
use mathlib.Core.List.{List}
use mathlib.Core.Path.{◌≡◌, ap, refl, subst, sym, ◌∙◌}
use Prim.Native.Nat.{ℕ, suc, ◌-◌, ◌≤◌}
use lib.ListN.{length, length-take}
use Rattle.model.specs.Horizon.{horizon}
use Rattle.model.specs.Task.{Table}
use Rattle.model.specs.Verdict.{FirstMiss}
use Rattle.std.specs.Prelude.{Option, None, Result, Ok, Err, Some}
use Rattle.std.specs.Result.{result_ok}
use Rattle.judge.specs.declared.Miss.{Miss as MissOf}
use Rattle.priority_order.specs.Repair.{late_with}
use Rattle.model.specs.declared.refusal.Refusal.{Refusal}
use Rattle.table.specs.Load.{LoadOf}
use Rattle.table.specs.Words.{count, table_of}
use Rattle.table.proofs.Contract.{load-err, load-ok}
use Rattle.table.proofs.Fit.{fit, same-table}
use Rattle.table.specs.Fit.{loaded_table, Fit}
use Rattle.sentence.specs.Facts.{Facts}
use Rattle.sentence.specs.Waiting.{facts_at}
use Rattle.priority_order.specs.Orders.{Permutation, reordered, OrderIn}
use Rattle.priority_order.specs.Repair.{most_ran, LateIn}
use Rattle.priority_order.proofs.Known.{order_in}
use Rattle.priority_order.proofs.Reordering.{reordered-length}
use Rattle.priority_order.proofs.Repairing.{MissIn, late-miss, miss-in}
use native.Mathlib.Omega.{arith}
use Rattle.table.specs.declared.Loaded.{Loaded}
use mathlib.Core.Bool.{true}
use Rattle.priority_order.specs.Repair.{Late}
use Rattle.priority_order.proofs.repair.blocking.Goals as goal

-- the order with its miss
abbrev the_late : MissOf → List ℕ → Late
the_late m o = late_with (Some m) o

module _ (ws : List ℕ) (n : ℕ) (x : Late) (o : OrderIn ws n x.order) (some : x.some ≡ true) (says : LateIn ws x) where
  permutation : Permutation (count ws) x.order
  permutation = subst (λ (n : ℕ). Permutation n x.order) o.size o.permutation

  -- the words of the order are as many
  same_length : length (reordered ws x.order) ≡ length ws
  same_length = reordered-length ws o.passes x.order permutation

  -- its first miss
  missed : MissIn ws x.order x.tick x.position
  missed = miss-in ws o.passes x.order permutation x.tick x.position (late-miss _ x.order x says some)

-- the table that was loaded is the table in the order, and fit to be run
module _ (us : List ℕ) (r : Result Loaded Refusal) (loads : LoadOf us r) (t : Loaded) (is : r ≡ Ok t) where
  table : loaded_table t ≡ table_of us
  table = let (h, none, e) = load-ok us r loads t is in same-table us t h none

  fits : Fit t
  fits = let (h, none, e) = load-ok us r loads t is in fit us t h none

-- .. as code has it
loaded : (r : Result Loaded Refusal) (o : Option Loaded) (t : Loaded) → o ≡ result_ok r → o ≡ Some t → r ≡ Ok t
loaded (Ok u) o t e f = let same : u ≡ t = cc in rw same
loaded (Err x) o t e f = let z : ◌≡◌ {A = ℕ} 0 1 = cc in absurd (omega arith)

refused : (r : Result Loaded Refusal) (o : Option Loaded) → o ≡ result_ok r → o ≡ None → (e : Refusal) × (r ≡ Err e)
refused (Ok u) o e f = let z : ◌≡◌ {A = ℕ} 0 1 = cc in absurd (omega arith)
refused (Err x) o e f = (x, refl)

pub slice_bounds-part-end : goal.slice_bounds-part-end
slice_bounds-part-end c =
    let ws = c.args.order.words.now in
    let e = same_length ws c.args.order.count (the_late c.args.miss c.args.order.places) (order_in c.args.order) refl c.requires in
    omega (arith, length-take (length ws) c.reordered-part.result, ap {B = ℕ} length c.reordered-part.ensures, e)

pub slice_bounds-load-end : goal.slice_bounds-load-end
slice_bounds-load-end c =
    sym (ap {B = ℕ} length c.reordered-part.ensures ∙ same_length c.args.order.words.now c.args.order.count (the_late c.args.miss c.args.order.places) (order_in c.args.order) refl c.requires)

pub overflow_sub-miss : goal.overflow_sub-miss
overflow_sub-miss c = omega (arith, (missed c.args.order.words.now c.args.order.count (the_late c.args.miss c.args.order.places) (order_in c.args.order) refl c.requires).some)

pub count-facts-requires : goal.count-facts-requires
count-facts-requires c =
    let ws = c.args.order.words.now in
    let x = the_late c.args.miss c.args.order.places in
    let m = missed ws c.args.order.count x (order_in c.args.order) refl c.requires in
    let us = reordered ws x.order in
    let t = c.in_ok-table.table in
    let loads = subst (λ (us : List ℕ). LoadOf us c.load.result) c.reordered-part.ensures c.load.ensures in
    let is = loaded c.load.result c.ok.result t c.ok.ensures.value c.in_ok-table.was in
    let same = table us c.load.result loads t is in
    let p : x.position ≡ suc (x.position - 1) = omega (arith, m.some) in
    let f = fits us c.load.result loads t is in (
      f,
      subst (λ (a : Table). FirstMiss a x.tick (suc (x.position - 1))) (sym same) (subst (FirstMiss _ x.tick) p m.first),
      rw f.horizon (subst (λ (a : Table). x.tick ≤ horizon a) (sym same) m.within),
    )

pub returns : goal.returns
returns c =
    let ws = c.args.order.words.now in
    let x = the_late c.args.miss c.args.order.places in
    let loads = subst (λ (us : List ℕ). LoadOf us c.load.result) c.reordered-part.ensures c.load.ensures in
    let is = loaded c.load.result c.ok.result c.in_ok-table.table c.ok.ensures.value c.in_ok-table.was in
    let same = table (reordered ws x.order) c.load.result loads c.in_ok-table.table is in
    c.most_ran.ensures
    ∙ (ap (λ (f : Facts). most_ran f.others) c.count-facts.ensures ∙ ap (λ (a : Table). most_ran (facts_at a x.tick (x.position - 1)).others) same)

-- its words pass
pub returns-in_err-table : goal.returns-in_err-table
returns-in_err-table c =
    let ws = c.args.order.words.now in
    let m = missed ws c.args.order.count (the_late c.args.miss c.args.order.places) (order_in c.args.order) refl c.requires in
    let loads = subst (λ (us : List ℕ). LoadOf us c.load.result) c.reordered-part.ensures c.load.ensures in
    let (e, is) = refused c.load.result c.ok.result c.ok.ensures.value c.in_err-table.was in
    let (says, first) = load-err (reordered ws c.args.order.places) c.load.result loads e is in
    absurd (m.passes _ _ first.0)

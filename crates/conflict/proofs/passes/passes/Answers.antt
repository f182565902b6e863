-- `conflict::passes::passes`: a pass goes over all tasks.
use Rattle.std.proofs.Common.{List, ◌≤◌, ◌≡◌, ◌∙◌, ap, sym, subst, length, ℕ, ◌^◌, ◌-◌, arith}
use Rattle.model.specs.Sizes.{most_tasks}
use Rattle.table.specs.Numbers.{NoneApplies}
use Rattle.table.specs.Words.{table_of}
use Rattle.table.proofs.Passed.{passed-count}
use Rattle.conflict.specs.Conflict.{pass}
use Rattle.conflict.proofs.Dropping.{Going, going_end, going_on, going_start, pass-falls}
use Rattle.conflict.proofs.passes.passes.Goals as goal

few : (ws : List ℕ) (n : ℕ) → NoneApplies ws → n ≡ length (table_of ws).tasks → n ≤ most_tasks
few ws n none e = omega (arith, (passed-count ws none).1, e)

pub all-kept-requires : goal.all-kept-requires
all-kept-requires c = few c.args.words.now c.args.count c.requires.passes c.requires.count

pub loop-kept-init : goal.loop-kept-init
loop-kept-init c =
    let s = table_of c.args.words.now in
    subst (Going s) (sym (c.all-kept.ensures ∙ ap (λ (n : ℕ). 2 ^ n - 1) c.requires.count)) (going_start s)

pub pass-left-requires : goal.pass-left-requires
pass-left-requires c = few c.args.words.now c.args.count c.requires.passes c.requires.count

pub returns-then-left-kept : goal.returns-then-left-kept
returns-then-left-kept c =
    let s = table_of c.args.words.now in
    let passed = c.pass-left.ensures ∙ ap (λ (n : ℕ). pass s n c.loop-kept.kept) c.requires.count in
    going_end s c.loop-kept.kept c.loop-kept.invariant (sym passed ∙ c.if-left-kept.true)

pub loop-kept-smaller : goal.loop-kept-smaller
loop-kept-smaller c =
    let s = table_of c.args.words.now in
    let passed = c.pass-left.ensures ∙ ap (λ (n : ℕ). pass s n c.loop-kept.kept) c.requires.count in
    omega (arith, passed, c.if-left-kept.false, pass-falls s c.loop-kept.kept)

pub loop-kept-preserved : goal.loop-kept-preserved
loop-kept-preserved c =
    let s = table_of c.args.words.now in
    let passed = c.pass-left.ensures ∙ ap (λ (n : ℕ). pass s n c.loop-kept.kept) c.requires.count in
    subst (Going s) (sym passed) (going_on s c.loop-kept.kept c.loop-kept.invariant (λ e. c.if-left-kept.false (passed ∙ e)))

-- A place that has a core in its set is given some; under rule 4 what is lent of that is borrowed and shown (`shared-lent`), else nothing is lent (`shared-own`).
use mathlib.Core.Path.{◌≡◌, ap, ◌∙◌}
use mathlib.Core.Bool.{true, false}
use mathlib.Core.List.{List}
use Prim.Native.Nat.{ℕ}
use lib.ListN.{length, take}
use mir.Syntax.{w64}
use mir.Val.{Val}
use denote.Array.{Array}
use denote.Laws.{Is}
use denote.Plain.{UInt}
use borrow.Author.Rules.{elem_Fits}
use borrow.Author.Tests.{ne_eqb}
use Rattle.model.specs.Lending.{lends}
use Rattle.model.specs.Task.{rule_of}
use Rattle.phase.proofs.Rules.{lends-rule}
use Rattle.rule.specs.Widths.{widths_in}
use Rattle.rule.proofs.Widths.{front_length}
use Rattle.run.proofs.Loans.{Machine, one-or-other, shared-lent, shared-own}
use Rattle.run.proofs.allocation.allocate.Goals as goal
use Rattle.run.proofs.allocation.allocate.Goals.{After-owners-given, Then-rule-eq-LENDING}

-- the widths of the places below the count, and the number of them
abbrev ws : After-owners-given → List ℕ
ws c = let a = c.args in take a.count (widths_in a.even a.widths.now)

size : (c : After-owners-given) → length (ws c) ≡ c.args.count
size c = let a = c.args in front_length a.even a.widths.now a.count c.requires

-- the rule lends
lending : (c : Then-rule-eq-LENDING) → lends (rule_of c.args.rule) ≡ true
lending c = ap (λ (n : ℕ). lends (rule_of n)) c.if-rule-eq-LENDING.true

-- an array of 32 sets is one of machine numbers
machine : (sets : List ℕ) (vs : List Val) → Is (Array (UInt w64) 32) sets vs → Machine sets
machine sets vs p = (p.1.0.1, λ q. (elem_Fits w64 w64 sets p.0 q p.1.1 tt).fits)

pub shown-sets-requires-clause-fact_2 : goal.shown-sets-requires-clause-fact_2
shown-sets-requires-clause-fact_2 c =
    let o = (goal.at.shown-sets-requires-clause-fact_2 c).After-owners-given in
    let a = c.args in
    one-or-other (rule_of a.rule) (ws o) a.claiming a.working a.free a.count (size o) c.requires c.grants-reserved.result c.grants-reserved.ensures
    c.owners-given.result c.owners-given.ensures (lending (goal.at.shown-sets-requires-clause-fact_2 c).Then-rule-eq-LENDING) c.lend-borrowed.result c.lend-borrowed.ensures

pub returns-then-rule-eq-LENDING : goal.returns-then-rule-eq-LENDING
returns-then-rule-eq-LENDING c =
    let o = (goal.at.returns-then-rule-eq-LENDING c).After-owners-given in
    let a = c.args in
    shared-lent (rule_of a.rule) (ws o) a.claiming a.working a.free a.count (size o) c.requires c.grants-reserved.result c.grants-reserved.ensures
    c.owners-given.result c.owners-given.ensures (lending (goal.at.returns-then-rule-eq-LENDING c).Then-rule-eq-LENDING) c.lend-borrowed.result c.lend-borrowed.ensures
    c.owners-lent.result c.owners-lent.ensures c.shown-sets.result c.shown-sets.ensures (machine c.shown-sets.result _ c.shown-sets.type_inv)

pub returns : goal.returns
returns c =
    let o = (goal.at.returns c).After-owners-given in
    let a = c.args in
    let none : lends (rule_of a.rule) ≡ false = lends-rule a.rule ∙ ne_eqb a.rule 4 c.if-rule-eq-LENDING.false in
    shared-own (rule_of a.rule) (ws o) a.claiming a.working a.free a.count (size o) c.requires c.grants-reserved.result c.grants-reserved.ensures
    c.owners-given.result c.owners-given.ensures (machine c.grants-reserved.result _ c.grants-reserved.type_inv) none

use Rattle.std.proofs.Common.{◌-◌, ℕ, ap, sym, ◌∙◌}
use Rattle.model.proofs.Digits.{shifted_one}
use Rattle.table.specs.Words.{table_of}
use Rattle.conflict.specs.Conflict.{conflicts}
use Rattle.conflict.proofs.Dropping.{dropped-drops, dropped-needs, dropped-not}
use Rattle.conflict.proofs.passes.SubTable.dropped.Goals as goal

pub returns-then-misses : goal.returns-then-misses
returns-then-misses c =
    let a = c.args in
    let e = shifted_one 32 a.place c.requires in
    ap (λ (y : ℕ). a.self.kept - y) e
    ∙ sym
    (dropped-drops (table_of a.self.words.now) a.place a.self.kept (sym c.has.ensures ∙ c.if-has.true)
    (ap (λ (y : ℕ). conflicts (table_of a.self.words.now) (a.self.kept - y)) (sym e) ∙ (sym c.misses.ensures ∙ c.if-misses.true)))

pub returns-else-misses : goal.returns-else-misses
returns-else-misses c =
    let a = c.args in
    sym
    (dropped-needs (table_of a.self.words.now) a.place a.self.kept (sym c.has.ensures ∙ c.if-has.true)
    (ap (λ (y : ℕ). conflicts (table_of a.self.words.now) (a.self.kept - y)) (sym (shifted_one 32 a.place c.requires)) ∙ (sym c.misses.ensures ∙ c.if-misses.false)))

pub returns-else-has : goal.returns-else-has
returns-else-has c = let a = c.args in sym (dropped-not (table_of a.self.words.now) a.place a.self.kept (sym c.has.ensures ∙ c.if-has.false))

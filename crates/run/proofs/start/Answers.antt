-- `run::start`: the table that is loaded and its first miss decide (`ByVerdict`).
use Rattle.std.proofs.Common.{◌∙◌, arith, sym, subst}
use Rattle.model.proofs.Exits.{err-as}
use Rattle.table.proofs.Contract.{load-ok}
use Rattle.table.proofs.Fit.{fit}
use Rattle.run.specs.Start.{StartOf, started}
use Rattle.run.proofs.ByVerdict.{start-met, start-missed, start-unloaded}
use Rattle.run.proofs.StartExact.{start-of}
use Rattle.run.proofs.start.Goals as goal

pub returns-in_err-table : goal.returns-in_err-table
returns-in_err-table c =
    let ws = c.args.words.now in
    let x = c.in_err-table.field-0.0 in
    let is = err-as c.from_residual.result x c.from_residual.ensures.1 in
    subst (λ r. StartOf ws (started r)) (sym is) (start-of ws _ (start-unloaded ws c.load.result c.load.ensures x c.in_err-table.was))

pub first_miss-requires : goal.first_miss-requires
first_miss-requires c =
    let loaded = load-ok c.args.words.now c.load.result c.load.ensures c.in_ok-table.table c.in_ok-table.was in
    (fit c.args.words.now c.in_ok-table.table loaded.0 loaded.1, omega arith)

pub returns-then-is_some : goal.returns-then-is_some
returns-then-is_some c =
    let ws = c.args.words.now in
    start-of ws _
    (start-missed ws c.load.result c.load.ensures c.in_ok-table.table c.in_ok-table.was c.first_miss.result c.first_miss.ensures
    (sym c.is_some.ensures ∙ c.if-is_some.true))

pub returns : goal.returns
returns c =
    let ws = c.args.words.now in
    start-of ws _
    (start-met ws c.load.result c.load.ensures c.in_ok-table.table c.in_ok-table.was c.first_miss.result c.first_miss.ensures
    (sym c.is_some.ensures ∙ c.if-is_some.false) c.begun.result c.begun.ensures)

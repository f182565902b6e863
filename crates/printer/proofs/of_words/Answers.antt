-- `printer::of_words` meets its contract: the verdict of the words determines what is printed of the table that was loaded.
use Rattle.std.proofs.Common.{subst}
use Prim.Native.Nat.{ℕ}
use Rattle.table.proofs.Contract.{load-err, load-ok}
use Rattle.table.specs.declared.Loaded.{Loaded}
use Rattle.printer.specs.Printer.{PrinterStartOf}
use Rattle.printer.proofs.Made.{load-small, passed-made, refused-made}
use Rattle.printer.proofs.of_words.Goals as goal

pub start-requires : goal.start-requires
start-requires c =
    let (h, none, e) = load-ok c.args.words.now c.load.result c.load.ensures c.in-Ok.table c.in-Ok.is in
    load-small c.args.words.now c.in-Ok.table h none

pub returns-in-Ok : goal.returns-in-Ok
returns-in-Ok c =
    let t = c.in-Ok.table in
    let (h, none, e) = load-ok c.args.words.now c.load.result c.load.ensures t c.in-Ok.is in
    let v = c.judge-verdict in
    passed-made c.args.words.now t v.result c.start.result h none v.ensures
    (subst (λ (e : ℕ). PrinterStartOf t e v.result c.start.result) c.rows_end-end.ensures c.start.ensures)

pub returns-in-Err : goal.returns-in-Err
returns-in-Err c =
    let (says, first) = load-err c.args.words.now c.load.result c.load.ensures _ c.in-Err.is in
    let v = c.judge-verdict in
    refused-made c.args.words.now _ _ says v.result c.start-in-Err.result v.ensures
    (subst (λ (t : Loaded). PrinterStartOf t 0 v.result c.start-in-Err.result) c.no_table.ensures c.start-in-Err.ensures)

-- `sentence::sentence`: the contract of `load` fits the sentence of a table, and a refusal of the table is the sentence's.
use Rattle.std.proofs.Common.{ap, sym, subst, refl}
use Rattle.model.proofs.Exits.{err-as}
use Rattle.table.proofs.Contract.{load-ok}
use Rattle.table.specs.Fitting.{loaded_in}
use Rattle.sentence.specs.SentenceAnswer.{SentenceOf, answered}
use Rattle.sentence.proofs.Contract.{short-table, passed-sentence, refused-sentence}
use Rattle.sentence.proofs.sentence.Goals as goal

pub returns-in_err-fitting : goal.returns-in_err-fitting
returns-in_err-fitting c =
    let is = err-as c.from_residual.result c.in_err-fitting.field-0.0 c.from_residual.ensures.1 in
    let x = c.args in
    subst (λ r. SentenceOf x.words.now x.buffer.now x.buffer.now (answered r)) (sym is)
    (refused-sentence x.words.now (loaded_in c.load.result) c.load.ensures x.buffer.now x.buffer.now c.in_err-fitting.field-0.0 (ap loaded_in c.in_err-fitting.was) refl)

pub by_table-requires : goal.by_table-requires
by_table-requires c =
    let t = c.in_ok-fitting.fitting.loaded in
    let (h, none, e) = load-ok c.args.words.now (loaded_in c.load.result) c.load.ensures t (ap loaded_in c.in_ok-fitting.was) in
    short-table c.args.words.now t h none

pub returns : goal.returns
returns c =
    let x = c.args in
    passed-sentence x.words.now (loaded_in c.load.result) c.load.ensures x.buffer.now _ c.in_ok-fitting.fitting.loaded (ap loaded_in c.in_ok-fitting.was) (answered c.by_table.result) c.by_table.ensures

-- `conflict::conflict`: what is made of the first miss of the table that was loaded is the answer.
use Rattle.std.proofs.Common.{ap, sym, subst, arith}
use Rattle.model.proofs.Exits.{err-as}
use Rattle.table.specs.Words.{table_of}
use Rattle.table.proofs.Contract.{load-ok}
use Rattle.table.proofs.Fit.{fit}
use Rattle.judge.specs.FirstMiss.{miss_of}
use Rattle.conflict.specs.Answer.{ConflictOf, answered, given_conflict, no_conflict}
use Rattle.conflict.specs.Conflict.{conflict_set}
use Rattle.conflict.proofs.Contract.{by-first-miss, refused_all, no-miss}
use Rattle.conflict.proofs.conflict.Goals as goal

pub returns-in_err-table : goal.returns-in_err-table
returns-in_err-table c =
    let is = err-as c.from_residual.result c.in_err-table.field-0.0 c.from_residual.ensures.1 in
    subst (λ r. ConflictOf c.args.words.now (answered r)) (sym is)
    (refused_all c.args.words.now c.load.result c.load.ensures c.in_err-table.field-0.0 c.in_err-table.was)

pub overflow_add-table : goal.overflow_add-table
overflow_add-table c =
    let (h, none, e) = load-ok c.args.words.now c.load.result c.load.ensures c.in_ok-table.table c.in_ok-table.was in
    omega (arith, (fit c.args.words.now c.in_ok-table.table h none).limit)

pub first_miss-requires : goal.first_miss-requires
first_miss-requires c =
    let (h, none, e) = load-ok c.args.words.now c.load.result c.load.ensures c.in_ok-table.table c.in_ok-table.was in
    (fit c.args.words.now c.in_ok-table.table h none, omega arith)

pub passes-requires-clause-passes : goal.passes-requires-clause-passes
passes-requires-clause-passes c =
    let (h, none, e) = load-ok c.args.words.now c.load.result c.load.ensures c.in_ok-table.table c.in_ok-table.was in
    none

pub passes-requires-clause-count : goal.passes-requires-clause-count
passes-requires-clause-count c =
    let (h, none, e) = load-ok c.args.words.now c.load.result c.load.ensures c.in_ok-table.table c.in_ok-table.was in
    h.count

pub overflow_cast-table : goal.overflow_cast-table
overflow_cast-table c =
    let (h, none, e) = load-ok c.args.words.now c.load.result c.load.ensures c.in_ok-table.table c.in_ok-table.was in
    omega (arith, h.count-from.1)

pub returns-in-None : goal.returns-in-None
returns-in-None c =
    let t = c.in_ok-table.table in
    by-first-miss c.args.words.now c.load.result c.load.ensures t c.in_ok-table.was (miss_of c.first_miss.result) c.first_miss.ensures.value
    (no_conflict 17 0)
    (rw c.in-None.is (sym (no-miss t (conflict_set (table_of c.args.words.now)))))

pub returns-in-Some : goal.returns-in-Some
returns-in-Some c =
    let t = c.in_ok-table.table in
    by-first-miss c.args.words.now c.load.result c.load.ensures t c.in_ok-table.was (miss_of c.first_miss.result) c.first_miss.ensures.value
    (given_conflict c.passes.result) (rw c.in-Some.is (ap given_conflict c.passes.ensures))

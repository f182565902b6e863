-- `judge::judge_by`: the contract of `load` fits the run, what is found up to the horizon decides, and a refusal is the verdict itself.
use Rattle.std.proofs.Common.{◌≡◌, ◌+◌, suc, sym, subst, arith, add-one}
use Rattle.table.specs.declared.Loaded.{Loaded}
use Rattle.table.specs.Fit.{loaded_table}
use Rattle.table.proofs.Contract.{load-ok}
use Rattle.table.proofs.Fit.{fit}
use Rattle.judge.specs.declared.Verdict.{Verdict}
use Rattle.judge.specs.declared.Verdict.TheVariants.{Refused}
use Rattle.judge.specs.Judged.{Judged, accepted_of}
use Rattle.judge.specs.FirstMiss.{Missed, miss_of, missed_before, by_miss}
use Rattle.judge.proofs.Contract.{run_value, refused-value}
use Rattle.judge.proofs.judge_by.Goals as goal

-- up to and including the horizon is before the tick after it
up_to : (t : Loaded) (m : Missed) (v : Verdict) → m ≡ missed_before (loaded_table t) (t.horizon + 1) → v ≡ by_miss m (accepted_of t)
    → v ≡ by_miss (missed_before (loaded_table t) (suc t.horizon)) (accepted_of t)
up_to t m v e f = rw (f, e, add-one)

pub overflow_add-table : goal.overflow_add-table
overflow_add-table g c =
    let (h, none, e) = load-ok c.args.words.now c.load.result c.load.ensures c.in-Ok.table c.in-Ok.is in
    omega (arith, (fit c.args.words.now c.in-Ok.table h none).limit)

pub first_miss-requires : goal.first_miss-requires
first_miss-requires g c =
    let (h, none, e) = load-ok c.args.words.now c.load.result c.load.ensures c.in-Ok.table c.in-Ok.is in
    (c.requires c.in-Ok.table (c.in-Ok.table.horizon + 1) (fit c.args.words.now c.in-Ok.table h none) (omega arith)).0

pub verdict_by-requires : goal.verdict_by-requires
verdict_by-requires g c =
    let (h, none, e) = load-ok c.args.words.now c.load.result c.load.ensures c.in-Ok.table c.in-Ok.is in
    (fit c.args.words.now c.in-Ok.table h none).few

pub returns-in-Ok : goal.returns-in-Ok
returns-in-Ok g c =
    let t = c.in-Ok.table in
    let (h, none, e) = load-ok c.args.words.now c.load.result c.load.ensures t c.in-Ok.is in
    let found = (c.requires t (t.horizon + 1) (fit c.args.words.now t h none) (omega arith)).1 c.first_miss.result c.first_miss.ensures in
    run_value c.args.words.now c.load.result c.load.ensures t c.in-Ok.is c.verdict_by.result
    (up_to t (miss_of c.first_miss.result) c.verdict_by.result found.value c.verdict_by.ensures)

pub returns : goal.returns
returns g c =
    subst (Judged c.args.words.now) (λ i. Refused (sym c.number.ensures i) (sym c.position.ensures i))
    (refused-value c.args.words.now c.load.result c.load.ensures c.in-Err.refusal c.in-Err.is)

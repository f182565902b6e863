-- `table::load`: its value is `load_of` of the words at each return, and the value determines the rest.
use Rattle.std.proofs.Common.{◌≡◌, ◌∙◌, ap, sym, List, ℕ, arith}
use Rattle.model.specs.Sizes.{most_cores}
use Rattle.table.specs.Words.{core_count, rule}
use Rattle.table.specs.Limits.{InRange, in_range}
use Rattle.table.specs.Task.{tasks_of}
use Rattle.model.specs.Refusal.{numbered}
use Rattle.model.proofs.Exits.{err-as}
use Rattle.table.specs.Answer.{answer_in, header_number, by_tasks}
use Rattle.table.specs.Load.{loaded_by, passing, code_tasks, table_with}
use Rattle.table.proofs.Decide.{stable}
use Rattle.table.proofs.Tests.{from-decides}
use Rattle.table.proofs.HeaderPasses.{header-passes, words_long}
use Rattle.table.proofs.Loads.{walked-tasks, load-whole, header-passed, chain-whole, header-refused, chain-refused}
use Rattle.table.proofs.Passed.{whole-count}
use Rattle.table.proofs.Contract.{contract-of}
use Rattle.table.proofs.load.Goals as goal

pub returns-in_err-check : goal.returns-in_err-check
returns-in_err-check c =
    let is = err-as c.from_residual.result c.in_err-check.field-0.0 c.from_residual.ensures.1 in
    contract-of c.args.words.now c.from_residual.result (ap numbered is ∙ header-refused c.args.words.now c.in_err-check.field-0.0 (c.in_err-check.ensures))

pub returns-in_err-chain : goal.returns-in_err-chain
returns-in_err-chain c =
    let is = err-as c.from_residual-in_err-chain.result c.in_err-chain.field-0.0 c.from_residual-in_err-chain.ensures.1 in
    let fine = header-passed c.args.words.now (ap answer_in (sym c.in_ok-check.was) ∙ c.check.ensures) in
    let walked = c.in_err-chain.ensures in
    contract-of c.args.words.now c.from_residual-in_err-chain.result (ap numbered is ∙ chain-refused c.args.words.now c.in_err-chain.field-0.0 fine walked.answer)

pub bounds-words-1 : goal.bounds-words-1
bounds-words-1 c =
    let fine = header-passed c.args.words.now (ap answer_in (sym c.in_ok-check.was) ∙ c.check.ensures) in
    omega (arith, words_long c.args.words.now (header-passes c.args.words.now fine).words-in)

pub fence_in-requires : goal.fence_in-requires
fence_in-requires c =
    let fine = header-passed c.args.words.now (ap answer_in (sym c.in_ok-check.was) ∙ c.check.ensures) in
    words_long c.args.words.now (header-passes c.args.words.now fine).words-in

pub bounds-words-2 : goal.bounds-words-2
bounds-words-2 c =
    let fine = header-passed c.args.words.now (ap answer_in (sym c.in_ok-check.was) ∙ c.check.ensures) in
    omega (arith, words_long c.args.words.now (header-passes c.args.words.now fine).words-in)

-- what `by_tasks` asks
narrow : (ws : List ℕ) → header_number ws ≡ 0 → InRange 1 most_cores (core_count ws)
narrow ws fine = stable (in_range 1 most_cores (core_count ws)) (InRange 1 most_cores (core_count ws)) (from-decides 1 most_cores (core_count ws)) (header-passes ws fine).cores-in

pub by_tasks-requires-clause-cores : goal.by_tasks-requires-clause-cores
by_tasks-requires-clause-cores c =
    let fine = header-passed c.args.words.now (ap answer_in (sym c.in_ok-check.was) ∙ c.check.ensures) in
    (narrow c.args.words.now fine).1

pub by_tasks-requires-clause-some : goal.by_tasks-requires-clause-some
by_tasks-requires-clause-some c =
    let fine = header-passed c.args.words.now (ap answer_in (sym c.in_ok-check.was) ∙ c.check.ensures) in
    let walked = c.in_ok-chain.ensures in
    let many = whole-count c.args.words.now fine (chain-whole _ walked.answer) in
    omega (arith, many.0, walked.holds.0)

pub by_tasks-requires-clause-few : goal.by_tasks-requires-clause-few
by_tasks-requires-clause-few c =
    let fine = header-passed c.args.words.now (ap answer_in (sym c.in_ok-check.was) ∙ c.check.ensures) in
    let walked = c.in_ok-chain.ensures in
    let many = whole-count c.args.words.now fine (chain-whole _ walked.answer) in
    omega (arith, many.1, walked.holds.0)

pub by_tasks-requires-clause-tasks : goal.by_tasks-requires-clause-tasks
by_tasks-requires-clause-tasks c =
    let walked = c.in_ok-chain.ensures in
    walked.holds.1 ∙ ap code_tasks (sym (walked-tasks c.args.words.now c.in_ok-chain.chain.tasks c.in_ok-chain.chain.count walked.holds.1 walked.holds.0))

pub returns : goal.returns
returns c =
    let ws = c.args.words.now in
    let fine = header-passed ws (ap answer_in (sym c.in_ok-check.was) ∙ c.check.ensures) in
    let walked = c.in_ok-chain.ensures in
    let tasks = c.in_ok-chain.chain.tasks in
    let count = c.in_ok-chain.chain.count in
    contract-of ws c.by_tasks.result
    (c.by_tasks.ensures
    ∙ ap (λ (f : ℕ). loaded_by (by_tasks (table_with (core_count ws) f (rule ws) (tasks_of tasks count)))
    (passing (rule ws) (table_with (core_count ws) f (rule ws) (tasks_of tasks count)))) c.fence_in.ensures
    ∙ load-whole ws fine (chain-whole _ walked.answer) tasks count walked.holds.1 walked.holds.0)

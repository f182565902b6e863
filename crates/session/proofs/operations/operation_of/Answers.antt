-- `session::operations::operation_of`: the letter decides, and what is after it (Asking).
use Rattle.std.proofs.Common.{◌∙◌, ap, arith, option_map}
use Rattle.session.specs.declared.operations.Operation.TheVariants.{Withdraw, WithdrawAll, Row, Sets, Working}
use Rattle.session.specs.Operation.{operation_with}
use Rattle.session.proofs.Asking.{with-number, with-row, with-sets, with-working, with-withdraw, with-withdraw-all, by-advance, by_row, by-sets, by-working, by-withdraw, by-withdraw-all, by-none, asked-empty, asked_first, asked_numbers}
use Rattle.session.proofs.operations.operation_of.Goals as goal

pub returns-in_err-letter : goal.returns-in_err-letter
returns-in_err-letter c = c.from_residual.ensures ∙ asked-empty c.args.line.now c.in_err-letter.ensures.cases

pub returns-in_err-numbers : goal.returns-in_err-numbers
returns-in_err-numbers c =
    let s = c.in_ok-letter in
    c.from_residual-in_err-numbers.ensures ∙ ap (operation_with s.letter.now) c.in_err-numbers.ensures
    ∙ asked_first c.args.line.now s.letter.now s.rest.now s.ensures.cases.0

pub returns-in-97 : goal.returns-in-97
returns-in-97 c =
    let s = c.in_ok-letter in
    c.advance_by.ensures ∙ by-advance s.letter.now _ c.in-97.is ∙ asked_numbers c.args.line.now s.letter.now s.rest.now _ s.ensures.cases.0 c.in_ok-numbers.ensures

pub returns-in-114 : goal.returns-in-114
returns-in-114 c =
    let s = c.in_ok-letter in
    with-number Row c.empties.result c.map.result c.map.ensures.cases (λ x y q. q) ∙ ap (option_map Row) c.empties.ensures ∙ with-row c.in_ok-numbers.numbers
    ∙ by_row s.letter.now _ c.in-114.is ∙ asked_numbers c.args.line.now s.letter.now s.rest.now _ s.ensures.cases.0 c.in_ok-numbers.ensures

pub returns-in-119 : goal.returns-in-119
returns-in-119 c =
    let s = c.in_ok-letter in
    with-number Withdraw c.one.result c.map-in-119.result c.map-in-119.ensures.cases (λ x y q. q) ∙ ap (option_map Withdraw) c.one.ensures ∙ with-withdraw c.in_ok-numbers.numbers
    ∙ by-withdraw s.letter.now _ c.in-119.is ∙ asked_numbers c.args.line.now s.letter.now s.rest.now _ s.ensures.cases.0 c.in_ok-numbers.ensures

pub returns-in-87 : goal.returns-in-87
returns-in-87 c =
    let s = c.in_ok-letter in
    with-number WithdrawAll c.one-in-87.result c.map-in-87.result c.map-in-87.ensures.cases (λ x y q. q) ∙ ap (option_map WithdrawAll) c.one-in-87.ensures ∙ with-withdraw-all c.in_ok-numbers.numbers
    ∙ by-withdraw-all s.letter.now _ c.in-87.is ∙ asked_numbers c.args.line.now s.letter.now s.rest.now _ s.ensures.cases.0 c.in_ok-numbers.ensures

pub returns-in-115 : goal.returns-in-115
returns-in-115 c =
    let s = c.in_ok-letter in
    with-number Sets c.empties-in-115.result c.map-in-115.result c.map-in-115.ensures.cases (λ x y q. q) ∙ ap (option_map Sets) c.empties-in-115.ensures ∙ with-sets c.in_ok-numbers.numbers
    ∙ by-sets s.letter.now _ c.in-115.is ∙ asked_numbers c.args.line.now s.letter.now s.rest.now _ s.ensures.cases.0 c.in_ok-numbers.ensures

pub returns-in-106 : goal.returns-in-106
returns-in-106 c =
    let s = c.in_ok-letter in
    with-number Working c.empties-in-106.result c.map-in-106.result c.map-in-106.ensures.cases (λ x y q. q) ∙ ap (option_map Working) c.empties-in-106.ensures ∙ with-working c.in_ok-numbers.numbers
    ∙ by-working s.letter.now _ c.in-106.is ∙ asked_numbers c.args.line.now s.letter.now s.rest.now _ s.ensures.cases.0 c.in_ok-numbers.ensures

pub returns-in_default : goal.returns-in_default
returns-in_default c =
    let s = c.in_ok-letter in
    by-none s.letter.now c.in_ok-numbers.numbers (λ e. omega arith) (λ e. omega arith) (λ e. omega arith) (λ e. omega arith) (λ e. omega arith) (λ e. omega arith)
    ∙ asked_numbers c.args.line.now s.letter.now s.rest.now _ s.ensures.cases.0 c.in_ok-numbers.ensures

-- `slack::slack`: what is made of the table that was loaded is the answer.
use Rattle.std.proofs.Common.{Bool, ◌∙◌, ap, sym, subst}
use Rattle.model.proofs.Exits.{err-as}
use Rattle.table.specs.Fit.{loaded_table}
use Rattle.table.specs.Fitting.{loaded_in}
use Rattle.slack.specs.Answer.{SlackOf, answered, given_slack, no_slack, slack_in, slack_answer}
use Rattle.slack.proofs.Contract.{loaded-promise, refused_all}
use Rattle.slack.proofs.slack.Goals as goal

pub returns-in_err-table : goal.returns-in_err-table
returns-in_err-table c =
    let is = err-as c.from_residual.result c.in_err-table.field-0.0 c.from_residual.ensures.1 in
    subst (λ r. SlackOf c.args.words.now (answered r)) (sym is)
    (refused_all c.args.words.now (loaded_in c.load.result) c.load.ensures c.in_err-table.field-0.0 (ap loaded_in c.in_err-table.was))

pub figures-requires : goal.figures-requires
figures-requires c = sym c.is_given.ensures ∙ c.if-is_given.true

pub returns-then-is_given : goal.returns-then-is_given
returns-then-is_given c =
    let s = loaded_table c.in_ok-table.table.loaded in
    loaded-promise c.args.words.now (loaded_in c.load.result) c.load.ensures c.in_ok-table.table.loaded (ap loaded_in c.in_ok-table.was) (given_slack c.figures.result)
    (ap given_slack c.figures.ensures ∙ ap (λ (b : Bool). slack_answer b (slack_in s)) (sym c.if-is_given.true ∙ c.is_given.ensures))

pub returns-else-is_given : goal.returns-else-is_given
returns-else-is_given c =
    let s = loaded_table c.in_ok-table.table.loaded in
    loaded-promise c.args.words.now (loaded_in c.load.result) c.load.ensures c.in_ok-table.table.loaded (ap loaded_in c.in_ok-table.was) (no_slack 23 0)
    (ap (λ (b : Bool). slack_answer b (slack_in s)) (sym c.if-is_given.false ∙ c.is_given.ensures))

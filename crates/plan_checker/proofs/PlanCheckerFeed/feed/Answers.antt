-- The answer is known and printed.
use Rattle.std.proofs.Common.{sym, subst, ◌∙◌}
use Rattle.stream.specs.Sent.{SentOf, sent_of}
use Rattle.plan_text.specs.Printed.{plan_answer_line}
use Rattle.plan_checker.proofs.Rounds.{round-over}
use Rattle.plan_checker.proofs.PlanCheckerFeed.feed.Goals as goal

pub returns-then-is_over-clause-holds : goal.returns-then-is_over-clause-holds
returns-then-is_over-clause-holds g c =
    round-over _ _ c.args.ended c.args.bytes.now c.feed-fed.result.taken c.feed-fed.ensures c.print.result (sym c.is_over.ensures ∙ c.if-is_over.true)
    (subst (λ a. SentOf 0 (plan_answer_line a) (sent_of c.print.result)) c.answer.ensures c.print.ensures)

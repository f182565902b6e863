-- A table that passes is searched, a refusal is the answer.
use Rattle.std.proofs.Common.{Result, Ok, Err, ◌≡◌}
use Rattle.std.specs.Result.{IsErrAnd}
use Rattle.model.specs.declared.refusal.Refusal.{Refusal}
use Rattle.model.specs.Refusal.{number_of, position_of}
use Rattle.priority_order.specs.declared.Assignment.{Assignment}
use Rattle.priority_order.specs.declared.NoOrder.{NoOrder}
use Rattle.priority_order.specs.declared.NoOrder.TheVariants as none
use Rattle.table.proofs.Contract.{load-err, load-ok}
use Rattle.priority_order.specs.Answer.{answered, no_order}
use Rattle.priority_order.specs.Answer.{Refused}
use Rattle.priority_order.proofs.Contract.{passed-order, refused-order}
use Rattle.priority_order.proofs.order.Goals as goal

pub search-requires : goal.search-requires
search-requires c =
    let (h, none, e) = load-ok c.args.words.now c.load.result c.load.ensures c.in_ok-table.table c.in_ok-table.was in
    (none, h)

pub returns : goal.returns
returns c =
    let (h, none, e) = load-ok c.args.words.now c.load.result c.load.ensures c.in_ok-table.table c.in_ok-table.was in
    passed-order c.args.words.now none c.args.judgings _ c.search.ensures

-- the answer of an error by a refusal
refused-is : (r : Result Assignment NoOrder) (e : Refusal) → IsErrAnd r (λ x. x ≡ none.Refused e) → answered r ≡ no_order (Refused (number_of e) (position_of e))
refused-is (Ok x) e h = absurd h
refused-is (Err x) e h = rw h

pub returns-in_err-table : goal.returns-in_err-table
returns-in_err-table c =
    let refusal = c.in_err-table.field-0.0 in
    let (says, first) = load-err c.args.words.now c.load.result c.load.ensures refusal c.in_err-table.was in
    refused-order c.args.words.now c.args.judgings _ _ first _ (refused-is c.from_residual.result refusal c.from_residual.ensures.1)

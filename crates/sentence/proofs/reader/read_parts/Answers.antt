use Rattle.std.proofs.Common.{ap, sym, ◌∙◌}
use Rattle.sentence.specs.Parsed.{same}
use Rattle.sentence.proofs.Reading.{same-pointwise}
use Rattle.sentence.proofs.Parting.{read-start, read_more, read-wrong, parts-end, parts-none}
use Rattle.sentence.proofs.reader.read_parts.Goals as goal

pub loop-part-init : goal.loop-part-init
loop-part-init c = read-start c.args.parts.now c.args.position

pub returns-then-not-may_follow : goal.returns-then-not-may_follow
returns-then-not-may_follow c =
    let l = c.loop-part in
    read-wrong c.args.parts.now c.args.position l.ran l.last l.text.now c.in-Some.part c.in-Some.rest l.invariant c.requires c.in-Some.ensures
    (sym c.may_follow.ensures ∙ c.if-not-may_follow.true)

pub loop-part-preserved : goal.loop-part-preserved
loop-part-preserved c =
    let l = c.loop-part in
    read_more c.args.parts.now c.args.position l.ran l.last l.text.now c.in-Some.part c.in-Some.rest l.invariant c.requires c.in-Some.ensures
    (sym c.may_follow.ensures ∙ c.if-not-may_follow.false)

pub returns-then-eq : goal.returns-then-eq
returns-then-eq c =
    let l = c.loop-part in
    parts-end c.args.parts.now c.args.position l.ran l.last l.text.now l.invariant c.requires (sym (c.eq.ensures ∙ same-pointwise _ _ ∙ ap (same l.text.now) c.as_slice.ensures) ∙ c.if-eq.true)

pub returns-else-eq : goal.returns-else-eq
returns-else-eq c =
    let l = c.loop-part in
    parts-none c.args.parts.now c.args.position l.ran l.last l.text.now l.invariant c.requires c.in_default.ensures
    (sym (c.eq.ensures ∙ same-pointwise _ _ ∙ ap (same l.text.now) c.as_slice.ensures) ∙ c.if-eq.false)

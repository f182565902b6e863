-- `table::header::check`: each return rewrites with the tests that led there.
use Rattle.std.proofs.Common.{◌∙◌, ap, sym}
use borrow.Author.Tests.{lt-ltb, le-ltb, eq-eqb, ne_eqb}
use Rattle.table.specs.Words.{core_count}
use Rattle.table.specs.Limits.{fence_out}
use Rattle.table.specs.Answer.{header_number}
use Rattle.table.proofs.header.check.Goals as goal

pub returns-then-words-lt-HEADER : goal.returns-then-words-lt-HEADER
unfolding header_number
returns-then-words-lt-HEADER c = simp (lt-ltb _ _ c.if-words-lt-HEADER.true)

pub returns-then-rest-ne0 : goal.returns-then-rest-ne0
unfolding header_number
returns-then-rest-ne0 c = simp (le-ltb _ _ c.if-words-lt-HEADER.false, ne_eqb _ _ c.if-rest-ne0.true)

pub returns-then-rest-gt-MOST_TASKS : goal.returns-then-rest-gt-MOST_TASKS
unfolding header_number
returns-then-rest-gt-MOST_TASKS c = simp (le-ltb _ _ c.if-words-lt-HEADER.false, eq-eqb _ _ c.if-rest-ne0.false, lt-ltb _ _ c.if-rest-gt-MOST_TASKS.true)

pub returns-then-cores_out : goal.returns-then-cores_out
unfolding header_number
returns-then-cores_out c =
    simp (
      le-ltb _ _ c.if-words-lt-HEADER.false,
      eq-eqb _ _ c.if-rest-ne0.false,
      le-ltb _ _ c.if-rest-gt-MOST_TASKS.false,
      sym c.cores_out.ensures ∙ c.if-cores_out.true,
    )

pub returns-then-rule_out : goal.returns-then-rule_out
unfolding header_number
returns-then-rule_out c =
    simp (
      le-ltb _ _ c.if-words-lt-HEADER.false,
      eq-eqb _ _ c.if-rest-ne0.false,
      le-ltb _ _ c.if-rest-gt-MOST_TASKS.false,
      sym c.cores_out.ensures ∙ c.if-cores_out.false,
      sym c.rule_out.ensures ∙ c.if-rule_out.true,
    )

pub returns-then-fence_out : goal.returns-then-fence_out
unfolding header_number
returns-then-fence_out c =
    let fenced = c.fence_out.ensures ∙ ap (fence_out (core_count c.args.words.now)) c.fence_in.ensures in
    simp (
      le-ltb _ _ c.if-words-lt-HEADER.false,
      eq-eqb _ _ c.if-rest-ne0.false,
      le-ltb _ _ c.if-rest-gt-MOST_TASKS.false,
      sym c.cores_out.ensures ∙ c.if-cores_out.false,
      sym c.rule_out.ensures ∙ c.if-rule_out.false,
      sym fenced ∙ c.if-fence_out.true,
    )

pub returns-then-words-eq0 : goal.returns-then-words-eq0
unfolding header_number
returns-then-words-eq0 c =
    let fenced = c.fence_out.ensures ∙ ap (fence_out (core_count c.args.words.now)) c.fence_in.ensures in
    simp (
      le-ltb _ _ c.if-words-lt-HEADER.false,
      eq-eqb _ _ c.if-rest-ne0.false,
      le-ltb _ _ c.if-rest-gt-MOST_TASKS.false,
      sym c.cores_out.ensures ∙ c.if-cores_out.false,
      sym c.rule_out.ensures ∙ c.if-rule_out.false,
      sym fenced ∙ c.if-fence_out.false,
      eq-eqb _ _ c.if-words-eq0.true,
    )

pub returns : goal.returns
unfolding header_number
returns c =
    let fenced = c.fence_out.ensures ∙ ap (fence_out (core_count c.args.words.now)) c.fence_in.ensures in
    simp (
      le-ltb _ _ c.if-words-lt-HEADER.false,
      eq-eqb _ _ c.if-rest-ne0.false,
      le-ltb _ _ c.if-rest-gt-MOST_TASKS.false,
      sym c.cores_out.ensures ∙ c.if-cores_out.false,
      sym c.rule_out.ensures ∙ c.if-rule_out.false,
      sym fenced ∙ c.if-fence_out.false,
      ne_eqb _ _ c.if-words-eq0.false,
    )

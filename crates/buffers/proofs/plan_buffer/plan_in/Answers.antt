-- `buffers::plan_buffer::plan_in`: a buffer that is too short holds no plan; else its run decides, and the run, the tick and the notes are read where the
-- plan has them.
use Rattle.std.proofs.Common.{◌≡◌, ◌∙◌, Some, None, ap, sym, rules}
use Rattle.buffers.proofs.Reading.{run-held, run-free}
use Rattle.buffers.proofs.Supplying.{plan-short, plan-by-run, plan-none, plan-some, plan-read}
use Rattle.buffers.proofs.plan_buffer.plan_in.Goals as goal

pub returns-then-words-lt-WORDS : goal.returns-then-words-lt-WORDS
returns-then-words-lt-WORDS c = plan-none c.args.words.now (plan-short c.args.words.now c.if-words-lt-WORDS.true)

pub returns-in_err-run : goal.returns-in_err-run
returns-in_err-run c =
    let ws = c.args.words.now in
    let is : c.from_residual.result ≡ None = search rules in
    is ∙ plan-none ws (plan-by-run ws c.if-words-lt-WORDS.false ∙ run-free ws (sym c.in_err-run.was ∙ c.run_in.ensures))

pub returns : goal.returns
returns c =
    let ws = c.args.words.now in
    let (h, same) = run-held ws c.in_ok-run.run' (sym c.in_ok-run.was ∙ c.run_in.ensures) in
    ap Some (plan-read ws same c.notes_in.ensures) ∙ plan-some ws (plan-by-run ws c.if-words-lt-WORDS.false ∙ h)

-- `capi::verdicts::sivorandra_judge`: the verdict is the judge's, and its three words are written where there is space.
use Rattle.std.proofs.Common.{rules}
use Rattle.capi.specs.Calls.{judge_call}
use Rattle.capi.proofs.Calls.{answering}
use Rattle.capi.proofs.verdicts.sivorandra_judge.Goals as goal

pub returns : goal.returns
unfolding judge_call
returns c = answering c.args.answer.now c.answered.ensures.fits c.answered.ensures.short _ (λ w gave. search rules)

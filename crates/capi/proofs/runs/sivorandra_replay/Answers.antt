-- `capi::runs::sivorandra_replay`: numbers, row and answer are the replay's, and its three words are written where there is space.
use Rattle.std.proofs.Common.{sym, ◌∙◌}
use Rattle.refinement.specs.Replayed.{replayed_in}
use Rattle.buffers.specs.AnswerWords.{fitted, of_replayed}
use Rattle.capi.proofs.Replaying.{by-some, by-none, replay-narrow, replay-unfit, replay-room}
use Rattle.capi.proofs.Calls.{words_of}
use Rattle.capi.proofs.runs.sivorandra_replay.Goals as goal

pub returns-in-Some : goal.returns-in-Some
returns-in-Some c =
    let a = c.args in
    let v = replayed_in c.replay-replayed.result in
    let given = by-some (fitted v) (of_replayed v) c.in-Some.encoded (sym c.of_replayed.ensures ∙ c.in-Some.is) in
    replay-room a.words.now a.entries.now a.numbers.now a.row.now a.answer.now _ c.replay-replayed.ensures given.0
    (sym c.fit.ensures ∙ c.if-fit.true) (words_of a.answer.now c.put.ensures given.1)

pub returns-in_default : goal.returns-in_default
returns-in_default c =
    let a = c.args in
    let v = replayed_in c.replay-replayed.result in
    replay-unfit a.words.now a.entries.now a.numbers.now a.row.now a.answer.now _ c.replay-replayed.ensures
    (by-none (fitted v) (of_replayed v) (sym c.of_replayed.ensures ∙ c.in_default.is))

pub returns-else-fit : goal.returns-else-fit
returns-else-fit c =
    let a = c.args in
    replay-narrow a.words.now a.entries.now a.numbers.now a.row.now a.answer.now (sym c.fit.ensures ∙ c.if-fit.false)

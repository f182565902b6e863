-- `run::Run::sets`: the sets are those of the tick, and so the definition's (`sets_of`).
use Rattle.std.proofs.Common.{◌∙◌, List, ℕ, Ok, ap, subst, sym}
use Rattle.model.specs.Refusal.{number_of, position_of}
use Rattle.model.proofs.Exits.{err-as}
use Rattle.run.specs.Sets.{SetsOf, sets_asked}
use Rattle.run.proofs.Cases.{sets-refused, sets-taken}
use Rattle.run.proofs.RunSets.{sets_of_lem}
use Rattle.run.proofs.TickRead.{tick-holds, tick-refused, tick-taken}
use Rattle.run.proofs.Run.sets.Goals as goal

pub returns-in_err-tick : goal.returns-in_err-tick
returns-in_err-tick c =
    let a = c.args in
    let x = c.in_err-tick.field-0.0 in
    let is = err-as c.from_residual.result x c.from_residual.ensures.1 in
    subst (λ w. SetsOf a.self a.empties (sets_asked w)) (sym is)
    (sets_of_lem a.self a.empties _
    (sym (sets-refused a.self a.empties (number_of x) (position_of x) (tick-refused a.self a.empties c.tick.result c.tick.ensures x c.in_err-tick.was))))

pub returns : goal.returns
returns c =
    let a = c.args in
    let t = c.in_ok-tick.tick in
    let holds = tick-holds a.self a.empties c.tick.result c.tick.ensures t c.in_ok-tick.was in
    sets_of_lem a.self a.empties (sets_asked (Ok t.sets))
    (ap (λ (s : List ℕ). sets_asked (Ok s)) holds.shows
    ∙ sym (sets-taken a.self a.empties (tick-taken a.self a.empties c.tick.result c.tick.ensures t c.in_ok-tick.was)))

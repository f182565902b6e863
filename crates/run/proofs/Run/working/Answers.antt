-- `run::Run::working`: the set is that of the tick, and so the definition's (`working_of`).
use Rattle.std.proofs.Common.{◌∙◌, ℕ, Ok, ap, subst, sym}
use Rattle.model.specs.Refusal.{number_of, position_of}
use Rattle.model.proofs.Exits.{err-as}
use Rattle.run.specs.Working.{WorkingOf, working_asked}
use Rattle.run.proofs.Cases.{working-refused, working-taken}
use Rattle.run.proofs.TickRead.{tick-holds, tick-refused, tick-taken}
use Rattle.run.proofs.Working.{working-of}
use Rattle.run.proofs.Run.working.Goals as goal

pub returns-in_err-tick : goal.returns-in_err-tick
returns-in_err-tick c =
    let a = c.args in
    let x = c.in_err-tick.field-0.0 in
    let is = err-as c.from_residual.result x c.from_residual.ensures.1 in
    subst (λ w. WorkingOf a.self a.empties (working_asked w)) (sym is)
    (working-of a.self a.empties _
    (sym (working-refused a.self a.empties (number_of x) (position_of x) (tick-refused a.self a.empties c.tick.result c.tick.ensures x c.in_err-tick.was))))

pub returns : goal.returns
returns c =
    let a = c.args in
    let t = c.in_ok-tick.tick in
    let holds = tick-holds a.self a.empties c.tick.result c.tick.ensures t c.in_ok-tick.was in
    working-of a.self a.empties _
    (ap (λ (s : ℕ). working_asked (Ok s)) holds.works
    ∙ sym (working-taken a.self a.empties (tick-taken a.self a.empties c.tick.result c.tick.ensures t c.in_ok-tick.was)))

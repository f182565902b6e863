-- `run::Run::row`: a row can show the tick's sets (`run-showable`), and their bytes are the row's.
use Rattle.std.proofs.Common.{◌≡◌, ◌∙◌, ◌++◌, ◌-◌, List, ℕ, Ok, ap, arith, length, map, replicate, subst, sym, take}
use Rattle.std.proofs.Math.Seq.{length-take-le}
use Rattle.model.specs.Refusal.{number_of, position_of}
use Rattle.model.specs.Row.{row}
use Rattle.model.specs.Sizes.{most_cores, most_tasks}
use Rattle.model.proofs.Exits.{err-as}
use Rattle.model.proofs.Rows.{row-length}
use Rattle.cores.specs.Cores.{cores}
use Rattle.rule.specs.Lent.{Showable}
use Rattle.run.specs.declared.Run.{Run}
use Rattle.run.specs.declared.tick.Tick.{Tick}
use Rattle.run.specs.Answer.{Taken}
use Rattle.run.specs.Row.{RowOf, bytes_in, row_answer, row_asked}
use Rattle.run.specs.Run.{shown_in}
use Rattle.run.specs.Tick.{Ticks}
use Rattle.run.proofs.Cases.{row-passes, row-refused, row-shown, sets-by}
use Rattle.run.proofs.Exact.{row-of}
use Rattle.run.proofs.RunOut.{few, few-cores}
use Rattle.run.proofs.RunSets.{front-in, run-showable}
use Rattle.run.proofs.TickRead.{tick-holds, tick-refused, tick-taken}
use borrow.Author.Rules.{rules}
use Rattle.run.proofs.Run.row.Goals as goal

-- the cores of the first sets are those that the tick shows
listed : (r : Run) (e : ℕ) (t : Tick) → length r.tasks ≡ most_tasks → row_answer r e ≡ Taken → Ticks r e t → map cores (take r.count t.sets) ≡ shown_in r e
listed r e t len taken holds =
    ap (λ (sets : List ℕ). map cores (take r.count sets)) (holds.shows ∙ sets-by r e taken)
    ∙ front-in r e (few-cores r (row-passes r e taken)) len (few r (row-passes r e taken))

pub returns-in_err-tick : goal.returns-in_err-tick
returns-in_err-tick c =
    let a = c.args in
    let x = c.in_err-tick.field-0.0 in
    let is = err-as c.from_residual.result x c.from_residual.ensures.1 in
    subst (λ w. RowOf a.self a.empties (row_asked w)) (sym is)
    (row-of a.self a.empties _
    (sym (row-refused a.self a.empties (number_of x) (position_of x) (tick-refused a.self a.empties c.tick.result c.tick.ensures x c.in_err-tick.was))))

pub row_in-requires-clause-fact_1 : goal.row_in-requires-clause-fact_1
row_in-requires-clause-fact_1 c =
    let a = c.args in
    let passes = row-passes a.self a.empties (tick-taken a.self a.empties c.tick.result c.tick.ensures c.in_ok-tick.tick c.in_ok-tick.was) in
    let most = few a.self passes in
    let here : length (take a.self.count c.in_ok-tick.tick.sets) ≡ a.self.count = length-take-le a.self.count c.in_ok-tick.tick.sets (omega arith) in
    (few-cores a.self passes, omega arith)

pub shared_ref_as_front-row_in : goal.shared_ref_as_front-row_in
shared_ref_as_front-row_in c =
    let a = c.args in
    omega (arith, few a.self (row-passes a.self a.empties (tick-taken a.self a.empties c.tick.result c.tick.ensures c.in_ok-tick.tick c.in_ok-tick.was)))

pub row_in-requires-clause-fact_2 : goal.row_in-requires-clause-fact_2
row_in-requires-clause-fact_2 c =
    let a = c.args in
    let t = c.in_ok-tick.tick in
    let len : length a.self.tasks ≡ most_tasks = search rules in
    let taken = tick-taken a.self a.empties c.tick.result c.tick.ensures t c.in_ok-tick.was in
    let holds = tick-holds a.self a.empties c.tick.result c.tick.ensures t c.in_ok-tick.was in
    subst (Showable a.self.fence a.self.cores) (sym (listed a.self a.empties t len taken holds)) (run-showable a.self a.empties)

pub returns : goal.returns
unfolding bytes_in
returns c =
    let a = c.args in
    let r = a.self in
    let t = c.in_ok-tick.tick in
    let len : length r.tasks ≡ most_tasks = search rules in
    let taken = tick-taken r a.empties c.tick.result c.tick.ensures t c.in_ok-tick.was in
    let holds = tick-holds r a.empties c.tick.result c.tick.ensures t c.in_ok-tick.was in
    let bytes = row r.fence r.cores (shown_in r a.empties) in
    row-of r a.empties (row_asked (Ok c.row_in.result))
    (ap (λ (s : List ℕ). row_asked (Ok s))
    (c.row_in.ensures
    ∙ (ap (λ (gs : List (List ℕ)). row r.fence r.cores gs ++ replicate (most_cores - r.cores) 0) (listed r a.empties t len taken holds)
    ∙ ap (λ (n : ℕ). bytes ++ replicate (most_cores - n) 0) (sym (row-length r.fence r.cores (shown_in r a.empties)))))
    ∙ sym (row-shown r a.empties taken))

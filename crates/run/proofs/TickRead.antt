-- What a caller of the present tick finds: a row that is taken and what the tick holds, or the row's refusal.
use mathlib.Core.Path.{◌≡◌, sym, ap, ◌∙◌}
use Prim.Native.Nat.{ℕ}
use Rattle.std.specs.Prelude.{Result, Ok, Err}
use Rattle.std.proofs.lemmas.Result.{IfOk-at_ok}
use Rattle.model.specs.declared.refusal.Refusal.{Refusal}
use Rattle.model.specs.Refusal.{number_of, position_of}
use Rattle.run.specs.declared.Run.{Run}
use Rattle.run.specs.declared.tick.Tick.{Tick}
use Rattle.run.specs.Answer.{Taken, Refused, answer_in}
use Rattle.run.specs.Row.{row_answer}
use Rattle.run.specs.Tick.{Ticks, TickOf}
use Rattle.run.proofs.Cases.{sets-answer}

module _ (r : Run) (e : ℕ) (tick : Result Tick Refusal) (h : TickOf r e tick) where
  pub tick-taken : (t : Tick) → tick ≡ Ok t → row_answer r e ≡ Taken
  tick-taken t q = sym (sets-answer r e) ∙ (sym h.answered ∙ ap answer_in q)

  pub tick-holds : (t : Tick) → tick ≡ Ok t → Ticks r e t
  tick-holds t q = IfOk-at_ok (Ticks r e) q h.holds

  pub tick-refused : (x : Refusal) → tick ≡ Err x → row_answer r e ≡ Refused (number_of x) (position_of x)
  tick-refused x q = sym (sets-answer r e) ∙ (sym h.answered ∙ ap answer_in q)

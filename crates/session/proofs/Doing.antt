-- An operation that is done, and one that is refused: the line that is its reply, and the run after it.
use mathlib.Core.List.{List, [], ◌∷◌}
use mathlib.Core.Path.{◌≡◌, refl, sym, ap, ◌∙◌, subst⁻¹}
use Prim.Native.Nat.{ℕ, zero, suc, ◌^◌, ◌<◌}
use native.Mathlib.Omega.{arith}
use lib.ListN.{take, get_or, length}
use Rattle.std.proofs.Common.{Result, Ok, Err, Some, IfErr}
use Rattle.std.specs.Result.{IsErrAnd}
use Rattle.model.specs.declared.refusal.Refusal.{Refusal}
use Rattle.model.proofs.Exits.{err-as}
use Rattle.text.specs.Output.{letters, line_of}
use Rattle.run.specs.declared.Run.{Run}
use Rattle.run.specs.Advance.{Advanced, advanced, advance_of}
use Rattle.run.specs.Withdraw.{withdraw_of, withdraw_all_of}
use Rattle.run.specs.Answer.{Row}
use Rattle.run.specs.Row.{row_asked, row_of}
use Rattle.run.specs.Sets.{Sets, sets_asked, sets_of}
use Rattle.run.specs.Working.{WorkingPositions, working_asked, working_of}
use Rattle.session.specs.declared.operations.Operation.{Operation}
use Rattle.session.specs.declared.operations.Operation.TheVariants as operation
use Rattle.session.specs.Operation.{answer_line, shown_line, sets_line, working_line, reply, run_after}
use Rattle.session.specs.Session.{TextWritten, RefusedOf}
use Rattle.session.proofs.TextWritten.{text_of, word-line}

-- REFUSED

-- the refusal itself is handed on, the run stays, and nothing is written
pub refused-as :
    {T : Type 0} (o : Operation) (r : Run) (l : List ℕ) (result : Result T Refusal) (x : Refusal) → IsErrAnd result (λ y. y ≡ x) → RefusedOf (Some o) r x
    → IfErr result (λ e. RefusedOf (Some o) r e × (r ≡ r) × (l ≡ l))
refused-as o r l result x h w = subst⁻¹ (λ z. IfErr z (λ e. RefusedOf (Some o) r e × (r ≡ r) × (l ≡ l))) (err-as result x h) (w, refl, refl)

module _ (r : Run) (f : Refusal) where
  pub advance-refused : (x e : ℕ) → advanced r (Err f) ≡ advance_of r x e → RefusedOf (Some (operation.Advance x e)) r f
  unfolding reply run_after answer_line
  advance-refused x e h = (ap (λ (a : Advanced). answer_line (letters "taken") a.answer) (sym h), ap (λ (a : Advanced). a.run) (sym h))

  pub withdraw-refused : (p : ℕ) → advanced r (Err f) ≡ withdraw_of r p → RefusedOf (Some (operation.Withdraw p)) r f
  unfolding reply run_after answer_line
  withdraw-refused p h = (ap (λ (a : Advanced). answer_line (letters "taken") a.answer) (sym h), ap (λ (a : Advanced). a.run) (sym h))

  pub withdraw-all-refused : (x : ℕ) → advanced r (Err f) ≡ withdraw_all_of r x → RefusedOf (Some (operation.WithdrawAll x)) r f
  unfolding reply run_after answer_line
  withdraw-all-refused x h = (ap (λ (a : Advanced). answer_line (letters "taken") a.answer) (sym h), ap (λ (a : Advanced). a.run) (sym h))

  pub row-refused : (e : ℕ) → row_asked (Err f) ≡ row_of r e → RefusedOf (Some (operation.Row e)) r f
  unfolding reply run_after shown_line
  row-refused e h = (ap (λ (a : Row). shown_line r.cores a.answer a.bytes) (sym h), refl)

  pub sets-refused : (e : ℕ) → sets_asked (Err f) ≡ sets_of r e → RefusedOf (Some (operation.Sets e)) r f
  unfolding reply run_after sets_line
  sets-refused e h = (ap (λ (a : Sets). sets_line a.answer a.sets) (sym h), refl)

  pub working-refused : (e : ℕ) → working_asked (Err f) ≡ working_of r e → RefusedOf (Some (operation.Working e)) r f
  unfolding reply run_after working_line
  working-refused e h = (ap (λ (a : WorkingPositions). working_line a.answer a.set) (sym h), refl)

-- DONE

-- the reply is written, and the run is the one after it
abbrev pub Done : Operation → Run → List ℕ → List ℕ → ℕ → Run → Type 0
Done o r before after n next = TextWritten (reply (Some o) r) before after n × (next ≡ run_after (Some o) r)

module _ (r : Run) (before after : List ℕ) (n : ℕ) where
  abbrev Taken : Type 0
  Taken = TextWritten (line_of (letters "taken") []) before after n

  pub advance-done : (x e : ℕ) (next : Run) → advanced r (Ok next) ≡ advance_of r x e → Taken → Done (operation.Advance x e) r before after n next
  unfolding reply run_after answer_line
  advance-done x e next h w =
      (text_of (sym (word-line (letters "taken")) ∙ ap (λ (a : Advanced). answer_line (letters "taken") a.answer) h) w, ap (λ (a : Advanced). a.run) h)

  pub withdraw-done : (p : ℕ) (next : Run) → advanced r (Ok next) ≡ withdraw_of r p → Taken → Done (operation.Withdraw p) r before after n next
  unfolding reply run_after answer_line
  withdraw-done p next h w =
      (text_of (sym (word-line (letters "taken")) ∙ ap (λ (a : Advanced). answer_line (letters "taken") a.answer) h) w, ap (λ (a : Advanced). a.run) h)

  pub withdraw-all-done : (x : ℕ) (next : Run) → advanced r (Ok next) ≡ withdraw_all_of r x → Taken → Done (operation.WithdrawAll x) r before after n next
  unfolding reply run_after answer_line
  withdraw-all-done x next h w =
      (text_of (sym (word-line (letters "taken")) ∙ ap (λ (a : Advanced). answer_line (letters "taken") a.answer) h) w, ap (λ (a : Advanced). a.run) h)

  pub row-done : (e : ℕ) {bytes : List ℕ} → row_asked (Ok bytes) ≡ row_of r e → TextWritten (line_of (letters "row") (take r.cores bytes)) before after n → Done (operation.Row e) r before after n r
  unfolding reply run_after shown_line
  row-done e h w = (text_of (ap (λ (a : Row). shown_line r.cores a.answer a.bytes) h) w, refl)

  pub sets-done : (e : ℕ) {sets : List ℕ} → sets_asked (Ok sets) ≡ sets_of r e → TextWritten (line_of (letters "sets") sets) before after n → Done (operation.Sets e) r before after n r
  unfolding reply run_after sets_line
  sets-done e h w = (text_of (ap (λ (a : Sets). sets_line a.answer a.sets) h) w, refl)

  pub working-done : (e set : ℕ) → working_asked (Ok set) ≡ working_of r e → TextWritten (line_of (letters "working") (set ∷ [])) before after n → Done (operation.Working e) r before after n r
  unfolding reply run_after working_line
  working-done e set h w = (text_of (ap (λ (a : WorkingPositions). working_line a.answer a.set) h) w, refl)

-- one number has at most twenty digits
pub one-fits : (n : ℕ) → n < 10 ^ 20 → (i : ℕ) → i < length (n ∷ []) → get_or (n ∷ []) i 0 < 10 ^ 20
one-fits n h zero l = h
one-fits n h (suc i) l = absurd (omega (arith, l))

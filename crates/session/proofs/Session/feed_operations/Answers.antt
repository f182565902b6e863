-- `session::Session::feed_operations`: the line is the last operation or is answered, or its end is still to come (Feeding).
use Rattle.std.proofs.Common.{◌∙◌, ap, sym, refl, Option}
use mathlib.Core.Path.{subst⁻¹}
use mathlib.Core.List.{[], ◌∷◌}
use native.Mathlib.Omega.{arith}
use Rattle.text.specs.Output.{fields}
use Rattle.text.proofs.RowText.{line-bytes}
use Rattle.session.specs.declared.operations.Operation.{Operation}
use Rattle.session.specs.Operation.{is_last, reply, run_after}
use Rattle.session.specs.Session.{FedBy}
use Rattle.session.proofs.TextWritten.{text_of, word-line}
use Rattle.session.proofs.Feeding.{operation-last, operation-next, operation-waits}
use Rattle.session.proofs.Session.feed_operations.Goals as goal

pub returns-in_default : goal.returns-in_default
returns-in_default c =
    let a = c.args in
    subst⁻¹ (FedBy _ _ _ _ _) c.fed_with.ensures (operation-waits a.self.run a.ended a.bytes.now a.out.now a.out.now _ c.in_default.ensures refl)

pub returns-in_default-operation_of : goal.returns-in_default-operation_of
unfolding reply
returns-in_default-operation_of c =
    let a = c.args in
    let none = c.in_default-operation_of.ensures in
    subst⁻¹ (FedBy _ _ _ _ _) c.fed_with-in_default-operation_of.ensures
    (operation-last a.self.run a.ended a.bytes.now a.out.now _ _ c.in-Some.ensures _ _ refl (sym (ap is_last none))
    (text_of (ap (λ (x : Option Operation). reply x a.self.run) none) (text_of (sym (word-line _)) c.write_line-length.ensures)))

pub returns : goal.returns
returns c =
    let a = c.args in
    let some = c.in-Some-operation_of.ensures in
    subst⁻¹ (FedBy _ _ _ _ _) c.fed_with-2.ensures
    (operation-next a.self.run a.ended a.bytes.now a.out.now _ _ c.in-Some.ensures _ _ refl (sym (ap is_last some))
    (text_of (ap (λ (x : Option Operation). reply x a.self.run) some) c.answer-reply.ensures.0)
    (c.answer-reply.ensures.1 ∙ ap (λ (x : Option Operation). run_after x a.self.run) some))

pub write_line-length-requires : goal.write_line-length-requires
unfolding fields
write_line-length-requires c = omega (arith, line-bytes (110 ∷ 111 ∷ 116 ∷ 32 ∷ 97 ∷ 110 ∷ 32 ∷ 111 ∷ 112 ∷ 101 ∷ 114 ∷ 97 ∷ 116 ∷ 105 ∷ 111 ∷ 110 ∷ []) [])

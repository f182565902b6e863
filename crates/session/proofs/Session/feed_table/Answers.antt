-- `session::Session::feed_table`: the table's text is answered, or its end is still to come (Feeding).
use Rattle.std.proofs.Common.{refl, arith}
use mathlib.Core.Path.{subst⁻¹}
use lib.Seq.{length-take-le}
use Rattle.session.specs.Session.{FedBy}
use Rattle.session.proofs.Feeding.{table-started, table-too-long, table-waits}
use Rattle.session.proofs.Session.feed_table.Goals as goal

pub returns-in_default : goal.returns-in_default
returns-in_default c =
    let a = c.args in
    subst⁻¹ (FedBy _ _ _ _ _) c.fed_with.ensures (table-waits a.self.run a.ended a.bytes.now a.out.now a.out.now _ c.in_default.ensures refl)

pub returns-then-part-gt-BYTES : goal.returns-then-part-gt-BYTES
returns-then-part-gt-BYTES c =
    let a = c.args in
    let w = c.in-Some.ensures in
    subst⁻¹ (FedBy _ _ _ _ _) c.fed_with-then-part-gt-BYTES.ensures
    (table-too-long a.self.run a.ended a.bytes.now a.out.now _ _ w _ _ refl (omega (arith, length-take-le c.in-Some.part.end a.bytes.now w.end)) c.begin-begun.ensures.0)

pub returns : goal.returns
returns c =
    let a = c.args in
    let w = c.in-Some.ensures in
    subst⁻¹ (FedBy _ _ _ _ _) c.fed_with-2.ensures
    (table-started a.self.run a.ended a.bytes.now a.out.now _ _ w _ _ refl (omega (arith, length-take-le c.in-Some.part.end a.bytes.now w.end)) c.begin-begun.ensures.0
    c.begin-begun.ensures.1)

-- The table's text is there, or its end is still to come (Feeding).
use Rattle.std.proofs.Common.{ap₂, length, refl, ℕ}
use mathlib.Core.Path.{subst⁻¹}
use Rattle.plan_text.specs.declared.Check.TheVariants as code
use Rattle.plan_text.specs.Check.{FedBy, check_in, over_with}
use Rattle.plan_text.specs.Checked.{Refused}
use Rattle.plan_text.proofs.Feeding.{table-fed, table-over, table-waits}
use Rattle.plan_text.proofs.feed_table.Goals as goal

pub returns-in_default : goal.returns-in_default
returns-in_default c = table-waits _ _ _ _ c.in_default.ensures refl refl

pub returns-in-Ok : goal.returns-in-Ok
returns-in-Ok c = table-fed (check_in code.Table) _ _ _ c.in-Some.ensures _ refl c.in-Ok.ensures _ refl c.feed_plan.ensures

pub returns-in-Err : goal.returns-in-Err
returns-in-Err c =
    subst⁻¹ (FedBy _ _ _ _) (ap₂ (λ (n p : ℕ). over_with _ (Refused n p) (length c.args.bytes.now)) c.number.ensures c.position.ensures)
    (table-over (check_in code.Table) _ _ _ c.in-Some.ensures _ refl c.in-Err.ensures _ refl)

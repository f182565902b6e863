-- `session::Session::feed`: each stage's feed gives its transcript; one that is over writes nothing.
use mathlib.Core.Path.{subst⁻¹}
use Rattle.session.specs.declared.Stage.TheVariants.{Table, Operations, Over}
use Rattle.session.specs.Session.{FedBy}
use Rattle.session.proofs.Feeding.{fed-in, over-fed}
use Rattle.session.proofs.Session.feed.Goals as goal

pub returns-in-Table : goal.returns-in-Table
returns-in-Table c = fed-in _ Table _ _ _ _ _ c.in-Table.is c.feed_table.ensures

pub returns-in-Operations : goal.returns-in-Operations
returns-in-Operations c = fed-in _ Operations _ _ _ _ _ c.in-Operations.is c.feed_operations.ensures

pub returns-in-Over : goal.returns-in-Over
returns-in-Over c = fed-in _ Over _ _ _ _ _ c.in-Over.is (subst⁻¹ (FedBy _ _ _ _ _) c.fed_with.ensures (over-fed _ _ _ _))

-- By the two first misses.
use Rattle.priority_order.proofs.Repairing.{later-first, later-none}
use Rattle.priority_order.proofs.repair.later.Goals as goal

pub returns-in_default : goal.returns-in_default
returns-in_default c = later-none c.args.first c.args.other c.in_default.is

pub returns-in-None : goal.returns-in-None
returns-in-None c = later-first c.args.first c.args.other c.in-Some.miss c.in-Some.is c.in-None.is

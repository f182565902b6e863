-- THEOREM (worst-response-kept): in every list of advances on a firm table each job has ended once the worst-case response time of its task has passed since
-- its release.
use Prim.Native.Nat.{ℕ, ◌<◌}
use lib.ListN.{length}
use Rattle.model.proofs.Sustain.{finished}
use Rattle.model.specs.Lists.{NeverMissed, book}
use Rattle.model.specs.Task.{AllValid, Table}
use Rattle.model.specs.Firm.{FirmRule}
use Rattle.response_time.specs.EndedWithin.{AlwaysEndedWithin}
use Rattle.response_time.specs.Response.{worst_response}
use Rattle.response_time.proofs.Response.{worst-response-exact}

-- what the full-length run has finished is finished in every list, and it has finished each job by then
pub worst-response-kept : (s : Table) → AllValid s → NeverMissed s → FirmRule s → (p : ℕ) → p < length s.tasks → AlwaysEndedWithin s p (worst_response s p)
worst-response-kept s ok nm firmly p l xs k h = finished s ok firmly xs p k l ((worst-response-exact s ok nm p l).bound k (book s xs).tick h)

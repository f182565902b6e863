-- Unfolding for the computed examples: where an `unfolding` line contains `computing`, a table's verdict, and the answers, rows and book of a list, compute.
use Rattle.model.specs.Jobs.{emptied}
use Rattle.model.specs.Claims.{borrowed, borrowing, claims}
use Rattle.model.specs.Advance.{step, work, work_lent, after_taken}
use Rattle.model.specs.Refusals.{answer, asked, emptiable}
use Rattle.model.specs.Lists.{answers_from, book_from, enter, full}
use Rattle.model.specs.Claims.{offer, seeks, served}
use Rattle.model.specs.Refusals.{late, wrong_empties, wrong_reports, reportable, unknown_positions}
use Rattle.model.specs.Lists.{rows_from, taken_from}
use Rattle.model.specs.Firm.{firm, parallelism_monotonic}
use Rattle.model.specs.Grants.{claimants, given, grants, left}
use Rattle.model.specs.Horizon.{S, horizon, hyperperiod, lcm}
use Rattle.model.specs.Lending.{among, merged, lent}
use Rattle.model.specs.Row.{owner, row}
use Rattle.model.specs.Search.{any, filtered, least, member, up_from}
use Rattle.model.specs.Sets.{set_of, sets_asked}
use Rattle.model.specs.Verdict.{first_miss, missed_at, missed_in, verdict}

unfoldable pub computing : Unit {0}
unfolding verdict first_miss missed_in missed_at firm parallelism_monotonic horizon S hyperperiod lcm least any member up_from filtered owner row given left grants claimants
    claims served lent merged among borrowed borrowing offer seeks work work_lent step full late reportable wrong_reports emptied emptiable wrong_empties
    unknown_positions answer asked after_taken enter book_from answers_from taken_from rows_from set_of sets_asked
computing = tt

-- Unfolding for computed runs: where an `unfolding` line contains `running`, the answers to a list of entries, its rows and the run after it compute.
use Rattle.model.specs.Firm.{firm, parallelism_monotonic}
use Rattle.model.specs.Grants.{claimants, given, grants, left}
use Rattle.model.specs.Lending.{among, merged, lent}
use Rattle.model.specs.Row.{owner, row}
use Rattle.model.specs.Search.{any, filtered, least, member, up_from}
use Rattle.run.specs.Run.{grants_in, lent_in, map_first, moved, offer_in, seeks_in, withdrawn_in}
use Rattle.run.specs.Numbers.{past_count, run_out, first_late_in, wrong_empties_in, wrong_reports_in}
use Rattle.run.specs.Advance.{advance_answer, advance_of}
use Rattle.run.specs.Withdraw.{withdraw_answer, withdraw_of, withdraw_all_of}
use Rattle.run.specs.Row.{row_answer, bytes_in, row_of}
use Rattle.refinement.specs.Entries.{answers, run_after_list}

unfoldable pub running : Unit {0}
unfolding any least member up_from filtered owner row given left grants claimants firm parallelism_monotonic lent merged among answers run_after_list advance_of advance_answer withdraw_of
    withdraw_all_of withdraw_answer row_of row_answer bytes_in past_count run_out first_late_in wrong_empties_in wrong_reports_in grants_in offer_in seeks_in lent_in map_first moved withdrawn_in
running = tt

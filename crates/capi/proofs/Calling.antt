-- Unfolding for the computed examples of calls on a run: where an `unfolding` line contains `calling`, the results of row, sets, advance and the withdrawals
-- compute.
use Rattle.model.proofs.Computing.{computing}
use Rattle.run.specs.Advance.{advance_answer, advance_of}
use Rattle.run.specs.Numbers.{past_count, run_out, first_late_in, wrong_empties_in, wrong_reports_in}
use Rattle.run.specs.Row.{row_answer, bytes_in, row_of}
use Rattle.run.specs.Sets.{sets_in, sets_of}
use Rattle.run.specs.Run.{grants_in, lent_in, map_first, moved, offer_in, seeks_in, withdrawn_in}
use Rattle.run.specs.Withdraw.{withdraw_answer, withdraw_of, withdraw_all_of}
use Rattle.buffers.specs.Encoding.{places_words, encode_to, are_places, places_in, holds_run, run_in}
use Rattle.capi.specs.Runs.{row_call, sets_call, entry_call}

unfoldable pub calling : Unit {0}
unfolding computing row_call sets_call entry_call holds_run are_places run_in places_in encode_to places_words row_of row_answer bytes_in sets_of sets_in advance_of
    advance_answer withdraw_of withdraw_all_of withdraw_answer past_count run_out first_late_in wrong_empties_in wrong_reports_in grants_in lent_in offer_in seeks_in map_first moved withdrawn_in
calling = tt

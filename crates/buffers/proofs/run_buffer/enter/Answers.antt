-- `buffers::run_buffer::enter`: a buffer that holds a run has its words, and a count that is at most 32.
use Rattle.std.proofs.Common.{◌≡◌, ◌∙◌, Some, sym, rules}
use Rattle.buffers.proofs.Reading.{run-fits}
use Rattle.buffers.proofs.run_buffer.enter.Goals as goal

pub put_run-requires : goal.put_run-requires
put_run-requires g c =
    let is : c.run_in.result ≡ Some c.in_ok-held.held = search rules in
    run-fits c.args.words.now c.in_ok-held.held (sym is ∙ c.run_in.ensures)

-- `buffers::run_buffer::run_in`: the places passed are read, the others are as they were made, and the places from here on decide.
use Rattle.std.proofs.Common.{◌≡◌, ◌++◌, ◌-◌, drop, replicate}
use Rattle.phase.specs.Task.{unused}
use Rattle.buffers.specs.Encoding.{head_words, places, words_to, places_in, are_places}
use Rattle.buffers.proofs.run_buffer.run_in.Given as goal

abbrev pub invariant-loop-i : goal.invariant-loop-i
invariant-loop-i l = record {
  read : l.tasks ≡ places_in l.i (drop head_words l.words) ++ drop l.i (replicate places unused);
  held : are_places l.count (drop head_words l.words) ≡ are_places (l.count - l.i) (drop (words_to l.i) l.words);
}

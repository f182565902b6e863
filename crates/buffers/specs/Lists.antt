-- A list of entries on the run in a buffer: the answer to each, and the buffer after the list.
use Rattle.std.specs.Prelude.{List, [], ◌∷◌, ℕ}
use Rattle.model.specs.Advance.{Entry}
use Rattle.run.specs.Answer.{Answer}
use Rattle.buffers.specs.Encoding.{decode}
use Rattle.buffers.specs.Runs.{entry_from}

unfoldable pub buffer_answers : List ℕ → List Entry → List Answer
buffer_answers ws [] = []
buffer_answers ws (x ∷ xs) = (entry_from (decode ws) x ws).answer ∷ buffer_answers (entry_from (decode ws) x ws).buffer xs

unfoldable pub buffer_after : List ℕ → List Entry → List ℕ
buffer_after ws [] = ws
buffer_after ws (x ∷ xs) = buffer_after (entry_from (decode ws) x ws).buffer xs

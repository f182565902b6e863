-- A list of entries, each an advance with its two sets (scope, 'The book of a run', and request 105) or a withdrawal, of a position (request 106) or of
-- several together (request 113): its answers and the run after it.
use Rattle.std.specs.Prelude.{List, [], ◌∷◌}
use Rattle.model.specs.Advance.{Entry, advance, withdraw, withdraw_all}
use Rattle.run.specs.declared.Run.{Run}
use Rattle.run.specs.Answer.{Answer}
use Rattle.run.specs.Advance.{Advanced}
use Rattle.run.specs.Advance.{advance_of}
use Rattle.run.specs.Withdraw.{withdraw_of, withdraw_all_of}

-- an entry on a run: its answer, and the next run
abbrev pub entry_of : Run → Entry → Advanced
entry_of r (advance x e) = advance_of r x e
entry_of r (withdraw p) = withdraw_of r p
entry_of r (withdraw_all x) = withdraw_all_of r x

-- the answer to each entry of the list, run r first
unfoldable pub answers : Run → List Entry → List Answer
answers r [] = []
answers r (x ∷ xs) = (entry_of r x).answer ∷ answers (entry_of r x).run xs

-- the run after the list
unfoldable pub run_after_list : Run → List Entry → Run
run_after_list r [] = r
run_after_list r (x ∷ xs) = run_after_list (entry_of r x).run xs

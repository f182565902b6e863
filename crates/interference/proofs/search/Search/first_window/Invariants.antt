use Rattle.table.specs.Fit.{loaded_table}
use Rattle.interference.proofs.Finding.{Trying}
use Rattle.interference.proofs.search.Search.first_window.Given as goal

-- the window sought is the first that passes from this one on
abbrev pub invariant-loop : goal.invariant-loop
invariant-loop l = Trying (loaded_table l.self.table) l.self.ends l.self.place l.counter l.window

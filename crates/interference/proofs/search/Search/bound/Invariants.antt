use Rattle.table.specs.Fit.{loaded_table}
use Rattle.interference.proofs.Finding.{Halving}
use Rattle.interference.proofs.search.Search.bound.Given as goal

-- the bound sought is what the halvings that are left find
abbrev pub invariant-loop : goal.invariant-loop
invariant-loop l = Halving (loaded_table l.self.table) l.self.ends l.self.place l.counter l.low l.high

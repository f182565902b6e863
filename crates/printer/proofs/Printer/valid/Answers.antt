use Rattle.printer.specs.Valid.{valid}
use Rattle.printer.proofs.Printer.valid.Goals as goal

pub returns : goal.returns
unfolding valid
returns c = simp (c.table_valid-fits.ensures, c.within-claims.ensures, c.owed.ensures, c.within-chosen.ensures)

-- The front of an input is enough: the pieces of the printer that is made from its first 2,168 bytes are what is printed for the whole of it.
-- It joins `output-enough` of the text with the law over the pieces.
use mathlib.Core.List.{List}
use mathlib.Core.Path.{◌∙◌}
use Prim.Native.Nat.{ℕ}
use lib.ListN.{take}
use Rattle.text.specs.Format.{enough_bytes}
use Rattle.text.proofs.Exact.{output-enough}
use Rattle.printer.specs.Printer.{MadeFrom}
use Rattle.printer.specs.Pieces.{Pieces, Printed}
use Rattle.printer.specs.declared.Printer.{Printer}
use Rattle.printer.proofs.Pieces.{pieces}

-- a printer of the front has all of the output of the whole input left
pub front-made : (bs : List ℕ) {p : Printer} → MadeFrom (take enough_bytes bs) p → MadeFrom bs p
front-made bs m = record { valid = m.valid; whole = m.whole ∙ output-enough bs }

-- THEOREM (front-pieces)
pub front-pieces :
    (bs : List ℕ) {p p' : Printer} {sizes : List ℕ} {parts : List (List ℕ)} → MadeFrom (take enough_bytes bs) p → Pieces p sizes parts p' → Printed bs p' sizes parts
front-pieces bs m qs = pieces bs (front-made bs m) qs

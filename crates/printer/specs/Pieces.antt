-- A whole sequence of pieces: a printer is asked for one piece after the other, each into a buffer of its own size. The claims about it are `Printed`; the laws
-- are `pieces` and, of an input of which only the front is read, `front-pieces`.
use Rattle.std.specs.Prelude.{List, [], ◌∷◌, ◌++◌, ◌≡◌, ℕ, ◌+◌, ◌≤◌, ◌<◌, length, take}
use Rattle.text.specs.Output.{output}
use Rattle.printer.specs.Printer.{PieceOf}
use Rattle.printer.specs.declared.Printer.{Printer}
use Rattle.printer.specs.declared.Piece.{Piece}

-- from printer p, buffers of these sizes are filled with these parts, and then the printer is p': each step has the contract of `piece`
pub data Pieces : Printer → List ℕ → List (List ℕ) → Printer → Type 0 where
  none : {p : Printer} → Pieces p [] [] p
  more :
      {p p' : Printer} {before after : List ℕ} {r : Piece} {sizes : List ℕ} {parts : List (List ℕ)}
      → PieceOf p before after r → Pieces r.printer sizes parts p'
      → Pieces p (length before ∷ sizes) (take r.length after ∷ parts) p'

-- the parts put together
unfoldable pub concatenated : List (List ℕ) → List ℕ
concatenated [] = []
concatenated (x ∷ xs) = x ++ concatenated xs

-- the number of bytes that the buffers hold
unfoldable pub total_room : List ℕ → ℕ
total_room [] = 0
total_room (n ∷ ns) = n + total_room ns

-- the claims about the pieces of an input
pub record Printed (bs : List ℕ) (p' : Printer) (sizes : List ℕ) (parts : List (List ℕ)) : Type 0 where
  -- put together they are the front of the output, as much of it as the buffers hold
  pub front : concatenated parts ≡ take (total_room sizes) (output bs)
  -- once the buffers hold as many bytes as the output has, they are the whole of it
  pub all : length (output bs) ≤ total_room sizes → concatenated parts ≡ output bs
  -- .. and every further piece is empty: there are finitely many
  pub ends : length (output bs) ≤ total_room sizes → (before after : List ℕ) (r : Piece) → PieceOf p' before after r → r.length ≡ 0
  -- before that a piece into a buffer that is not empty is not empty
  pub goes_on : total_room sizes < length (output bs) → (before after : List ℕ) (r : Piece) → PieceOf p' before after r → 0 < length before → 0 < r.length

-- The words of a line.
use Rattle.std.specs.Prelude.{cond, List, [], ◌∷◌, ℕ, eqb}
use Rattle.text.specs.Format.{joined}
use Rattle.text.specs.Output.{space}

-- the words of a text: what is before, between and after its spaces
unfoldable pub words_in : List ℕ → List (List ℕ)
words_in [] = [] ∷ []
words_in (b ∷ bs) = cond (eqb b space) ([] ∷ words_in bs) (joined b (words_in bs))

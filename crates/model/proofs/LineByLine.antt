-- A table of computed examples, checked line by line: where a line is wrong, the checker shows that line, with its name, and where it differs.
use mathlib.Core.Path.{◌≡◌, refl, ap, ◌∙◌}
use mathlib.Core.List.{List, [], ◌∷◌, map}

-- a function gives the second list of the first, an equation for each line
abbrev pub LineByLine : {A B : Type 0} → (A → B) → List A → List B → Type 0
LineByLine f [] [] = Unit {0}
LineByLine f [] (y ∷ ys) = ⊥
LineByLine f (x ∷ xs) [] = ⊥
LineByLine f (x ∷ xs) (y ∷ ys) = (f x ≡ y) × LineByLine f xs ys

-- .. and so an equation of the lists
pub by-line : {A B : Type 0} (f : A → B) (xs : List A) (ys : List B) → LineByLine f xs ys → map f xs ≡ ys
by-line f [] [] e = refl
by-line f [] (y ∷ ys) e = absurd e
by-line f (x ∷ xs) [] e = absurd e
by-line {B = B} f (x ∷ xs) (y ∷ ys) e = ap (λ (z : B). z ∷ map f xs) e.0 ∙ ap (λ (zs : List B). y ∷ zs) (by-line f xs ys e.1)

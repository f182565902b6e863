-- A word and a number after it: found where they are, and nothing else can be there.
use Rattle.std.proofs.Common.{Option, None, Some, Bor}
use mathlib.Core.Bool.{true, false, false≢true}
use mathlib.Core.List.{List, ◌++◌}
use mathlib.Core.Path.{◌≡◌, ap, sym, ◌∙◌}
use Prim.Native.Nat.{ℕ}
use lib.ListN.{length, drop}
use lib.Seq.{drop-append_seam}
use Rattle.text.specs.Decimal.{decimal}
use Rattle.sentence.specs.Sentence.{word_field}
use Rattle.sentence.specs.Reading.{starts_with, Stops, NoNumber, NumberAt, NumberOf, NoField, FieldAt, FieldOf}
use Rattle.sentence.proofs.Numbers.{number-only}
use Rattle.sentence.proofs.Reading.{begins-there, begins-append}

module _ (bs word : List ℕ) where
  -- the word is not there
  pub field-other : starts_with word bs ≡ false → NoField bs word
  field-other h n rest l q d = false≢true (sym h ∙ ap (starts_with word) d ∙ begins-append word (decimal n ++ rest))

  -- the word is there, and no number after it
  pub field-none : NoNumber (drop (length word) bs) → NoField bs word
  field-none m n rest l s e = m n rest l s (ap (drop (length word)) e ∙ drop-append_seam word (decimal n ++ rest))

  module _ (r : ℕ × Bor (List ℕ)) where
    -- the word is there, and a number after it
    pub field-word : starts_with word bs ≡ true → NumberAt (drop (length word) bs) r → FieldAt bs word r
    field-word h m = record {
      there = begins-there word bs h ∙ ap (λ (x : List ℕ). word ++ x) m.there;
      stops = m.stops;
      small = m.small;
    }

    -- what is there is what was found
    pub field-is : FieldAt bs word r → (n : ℕ) (rest : List ℕ) → Stops rest → bs ≡ word_field word n rest → (r.0 ≡ n) × (r.1.now ≡ rest)
    field-is o n rest s e =
        let same : decimal r.0 ++ r.1.now ≡ decimal n ++ rest =
        sym (drop-append_seam word (decimal r.0 ++ r.1.now)) ∙ ap (drop (length word)) (sym o.there ∙ e) ∙ drop-append_seam word (decimal n ++ rest) in
        number-only r.0 n r.1.now rest o.stops s same

-- the word is there: a number after it or not
pub field-of :
    (bs word : List ℕ) (r : Option (ℕ × Bor (List ℕ))) → starts_with word bs ≡ true → NumberOf (drop (length word) bs) r → FieldOf bs word r
field-of bs word None h m = field-none bs word m
field-of bs word (Some r) h m = field-word bs word r h m

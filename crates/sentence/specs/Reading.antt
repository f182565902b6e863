-- What the parser's helpers find at the front of a text: a value and the text after it.
use Rattle.std.specs.Prelude.{Option, MatchOption, Bool, true, false, ◌&&◌, cond, List, [], ◌∷◌, ◌++◌, ◌≡◌, ℕ, suc, ◌<◌, eqb, length, get_or}
use Rattle.std.specs.Borrow.{Bor}
use Rattle.text.specs.Decimal.{is_digit, decimal}
use Rattle.text.specs.Output.{letters}
use Rattle.sentence.specs.Facts.{Facts, limit, Part, Ascending, Expressible, named}
use Rattle.sentence.specs.Sentence.{word_field, parts, sentence_head, sentence_text}
use Rattle.sentence.specs.declared.reader.Part as code
use Rattle.sentence.specs.declared.reader.Head.{Head}

-- a text begins with a word
unfoldable pub starts_with : List ℕ → List ℕ → Bool
starts_with [] bs = true
starts_with (c ∷ cs) [] = false
starts_with (c ∷ cs) (b ∷ bs) = eqb c b && starts_with cs bs

-- the number of digits at the front of a text
unfoldable pub digits_of : List ℕ → ℕ
digits_of [] = 0
digits_of (b ∷ bs) = cond (is_digit b) (suc (digits_of bs)) 0

-- no digit is at the front of a text
abbrev pub Stops : List ℕ → Type 0
Stops bs = is_digit (get_or bs 0 0) ≡ false

-- no number below 2^64 in decimal is at the front with all its digits
abbrev pub NoNumber : List ℕ → Type 0
NoNumber bs = (n : ℕ) (rest : List ℕ) → n < limit → Stops rest → ¬ (bs ≡ decimal n ++ rest)

-- this number is: it is there in decimal, and is below 2^64
pub record NumberAt (bs : List ℕ) (r : ℕ × Bor (List ℕ)) : Type 0 where
  pub there : bs ≡ decimal r.0 ++ r.1.now
  pub stops : Stops r.1.now
  pub small : r.0 < limit

-- the result for a number, with all its digits
abbrev pub NumberOf : List ℕ → Option (ℕ × Bor (List ℕ)) → Type 0
NumberOf bs r = MatchOption r (NoNumber bs) (NumberAt bs)

-- no word and number are at the front
abbrev pub NoField : List ℕ → List ℕ → Type 0
NoField bs word = (n : ℕ) (rest : List ℕ) → n < limit → Stops rest → ¬ (bs ≡ word_field word n rest)

-- the word and this number are
pub record FieldAt (bs word : List ℕ) (r : ℕ × Bor (List ℕ)) : Type 0 where
  pub there : bs ≡ word_field word r.0 r.1.now
  pub stops : Stops r.1.now
  pub small : r.0 < limit

-- the result for a word and a number
abbrev pub FieldOf : List ℕ → List ℕ → Option (ℕ × Bor (List ℕ)) → Type 0
FieldOf bs word r = MatchOption r (NoField bs word) (FieldAt bs word)

-- a part and what follows it
abbrev pub part_text : ℕ → ℕ → List ℕ → List ℕ
part_text task count rest = word_field (letters "; task ") task (word_field (letters " ran ") count rest)

-- no part is at the front
abbrev pub NoPart : List ℕ → Type 0
NoPart bs = (task count : ℕ) (rest : List ℕ) → task < limit → count < limit → Stops rest → ¬ (bs ≡ part_text task count rest)

-- this part is
pub record PartAt (bs : List ℕ) (r : code.Part × Bor (List ℕ)) : Type 0 where
  pub there : bs ≡ part_text r.0.task r.0.count r.1.now
  pub stops : Stops r.1.now
  pub task : r.0.task < limit
  pub count : r.0.count < limit
  pub after : length r.1.now < length bs

-- the result for a part
abbrev pub PartOf : List ℕ → Option (code.Part × Bor (List ℕ)) → Type 0
PartOf bs r = MatchOption r (NoPart bs) (PartAt bs)

-- the text is not made of parts that rise, of a late task at a position, and the full stop at the end
abbrev pub NoParts : List ℕ → ℕ → Type 0
NoParts bs position = (ps : List Part) → Ascending 0 position ps → ¬ (bs ≡ parts ps (letters "."))

-- it is made of those of these counts
pub record PartsAt (bs : List ℕ) (position : ℕ) (ran : List ℕ) : Type 0 where
  pub rise : Ascending 0 position (named ran)
  pub there : bs ≡ parts (named ran) (letters ".")

-- the result for the parts
abbrev pub PartsOf : List ℕ → ℕ → Option (List ℕ) → Type 0
PartsOf bs position r = MatchOption r (NoParts bs position) (PartsAt bs position)

-- the facts before the parts
abbrev pub heading : Head → Facts
heading h = record { position = h.position; tick = h.tick; had = h.had; length = h.length; others = [] }

-- the text is the sentence of no expressible facts
abbrev pub NoSentence : List ℕ → Type 0
NoSentence bs = (f : Facts) → Expressible f → ¬ (bs ≡ sentence_text f)

-- everything before the parts is this
pub record HeadAt (bs : List ℕ) (r : Head × Bor (List ℕ)) : Type 0 where
  -- it is there, and its facts are expressible
  pub expressible : Expressible (heading r.0)
  pub there : bs ≡ sentence_head (heading r.0) r.1.now
  -- in a sentence of expressible facts it has the position, and the parts come after it
  pub only : (f : Facts) → Expressible f → bs ≡ sentence_text f → (r.0.position ≡ f.position) × (r.1.now ≡ parts f.others (letters "."))

-- the result for everything before the parts
abbrev pub HeadOf : List ℕ → Option (Head × Bor (List ℕ)) → Type 0
HeadOf bs r = MatchOption r (NoSentence bs) (HeadAt bs)

-- The numbers in a sentence are those of its facts, so no two facts have one sentence:
-- a run of digits ends where the next byte is no digit.
use mathlib.Core.Bool.{true}
use mathlib.Core.List.{List, [], ◌∷◌, ◌++◌, append-nil}
use mathlib.Core.Path.{◌≡◌, refl, ap, sym, ◌∙◌}
use Prim.Native.Nat.{ℕ, ◌≤◌}
use native.Mathlib.Omega.{arith}
use lib.ListN.{length, get_or, drop}
use lib.Seq.{append_snoc, drop-append_seam}
use Rattle.model.proofs.Bools.{and_left, and_right}
use Rattle.text.specs.Decimal.{all, is_digit, value, decimal}
use Rattle.text.specs.Output.{letters}
use Rattle.text.proofs.Values.{digits-exact}
use Rattle.text.proofs.Decimals.{decimal-digits, decimal-some, decimal-value}
use Rattle.sentence.specs.Facts.{Facts, Part}
use Rattle.sentence.specs.Sentence.{parts, sentence_head, sentence_text}
use Rattle.sentence.specs.Parsed.{number_before, numbers_from, paired, arranged, candidate}
use Rattle.sentence.specs.Reading.{Stops}

-- digits lengthen the run
digits-on : (run ds rest : List ℕ) → all is_digit ds ≡ true → numbers_from run (ds ++ rest) ≡ numbers_from (run ++ ds) rest
unfolding numbers_from all
digits-on run [] rest e = rw (append-nil run)
digits-on run (d ∷ ds) rest e =
    rw (and_left (is_digit d) (all is_digit ds) e)
    (digits-on (run ++ (d ∷ [])) ds rest (and_right (is_digit d) (all is_digit ds) e) ∙ ap (λ (r : List ℕ). numbers_from r rest) (append_snoc run d ds))

-- a run of digits represents its number
closed_some : (ds ns : List ℕ) → 1 ≤ length ds → number_before ds ns ≡ value ds ∷ ns
closed_some [] ns h = absurd (omega arith)
closed_some (d ∷ ds) ns h = refl

-- .. at a byte that is no digit, or at the end
run_ends : (n : ℕ) (rest : List ℕ) → Stops rest → numbers_from (decimal n) rest ≡ n ∷ numbers_from [] rest
unfolding numbers_from
run_ends n [] h = closed_some (decimal n) [] (decimal-some n) ∙ ap (λ (v : ℕ). v ∷ []) (decimal-value n)
run_ends n (b ∷ bs) h =
    rw h (closed_some (decimal n) (numbers_from [] bs) (decimal-some n) ∙ ap (λ (v : ℕ). v ∷ numbers_from [] bs) (decimal-value n))

-- the first number in a text that begins with one
pub number-first : (n : ℕ) (rest : List ℕ) → Stops rest → numbers_from [] (decimal n ++ rest) ≡ n ∷ numbers_from [] rest
number-first n rest h = digits-on [] (decimal n) rest ((digits-exact (decimal n)).1 (decimal-digits n)) ∙ run_ends n rest h

-- a text that begins with a number begins with one number only
pub number-only : (m n : ℕ) (x y : List ℕ) → Stops x → Stops y → decimal m ++ x ≡ decimal n ++ y → (m ≡ n) × (x ≡ y)
number-only m n x y p q e =
    let one : m ≡ n =
    ap (λ (ns : List ℕ). get_or ns 0 0) (sym (number-first m x p) ∙ ap (numbers_from []) e ∙ number-first n y q) in
    (one, sym (drop-append_seam (decimal m) x) ∙ ap (drop (length (decimal m))) e ∙ ap (λ (k : ℕ). drop (length (decimal k)) (decimal n ++ y)) one ∙ drop-append_seam (decimal n) y)

-- after a number is a part or the full stop
pub parts-stop : (ps : List Part) → Stops (parts ps (letters "."))
unfolding parts
parts-stop [] = refl
parts-stop (p ∷ ps) = refl

-- the numbers of the parts
part_numbers : List Part → List ℕ
part_numbers [] = []
part_numbers (p ∷ ps) = p.position ∷ p.count ∷ part_numbers ps

parts-numbers : (ps : List Part) → numbers_from [] (parts ps (letters ".")) ≡ part_numbers ps
unfolding numbers_from parts part_numbers
parts-numbers [] = refl
parts-numbers (p ∷ ps) =
    number-first p.position (letters " ran " ++ (decimal p.count ++ parts ps (letters "."))) refl
    ∙ ap (λ (ns : List ℕ). p.position ∷ ns) (number-first p.count (parts ps (letters ".")) (parts-stop ps) ∙ ap (λ (ns : List ℕ). p.count ∷ ns) (parts-numbers ps))

paired-part-numbers : (ps : List Part) → paired (part_numbers ps) ≡ ps
unfolding paired part_numbers
paired-part-numbers [] = refl
paired-part-numbers (p ∷ ps) = ap (λ (qs : List Part). p ∷ qs) (paired-part-numbers ps)

-- the numbers of a sentence
sentence-numbers : (f : Facts) → numbers_from [] (sentence_text f) ≡ f.position ∷ f.tick ∷ f.had ∷ f.length ∷ part_numbers f.others
unfolding sentence_text sentence_head numbers_from
sentence-numbers f =
    let rest : List ℕ = parts f.others (letters ".") in
    number-first f.position (letters " misses at tick " ++ (decimal
    f.tick ++ (letters " with " ++ (decimal f.had ++ (letters " of " ++ (decimal f.length ++ (letters " ticks" ++ rest))))))) refl
    ∙ ap (λ (ns : List ℕ). f.position ∷ ns)
    (number-first f.tick (letters " with " ++ (decimal f.had ++ (letters " of " ++ (decimal f.length ++ (letters " ticks" ++ rest))))) refl
    ∙ ap (λ (ns : List ℕ). f.tick ∷ ns)
    (number-first f.had (letters " of " ++ (decimal f.length ++ (letters " ticks" ++ rest))) refl
    ∙ ap (λ (ns : List ℕ). f.had ∷ ns)
    (number-first f.length (letters " ticks" ++ rest) refl ∙ ap (λ (ns : List ℕ). f.length ∷ ns) (parts-numbers f.others))))

-- they are the facts
pub numbers-sentence : (f : Facts) → candidate (sentence_text f) ≡ f
unfolding candidate
numbers-sentence f =
    ap arranged (sentence-numbers f)
    ∙ ap (λ (ps : List Part). record { position = f.position; tick = f.tick; had = f.had; length = f.length; others = ps }) (paired-part-numbers f.others)

-- two different sets of facts never give the same sentence
pub sentence-injective : (f g : Facts) → sentence_text f ≡ sentence_text g → f ≡ g
sentence-injective f g e = sym (numbers-sentence f) ∙ ap candidate e ∙ numbers-sentence g

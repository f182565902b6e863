-- The head of a sentence: four fields and a word, each found where it is.
use mathlib.Core.Bool.{Bool, true, false, ◌&&◌, false≢true}
use mathlib.Core.List.{List, ◌++◌}
use mathlib.Core.Path.{◌≡◌, refl, ap, sym, ◌∙◌}
use Prim.Native.Nat.{ℕ}
use native.Mathlib.Omega.{arith}
use lib.ListN.{drop}
use lib.Dec.{leb, ltb}
use borrow.Author.Tests.{leb-true, le-leb, ltb-true, lt-ltb}
use Rattle.model.proofs.Bools.{and_left, and_right, and_both}
use Rattle.text.specs.Output.{letters}
use Rattle.sentence.specs.Facts.{Facts, Ascending, Expressible}
use Rattle.sentence.specs.Sentence.{word_field, parts, sentence_head, sentence_text}
use Rattle.sentence.specs.Reading.{starts_with, NoField, FieldAt, NoSentence, HeadAt}
use Rattle.std.proofs.Common.{Bor}
use Rattle.sentence.proofs.Reading.{begins-there, begins-append}
use Rattle.sentence.proofs.Fields.{field-is}

-- the tests of a head's numbers
abbrev pub late : ℕ → ℕ → ℕ → Bool
late position had all = leb 1 position && (leb position 32 && ltb had all)

-- in a sentence of expressible facts each field is found
module _ (bs : List ℕ) (f : Facts) (s : Expressible f) (e : bs ≡ sentence_text f) where
  abbrev after4 : List ℕ
  after4 = letters " ticks" ++ parts f.others (letters ".")

  abbrev after3 : List ℕ
  after3 = word_field (letters " of ") f.length after4

  abbrev after2 : List ℕ
  after2 = word_field (letters " with ") f.had after3

  abbrev after1 : List ℕ
  after1 = word_field (letters " misses at tick ") f.tick after2

  text : bs ≡ word_field (letters "task ") f.position after1
  unfolding sentence_text sentence_head
  text = e

  first-there : ¬ NoField bs (letters "task ")
  first-there absent = absent f.position after1 (omega (arith, s.last)) refl text

  module _ (p : ℕ × Bor (List ℕ)) (first : FieldAt bs (letters "task ") p) where
    position-is : (p.0 ≡ f.position) × (p.1.now ≡ after1)
    position-is = field-is bs (letters "task ") p first f.position after1 refl text

    second-there : ¬ NoField p.1.now (letters " misses at tick ")
    second-there absent = absent f.tick after2 s.tick refl position-is.1

    module _ (t : ℕ × Bor (List ℕ)) (second : FieldAt p.1.now (letters " misses at tick ") t) where
      tick-is : (t.0 ≡ f.tick) × (t.1.now ≡ after2)
      tick-is = field-is p.1.now (letters " misses at tick ") t second f.tick after2 refl position-is.1

      third-there : ¬ NoField t.1.now (letters " with ")
      third-there absent = absent f.had after3 (omega (arith, s.short, s.length)) refl tick-is.1

      module _ (h : ℕ × Bor (List ℕ)) (third : FieldAt t.1.now (letters " with ") h) where
        had-is : (h.0 ≡ f.had) × (h.1.now ≡ after3)
        had-is = field-is t.1.now (letters " with ") h third f.had after3 refl tick-is.1

        fourth-there : ¬ NoField h.1.now (letters " of ")
        fourth-there absent = absent f.length after4 s.length refl had-is.1

        module _ (l : ℕ × Bor (List ℕ)) (fourth : FieldAt h.1.now (letters " of ") l) where
          length-is : (l.0 ≡ f.length) × (l.1.now ≡ after4)
          length-is = field-is h.1.now (letters " of ") l fourth f.length after4 refl had-is.1

-- a field is not there
pub head-none-1 : (bs : List ℕ) → NoField bs (letters "task ") → NoSentence bs
head-none-1 bs absent f s e = first-there bs f s e absent

module _ (bs : List ℕ) (p : ℕ × Bor (List ℕ)) (first : FieldAt bs (letters "task ") p) where
  pub head-none-2 : NoField p.1.now (letters " misses at tick ") → NoSentence bs
  head-none-2 absent f s e = second-there bs f s e p first absent

  module _ (t : ℕ × Bor (List ℕ)) (second : FieldAt p.1.now (letters " misses at tick ") t) where
    pub head-none-3 : NoField t.1.now (letters " with ") → NoSentence bs
    head-none-3 absent f s e = third-there bs f s e p first t second absent

    module _ (h : ℕ × Bor (List ℕ)) (third : FieldAt t.1.now (letters " with ") h) where
      pub head-none-4 : NoField h.1.now (letters " of ") → NoSentence bs
      head-none-4 absent f s e = fourth-there bs f s e p first t second h third absent

      module _ (l : ℕ × Bor (List ℕ)) (fourth : FieldAt h.1.now (letters " of ") l) where
        -- the numbers are not expressible
        pub head-wrong : late p.0 h.0 l.0 ≡ false → NoSentence bs
        head-wrong q f s e =
            let a : p.0 ≡ f.position = (position-is bs f s e p first).0 in
            let b : h.0 ≡ f.had = (had-is bs f s e p first t second h third).0 in
            let c : l.0 ≡ f.length = (length-is bs f s e p first t second h third l fourth).0 in
            false≢true (sym q
            ∙ and_both (leb 1 p.0) (leb p.0 32 && ltb h.0 l.0) (le-leb 1 p.0 (omega (arith, s.first)))
            (and_both (leb p.0 32) (ltb h.0 l.0) (le-leb p.0 32 (omega (arith, s.last))) (lt-ltb h.0 l.0 (omega (arith, s.short)))))

        -- the last word is not there
        pub head-other : starts_with (letters " ticks") l.1.now ≡ false → NoSentence bs
        head-other q f s e =
            false≢true (sym q ∙ ap (starts_with (letters " ticks")) (length-is bs f s e p first t second h third l fourth).1
            ∙ begins-append (letters " ticks") (parts f.others (letters ".")))

        -- all is there
        pub head-there : (rest : Bor (List ℕ)) → late p.0 h.0 l.0 ≡ true → starts_with (letters " ticks") l.1.now ≡ true → rest.now ≡ drop 6 l.1.now →
            HeadAt bs (record { position = p.0; tick = t.0; had = h.0; length = l.0 }, rest)
        unfolding sentence_head Ascending
        head-there rest m b r =
            let n = and_right (leb 1 p.0) (leb p.0 32 && ltb h.0 l.0) m in
            let ticks : l.1.now ≡ letters " ticks" ++ rest.now =
            begins-there (letters " ticks") l.1.now b ∙ ap (λ (x : List ℕ). letters " ticks" ++ x) (sym r) in
            record {
              expressible =
                  record {
                    first = leb-true 1 p.0 (and_left (leb 1 p.0) (leb p.0 32 && ltb h.0 l.0) m);
                    last = leb-true p.0 32 (and_left (leb p.0 32) (ltb h.0 l.0) n);
                    tick = second.small;
                    short = ltb-true h.0 l.0 (and_right (leb p.0 32) (ltb h.0 l.0) n);
                    length = fourth.small;
                    others = tt;
                  };
              there =
                  first.there
                  ∙ ap (λ (r : List ℕ). word_field (letters "task ") p.0 r)
                  (second.there
                  ∙ ap (λ (r : List ℕ). word_field (letters " misses at tick ") t.0 r)
                  (third.there ∙ ap (λ (r : List ℕ). word_field (letters " with ") h.0 r) (fourth.there ∙ ap (λ (r : List ℕ). word_field (letters " of ") l.0 r) ticks)));
              only =
                  λ f s e. (
                    (position-is bs f s e p first).0,
                    r ∙ ap (drop 6) (length-is bs f s e p first t second h third l fourth).1,
                  );
            }

-- Parsing is exact both ways: facts are found of a text exactly if they are expressible and it is their sentence,
-- since the numbers in a sentence are its facts.
use mathlib.Core.Bool.{Bool, true, false, ◌&&◌, cond, false≢true}
use mathlib.Core.List.{List, [], ◌∷◌}
use mathlib.Core.Logic.{◌↔◌}
use mathlib.Core.Path.{◌≡◌, refl, ap, ap₂, sym, subst, ◌∙◌}
use Prim.Native.Nat.{ℕ, ◌≤◌, ◌<◌}
use native.Mathlib.Omega.{arith}
use lib.Dec.{eqb, leb, ltb}
use borrow.Author.Tests.{eqb-true, eq-eqb, leb-true, le-leb, ltb-true, lt-ltb}
use Rattle.model.proofs.Bools.{and_left, and_right, and_both}
use Rattle.sentence.specs.Facts.{Facts, Part, limit, MayFollow, may_follow, Ascending, ascending, Expressible, expressible}
use Rattle.sentence.specs.Sentence.{sentence_text}
use Rattle.sentence.specs.Parsed.{candidate, same, ParsedSentence, facts, none, parsed}
use Rattle.sentence.proofs.Numbers.{numbers-sentence}

-- two exact tests
and-exact : {A B : Type 0} (a b : Bool) → (a ≡ true) ↔ A → (b ≡ true) ↔ B → (a && b ≡ true) ↔ (A × B)
and-exact a b p q = (λ e. (p.0 (and_left a b e), q.0 (and_right a b e)), λ h. and_both a b (p.1 h.0) (q.1 h.1))

below-exact : (m n : ℕ) → (ltb m n ≡ true) ↔ (m < n)
below-exact m n = (ltb-true m n, lt-ltb m n)

most-exact : (m n : ℕ) → (leb m n ≡ true) ↔ (m ≤ n)
most-exact m n = (leb-true m n, le-leb m n)

-- the test of a part is exact
may-follow-exact : (last position : ℕ) (p : Part) → (may_follow last position p ≡ true) ↔ MayFollow last position p
may-follow-exact last position p = (
  λ e. let h = tests.0 e in record { later = h.0; above = h.1.0; some = h.1.1.0; fits = h.1.1.1 },
  λ h. tests.1 (h.later, (h.above, (h.some, h.fits))),
)
  where
    tests : (may_follow last position p ≡ true) ↔ ((last < p.position) × ((p.position < position) × ((0 < p.count) × (p.count < limit))))
    tests =
        and-exact (ltb last p.position) _ (below-exact last p.position)
        (and-exact (ltb p.position position) _ (below-exact p.position position)
        (and-exact (ltb 0 p.count) (ltb p.count limit) (below-exact 0 p.count) (below-exact p.count limit)))

-- .. and that of parts
pub ascending-exact : (last position : ℕ) (ps : List Part) → (ascending last position ps ≡ true) ↔ Ascending last position ps
unfolding ascending Ascending
ascending-exact last position [] = (λ e. tt, λ h. refl)
ascending-exact last position (p ∷ ps) =
    and-exact (may_follow last position p) (ascending p.position position ps) (may-follow-exact last position p) (ascending-exact p.position position ps)

-- .. and that of facts
pub expressible-exact : (f : Facts) → (expressible f ≡ true) ↔ Expressible f
unfolding expressible
expressible-exact f = (
  λ e. let h = tests.0 e in record { first = h.0; last = h.1.0; tick = h.1.1.0; short = h.1.1.1.0; length = h.1.1.1.1.0; others = h.1.1.1.1.1 },
  λ h. tests.1 (h.first, (h.last, (h.tick, (h.short, (h.length, h.others))))),
)
  where
    tests : (expressible f ≡ true) ↔ ((1 ≤ f.position) × ((f.position ≤ 32) × ((f.tick < limit) × ((f.had < f.length) × ((f.length < limit) × Ascending 0 f.position f.others)))))
    tests =
        and-exact (leb 1 f.position) _ (most-exact 1 f.position)
        (and-exact (leb f.position 32) _ (most-exact f.position 32)
        (and-exact (ltb f.tick limit) _ (below-exact f.tick limit)
        (and-exact (ltb f.had f.length) _ (below-exact f.had f.length)
        (and-exact (ltb f.length limit) (ascending 0 f.position f.others) (below-exact f.length limit) (ascending-exact 0 f.position f.others)))))

-- the test of two texts is exact
pub same-exact : (bs cs : List ℕ) → (same bs cs ≡ true) ↔ (bs ≡ cs)
unfolding same
same-exact [] [] = (λ e. refl, λ e. refl)
same-exact [] (c ∷ cs) = (λ e. absurd (false≢true e), λ e. let z : ◌≡◌ {A = ℕ} 0 1 = cc in absurd (omega arith))
same-exact (b ∷ bs) [] = (λ e. absurd (false≢true e), λ e. let z : ◌≡◌ {A = ℕ} 0 1 = cc in absurd (omega arith))
same-exact (b ∷ bs) (c ∷ cs) = (
  λ e. ap₂ (λ (x : ℕ) (xs : List ℕ). x ∷ xs) (eqb-true b c (and_left (eqb b c) (same bs cs) e)) ((same-exact bs cs).0 (and_right (eqb b c) (same bs cs) e)),
  λ e. and_both (eqb b c) (same bs cs) (eq-eqb b c (cc)) ((same-exact bs cs).1 (cc)),
)

-- a text is read back to f exactly if f is expressible and the text is f's sentence
pub read_back : (bs : List ℕ) (f : Facts) → (parsed bs ≡ facts f) ↔ (Expressible f × (bs ≡ sentence_text f))
unfolding parsed
read_back bs f = (to (expressible (candidate bs) && same (sentence_text (candidate bs)) bs) refl, from)
  where
    whole : (expressible (candidate bs) && same (sentence_text (candidate bs)) bs ≡ true) ↔ (Expressible (candidate bs) × (sentence_text (candidate bs) ≡ bs))
    whole = and-exact (expressible (candidate bs)) (same (sentence_text (candidate bs)) bs) (expressible-exact (candidate bs)) (same-exact (sentence_text (candidate bs)) bs)

    to : (t : Bool) → expressible (candidate bs) && same (sentence_text (candidate bs)) bs ≡ t → cond t (facts (candidate bs)) none ≡ facts f → Expressible f × (bs ≡ sentence_text f)
    to true e q =
        let g : candidate bs ≡ f = cc in
        subst (λ (x : Facts). Expressible x × (bs ≡ sentence_text x)) g ((whole.0 e).0, sym (whole.0 e).1)
    to false e q = let z : ◌≡◌ {A = ℕ} 0 1 = cc in absurd (omega arith)

    from : Expressible f × (bs ≡ sentence_text f) → cond (expressible (candidate bs) && same (sentence_text (candidate bs)) bs) (facts (candidate bs)) none ≡ facts f
    from h =
        let g : candidate bs ≡ f = ap candidate h.1 ∙ numbers-sentence f in
        let t : expressible (candidate bs) && same (sentence_text (candidate bs)) bs ≡ true =
        whole.1 (subst Expressible (sym g) h.0, ap sentence_text g ∙ sym h.1) in
        rw t (ap facts g)

-- .. so the sentence of expressible facts is read back to them
pub sentence-back : (f : Facts) → Expressible f → parsed (sentence_text f) ≡ facts f
sentence-back f h = (read_back (sentence_text f) f).1 (h, refl)

-- nothing is found exactly if it is the sentence of no expressible facts
pub none-exact : (bs : List ℕ) → (parsed bs ≡ none) ↔ ((f : Facts) → Expressible f → ¬ (bs ≡ sentence_text f))
none-exact bs = (λ e f h q. different f (sym ((read_back bs f).1 (h, q)) ∙ e), λ h. go (parsed bs) refl h)
  where
    different : (f : Facts) → facts f ≡ none → ⊥
    different f e = let z : ◌≡◌ {A = ℕ} 0 1 = cc in omega arith

    go : (u : ParsedSentence) → parsed bs ≡ u → ((f : Facts) → Expressible f → ¬ (bs ≡ sentence_text f)) → u ≡ none
    go (facts f) e h = let q = (read_back bs f).0 e in absurd (h f q.0 q.1)
    go none e h = refl

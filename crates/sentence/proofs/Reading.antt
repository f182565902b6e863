-- Words and numbers at the front of a text: a word is there or not, and a run of digits is one number in decimal or none.
use mathlib.Core.Bool.{Bool, true, false, ◌&&◌, cond, false≢true}
use mathlib.Core.List.{List, [], ◌∷◌, ◌++◌}
use mathlib.Core.Path.{◌≡◌, refl, ap, ap₂, sym, subst, ◌∙◌}
use Prim.Native.Nat.{ℕ, suc, ◌*◌, ◌-◌, ◌^◌, ◌≤◌, ◌<◌}
use native.Mathlib.Nat.{mul-le-mul_left, pow-le-pow_right}
use native.Mathlib.Omega.{arith}
use lib.ListN.{length, get_or, take, drop, length-append, take-append-drop, get_or-append}
use lib.Seq.{take-append_seam, length-take-le, get_or-take}
use lib.Dec.{eqb, ltb}
use borrow.Author.Tests.{eqb-true, eq-eqb, ne_eqb, ltb-false}
use Rattle.std.proofs.Common.{Option}
use Rattle.std.specs.Option.{MatchOption, unwrap_or}
use Rattle.std.specs.List.{AllWithin, HoldsAt}
use Rattle.std.specs.Cmp.Lexicographic.{pointwise}
use Rattle.std.proofs.lemmas.Iterator.{index_from_first}
use Rattle.model.proofs.Bools.{and_left, and_right, and_both}
use Rattle.std.proofs.lemmas.Bool.{false_from_ne_true}
use Rattle.text.specs.Decimal.{all, is_digit, Digit, value, decimal}
use Rattle.text.proofs.Values.{digit-exact, digits-exact}
use Rattle.text.proofs.Decimals.{decimal-digits, decimal-some, decimal-length, decimal-lead, decimal-only, count-one}
use Rattle.sentence.specs.Parsed.{same}
use Rattle.sentence.specs.Reading.{starts_with, digits_of, Stops}

-- WORDS

-- a text begins with a word: the word and the rest
pub begins-there : (word bs : List ℕ) → starts_with word bs ≡ true → bs ≡ word ++ drop (length word) bs
unfolding starts_with
begins-there [] bs e = refl
begins-there (c ∷ cs) [] e = absurd (false≢true e)
begins-there (c ∷ cs) (b ∷ bs) e =
    ap₂ (λ (x : ℕ) (xs : List ℕ). x ∷ xs) (sym (eqb-true c b (and_left (eqb c b) (starts_with cs bs) e))) (begins-there cs bs (and_right (eqb c b) (starts_with cs bs) e))

pub begins-append : (word rest : List ℕ) → starts_with word (word ++ rest) ≡ true
unfolding starts_with
begins-append [] rest = refl
begins-append (c ∷ cs) rest = and_both (eqb c c) (starts_with cs (cs ++ rest)) (eq-eqb c c refl) (begins-append cs rest)

-- the test of the library is the same
pub begins-pointwise : (word bs : List ℕ) → pointwise eqb word (take (length word) bs) ≡ starts_with word bs
unfolding starts_with
begins-pointwise [] bs = refl
begins-pointwise (c ∷ cs) [] = refl
begins-pointwise (c ∷ cs) (b ∷ bs) = ap (λ (t : Bool). eqb c b && t) (begins-pointwise cs bs)

eqb_sym : (a b : ℕ) → eqb a b ≡ eqb b a
eqb_sym a b = go (eqb a b) refl
  where
    go : (t : Bool) → eqb a b ≡ t → eqb a b ≡ eqb b a
    go true e = subst (λ (x : ℕ). eqb a x ≡ eqb x a) (eqb-true a b e) refl
    go false e = e ∙ sym (ne_eqb b a (λ p. false≢true (sym e ∙ eq-eqb a b (sym p))))

-- .. also of the one that takes the word off
pub front-begins : (word bs : List ℕ) → pointwise eqb (take (length word) bs) word ≡ starts_with word bs
unfolding starts_with
front-begins [] bs = refl
front-begins (c ∷ cs) [] = refl
front-begins (c ∷ cs) (b ∷ bs) = λ i. eqb_sym b c i && front-begins cs bs i

-- DIGITS

pub digits-within : (bs : List ℕ) → digits_of bs ≤ length bs
unfolding digits_of
digits-within [] = omega arith
digits-within (b ∷ bs) = go (is_digit b) (digits-within bs)
  where
    go : (t : Bool) → digits_of bs ≤ length bs → cond t (suc (digits_of bs)) 0 ≤ suc (length bs)
    go true ih = omega arith
    go false ih = omega arith

pub digits-all : (bs : List ℕ) → all is_digit (take (digits_of bs) bs) ≡ true
unfolding digits_of all
digits-all [] = refl
digits-all (b ∷ bs) = go (is_digit b) refl (digits-all bs)
  where
    go : (t : Bool) → is_digit b ≡ t → all is_digit (take (digits_of bs) bs) ≡ true → all is_digit (take (cond t (suc (digits_of bs)) 0) (b ∷ bs)) ≡ true
    go true e ih = and_both (is_digit b) (all is_digit (take (digits_of bs) bs)) e ih
    go false e ih = refl

pub digits-stop : (bs : List ℕ) → Stops (drop (digits_of bs) bs)
unfolding digits_of
digits-stop [] = refl
digits-stop (b ∷ bs) = go (is_digit b) refl (digits-stop bs)
  where
    go : (t : Bool) → is_digit b ≡ t → Stops (drop (digits_of bs) bs) → Stops (drop (cond t (suc (digits_of bs)) 0) (b ∷ bs))
    go true e ih = ih
    go false e ih = e

digits_append : (ds rest : List ℕ) → all is_digit ds ≡ true → Stops rest → digits_of (ds ++ rest) ≡ length ds
unfolding digits_of all
digits_append [] [] e h = refl
digits_append [] (b ∷ bs) e h = rw h
digits_append (d ∷ ds) rest e h =
    rw (and_left (is_digit d) (all is_digit ds) e) (ap suc (digits_append ds rest (and_right (is_digit d) (all is_digit ds) e) h))

-- .. and the index of the first byte that is no digit ends them, where there is one
pub digits-first :
    (bs : List ℕ) (r : Option ℕ)
    → MatchOption r (AllWithin Digit bs 0 (length bs)) (λ i. (i < length bs) × HoldsAt (λ b. Digit b → ⊥) bs i × AllWithin Digit bs 0 i)
    → digits_of bs ≡ unwrap_or r (length bs)
unfolding digits_of
digits-first bs r h =
    index_from_first digits_of (λ b. Digit b → ⊥) Digit refl
    (λ b bs n. rw (false_from_ne_true (is_digit b) (λ e. n ((digit-exact b).0 e))))
    (λ b bs d. rw ((digit-exact b).1 d) (omega arith))
    bs r h

-- NUMBERS

-- the digits at the front of a text
abbrev pub front : List ℕ → List ℕ
front bs = take (digits_of bs) bs

-- where they are one or more, and have no zero in front, they are their number in decimal
pub number-there : (bs : List ℕ) → 1 ≤ digits_of bs → eqb (get_or bs 0 0) 48 && ltb 1 (digits_of bs) ≡ false →
    bs ≡ decimal (value (front bs)) ++ drop (digits_of bs) bs
number-there bs s z =
    let n : length (front bs) ≡ digits_of bs = length-take-le (digits_of bs) bs (digits-within bs) in
    let same : get_or (front bs) 0 0 ≡ get_or bs 0 0 = get_or-take (digits_of bs) bs 0 0 s in
    sym (take-append-drop (digits_of bs) bs)
    ∙ ap (λ (ds : List ℕ). ds ++ drop (digits_of bs) bs)
    (decimal-only (front bs) ((digits-exact (front bs)).0 (digits-all bs)) (omega arith) (λ e. go (ltb 1 (digits_of bs)) refl n (sym same ∙ e)))
  where
    go : (t : Bool) → ltb 1 (digits_of bs) ≡ t → length (front bs) ≡ digits_of bs → get_or bs 0 0 ≡ 48 → length (front bs) ≡ 1
    go true e n q = absurd (false≢true (sym z ∙ and_both (eqb (get_or bs 0 0) 48) (ltb 1 (digits_of bs)) (eq-eqb (get_or bs 0 0) 48 q) e))
    go false e n q = let l = ltb-false 1 (digits_of bs) e in omega arith

-- the digits of a text that begins with a number are that number's
pub number-front : (bs rest : List ℕ) (n : ℕ) → Stops rest → bs ≡ decimal n ++ rest → (digits_of bs ≡ length (decimal n)) × (front bs ≡ decimal n)
number-front bs rest n h e =
    let l : digits_of bs ≡ length (decimal n) = ap digits_of e ∙ digits_append (decimal n) rest ((digits-exact (decimal n)).1 (decimal-digits n)) h in
    (l, ap₂ (λ (k : ℕ) (xs : List ℕ). take k xs) l e ∙ take-append_seam (decimal n) rest)

-- .. so they have no zero in front
pub number-plain : (bs rest : List ℕ) (n : ℕ) → Stops rest → bs ≡ decimal n ++ rest → eqb (get_or bs 0 0) 48 && ltb 1 (digits_of bs) ≡ false
number-plain bs rest n h e = go (eqb (get_or bs 0 0) 48) refl
  where
    not-below : (k : ℕ) → k ≡ 1 → ltb 1 k ≡ false
    not-below k q = rw q

    go : (t : Bool) → eqb (get_or bs 0 0) 48 ≡ t → t && ltb 1 (digits_of bs) ≡ false
    go false q = refl
    go true q =
        let f : get_or bs 0 0 ≡ get_or (decimal n) 0 0 = ap (λ (xs : List ℕ). get_or xs 0 0) e ∙ get_or-append (decimal n) rest 0 0 (decimal-some n) in
        let z : n ≡ 0 = decimal-lead n (sym f ∙ eqb-true (get_or bs 0 0) 48 q) in
        let l = (number-front bs rest n h e).0 in
        let m = decimal-length n in
        let o = count-one n (omega arith) in
        not-below (digits_of bs) (omega arith)

-- the first digits represent no more than all
value-first : (xs ys : List ℕ) → value xs ≤ value (xs ++ ys)
unfolding value
value-first [] ys = omega arith
value-first (x ∷ xs) ys =
    let ih = value-first xs ys in
    let m : (x - 48) * 10 ^ length xs ≤ (x - 48) * 10 ^ length (xs ++ ys) = mul-le-mul_left (x - 48) (pow-le-pow_right (omega arith) (omega (arith, length-append xs ys))) in
    omega arith

pub value-front : (k : ℕ) (ds : List ℕ) → value (take k ds) ≤ value ds
value-front k ds = subst (λ (xs : List ℕ). value (take k ds) ≤ value xs) (take-append-drop k ds) (value-first (take k ds) (drop k ds))

-- THE END

-- the library's test of two texts is the same
pub same-pointwise : (bs cs : List ℕ) → pointwise eqb bs cs ≡ same bs cs
unfolding same
same-pointwise [] [] = refl
same-pointwise [] (c ∷ cs) = refl
same-pointwise (b ∷ bs) [] = refl
same-pointwise (b ∷ bs) (c ∷ cs) = ap (λ (t : Bool). eqb b c && t) (same-pointwise bs cs)

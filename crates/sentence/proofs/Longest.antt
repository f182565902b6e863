-- How long a sentence can be: its words have 38 bytes, a part's 12, and the numbers as many digits as the limits allow.
-- Where ten ticks or more were had, no count has seven digits.
use mathlib.Core.Bool.{Bool, true, false}
use mathlib.Core.List.{List, [], ◌∷◌, ◌++◌}
use mathlib.Core.Path.{◌≡◌, refl}
use Prim.Native.Nat.{ℕ, suc, ◌+◌, ◌*◌, ◌≤◌, ◌<◌, max}
use native.Mathlib.Nat.{mul-le-mul_left}
use native.Mathlib.Omega.{arith}
use lib.ListN.{length, replicate, length-append}
use lib.Dec.{ltb}
use borrow.Author.Tests.{ltb-true, ltb-false}
use Rattle.text.specs.Decimal.{decimal, last_digits, digit_count, digits_within}
use Rattle.text.specs.Output.{letters}
use Rattle.text.proofs.Decimals.{decimal-length, count-one, count_most}
use Rattle.sentence.specs.Facts.{Facts, Part, MayFollow, Ascending, named, named_from}
use Rattle.sentence.specs.Sentence.{word_field, parts, sentence_head, sentence_text}
use Rattle.sentence.specs.Limits.{CountsWithin, FactsWithinLimits, longest_sentence}

-- a field's length
field-length : (word : List ℕ) (n : ℕ) (rest : List ℕ) → length (word_field word n rest) ≡ length word + digit_count n + length rest
field-length word n rest =
    let a = length-append word (decimal n ++ rest) in
    let b = length-append (decimal n) rest in
    let c = decimal-length n in
    omega arith

-- a position has one digit up to 9 and two up to 31
position-digits : (last q : ℕ) → last < q → q < 32 → digit_count q + max last 9 ≤ 1 + max q 9
position-digits last q l h = go (ltb q 10) refl
  where
    go : (t : Bool) → ltb q 10 ≡ t → digit_count q + max last 9 ≤ 1 + max q 9
    go true e = let b = ltb-true q 10 e in let c = count-one q b in omega arith
    go false e = let b = ltb-false q 10 e in let c = count_most 1 q (omega arith) in omega arith

-- the parts, where each count has at most d digits
parts-short : (d had last position : ℕ) (ps : List Part) (rest : List ℕ) → position ≤ 32 → last ≤ 31 → Ascending last position ps → CountsWithin had 1000000 ps →
    ((n : ℕ) → had + n ≤ 1000000 → digit_count n ≤ d) → length (parts ps rest) + (13 + d) * last + max last 9 ≤ (13 + d) * 31 + 31 + length rest
unfolding parts Ascending CountsWithin
parts-short d had last position [] rest p l r t c = let m : (13 + d) * last ≤ (13 + d) * 31 = mul-le-mul_left (13 + d) l in omega arith
parts-short d had last position (x ∷ ps) rest p l r t c =
    let f : MayFollow last position x = r.0 in
    let u : last < x.position = f.later in
    let w : x.position < position = f.above in
    let ih = parts-short d had x.position position ps rest p (omega arith) r.1 t.1 c in
    let a = field-length (letters "; task ") x.position (word_field (letters " ran ") x.count (parts ps rest)) in
    let b = field-length (letters " ran ") x.count (parts ps rest) in
    let e = position-digits last x.position u (omega arith) in
    let g = c x.count t.0 in
    let m : (13 + d) * suc last ≤ (13 + d) * x.position = mul-le-mul_left (13 + d) u in
    omega arith

-- the whole sentence
pub sentence-short : (last : ℕ) (f : Facts) → FactsWithinLimits last f → length (sentence_text f) ≤ longest_sentence last
unfolding sentence_text sentence_head
sentence-short last f h = go (ltb f.had 10) refl
  where
    rest : List ℕ
    rest = parts f.others (letters ".")

    words : length (sentence_text f) ≡ 37 + digit_count f.position + digit_count f.tick + digit_count f.had + digit_count f.length + length rest
    words =
        let e = field-length (letters " of ") f.length (letters " ticks" ++ rest) in
        let d = field-length (letters " with ") f.had (word_field (letters " of ") f.length (letters " ticks" ++ rest)) in
        let c = field-length (letters " misses at tick ") f.tick (word_field (letters " with ") f.had (word_field (letters " of ") f.length (letters " ticks" ++ rest))) in
        let b = field-length (letters "task ") f.position
        (word_field (letters " misses at tick ") f.tick (word_field (letters " with ") f.had (word_field (letters " of ") f.length (letters " ticks" ++ rest)))) in
        omega arith

    go : (t : Bool) → ltb f.had 10 ≡ t → length (sentence_text f) ≤ longest_sentence last
    go true e =
        let o = count-one f.had (ltb-true f.had 10 e) in
        let p = count_most 1 f.position (omega (arith, h.position)) in
        let l = count_most 6 f.length (omega (arith, h.length)) in
        let s = parts-short 7 f.had 0 f.position f.others (letters ".") h.position (omega arith) h.others h.together (λ n q. count_most 6 n (omega arith)) in
        omega (arith, words, h.tick)
    go false e =
        let b = ltb-false f.had 10 e in
        let o = count_most 5 f.had (omega (arith, h.short, h.length)) in
        let p = count_most 1 f.position (omega (arith, h.position)) in
        let l = count_most 6 f.length (omega (arith, h.length)) in
        let s = parts-short 6 f.had 0 f.position f.others (letters ".") h.position (omega arith) h.others h.together (λ n q. count_most 5 n (omega arith)) in
        omega (arith, words, h.tick)

-- .. in numbers
pub longest-now : longest_sentence 1000000000 ≡ 700
unfolding digit_count digits_within
longest-now = refl

-- it is reached, which states that the bound is the least (nothing cites it): 32 tasks, each above the late one ran in all of its 1,000,000 waiting ticks
pub longest-reached : length (sentence_text (record { position = 32; tick = 1000000000; had = 0; length = 1000000; others = named (replicate 31 1000000) })) ≡ 700
unfolding sentence_text sentence_head parts named_from decimal last_digits digit_count digits_within
longest-reached = refl

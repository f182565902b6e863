-- Bytes put one after the other into a buffer that has space for all of them, and the parts of an array one count after the other.
use mathlib.Core.Bool.{Bool, true, false, cond}
use mathlib.Core.List.{List, [], ◌∷◌, ◌++◌, append_assoc, append-nil}
use mathlib.Core.Path.{◌≡◌, refl, ap, sym, subst, ◌∙◌}
use Prim.Native.Nat.{ℕ, suc, ◌+◌, ◌≤◌, ◌<◌}
use native.Mathlib.Nat.{add-zero}
use native.Mathlib.Numerals.{add-one}
use native.Mathlib.Omega.{arith}
use lib.ListN.{length, get_or, take, drop, length-append, take-append-drop}
use lib.Seq.{take-suc, take-length, length-take-le}
use lib.Dec.{eqb}
use borrow.Author.Tests.{ne_eqb}
use Rattle.text.specs.Decimal.{decimal}
use Rattle.text.specs.Output.{letters}
use Rattle.text.specs.Written.{Put}
use Rattle.text.proofs.Writing.{put_then, put-length}
use Rattle.sentence.specs.Facts.{Facts, Part, named, named_from}
use Rattle.sentence.specs.Sentence.{word_field, parts, sentence_head, sentence_text}
use Rattle.sentence.proofs.Naming.{parts-append}

-- there is space for what comes next
pub room_after : {a b : List ℕ} {i j : ℕ} {s : List ℕ} (u : List ℕ) → Put a i s b j → i + length (s ++ u) ≤ length a → j + length u ≤ length b
room_after {a} {b} {i} {j} {s} u p h =
    let n = length-append s u in
    let e : length b ≡ length a = put-length p (omega (arith, p.ends)) in
    omega (arith, p.ends)

-- one more
pub put_both : {a b c : List ℕ} {i j k : ℕ} {s u : List ℕ} → Put a i s b j → Put b j u c k → i + length (s ++ u) ≤ length a → Put a i (s ++ u) c k
put_both {s = s} {u = u} p q h = let n = length-append s u in put_then p q (omega (arith, p.ends, q.ends))

-- a word that is copied whole
pub put_word : {a b : List ℕ} {i j : ℕ} (word : List ℕ) → Put a i (take (length word) (drop 0 word)) b j → Put a i word b j
put_word {a} {b} {i} {j} word p = subst (λ (s : List ℕ). Put a i s b j) (take-length word) p

-- the parts, and then the rest
pub parts-rest : (ps : List Part) (rest : List ℕ) → parts ps rest ≡ parts ps [] ++ rest
unfolding parts
parts-rest [] rest = refl
parts-rest (p ∷ ps) rest =
    ap (λ (x : List ℕ). word_field (letters "; task ") p.position (word_field (letters " ran ") p.count x)) (parts-rest ps rest) ∙ simp append_assoc

-- counts and more counts
named-append : (i : ℕ) (xs ys : List ℕ) → named_from i (xs ++ ys) ≡ named_from i xs ++ named_from (i + length xs) ys
unfolding named_from
named-append i [] ys = ap (λ (k : ℕ). named_from k ys) (sym (add-zero i))
named-append i (x ∷ xs) ys = go (eqb x 0) (named-append (suc i) xs ys)
  where
    more : suc i + length xs ≡ i + suc (length xs)
    more = omega arith

    go : (t : Bool) → named_from (suc i) (xs ++ ys) ≡ named_from (suc i) xs ++ named_from (suc i + length xs) ys →
        cond t (named_from (suc i) (xs ++ ys)) (record { position = suc i; count = x } ∷ named_from (suc i) (xs ++ ys))
        ≡ cond t (named_from (suc i) xs) (record { position = suc i; count = x } ∷ named_from (suc i) xs) ++ named_from (i + suc (length xs)) ys
    go true ih = ih ∙ ap (λ (k : ℕ). named_from (suc i) xs ++ named_from k ys) more
    go false ih = ap (λ (ps : List Part). record { position = suc i; count = x } ∷ ps) (ih ∙ ap (λ (k : ℕ). named_from (suc i) xs ++ named_from k ys) more)

parts-named : (xs ys : List ℕ) → parts (named (xs ++ ys)) [] ≡ parts (named xs) [] ++ parts (named_from (length xs) ys) []
parts-named xs ys =
    ap (λ (ps : List Part). parts ps []) (named-append 0 xs ys) ∙ parts-append (named xs) (named_from (0 + length xs) ys) []
    ∙ parts-rest (named xs) (parts (named_from (0 + length xs) ys) []) ∙ ap (λ (k : ℕ). parts (named xs) [] ++ parts (named_from k ys) []) zero-first
  where
    zero-first : 0 + length xs ≡ length xs
    zero-first = omega arith

-- one count more
pub parts_next : (ran : List ℕ) (k : ℕ) → k < length ran → parts (named (take k ran)) [] ++ parts (named_from k (get_or ran k 0 ∷ [])) [] ≡ parts (named (take (k + 1) ran)) []
parts_next ran k h =
    let n : length (take k ran) ≡ k = length-take-le k ran (omega arith) in
    ap (λ (j : ℕ). parts (named (take k ran)) [] ++ parts (named_from j (get_or ran k 0 ∷ [])) []) (sym n) ∙ sym (parts-named (take k ran) (get_or ran k 0 ∷ []))
    ∙ ap (λ (xs : List ℕ). parts (named xs) []) (sym (ap (λ (j : ℕ). take j ran) (add-one k) ∙ take-suc ran k 0 h))

-- the first counts take no more space than all
pub parts_first : (ran : List ℕ) (k : ℕ) → length (parts (named (take k ran)) []) ≤ length (parts (named ran) [])
parts_first ran k =
    let e : parts (named ran) [] ≡ parts (named (take k ran)) [] ++ parts (named_from (length (take k ran)) (drop k ran)) [] =
    ap (λ (xs : List ℕ). parts (named xs) []) (sym (take-append-drop k ran)) ∙ parts-named (take k ran) (drop k ran) in
    let n = ap length e ∙ length-append (parts (named (take k ran)) []) (parts (named_from (length (take k ran)) (drop k ran)) []) in
    omega arith

-- a count of 0 names no part, any other names one
pub part_none : (q n : ℕ) → n ≡ 0 → parts (named_from q (n ∷ [])) [] ≡ []
unfolding parts named_from
part_none q n e = rw e

pub part-some : (q n : ℕ) → (n ≡ 0 → ⊥) → parts (named_from q (n ∷ [])) [] ≡ (letters "; task " ++ decimal (q + 1)) ++ (letters " ran " ++ decimal n)
unfolding parts named_from
part-some q n h =
    let e : eqb n 0 ≡ false = ne_eqb n 0 h in
    let z : q + 1 ≡ suc q = omega arith in
    rw (e, z) (simp (append_assoc, append-nil))

-- there is space for the first of two
pub room-first : (i n : ℕ) (s u : List ℕ) → i + length (s ++ u) ≤ n → i + length s ≤ n
room-first i n s u h = omega (arith, length-append s u)

in_a_row : (a b c d e f g : List ℕ) → (((((a ++ b) ++ c) ++ d) ++ e) ++ f) ++ g ≡ a ++ (b ++ (c ++ (d ++ (e ++ (f ++ g)))))
in_a_row a b c d e f g = simp append_assoc

-- the pieces of a sentence, in the order in which they are put
module _ (f : Facts) where
  abbrev pub first : List ℕ
  first = letters "task " ++ decimal f.position

  abbrev pub second : List ℕ
  second = letters " misses at tick " ++ decimal f.tick

  abbrev pub third : List ℕ
  third = letters " with " ++ decimal f.had

  abbrev pub fourth : List ℕ
  fourth = letters " of " ++ decimal f.length

  abbrev pub up_to4 : List ℕ
  up_to4 = ((first ++ second) ++ third) ++ fourth

  abbrev pub up_to6 : List ℕ
  up_to6 = (up_to4 ++ letters " ticks") ++ parts f.others []

  pub pieces : up_to6 ++ letters "." ≡ sentence_text f
  unfolding sentence_text sentence_head
  pieces =
      in_a_row first second third fourth (letters " ticks") (parts f.others []) (letters ".")
      ∙ ap (λ (x : List ℕ). first ++ (second ++ (third ++ (fourth ++ (letters " ticks" ++ x))))) (sym (parts-rest f.others (letters ".")))

  -- the space that a buffer has which the sentence fits in
  module _ (n : ℕ) (fits : length (sentence_text f) ≤ n) where
    pub room-7 : 0 + length (up_to6 ++ letters ".") ≤ n
    room-7 = subst (λ (x : List ℕ). 0 + length x ≤ n) (sym pieces) (omega arith)

    pub room-6 : 0 + length up_to6 ≤ n
    room-6 = room-first 0 n up_to6 (letters ".") room-7

    pub room-5 : 0 + length (up_to4 ++ letters " ticks") ≤ n
    room-5 = room-first 0 n (up_to4 ++ letters " ticks") (parts f.others []) room-6

    pub room-4 : 0 + length up_to4 ≤ n
    room-4 = room-first 0 n up_to4 (letters " ticks") room-5

    pub room-3 : 0 + length ((first ++ second) ++ third) ≤ n
    room-3 = room-first 0 n ((first ++ second) ++ third) fourth room-4

    pub room-2 : 0 + length (first ++ second) ≤ n
    room-2 = room-first 0 n (first ++ second) third room-3

    pub room-1 : 0 + length first ≤ n
    room-1 = room-first 0 n first second room-2

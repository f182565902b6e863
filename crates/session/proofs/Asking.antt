-- The operation of a line, as the code finds it: the numbers after the letter by the first space among them, and the operation by its letter.
use mathlib.Core.Bool.{Bool, true, false, cond}
use mathlib.Core.List.{List, [], ◌∷◌}
use mathlib.Core.Logic.{⊎_elim}
use mathlib.Core.Path.{◌≡◌, refl, sym, ap, ap₂, ◌∙◌}
use Prim.Native.Nat.{ℕ, suc, ◌+◌, ◌*◌, ◌-◌, ◌≤◌, ◌<◌}
use native.Mathlib.Nat.{not-suc-le-zero, le_of_suc-le-suc, eq-or-lt_of_le}
use native.Mathlib.Omega.{arith}
use lib.ListN.{length, get_or, take, drop, length-take, length-drop}
use lib.Seq.{take_all}
use lib.Dec.{eqb, leb}
use borrow.Author.Tests.{ne_eqb, leb-true, leb-false}
use Rattle.text.specs.Format.{most_digits}
use Rattle.text.specs.Input.{length_to, parse_number}
use Rattle.text.specs.Output.{space}
use Rattle.std.proofs.Common.{Option, Some, None, option_map}
use Rattle.text.proofs.Lines.{mark-within, mark-stop}
use Rattle.text.proofs.Numbers.{found_nothing}
use Rattle.splitter.specs.Words.{words_in}
use Rattle.splitter.proofs.Words.{words-one, words_more}
use Rattle.session.specs.declared.operations.Numbers.{Numbers}
use Rattle.session.specs.declared.operations.Numbers.TheVariants.{Bare, One, Two}
use Rattle.std.specs.Option.{MatchOption, IsSomeAnd}
use Rattle.session.specs.declared.operations.Operation.{Operation}
use Rattle.session.specs.declared.operations.Operation.TheVariants.{Withdraw, WithdrawAll, Row, Sets, Working}
use Rattle.session.specs.Operation.{none_long, one_of, two_of, numbers_of, numbers_after, one_in, empties_in, advance_by, row_by, sets_by, working_by, withdraw_by, withdraw_all_by}
use Rattle.session.specs.Operation.{operation_by, operation_with, operation_of}

-- WORDS

-- there is a word
words-some : (l : List ℕ) → (w : List ℕ) × (ws : List (List ℕ)) × (words_in l ≡ w ∷ ws)
words-some l = ⊎_elim (λ e. (l, [], words-one l e)) (λ h. (take (length_to space l) l, words_in (drop (suc (length_to space l)) l), words_more l h)) (eq-or-lt_of_le (mark-within space l))

-- NUMBERS

-- a text with a space represents no number
spaced : (l : List ℕ) → length_to space l < length l → None ≡ parse_number l
spaced l h = found_nothing l (λ n. omega (arith, mark-stop space l h, n.digits (length_to space l) h))

two_none : (f : Option ℕ) → two_of f None ≡ None
two_none (Some n) = refl
two_none None = refl

-- three words or more are no numbers
numbers-many : (w v l : List ℕ) → numbers_of (w ∷ v ∷ words_in l) ≡ None
unfolding numbers_of
numbers-many w v l = let s = words-some l in ap (λ (ls : List (List ℕ)). numbers_of (w ∷ v ∷ ls)) s.2

numbers-last : (w l : List ℕ) → numbers_of (w ∷ words_in l) ≡ two_of (parse_number w) (parse_number l)
unfolding numbers_of
numbers-last w l = ⊎_elim whole part (eq-or-lt_of_le (mark-within space l))
  where
    whole : length_to space l ≡ length l → numbers_of (w ∷ words_in l) ≡ two_of (parse_number w) (parse_number l)
    whole e = ap (λ (ls : List (List ℕ)). numbers_of (w ∷ ls)) (words-one l e)

    part : length_to space l < length l → numbers_of (w ∷ words_in l) ≡ two_of (parse_number w) (parse_number l)
    part h =
        ap (λ (ls : List (List ℕ)). numbers_of (w ∷ ls)) (words_more l h) ∙ numbers-many w (take (length_to space l) l) (drop (suc (length_to space l)) l)
        ∙ sym (two_none (parse_number w)) ∙ ap (two_of (parse_number w)) (spaced l h)

-- with no space there is one number or none
numbers-one : (l : List ℕ) → length_to space l ≡ length l → numbers_of (words_in l) ≡ one_of (parse_number l)
unfolding numbers_of
numbers-one l e = ap numbers_of (words-one l e)

-- else what is before the first space and what is after it are the two numbers
numbers-two :
    (l : List ℕ) → length_to space l < length l
    → numbers_of (words_in l) ≡ two_of (parse_number (take (length_to space l) l)) (parse_number (drop (suc (length_to space l)) l))
numbers-two l h = ap numbers_of (words_more l h) ∙ numbers-last (take (length_to space l) l) (drop (suc (length_to space l)) l)

-- AFTER THE LETTER

pub behind-none : (l : List ℕ) → length l ≡ 0 → Some Bare ≡ numbers_after l
unfolding numbers_after
behind-none [] e = refl
behind-none (b ∷ l) e = absurd (omega arith)

-- a word after the first byte ends within the bytes
pub word_end : (l : List ℕ) (end : ℕ) → (length l ≡ 0 → ⊥) → end ≡ 1 + length_to space (drop 1 l) → end ≤ length l
word_end [] end n e = absurd (n refl)
word_end (b ∷ l) end n e = omega (arith, e, mark-within space l)

behind-space : (b : ℕ) (l : List ℕ) → b ≡ space → numbers_of (words_in l) ≡ numbers_after (b ∷ l)
unfolding numbers_after
behind-space b l e = rw e

pub behind-one :
    (l : List ℕ) (end : ℕ) → (length l ≡ 0 → ⊥) → get_or l 0 0 ≡ space → end ≡ 1 + length_to space (drop 1 l) → end ≡ length l
    → one_of (parse_number (take (end - 1) (drop 1 l))) ≡ numbers_after l
behind-one [] end n q e h = absurd (n refl)
behind-one (b ∷ l) end n q e h =
    let whole : length_to space l ≡ length l = omega arith in
    ap (λ (x : List ℕ). one_of (parse_number x)) (take_all (end - 1) l (omega arith)) ∙ sym (numbers-one l whole) ∙ behind-space b l q

pub behind-two :
    (l : List ℕ) (end : ℕ) → (length l ≡ 0 → ⊥) → get_or l 0 0 ≡ space → end ≡ 1 + length_to space (drop 1 l) → (end ≡ length l → ⊥)
    → two_of (parse_number (take (end - 1) (drop 1 l))) (parse_number (take (length l - (end + 1)) (drop (end + 1) l))) ≡ numbers_after l
behind-two [] end n q e h = absurd (n refl)
behind-two (b ∷ l) end n q e h =
    ap₂ (λ (x y : List ℕ). two_of (parse_number x) (parse_number y)) (ap (λ (i : ℕ). take i l) first) (ap (λ (i : ℕ). take (length (b ∷ l) - i) (drop i (b ∷ l))) second ∙ rest)
    ∙ sym (numbers-two l part) ∙ behind-space b l q
  where
    part : length_to space l < length l
    part = omega (arith, mark-within space l, e, h)

    first : end - 1 ≡ length_to space l
    first = omega (arith, e)

    second : end + 1 ≡ suc (suc (length_to space l))
    second = omega (arith, e)

    rest : take (length (b ∷ l) - suc (suc (length_to space l))) (drop (suc (length_to space l)) l) ≡ drop (suc (length_to space l)) l
    rest = take_all (length (b ∷ l) - suc (suc (length_to space l))) (drop (suc (length_to space l)) l) (omega (arith, length-drop (suc (length_to space l)) l))

-- what is before the first space is no number
pub behind-first :
    (l : List ℕ) (end : ℕ) → (length l ≡ 0 → ⊥) → get_or l 0 0 ≡ space → end ≡ 1 + length_to space (drop 1 l) → None ≡ parse_number (take (end - 1) (drop 1 l))
    → None ≡ numbers_after l
behind-first l end n q e f = ⊎_elim whole part (eq-or-lt_of_le (word_end l end n e))
  where
    whole : end ≡ length l → None ≡ numbers_after l
    whole h = ap one_of f ∙ behind-one l end n q e h

    part : end < length l → None ≡ numbers_after l
    part h =
        ap (λ (x : Option ℕ). two_of x (parse_number (take (length l - (end + 1)) (drop (end + 1) l)))) f
        ∙ behind-two l end n q e (λ k. omega (arith, h, k))

pub behind-other : (l : List ℕ) → (length l ≡ 0 → ⊥) → (get_or l 0 0 ≡ space → ⊥) → None ≡ numbers_after l
unfolding numbers_after
behind-other [] n q = absurd (n refl)
behind-other (b ∷ l) n q = rw (ne_eqb b space q)

-- THE OPERATION

-- an operation with a number, where there is one
pub with-number :
    {Q : ℕ → Operation → Type 0} (f : ℕ → Operation) (o : Option ℕ) (r : Option Operation) → MatchOption o (r ≡ None) (λ x. IsSomeAnd r (Q x))
    → ((x : ℕ) (y : Operation) → Q x y → y ≡ f x) → r ≡ option_map f o
with-number f None r h g = h
with-number f (Some x) (Some y) h g = ap Some (g x y h)
with-number f (Some x) None h g = absurd h

-- an operation with a set of empties, and one with a number
pub with-row : (ns : Numbers) → option_map Row (empties_in ns) ≡ row_by ns
with-row Bare = refl
with-row (One e) = refl
with-row (Two e n) = refl

pub with-sets : (ns : Numbers) → option_map Sets (empties_in ns) ≡ sets_by ns
with-sets Bare = refl
with-sets (One e) = refl
with-sets (Two e n) = refl

pub with-working : (ns : Numbers) → option_map Working (empties_in ns) ≡ working_by ns
with-working Bare = refl
with-working (One e) = refl
with-working (Two e n) = refl

pub with-withdraw : (ns : Numbers) → option_map Withdraw (one_in ns) ≡ withdraw_by ns
with-withdraw Bare = refl
with-withdraw (One p) = refl
with-withdraw (Two p n) = refl

pub with-withdraw-all : (ns : Numbers) → option_map WithdrawAll (one_in ns) ≡ withdraw_all_by ns
with-withdraw-all Bare = refl
with-withdraw-all (One x) = refl
with-withdraw-all (Two x n) = refl

pub by-advance : (b : ℕ) (ns : Numbers) → b ≡ 97 → advance_by ns ≡ operation_by b ns
unfolding operation_by
by-advance b ns e = rw e

pub by_row : (b : ℕ) (ns : Numbers) → b ≡ 114 → row_by ns ≡ operation_by b ns
unfolding operation_by
by_row b ns e = rw e

pub by-withdraw : (b : ℕ) (ns : Numbers) → b ≡ 119 → withdraw_by ns ≡ operation_by b ns
unfolding operation_by
by-withdraw b ns e = rw e

pub by-withdraw-all : (b : ℕ) (ns : Numbers) → b ≡ 87 → withdraw_all_by ns ≡ operation_by b ns
unfolding operation_by
by-withdraw-all b ns e = rw e

pub by-sets : (b : ℕ) (ns : Numbers) → b ≡ 115 → sets_by ns ≡ operation_by b ns
unfolding operation_by
by-sets b ns e = rw e

pub by-working : (b : ℕ) (ns : Numbers) → b ≡ 106 → working_by ns ≡ operation_by b ns
unfolding operation_by
by-working b ns e = rw e

pub by-none :
    (b : ℕ) (ns : Numbers) → (b ≡ 97 → ⊥) → (b ≡ 114 → ⊥) → (b ≡ 119 → ⊥) → (b ≡ 87 → ⊥) → (b ≡ 115 → ⊥) → (b ≡ 106 → ⊥) → None ≡ operation_by b ns
unfolding operation_by
by-none b ns a r w v s j = rw (ne_eqb b 97 a, ne_eqb b 114 r, ne_eqb b 119 w, ne_eqb b 87 v, ne_eqb b 115 s, ne_eqb b 106 j)

pub asked-empty : (l : List ℕ) → length l ≡ 0 → None ≡ operation_of l
unfolding operation_of
asked-empty [] e = refl
asked-empty (b ∷ l) e = absurd (omega arith)

pub asked_first : (l : List ℕ) (b : ℕ) (rest : List ℕ) → l ≡ b ∷ rest → operation_with b (numbers_after rest) ≡ operation_of l
unfolding operation_of
asked_first l b rest e = ap operation_of (sym e)

-- a line with a letter and numbers after it
pub asked_numbers : (l : List ℕ) (b : ℕ) (rest : List ℕ) (ns : Numbers) → l ≡ b ∷ rest → Some ns ≡ numbers_after rest → operation_by b ns ≡ operation_of l
asked_numbers l b rest ns e n = ap (operation_with b) n ∙ asked_first l b rest e

-- A LINE THAT IS TOO LONG

-- two numbers and the space between them have at most 21 bytes
numbers-long : (l : List ℕ) → 2 * most_digits + 1 < length l → numbers_of (words_in l) ≡ None
numbers-long l h = ⊎_elim whole part (eq-or-lt_of_le (mark-within space l))
  where
    none : (w : List ℕ) → most_digits < length w → None ≡ parse_number w
    none w q = found_nothing w (λ n. omega (arith, q, n.short))

    whole : length_to space l ≡ length l → numbers_of (words_in l) ≡ None
    whole e = numbers-one l e ∙ ap one_of (sym (none l (omega (arith, h))))

    part : length_to space l < length l → numbers_of (words_in l) ≡ None
    part q = numbers-two l q ∙ go (leb (length_to space l) most_digits) refl
      where
        first : List ℕ
        first = take (length_to space l) l

        second : List ℕ
        second = drop (suc (length_to space l)) l

        go : (t : Bool) → leb (length_to space l) most_digits ≡ t → two_of (parse_number first) (parse_number second) ≡ None
        go true e =
            let s = leb-true (length_to space l) most_digits e in
            ap (two_of (parse_number first)) (sym (none second (omega (arith, h, s, length-drop (suc (length_to space l)) l)))) ∙ two_none (parse_number first)
        go false e =
            let s = leb-false (length_to space l) most_digits e in
            ap (λ (f : Option ℕ). two_of f (parse_number second)) (sym (none first (omega (arith, q, s, length-take (length_to space l) l))))

-- an operation has at most 23 bytes: a letter, and twice a space and ten digits
pub long-none : (l : List ℕ) → none_long ≤ length l → operation_of l ≡ None
unfolding operation_of numbers_after
long-none [] h = absurd (not-suc-le-zero h)
long-none (a ∷ []) h = absurd (not-suc-le-zero (le_of_suc-le-suc h))
long-none (a ∷ b ∷ l) h = ap (operation_with a) (go (eqb b space))
  where
    go : (t : Bool) → cond t (numbers_of (words_in l)) None ≡ None
    go true = numbers-long l (omega (arith, h))
    go false = refl

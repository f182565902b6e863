-- What ends at a mark, and the lines of a text: the first line, and what is left after it.
use mathlib.Core.Bool.{Bool, true, false, cond}
use mathlib.Core.List.{List, [], ◌∷◌, ◌++◌}
use mathlib.Core.Path.{◌≡◌, refl, ap, ◌∙◌}
use Prim.Native.Nat.{ℕ, suc, ◌+◌, ◌≤◌, ◌<◌}
use native.Mathlib.Numerals.{add-one}
use native.Mathlib.Omega.{arith}
use native.Mathlib.Nat.{not-suc-le-zero, le_of_suc-le-suc}
use lib.ListN.{length, get_or, take, drop, drop_of_length-le}
use lib.Seq.{split_at, drop-cons}
use lib.Dec.{eqb}
use borrow.Author.Tests.{eqb-true, eq-eqb, ne_eqb}
use mathlib.Core.Logic.{◌≢◌}
use Rattle.std.proofs.Common.{Option}
use Rattle.std.specs.Option.{MatchOption, unwrap_or}
use Rattle.std.specs.List.{AllWithin, HoldsAt}
use Rattle.std.proofs.lemmas.Iterator.{index_from_first}
use Rattle.text.specs.Decimal.{Digits}
use Rattle.text.specs.Format.{newline, joined, lines}
use Rattle.text.specs.Input.{length_to, line_length}

-- what ends at a mark is no longer than all
pub mark-within : (m : ℕ) (bs : List ℕ) → length_to m bs ≤ length bs
unfolding length_to
mark-within m [] = omega arith
mark-within m (b ∷ bs) = go (eqb b m) (mark-within m bs)
  where
    go : (t : Bool) → length_to m bs ≤ length bs → cond t 0 (suc (length_to m bs)) ≤ suc (length bs)
    go true ih = omega arith
    go false ih = omega arith

-- what ends before the bytes do ends at the mark
pub mark-stop : (m : ℕ) (bs : List ℕ) → length_to m bs < length bs → get_or bs (length_to m bs) 0 ≡ m
unfolding length_to
mark-stop m [] l = absurd (not-suc-le-zero l)
mark-stop m (b ∷ bs) l = go (eqb b m) refl (mark-stop m bs) l
  where
    go :
        (t : Bool) → eqb b m ≡ t → (length_to m bs < length bs → get_or bs (length_to m bs) 0 ≡ m)
        → cond t 0 (suc (length_to m bs)) < suc (length bs) → get_or (b ∷ bs) (cond t 0 (suc (length_to m bs))) 0 ≡ m
    go true e ih l = eqb-true b m e
    go false e ih l = ih (le_of_suc-le-suc l)

-- from an index on: a byte that is not the mark belongs to it, and past the last byte there is nothing
pub mark_on : (m : ℕ) (bs : List ℕ) (i : ℕ) → i < length bs → (get_or bs i 0 ≡ m → ⊥) → length_to m (drop i bs) ≡ suc (length_to m (drop (i + 1) bs))
unfolding length_to
mark_on m bs i l n = rw (add-one, drop-cons bs i 0 l, ne_eqb (get_or bs i 0) m n)

pub mark-none : (m : ℕ) (bs : List ℕ) (i : ℕ) → length bs ≤ i → length_to m (drop i bs) ≡ 0
unfolding length_to
mark-none m bs i l = rw (drop_of_length-le bs l)

-- .. and the index of the first mark ends it, where there is one
pub mark-first :
    (m : ℕ) (bs : List ℕ) (r : Option ℕ)
    → MatchOption r (AllWithin (λ b. b ≢ m) bs 0 (length bs)) (λ i. (i < length bs) × HoldsAt (λ b. b ≡ m) bs i × AllWithin (λ b. b ≢ m) bs 0 i)
    → length_to m bs ≡ unwrap_or r (length bs)
unfolding length_to
mark-first m bs r h =
    index_from_first (length_to m) (λ b. b ≡ m) (λ b. b ≢ m) refl
    (λ b bs e. rw (eq-eqb b m e))
    (λ b bs n. rw (ne_eqb b m n) (omega arith))
    bs r h

-- a line is no longer than the text, and one that ends before the text does ends at a newline
pub line-within : (bs : List ℕ) → line_length bs ≤ length bs
line-within = mark-within newline

pub line-stop : (bs : List ℕ) → line_length bs < length bs → get_or bs (line_length bs) 0 ≡ newline
line-stop = mark-stop newline

pub line-split : (bs : List ℕ) → line_length bs < length bs → bs ≡ take (line_length bs) bs ++ (newline ∷ drop (suc (line_length bs)) bs)
line-split bs l = split_at bs (line_length bs) 0 l ∙ ap (λ (b : ℕ). take (line_length bs) bs ++ (b ∷ drop (suc (line_length bs)) bs)) (line-stop bs l)

-- the lines of a text that is not empty: the first one, and the lines of what is after its newline
pub lines-first : (b : ℕ) (bs : List ℕ) → lines (b ∷ bs) ≡ take (line_length (b ∷ bs)) (b ∷ bs) ∷ lines (drop (suc (line_length (b ∷ bs))) (b ∷ bs))
unfolding lines length_to
lines-first b [] = go (eqb b newline)
  where
    go : (t : Bool) → cond t ([] ∷ []) (joined b []) ≡ take (cond t 0 1) (b ∷ []) ∷ lines (drop (suc (cond t 0 1)) (b ∷ []))
    go true = refl
    go false = refl
lines-first b (b' ∷ bs) = go (eqb b newline) (lines-first b' bs)
  where
    go : (t : Bool) → lines (b' ∷ bs) ≡ take (line_length (b' ∷ bs)) (b' ∷ bs) ∷ lines (drop (suc (line_length (b' ∷ bs))) (b' ∷ bs)) →
        cond t ([] ∷ lines (b' ∷ bs)) (joined b (lines (b' ∷ bs))) ≡ take (cond t 0 (suc (line_length (b' ∷ bs))))
        (b ∷ b' ∷ bs) ∷ lines (drop (suc (cond t 0 (suc (line_length (b' ∷ bs))))) (b ∷ b' ∷ bs))
    go true ih = refl
    go false ih = ap (joined b) ih

digit-no-newline : (d : ℕ) → 48 ≤ d → eqb d newline ≡ false
digit-no-newline d h = ne_eqb d newline (λ e. omega arith)

-- a line of digits and its newline, then more
pub lines-line : (l bs : List ℕ) → Digits l → lines (l ++ (newline ∷ bs)) ≡ l ∷ lines bs
unfolding lines
lines-line [] bs h = refl
lines-line (d ∷ l) bs h =
    rw (digit-no-newline d (h 0 (omega arith)).0) (ap (joined d) (lines-line l bs (λ i q. h (suc i) (omega arith))))

-- a last line of digits with no newline
pub lines-last : (l : List ℕ) → Digits l → 1 ≤ length l → lines l ≡ l ∷ []
unfolding lines
lines-last [] h s = absurd (not-suc-le-zero s)
lines-last (d ∷ []) h s = rw (digit-no-newline d (h 0 (omega arith)).0)
lines-last (d ∷ d' ∷ l) h s =
    rw (digit-no-newline d (h 0 (omega arith)).0) (ap (joined d) (lines-last (d' ∷ l) (λ i q. h (suc i) (omega arith)) (omega arith)))

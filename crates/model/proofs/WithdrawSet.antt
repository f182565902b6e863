-- Several positions withdrawn together (request 113): the book after single withdrawals of them, in any order, or the book as it is.
use mathlib.Core.Bool.{Bool, cond, false, false≢true, true, ◌||◌}
use mathlib.Core.List.{List, [], ◌∷◌}
use mathlib.Core.Path.{ap, ap₂, refl, sym, ◌∙◌, ◌≡◌}
use Prim.Native.Nat.{◌-◌, ◌<◌, ◌^◌, suc, ℕ}
use native.Mathlib.Omega.{arith}
use lib.Bits.{bit_or, or_zero_r}
use lib.Dec.{eqb}
use lib.ListN.{length, replicate}
use borrow.Author.Tests.{eq-eqb, le-ltb, ne_eqb}
use Rattle.model.proofs.Bools.{or_right}
use Rattle.std.proofs.lemmas.Bool.{true_from_ne_false}
use Rattle.model.proofs.Digits.{bit-none, bit-power, or-bit, same_set}
use Rattle.model.proofs.Withdraw.{within-unknown}
use Rattle.model.specs.Jobs.{Book}
use Rattle.model.specs.Advance.{after_taken}
use Rattle.model.specs.Refusals.{Answer, answer, refused, unknown_position}
use Rattle.model.specs.Lists.{answers_from, book_from, enter, entered}
use Rattle.model.specs.Advance.{withdraw, withdraw_all, with_withdrawn}
use Rattle.model.specs.Refusals.{unknown_positions, taken, withdrawing}
use Rattle.model.specs.Firm.{firm}
use Rattle.model.specs.Search.{bit, member}
use Rattle.model.specs.Task.{Table}
use Rattle.model.specs.WithdrawSet.{Enumerates, SetAsSingles, SetBelow, one_by_one}

-- THE SET OF A LIST OF PLACES

unfoldable pub members : List ℕ → ℕ
members [] = 0
members (q ∷ qs) = bit_or (2 ^ q) (members qs)

pub members-bit : (qs : List ℕ) (i : ℕ) → bit (members qs) i ≡ member i qs
unfolding members member
members-bit [] i = bit-none i
members-bit (q ∷ qs) i = or-bit (2 ^ q) (members qs) i ∙ rw (bit-power q i, members-bit qs i)

-- that of a list that holds just the places of a set is the set
pub members-just : (x : ℕ) (qs : List ℕ) → Enumerates x qs → members qs ≡ x
members-just x qs just = same_set (members qs) x (λ i. members-bit qs i ∙ just i)

-- a set joined by two others, one after the other or together
pub or-chain : (a x y : ℕ) → bit_or (bit_or a x) y ≡ bit_or a (bit_or x y)
or-chain a x y =
    same_set (bit_or (bit_or a x) y) (bit_or a (bit_or x y))
    (λ i. rw (or-bit (bit_or a x) y i, or-bit a x i, or-bit a (bit_or x y) i, or-bit x y i) (go (bit a i) (bit x i) (bit y i)))
  where
    go : (u v w : Bool) → (u || v) || w ≡ u || (v || w)
    go true v w = refl
    go false v w = refl

-- every place of a list is below n; and so are those of its rest
abbrev pub Below : ℕ → List ℕ → Type 0
Below n qs = (q : ℕ) → member q qs ≡ true → q < n

pub below-just : (n x : ℕ) (qs : List ℕ) → Enumerates x qs → SetBelow n x → Below n qs
below-just n x qs just h q e = h q (sym (just q) ∙ e)

pub below-first : (n q : ℕ) (qs : List ℕ) → Below n (q ∷ qs) → q < n
unfolding member
below-first n q qs h = h q (rw (eq-eqb q q refl))

pub below_rest : (n q : ℕ) (qs : List ℕ) → Below n (q ∷ qs) → Below n qs
unfolding member
below_rest n q qs h i e = h i (or_right (eqb i q) (member i qs) e)

-- ONE BY ONE

-- a position of the table is known
known : (s : Table) (q : ℕ) → q < length s.tasks → unknown_position s (suc q) ≡ false
known s q l = rw (ne_eqb (suc q) 0 (λ e. omega arith), le-ltb (length s.tasks) (suc q) l)

-- the answer to a withdrawal of positions of the table depends on rule and widths alone, so that all get the same
single-answer : (s : Table) (b : Book) (q : ℕ) → q < length s.tasks → answer s b (withdraw (suc q)) ≡ withdrawing s false
unfolding answer
single-answer s b q l = rw (known s q l)

each-answer : (s : Table) (qs : List ℕ) → Below (length s.tasks) qs → (b : Book) → answers_from s b (one_by_one qs) ≡ replicate (length qs) (withdrawing s false)
unfolding answers_from
each-answer s [] h b = refl
each-answer s (q ∷ qs) h b =
    ap₂ ◌∷◌ (single-answer s b q (below-first (length s.tasks) q qs h))
    (each-answer s qs (below_rest (length s.tasks) q qs h) (enter s (withdraw (suc q)) b))

-- a position of the table is added where all are taken, and else the book stays
single : (s : Table) (b : Book) (q : ℕ) → q < length s.tasks → enter s (withdraw (suc q)) b ≡ entered (withdrawing s false) (with_withdrawn (2 ^ q) b) b
unfolding enter after_taken
single s b q l =
    let e : suc q - 1 ≡ q = omega arith in
    rw (single-answer s b q l, e)

one_by_one_lem :
    (s : Table) (qs : List ℕ) → Below (length s.tasks) qs → (b : Book)
    → book_from s b (one_by_one qs) ≡ entered (withdrawing s false) (with_withdrawn (members qs) b) b
unfolding book_from members
one_by_one_lem s [] h b = go (withdrawing s false)
  where
    go : (w : Answer) → b ≡ entered w (with_withdrawn 0 b) b
    go taken = ap (λ (n : ℕ). record { tick = b.tick; job = b.job; withdrawn = n }) (sym (or_zero_r b.withdrawn))
    go (refused n p) = refl
one_by_one_lem s (q ∷ qs) h b =
    ap (λ (c : Book). book_from s c (one_by_one qs)) (single s b q (below-first (length s.tasks) q qs h))
    ∙ (one_by_one_lem s qs (below_rest (length s.tasks) q qs h) (entered (withdrawing s false) (with_withdrawn (2 ^ q) b) b)
    ∙ go (withdrawing s false))
  where
    go : (w : Answer)
        → entered w (with_withdrawn (members qs) (entered w (with_withdrawn (2 ^ q) b) b)) (entered w (with_withdrawn (2 ^ q) b) b)
        ≡ entered w (with_withdrawn (bit_or (2 ^ q) (members qs)) b) b
    go taken = ap (λ (n : ℕ). record { tick = b.tick; job = b.job; withdrawn = n }) (or-chain b.withdrawn (2 ^ q) (members qs))
    go (refused n p) = refl

-- TOGETHER

all-answer : (s : Table) (b : Book) (x : ℕ) → SetBelow (length s.tasks) x → answer s b (withdraw_all x) ≡ withdrawing s false
unfolding answer
all-answer s b x h = rw ((within-unknown s x).1 h)

-- an unknown position among them: 21 or 22, and the book stays
none_out : (s : Table) (b : Book) (x : ℕ) → unknown_positions s x ≡ true → enter s (withdraw_all x) b ≡ b
unfolding enter answer
none_out s b x e = rw e (go (firm s.rule s.tasks))
  where
    go : (t : Bool) → entered (cond t (refused 22 0) (refused 21 0)) (after_taken s (withdraw_all x) b) b ≡ b
    go true = refl
    go false = refl

-- THE LAW
pub withdraw-set : (s : Table) (b : Book) (x : ℕ) → SetAsSingles s b x
withdraw-set s b x = record {
  singles = λ h qs just.
      unfold enter after_taken in
      (rw (all-answer s b x h) (ap (λ (n : ℕ). entered (withdrawing s false) (with_withdrawn n b) b) (sym (members-just x qs just)))
      ∙ sym (one_by_one_lem s qs (below-just (length s.tasks) x qs just h) b));
  each = λ h qs just.
      each-answer s qs (below-just (length s.tasks) x qs just h) b ∙ ap (replicate (length qs)) (sym (all-answer s b x h));
  none = λ n. none_out s b x (true_from_ne_false (unknown_positions s x) (λ e. n ((within-unknown s x).0 e)));
}

-- of no position: 21 or taken, and the book stays
pub withdraw-none : (s : Table) (b : Book) → enter s (withdraw_all 0) b ≡ b
unfolding book_from member
withdraw-none s b = (withdraw-set s b 0).singles (λ q e. absurd (false≢true (sym (bit-none q) ∙ e))) [] (λ q. sym (bit-none q))

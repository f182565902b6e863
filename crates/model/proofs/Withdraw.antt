-- Withdrawals (requests 106 and 113): when one is taken, that only the set changes, that withdrawing again changes nothing, and which jobs are empty from then
-- on.
use mathlib.Core.Bool.{Bool, cond, false, true, true≢false, ◌||◌}
use mathlib.Core.List.{List, [], ◌∷◌}
use mathlib.Core.Logic.{◌↔◌, inl, inr, ◌⊎◌}
use mathlib.Core.Path.{ap, refl, sym, ◌∙◌, ◌≡◌}
use Prim.Native.Nat.{◌-◌, ◌<◌, ℕ, ◌≤◌}
use native.Mathlib.Omega.{arith}
use lib.Bits.{bit_or}
use lib.Dec.{eqb, ltb}
use lib.ListN.{length}
use borrow.Author.Tests.{eq-eqb, eqb-true, le-ltb, lt-ltb, ltb-false, ltb-true, ne_eqb}
use Rattle.model.proofs.Bools.{or_cases, or_left, or_right}
use Rattle.std.proofs.lemmas.Bool.{false_from_ne_true}
use Rattle.model.proofs.Digits.{bit-power, or-bit, same_set}
use Rattle.model.proofs.Faithful.{unknown-positions-exact}
use Rattle.model.proofs.Verdict.{firm-exact}
use Rattle.model.specs.Jobs.{Book, emptied}
use Rattle.model.specs.Advance.{step, Entry, advance, after_taken, singleton}
use Rattle.model.specs.Refusals.{Answer, answer, refused}
use Rattle.model.specs.Lists.{book_from, enter, entered}
use Rattle.model.specs.Advance.{withdraw, withdraw_all, with_withdrawn}
use Rattle.model.specs.Refusals.{taken, unknown_position, unknown_positions}
use Rattle.model.specs.Firm.{FirmRule, firm}
use Rattle.model.specs.Search.{bit}
use Rattle.model.specs.Task.{Table}
use Rattle.model.specs.WithdrawSet.{SetBelow}

-- THE ANSWER, whatever is in the book: 15 is not tested

-- a position is none of the table exactly if it is 0 or past the count
pub unknown-position-exact : (s : Table) (p : ℕ) → (unknown_position s p ≡ true) ↔ ((p ≡ 0) ⊎ (length s.tasks < p))
unknown-position-exact s p = (λ e. says (or_cases (eqb p 0) (ltb (length s.tasks) p) e), found)
  where
    says : (eqb p 0 ≡ true) ⊎ (ltb (length s.tasks) p ≡ true) → (p ≡ 0) ⊎ (length s.tasks < p)
    says (inl e) = inl (eqb-true p 0 e)
    says (inr e) = inr (ltb-true (length s.tasks) p e)

    found : (p ≡ 0) ⊎ (length s.tasks < p) → unknown_position s p ≡ true
    found (inl e) = or_left (eqb p 0) (ltb (length s.tasks) p) (eq-eqb p 0 e)
    found (inr l) = or_right (eqb p 0) (ltb (length s.tasks) p) (lt-ltb (length s.tasks) p l)

-- an answer's number
number : Answer → ℕ
number taken = 0
number (refused n p) = n

-- the three answers, by whether rule and widths are firm (t) and the position is none of the table (u)
chosen : Bool → Bool → Answer
chosen t u = cond t (cond u (refused 22 0) taken) (refused 21 0)

by-21 : (t u : Bool) → chosen t u ≡ refused 21 0 → t ≡ false
unfolding chosen number
by-21 false u e = refl
by-21 true true e = absurd (let n : 22 ≡ 21 = ap number e in omega arith)
by-21 true false e = absurd (let n : 0 ≡ 21 = ap number e in omega arith)

by-22 : (t u : Bool) → chosen t u ≡ refused 22 0 → (t ≡ true) × (u ≡ true)
unfolding chosen number
by-22 true true e = (refl, refl)
by-22 true false e = absurd (let n : 0 ≡ 22 = ap number e in omega arith)
by-22 false u e = absurd (let n : 21 ≡ 22 = ap number e in omega arith)

by-none : (t u : Bool) → chosen t u ≡ taken → (t ≡ true) × (u ≡ false)
unfolding chosen number
by-none true false e = (refl, refl)
by-none true true e = absurd (let n : 22 ≡ 0 = ap number e in omega arith)
by-none false u e = absurd (let n : 21 ≡ 0 = ap number e in omega arith)

-- 21 exactly where rule and widths are not firm ..
pub withdraw-not-firm : (s : Table) (b : Book) (p : ℕ) → (answer s b (withdraw p) ≡ refused 21 0) ↔ (¬ FirmRule s)
unfolding answer chosen
withdraw-not-firm s b p = (
  λ e f. true≢false (sym ((firm-exact s).1 f) ∙ by-21 (firm s.rule s.tasks) (unknown_position s p) e),
  λ n. rw (false_from_ne_true (firm s.rule s.tasks) (λ e. n ((firm-exact s).0 e))),
)

-- .. 22 exactly where they are and the position is 0 or past the count ..
pub withdraw-unknown : (s : Table) (b : Book) (p : ℕ) → (answer s b (withdraw p) ≡ refused 22 0) ↔ (FirmRule s × ((p ≡ 0) ⊎ (length s.tasks < p)))
unfolding answer chosen
withdraw-unknown s b p = (
  λ e. let x = by-22 (firm s.rule s.tasks) (unknown_position s p) e in ((firm-exact s).0 x.0, (unknown-position-exact s p).0 x.1),
  λ x. rw ((firm-exact s).1 x.0, (unknown-position-exact s p).1 x.1),
)

-- .. and else it is taken
pub withdraw-taken : (s : Table) (b : Book) (p : ℕ) → (answer s b (withdraw p) ≡ taken) ↔ (FirmRule s × (1 ≤ p) × (p ≤ length s.tasks))
unfolding answer chosen
withdraw-taken s b p = (
  λ e. let x = by-none (firm s.rule s.tasks) (unknown_position s p) e in
      let within : ¬ ((p ≡ 0) ⊎ (length s.tasks < p)) = λ y. true≢false (sym ((unknown-position-exact s p).1 y) ∙ x.1) in
      let first : ¬ (p ≡ 0) = λ y. within (inl y) in
      let last : ¬ (length s.tasks < p) = λ y. within (inr y) in
      ((firm-exact s).0 x.0, omega arith, omega arith),
  λ x. rw ((firm-exact s).1 x.0, ne_eqb p 0 (λ e. omega (arith, x.1)), le-ltb (length s.tasks) p x.2),
)

-- a set of them: 21 in the same way, for the empty set too ..
pub withdraw-all-not-firm : (s : Table) (b : Book) (x : ℕ) → (answer s b (withdraw_all x) ≡ refused 21 0) ↔ (¬ FirmRule s)
unfolding answer chosen
withdraw-all-not-firm s b x = (
  λ e f. true≢false (sym ((firm-exact s).1 f) ∙ by-21 (firm s.rule s.tasks) (unknown_positions s x) e),
  λ n. rw (false_from_ne_true (firm s.rule s.tasks) (λ e. n ((firm-exact s).0 e))),
)

-- .. 22 exactly where it names a position past the count ..
pub withdraw-all-unknown :
    (s : Table) (b : Book) (x : ℕ)
    → (answer s b (withdraw_all x) ≡ refused 22 0) ↔ (FirmRule s × ((p : ℕ) × (bit x p ≡ true) × (length s.tasks ≤ p)))
unfolding answer chosen
withdraw-all-unknown s b x = (
  λ e. let y = by-22 (firm s.rule s.tasks) (unknown_positions s x) e in ((firm-exact s).0 y.0, (unknown-positions-exact s x).0 y.1),
  λ y. rw ((firm-exact s).1 y.0, (unknown-positions-exact s x).1 y.1),
)

-- .. and else it is taken
pub within-unknown : (s : Table) (x : ℕ) → (unknown_positions s x ≡ false) ↔ SetBelow (length s.tasks) x
within-unknown s x = (
  λ e q h. go e q h (ltb q (length s.tasks)) refl,
  λ h. false_from_ne_true (unknown_positions s x) (λ e. let y = (unknown-positions-exact s x).0 e in omega (arith, h y.0 y.1, y.2)),
)
  where
    go : unknown_positions s x ≡ false → (q : ℕ) → bit x q ≡ true → (t : Bool) → ltb q (length s.tasks) ≡ t → q < length s.tasks
    go e q h true i = ltb-true q (length s.tasks) i
    go e q h false i = absurd (true≢false (sym ((unknown-positions-exact s x).1 (q, h, ltb-false q (length s.tasks) i)) ∙ e))

pub withdraw-all-taken : (s : Table) (b : Book) (x : ℕ) → (answer s b (withdraw_all x) ≡ taken) ↔ (FirmRule s × SetBelow (length s.tasks) x)
unfolding answer chosen
withdraw-all-taken s b x = (
  λ e. let y = by-none (firm s.rule s.tasks) (unknown_positions s x) e in ((firm-exact s).0 y.0, (within-unknown s x).0 y.1),
  λ y. rw ((firm-exact s).1 y.0, (within-unknown s x).1 y.1),
)

-- ONLY THE SET CHANGES

-- the position is in it, and nothing else comes in ..
pub withdrawn-now : (s : Table) (b : Book) (p q : ℕ) → bit (after_taken s (withdraw p) b).withdrawn q ≡ bit b.withdrawn q || eqb q (p - 1)
unfolding after_taken
withdrawn-now s b p q = or-bit b.withdrawn (singleton p) q ∙ ap (λ (t : Bool). bit b.withdrawn q || t) (bit-power (p - 1) q)

-- .. the tick and every line stay, so that a job that was released before goes on
pub withdraw-lines : (s : Table) (b : Book) (p : ℕ) → ((enter s (withdraw p) b).tick ≡ b.tick) × ((enter s (withdraw p) b).job ≡ b.job)
unfolding enter after_taken
withdraw-lines s b p = go (answer s b (withdraw p))
  where
    go : (w : Answer) → ((entered w (with_withdrawn (singleton p) b) b).tick ≡ b.tick) × ((entered w (with_withdrawn (singleton p) b) b).job ≡ b.job)
    go taken = (refl, refl)
    go (refused n q) = (refl, refl)

-- ONCE WITHDRAWN, FOR EVER

-- an entry takes no position out of the set
stays-one : (s : Table) (x : Entry) (b : Book) (q : ℕ) → bit b.withdrawn q ≡ true → bit (enter s x b).withdrawn q ≡ true
unfolding enter after_taken step emptied
stays-one s x b q h = go x (answer s b x)
  where
    go : (x : Entry) (w : Answer) → bit (entered w (after_taken s x b) b).withdrawn q ≡ true
    go (advance x e) taken = h
    go (advance x e) (refused n p) = h
    go (withdraw p) taken = or-bit b.withdrawn (singleton p) q ∙ rw h refl
    go (withdraw p) (refused n r) = h
    go (withdraw_all x) taken = or-bit b.withdrawn x q ∙ rw h refl
    go (withdraw_all x) (refused n r) = h

pub withdrawn-stays : (s : Table) (xs : List Entry) (b : Book) (q : ℕ) → bit b.withdrawn q ≡ true → bit (book_from s b xs).withdrawn q ≡ true
unfolding book_from
withdrawn-stays s [] b q h = h
withdrawn-stays s (x ∷ xs) b q h = withdrawn-stays s xs (enter s x b) q (stays-one s x b q h)

-- a position that is in the set is not added again
or-again : (w p : ℕ) → bit w (p - 1) ≡ true → bit_or w (singleton p) ≡ w
or-again w p h = same_set (bit_or w (singleton p)) w (λ i. or-bit w (singleton p) i ∙ (rw (bit-power (p - 1) i) (go i (eqb i (p - 1)) refl)))
  where
    go : (i : ℕ) (t : Bool) → eqb i (p - 1) ≡ t → bit w i || t ≡ bit w i
    go i true e = let here : i ≡ p - 1 = eqb-true i (p - 1) e in rw (here, h) refl
    go i false e = off (bit w i)
      where
        off : (u : Bool) → u || false ≡ u
        off true = refl
        off false = refl

-- of a position that is withdrawn already nothing changes
pub withdraw-again : (s : Table) (b : Book) (p : ℕ) → bit b.withdrawn (p - 1) ≡ true → enter s (withdraw p) b ≡ b
unfolding enter after_taken
withdraw-again s b p h = go (answer s b (withdraw p))
  where
    go : (w : Answer) → entered w (with_withdrawn (singleton p) b) b ≡ b
    go taken = ap (λ (n : ℕ). record { tick = b.tick; job = b.job; withdrawn = n }) (or-again b.withdrawn p h)
    go (refused n q) = refl

-- THE LAW: withdrawing a position again, at once or after any list, changes nothing
pub withdraw-twice :
    (s : Table) (b : Book) (p : ℕ) (xs : List Entry)
    → enter s (withdraw p) (book_from s (enter s (withdraw p) b) xs) ≡ book_from s (enter s (withdraw p) b) xs
withdraw-twice s b p xs = go (answer s b (withdraw p)) refl
  where
    c : Book
    c = book_from s (enter s (withdraw p) b) xs

    go : (w : Answer) → answer s b (withdraw p) ≡ w → enter s (withdraw p) c ≡ c
    go taken e =
        withdraw-again s c p (withdrawn-stays s xs (enter s (withdraw p) b) (p - 1)
        (unfold enter in rw e (withdrawn-now s b p (p - 1) ∙ here (bit b.withdrawn (p - 1)))))
      where
        here : (u : Bool) → u || eqb (p - 1) (p - 1) ≡ true
        here true = refl
        here false = eq-eqb (p - 1) (p - 1) refl
    go (refused n q) e = unfold enter answer in rw e refl

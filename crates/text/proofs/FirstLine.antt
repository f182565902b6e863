-- The first line determines the answer, whatever is printed after it.
use mathlib.Core.Bool.{Bool, true, not, ◌&&◌}
use mathlib.Core.List.{List, [], ◌∷◌, ◌++◌, append_assoc, append_cancel_left, head-eq_of_cons-eq, tail-eq_of_cons-eq}
use mathlib.Core.Path.{◌≡◌, refl, ap, ap₂, sym, ◌∙◌}
use Prim.Native.Nat.{ℕ, suc, ◌<◌}
use native.Mathlib.Omega.{arith}
use borrow.Author.Tests.{ltb-true, not-true, eqb-false}
use lib.Dec.{ltb, eqb}
use lib.ListN.{length, get_or, get_or-append}
use Rattle.model.proofs.Bools.{and_left, and_right}
use Rattle.model.specs.Verdict.{Firm, Full, Miss}
use Rattle.text.specs.Decimal.{Digits, Digit, decimal}
use Rattle.text.specs.Format.{newline}
use Rattle.judge.specs.JudgeAnswer.{JudgeAnswer, judged, refused}
use Rattle.text.specs.Output.{letters, space, fields, line_of, first_line}
use Rattle.text.proofs.Decimals.{decimal-digits, decimal_injective}

-- digits end where the first byte below `0` is
digits-end : (xs ys : List ℕ) (c d : ℕ) (r s : List ℕ) → Digits xs → Digits ys → c < 48 → d < 48 → xs ++ (c ∷ r) ≡ ys ++ (d ∷ s) → (xs ≡ ys) × (r ≡ s)
digits-end [] [] c d r s p q a b e = (refl, tail-eq_of_cons-eq e)
digits-end [] (y ∷ ys) c d r s p q a b e = let f : Digit y = q 0 (omega arith) in let h = head-eq_of_cons-eq e in absurd (omega arith)
digits-end (x ∷ xs) [] c d r s p q a b e = let f : Digit x = p 0 (omega arith) in let h = head-eq_of_cons-eq e in absurd (omega arith)
digits-end (x ∷ xs) (y ∷ ys) c d r s p q a b e =
    let t = digits-end xs ys c d r s (λ i l. p (suc i) (omega arith)) (λ i l. q (suc i) (omega arith)) a b (tail-eq_of_cons-eq e) in
    (ap₂ (λ (z : ℕ) (zs : List ℕ). z ∷ zs) (head-eq_of_cons-eq e) t.0, t.1)

-- a number and what is after it
number-end : (m n c d : ℕ) (r s : List ℕ) → c < 48 → d < 48 → decimal m ++ (c ∷ r) ≡ decimal n ++ (d ∷ s) → (m ≡ n) × (r ≡ s)
number-end m n c d r s a b e =
    let t = digits-end (decimal m) (decimal n) c d r s (decimal-digits m) (decimal-digits n) a b e in
    (decimal_injective m n t.0, t.1)

-- what is after the word of a line with two numbers
tail : ℕ → ℕ → List ℕ → List ℕ
tail a b r = space ∷ (decimal a ++ (space ∷ (decimal b ++ (newline ∷ r))))

pair_line : (begin : List ℕ) (a b : ℕ) (r : List ℕ) → line_of begin (a ∷ b ∷ []) ++ r ≡ begin ++ tail a b r
unfolding line_of fields tail
pair_line begin a b r = simp append_assoc

pair_end : (a b a' b' : ℕ) (r r' : List ℕ) → tail a b r ≡ tail a' b' r' → (a ≡ a') × (b ≡ b') × (r ≡ r')
unfolding tail
pair_end a b a' b' r r' e =
    let t = number-end a a' space space _ _ (omega arith) (omega arith) (tail-eq_of_cons-eq e) in
    let u = number-end b b' newline newline r r' (omega arith) (omega arith) t.1 in
    (t.0, u.0, u.1)

-- two words differ at byte k: the test
abbrev apart : ℕ → List ℕ → List ℕ → Bool
apart k v w = ltb k (length v) && (ltb k (length w) && not (eqb (get_or v k 0) (get_or w k 0)))

-- lines that begin with such words are not the same
differ : (k : ℕ) (v w : List ℕ) → apart k v w ≡ true → (a b a' b' : ℕ) (r r' : List ℕ) → line_of v (a ∷ b ∷ []) ++ r ≡ line_of w (a' ∷ b' ∷ []) ++ r' → ⊥
differ k v w h a b a' b' r r' e =
    let f : v ++ tail a b r ≡ w ++ tail a' b' r' = sym (pair_line v a b r) ∙ e ∙ pair_line w a' b' r' in
    let g = and_right (ltb k (length v)) (ltb k (length w) && not (eqb (get_or v k 0) (get_or w k 0))) h in
    let p = ltb-true k (length v) (and_left (ltb k (length v)) (ltb k (length w) && not (eqb (get_or v k 0) (get_or w k 0))) h) in
    let q = ltb-true k (length w) (and_left (ltb k (length w)) (not (eqb (get_or v k 0) (get_or w k 0))) g) in
    let n = not-true (eqb (get_or v k 0) (get_or w k 0)) (and_right (ltb k (length w)) (not (eqb (get_or v k 0) (get_or w k 0))) g) in
    eqb-false (get_or v k 0) (get_or w k 0) n
    (sym (get_or-append v (tail a b r) 0 k p) ∙ ap (λ (l : List ℕ). get_or l k 0) f ∙ get_or-append w (tail a' b' r') 0 k q)

-- lines of one word have the same numbers, and the same after them
agree : (w : List ℕ) (a b a' b' : ℕ) (r r' : List ℕ) → line_of w (a ∷ b ∷ []) ++ r ≡ line_of w (a' ∷ b' ∷ []) ++ r' → (a ≡ a') × (b ≡ b') × (r ≡ r')
agree w a b a' b' r r' e =
    pair_end a b a' b' r r' (append_cancel_left w (tail a b r) (tail a' b' r') (sym (pair_line w a b r) ∙ e ∙ pair_line w a' b' r'))

made : (f : ℕ → ℕ → JudgeAnswer) {a b a' b' : ℕ} {r r' : List ℕ} → (a ≡ a') × (b ≡ b') × (r ≡ r') → (f a b ≡ f a' b') × (r ≡ r')
made f t = (ap₂ f t.0 t.1, t.2)

-- what is printed determines the verdict or the refusal, and what is printed after its line
pub first-determined : (x y : JudgeAnswer) (r s : List ℕ) → first_line x ++ r ≡ first_line y ++ s → (x ≡ y) × (r ≡ s)
unfolding first_line
first-determined (judged (Firm a b)) (judged (Firm a' b')) r s e = made (λ m n. judged (Firm m n)) (agree (letters "firm") a b a' b' r s e)
first-determined (judged (Firm a b)) (judged (Full a' b')) r s e = absurd (differ 1 (letters "firm") (letters "full") refl a b a' b' r s e)
first-determined (judged (Firm a b)) (judged (Miss a' b')) r s e = absurd (differ 0 (letters "firm") (letters "miss") refl a b a' b' r s e)
first-determined (judged (Firm a b)) (refused a' b') r s e = absurd (differ 0 (letters "firm") (letters "refused") refl a b a' b' r s e)
first-determined (judged (Full a b)) (judged (Firm a' b')) r s e = absurd (differ 1 (letters "full") (letters "firm") refl a b a' b' r s e)
first-determined (judged (Full a b)) (judged (Full a' b')) r s e = made (λ m n. judged (Full m n)) (agree (letters "full") a b a' b' r s e)
first-determined (judged (Full a b)) (judged (Miss a' b')) r s e = absurd (differ 0 (letters "full") (letters "miss") refl a b a' b' r s e)
first-determined (judged (Full a b)) (refused a' b') r s e = absurd (differ 0 (letters "full") (letters "refused") refl a b a' b' r s e)
first-determined (judged (Miss a b)) (judged (Firm a' b')) r s e = absurd (differ 0 (letters "miss") (letters "firm") refl a b a' b' r s e)
first-determined (judged (Miss a b)) (judged (Full a' b')) r s e = absurd (differ 0 (letters "miss") (letters "full") refl a b a' b' r s e)
first-determined (judged (Miss a b)) (judged (Miss a' b')) r s e = made (λ m n. judged (Miss m n)) (agree (letters "miss") a b a' b' r s e)
first-determined (judged (Miss a b)) (refused a' b') r s e = absurd (differ 0 (letters "miss") (letters "refused") refl a b a' b' r s e)
first-determined (refused a b) (judged (Firm a' b')) r s e = absurd (differ 0 (letters "refused") (letters "firm") refl a b a' b' r s e)
first-determined (refused a b) (judged (Full a' b')) r s e = absurd (differ 0 (letters "refused") (letters "full") refl a b a' b' r s e)
first-determined (refused a b) (judged (Miss a' b')) r s e = absurd (differ 0 (letters "refused") (letters "miss") refl a b a' b' r s e)
first-determined (refused a b) (refused a' b') r s e = made (λ m n. refused m n) (agree (letters "refused") a b a' b' r s e)

-- Lines that come in pieces: the input where some bytes of a line have been read.
use mathlib.Core.Bool.{Bool, true, false, ◌&&◌, cond, false≢true}
use mathlib.Core.List.{List, [], ◌∷◌, ◌++◌, append-nil}
use mathlib.Core.Path.{◌≡◌, refl, sym, ap, ◌∙◌}
use Prim.Native.Nat.{ℕ, zero, suc, ◌+◌, ◌≤◌, ◌<◌}
use native.Mathlib.Nat.{not-suc-le-zero, le_of_suc-le-suc}
use native.Mathlib.Omega.{arith}
use lib.ListN.{length, take, length-append}
use lib.Seq.{append_snoc}
use lib.Dec.{eqb}
use Rattle.std.specs.Cmp.Lexicographic.{pointwise}
use Rattle.text.specs.Format.{newline}
use Rattle.text.specs.Input.{length_to, line_length}
use Rattle.splitter.specs.Split.{too_many, InputEnd, nothing, unknown, last_line, lines_from, is_dashes, closed, unclosed, split_from, TooLong}

-- bytes that are no newlines go on with the line
pub split-more : (e : InputEnd) (d l chunk : List ℕ) (k : ℕ) (bs : List ℕ) → k ≤ line_length chunk → split_from e d l (take k chunk ++ bs) ≡ split_from e d (l ++ take k chunk) bs
unfolding split_from length_to
split-more e d l chunk zero bs h = ap (λ (m : List ℕ). split_from e d m bs) (sym (append-nil l))
split-more e d l [] (suc k) bs h = absurd (not-suc-le-zero h)
split-more e d l (b ∷ chunk) (suc k) bs h = go (eqb b newline) h (split-more e d (l ++ (b ∷ [])) chunk k bs)
  where
    go :
        (t : Bool) → suc k ≤ cond t 0 (suc (line_length chunk))
        → (k ≤ line_length chunk → split_from e d (l ++ (b ∷ [])) (take k chunk ++ bs) ≡ split_from e d ((l ++ (b ∷ [])) ++ take k chunk) bs)
        → cond t (cond (is_dashes l) (closed d (lines_from e [] (take k chunk ++ bs))) (split_from e (d ++ (l ++ (newline ∷ []))) [] (take k chunk ++ bs)))
        (split_from e d (l ++ (b ∷ [])) (take k chunk ++ bs))
        ≡ split_from e d (l ++ (b ∷ take k chunk)) bs
    go true q ih = absurd (not-suc-le-zero q)
    go false q ih = ih (le_of_suc-le-suc q) ∙ ap (λ (m : List ℕ). split_from e d m bs) (append_snoc l b (take k chunk))

pub lines_more : (e : InputEnd) (l chunk : List ℕ) (k : ℕ) (bs : List ℕ) → k ≤ line_length chunk → lines_from e l (take k chunk ++ bs) ≡ lines_from e (l ++ take k chunk) bs
unfolding lines_from length_to
lines_more e l chunk zero bs h = ap (λ (m : List ℕ). lines_from e m bs) (sym (append-nil l))
lines_more e l [] (suc k) bs h = absurd (not-suc-le-zero h)
lines_more e l (b ∷ chunk) (suc k) bs h = go (eqb b newline) h (lines_more e (l ++ (b ∷ [])) chunk k bs)
  where
    go :
        (t : Bool) → suc k ≤ cond t 0 (suc (line_length chunk))
        → (k ≤ line_length chunk → lines_from e (l ++ (b ∷ [])) (take k chunk ++ bs) ≡ lines_from e ((l ++ (b ∷ [])) ++ take k chunk) bs)
        → cond t (l ∷ lines_from e [] (take k chunk ++ bs)) (lines_from e (l ++ (b ∷ [])) (take k chunk ++ bs)) ≡ lines_from e (l ++ (b ∷ take k chunk)) bs
    go true q ih = absurd (not-suc-le-zero q)
    go false q ih = ih (le_of_suc-le-suc q) ∙ ap (λ (m : List ℕ). lines_from e m bs) (append_snoc l b (take k chunk))

-- a line ends: `--` ends the table, any other is one more of it
pub split-dashes : (e : InputEnd) (d l bs : List ℕ) → is_dashes l ≡ true → split_from e d l (newline ∷ bs) ≡ closed d (lines_from e [] bs)
unfolding split_from
split-dashes e d l bs h = rw h

pub split-line : (e : InputEnd) (d l bs : List ℕ) → is_dashes l ≡ false → split_from e d l (newline ∷ bs) ≡ split_from e (d ++ (l ++ (newline ∷ []))) [] bs
unfolding split_from
split-line e d l bs h = rw h

pub lines-line : (e : InputEnd) (l bs : List ℕ) → lines_from e l (newline ∷ bs) ≡ l ∷ lines_from e [] bs
unfolding lines_from
lines-line e l bs = refl

-- no bytes are no lines
pub lines_none : (e : InputEnd) → lines_from e [] [] ≡ []
unfolding lines_from last_line
lines_none nothing = refl
lines_none unknown = refl

-- the last line lacks its newline
pub lines-last : (l : List ℕ) → 0 < length l → lines_from nothing l [] ≡ l ∷ []
unfolding lines_from last_line
lines-last [] h = absurd (not-suc-le-zero h)
lines-last (b ∷ l) h = refl

-- where more may come, it is none yet
pub lines-waits : (l : List ℕ) → lines_from unknown l [] ≡ []
unfolding lines_from last_line
lines-waits l = refl

-- no line `--` has ended the table
pub split-end : (e : InputEnd) (d l : List ℕ) → split_from e d l [] ≡ unclosed e d l
unfolding split_from
split-end e d l = refl

-- LINES `--`

-- a line `--` has two bytes
pub dashes-two : (l : List ℕ) → is_dashes l ≡ true → length l ≡ 2
unfolding is_dashes
dashes-two [] e = absurd (false≢true e)
dashes-two (a ∷ []) e = absurd (false≢true e)
dashes-two (a ∷ b ∷ []) e = refl
dashes-two (a ∷ b ∷ c ∷ l) e = absurd (false≢true e)

-- .. and the same test as of the library
pub dashes-same : (l : List ℕ) → pointwise eqb l (45 ∷ 45 ∷ []) ≡ is_dashes l
unfolding is_dashes
dashes-same [] = refl
dashes-same (a ∷ []) = go (eqb a 45)
  where
    go : (t : Bool) → t && false ≡ false
    go true = refl
    go false = refl
dashes-same (a ∷ b ∷ []) = ap (λ (t : Bool). eqb a 45 && t) (go (eqb b 45))
  where
    go : (t : Bool) → t && true ≡ t
    go true = refl
    go false = refl
dashes-same (a ∷ b ∷ c ∷ l) = go (eqb a 45) (eqb b 45)
  where
    go : (t u : Bool) → t && (u && false) ≡ false
    go true true = refl
    go true false = refl
    go false u = refl

-- TOO MANY BYTES

-- 2,522 bytes with no line `--` decide: whatever comes, the table is too long
pub split-long : (e : InputEnd) (d l bs : List ℕ) → too_many ≤ length d + length l → TooLong e (split_from e d l bs)
unfolding split_from unclosed
split-long nothing d l [] h = go (is_dashes l) refl
  where
    go : (t : Bool) → is_dashes l ≡ t → TooLong nothing (closed (cond t d (d ++ l)) [])
    go true e = omega (arith, h, dashes-two l e)
    go false e = omega (arith, h, length-append d l)
split-long unknown d l [] h = h
split-long e d l (b ∷ bs) h =
    go (eqb b newline) (is_dashes l) refl
    (split-long e (d ++ (l ++ (newline ∷ []))) [] bs (omega (arith, h, length-append d (l ++ (newline ∷ [])), length-append l (newline ∷ []))))
    (split-long e d (l ++ (b ∷ [])) bs (omega (arith, h, length-append l (b ∷ []))))
  where
    go :
        (t u : Bool) → is_dashes l ≡ u → TooLong e (split_from e (d ++ (l ++ (newline ∷ []))) [] bs) → TooLong e (split_from e d (l ++ (b ∷ [])) bs)
        → TooLong e (cond t (cond u (closed d (lines_from e [] bs)) (split_from e (d ++ (l ++ (newline ∷ []))) [] bs)) (split_from e d (l ++ (b ∷ [])) bs))
    go true true q x y = omega (arith, h, dashes-two l q)
    go true false q x y = x
    go false u q x y = y

-- A line that is too long decides: what is after its first 726 bytes is not read.
use mathlib.Core.Bool.{Bool, ◌&&◌, ◌||◌, cond, false, true}
use mathlib.Core.List.{List, [], ◌++◌, map, ◌∷◌}
use mathlib.Core.Logic.{◌⊎◌, inl, inr, ⊎_elim}
use mathlib.Core.Path.{◌∙◌, ◌≡◌, ap, ap₂, refl, subst⁻¹, sym}
use Prim.Native.Nat.{◌*◌, ◌<◌, suc, zero, ℕ, ◌≤◌}
use native.Mathlib.Nat.{eq-or-lt_of_le, not-suc-le-zero}
use native.Mathlib.Omega.{arith}
use lib.Dec.{eqb, leb}
use lib.ListN.{drop, length, length-append, length-drop, take}
use lib.Seq.{drop-append-le, length-take-le, take-append-le}
use borrow.Author.Tests.{ne_eqb}
use Rattle.model.specs.Sizes.{most_cores}
use Rattle.model.proofs.Bools.{and_left}
use Rattle.std.proofs.lemmas.Bool.{false_from_ne_true}
use Rattle.text.specs.Decimal.{all, value}
use Rattle.text.specs.Format.{is_number, newline}
use Rattle.text.specs.Input.{length_to}
use Rattle.text.specs.Output.{space}
use Rattle.text.proofs.Lines.{mark-within}
use Rattle.text.proofs.Numbers.{number-exact}
use Rattle.plan_check.specs.RowAnswer.{Answer}
use Rattle.plan_check.specs.CheckRow.{check_row_of}
use Rattle.splitter.specs.Split.{last_line, lines_from, nothing}
use Rattle.plan_text.specs.declared.PlanProgress.{PlanProgress}
use Rattle.plan_text.specs.Checked.{Fault, Refused}
use Rattle.plan_text.specs.Checked.{LineAnswer}
use Rattle.plan_text.specs.Line.{Read, words_after, cells_of, is_byte, long_line, most_cells, no_row, row_read, row_in}
use Rattle.plan_text.specs.Checked.{row_entered, enters, is_more, next_line, skipped, refusal_answer, rows_answer, step_of, no_row_answer}
use Rattle.plan_text.proofs.Lines.{rows_end}
use Rattle.plan_text.proofs.Reading.{row-split, words-split}
use Rattle.plan_text.proofs.Answers.{verdict-long}
use Rattle.plan_text.proofs.Taking.{take_long}

-- THE FIRST WORD

abbrev word : List ℕ → List ℕ
word l = take (length_to space l) l

abbrev rest : List ℕ → List ℕ
rest l = drop (length_to space l) l

-- a mark that is met stays where it is, whatever follows; where it is not met the word goes on
mark-append : (m : ℕ) (l more : List ℕ) → length_to m l < length l → length_to m (l ++ more) ≡ length_to m l
unfolding length_to
mark-append m [] more h = absurd (not-suc-le-zero h)
mark-append m (b ∷ l) more h = go (eqb b m) h (mark-append m l more)
  where
    go :
        (t : Bool) → cond t 0 (suc (length_to m l)) < suc (length l) → (length_to m l < length l → length_to m (l ++ more) ≡ length_to m l)
        → cond t 0 (suc (length_to m (l ++ more))) ≡ cond t 0 (suc (length_to m l))
    go true h ih = refl
    go false h ih = ap suc (ih (omega (arith, h)))

mark_on : (m : ℕ) (l more : List ℕ) → length_to m l ≡ length l → length l ≤ length_to m (l ++ more)
unfolding length_to
mark_on m [] more e = omega arith
mark_on m (b ∷ l) more e = go (eqb b m) e (mark_on m l more)
  where
    go :
        (t : Bool) → cond t 0 (suc (length_to m l)) ≡ suc (length l) → (length_to m l ≡ length l → length l ≤ length_to m (l ++ more))
        → suc (length l) ≤ cond t 0 (suc (length_to m (l ++ more)))
    go true e ih = absurd (omega (arith, e))
    go false e ih = let q = ih (omega (arith, e)) in omega (arith, q)

-- more than ten bytes represent no number
long-number : (w : List ℕ) → 10 < length w → is_number w ≡ false
long-number w h = false_from_ne_true (is_number w) (λ e. omega (arith, h, ((number-exact w).0 e).short))

-- the first word of more than ten bytes ends in them, or is too long for a number
first_word :
    (l more : List ℕ) → 10 < length l
    → ((length_to space l < length l) × (word (l ++ more) ≡ word l) × (rest (l ++ more) ≡ rest l ++ more))
    ⊎ ((is_number (word l) ≡ false) × (is_number (word (l ++ more)) ≡ false))
first_word l more h = ⊎_elim all_of (λ q. inl (ends q)) (eq-or-lt_of_le (mark-within space l))
  where
    ends : length_to space l < length l → (length_to space l < length l) × (word (l ++ more) ≡ word l) × (rest (l ++ more) ≡ rest l ++ more)
    ends q =
        let e = mark-append space l more q in (
          q,
          ap (λ (k : ℕ). take k (l ++ more)) e ∙ take-append-le (length_to space l) l more (omega (arith, q)),
          ap (λ (k : ℕ). drop k (l ++ more)) e ∙ drop-append-le (length_to space l) l more (omega (arith, q)),
        )

    all_of :
        length_to space l ≡ length l
        → ((length_to space l < length l) × (word (l ++ more) ≡ word l) × (rest (l ++ more) ≡ rest l ++ more))
        ⊎ ((is_number (word l) ≡ false) × (is_number (word (l ++ more)) ≡ false))
    all_of e =
        let on = mark_on space l more e in
        let whole = length-take-le (length_to space (l ++ more)) (l ++ more) (mark-within space (l ++ more)) in
        inr (
          long-number (word l) (omega (arith, h, e, length-take-le (length_to space l) l (mark-within space l))),
          long-number (word (l ++ more)) (omega (arith, h, on, whole)),
        )

-- THE NUMBERS AFTER IT

-- the words after a space: the first, and those after it
behind-split : (b : ℕ) (l : List ℕ) → words_after (b ∷ l) ≡ word l ∷ words_after (rest l)
unfolding words_after
behind-split b l = words-split l

-- whether the first k words represent bytes
abbrev bytes : ℕ → List ℕ → Bool
bytes k x = all is_byte (take k (words_after x))

bytes-split : (k b : ℕ) (l : List ℕ) → bytes (suc k) (b ∷ l) ≡ (is_byte (word l) && bytes k (rest l))
unfolding all
bytes-split k b l = ap (λ (ws : List (List ℕ)). all is_byte (take (suc k) ws)) (behind-split b l)

byte-number : (w : List ℕ) → is_byte w ≡ true → is_number w ≡ true
unfolding is_byte
byte-number w e = and_left (is_number w) (leb (value w) 255) e

no_byte : (w : List ℕ) → is_number w ≡ false → is_byte w ≡ false
unfolding is_byte
no_byte w e = rw e

-- what holds of the first k words
abbrev Many : ℕ → List ℕ → List ℕ → Type 0
Many k x more =
    ((bytes k x ≡ true) × (take k (words_after (x ++ more)) ≡ take k (words_after x)) × (length (take k (words_after x)) ≡ k))
    ⊎ ((bytes k x ≡ false) × (bytes k (x ++ more) ≡ false))

-- k words that represent bytes are in 11 k bytes and one more, whatever follows; where one of them represents none, it still does not
many : (k : ℕ) (x more : List ℕ) → 11 * k < length x → Many k x more
unfolding all
many zero x more h = inl (refl, refl, refl)
many (suc k) [] more h = absurd (omega (arith, h))
many (suc k) (b ∷ l) more h =
    ⊎_elim (inside (many k (rest l) more)) (λ q. inr (short (no_byte (word l) q.0), more-short (no_byte (word (l ++ more)) q.1))) (first_word l more (omega (arith, h)))
  where
    short : is_byte (word l) ≡ false → bytes (suc k) (b ∷ l) ≡ false
    short e = bytes-split k b l ∙ ap (λ (t : Bool). t && bytes k (rest l)) e

    more-short : is_byte (word (l ++ more)) ≡ false → bytes (suc k) (b ∷ (l ++ more)) ≡ false
    more-short e = bytes-split k b (l ++ more) ∙ ap (λ (t : Bool). t && bytes k (rest (l ++ more))) e

    inside :
        (11 * k < length (rest l) → Many k (rest l) more)
        → (length_to space l < length l) × (word (l ++ more) ≡ word l) × (rest (l ++ more) ≡ rest l ++ more) → Many (suc k) (b ∷ l) more
    inside ih q = by_byte (is_byte (word l)) refl
      where
        far : is_byte (word l) ≡ true → 11 * k < length (rest l)
        far e =
            let n = (number-exact (word l)).0 (byte-number (word l) e) in
            omega (arith, h, n.short, length-take-le (length_to space l) l (mark-within space l), length-drop (length_to space l) l)

        by-rest : is_byte (word l) ≡ true → Many k (rest l) more → Many (suc k) (b ∷ l) more
        by-rest e (inl w) = inl (
          bytes-split k b l ∙ ap₂ (λ (t u : Bool). t && u) e w.0,
          ap (take (suc k)) (behind-split b (l ++ more)) ∙ ap₂ (λ (x : List ℕ) (ws : List (List ℕ)). x ∷ ws) q.1 (ap (λ (y : List ℕ). take k (words_after y)) q.2 ∙ w.1)
              ∙ sym (ap (take (suc k)) (behind-split b l)),
          ap (λ (ws : List (List ℕ)). length (take (suc k) ws)) (behind-split b l) ∙ ap suc w.2,
        )
        by-rest e (inr w) = inr (
          bytes-split k b l ∙ ap₂ (λ (t u : Bool). t && u) e w.0,
          bytes-split k b (l ++ more) ∙ ap₂ (λ (t u : Bool). t && u) (ap is_byte q.1 ∙ e) (ap (bytes k) q.2 ∙ w.1),
        )

        by_byte : (t : Bool) → is_byte (word l) ≡ t → Many (suc k) (b ∷ l) more
        by_byte false e = inr (short e, more-short (ap is_byte q.1 ∙ e))
        by_byte true e = by-rest e (ih (far e))

-- THE LINE

-- what is read in a long line: no row, or one of more numbers than there are cores
abbrev Wide : Read → Type 0
Wide x = (x ≡ no_row) ⊎ ((t : ℕ) × (ns : List ℕ) × (x ≡ row_read t ns) × (most_cores < length ns))

cells-none : (t : ℕ) (ws : List (List ℕ)) → all is_byte ws ≡ false → cells_of t ws ≡ no_row
unfolding cells_of
cells-none t ws e = rw e

cells-some : (t : ℕ) (ws : List (List ℕ)) → all is_byte ws ≡ true → cells_of t ws ≡ row_read t (map value ws)
unfolding cells_of
cells-some t ws e = rw e

map-length : (ws : List (List ℕ)) → length (map value ws) ≡ length ws
map-length [] = refl
map-length (w ∷ ws) = ap suc (map-length ws)

long-cells :
    (t : ℕ) (x more : List ℕ) → 11 * most_cells < length x
    → (cells_of t (take most_cells (words_after (x ++ more))) ≡ cells_of t (take most_cells (words_after x))) × Wide (cells_of t (take most_cells (words_after x)))
long-cells t x more h = go (many most_cells x more h)
  where
    go : Many most_cells x more → (cells_of t (take most_cells (words_after (x ++ more))) ≡ cells_of t (take most_cells (words_after x))) × Wide (cells_of t (take most_cells (words_after x)))
    go (inl w) = (
      ap (cells_of t) w.1,
      inr (t, map value (take most_cells (words_after x)), cells-some t (take most_cells (words_after x)) w.0, omega (arith, map-length (take most_cells (words_after x)), w.2)),
    )
    go (inr w) = (
      cells-none t (take most_cells (words_after (x ++ more))) w.1 ∙ sym (cells-none t (take most_cells (words_after x)) w.0),
      inl (cells-none t (take most_cells (words_after x)) w.0),
    )

row-not : (l : List ℕ) → is_number (word l) ≡ false → row_in l ≡ no_row
row-not l e = row-split l ∙ rw e

row_by : (l : List ℕ) → is_number (word l) ≡ true → row_in l ≡ cells_of (value (word l)) (take most_cells (words_after (rest l)))
row_by l e = row-split l ∙ rw e

pub long-read : (l more : List ℕ) → long_line ≤ length l → (row_in (l ++ more) ≡ row_in l) × Wide (row_in l)
long-read l more h = ⊎_elim inside (λ q. (row-not (l ++ more) q.1 ∙ sym (row-not l q.0), inl (row-not l q.0))) (first_word l more (omega (arith, h)))
  where
    inside : (length_to space l < length l) × (word (l ++ more) ≡ word l) × (rest (l ++ more) ≡ rest l ++ more) → (row_in (l ++ more) ≡ row_in l) × Wide (row_in l)
    inside q = go (is_number (word l)) refl
      where
        same : is_number (word (l ++ more)) ≡ is_number (word l)
        same = ap is_number q.1

        go : (t : Bool) → is_number (word l) ≡ t → (row_in (l ++ more) ≡ row_in l) × Wide (row_in l)
        go false e = (row-not (l ++ more) (same ∙ e) ∙ sym (row-not l e), inl (row-not l e))
        go true e =
            let n = (number-exact (word l)).0 e in
            let c = long-cells (value (word l)) (rest l) more
            (omega (arith, h, n.short, length-take-le (length_to space l) l (mark-within space l), length-drop (length_to space l) l)) in (
              row_by (l ++ more) (same ∙ e)
                  ∙ ap₂ (λ (w y : List ℕ). cells_of (value w) (take most_cells (words_after y))) q.1 q.2 ∙ c.0 ∙ sym (row_by l e),
              subst⁻¹ Wide (row_by l e) c.1,
            )

-- THE ANSWER TO IT

-- two tests that fail, each with another before it: neither holds
pub no-either : (t u : Bool) → ((t && false) || (u && false)) ≡ false
no-either true true = refl
no-either true false = refl
no-either false true = refl
no-either false false = refl

-- it is not skipped
long-passed : (r : PlanProgress) (l : List ℕ) → long_line ≤ length l → skipped r l ≡ false
unfolding skipped
long-passed r l h = rw (← verdict-long l h, ne_eqb (length l) 0 (λ e. omega (arith, h, e))) (no-either (eqb r.lines 0) r.accepted)

pub refusal-ends : (n t : ℕ) → is_more (refusal_answer n t) ≡ false
refusal-ends n t = go (leb 24 n)
  where
    go : (b : Bool) → is_more (cond b (Fault n t) (Refused n t)) ≡ false
    go true = refl
    go false = refl

-- and it ends the plan
wide-ends : (r : PlanProgress) (x : Read) → Wide x → is_more (enters r x).answer ≡ false
wide-ends r x (inl e) = ap (λ (y : Read). is_more (enters r y).answer) e
wide-ends r x (inr w) = ap (λ (y : Read). is_more (enters r y).answer) w.2 ∙ go (eqb w.0 r.plan.tick)
  where
    taken : is_more (row_entered (check_row_of r.plan w.1).answer (check_row_of r.plan w.1).plan (next_line r.lines)).answer ≡ false
    taken =
        let z = take_long r.plan w.1 w.3 in
        ap (λ (a : Answer). is_more (row_entered a (check_row_of r.plan w.1).plan (next_line r.lines)).answer) z.2 ∙ refusal-ends z.0 z.1

    go : (b : Bool) → is_more (cond {A = LineAnswer} b (row_entered (check_row_of r.plan w.1).answer (check_row_of r.plan w.1).plan (next_line r.lines)) (no_row_answer r)).answer ≡ false
    go true = taken
    go false = refl

step-long : (r : PlanProgress) (l : List ℕ) → long_line ≤ length l → step_of r l ≡ enters r (row_in l)
unfolding step_of
step-long r l h = rw (long-passed r l h)

pub long-step : (r : PlanProgress) (l more : List ℕ) → long_line ≤ length l → (step_of r (l ++ more) ≡ step_of r l) × (is_more (step_of r l).answer ≡ false)
long-step r l more h =
    let x = long-read l more h in (
      step-long r (l ++ more) (omega (arith, h, length-append l more)) ∙ ap (enters r) x.0 ∙ sym (step-long r l h),
      ap (λ (u : LineAnswer). is_more u.answer) (step-long r l h) ∙ wide-ends r (row_in l) x.1,
    )

-- whatever comes, the answer is that to what has come of it
pub rows_long : (r : PlanProgress) (l bs : List ℕ) → long_line ≤ length l → rows_answer nothing r (lines_from nothing l bs) ≡ (step_of r l).answer
unfolding lines_from last_line
rows_long r [] [] h = absurd (omega (arith, h))
rows_long r (b ∷ l) [] h = rows_end nothing r (b ∷ l) [] (long-step r (b ∷ l) [] h).1
rows_long r l (b ∷ bs) h =
    go (eqb b newline) (rows_long r (l ++ (b ∷ [])) bs (omega (arith, h, length-append l (b ∷ []))) ∙ ap (λ (u : LineAnswer). u.answer) (long-step r l (b ∷ []) h).0)
  where
    go :
        (t : Bool) → rows_answer nothing r (lines_from nothing (l ++ (b ∷ [])) bs) ≡ (step_of r l).answer
        → rows_answer nothing r (cond t (l ∷ lines_from nothing [] bs) (lines_from nothing (l ++ (b ∷ [])) bs)) ≡ (step_of r l).answer
    go true x = rows_end nothing r l (lines_from nothing [] bs) (long-step r l [] h).1
    go false x = x

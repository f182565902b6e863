-- A table and a plan as one text: the numbers of the table, a line `--`, and the rows, answered as the words and the list of rows are.
use mathlib.Core.Bool.{false}
use mathlib.Core.List.{List, [], ◌++◌, append_assoc, append-nil, ◌∷◌}
use mathlib.Core.Path.{◌∙◌, ◌≡◌, ap, refl, sym}
use Prim.Native.Nat.{◌+◌, ◌<◌, ℕ, ◌≤◌}
use native.Mathlib.Nat.{zero-add}
use native.Mathlib.Omega.{arith}
use lib.ListN.{get_or, length}
use lib.Seq.{take-length}
use borrow.Author.Tests.{ne_eqb}
use Rattle.model.specs.Sizes.{most_word}
use Rattle.table.specs.Answer.{answer_of}
use Rattle.table.specs.Answer.{Answer}
use Rattle.table.specs.Answer as table
use Rattle.text.specs.Decimal.{Digits, decimal}
use Rattle.text.specs.Format.{largest, most_numbers, newline, numbers_in, text_of, words_of}
use Rattle.text.proofs.Canonical.{text-read}
use Rattle.text.proofs.Decimals.{decimal-digits}
use Rattle.splitter.specs.Split.{InputEnd, closed, is_dashes, lines_from, nothing, split_from}
use Rattle.splitter.proofs.Splits.{split-line, split-more}
use Rattle.plan_check.specs.Begin.{begun_by, begin_of, first_state}
use Rattle.plan_check.specs.Checked.{outcome_of}
use Rattle.plan_text.specs.Checked.{Refused}
use Rattle.plan_text.specs.Checked.{checked_of, or_else, opens, opened_by, opened_of, rows_at, rows_answer, split_answer}
use Rattle.plan_text.specs.Plan.{ExpressibleRow, after_dashes, plan_text, plan_answer_of}
use Rattle.plan_text.proofs.Plan.{digits-mark, plan-answer}

-- a line of digits is no line `--`
digits-dashes : (ds : List ℕ) → Digits ds → is_dashes ds ≡ false
unfolding is_dashes
digits-dashes [] h = refl
digits-dashes (a ∷ []) h = refl
digits-dashes (a ∷ b ∷ []) h = rw (ne_eqb a 45 (λ e. omega (arith, e, (h 0 (omega arith)).0)))
digits-dashes (a ∷ b ∷ c ∷ ds) h = refl

-- the numbers of a table, one a line, and then the line `--`
split_text : (e : InputEnd) (d ws bs : List ℕ) → split_from e d [] (text_of ws ++ after_dashes bs) ≡ closed (d ++ text_of ws) (lines_from e [] bs)
unfolding split_from text_of is_dashes
split_text e d [] bs = ap (λ (x : List ℕ). closed x (lines_from e [] bs)) (sym (append-nil d))
split_text e d (w ∷ ws) bs =
    ap (split_from e d []) (append_assoc (decimal w) (newline ∷ text_of ws) (after_dashes bs))
    ∙ ap (λ (x : List ℕ). split_from e d [] (x ++ (newline ∷ (text_of ws ++ after_dashes bs)))) (sym (take-length (decimal w)))
    ∙ split-more e d [] (decimal w) (length (decimal w)) (newline ∷ (text_of ws ++ after_dashes bs)) (omega (arith, digits-mark newline (decimal w) (decimal-digits w) (omega arith)))
    ∙ ap (λ (x : List ℕ). split_from e d x (newline ∷ (text_of ws ++ after_dashes bs))) (take-length (decimal w))
    ∙ split-line e d (decimal w) (text_of ws ++ after_dashes bs) (digits-dashes (decimal w) (decimal-digits w))
    ∙ split_text e (d ++ (decimal w ++ (newline ∷ []))) ws bs
    ∙ ap (λ (x : List ℕ). closed x (lines_from e [] bs)) (append_assoc d (decimal w ++ (newline ∷ [])) (text_of ws) ∙ ap (λ (x : List ℕ). d ++ x) (append_assoc (decimal w) (newline ∷ []) (text_of ws)))

-- a plan begins at tick 0
pub begin-tick : (ws : List ℕ) → (begin_of ws).plan.tick ≡ 0
unfolding begin_of
begin-tick ws = go (answer_of ws)
  where
    go : (a : Answer) → (begun_by a (first_state ws)).plan.tick ≡ 0
    go table.Passed = refl
    go (table.Refused n p) = refl

-- THE WORDS OF A TABLE, at most 229 and each a number of 32 bits, and a plan's bytes
module _ (ws : List ℕ) (few : length ws ≤ most_numbers) (fit : (i : ℕ) → i < length ws → get_or ws i 0 ≤ largest) where
  read : numbers_in (words_of (text_of ws)) ≡ ws
  read = ap numbers_in (text-read ws few fit)

  said : (bs : List ℕ) → checked_of (text_of ws ++ after_dashes bs) ≡ or_else (opened_by (begin_of ws).answer (begin_of ws).plan).answer (rows_answer nothing (opened_by (begin_of ws).answer (begin_of ws).plan).rows (lines_from nothing [] bs))
  unfolding checked_of split_answer opens opened_of
  said bs =
      ap (split_answer nothing) (split_text nothing [] ws bs)
      ∙ ap (λ (vs : List ℕ). or_else (opened_by (begin_of vs).answer (begin_of vs).plan).answer (rows_answer nothing (opened_by (begin_of vs).answer (begin_of vs).plan).rows (lines_from nothing [] bs))) read

  -- where the table is turned down the answer is its number, whatever the plan is
  pub refused-text : (n p : ℕ) (bs : List ℕ) → (begin_of ws).answer ≡ table.Refused n p → checked_of (text_of ws ++ after_dashes bs) ≡ Refused n p
  refused-text n p bs e = said bs ∙ rw e

  -- else the answer is that to the bytes of the plan
  pub begun-text : (bs : List ℕ) → (begin_of ws).answer ≡ table.Passed → checked_of (text_of ws ++ after_dashes bs) ≡ rows_answer nothing (rows_at (begin_of ws).plan 0 false) (lines_from nothing [] bs)
  begun-text bs e = said bs ∙ rw e

  -- THE THEOREM: the text of a table and of rows gets the answer of the words and the list of rows (`checked` of crate plan_check gives its meaning)
  pub checked-text :
      (rows : List (List ℕ)) → (begin_of ws).answer ≡ table.Passed → ((t : ℕ) → t < length rows → ExpressibleRow (get_or rows t [])) → length rows ≤ most_word
      → checked_of (text_of ws ++ after_dashes (plan_text 0 rows)) ≡ plan_answer_of (outcome_of ws rows) (length rows)
  checked-text rows e f h =
      begun-text (plan_text 0 rows) e
      ∙ ap (λ (t : ℕ). rows_answer nothing (rows_at (begin_of ws).plan 0 false) (lines_from nothing [] (plan_text t rows))) (sym (begin-tick ws))
      ∙ plan-answer (rows_at (begin_of ws).plan 0 false) rows f (omega (arith, h, begin-tick ws))
      ∙ ap (λ (t : ℕ). plan_answer_of (outcome_of ws rows) (t + length rows)) (begin-tick ws) ∙ ap (plan_answer_of (outcome_of ws rows)) (zero-add (length rows))

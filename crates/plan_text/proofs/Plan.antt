-- WHAT THE PROGRAM PRINTS IS A PLAN: its rows are parsed to themselves, and its first line is skipped.
use mathlib.Core.Bool.{Bool, ◌&&◌, ◌||◌, cond, false, false≢true, true}
use mathlib.Core.List.{List, [], ◌++◌, append_assoc, append-nil, map, ◌∷◌}
use mathlib.Core.Path.{◌∙◌, ◌≡◌, ap, ap₂, refl, sym}
use Prim.Native.Nat.{◌+◌, ◌<◌, suc, zero, ℕ, ◌≤◌}
use native.Mathlib.Nat.{not-suc-le-zero}
use native.Mathlib.Omega.{arith}
use lib.Dec.{eqb, ltb}
use lib.ListN.{get_or, length, length-append, take}
use lib.Seq.{append_snoc, take_all}
use borrow.Author.Tests.{eq-eqb, le-leb, lt-ltb, ne_eqb}
use Rattle.model.specs.Sizes.{most_word}
use Rattle.judge.specs.JudgeAnswer.{judged}
use Rattle.model.specs.Lists.{full}
use Rattle.model.specs.Claims as model
use Rattle.model.specs.Search.{up_from}
use Rattle.model.specs.Task.{Table}
use Rattle.model.specs.Verdict.{Firm, Full, Miss, Verdict}
use Rattle.text.specs.Decimal.{Digits, all, decimal, value}
use Rattle.text.specs.Format.{is_number, joined, newline}
use Rattle.text.specs.Output.{fields, first_line, letters, line_of, row_line, row_lines, space}
use Rattle.text.proofs.Canonical.{number_of}
use Rattle.text.proofs.Decimals.{decimal-digits, decimal-most, decimal-some, decimal-value}
use Rattle.text.proofs.Numbers.{number-exact}
use Rattle.sentence.specs.Reading.{starts_with}
use Rattle.splitter.specs.Words.{words_in}
use Rattle.splitter.specs.Split.{InputEnd, last_line, lines_from, nothing}
use Rattle.plan_check.specs.Numbers.{after_row}
use Rattle.plan_check.specs.Answers.{PlanOutcome, accepts, unfinished}
use Rattle.plan_check.specs.Checked.{row_answers_from, outcome_from}
use Rattle.plan_check.specs.RowAnswer.{state_by_answer, row_answer_meaning}
use Rattle.plan_check.specs.CheckRow.{check_row_answer, check_row_of}
use Rattle.plan_check.specs.RowAnswer as answer
use Rattle.plan_check.specs.declared.SuppliedPlan.{SuppliedPlan}
use Rattle.plan_text.specs.declared.PlanProgress.{PlanProgress}
use Rattle.plan_text.specs.Checked.{PlanAnswer}
use Rattle.plan_text.specs.Checked.{Accepted, More, Unfinished}
use Rattle.plan_text.specs.Checked.{LineAnswer}
use Rattle.plan_text.specs.Line.{cells_of, is_byte, is_verdict, long_line, most_cells, row_read, row_in, row_of_words}
use Rattle.plan_text.specs.Checked.{end_answer, row_entered, or_else, is_more, next_line, skipped, refusal_answer, rows_at, rows_answer, step_of, line_answer}
use Rattle.plan_text.specs.Plan.{WordsOf, ExpressibleRow, plan_text, plan_answer_of}
use Rattle.plan_text.proofs.Lines.{rows_none}
use Rattle.plan_text.proofs.Long.{no-either, refusal-ends}
use Rattle.plan_text.proofs.Answers.{entered-plan, on-end}
use Rattle.splitter.proofs.Words.{words-one}
use Rattle.text.specs.Input.{length_to}

-- the answer to a row
abbrev pub takes : PlanProgress → List ℕ → LineAnswer
takes r ns = row_entered (check_row_of r.plan ns).answer (check_row_of r.plan ns).plan (next_line r.lines)

-- the answer to a list of rows, each taken from the state that the one before returns
unfoldable pub list_answer : PlanProgress → List (List ℕ) → PlanAnswer
list_answer r [] = end_answer nothing r
list_answer r (ns ∷ rows) = or_else (takes r ns).answer (list_answer (takes r ns).rows rows)

-- WORDS AND LINES OF DIGITS

-- digits are no marks
pub digits-mark : (m : ℕ) (ds : List ℕ) → Digits ds → m < 48 → length_to m ds ≡ length ds
unfolding length_to
digits-mark m [] h q = refl
digits-mark m (d ∷ ds) h q = rw (ne_eqb d m (λ e. omega (arith, (h 0 (omega arith)).0, q, e))) (ap suc (digits-mark m ds (λ i l. h (suc i) (omega (arith, l))) q))

-- a word with no space, a space, and more
words-plain : (w bs : List ℕ) → length_to space w ≡ length w → words_in (w ++ (space ∷ bs)) ≡ w ∷ words_in bs
unfolding words_in length_to
words-plain [] bs e = refl
words-plain (b ∷ w) bs e = go (eqb b space) e (words-plain w bs)
  where
    go :
        (t : Bool) → cond t 0 (suc (length_to space w)) ≡ suc (length w) → (length_to space w ≡ length w → words_in (w ++ (space ∷ bs)) ≡ w ∷ words_in bs)
        → cond t ([] ∷ words_in (w ++ (space ∷ bs))) (joined b (words_in (w ++ (space ∷ bs)))) ≡ (b ∷ w) ∷ words_in bs
    go true e ih = absurd (omega (arith, e))
    go false e ih = ap (joined b) (ih (omega (arith, e)))

-- the words of a row's line are its numbers in decimal
row_words : (w : List ℕ) (ns : List ℕ) → length_to space w ≡ length w → words_in (w ++ fields ns) ≡ w ∷ map decimal ns
unfolding fields
row_words w [] e = ap words_in (append-nil w) ∙ words-one w e
row_words w (n ∷ ns) e =
    words-plain w (decimal n ++ fields ns) e
    ∙ ap (λ (ws : List (List ℕ)). w ∷ ws) (row_words (decimal n) ns (digits-mark space (decimal n) (decimal-digits n) (omega arith)))

-- a line with no newline, a newline, and more
lines-plain : (e : InputEnd) (before l bs : List ℕ) → length_to newline l ≡ length l → lines_from e before (l ++ (newline ∷ bs)) ≡ (before ++ l) ∷ lines_from e [] bs
unfolding lines_from length_to
lines-plain e before [] bs h = ap (λ (x : List ℕ). x ∷ lines_from e [] bs) (sym (append-nil before))
lines-plain e before (b ∷ l) bs h = go (eqb b newline) h (lines-plain e (before ++ (b ∷ [])) l bs)
  where
    go :
        (t : Bool) → cond t 0 (suc (length_to newline l)) ≡ suc (length l)
        → (length_to newline l ≡ length l → lines_from e (before ++ (b ∷ [])) (l ++ (newline ∷ bs)) ≡ ((before ++ (b ∷ [])) ++ l) ∷ lines_from e [] bs)
        → cond t (before ∷ lines_from e [] (l ++ (newline ∷ bs))) (lines_from e (before ++ (b ∷ [])) (l ++ (newline ∷ bs))) ≡ (before ++ (b ∷ l)) ∷ lines_from e [] bs
    go true h ih = absurd (omega (arith, h))
    go false h ih = ih (omega (arith, h)) ∙ ap (λ (x : List ℕ). x ∷ lines_from e [] bs) (append_snoc before b l)

-- what has no mark, and then more that has none
mark-both : (m : ℕ) (xs ys : List ℕ) → length_to m xs ≡ length xs → length_to m ys ≡ length ys → length_to m (xs ++ ys) ≡ length (xs ++ ys)
unfolding length_to
mark-both m [] ys e f = f
mark-both m (x ∷ xs) ys e f = go (eqb x m) e (mark-both m xs ys)
  where
    go :
        (t : Bool) → cond t 0 (suc (length_to m xs)) ≡ suc (length xs)
        → (length_to m xs ≡ length xs → length_to m ys ≡ length ys → length_to m (xs ++ ys) ≡ length (xs ++ ys)) → cond t 0 (suc (length_to m (xs ++ ys))) ≡ suc (length (xs ++ ys))
    go true e ih = absurd (omega (arith, e))
    go false e ih = ap suc (ih (omega (arith, e)) f)

fields-line : (ns : List ℕ) → length_to newline (fields ns) ≡ length (fields ns)
unfolding fields length_to
fields-line [] = refl
fields-line (n ∷ ns) = ap suc (mark-both newline (decimal n) (fields ns) (digits-mark newline (decimal n) (decimal-digits n) (omega arith)) (fields-line ns))

-- A ROW READ BACK

-- its line without the newline
abbrev bare : ℕ → List ℕ → List ℕ
bare t ns = decimal t ++ fields ns

row-line : (t : ℕ) (ns bs : List ℕ) → row_line t ns ++ bs ≡ bare t ns ++ (newline ∷ bs)
unfolding row_line line_of
row-line t ns bs =
    ap (λ (x : List ℕ). x ++ bs) (sym (append_assoc (decimal t) (fields ns) (newline ∷ []))) ∙ append_assoc (bare t ns) (newline ∷ []) bs

lines-row : (e : InputEnd) (t : ℕ) (ns bs : List ℕ) → lines_from e [] (row_line t ns ++ bs) ≡ bare t ns ∷ lines_from e [] bs
lines-row e t ns bs =
    ap (lines_from e []) (row-line t ns bs)
    ∙ lines-plain e [] (bare t ns) bs (mark-both newline (decimal t) (fields ns) (digits-mark newline (decimal t) (decimal-digits t) (omega arith)) (fields-line ns))

text-number : (n : ℕ) → n ≤ most_word → is_number (decimal n) ≡ true
text-number n h = (number-exact (decimal n)).1 (number_of n h)

text-byte : (n : ℕ) → n ≤ 255 → is_byte (decimal n) ≡ true
unfolding is_byte
text-byte n h = rw (text-number n (omega (arith, h)), decimal-value n) (le-leb n 255 h)

text-bytes : (ns : List ℕ) → ((c : ℕ) → c < length ns → get_or ns c 0 ≤ 255) → (all is_byte (map decimal ns) ≡ true) × (map value (map decimal ns) ≡ ns)
unfolding all
text-bytes [] h = (refl, refl)
text-bytes (n ∷ ns) h =
    let ih = text-bytes ns (λ c l. h (suc c) (omega (arith, l))) in
    (rw (text-byte n (h 0 (omega arith))) ih.0, ap₂ (λ (x : ℕ) (xs : List ℕ). x ∷ xs) (decimal-value n) ih.1)

map-length : (ns : List ℕ) → length (map decimal ns) ≡ length ns
map-length [] = refl
map-length (n ∷ ns) = ap suc (map-length ns)

pub row_read_lem : (t : ℕ) (ns : List ℕ) → t ≤ most_word → ExpressibleRow ns → row_in (bare t ns) ≡ row_read t ns
unfolding row_of_words cells_of
row_read_lem t ns h s =
    let b = text-bytes ns s.1 in
    let few : take most_cells (map decimal ns) ≡ map decimal ns = take_all most_cells (map decimal ns) (omega (arith, s.0, map-length ns)) in
    ap row_of_words (row_words (decimal t) ns (digits-mark space (decimal t) (decimal-digits t) (omega arith)))
    ∙ rw (text-number t h, few, b.0, decimal-value t, b.1)

-- it is not skipped: it begins with a digit
digit-first : (t : ℕ) (ns : List ℕ) → (d : ℕ) × (l : List ℕ) × (bare t ns ≡ d ∷ l) × (48 ≤ d) × (d ≤ 57)
digit-first t ns = go (decimal t) (decimal-some t) (decimal-digits t)
  where
    go : (ds : List ℕ) → 1 ≤ length ds → Digits ds → (d : ℕ) × (l : List ℕ) × (ds ++ fields ns ≡ d ∷ l) × (48 ≤ d) × (d ≤ 57)
    go [] n h = absurd (not-suc-le-zero n)
    go (d ∷ ds) n h = (d, ds ++ fields ns, refl, (h 0 (omega arith)).0, (h 0 (omega arith)).1)

digit-verdict : (d : ℕ) (l : List ℕ) → d ≤ 57 → is_verdict (d ∷ l) ≡ false
unfolding is_verdict starts_with
digit-verdict d l h = rw (ne_eqb 102 d (λ e. omega (arith, e, h)), ne_eqb 109 d (λ e. omega (arith, e, h))) (go (ltb (length (d ∷ l)) long_line))
  where
    go : (t : Bool) → (t && false) ≡ false
    go true = refl
    go false = refl

digit-passed : (r : PlanProgress) (d : ℕ) (l : List ℕ) → d ≤ 57 → skipped r (d ∷ l) ≡ false
unfolding skipped
digit-passed r d l h = rw (digit-verdict d l h, ne_eqb (length (d ∷ l)) 0 (λ e. omega (arith, e))) (no-either (eqb r.lines 0) r.accepted)

row-passed : (r : PlanProgress) (t : ℕ) (ns : List ℕ) → skipped r (bare t ns) ≡ false
row-passed r t ns = let x = digit-first t ns in ap (skipped r) x.2 ∙ digit-passed r x.0 x.1 x.4

row_step : (r : PlanProgress) (ns : List ℕ) → r.plan.tick ≤ most_word → ExpressibleRow ns → step_of r (bare r.plan.tick ns) ≡ takes r ns
unfolding step_of
row_step r ns h s =
    rw (row-passed r r.plan.tick ns, row_read_lem r.plan.tick ns h s, eq-eqb r.plan.tick r.plan.tick refl)

-- a row that is taken leaves the next tick
taken-tick : (w : SuppliedPlan) (ns : List ℕ) (n : ℕ) → is_more (row_entered (check_row_of w ns).answer (check_row_of w ns).plan n).answer ≡ true → (check_row_of w ns).plan.tick ≡ suc w.tick
unfolding check_row_of
taken-tick w ns n = go (check_row_answer w ns)
  where
    go :
        (a : answer.Answer) → is_more (row_entered a (state_by_answer a (after_row w ns) w) n).answer ≡ true
        → (state_by_answer a (after_row w ns) w).tick ≡ suc w.tick
    go answer.Taken m = refl
    go answer.Accepted m = refl
    go (answer.Refused k t) m = absurd (false≢true (sym (refusal-ends k t) ∙ m))

rows-first : (r : PlanProgress) (l : List ℕ) (ls : List (List ℕ)) → rows_answer nothing r (l ∷ ls) ≡ or_else (step_of r l).answer (rows_answer nothing (step_of r l).rows ls)
unfolding rows_answer
rows-first r l ls = refl

-- a text of rows is answered as the list of these rows is
pub plan-read :
    (r : PlanProgress) (rows : List (List ℕ)) → ((t : ℕ) → t < length rows → ExpressibleRow (get_or rows t [])) → r.plan.tick + length rows ≤ most_word
    → rows_answer nothing r (lines_from nothing [] (plan_text r.plan.tick rows)) ≡ list_answer r rows
unfolding plan_text list_answer
plan-read r [] f h = unfold lines_from last_line in rows_none nothing r
plan-read r (ns ∷ rows) f h =
    ap (rows_answer nothing r) (lines-row nothing r.plan.tick ns (plan_text (suc r.plan.tick) rows))
    ∙ rows-first r (bare r.plan.tick ns) (lines_from nothing [] (plan_text (suc r.plan.tick) rows))
    ∙ ap (λ (u : LineAnswer). or_else u.answer (rows_answer nothing u.rows (lines_from nothing [] (plan_text (suc r.plan.tick) rows)))) same
    ∙ by_answer (is_more (takes r ns).answer) refl (plan-read (takes r ns).rows rows (λ t l. f (suc t) (omega (arith, l))))
  where
    same : step_of r (bare r.plan.tick ns) ≡ takes r ns
    same = row_step r ns (omega (arith, h)) (f 0 (omega arith))

    next-tick : is_more (takes r ns).answer ≡ true → (takes r ns).rows.plan.tick ≡ suc r.plan.tick
    next-tick m =
        ap (λ (w : SuppliedPlan). w.tick) (entered-plan (check_row_of r.plan ns).answer (check_row_of r.plan ns).plan (next_line r.lines))
        ∙ taken-tick r.plan ns (next_line r.lines) m

    by_answer :
        (b : Bool) → is_more (takes r ns).answer ≡ b
        → ((takes r ns).rows.plan.tick + length rows ≤ most_word
        → rows_answer nothing (takes r ns).rows (lines_from nothing [] (plan_text (takes r ns).rows.plan.tick rows)) ≡ list_answer (takes r ns).rows rows)
        → or_else (takes r ns).answer (rows_answer nothing (takes r ns).rows (lines_from nothing [] (plan_text (suc r.plan.tick) rows)))
        ≡ or_else (takes r ns).answer (list_answer (takes r ns).rows rows)
    by_answer true m ih =
        ap (or_else (takes r ns).answer)
        (ap (λ (t : ℕ). rows_answer nothing (takes r ns).rows (lines_from nothing [] (plan_text t rows))) (sym (next-tick m)) ∙ ih (omega (arith, h, next-tick m)))
    by_answer false m ih =
        on-end (takes r ns).answer (rows_answer nothing (takes r ns).rows (lines_from nothing [] (plan_text (suc r.plan.tick) rows))) m
        ∙ sym (on-end (takes r ns).answer (list_answer (takes r ns).rows rows) m)

-- THE LIST, as it is answered row by row

-- what the rows before came to
abbrev pub before : Bool → PlanOutcome
before true = accepts
before false = unfinished

-- one row of it
module _ (o : PlanOutcome) (t n : ℕ) (rows : List (List ℕ)) where
  list-row :
      (a : answer.Answer) (w : SuppliedPlan) → (is_more (row_entered a w n).answer ≡ true → w.tick ≡ suc t)
      → list_answer (row_entered a w n).rows rows ≡ plan_answer_of (outcome_from (before (row_entered a w n).rows.accepted) (row_answers_from (row_entered a w n).rows.plan rows)) ((row_entered a w n).rows.plan.tick + length rows)
      → or_else (row_entered a w n).answer (list_answer (row_entered a w n).rows rows) ≡ plan_answer_of (outcome_from o (row_answer_meaning a ∷ row_answers_from w rows)) (t + suc (length rows))
  unfolding outcome_from
  list-row answer.Taken w f ih =
      let q : w.tick + length rows ≡ t + suc (length rows) = omega (arith, f refl) in ih ∙ ap (plan_answer_of (outcome_from unfinished (row_answers_from w rows))) q
  list-row answer.Accepted w f ih =
      let q : w.tick + length rows ≡ t + suc (length rows) = omega (arith, f refl) in ih ∙ ap (plan_answer_of (outcome_from accepts (row_answers_from w rows))) q
  list-row (answer.Refused k u) w f ih = on-end (refusal_answer k u) (list_answer (rows_at w n false) rows) (refusal-ends k u)

list-answer : (r : PlanProgress) (rows : List (List ℕ)) → list_answer r rows ≡ plan_answer_of (outcome_from (before r.accepted) (row_answers_from r.plan rows)) (r.plan.tick + length rows)
unfolding list_answer row_answers_from
list-answer r [] = unfold end_answer outcome_from in go r.accepted
  where
    here : r.plan.tick ≡ r.plan.tick + 0
    here = omega arith

    go : (a : Bool) → cond a Accepted (Unfinished r.plan.tick) ≡ plan_answer_of (before a) (r.plan.tick + 0)
    go true = refl
    go false = ap Unfinished here
list-answer r (ns ∷ rows) =
    list-row (before r.accepted) r.plan.tick (next_line r.lines) rows (check_row_of r.plan ns).answer (check_row_of r.plan ns).plan
    (taken-tick r.plan ns (next_line r.lines)) (list-answer (takes r ns).rows rows)

pub plan-answer :
    (r : PlanProgress) (rows : List (List ℕ)) → ((t : ℕ) → t < length rows → ExpressibleRow (get_or rows t [])) → r.plan.tick + length rows ≤ most_word
    → rows_answer nothing r (lines_from nothing [] (plan_text r.plan.tick rows)) ≡ plan_answer_of (outcome_from (before r.accepted) (row_answers_from r.plan rows)) (r.plan.tick + length rows)
plan-answer r rows f h = plan-read r rows f h ∙ list-answer r rows

-- THE FIRST LINE

-- a word and two numbers
abbrev pair : List ℕ → ℕ → ℕ → List ℕ
pair word a b = word ++ fields (a ∷ b ∷ [])

pair_line : (word : List ℕ) (a b : ℕ) (bs : List ℕ) → line_of word (a ∷ b ∷ []) ++ bs ≡ pair word a b ++ (newline ∷ bs)
unfolding line_of
pair_line word a b bs =
    ap (λ (x : List ℕ). x ++ bs) (sym (append_assoc word (fields (a ∷ b ∷ [])) (newline ∷ []))) ∙ append_assoc (pair word a b) (newline ∷ []) bs

pair-short : (word : List ℕ) (a b : ℕ) → length word ≡ 4 → a ≤ most_word → b ≤ most_word → length (pair word a b) < long_line
unfolding fields
pair-short word a b w p q =
    let n = length-append word (fields (a ∷ b ∷ [])) in
    let k = length-append (decimal a) (space ∷ (decimal b ++ [])) in
    let j = length-append (decimal b) [] in
    omega (arith, n, k, j, w, decimal-most a (omega (arith, p)), decimal-most b (omega (arith, q)))

-- where no line has come yet it is skipped
pair-passed :
    (r : PlanProgress) (word : List ℕ) (a b : ℕ) → r.lines ≡ 0 → length word ≡ 4 → a ≤ most_word → b ≤ most_word
    → (starts_with (letters "firm") (pair word a b) || (starts_with (letters "full") (pair word a b) || starts_with (letters "miss") (pair word a b))) ≡ true
    → step_of r (pair word a b) ≡ line_answer (rows_at r.plan (next_line r.lines) r.accepted) More
unfolding step_of skipped is_verdict
pair-passed r word a b z w p q e = rw (z, lt-ltb (length (pair word a b)) long_line (pair-short word a b w p q), e)

module _ (r : PlanProgress) (z : r.lines ≡ 0) (bs : List ℕ) where
  answer-pair :
      (word : List ℕ) (a b : ℕ) → length_to newline word ≡ length word → length word ≡ 4 → a ≤ most_word → b ≤ most_word
      → (starts_with (letters "firm") (pair word a b) || (starts_with (letters "full") (pair word a b) || starts_with (letters "miss") (pair word a b))) ≡ true
      → rows_answer nothing r (lines_from nothing [] (line_of word (a ∷ b ∷ []) ++ bs)) ≡ rows_answer nothing (rows_at r.plan (next_line r.lines) r.accepted) (lines_from nothing [] bs)
  answer-pair word a b m w p q e =
      ap (λ (x : List ℕ). rows_answer nothing r (lines_from nothing [] x)) (pair_line word a b bs)
      ∙ ap (rows_answer nothing r) (lines-plain nothing [] (pair word a b) bs (mark-both newline word (fields (a ∷ b ∷ [])) m (fields-line (a ∷ b ∷ []))))
      ∙ rows-first r (pair word a b) (lines_from nothing [] bs)
      ∙ ap (λ (u : LineAnswer). or_else u.answer (rows_answer nothing u.rows (lines_from nothing [] bs))) (pair-passed r word a b z w p q e)

  -- the line of a verdict, as the program prints it, before the rows of a plan
  pub verdict-passed :
      (v : Verdict) → WordsOf v
      → rows_answer nothing r (lines_from nothing [] (first_line (judged v) ++ bs)) ≡ rows_answer nothing (rows_at r.plan (next_line r.lines) r.accepted) (lines_from nothing [] bs)
  unfolding first_line starts_with length_to
  verdict-passed (Firm s p) n = answer-pair (letters "firm") s p refl refl n.0 n.1 refl
  verdict-passed (Full s p) n = answer-pair (letters "full") s p refl refl n.0 n.1 refl
  verdict-passed (Miss t p) n = answer-pair (letters "miss") t p refl refl n.0 n.1 refl

-- THE ROWS that are printed of a table are the text of the rows of its full-length run
pub rows-text : (s : Table) (t n : ℕ) → row_lines s t n ≡ plan_text t (map (λ u. model.book_row s (full s u)) (up_from t n))
unfolding row_lines plan_text up_from
rows-text s t zero = refl
rows-text s t (suc n) = ap (λ (x : List ℕ). row_line t (model.book_row s (full s t)) ++ x) (rows-text s (suc t) n)

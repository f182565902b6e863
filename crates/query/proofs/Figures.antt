-- The lines of numbers: one line more, as it is written; and the meaning of an answer. Assumes nothing.
use mathlib.Core.Bool.{Bool, false, true}
use mathlib.Core.List.{List, [], ◌∷◌, ◌++◌, append_assoc, append-nil}
use mathlib.Core.Path.{◌≡◌, refl, ap, sym, ◌∙◌, subst}
use Prim.Native.Nat.{ℕ, suc, ◌+◌, ◌≤◌, ◌<◌}
use native.Mathlib.Numerals.{add-one}
use native.Mathlib.Omega.{arith}
use lib.ListN.{length, take, get_or, set}
use lib.Seq.{take-suc, length-take-le}
use Rattle.text.specs.Decimal.{decimal, digit_count, digits_within, last_digits}
use Rattle.text.specs.Format.{newline}
use Rattle.text.specs.Written.{Put}
use Rattle.text.proofs.Writing.{put_one, put_then, put-length}
use Rattle.text.specs.Output.{space, fields, letters, line_of}
use Rattle.table.specs.Answer.{Passed}
use Rattle.table.specs.declared.Loaded.{Loaded}
use Rattle.table.specs.Load.{load_meaning, LoadedAs}
use Rattle.std.specs.Prelude.{Result, Ok, Err, Option, Some, None}
use Rattle.model.specs.declared.refusal.Refusal.{Refusal}
use Rattle.table.specs.Numbers.{NoneApplies}
use Rattle.table.specs.Words.{table_of}
use Rattle.response_time.specs.ResponseTimes.{ResponseTimes}
use Rattle.response_time.specs.ResponseTimes.{ResponseTimesOf}
use Rattle.response_time.specs.ResponseTimes.{answered as timed}
use Rattle.response_time.specs.Numbers.{words}
use Rattle.slack.specs.Answer.{SlackAnswer}
use Rattle.slack.specs.Answer.{SlackOf}
use Rattle.slack.specs.Answer.{answered as spared}
use Rattle.slack.specs.Numbers as sparing
use Rattle.interference.specs.Bounds.{Bounds}
use Rattle.interference.specs.Bounds.{BoundsOf}
use Rattle.interference.specs.Bounds.{answered as bounded}
use Rattle.query.specs.Figures.{bound_lines_by, figure_lines, figure_lines_by, no_bounds_line}
use Rattle.query.specs.Query.{bounds_text, refusal_line, response_times_text, slack_text}

-- a line for each number, from position 1 on, as it is printed
pub figures-printed : figure_lines 0 (2 ∷ 50 ∷ []) ≡ letters "1 2" ++ (newline ∷ (letters "2 50" ++ (newline ∷ [])))
unfolding figure_lines line_of fields decimal digit_count digits_within last_digits
figures-printed = refl

-- the line of one number more
lines_more : (q : ℕ) (xs : List ℕ) (x : ℕ) → figure_lines q (xs ++ (x ∷ [])) ≡ figure_lines q xs ++ line_of (decimal (suc (q + length xs))) (x ∷ [])
unfolding figure_lines
lines_more q [] x =
    let e : q ≡ q + 0 = omega arith in
    append-nil (line_of (decimal (suc q)) (x ∷ [])) ∙ ap (λ (n : ℕ). line_of (decimal (suc n)) (x ∷ [])) e
lines_more q (y ∷ ys) x =
    let e : suc q + length ys ≡ q + suc (length ys) = omega arith in
    ap (λ (l : List ℕ). line_of (decimal (suc q)) (y ∷ []) ++ l)
    (lines_more (suc q) ys x ∙ ap (λ (n : ℕ). figure_lines (suc q) ys ++ line_of (decimal (suc n)) (x ∷ [])) e)
    ∙ sym (append_assoc (line_of (decimal (suc q)) (y ∷ [])) (figure_lines (suc q) ys) (line_of (decimal (suc (q + suc (length ys)))) (x ∷ [])))

-- .. of the first k + 1
lines_next :
    (xs : List ℕ) (k : ℕ) → k < length xs → figure_lines 0 (take k xs) ++ line_of (decimal (k + 1)) (get_or xs k 0 ∷ []) ≡ figure_lines 0 (take (k + 1) xs)
lines_next xs k h =
    let n : length (take k xs) ≡ k = length-take-le k xs (omega arith) in
    let e : k + 1 ≡ suc (0 + length (take k xs)) = omega (arith, n) in
    ap (λ (m : ℕ). figure_lines 0 (take k xs) ++ line_of (decimal m) (get_or xs k 0 ∷ [])) e
    ∙ sym (lines_more 0 (take k xs) (get_or xs k 0))
    ∙ ap (figure_lines 0) (sym (ap (λ (j : ℕ). take j xs) (add-one k) ∙ take-suc xs k 0 h))

-- a line is a position, a space, a number and a newline
line-text : (s : List ℕ) (n x : ℕ) → ((s ++ decimal n) ++ (space ∷ decimal x)) ++ (newline ∷ []) ≡ s ++ line_of (decimal n) (x ∷ [])
unfolding line_of fields
line-text s n x = simp (append_assoc, append-nil)

-- the line of one number more is put
pub put-line :
    (l m n o : List ℕ) (at middle end k : ℕ) (xs : List ℕ) → Put l 0 (figure_lines 0 (take k xs)) m at → k < length xs
    → Put m at (decimal (k + 1)) n middle → Put n middle (space ∷ decimal (get_or xs k 0)) o end → middle ≤ end → end < length l
    → Put l 0 (figure_lines 0 (take (k + 1) xs)) (set o end newline) (end + 1)
put-line l m n o at middle end k xs p h q r b f =
    let s = figure_lines 0 (take k xs) in
    let two : Put l 0 (s ++ decimal (k + 1)) n middle = put_then p q (omega arith) in
    let three : Put l 0 ((s ++ decimal (k + 1)) ++ (space ∷ decimal (get_or xs k 0))) o end = put_then two r (omega arith) in
    let e : length o ≡ length l = put-length three (omega arith) in
    let all = put_then three (put_one o end newline (omega arith)) (omega arith) in
    subst (λ (t : List ℕ). Put l 0 t (set o end newline) (end + 1)) (line-text s (k + 1) (get_or xs k 0) ∙ lines_next xs k h) all

-- A LINE FOR EACH TASK

-- one for each task of the table that was loaded
pub lines-text :
    (ws : List ℕ) (t : Loaded) → LoadedAs ws t → (xs : List ℕ) → figure_lines 0 (take t.count xs) ≡ figure_lines 0 (take (length (table_of ws).tasks) xs)
lines-text ws t h xs = ap (λ (n : ℕ). figure_lines 0 (take n xs)) h.count

-- WHAT `response_times` ANSWERS

module _ (ws : List ℕ) (r : ResponseTimes) (h : ResponseTimesOf ws r) where
  -- the output follows from it
  pub response-times-by : figure_lines_by r.answer (take (length (table_of ws).tasks) r.responses) ≡ response_times_text ws
  unfolding response_times_text
  response-times-by = ap (λ (w : ResponseTimes). figure_lines_by w.answer (take (length (table_of ws).tasks) w.responses)) h.value

  -- no number turns down a table whose response times are given
  pub response-times-none : r.answer ≡ Passed → NoneApplies ws
  response-times-none e n p a = h.passed.0 (ap load_meaning e) n p (words n p a)

-- as code has it: the lines of a table that passes, or the refusal's
module _ (ws : List ℕ) (r : Result (List ℕ) Refusal) (h : ResponseTimesOf ws (timed r)) where
  pub response-times-ok : (xs : List ℕ) → r ≡ Ok xs → NoneApplies ws × (figure_lines 0 (take (length (table_of ws).tasks) xs) ≡ response_times_text ws)
  response-times-ok xs is =
      let g : ResponseTimesOf ws (timed (Ok xs)) = subst (λ (r : Result (List ℕ) Refusal). ResponseTimesOf ws (timed r)) is h in
      (response-times-none ws (timed (Ok xs)) g refl, response-times-by ws (timed (Ok xs)) g)

  pub response-times-err : (e : Refusal) → r ≡ Err e → refusal_line e ≡ response_times_text ws
  response-times-err e is =
      response-times-by ws (timed (Err e)) (subst (λ (r : Result (List ℕ) Refusal). ResponseTimesOf ws (timed r)) is h)

-- WHAT `slack` ANSWERS

module _ (ws : List ℕ) (r : SlackAnswer) (h : SlackOf ws r) where
  -- the output follows from it
  pub slack-by : figure_lines_by r.answer (take (length (table_of ws).tasks) r.slack) ≡ slack_text ws
  unfolding slack_text
  slack-by = ap (λ (w : SlackAnswer). figure_lines_by w.answer (take (length (table_of ws).tasks) w.slack)) h.value

  -- no number turns down a table whose slack is given
  pub slack-none : r.answer ≡ Passed → NoneApplies ws
  slack-none e n p a = h.passed.0 (ap load_meaning e) n p (sparing.words n p a)

-- as code has it
module _ (ws : List ℕ) (r : Result (List ℕ) Refusal) (h : SlackOf ws (spared r)) where
  pub slack-ok : (xs : List ℕ) → r ≡ Ok xs → NoneApplies ws × (figure_lines 0 (take (length (table_of ws).tasks) xs) ≡ slack_text ws)
  slack-ok xs is =
      let g : SlackOf ws (spared (Ok xs)) = subst (λ (r : Result (List ℕ) Refusal). SlackOf ws (spared r)) is h in
      (slack-none ws (spared (Ok xs)) g refl, slack-by ws (spared (Ok xs)) g)

  pub slack-err : (e : Refusal) → r ≡ Err e → refusal_line e ≡ slack_text ws
  slack-err e is = slack-by ws (spared (Err e)) (subst (λ (r : Result (List ℕ) Refusal). SlackOf ws (spared r)) is h)

-- WHAT `response_bounds` ANSWERS

module _ (ws : List ℕ) (r : Bounds) (h : BoundsOf ws r) where
  -- what is said goes by it
  bounds-by : bound_lines_by r.tested.met r.answer (take (length (table_of ws).tasks) r.tested.bounds) ≡ bounds_text ws
  unfolding bounds_text
  bounds-by =
      ap (λ (w : Bounds). bound_lines_by w.tested.met w.answer (take (length (table_of ws).tasks) w.tested.bounds)) h.value

  pub bounds-met : r.tested.met ≡ true → figure_lines_by r.answer (take (length (table_of ws).tasks) r.tested.bounds) ≡ bounds_text ws
  bounds-met e =
      ap (λ (t : Bool). bound_lines_by t r.answer (take (length (table_of ws).tasks) r.tested.bounds)) (sym e) ∙ bounds-by

  pub bounds-unmet : r.tested.met ≡ false → no_bounds_line r.answer ≡ bounds_text ws
  bounds-unmet e =
      ap (λ (t : Bool). bound_lines_by t r.answer (take (length (table_of ws).tasks) r.tested.bounds)) (sym e) ∙ bounds-by

  -- no number turns down a table whose test is given
  pub bounds-none : r.answer ≡ Passed → NoneApplies ws
  bounds-none e = h.passed.0 (ap load_meaning e)

-- as code has it: the bounds, that there are none, or the refusal's line
module _ (ws : List ℕ) (r : Result (Option (List ℕ)) Refusal) (h : BoundsOf ws (bounded r)) where
  with_result : (x : Result (Option (List ℕ)) Refusal) → r ≡ x → BoundsOf ws (bounded x)
  with_result x is = subst (λ (r : Result (Option (List ℕ)) Refusal). BoundsOf ws (bounded r)) is h

  pub bounds-some :
      (t : Option (List ℕ)) → r ≡ Ok t → (xs : List ℕ) → t ≡ Some xs
      → NoneApplies ws × (figure_lines 0 (take (length (table_of ws).tasks) xs) ≡ bounds_text ws)
  bounds-some t is xs e =
      let g : BoundsOf ws (bounded (Ok (Some xs))) = with_result (Ok (Some xs)) (is ∙ ap Ok e) in
      (bounds-none ws (bounded (Ok (Some xs))) g refl, bounds-met ws (bounded (Ok (Some xs))) g refl)

  pub bounds-no : (t : Option (List ℕ)) → r ≡ Ok t → t ≡ None → letters "none" ++ (newline ∷ []) ≡ bounds_text ws
  bounds-no t is e = bounds-unmet ws (bounded (Ok None)) (with_result (Ok None) (is ∙ ap Ok e)) refl

  pub bounds-err : (e : Refusal) → r ≡ Err e → refusal_line e ≡ bounds_text ws
  bounds-err e is = bounds-unmet ws (bounded (Err e)) (with_result (Err e) is) refl

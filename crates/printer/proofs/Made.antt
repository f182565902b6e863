-- A printer as it is made: all that is printed for the words, and so for the bytes, is left.
use native.Mathlib.Omega.{arith}
use mathlib.Core.Path.{◌≡◌, refl, sym, ap, ap₂, ◌∙◌, subst, subst⁻¹}
use mathlib.Core.List.{List, [], ◌++◌, append-nil}
use mathlib.Core.Bool.{true, false}
use mathlib.Core.Logic.{inl, inr, ⊎_elim}
use native.Mathlib.Nat.{eq-zero-or-pos}
use Prim.Native.Nat.{ℕ, ◌-◌, ◌≤◌, ◌<◌}
use lib.Bits.{bit_and, and_zero_l}
use lib.ListN.{length, get_or, take, replicate}
use lib.Seq.{take-append_seam}
use borrow.Author.Tests.{eq-eqb}
use Rattle.model.specs.Fence.{unfenced_count}
use Rattle.model.specs.Task.{Table, AllValid, task}
use Rattle.model.specs.Search.{any}
use Rattle.std.proofs.lemmas.Bool.{false_from_ne_true}
use Rattle.model.specs.Task as plain
use Rattle.model.specs.Lists.{Missed}
use Rattle.model.specs.Horizon.{horizon}
use Rattle.model.specs.Verdict.{FirstMiss, verdict}
use Rattle.model.specs.Verdict as model
use Rattle.model.proofs.Horizon.{horizon-enough}
use Rattle.model.proofs.Verdict.{verdict-exact}
use Rattle.model.specs.Sizes.{most_cores, most_tasks}
use Rattle.table.specs.Answer.{Answer}
use Rattle.table.specs.Answer.{Passed, Refused}
use Rattle.table.specs.declared.Loaded.{Loaded}
use Rattle.table.specs.Words.{core_count, fence, table_of}
use Rattle.table.specs.Answer.{answer_of, header_number}
use Rattle.table.specs.Load.{LoadedAs}
use Rattle.table.specs.Numbers.{NoneApplies}
use Rattle.table.proofs.Exact.{passed-exact}
use Rattle.table.specs.Limits.{InRange, OneOut, task_out}
use Rattle.table.specs.Task.{task_of, no_task}
use Rattle.table.proofs.Inside.{Inside}
use Rattle.table.proofs.Passed.{passed-cores, passed-inside}
use Rattle.table.proofs.Places.{task-at}
use Rattle.table.proofs.Tests.{task-decides}
use Rattle.rule.specs.Widths.{widths_in}
use Rattle.simulation.specs.declared.machine.Registers.{Registers}
use Rattle.simulation.specs.Places.{segment}
use Rattle.simulation.specs.TickState.{loaded_numbers, TickState, tick_state_of, initial_tick_state}
use Rattle.judge.specs.declared.Verdict.{Verdict}
use Rattle.judge.specs.declared.Verdict.TheVariants as judge
use Rattle.judge.specs.JudgeAnswer.{JudgeAnswer, judged, refused, verdict_meaning, verdict_case}
use Rattle.table.specs.Fit.{loaded_table, Fit}
use Rattle.judge.specs.Judged.{Judged}
use Rattle.simulation.proofs.RefinesTick.{refines-start}
use Rattle.table.proofs.Fit.{fit, same-table}
use Rattle.judge.proofs.Contract.{meaning-case, passed_is, refused-is}
use Rattle.text.specs.Format.{most_numbers, Words, read_words, no_text, words_of}
use Rattle.text.specs.Input.{Input, input_of, ReadOf}
use Rattle.text.specs.Output.{first_line, row_lines, rows_printed, printed, printed_by, output_of, output, longest_cells, longest_line}
use Rattle.text.specs.Written.{Put}
use Rattle.printer.specs.Cells.{cells}
use Rattle.text.specs.FirstLine.{end_of}
use Rattle.printer.specs.Rows.{row_text_of, lines_in}
use Rattle.printer.specs.Valid.{out_at, table_valid, owed, within, valid}
use Rattle.printer.specs.Printer.{run_state_of, text_kept, remaining, PrinterStartOf, WordsPrinter, MadeFrom, no_table}
use Rattle.printer.specs.declared.Printer.{Printer}
use Rattle.text.proofs.Writing.{put_front}
use Rattle.printer.proofs.Limits.{limits-valid, none_out}
use Rattle.printer.proofs.Refines.{rows-follow}
use Rattle.printer.proofs.Emitting.{rest-valid}

-- THE START

-- no place is in the empty set
none_within : (b : ℕ) → within 0 b ≡ true
none_within b = eq-eqb (bit_and 0 b) 0 (and_zero_l b)

-- the first line is written, and the run is before tick 0
module _
    (t : Loaded) (e : ℕ) (v : Verdict) (registers : Registers) (places : List ℕ) (m : tick_state_of registers places ≡ initial_tick_state t) (widths : List ℕ)
    (w : widths ≡ (loaded_numbers t).widths) (row line : List ℕ) (size ready : ℕ)
    (p : (Put (replicate longest_cells 0) 0 (cells t.rule t.cores t.fence (take t.count (widths_in registers.even widths)) 0) row size)
    × (size ≤ longest_cells))
    (q : (Put (replicate longest_line 0) 0 (first_line (verdict_meaning v)) line ready) × (ready ≤ longest_line))
  where
    abbrev first : Printer
    first = record {
      table = t;
      end = e;
      places = places;
      stage = record { registers = registers; text = size; ready = ready };
      row = row;
      line = line;
      given = 0;
    }

    kept : text_kept first ≡ row_text_of (loaded_numbers t) 0 (initial_tick_state t).even
    kept =
        put_front p.0
        ∙ ap₂ (λ (x : List ℕ) (y : ℕ). cells t.rule t.cores t.fence (take t.count (widths_in y x)) 0) w (ap (λ (s : TickState). s.even) m)

    rows :
        (0 < e → Fit t × (e ≤ t.horizon) × ((q u : ℕ) → u < e → ¬ Missed (loaded_table t) q u))
        → lines_in (loaded_numbers t) e (initial_tick_state t) (text_kept first) ≡ row_lines (loaded_table t) 0 e
    rows f =
        ⊎_elim
        (λ (z : e ≡ 0). let none : lines_in (loaded_numbers t) 0 (initial_tick_state t) (text_kept first) ≡ row_lines (loaded_table t) 0 0 = unfold lines_in row_lines in refl in
        subst⁻¹ (λ (k : ℕ). lines_in (loaded_numbers t) k (initial_tick_state t) (text_kept first) ≡ row_lines (loaded_table t) 0 k) z none)
        (λ (l : 0 < e). rows-follow t (f l).0 e (initial_tick_state t) (text_kept first) (refines-start t (f l).0) kept (λ q u b. (f l).2 q u (omega arith)))
        (eq-zero-or-pos e)

    -- the registers's numbers
    tick : registers.tick ≡ 0
    tick = ap (λ (s : TickState). s.tick) m

    claims : registers.claiming ≡ 0
    claims = ap (λ (s : TickState). s.machine.claiming) m

    granted : registers.granted ≡ 0
    granted = ap (λ (s : TickState). s.granted) m

    pub start-of : PrinterStartOf t e v first
    start-of = record {
      valid = λ ok few. limits-valid first (record {
        table = ok;
        tick = omega (arith, tick);
        end = few;
        ready = q.1;
        given = omega arith;
        text = p.1;
        claims = rw claims (none_within (owed (segment 0 places)));
        chosen = rw granted (none_within registers.chosen);
      });
      whole = λ f. unfold remaining in
          let z : ready - 0 ≡ ready = omega arith in
          let y : e - registers.tick ≡ e = omega (arith, tick) in
          ap₂ (λ (i j : ℕ). take i line ++ lines_in (loaded_numbers t) j (run_state_of first) (text_kept first)) z y
          ∙ ap₂ (λ (x y : List ℕ). x ++ y) (put_front q.0) (ap (λ (s : TickState). lines_in (loaded_numbers t) e s (text_kept first)) m ∙ rows f);
    }

-- THE WORDS

-- what was loaded is small enough to be printed
pub load-small : (ws : List ℕ) (r : Loaded) → LoadedAs ws r → NoneApplies ws → (r.cores ≤ most_cores) × (r.count ≤ most_tasks)
load-small ws r h none = (omega (arith, h.cores, (passed-cores ws none).1), h.count-from.1)

-- a width that is within its limits
one_in : (m v : ℕ) → InRange 1 m v → ¬ OneOut m v
one_in m v f w = ⊎_elim (λ x. omega (arith, f.0)) (λ x. omega (arith, f.1)) w

-- a task that is within its limits is not turned down
inside-in : (m : ℕ) (τ : plain.Task) → Inside m τ → task_out m τ ≡ false
inside-in m τ i =
    false_from_ne_true (task_out m τ) (λ e.
    ⊎_elim
    (λ w. ⊎_elim (one_in m τ.odd_width i.odd-from) (one_in m τ.even_width i.even-from) w)
    (λ w. ⊎_elim (λ x. omega (arith, i.offset-most)) (λ w. ⊎_elim (λ x. x i.length_from) (λ w. ⊎_elim (λ x. x i.period-from) (λ x. x i.deadline-from) w) w) w)
    ((task-decides m τ).0 e))

-- and what was loaded is valid
load-valid : (ws : List ℕ) (r : Loaded) → LoadedAs ws r → NoneApplies ws → table_valid r ≡ true
load-valid ws r h none = none_out r (load-small ws r h none).1 (load-small ws r h none).0 in-limits
  where
    in-limits : (p : ℕ) → p < r.count → out_at r p ≡ false
    in-limits p b =
        let i = passed-inside ws none p (omega (arith, h.count)) in
        let same : task_of (get_or r.tasks p no_task) ≡ task (table_of ws) p =
        sym (task-at r.tasks r.count p b) ∙ ap (λ (τs : List plain.Task). get_or τs p plain.absent_task) h.tasks in
        ap₂ (λ (m : ℕ) (τ : plain.Task). task_out m τ) (ap₂ unfenced_count h.fence h.cores) same ∙ inside-in (unfenced_count (fence ws) (core_count ws)) (task (table_of ws) p) i

-- so is one without tasks
none-valid : table_valid no_table ≡ true
unfolding table_valid any
none-valid = refl

end-case : (v : model.Verdict) (h : ℕ) → end_of (verdict_case (judged v)) h ≡ rows_printed v h
end-case (model.Firm a b) h = refl
end-case (model.Full a b) h = refl
end-case (model.Miss a b) h = refl

-- the rows that are printed are those of the run before the first miss, up to the horizon
rows-met :
    (s : Table) → AllValid s → (v : model.Verdict) → verdict s ≡ v
    → (rows_printed v (horizon s) ≤ horizon s) × ((q u : ℕ) → u < rows_printed v (horizon s) → ¬ Missed s q u)
rows-met s ok (model.Firm a b) e = (omega arith, λ q u l. (verdict-exact s ok).accepted.0 (a, b, inl e) q u)
rows-met s ok (model.Full a b) e = (omega arith, λ q u l. (verdict-exact s ok).accepted.0 (a, b, inr e) q u)
rows-met s ok (model.Miss t p) e = (inside, first.no-earlier)
  where
    first : FirstMiss s t p
    first = ((verdict-exact s ok).miss t p).0 e

    inside : t ≤ horizon s
    inside =
        let near : ¬ (horizon s < t) = λ far. horizon-enough s ok (λ q u l. first.no-earlier q u (omega arith)) first.place.0 t first.missed in
        omega arith

-- of words that pass: the verdict's line, and the rows
pub passed-made :
    (ws : List ℕ) (r : Loaded) (v : Verdict) (p : Printer) → LoadedAs ws r → NoneApplies ws → Judged ws v → PrinterStartOf r (end_of v r.horizon) v p
    → WordsPrinter ws p
passed-made ws r v p h free j s = record {
  valid = ok;
  whole =
      rest-valid p ok ∙ s.whole (λ l. (f, near, λ q u b. rows.1 q u (subst (λ (x : ℕ). u < x) ends b)))
      ∙ ap₂ (λ (x : Verdict) (n : ℕ). first_line (verdict_meaning x) ++ row_lines (loaded_table r) 0 n) is ends
      ∙ ap (λ (x : JudgeAnswer). first_line x ++ row_lines (loaded_table r) 0 (rows_printed (verdict (loaded_table r)) (horizon (loaded_table r)))) (meaning-case (judged (verdict (loaded_table r))))
      ∙ printed-is (loaded_table r) ∙ ap printed (same-table ws r h free)
      ∙ sym (ap (λ (a : Answer). printed_by a (table_of ws)) passes);
}
  where
    f : Fit r
    f = fit ws r h free

    passes : answer_of ws ≡ Passed
    passes = (passed-exact ws).1 free

    is : v ≡ verdict_case (judged (verdict (loaded_table r)))
    is = j.value ∙ passed_is ws passes ∙ ap (λ (x : Table). verdict_case (judged (verdict x))) (sym (same-table ws r h free))

    rows : (rows_printed (verdict (loaded_table r)) (horizon (loaded_table r)) ≤ horizon (loaded_table r)) × ((q u : ℕ) → u < rows_printed (verdict (loaded_table r)) (horizon (loaded_table r)) → ¬ Missed (loaded_table r) q u)
    rows = rows-met (loaded_table r) f.valid (verdict (loaded_table r)) refl

    ends : end_of v r.horizon ≡ rows_printed (verdict (loaded_table r)) (horizon (loaded_table r))
    ends = ap₂ (λ (x : Verdict) (h : ℕ). end_of x h) is f.horizon ∙ end-case (verdict (loaded_table r)) (horizon (loaded_table r))

    near : end_of v r.horizon ≤ r.horizon
    near = omega (arith, ends, rows.0, f.horizon)

    ok : valid p ≡ true
    ok = s.valid (load-valid ws r h free) (omega (arith, near, h.horizon-most))

    printed-is : (x : Table) → first_line (judged (verdict x)) ++ row_lines x 0 (rows_printed (verdict x) (horizon x)) ≡ printed x
    printed-is x = unfold printed in refl

-- of words that are refused: the verdict's line alone
pub refused-made :
    (ws : List ℕ) (n q : ℕ) → answer_of ws ≡ Refused n q → (v : Verdict) (p : Printer) → Judged ws v → PrinterStartOf no_table 0 v p → WordsPrinter ws p
refused-made ws n q refuses v p j s = record {
  valid = ok;
  whole =
      rest-valid p ok ∙ s.whole (λ l. absurd (omega arith)) ∙ ap (λ (x : Verdict). first_line (verdict_meaning x) ++ row_lines (loaded_table no_table) 0 0) is
      ∙ none ∙ sym (ap (λ (a : Answer). printed_by a (table_of ws)) refuses);
}
  where
    is : v ≡ judge.Refused n q
    is = j.value ∙ refused-is ws n q refuses

    ok : valid p ≡ true
    ok = s.valid none-valid (omega arith)

    none : first_line (refused n q) ++ row_lines (loaded_table no_table) 0 0 ≡ first_line (refused n q)
    none = unfold row_lines in append-nil (first_line (refused n q))

-- THE BYTES

-- no words are turned down with 1
no_words : printed_by (answer_of []) (table_of []) ≡ first_line (refused 1 0)
unfolding answer_of header_number
no_words = refl

pub bytes-made : (bs : List ℕ) (r : Input) (p : Printer) → ReadOf bs r → WordsPrinter (take r.count r.words) p → MadeFrom bs p
bytes-made bs r p h w = record { valid = w.valid; whole = w.whole ∙ go (words_of bs) refl ∙ out }
  where
    out : output_of (words_of bs) ≡ output bs
    out = unfold output in refl

    read-words : (x : Words) → words_of bs ≡ x → take r.count r.words ≡ take (input_of x).count (input_of x).words
    read-words x e = ap (λ (i : Input). take i.count i.words) (h.value ∙ ap input_of e)

    go : (x : Words) → words_of bs ≡ x → printed_by (answer_of (take r.count r.words)) (table_of (take r.count r.words)) ≡ output_of (words_of bs)
    go (read_words ws) e =
        ap (λ (l : List ℕ). printed_by (answer_of l) (table_of l)) (read-words (read_words ws) e ∙ take-append_seam ws (replicate (most_numbers - length ws) 0))
        ∙ ap output_of (sym e)
    go no_text e = ap (λ (l : List ℕ). printed_by (answer_of l) (table_of l)) (read-words no_text e) ∙ no_words ∙ ap output_of (sym e)

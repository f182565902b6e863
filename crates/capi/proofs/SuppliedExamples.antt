-- The results of begin and take, computed from the definitions: a plan begun, with its phases recorded at once or not yet; rows taken, up to the last; each
-- number once; the notes written at the last S and nowhere else; words of a note that are no phase; and everything as found where there is no space.
use mathlib.Core.Path.{◌≡◌, refl, ap, ap₂}
use mathlib.Core.Bool.{Bool, true, false}
use mathlib.Core.List.{List, [], ◌∷◌, ◌++◌, map}
use Prim.Native.Nat.{ℕ, zero, suc, ◌*◌, ◌/◌, ◌<◌, ◌∣◌}
use native.Mathlib.Nat.{dvd_trans, div-mul_cancel}
use native.Mathlib.Omega.{arith}
use Prim.Native.String.{String}
use lib.ListN.{replicate, take}
use borrow.Author.Tests.{lt-ltb}
use Rattle.model.specs.Horizon.{horizon, hyperperiod, lcm}
use Rattle.model.proofs.Multiples.{lcm-left, lcm-right, lcm-pos}
use Rattle.phase.specs.declared.Phase.{Phase}
use Rattle.phase.specs.declared.Phase.TheVariants.{Coming, Working, Resting}
use Rattle.run.specs.Start.{started_run}
use Rattle.table.specs.Answer.{answer_of, by_horizon, by_tasks, by_walk, ending_of, first_out, header_number, last_step}
use Rattle.table.specs.Limits.{most_horizon, horizon_out}
use Rattle.table.specs.Words.{chain, count, visited, table_of}
use Rattle.plan_check.specs.Begin.{begin_of}
use Rattle.plan_check.specs.Numbers.{after_row, differs, missed, state_out}
use Rattle.plan_check.specs.Plan.{cell_count}
use Rattle.plan_check.specs.Row.{faulty, any_unknown_byte, worked_row}
use Rattle.plan_check.specs.State.{horizon_in}
use Rattle.plan_check.specs.RowAnswer.{Answer, Refused, state_by_answer}
use Rattle.plan_check.specs.declared.SuppliedPlan.{SuppliedPlan}
use Rattle.plan_check.specs.CheckRow.{answer_at, final_answer, check_row_answer, check_row_of}
use Rattle.capi.specs.Calls.{CallResult, call_result, by_room}
use Rattle.buffers.specs.AnswerWords.{answer_fits, of_taken, answer_written}
use Rattle.buffers.specs.CheckRow.{RowChecked, kept_plan, check_row_from}
use Rattle.buffers.specs.Encoding.{place_words, run_in, places_in}
use Rattle.buffers.specs.Supplied.{notes_words, plan_over, notes_in, holds_plan, plan_in, decode_plan}
use Rattle.capi.specs.CheckRow.{begin_call, check_row_call}
use Rattle.capi.proofs.Calling.{calling}

-- A LINE: its name, the call, the slices lent for the plan and the answer, and what is left

-- begin with the words of a table, or take with a row
pub data Call : Type 0 where
  begins takes : List ℕ → Call

pub record Line : Type 0 where
  pub name : String
  pub call : Call
  pub buffer : List ℕ
  pub answer : List ℕ
  pub leaves : CallResult

abbrev pub left_by : Call → List ℕ → List ℕ → CallResult
left_by (begins ws) buffer answer = begin_call ws buffer answer
left_by (takes row) buffer answer = check_row_call buffer row answer

-- the value by the definitions of a line's call and slices
abbrev pub computes : Line → Line
computes l = record {
  name = l.name;
  call = l.call;
  buffer = l.buffer;
  answer = l.answer;
  leaves = left_by l.call l.buffer l.answer;
}

-- a number of words as they are lent
abbrev lent : ℕ → List ℕ
lent n = replicate n 77

-- these words, repeated a number of times
unfoldable pub times : ℕ → List ℕ → List ℕ
times zero ws = []
times (suc n) ws = ws ++ times n ws

-- the call is answered: the plan's words, three of an answer, and a fourth that stays
abbrev leaves : String → Call → List ℕ → List ℕ → ℕ → ℕ → ℕ → Line
leaves s c before after k a b = record { name = s; call = c; buffer = before; answer = lent 4; leaves = call_result 0 (after ∷ (k ∷ a ∷ b ∷ lent 1) ∷ []) }

-- refused with a number and a tick: the plan's words as found
abbrev refuses : String → List ℕ → List ℕ → ℕ → ℕ → Line
refuses s row before n t = leaves s (takes row) before before 3 n t

-- everything as found
abbrev stays : String → Call → List ℕ → ℕ → Line
stays s c before n = record { name = s; call = c; buffer = before; answer = lent n; leaves = call_result 1 (before ∷ lent n ∷ []) }

-- PLANS IN WORDS

-- one core, one task: O, v 1, C 1, D 1, T 2, w 1
abbrev one : ℕ → List ℕ
one o = 1 ∷ 1 ∷ 1 ∷ 0 ∷ 0 ∷ 0 ∷ o ∷ 1 ∷ 1 ∷ 1 ∷ 2 ∷ 1 ∷ []

-- its place at an odd or an even job in this phase
abbrev placed : ℕ → Bool → Phase → List ℕ
placed o e ph = place_words (record { parameters = record { offset = o; width = 1; length = 1; deadline = 1; period = 2; second = 1 }; even = e; phase = ph })

-- a plan of the task with O 1, whose last S is 1 and horizon 3, at this tick, with these words of a note; anything past the count, and a word after the plan
abbrev plan : Bool → Phase → ℕ → List ℕ → List ℕ
plan e ph t note = 1 ∷ 1 ∷ 1 ∷ 0 ∷ 0 ∷ 0 ∷ (placed 1 e ph ++ (lent 341 ++ (t ∷ (note ++ lent 125))))

-- the note of a job that is just released; one of nothing; and words that are no phase
abbrev released : List ℕ
released = 1 ∷ 0 ∷ 0 ∷ 0 ∷ []

abbrev nothing : List ℕ
nothing = 3 ∷ 0 ∷ 0 ∷ 0 ∷ []

abbrev unknown_byte_state : List ℕ
unknown_byte_state = 9 ∷ 8 ∷ 7 ∷ 6 ∷ []

-- a place past the count as begin leaves it
abbrev clear : List ℕ
clear = 0 ∷ 0 ∷ 0 ∷ 0 ∷ 0 ∷ 0 ∷ 0 ∷ nothing

-- the plan of one task as it begins, with its note
abbrev begun : ℕ → Phase → List ℕ → List ℕ
begun o ph note = 1 ∷ 1 ∷ 1 ∷ 0 ∷ 0 ∷ 0 ∷ (placed o false ph ++ (times 31 clear ++ (0 ∷ (note ++ (times 31 nothing ++ lent 1)))))

-- two tasks whose periods, 999,999 and 1,009, make a horizon above 1,000,000,000
abbrev far : List ℕ
far =
    1 ∷ 1 ∷ 2 ∷ 0 ∷ 0 ∷ 0
    ∷ ((0 ∷ 1 ∷ 1 ∷ 1 ∷ 999999 ∷ 1 ∷ 0 ∷ 3 ∷ 9 ∷ 0 ∷ 0 ∷ 0 ∷ 1 ∷ 1 ∷ 1 ∷ 1009 ∷ 1 ∷ 0 ∷ 3 ∷ 9 ∷ 0 ∷ 0 ∷ []) ++ (lent 330 ++ (4 ∷ lent 128)))

-- a place whose kind of phase is none
abbrev no_run : List ℕ
no_run = 1 ∷ 1 ∷ 1 ∷ 0 ∷ 0 ∷ 0 ∷ ((1 ∷ 1 ∷ 1 ∷ 1 ∷ 2 ∷ 1 ∷ 0 ∷ 4 ∷ 1 ∷ 0 ∷ 0 ∷ []) ++ (lent 341 ++ (0 ∷ (nothing ++ lent 125))))

-- the lines before that of a horizon above the limit, that line, and those after it
abbrev first_lines : List Line
first_lines =
    leaves "begun before the last S: nothing is noted" (begins (one 1)) (lent 488) (begun 1 (Coming 1) nothing) 0 0 0
    ∷ leaves "begun at the last S: its phase is noted" (begins (one 0)) (lent 488) (begun 0 (Working 0 0 0) released) 0 0 0
    ∷ leaves "a refused beginning leaves zeros" (begins []) (lent 488) (times 6 (0 ∷ []) ++ (times 32 clear ++ (0 ∷ (times 32 nothing ++ lent 1)))) 3 1 0
    ∷ stays "begin, a word too few" (begins (one 1)) (lent 486) 4
    ∷ stays "begin, no room for an answer" (begins (one 1)) (lent 488) 2
    ∷ leaves "a row that arrives at the last S, over words that are no phase" (takes (0 ∷ [])) (plan false (Coming 1) 0 unknown_byte_state) (plan false (Working 0 0 0) 1 released) 0 0 0
    ∷ leaves "a row past it" (takes (1 ∷ [])) (plan false (Working 0 0 0) 1 released) (plan false (Resting 1) 2 released) 0 0 0
    ∷ leaves "the same beside words that are no phase, which stay" (takes (1 ∷ [])) (plan false (Working 0 0 0) 1 unknown_byte_state) (plan false (Resting 1) 2 unknown_byte_state) 0 0 0
    ∷ leaves "the last row, and the plan is accepted" (takes (0 ∷ [])) (plan false (Resting 1) 2 released) (plan true (Working 0 0 0) 3 released) 6 0 0
    ∷ refuses "26 with the horizon" (0 ∷ []) (plan false (Resting 1) 2 nothing) 26 3
    ∷ refuses "26: words that are no phase agree with none" (0 ∷ []) (plan false (Resting 1) 2 unknown_byte_state) 26 3
    ∷ refuses "25 with the horizon" (0 ∷ []) (plan false (Working 0 0 0) 2 released) 25 3
    ∷ refuses "25 with its tick" (1 ∷ []) (plan false (Working 1 0 0) 2 released) 25 2
    ∷ refuses "24 with its tick" (2 ∷ []) (plan false (Working 0 0 0) 1 released) 24 1
    ∷ refuses "11" [] (plan false (Working 0 0 0) 1 released) 11 0
    ∷ refuses "10" (0 ∷ []) (plan true (Working 0 0 0) 3 released) 10 0
    ∷ []

abbrev far_line : Line
far_line = refuses "9, whatever the row" [] far 9 0

abbrev last_lines : List Line
last_lines =
    refuses "14: words that are no run, a place without a phase" (0 ∷ []) no_run 14 0
    ∷ refuses "14: counts that are not equal" (0 ∷ []) (plan false (Working 0 0 1) 1 released) 14 0
    ∷ refuses "14: a word too few for a plan" (0 ∷ []) (take 486 (plan false (Coming 1) 0 nothing)) 14 0
    ∷ refuses "14: no words" (0 ∷ []) [] 14 0
    ∷ stays "take, no room for an answer" (takes (0 ∷ [])) (plan false (Coming 1) 0 nothing) 2
    ∷ []

abbrev pub lines : List Line
lines = first_lines ++ (far_line ∷ last_lines)

first_examples : map computes first_lines ≡ first_lines
unfolding times begin_call check_row_call plan_over notes_words notes_in holds_plan plan_in begin_of check_row_of check_row_answer answer_at final_answer differs missed state_out faulty any_unknown_byte
    worked_row cell_count started_run answer_of by_walk by_tasks by_horizon first_out ending_of last_step header_number table_of chain count visited calling
first_examples = refl

last_examples : map computes last_lines ≡ last_lines
unfolding times begin_call check_row_call plan_over notes_words notes_in holds_plan plan_in begin_of check_row_of check_row_answer answer_at final_answer differs missed state_out faulty any_unknown_byte
    worked_row cell_count started_run answer_of by_walk by_tasks by_horizon first_out ending_of last_step header_number table_of chain count visited calling
last_examples = refl

-- A HORIZON ABOVE THE LIMIT, by the laws of the least common multiple: its definition takes too many steps here

common_above : (n : ℕ) → 999999 ∣ n → 1009 ∣ n → 0 < n → most_horizon < n
common_above n p q h =
    let a : n / 999999 * 999999 ≡ n = div-mul_cancel 999999 p in
    let b : n / 1009 * 1009 ≡ n = div-mul_cancel 1009 q in
    omega arith

periods_above : most_horizon < lcm 999999 (lcm 1009 1)
periods_above =
    let m = lcm 1009 1 in
    let small : 0 < m = lcm-pos 1009 1 (omega arith) in
    common_above (lcm 999999 m) (lcm-left 999999 m (omega arith)) (dvd_trans 1009 (lcm-left 1009 1 (omega arith)) (lcm-right 999999 m)) (lcm-pos 999999 m small)

far_out : horizon_out (horizon_in (plan_in far).run) ≡ true
unfolding plan_in run_in places_in horizon hyperperiod
far_out = lt-ltb most_horizon _ (omega (arith, periods_above))

state_ok : state_out (plan_in far).run ≡ false
unfolding plan_in state_out calling
state_ok = refl

-- 9 where the state passes 14 and the horizon is above the limit
nine : (w : SuppliedPlan) (row : List ℕ) → state_out w.run ≡ false → horizon_out (horizon_in w.run) ≡ true → check_row_answer w row ≡ Refused 9 0
unfolding check_row_answer
nine w row e h = rw (e, h) refl

far_row : check_row_from (decode_plan far) [] far ≡ record { answer = Refused 9 0; buffer = far }
unfolding holds_plan calling check_row_of
far_row = ap (λ (a : Answer). kept_plan a (state_by_answer a (after_row (plan_in far) []) (plan_in far)) far) (nine (plan_in far) [] state_ok far_out)

far_example : computes far_line ≡ far_line
unfolding check_row_call
far_example =
    ap (λ (c : CallResult). record { name = far_line.name; call = far_line.call; buffer = far; answer = lent 4; leaves = c })
    (ap (λ (a : RowChecked). by_room (answer_fits (lent 4)) (a.buffer ∷ (answer_written (of_taken a.answer) (lent 4) ∷ [])) (far ∷ (lent 4 ∷ []))) far_row)

-- every line is its value by the definitions
pub examples : map computes lines ≡ lines
examples = ap₂ (λ (a b : List Line). a ++ b) first_examples (ap₂ (λ (l : Line) (b : List Line). l ∷ b) far_example last_examples)

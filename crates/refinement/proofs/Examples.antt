-- The marked lines of the table of examples, and those with empty jobs, with withdrawals of one position and of several together, with two widths and
-- with lending, through `replay`: its contract gives for the words of a line's table and the line's list what is in the line.
-- So B with its report shows the right side of figure 2 of Goossens and Berten row by row, up to the miss; and B3 with the same report shows the rows that it
-- shows without.
use mathlib.Core.Path.{◌≡◌, refl, sym, ap, ◌∙◌, subst}
use mathlib.Core.List.{List, [], ◌∷◌, map, ◌++◌}
use Prim.Native.Nat.{ℕ, zero, suc, ◌/◌, ◌%◌, ◌^◌, ◌≤◌}
use native.Mathlib.Nat.{not-suc-le-zero, le_of_suc-le-suc}
use lib.ListN.{length, get_or, take, drop}
use lib.Seq.{length-take-le}
use Rattle.model.specs.Jobs.{Book, empty_book}
use Rattle.model.specs.Advance.{Entry, empties_of}
use Rattle.model.specs.Refusals.{Answer, taken, refused, Asked, shown, asked}
use Rattle.model.specs.Lists.{answers_from, book_from, book, enter, no_reports, rows_from}
use Rattle.model.specs.Task.{Table, Task, Rule, greedy, limited, idling, lending}
use Rattle.model.specs.Verdict.{Verdict, Firm, Full, Miss}
use Rattle.model.proofs.Computing.{computing}
use Rattle.model.proofs.Examples.{Line, worked, lines, examples}
use Rattle.model.proofs.EmptyExamples.{empty-lines, empty-examples}
use Rattle.model.proofs.WithdrawExamples.{withdraw-lines, withdraw-examples}
use Rattle.model.proofs.WithdrawSetExamples.{together-lines, together-examples}
use Rattle.model.proofs.WidthExamples.{width-lines, width-examples}
use Rattle.model.proofs.LendExamples.{lend-lines, lend-examples}
use Rattle.table.specs.Words.{visited, count, chain, table_of}
use Rattle.table.specs.Answer.{header_number, last_step, ending_of, first_out, by_horizon, by_tasks, by_walk, answer_of}
use Rattle.judge.specs.Judged.{verdict_of}
use Rattle.run.specs.Answer.{answer_meaning, asked_in64}
use Rattle.run.specs.Start.{start_answer, start_of}
use Rattle.run.proofs.StartExact.{start-exact, start-taken}
use Rattle.refinement.specs.Replay.{code, SlicesFit, ReplayOutcome, last_row, start_refused, outcome_meaning, MatchesBook, ReplayOf}
use Rattle.refinement.proofs.Listed.{listing, entries-listing}

-- THE WORDS OF A LINE

abbrev number_of : Rule → ℕ
number_of greedy = 1
number_of limited = 2
number_of idling = 3
number_of lending = 4

-- a task's record
abbrev entry : ℕ → Task → List ℕ
entry next τ = next ∷ τ.offset ∷ τ.odd_width ∷ τ.length ∷ τ.deadline ∷ τ.period ∷ τ.even_width ∷ []

-- the records of tasks in priority order, numbered from n on
unfoldable pub records : ℕ → List Task → List ℕ
records n [] = []
records n (τ ∷ []) = entry 0 τ
records n (τ ∷ τ' ∷ τs) = entry (suc n) τ ++ records (suc n) (τ' ∷ τs)

-- the words of a line's table
abbrev pub words_of : Line → List ℕ
words_of l = 1 ∷ l.table.cores ∷ number_of l.table.rule ∷ l.table.fence % 2 ^ 32 ∷ l.table.fence / 2 ^ 32 ∷ records 1 l.table.tasks

-- WHAT IS SHOWN OF A LINE

-- a replay of its first k entries writes its first k answers, and its row k where that is asked with no empty job, as a replay asks
abbrev pub Shows : Line → Type 0
Shows l =
    (k : ℕ) → k ≤ length l.entries → (numbers bytes : List ℕ) (o : ReplayOutcome)
    → ReplayOf (words_of l) (listing (take k l.entries)) numbers bytes o → SlicesFit (listing (take k l.entries)) numbers bytes
    → (o.numbers ≡ map code (take k l.answers) ++ drop k numbers)
    × (empties_of (get_or l.entries k no_reports) ≡ 0 → outcome_meaning o ≡ last_row (asked_in64 (get_or l.rows k (shown []))))

-- a replay of any words is refused by 13, and everything is as found
abbrev pub Misses : Line → Type 0
Misses l =
    (es numbers bytes : List ℕ) (o : ReplayOutcome) → ReplayOf (words_of l) es numbers bytes o
    → (outcome_meaning o ≡ start_refused 13 0) × ((o.numbers ≡ numbers) × (o.bytes ≡ bytes))

-- the one where the line's verdict is Firm or Full, the other where it is Miss
abbrev pub ByVerdict : Verdict → Line → Type 0
ByVerdict (Firm a b) l = Shows l
ByVerdict (Full a b) l = Shows l
ByVerdict (Miss t p) l = Misses l

-- FROM THE CONTRACT

answers-take : (s : Table) (b : Book) (xs : List Entry) (k : ℕ) → answers_from s b (take k xs) ≡ take k (answers_from s b xs)
unfolding answers_from
answers-take s b xs zero = refl
answers-take s b [] (suc k) = refl
answers-take s b (x ∷ xs) (suc k) = ap (λ (l : List Answer). answers_from s b (x ∷ []) ++ l) (answers-take s (enter s x b) xs k)

-- row k is asked with the empty jobs of the entry that follows it
rows_at :
    (s : Table) (b : Book) (xs : List Entry) (k : ℕ) (d : Asked) → k ≤ length xs
    → get_or (rows_from s b xs) k d ≡ asked s (book_from s b (take k xs)) (empties_of (get_or xs k no_reports))
unfolding rows_from book_from
rows_at s b [] zero d h = refl
rows_at s b (x ∷ xs) zero d h = refl
rows_at s b [] (suc k) d h = absurd (not-suc-le-zero h)
rows_at s b (x ∷ xs) (suc k) d h = rows_at s (enter s x b) xs k d (le_of_suc-le-suc h)

-- a line's words are those of its table, and start answers by its verdict
abbrev start_outcome : Verdict → Answer
start_outcome (Firm a b) = taken
start_outcome (Full a b) = taken
start_outcome (Miss t p) = refused 13 0

module _ (l : Line) (works : worked l ≡ l) (table : table_of (words_of l) ≡ l.table) where
  shows : answer_meaning (start_of (words_of l)).answer ≡ taken → Shows l
  shows start k h numbers bytes o r fit = (
    b.each-answer ∙ (ap (λ (al : List Answer). map code al ++ drop (length xs) numbers) said
        ∙ ap (λ (n : ℕ). map code (take k l.answers) ++ drop n numbers) (length-take-le k l.entries h)),
    λ q. b.row-after ∙ ap (λ (a : Asked). last_row (asked_in64 a)) (row q),
  )
    where
      xs : List Entry
      xs = take k l.entries

      b : MatchesBook (words_of l) xs numbers bytes o
      b = subst (λ (ys : List Entry). MatchesBook (words_of l) ys numbers bytes o) (entries-listing xs) (r.book ((start-taken (words_of l)).0 start) fit)

      said : answers_from (table_of (words_of l)) empty_book xs ≡ take k l.answers
      said =
          ap (λ (s : Table). answers_from s empty_book xs) table
          ∙ (answers-take l.table empty_book l.entries k ∙ ap (λ (m : Line). take k m.answers) works)

      row : empties_of (get_or l.entries k no_reports) ≡ 0 → asked (table_of (words_of l)) (book (table_of (words_of l)) xs) 0 ≡ get_or l.rows k (shown [])
      row q =
          ap (λ (s : Table). asked s (book s xs) 0) table
          ∙ (ap (asked l.table (book l.table xs)) (sym q)
          ∙ (sym (rows_at l.table empty_book l.entries k (shown []) h) ∙ ap (λ (m : Line). get_or m.rows k (shown [])) works))

  misses : answer_meaning (start_of (words_of l)).answer ≡ refused 13 0 → Misses l
  misses start es numbers bytes o r =
      let e = (r.refused 13 0).1 ((start-exact (words_of l) 13 0).0 start) in
      (e, r.refused-found 13 0 e)

  by-verdict : (v : Verdict) → answer_meaning (start_of (words_of l)).answer ≡ start_outcome v → ByVerdict v l
  by-verdict (Firm a b) e = shows e
  by-verdict (Full a b) e = shows e
  by-verdict (Miss t p) e = misses e

-- OF EVERY LINE

-- what holds of each line of a list
abbrev pub Each : (Line → Type 0) → List Line → Type 0
Each P [] = Unit {0}
Each P (l ∷ ls) = P l × Each P ls

each : {A : Type 0} (f g : Line → A) (ls : List Line) → map f ls ≡ map g ls → Each (λ l. f l ≡ g l) ls
each f g [] e = tt
each f g (l ∷ ls) e =
    let a : f l ≡ g l = cc in
    let b : map f ls ≡ map g ls = cc in
    (a, each f g ls b)

both : (P Q R : Line → Type 0) → ((l : Line) → P l → Q l → R l) → (ls : List Line) → Each P ls → Each Q ls → Each R ls
both P Q R h [] p q = tt
both P Q R h (l ∷ ls) p q = (h l p.0 q.0, both P Q R h ls p.1 q.1)

-- the table of a line's words, and what start answers to them
pub record Begins : Type 0 where
  pub table : Table
  pub start : Answer

abbrev begins : Line → Begins
begins l = record { table = table_of (words_of l); start = answer_meaning (start_of (words_of l)).answer }

expected : Line → Begins
expected l = record { table = l.table; start = start_outcome l.result }

-- what an example opens, so that its words' table and the answer of start compute
unfoldable starting : Unit {0}
unfolding computing expected records start_of start_answer verdict_of answer_of by_walk by_tasks by_horizon first_out ending_of last_step header_number table_of
    chain count visited
starting = tt

-- each table of lines: one check over it
begun_lines : map begins lines ≡ map expected lines
unfolding starting
begun_lines = refl

begun-empty : map begins empty-lines ≡ map expected empty-lines
unfolding starting
begun-empty = refl

begun-withdraw : map begins withdraw-lines ≡ map expected withdraw-lines
unfolding starting
begun-withdraw = refl

begun-together : map begins together-lines ≡ map expected together-lines
unfolding starting
begun-together = refl

begun-width : map begins width-lines ≡ map expected width-lines
unfolding starting
begun-width = refl

begun-lend : map begins lend-lines ≡ map expected lend-lines
unfolding starting
begun-lend = refl

-- the contract gives for lines through `replay` their values by the definitions
through : (ls : List Line) → map worked ls ≡ ls → map begins ls ≡ map expected ls → Each (λ l. ByVerdict l.result l) ls
through ls works starts =
    both (λ l. worked l ≡ l) (λ l. begins l ≡ expected l) (λ l. ByVerdict l.result l)
    (λ l w e. unfold expected in by-verdict l w (ap (λ (x : Begins). x.table) e) l.result (ap (λ (x : Begins). x.start) e))
    ls (each worked (λ l. l) ls (works ∙ sym (map-id ls))) (each begins expected ls starts)
  where
    map-id : (ls : List Line) → map (λ l. l) ls ≡ ls
    map-id [] = refl
    map-id (l ∷ ls) = ap (λ (m : List Line). l ∷ m) (map-id ls)

-- THEOREM: every marked line of the table of examples, through the contract of `replay`
pub through-replay : Each (λ l. ByVerdict l.result l) lines
through-replay = through lines examples begun_lines

-- and every line with empty jobs
pub empty-through-replay : Each (λ l. ByVerdict l.result l) empty-lines
empty-through-replay = through empty-lines empty-examples begun-empty

-- and every line with withdrawals
pub withdraw-through-replay : Each (λ l. ByVerdict l.result l) withdraw-lines
withdraw-through-replay = through withdraw-lines withdraw-examples begun-withdraw

-- and every line with several withdrawn together
pub together-through-replay : Each (λ l. ByVerdict l.result l) together-lines
together-through-replay = through together-lines together-examples begun-together

-- and every line with two widths
pub width-through-replay : Each (λ l. ByVerdict l.result l) width-lines
width-through-replay = through width-lines width-examples begun-width

-- and every line with lending
pub lend-through-replay : Each (λ l. ByVerdict l.result l) lend-lines
lend-through-replay = through lend-lines lend-examples begun-lend

-- The lines of the scope's table of examples that are marked *, and lines of our own for what those leave open (16, two positions late at once, tables with
-- a fence), computed from the definitions. A line's list goes on where start would refuse the table by 13 (A2, F): the book of a list is defined for every
-- table.
use mathlib.Core.Bool.{false, true}
use mathlib.Core.List.{List, [], map, ◌∷◌}
use mathlib.Core.Path.{refl, ◌≡◌}
use Prim.Native.Nat.{ℕ}
use Prim.Native.String.{String}
use Rattle.model.proofs.Computing.{computing}
use Rattle.model.specs.Jobs.{empty_book, fresh}
use Rattle.model.specs.Claims.{claims}
use Rattle.model.specs.Advance.{Entry, advance}
use Rattle.model.specs.Refusals.{Answer, Asked, refused, row_refused, shown, taken}
use Rattle.model.specs.Lists.{answers_from, rows_from, taken_of}
use Rattle.model.specs.Fence.{unfenced_table, spread}
use Rattle.model.specs.Search.{filtered, up_from}
use Rattle.model.specs.Task.{Rule, Table, Task, greedy, idling, limited}
use Rattle.model.specs.Verdict.{Firm, Full, Miss, Verdict, verdict}

-- a task as (O, v, C, D, T), with both widths v; and with widths v and w
abbrev pub t : ℕ → ℕ → ℕ → ℕ → ℕ → Task
t o v c d p = record { offset = o; odd_width = v; length = c; deadline = d; period = p; even_width = v }

abbrev pub t₂ : ℕ → ℕ → ℕ → ℕ → ℕ → ℕ → Task
t₂ o v w c d p = record { offset = o; odd_width = v; length = c; deadline = d; period = p; even_width = w }

-- a table of m cores under a rule
abbrev pub on : ℕ → Rule → List Task → Table
on m r τs = record { tasks = τs; cores = m; fence = 0; rule = r }

-- and with a fence
abbrev pub fenced_on : ℕ → ℕ → Rule → List Task → Table
fenced_on m f r τs = record { tasks = τs; cores = m; fence = f; rule = r }

-- the tasks of A, and of B, under each rule
abbrev pub A : Rule → Table
A r = on 3 r (t 0 2 2 5 5 ∷ t 0 2 3 5 5 ∷ t 0 1 4 5 5 ∷ [])

abbrev pub B : Rule → Table
B r = on 2 r (t 0 1 3 3 4 ∷ t 0 2 1 4 4 ∷ t 0 1 2 2 4 ∷ [])

-- a line: its name, a table and a list; the verdict, the answer to each entry, the row asked before each entry and after the last
pub record Line : Type 0 where
  pub name : String
  pub table : Table
  pub entries : List Entry
  pub result : Verdict
  pub answers : List Answer
  pub rows : List Asked

-- the value by the definitions of a line's table and list
abbrev pub worked : Line → Line
worked l = record {
  name = l.name;
  table = l.table;
  entries = l.entries;
  result = verdict l.table;
  answers = answers_from l.table empty_book l.entries;
  rows = rows_from l.table empty_book l.entries;
}

-- an advance with reports alone
abbrev pub reports : ℕ → Entry
reports x = advance x 0

-- a line from its parts, the advances by their reports
abbrev line : String → Table → Verdict → List ℕ → List Answer → List Asked → Line
line n s v xs ws rs = record { name = n; table = s; entries = map reports xs; result = v; answers = ws; rows = rs }

-- a row of two cores, and of three
abbrev pub two : ℕ → ℕ → Asked
two a b = shown (a ∷ b ∷ [])

abbrev pub three : ℕ → ℕ → ℕ → Asked
three a b c = shown (a ∷ b ∷ c ∷ [])

-- the rows of B3, with the report and without
abbrev b3 : List Asked
b3 = two 1 3 ∷ two 1 3 ∷ two 1 0 ∷ two 2 2 ∷ two 1 3 ∷ []

-- the lines
abbrev pub lines : List Line
lines =
    line "A, with the rows that the scope prints"
    (A greedy) (Full 0 5) (0 ∷ 0 ∷ 0 ∷ 0 ∷ []) (taken ∷ taken ∷ taken ∷ taken ∷ [])
    (three 1 1 3 ∷ three 1 1 3 ∷ three 2 2 3 ∷ three 2 2 3 ∷ three 2 2 0 ∷ [])
    ∷ line "A2: the deadline on the horizon counts"
    (A limited) (Miss 5 3) (0 ∷ 0 ∷ 0 ∷ 0 ∷ 0 ∷ 0 ∷ []) (taken ∷ taken ∷ taken ∷ taken ∷ taken ∷ refused 15 3 ∷ [])
    (three 1 1 0 ∷ three 1 1 0 ∷ three 2 2 3 ∷ three 2 2 3 ∷ three 2 2 3 ∷ row_refused 15 3 ∷ row_refused 15 3 ∷ [])
    ∷ line "A3"
    (A idling) (Firm 0 5) [] [] (three 1 1 3 ∷ [])
    ∷ line "B, with position 1 reported in tick 0: tick 1 goes to position 2, then 15 with position 3"
    (B greedy) (Full 0 4) (1 ∷ 0 ∷ 0 ∷ []) (taken ∷ taken ∷ refused 15 3 ∷ []) (two 1 3 ∷ two 2 2 ∷ row_refused 15 3 ∷ row_refused 15 3 ∷ [])
    ∷ line "a report for a position that is not in the row"
    (B greedy) (Full 0 4) (2 ∷ 0 ∷ []) (refused 16 0 ∷ taken ∷ []) (two 1 3 ∷ two 1 3 ∷ two 1 3 ∷ [])
    ∷ line "two positions are late at one tick: 15 with the lowest; and 15 comes before 16, for bits that may not be set"
    (on 3 greedy (t 0 1 3 3 4 ∷ t 0 3 1 4 4 ∷ t 0 1 2 2 4 ∷ t 0 1 2 2 4 ∷ [])) (Full 0 4) (1 ∷ 0 ∷ 0 ∷ 8 ∷ 16 ∷ [])
    (taken ∷ taken ∷ refused 15 3 ∷ refused 15 3 ∷ refused 15 3 ∷ [])
    (three 1 3 4 ∷ three 2 2 2 ∷ row_refused 15 3 ∷ row_refused 15 3 ∷ row_refused 15 3 ∷ row_refused 15 3 ∷ [])
    ∷ line "two positions miss at one tick: the verdict names the first in priority"
    (on 1 greedy (t 0 1 1 2 2 ∷ t 0 1 2 2 2 ∷ t 0 1 1 2 2 ∷ [])) (Miss 2 2) (0 ∷ 0 ∷ 0 ∷ []) (taken ∷ taken ∷ refused 15 2 ∷ [])
    (shown (1 ∷ []) ∷ shown (2 ∷ []) ∷ row_refused 15 2 ∷ row_refused 15 2 ∷ [])
    ∷ line "B2"
    (B limited) (Miss 2 3) [] [] (two 1 0 ∷ [])
    ∷ line "B3"
    (B idling) (Firm 0 4) (0 ∷ 0 ∷ 0 ∷ 0 ∷ []) (taken ∷ taken ∷ taken ∷ taken ∷ []) b3
    ∷ line "B3 with a report, which changes no row"
    (B idling) (Firm 0 4) (1 ∷ 0 ∷ 0 ∷ 0 ∷ []) (taken ∷ taken ∷ taken ∷ taken ∷ []) b3
    ∷ line "a holder has cores and is not reported again"
    (B idling) (Firm 0 4) (1 ∷ 1 ∷ 0 ∷ []) (taken ∷ refused 16 0 ∷ taken ∷ []) (two 1 3 ∷ two 1 3 ∷ two 1 3 ∷ two 1 0 ∷ [])
    ∷ line "C"
    (on 2 greedy (t 0 1 2 4 4 ∷ t 0 2 2 4 4 ∷ t 0 1 1 4 4 ∷ [])) (Full 0 4) [] [] (two 1 3 ∷ [])
    ∷ line "C2"
    (on 2 greedy (t 0 1 2 4 4 ∷ t 0 1 1 4 4 ∷ t 0 2 2 4 4 ∷ [])) (Firm 0 4) [] [] (two 1 2 ∷ [])
    ∷ line "E: the repeat starts at 3, not at the largest offset"
    (on 1 limited (t 1 1 1 1 2 ∷ t 0 1 1 2 3 ∷ [])) (Firm 3 6) [] [] (shown (2 ∷ []) ∷ [])
    ∷ line "F"
    (on 1 greedy (t 0 1 2 1 2 ∷ [])) (Miss 1 1) (0 ∷ 0 ∷ []) (taken ∷ refused 15 1 ∷ []) (shown (1 ∷ []) ∷ row_refused 15 1 ∷ row_refused 15 1 ∷ [])
    ∷ line "A on five cores of which 0 and 3 are fenced"
    (fenced_on 5 9 greedy (A greedy).tasks) (Full 0 5) (0 ∷ []) (taken ∷ []) (shown (255 ∷ 1 ∷ 1 ∷ 255 ∷ 3 ∷ []) ∷ shown (255 ∷ 1 ∷ 1 ∷ 255 ∷ 3 ∷ []) ∷ [])
    ∷ line "the same under limited, one tick before the miss"
    (fenced_on 5 9 limited (A greedy).tasks) (Miss 5 3) [] [] (shown (255 ∷ 1 ∷ 1 ∷ 255 ∷ 0 ∷ []) ∷ [])
    ∷ []

-- every line is its value by the definitions: one table with one check
pub examples : map worked lines ≡ lines
unfolding computing
examples = refl

-- A on five cores with that fence is A with just its unfenced cores, and its rows are A's spread over them; with no fence a table is itself
pub just-open : unfenced_table (fenced_on 5 9 greedy (A greedy).tasks) ≡ A greedy
unfolding filtered up_from
just-open = refl

pub just-all : unfenced_table (A limited) ≡ A limited
unfolding filtered up_from
just-all = refl

pub spread_row : spread 9 5 (1 ∷ 1 ∷ 3 ∷ []) ≡ 255 ∷ 1 ∷ 1 ∷ 255 ∷ 3 ∷ []
unfolding spread filtered up_from
spread_row = refl

pub spread_none : spread 0 3 (1 ∷ 1 ∷ 3 ∷ []) ≡ 1 ∷ 1 ∷ 3 ∷ []
unfolding spread filtered up_from
spread_none = refl

-- a job released at 1 with D 3 claims in ticks 1, 2 and 3, and not when it is due at 4 or later
pub window : map (λ n. claims greedy (t 1 1 5 3 5) 0 n fresh) (up_from 0 6) ≡ false ∷ true ∷ true ∷ true ∷ false ∷ false ∷ []
unfolding claims up_from
window = refl

-- of these advances of B the second and the third are taken: the first is refused by 16, the last two by 15
pub dropped : taken_of (B greedy) (map reports (2 ∷ 1 ∷ 0 ∷ 0 ∷ 8 ∷ [])) ≡ map reports (1 ∷ 0 ∷ [])
unfolding computing
dropped = refl

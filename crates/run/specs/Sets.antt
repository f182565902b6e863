-- The row of a run as sets of cores (request 114): of each place the cores that it shows, as one number, core 0 its lowest digit. Held cores are in the
-- holder's set, lent ones in the borrower's, fenced ones in none.
use Rattle.std.specs.Prelude.{Result, Ok, Err, ◌≡◌, true, ◌||◌, ◌↔◌, List, ◌++◌, map, ℕ, suc, ◌-◌, ◌≤◌, ◌<◌, eqb, ltb, length, get_or, replicate}
use Rattle.model.specs.Refusals as model
use Rattle.model.specs.declared.refusal.Refusal.{Refusal}
use Rattle.model.specs.Refusal.{number_of, position_of}
use Rattle.model.specs.Row.{row}
use Rattle.model.specs.Search.{bit}
use Rattle.model.specs.Sets.{SetsApart, SetsCount, SetsUnfenced, set_of}
use Rattle.model.specs.Sizes.{most_tasks}
use Rattle.table.specs.Numbers.{FirstOf, NoneOf}
use Rattle.cores.specs.Cores.{cores}
use Rattle.phase.specs.Phase.{working}
use Rattle.run.specs.declared.Run.{Run}
use Rattle.run.specs.Run.{has_cores, has_lent, lent_in, offer_in, emptied_at, shown_in, widths_now}
use Rattle.run.specs.Answer.{Answer, Taken, Refused, answer_meaning, by_answer, in64, shown_by}
use Rattle.run.specs.Numbers.{RowApplies}
use Rattle.run.specs.Row.{no_bytes, row_answer, row_of}

-- the sets of the places below the count as 32 sets: a place past it has none
abbrev pub in32 : List ℕ → List ℕ
in32 sets = sets ++ replicate (most_tasks - length sets) 0

-- the sets of the present tick
unfoldable pub sets_in : Run → ℕ → List ℕ
sets_in r e = in32 (map set_of (shown_in r e))

-- 32 empty sets
abbrev pub no_sets : List ℕ
no_sets = replicate most_tasks 0

-- the result of a row asked as sets: the answer, and of each position the set of its cores, core 0 the lowest bit; a position past the count has none
pub record Sets : Type 0 where
  pub answer : Answer
  pub sets : List ℕ

-- as code returns it: a refusal has no sets
abbrev pub sets_asked : Result (List ℕ) Refusal → Sets
sets_asked (Ok sets) = record { answer = Taken; sets = sets }
sets_asked (Err e) = record { answer = Refused (number_of e) (position_of e); sets = no_sets }

-- the sets; where refused, all empty. They have the numbers of a row
unfoldable pub sets_of : Run → ℕ → Sets
sets_of r e = record { answer = row_answer r e; sets = by_answer (row_answer r e) (sets_in r e) no_sets }

-- the meaning of the sets
abbrev pub sets_meaning : Sets → model.Asked
sets_meaning w = shown_by w.answer w.sets

-- sets that are shown, as 32; a refusal unchanged
abbrev pub asked_in32 : model.Asked → model.Asked
asked_in32 (model.shown sets) = model.shown (in32 sets)
asked_in32 (model.row_refused n p) = model.row_refused n p

-- the bytes of a row, from its sets, the fence and the core count alone: the position on each of its cores, 255 on a fenced one, 0
-- on the others and past the core count
unfoldable pub bytes_of : ℕ → ℕ → List ℕ → List ℕ
bytes_of fence m sets = in64 (row fence m (map cores sets))

-- what sets asked of run r with empties e guarantee
pub record SetsOf (r : Run) (e : ℕ) (w : Sets) : Type 0 where
  -- their value
  pub value : w ≡ sets_of r e
  -- refused with n and p exactly if number n applies with position p and no earlier one does; taken exactly if none applies
  pub refused : (n p : ℕ) → (answer_meaning w.answer ≡ model.refused n p) ↔ FirstOf (RowApplies r e) n p
  pub taken : (answer_meaning w.answer ≡ model.taken) ↔ NoneOf (RowApplies r e)
  -- taken: the sets
  pub sets : answer_meaning w.answer ≡ model.taken → w.sets ≡ sets_in r e
  -- refused: all empty
  pub zeros : (n p : ℕ) → answer_meaning w.answer ≡ model.refused n p → w.sets ≡ no_sets
  -- there are 32, empty past the count
  pub size : length w.sets ≡ most_tasks
  pub past : (p : ℕ) → r.count ≤ p → get_or w.sets p 0 ≡ 0
  -- no two overlap, and none has a fenced core or one past the count
  pub apart : SetsApart w.sets
  pub unfenced-only : SetsUnfenced r.fence r.cores w.sets
  -- taken: each set has as many cores as its job's width or none; a place that lends keeps what no place borrows
  pub count : answer_meaning w.answer ≡ model.taken → SetsCount (widths_now r) (offer_in r e) (lent_in r e) w.sets
  -- taken: a task that is Working has the tick, by its own cores or lent ones, exactly if its set is not empty
  pub works : answer_meaning w.answer ≡ model.taken → (p : ℕ) → working (emptied_at r e p) ≡ true → (has_cores r e p || has_lent r e p) ≡ ltb 0 (get_or w.sets p 0)
  -- core c is in the set of a position exactly if the row shows that position on it
  pub each : (p c : ℕ) → p < most_tasks → bit (get_or w.sets p 0) c ≡ eqb (get_or (row_of r e).bytes c 0) (suc p)
  -- the bytes of the row are those of the sets
  pub bytes : (row_of r e).bytes ≡ by_answer w.answer (bytes_of r.fence r.cores w.sets) no_bytes

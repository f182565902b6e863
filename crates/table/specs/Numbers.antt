-- Numbers 1 to 9 and 19 for what is turned down (scope, 'Numbers for what is turned down'): when each applies, and which is the first.
use Rattle.std.specs.Prelude.{◌≡◌, cond, List, [], ◌∷◌, ◌⊎◌, ℕ, suc, ◌-◌, ◌%◌, ◌<◌, length, eqb}
use Rattle.model.specs.Fence.{unfenced_count}
use Rattle.model.specs.Horizon.{horizon}
use Rattle.model.specs.Sizes.{most_tasks}
use Rattle.table.specs.Words.{header_words, record_words, head, core_count, rule, fence, records, visited, count, task_at, table_of}
use Rattle.table.specs.Limits.{InRange, CoresOut, RuleOut, FenceOut, WidthOut, TimesOut, HorizonOut}

-- the slice has fewer than 5 words, or the rest is no whole number of records, or there are more than 32
abbrev pub WordsOut : List ℕ → Type 0
WordsOut ws = (length ws < header_words) ⊎ (((length ws - header_words) % record_words ≡ 0 → ⊥) ⊎ (most_tasks < records ws))

-- what the walk can meet at step k: the zero that ends the chain, a number past the last record, a record again
abbrev pub EndAt : List ℕ → ℕ → Type 0
EndAt ws k = visited ws k ≡ 0

abbrev pub OutOfRangeAt : List ℕ → ℕ → Type 0
OutOfRangeAt ws k = records ws < visited ws k

abbrev pub RepeatedAt : List ℕ → ℕ → Type 0
RepeatedAt ws k = (j : ℕ) × (j < k) × (visited ws j ≡ visited ws k)

-- the walk reaches step k: at no earlier step it met one of these
abbrev pub Reaches : List ℕ → ℕ → Type 0
Reaches ws k = (j : ℕ) → j < k → (¬ EndAt ws j) × (¬ OutOfRangeAt ws j) × (¬ RepeatedAt ws j)

-- p is a position on the chain
abbrev pub Position : List ℕ → ℕ → Type 0
Position ws p = InRange 1 (count ws) p

-- number n applies, with position p. In the other crates' specs/Numbers the names `Applies`, `First` and `NoneApplies` mean the same, of their own routine
pub data Applies (ws : List ℕ) : ℕ → ℕ → Type 0 where
  -- 1. The slice has fewer than 5 words, or the rest is no whole number of records, or there are more than 32.
  one : WordsOut ws → Applies ws 1 0
  -- 2. The core count is not 1 to 64.
  two : CoresOut (core_count ws) → Applies ws 2 0
  -- 3. The rule is not 1 to 4.
  three : RuleOut (rule ws) → Applies ws 3 0
  -- 19. The fence contains a core past the count, or all cores.
  nineteen : FenceOut (core_count ws) (fence ws) → Applies ws 19 0
  -- 4. The head is zero.
  four : head ws ≡ 0 → Applies ws 4 0
  -- 5. Walking the chain, a number past the last record is met.
  five : (k : ℕ) → Reaches ws k → OutOfRangeAt ws k → Applies ws 5 0
  -- 6. Walking the chain, a record is met again (5 and 6: whichever the walk meets first).
  six : (k : ℕ) → Reaches ws k → RepeatedAt ws k → Applies ws 6 0
  -- 7. A width of a task, that of its odd jobs or that of its even ones, is 0 or above the number of unfenced cores.
  seven : (p : ℕ) → Position ws p → WidthOut (unfenced_count (fence ws) (core_count ws)) (task_at ws p) → Applies ws 7 p
  -- 8. A task's O, C, T or D is outside its limits.
  eight : (p : ℕ) → Position ws p → TimesOut (task_at ws p) → Applies ws 8 p
  -- 9. The horizon exceeds 1,000,000,000.
  nine : HorizonOut (horizon (table_of ws)) → Applies ws 9 0

-- the numbers of all routines in the order in which they are checked; 8 has the place of 7
abbrev pub order : List ℕ
order = 1 ∷ 2 ∷ 3 ∷ 19 ∷ 4 ∷ 5 ∷ 6 ∷ 7 ∷ 9 ∷ 10 ∷ 11 ∷ 12 ∷ 13 ∷ 14 ∷ 21 ∷ 22 ∷ 15 ∷ 20 ∷ 16 ∷ 17 ∷ 18 ∷ 23 ∷ []

-- the index of n in a list whose first index is i
abbrev pub place_from : ℕ → List ℕ → ℕ → ℕ
place_from i [] n = i
place_from i (m ∷ ms) n = cond (eqb n m) i (place_from (suc i) ms n)

-- a number's place in the order
unfoldable pub place : ℕ → ℕ
place n = place_from 1 order (cond (eqb n 8) 7 n)

-- number m with position q is checked before number n with position p: by place, and 7 and 8 by position, within a task 7 first
abbrev pub Earlier : ℕ → ℕ → ℕ → ℕ → Type 0
Earlier m q n p = (place m < place n) ⊎ ((place m ≡ place n) × ((q < p) ⊎ ((q ≡ p) × (m < n))))

-- of the numbers that apply, n is the first, with position p (`first-only`: there is one at most)
abbrev pub FirstOf : (ℕ → ℕ → Type 0) → ℕ → ℕ → Type 0
FirstOf applies n p = applies n p × ((m q : ℕ) → Earlier m q n p → ¬ applies m q)

-- none applies
abbrev pub NoneOf : (ℕ → ℕ → Type 0) → Type 0
NoneOf applies = (n p : ℕ) → ¬ applies n p

-- the first of these numbers that applies to the words, and that none does
abbrev pub First : List ℕ → ℕ → ℕ → Type 0
First ws n p = FirstOf (Applies ws) n p

abbrev pub NoneApplies : List ℕ → Type 0
NoneApplies ws = NoneOf (Applies ws)

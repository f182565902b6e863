-- The verdict on a table that misses no deadline, computed where it depends on two widths; and the verdict of words under rules 3 and 4, which is the same.
use mathlib.Core.List.{List, [], ◌∷◌}
use mathlib.Core.Path.{◌≡◌, refl}
use Prim.Native.Nat.{ℕ}
use lib.ListN.{replicate}
use Rattle.model.specs.Firm.{firm, parallelism_monotonic}
use Rattle.model.proofs.Computing.{computing}
use Rattle.table.specs.declared.Loaded.{Loaded}
use Rattle.table.specs.Answer.{answer_of, by_horizon, by_tasks, by_walk, ending_of, first_out, header_number, last_step}
use Rattle.table.specs.Task.{no_task}
use Rattle.table.specs.Words.{chain, count, visited, table_of}
use Rattle.judge.specs.declared.Verdict.TheVariants.{Firm, Full, Miss, Refused}
use Rattle.judge.specs.Judged.{accepted_of, verdict_of}

-- a table of two tasks with the same times, the first with widths v and w, the second with v' and w', on 8 cores
abbrev pair : ℕ → ℕ → ℕ → ℕ → ℕ → Loaded
pair rule v w v' w' = record {
  count = 2;
  cores = 8;
  fence = 0;
  rule = rule;
  tasks =
      record { offset = 0; width = v; length = 1; deadline = 4; period = 4; second = w }
      ∷ record { offset = 0; width = v'; length = 1; deadline = 4; period = 4; second = w' } ∷ replicate 30 no_task;
  start = 0;
  period = 8;
  horizon = 8;
}

-- greedy, 1 and 3 before 3 and 4, whichever job has which: the larger of the first is the smaller of the second
pub touching : (accepted_of (pair 1 1 3 3 4) ≡ Firm 0 8) × (accepted_of (pair 1 3 1 4 3) ≡ Firm 0 8)
unfolding firm parallelism_monotonic
touching = (refl, refl)

-- 1 and 3 before 2 and 4: each width is at most the next one of its kind, and the larger of the first is above the smaller of the second
pub crossing : (accepted_of (pair 1 1 3 2 4) ≡ Full 0 8) × (accepted_of (pair 1 1 3 4 2) ≡ Full 0 8)
unfolding firm parallelism_monotonic
crossing = (refl, refl)

-- under rules 2, 3 and 4 widths are not asked for
pub other-rules : (accepted_of (pair 2 1 3 2 4) ≡ Firm 0 8) × (accepted_of (pair 3 1 3 2 4) ≡ Firm 0 8) × (accepted_of (pair 4 1 3 2 4) ≡ Firm 0 8)
unfolding firm
other-rules = (refl, refl, refl)

-- WORDS UNDER EACH RULE

-- 2 cores: widths 2 and 1, C 1 and 2, D and T 3
abbrev met_all : ℕ → List ℕ
met_all r = 1 ∷ 2 ∷ r ∷ 0 ∷ 0 ∷ 2 ∷ 0 ∷ 2 ∷ 1 ∷ 3 ∷ 3 ∷ 2 ∷ 0 ∷ 0 ∷ 1 ∷ 2 ∷ 3 ∷ 3 ∷ 1 ∷ []

-- 2 cores: widths 1, 2 and 1, C 3, 1 and 2, D 3, 4 and 2, T 4: position 3 is met only where position 2, which does not fit, is skipped
abbrev passed_over : ℕ → List ℕ
passed_over r =
    1 ∷ 2 ∷ r ∷ 0 ∷ 0 ∷ 2 ∷ 0 ∷ 1 ∷ 3 ∷ 3 ∷ 4 ∷ 1 ∷ 3 ∷ 0 ∷ 2 ∷ 1 ∷ 4 ∷ 4 ∷ 2 ∷ 0 ∷ 0 ∷ 1 ∷ 2 ∷ 2 ∷ 4 ∷ 1 ∷ []

-- one core: C 1 and 2, D and T 2
abbrev late : ℕ → List ℕ
late r = 1 ∷ 1 ∷ r ∷ 0 ∷ 0 ∷ 2 ∷ 0 ∷ 1 ∷ 1 ∷ 2 ∷ 2 ∷ 1 ∷ 0 ∷ 0 ∷ 1 ∷ 2 ∷ 2 ∷ 2 ∷ 1 ∷ []

-- rules 3 and 4 have the same verdict: S and P, or the miss
pub same-firm : (verdict_of (met_all 3) ≡ Firm 0 3) × (verdict_of (met_all 4) ≡ Firm 0 3)
unfolding computing verdict_of answer_of by_walk by_tasks by_horizon first_out ending_of last_step header_number table_of chain count visited
same-firm = (refl, refl)

pub same_over :
    (verdict_of (passed_over 1) ≡ Full 0 4) × (verdict_of (passed_over 2) ≡ Miss 2 3)
    × (verdict_of (passed_over 3) ≡ Firm 0 4) × (verdict_of (passed_over 4) ≡ Firm 0 4)
unfolding computing verdict_of answer_of by_walk by_tasks by_horizon first_out ending_of last_step header_number table_of chain count visited
same_over = (refl, refl, refl, refl)

pub same-miss : (verdict_of (late 3) ≡ Miss 2 2) × (verdict_of (late 4) ≡ Miss 2 2)
unfolding computing verdict_of answer_of by_walk by_tasks by_horizon first_out ending_of last_step header_number table_of chain count visited
same-miss = (refl, refl)

-- there is no rule 5
pub no-rule-5 : verdict_of (met_all 5) ≡ Refused 3 0
unfolding computing verdict_of answer_of by_walk by_tasks by_horizon first_out ending_of last_step header_number table_of chain count visited
no-rule-5 = refl

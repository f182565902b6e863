-- The judge's answer, and its contract (demand 2).
use Rattle.std.specs.Prelude.{◌≡◌, cond, List, ◌↔◌, ◌⊎◌, ℕ}
use Rattle.model.specs.Task.{Table, rule_of}
use Rattle.model.specs.Lists.{NeverMissed}
use Rattle.model.specs.Horizon.{last_s, hyperperiod}
use Rattle.model.specs.Firm.{firm, ParallelismMonotonic}
use Rattle.model.specs.Verdict.{FirstMiss, verdict}
use Rattle.model.specs.Verdict as model
use Rattle.table.specs.Answer.{Answer}
use Rattle.table.specs.Answer.{Passed}
use Rattle.table.specs.Answer as table
use Rattle.table.specs.declared.Loaded.{Loaded}
use Rattle.table.specs.Task.{tasks_of}
use Rattle.table.specs.Words.{rule, table_of}
use Rattle.table.specs.Numbers.{First, NoneApplies}
use Rattle.table.specs.Answer.{answer_of}
use Rattle.judge.specs.declared.Verdict.{Verdict}
use Rattle.judge.specs.declared.Verdict.TheVariants.{Firm, Full}
use Rattle.judge.specs.JudgeAnswer.{JudgeAnswer, judged, verdict_meaning, verdict_case}
use Rattle.judge.specs.JudgeAnswer as meaning

-- by the table's answer: the verdict on one that passes, or its refusal with number and position
abbrev pub judged_by : Answer → Table → JudgeAnswer
judged_by Passed s = judged (verdict s)
judged_by (table.Refused n p) s = meaning.refused n p

-- the verdict of a table's words
unfoldable pub verdict_of : List ℕ → Verdict
verdict_of ws = verdict_case (judged_by (answer_of ws) (table_of ws))

-- the scope's condition for firm: rule 2, 3 or 4, or rule 1 with widths that never fall
abbrev pub FirmWords : List ℕ → Type 0
FirmWords ws = (rule ws ≡ 2) ⊎ ((rule ws ≡ 3) ⊎ ((rule ws ≡ 4) ⊎ ((rule ws ≡ 1) × ParallelismMonotonic (table_of ws).tasks)))

-- the contract of the answer v to the words ws
pub record Judged (ws : List ℕ) (v : Verdict) : Type 0 where
  -- it is the verdict of the words
  pub value : v ≡ verdict_of ws
  -- refused with n and p exactly if n is the first number that applies, at p
  pub refused : (n p : ℕ) → (verdict_meaning v ≡ meaning.refused n p) ↔ First ws n p
  -- Firm or Full exactly if no number applies and no deadline of the full-length run is missed at any tick
  pub accepted : ((s p : ℕ) × ((verdict_meaning v ≡ judged (model.Firm s p)) ⊎ (verdict_meaning v ≡ judged (model.Full s p)))) ↔ (NoneApplies ws × NeverMissed (table_of ws))
  -- Miss t p exactly if no number applies and (t, p) is the earliest missed deadline, at equal ticks the first in priority
  pub miss : (t p : ℕ) → (verdict_meaning v ≡ judged (model.Miss t p)) ↔ (NoneApplies ws × FirstMiss (table_of ws) t p)
  -- an accepted table is Firm exactly for rules 2, 3 and 4 and for rule 1 with widths never falling; S and P as defined
  pub firm : (s p : ℕ) → (verdict_meaning v ≡ judged (model.Firm s p)) ↔ (NoneApplies ws × NeverMissed (table_of ws) × FirmWords ws × (s ≡ last_s (table_of ws).tasks) × (p ≡ hyperperiod (table_of ws).tasks))
  pub full : (s p : ℕ) → (verdict_meaning v ≡ judged (model.Full s p)) ↔ (NoneApplies ws × NeverMissed (table_of ws) × (¬ FirmWords ws) × (s ≡ last_s (table_of ws).tasks) × (p ≡ hyperperiod (table_of ws).tasks))

-- THE RUN, on a table that passed

-- the answer where no deadline is missed
abbrev pub accepted_of : Loaded → Verdict
accepted_of t = cond (firm (rule_of t.rule) (tasks_of t.tasks t.count)) (Firm t.start t.period) (Full t.start t.period)

-- Each case of a refusal as the scope has it: its number, and beside it the position at fault, the tick, or 0.
use Rattle.std.specs.Prelude.{ℕ, Result, Ok, Err}
use Rattle.model.specs.declared.refusal.Refusal.{Refusal}
use Rattle.model.specs.declared.refusal.Refusal.TheVariants.{NotATable, BadCores, BadRule, NoHead, NoRecord, RecordAgain, BadWidth, BadTime, LongHorizon, BadRange, ShortRows, PastMiss, TableMisses, NotARun, Late, BadReport, NoMiss, ShortBuffer, BadFence, BadEmpty, NotFirm, NoPosition, SlackNotGiven, BadRow, DeadlineMissed, PhasesDiffer}

abbrev pub number_of : Refusal → ℕ
number_of NotATable = 1
number_of BadCores = 2
number_of BadRule = 3
number_of NoHead = 4
number_of NoRecord = 5
number_of RecordAgain = 6
number_of (BadWidth p) = 7
number_of (BadTime p) = 8
number_of LongHorizon = 9
number_of BadRange = 10
number_of ShortRows = 11
number_of PastMiss = 12
number_of TableMisses = 13
number_of NotARun = 14
number_of (Late p) = 15
number_of BadReport = 16
number_of NoMiss = 17
number_of ShortBuffer = 18
number_of BadFence = 19
number_of BadEmpty = 20
number_of NotFirm = 21
number_of NoPosition = 22
number_of SlackNotGiven = 23
number_of (BadRow t) = 24
number_of (DeadlineMissed t) = 25
number_of (PhasesDiffer t) = 26

abbrev pub position_of : Refusal → ℕ
position_of NotATable = 0
position_of BadCores = 0
position_of BadRule = 0
position_of NoHead = 0
position_of NoRecord = 0
position_of RecordAgain = 0
position_of (BadWidth p) = p
position_of (BadTime p) = p
position_of LongHorizon = 0
position_of BadRange = 0
position_of ShortRows = 0
position_of PastMiss = 0
position_of TableMisses = 0
position_of NotARun = 0
position_of (Late p) = p
position_of BadReport = 0
position_of NoMiss = 0
position_of ShortBuffer = 0
position_of BadFence = 0
position_of BadEmpty = 0
position_of NotFirm = 0
position_of NoPosition = 0
position_of SlackNotGiven = 0
position_of (BadRow t) = t
position_of (DeadlineMissed t) = t
position_of (PhasesDiffer t) = t

-- a result with its refusal as number and position
abbrev pub numbered : {T : Type 0} → Result T Refusal → Result T (ℕ × ℕ)
numbered (Ok x) = Ok x
numbered (Err e) = Err (number_of e, position_of e)

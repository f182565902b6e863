-- The judge's answer, its contract (demand 2), the first missed deadline, the run up to it, and the cost by which the faster way to find it is chosen.
pub mod JudgeAnswer
pub mod Judged
pub mod FirstMiss
pub mod RunOn
pub mod Cost

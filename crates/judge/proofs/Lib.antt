-- The proofs of the judge's contract: from the run to the first miss, the verdict, what changes no verdict, and that all ways agree.
pub mod Examples
pub mod CostExamples
pub mod Widths
pub mod LateByTicks
pub mod LateByEvents
pub mod FirstMiss
pub mod ByJumps
pub mod OneStep
pub mod Contract
pub mod OffChain
pub mod Fence
pub mod Agree

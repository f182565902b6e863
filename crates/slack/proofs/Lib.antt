-- The laws of `slack`: longer jobs miss no less, tables that have grown and their words, the slack and the bisection that finds it, the contract, and
-- computed examples.
pub mod Longer
pub mod Misses
pub mod Grown
pub mod Ordered
pub mod Figure
pub mod GrownWords
pub mod GrowthJudged
pub mod Alone
pub mod Judging
pub mod LongerIn
pub mod Bisection
pub mod Listed
pub mod Contract
pub mod OffChain
pub mod Examples

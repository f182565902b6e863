-- The meaning of a table's words: tasks, limits, the numbers for what is turned down, the result of `load`, and what it promises; then records off the chain and bare tables.
pub mod Task
pub mod Words
pub mod Limits
pub mod Numbers
pub mod Answer
pub mod Gcd
pub mod Load
pub mod Fit
pub mod Fitting
pub mod OffChain
pub mod UnfencedWords

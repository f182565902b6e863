-- The laws of `conflict`: the chosen places of a list, what a part keeps of the table, the passes and what they leave, the words of a part and their verdict,
-- and computed examples.
pub mod Chosen
pub mod Parts
pub mod Still
pub mod Dropping
pub mod Minimal
pub mod Linked
pub mod LinkedWords
pub mod Relinked
pub mod Linking
pub mod Judging
pub mod Contract
pub mod OffChain
pub mod Examples

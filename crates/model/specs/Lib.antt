-- The definitions that the whole project rests on, in reading order: sizes, the table, the fence, the grants of a tick, what is lent, rows,
-- which rules and widths are firm, the book in five files (jobs, claims, an advance, refusals, lists), its rows as sets, who works, the horizon and the verdict.
pub mod Sizes
pub mod Search
pub mod Members
pub mod Task
pub mod Fence
pub mod Grants
pub mod Lending
pub mod Row
pub mod Firm
pub mod Jobs
pub mod Claims
pub mod Advance
pub mod Refusal
pub mod Refusals
pub mod Lists
pub mod WithdrawSet
pub mod Sets
pub mod Working
pub mod Compare
pub mod Horizon
pub mod Verdict
pub mod FirmGuarantee
pub mod Local
pub mod Interference

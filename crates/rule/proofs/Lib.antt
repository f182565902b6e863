-- Laws of the widths of a tick, of the choosing and of lending: claimant by claimant, set by set, and as a marked row; and computed examples.
pub mod Examples
pub mod LendExamples
pub mod Widths
pub mod Granting
pub mod Choosing
pub mod Serving
pub mod Rows
pub mod Sets
pub mod Unions
pub mod Borrowed
pub mod Tick
pub mod BookSets
pub mod Lending
pub mod Showing
pub mod LentSets

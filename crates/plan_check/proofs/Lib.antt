-- The laws of plans by another planner: which job is the newest, the ticks counted in rows, the plan book that is kept of them and its meaning, when a list
-- is accepted and what each answer means, that an accepted plan repeats for ever; a task moved by the rows, states that 14 passes, that `check_row` answers
-- as the plan book does; the tool's own plans; and computed examples. Of one row: its tests and their order, what it shows, the tick, and its contract.
pub mod Newest
pub mod Ticks
pub mod PhaseBy
pub mod PlanBook
pub mod Owed
pub mod Steps
pub mod Meets
pub mod Exact
pub mod Answers
pub mod Repeats
pub mod OneTick
pub mod StateByRows
pub mod Passing
pub mod SamePhase
pub mod AnyPlace
pub mod StateTests
pub mod Deciding
pub mod Counting
pub mod Working
pub mod PlanExtent
pub mod Starting
pub mod Cases
pub mod Order
pub mod Taking
pub mod UnusedPlaces
pub mod StateRelated
pub mod TakeAnswers
pub mod Cells
pub mod Own
pub mod Checked
pub mod OffChain
pub mod Examples
pub mod StateExamples

-- A plan by another planner: its conditions, and the meaning of each answer to a list of rows; the state between rows, the contracts of the beginning and of
-- a row; a whole plan; what code keeps beside the state: the extent of the plan, the cells of a row; and that places past the count are not read.
pub mod Plan
pub mod Answers
pub mod State
pub mod Row
pub mod Numbers
pub mod RowAnswer
pub mod CheckRow
pub mod Begin
pub mod Checked
pub mod Extent
pub mod Shown
pub mod UnusedPlaces

-- A supplied plan as text: the meaning of a line of it, the answer, and the state of a check.
pub mod Line
pub mod Checked
pub mod Check
pub mod Printed
pub mod Plan

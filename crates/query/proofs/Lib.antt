-- The laws of the program query: the lines of numbers and of positions, and what decides all that is printed for a question.
pub mod Figures
pub mod Positions
pub mod Asking

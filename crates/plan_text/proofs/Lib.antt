-- Laws of a supplied plan as text: a line word by word, one that is too long, and the lines one after another.
pub mod Reading
pub mod Answers
pub mod Printing
pub mod Taking
pub mod Lines
pub mod Long
pub mod Feeding
pub mod Whole
pub mod Examples
pub mod Plan
pub mod Text
pub mod Own

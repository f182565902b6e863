-- An input of a table, a line `--`, then lines: what it splits into, the parts that are handed on, and the words of a line.
pub mod Split
pub mod Parts
pub mod Words

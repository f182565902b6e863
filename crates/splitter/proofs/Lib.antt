-- Laws of the splitter: an input whose lines come in pieces, the line at its front, its table, and the words of a line.
pub mod Splits
pub mod Lines
pub mod Tables
pub mod Words

-- The output of a printer: the text of rows, what is left of it, a whole sequence of pieces, and when a printer is valid.
pub mod Cells
pub mod Rows
pub mod Valid
pub mod Printer
pub mod Pieces

-- The text that is read and printed: numbers in decimal, the table's format, the verdict's line and the rows, and the contents of a buffer.
pub mod Decimal
pub mod Format
pub mod Input
pub mod Output
pub mod FirstLine
pub mod Written

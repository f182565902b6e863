-- The law of the program `sivorandra`: what its printer's pieces come to as they are sent.
pub mod Printing

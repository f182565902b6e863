-- What the program query prints: one definition, of the whole input.
pub mod Figures
pub mod Positions
pub mod Query

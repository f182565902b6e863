-- What is promised of the interference test.
pub mod Bounds

-- Runs, supplied plans, facts and answers in words of a lent buffer, and what the calls on such a buffer answer and leave.
pub mod AnswerWords
pub mod Encoding
pub mod Runs
pub mod Lists
pub mod UnusedPlaces
pub mod RunRefused
pub mod Supplied
pub mod CheckRow
pub mod Facts

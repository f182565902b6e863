-- The sentence of a miss: its facts, its bytes, its parser, and the numbers for what is turned down.
pub mod Facts
pub mod Sentence
pub mod Parsed
pub mod Limits
pub mod Reading
pub mod Waiting
pub mod Counting
pub mod Numbers
pub mod SentenceAnswer

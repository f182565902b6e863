-- Slack: tables with longer lengths, the rules that it is given for, the slack of a task, its words, and the contract.
pub mod Longer
pub mod Ordered
pub mod Slack
pub mod GrownWords
pub mod Numbers
pub mod Answer

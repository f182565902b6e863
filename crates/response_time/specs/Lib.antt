-- The worst-case response time of each task: that of a job, the maximum, what a firm table guarantees of it, and the contract.
pub mod Response
pub mod EndedWithin
pub mod Numbers
pub mod Recording
pub mod ResponseTimes

pub mod Answers
pub mod Bench
pub mod Of
pub mod Plays
pub mod Report
pub mod Runs
pub mod State
pub mod Tickets

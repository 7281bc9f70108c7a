pub mod Answered
pub mod Pages

pub mod Says
pub mod View
pub mod Promises
pub mod Telling
pub mod Sets
pub mod Levels

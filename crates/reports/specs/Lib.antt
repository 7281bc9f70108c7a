pub mod Layout
pub mod Report

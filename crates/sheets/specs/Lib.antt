pub mod Limits
pub mod Page
pub mod Rows
pub mod Sheets
pub mod Meaning

pub mod Events
pub mod Lines
pub mod Numbers
pub mod Pieces

pub mod Cuts
pub mod EventsRead
pub mod Figures
pub mod Letters
pub mod Spelling
pub mod Turns
pub mod Whole

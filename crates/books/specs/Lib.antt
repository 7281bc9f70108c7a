pub mod Members
pub mod Passes
pub mod Points
pub mod Shut
pub mod Taking

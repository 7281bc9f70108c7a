-- The proofs: lists of frames and of arrivals, sets of entries, views, queues, reached pictures, cascades.
pub mod Lists
pub mod Levels
pub mod Bits
pub mod Views
pub mod Queues
pub mod Reach
pub mod Endings
pub mod Runs
pub mod Searches

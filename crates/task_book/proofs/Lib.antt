-- The proofs: what the book decides, the bridge to the rules' largest shut set, sets of tasks, what the code
-- answers, and the names.
pub mod Counted
pub mod Plainly
pub mod Masks
pub mod Follows
pub mod Named

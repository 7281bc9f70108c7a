pub mod Binary
pub mod Firsts
pub mod Ones
pub mod Sets
pub mod Words

pub mod Bools
pub mod Promise

pub mod Digits
pub mod Promise
pub mod Written

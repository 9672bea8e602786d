pub mod Lent
pub mod Turn

pub mod Linear
pub mod Complemented
pub mod Chi
pub mod Chunks
pub mod Loops
pub mod Promise

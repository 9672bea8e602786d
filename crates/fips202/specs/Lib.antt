pub mod Keccak
pub mod Bytes
pub mod Lanes

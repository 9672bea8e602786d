pub mod Hexadecimal
pub mod Lines
pub mod Frames
pub mod Journal
pub mod Steps
pub mod Inside
pub mod Shape
pub mod Runs

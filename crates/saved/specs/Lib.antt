pub mod AfterLoad
pub mod Saved

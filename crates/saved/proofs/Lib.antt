pub mod Bytes
pub mod FirstCall
pub mod Forms
pub mod Loaded
pub mod Promise
pub mod RoundTrip

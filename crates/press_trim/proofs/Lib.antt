pub mod Trims
pub mod Used

pub mod Zeros
pub mod Rows
pub mod Found

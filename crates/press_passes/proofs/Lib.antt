pub mod Recycled
pub mod Chosen

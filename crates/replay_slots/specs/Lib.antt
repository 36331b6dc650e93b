pub mod Looks
pub mod Said

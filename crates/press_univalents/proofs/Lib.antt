pub mod Weighs
pub mod Rises

pub mod Literals
pub mod Reaches

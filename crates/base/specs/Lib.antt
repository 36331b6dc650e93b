pub mod Folds
pub mod Bytes

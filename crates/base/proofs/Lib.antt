pub mod Folds
pub mod Bytes
pub mod Flat
pub mod Lists
pub mod Stored

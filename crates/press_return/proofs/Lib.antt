pub mod Backs
pub mod Walks

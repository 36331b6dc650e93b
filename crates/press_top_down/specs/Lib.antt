pub mod Scores
pub mod Renewed

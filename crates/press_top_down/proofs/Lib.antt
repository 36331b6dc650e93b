pub mod Scoring
pub mod Taking
pub mod Changing
pub mod Renewing
pub mod Turning

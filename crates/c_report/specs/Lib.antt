pub mod Report
pub mod Named

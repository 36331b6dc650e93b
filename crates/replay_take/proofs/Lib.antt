pub mod Going
pub mod Said

pub mod Promise
pub mod Files

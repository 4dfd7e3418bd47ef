pub mod Board
pub mod Room
pub mod Queue

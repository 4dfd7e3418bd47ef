pub mod Sound
pub mod Search
pub mod Leg
pub mod Walk
pub mod Request
pub mod Record
pub mod Printer
pub mod Table

-- Laws of Boolean tests, of refusals, of lists as pictures, and of the floor; and that the two promises allow one outcome alone.
pub mod Tools
pub mod Refusing
pub mod Boards
pub mod Geometry
pub mod Headings
pub mod Unique

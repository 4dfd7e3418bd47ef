-- What the tests over slices come to, that the pairs which the code tests are those that adjoin, and that an answer is known by its numbers.
pub mod Folds
pub mod Pairing
pub mod Rowing
pub mod Adjoining
pub mod Answering

pub mod Looks
pub mod Calls
pub mod Turns
pub mod Runs
pub mod Readers
pub mod Laws
pub mod Layers

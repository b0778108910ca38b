pub mod Streams
pub mod Batches
pub mod Running

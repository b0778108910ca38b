pub mod Sinks
pub mod Makes
pub mod Headers
pub mod Numbers
pub mod Frames
pub mod Writing
pub mod Batches

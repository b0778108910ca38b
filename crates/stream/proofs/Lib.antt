pub mod Updates
pub mod Ways
pub mod Ending
pub mod Running

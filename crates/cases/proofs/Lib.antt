pub mod Openings
pub mod Sent
pub mod Updates
pub mod Framed
pub mod Run

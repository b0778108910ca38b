pub mod Levels
pub mod Shown
pub mod Collected
pub mod Lending
pub mod Planned
pub mod Framed
pub mod Bodies
pub mod Telling

pub mod Reading
pub mod Fitting
pub mod WindowFacts
pub mod SideBySide
pub mod Below
pub mod Held
pub mod Contents
pub mod Children

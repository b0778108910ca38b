pub mod Openings
pub mod WindowCases
pub mod DictionaryCases
pub mod FrameCases
pub mod RunCases

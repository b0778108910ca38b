pub mod Flagged
pub mod Order
pub mod Sliced
pub mod Subjects
pub mod Walking

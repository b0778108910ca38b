pub mod Checks
pub mod Ends
pub mod KeyScans
pub mod Scans
pub mod Slotted
pub mod Subjects
pub mod Walks

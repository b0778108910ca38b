pub mod RoundTrip
pub mod NothingElse
pub mod Equality
pub mod Sizes
pub mod Places
pub mod Passing

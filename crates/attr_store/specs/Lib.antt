pub mod SameRoutes
pub mod Kept
pub mod Joined

-- How a reader of a line moves on. Nothing that `step` or `Demand3` says lies here.
pub mod Reader
pub mod Codes

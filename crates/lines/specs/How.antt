-- What a handler decides before anything changes, in areas that are lent. Nothing that `step` or `Demand3` says lies here.
pub mod ChangeRoom
pub mod Looks

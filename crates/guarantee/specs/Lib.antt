pub mod Alike
pub mod Identity
pub mod Cases
pub mod Demand3
pub mod Loading
pub mod Witness

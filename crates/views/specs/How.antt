-- How what is shown is worked out, how a change reads it, and how it is carried out in place. Nothing that `step` or `Demand3` says lies here.
pub mod Numbers
pub mod Pass

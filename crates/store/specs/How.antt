-- How the call that loads the solver's file goes about it. Nothing that `LoadXml` says lies here.
pub mod Load

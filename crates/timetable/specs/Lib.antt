pub mod Program
pub mod Streams
pub mod How

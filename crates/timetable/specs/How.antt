-- How the program goes through its input, byte by byte and chunk by chunk. Nothing that `answers_to` says lies here.
pub mod Run
pub mod Bytes

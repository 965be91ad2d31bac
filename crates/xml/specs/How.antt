-- How a document is read, token by token. Nothing that `Document` says lies here.
pub mod Lexer
pub mod Loading
pub mod Scan
pub mod Tokens
pub mod Writer

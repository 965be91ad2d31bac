pub mod Answer
pub mod AnswerTree
pub mod Sheet
pub mod SheetTree
pub mod How

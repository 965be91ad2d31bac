-- How an answer is put into an area, part by part. Nothing that `step` or `Demand3` says lies here.
pub mod AnswerArea
pub mod AnswerParts
pub mod SheetParts

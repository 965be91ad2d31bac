pub mod Document
pub mod Written
pub mod How

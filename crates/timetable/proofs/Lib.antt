pub mod PrintLaws
pub mod ByteLaws
pub mod ProgramLaws
pub mod ProgramRefusals
pub mod LinesLaws
pub mod StreamLaws

pub mod NumberText
pub mod LinesText

pub mod Grammar
pub mod Shape

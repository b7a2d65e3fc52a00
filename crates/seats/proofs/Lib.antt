pub mod Steps
pub mod Books
pub mod Fresh

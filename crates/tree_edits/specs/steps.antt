pub mod Drafting
pub mod Editing
pub mod Marks
pub mod TextTable

pub mod Changes
pub mod Courses

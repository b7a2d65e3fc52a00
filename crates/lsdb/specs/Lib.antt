pub mod Answers
pub mod Databases
pub mod Links
pub mod TwoWay

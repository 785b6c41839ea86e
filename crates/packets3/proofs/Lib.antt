pub mod Lawful
pub mod FewPoints
pub mod Asked

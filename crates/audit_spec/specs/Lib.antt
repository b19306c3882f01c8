pub mod Tests
pub mod Findings
pub mod Honest
pub mod Meaning
pub mod Setups
pub mod Vectors
pub mod VectorsOfFiles

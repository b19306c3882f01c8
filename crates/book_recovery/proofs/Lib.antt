pub mod Counted
pub mod Longer
pub mod Made
pub mod Stored
pub mod Told
pub mod Took
pub mod Way
pub mod Filed
pub mod Noting
pub mod Later
pub mod Would
pub mod Adopted
pub use Rattle.book_redo.proofs.InstanceBook
pub use Rattle.book_redo.proofs.JournalSpec
pub use Rattle.book_redo.proofs.VisitRuns
pub use Rattle.setup_reader.proofs as SetupReader

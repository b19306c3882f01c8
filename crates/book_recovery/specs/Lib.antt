pub mod Found
pub mod Noting
pub mod Reading
pub mod Noted
pub mod Anew
pub use Rattle.book_redo.specs.InstanceBook
pub use Rattle.book_redo.specs.JournalSpec
pub use Rattle.book_redo.specs.VisitRuns
pub use Rattle.setup_reader.specs as SetupReader
pub mod Adopting
pub mod Calls

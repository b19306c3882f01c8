pub mod Passed
pub mod Landed
pub mod Redone
pub mod Held
pub mod Anew
pub mod Before
pub mod Comes
pub mod Left
pub mod Over
pub mod Quiet
pub mod Respelled
pub mod SameStates
pub mod Shown
pub mod Spelled
pub mod ToldState
pub use Rattle.instance_book.proofs as InstanceBook
pub use Rattle.journal_spec.proofs as JournalSpec
pub use Rattle.visit_runs.proofs as VisitRuns

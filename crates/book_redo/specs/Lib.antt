pub mod Redo
pub mod Landing
pub mod Lands
pub mod Again
pub mod Behind
pub mod Renewing
pub mod Runs
pub mod Told
pub use Rattle.instance_book.specs as InstanceBook
pub use Rattle.journal_spec.specs as JournalSpec
pub use Rattle.frame_codec.specs as FrameCodec
pub use Rattle.machine_states.specs as MachineStates
pub use Rattle.visit_runs.specs as VisitRuns

pub mod Spelling
pub mod Stored
pub mod Reading
pub mod Walk
pub mod Laws
pub mod Views
pub mod Deltas
pub mod DeltaViews
pub mod Difference
pub mod Forms
pub mod FormViews
pub mod Parted
pub mod PartedViews
pub mod Fronts
pub mod FrontViews
pub mod Vectors
pub use Rattle.machine_states.specs as MachineStates
pub use Rattle.script_nodes.specs as ScriptNodes
pub use Rattle.machine_states.specs.ReplaySpec

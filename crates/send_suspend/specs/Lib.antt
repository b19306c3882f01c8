pub mod Segments
pub use Rattle.segments.specs.ReplaySpec
pub use Rattle.machine_states.specs as MachineStates

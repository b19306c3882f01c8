pub mod Machine
pub mod Laws
pub mod Fits
pub mod Visits
pub mod Vectors
pub mod Dues
pub mod VectorsTasks
pub mod Views
pub use Rattle.replay_spec.specs as ReplaySpec
pub use Rattle.instance_cells.specs as InstanceCells

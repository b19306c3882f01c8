pub mod Looking
pub mod Named
pub mod Going
pub mod All
pub mod Unwritten
pub use Rattle.record_audit.proofs.AuditSpec

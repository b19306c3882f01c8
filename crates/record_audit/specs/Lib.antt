pub mod Runs
pub mod Faults
pub use Rattle.audit_spec.specs as AuditSpec

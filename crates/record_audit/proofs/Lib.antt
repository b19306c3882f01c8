pub mod Chains
pub mod Same
pub mod Visits
pub mod Words
pub mod Beside
pub mod Pages
pub mod Compared
pub mod Told
pub use Rattle.audit_spec.proofs as AuditSpec

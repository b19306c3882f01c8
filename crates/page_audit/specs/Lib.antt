pub mod Audits
pub mod Auditing
pub use Rattle.record_audit.specs.AuditSpec
pub use Rattle.book_recovery.specs.JournalSpec

pub mod Notes
pub mod Files
pub use Rattle.journal_records.specs as JournalRecords

pub mod Ranges
pub mod Files
pub mod Fed
pub mod Following
pub mod Reopening
pub mod Present
pub mod Owning
pub mod Compacting
pub mod Migrating
pub mod Views
pub mod Tickets
pub mod Holding
pub mod Events
pub mod Going
pub mod Faults
pub mod Opening
pub mod Preparing
pub mod Recording
pub mod Runs
pub mod Visits
pub mod Calls
pub use Rattle.book_recovery.specs.JournalSpec
pub use Rattle.book_recovery.specs.InstanceBook
pub use Rattle.file_copies.specs.OfFileNotes
pub use Rattle.web_outside.specs as WebOutside
pub use Rattle.web_disk.specs as WebDisk
pub use Rattle.wire_bytes.specs as WireBytes
pub use Rattle.journal_records.specs as JournalRecords
pub use Rattle.page_journal.specs as PageJournal
pub use Rattle.book_recovery.specs.SetupReader

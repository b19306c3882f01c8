pub mod Copies
pub mod Sizing
pub use Rattle.file_notes.specs as OfFileNotes

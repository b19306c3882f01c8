pub mod Copied
pub mod Sized
pub use Rattle.file_notes.proofs as OfFileNotes

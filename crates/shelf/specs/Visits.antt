-- What is said of tickets and of instances, for the crates above a shelf.
pub use Rattle.book_recovery.specs.InstanceBook.Views.{instance_of}
pub use Rattle.book_visits.specs.declared.ticket.Ticket.{Ticket}
pub use Rattle.book_visits.specs.Fits.{FitsAs, IsRunnable}
pub use Rattle.book_visits.specs.Prepares.{HasItsScript}
pub use Rattle.book_visits.specs.Views.{ticket_of, reply_of}

-- What is said of shelves and of tickets, for the crates above a site.
pub use Rattle.shelf.specs.Visits.{Ticket, ticket_of, reply_of}
pub use Rattle.shelf.specs.declared.begin.BeginFault.{BeginFault}
pub use Rattle.shelf.specs.declared.begin.BeginFault.TheVariants as fault
pub use Rattle.shelf.specs.declared.rules.Rules.{Rules}
pub use Rattle.shelf.specs.Faults.{IsReadFaultOf}
pub use Rattle.shelf.specs.Migrating.{IsTooLongAnew, bodies_by, making_by}
pub use Rattle.shelf.specs.Opening.{HasRoomFor, HoldsAtRest, IsFaultOf, IsOpenedAnew, IsTooLongBehind, KeepsRecords, MakesBook, bodies_after, making_after, now_by_log, now_in_bytes, opening_bodies}
pub use Rattle.shelf.specs.Owning.{HasOwnImages, IsOwnImage, StandsMeasured, StandsOwn, StaysOwnThroughout}
pub use Rattle.shelf.specs.Ranges.{AreInRange, numbered}
pub use Rattle.shelf.specs.Views.{HasGiven, IsOwnShelf, book_in, compacted_of, library_in, rules_of, shelf_of}

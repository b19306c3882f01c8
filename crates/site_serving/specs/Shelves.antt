-- What is said of a site and of its shelves, for the crates above the serving of links.
pub use Rattle.site.specs.declared.entry.KeptEntry.{KeptEntry}
pub use Rattle.site.specs.declared.fault.SiteFault.{SiteFault}
pub use Rattle.site.specs.declared.opening.Opening.{Opening}
pub use Rattle.site.specs.declared.site.Site.{Site}
pub use Rattle.site.specs.Beginnings.{AreNew, AreReturned, AreUnopened, CanBegin, IsBegun, IsBegunAt, IsNotBegun, IsOpenedOn, IsReady, IsReturned, LosesNothing}
pub use Rattle.site.specs.Entries.{entries_of}
pub use Rattle.site.specs.Opened.{HasEnded, Opened, StandsForBook}
pub use Rattle.site.specs.Openings.{IsOwnOpening, book_then, opened_library, opened_of, scripts_in, start_of}
pub use Rattle.site.specs.Shelves.fault
pub use Rattle.site.specs.Shelves.{BeginFault, Rules}
pub use Rattle.site.specs.Shelves.{IsReadFaultOf}
pub use Rattle.site.specs.Shelves.{HasRoomFor, HoldsAtRest, IsFaultOf, IsOpenedAnew, IsTooLongAnew, IsTooLongBehind, KeepsRecords, MakesBook, bodies_after, bodies_by, making_after, making_by, now_by_log, now_in_bytes, opening_bodies}
pub use Rattle.site.specs.Shelves.{HasOwnImages, IsOwnImage, StandsMeasured, StandsOwn, StaysOwnThroughout}
pub use Rattle.site.specs.Shelves.{AreInRange, numbered}
pub use Rattle.site.specs.Shelves.{HasGiven, IsOwnShelf, book_in, library_in, rules_of, shelf_of}

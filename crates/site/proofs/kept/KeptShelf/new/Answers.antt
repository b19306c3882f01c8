use Rattle.std.proofs.Common.{rules, ◌≡◌, ◌<◌, ◌^◌, ℕ, List, [], sym, subst}
use Rattle.replay_spec.specs.Book.{reopened}
use Rattle.history_spec.proofs.Members.{contains_none}
use Rattle.shelf.specs.Views.{IsInOrder, book_in}
use Rattle.site.specs.declared.opening.Opening.{Opening}
use Rattle.site.specs.Openings.{count_of}
use Rattle.shelf.specs.Visits.{Ticket}
use Rattle.site.specs.declared.entry.KeptEntry.{KeptEntry}
use Rattle.site.specs.Entries.{entries_of, IsGivenIn}
use Rattle.site.specs.Sound.{IsSound}
use Rattle.site.proofs.Sounds.{sound_first}
use Rattle.site.proofs.kept.KeptShelf.new.Goals as goal

-- without an entry no ticket was given
none_given : (t : Ticket) → IsGivenIn [] t → ⊥
none_given t given = contains_none given.0 given.1.0

pub returns-clause-sound : goal.returns-clause-sound
returns-clause-sound g c =
    let view = g.D.Disk.view in
    let tells = g.D.Disk.tells in
    let coming = g.N.Nonces.nonce in
    let o : Opening g.row.D.Denot g.row.N.Denot = record { shelf = c.of.result } in
    let order : IsInOrder {D = g.row.D.Denot} {N = g.row.N.Denot} view tells c.of.result.value =
    subst (λ (z : _). IsInOrder {D = g.row.D.Denot} {N = g.row.N.Denot} view tells z) (sym c.of.ensures) c.requires.in_order in
    let opened : book_in {D = g.row.D.Denot} {N = g.row.N.Denot} view c.of.result.value ≡ reopened (book_in {D = g.row.D.Denot} {N = g.row.N.Denot} view c.of.result.value) =
    subst (λ (z : _). book_in {D = g.row.D.Denot} {N = g.row.N.Denot} view z ≡ reopened (book_in {D = g.row.D.Denot} {N = g.row.N.Denot} view z)) (sym c.of.ensures) c.requires.opened in
    let fits : c.faults-count.result < 2 ^ 64 = search rules in
    let low : count_of {D = g.row.D.Denot} {N = g.row.N.Denot} view c.of.result.value < 2 ^ 64 =
    subst (λ (z : _). count_of {D = g.row.D.Denot} {N = g.row.N.Denot} view z < 2 ^ 64) (sym c.of.ensures) (subst (λ (n : ℕ). n < 2 ^ 64) c.faults-count.ensures fits) in
    let first = sound_first {D = g.row.D.Denot} {N = g.row.N.Denot} view tells coming c.images_make_books.ensures o order opened (g.met.D.Disk.only_now c.of.result.value.journal.disk) low in
    let is = subst (λ (l : List _). IsSound {D = g.row.D.Denot} {N = g.row.N.Denot} view tells coming o c.args.shelf (entries_of l)) (sym c.new.ensures)
    (subst (λ (z : _). IsSound {D = g.row.D.Denot} {N = g.row.N.Denot} view tells coming o z []) c.of.ensures first) in
    record {
      is = is;
      tickets = λ t given. absurd (none_given t (subst (λ (l : List KeptEntry). IsGivenIn l t) c.new.ensures given));
    }

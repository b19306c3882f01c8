use Rattle.std.proofs.Common.{refl, sym}
use Rattle.shelf.specs.Opening.{IsOfNow}
use Rattle.site.specs.Openings.{scripts_in, start_of, source_of, count_of, book_then}
use Rattle.site.proofs.what_a_site_left_is_sound.Goals as goal

pub returns : goal.returns
returns g c o p disk nonces es told stands own sound one =
    let source = source_of {D = g.row.D.Denot} {N = g.row.N.Denot} g.N.Nonces.nonce o in
    let start = start_of {D = g.row.D.Denot} {N = g.row.N.Denot} g.D.Disk.view o in
    let opened = count_of {D = g.row.D.Denot} {N = g.row.N.Denot} g.D.Disk.view o.shelf.value in
    let book = book_then {D = g.row.D.Denot} {N = g.row.N.Denot} g.D.Disk.view g.N.Nonces.nonce o es in
    let its = stands.ended.history own in
    let here = (c.books_behind_are_sound.ensures source opened (g.D.Disk.view disk).faults start es stands.ended.opened sound its.legal).0 in
    let now : IsOfNow (g.D.Disk.view disk) = λ some. sym (stands.ended.newest told (g.D.Disk.view disk).seen (g.met.D.Disk.reads_image disk told)) in
    c.a_reopened_shelf_is_sound.ensures (scripts_in {D = g.row.D.Denot} {N = g.row.N.Denot} p) o.shelf.value.rules.number start.rules book
    (start_of {D = g.row.D.Denot} {N = g.row.N.Denot} g.D.Disk.view p).book disk disk here refl (its.stands told).stands (λ image left. left) (one now)

use Rattle.std.proofs.Common.{◌≡◌, ◌≢◌, ◌<◌, ◌∙◌, [], length, Err, sym, subst, arith, rules}
use Rattle.std.specs.Prelude.{IsTrue, ◌&&◌}
use Rattle.script_nodes.specs.Views.{scripts_of}
use Rattle.web_disk.specs.View.{AreAmong}
use Rattle.disk_trio.specs.Laws.{reads_left}
use Rattle.disk_trio.specs.Trio.{trio_view}
use Rattle.disk_trio.specs.declared.trio.Disks.{Disks}
use Rattle.trio_rack.specs.Trios.{shelves_of}
use Rattle.trio_rack.proofs.Each.{shelves_as_disks}
use Rattle.play_desk.specs.Opening.{FailedFor, reopen_of}
use Rattle.play_steps.specs.declared.stage.Reopen.TheVariants as reopen
use Rattle.play_desk.specs.declared.opening.OpenFault.{OpenFault}
use Rattle.site_serving.specs.Shelves.{IsBegunAt}
use Rattle.server_command.specs.Opening.{AreOut, FailsAt, HasTaken, IsRefused, RefusesInOrder, TakesBack, seen_on, unopened_by}
use Rattle.server_command.proofs.Openings.{all_home, both_tell, failed_since, given_asked, seen_size, taken_asked, untaken_asked, untaken_in_order, untaken_refused}
use Rattle.server_command.proofs.Shelves.{kept_at, kept_from, opened_from, refused_at, refused_in_order}
use Rattle.server_command.proofs.opening.open_site.Goals as goal

pub returns-in_err-disks-clause-refused : goal.returns-in_err-disks-clause-refused
returns-in_err-disks-clause-refused g c =
    let why = c.in_err-disks.field-0.0 in
    let shelves = c.args.options.now.shelves in
    let before = g.R.Rack.view c.args.rack.now in
    let last = g.R.Rack.view c.take_all.new.rack in
    let told : c.from_residual.result ≡ Err why = search rules in
    rw told (record {
      images = [];
      held = λ t. tt;
      refused = untaken_refused (IsTrue (g.R.Rack.tells && g.D.Disk.tells)) (FailsAt shelves before last) (scripts_of c.args.setup) [] why.shelf why.why c.in_err-disks.ensures.refused;
      in_order = λ t.
          untaken_in_order (scripts_of c.args.setup) before last shelves (FailsAt shelves before last) why.shelf why.why c.in_err-disks.ensures.refused
          c.in_err-disks.ensures.asked (c.in_err-disks.ensures.unwritten (both_tell _ _ t).0);
      kept = λ t k read left none. absurd (let no : ⊥ = cc none in no);
      unread = λ t n le. shelves_as_disks before last (c.in_err-disks.ensures.unwritten (both_tell _ _ t).0) n;
      home = c.in_err-disks.ensures.home;
      asked = untaken_asked before last shelves (FailsAt shelves before last) why.shelf why.why c.in_err-disks.ensures.refused c.in_err-disks.ensures.asked;
    })

pub returns-in-Ok-clause-opened : goal.returns-in-Ok-clause-opened
returns-in-Ok-clause-opened g c =
    let told = IsTrue (g.R.Rack.tells && g.D.Disk.tells) in
    let disks = c.in_ok-disks.disks.items in
    let taken = c.in_ok-disks.ensures.taken in
    let size = seen_size {D = Disks g.row.D.Denot g.D.Disk} trio_view disks in
    let sources = c.requires.sources in
    let begun = c.in-Ok.ensures.begun in
    record {
      images = seen_on {D = Disks g.row.D.Denot g.D.Disk} trio_view disks;
      taken = subst (λ n. HasTaken told (g.R.Rack.view c.args.rack.now) (g.R.Rack.view c.take_all.new.rack) n (seen_on {D = Disks g.row.D.Denot g.D.Disk} trio_view disks)) (sym sources) taken;
      opened = opened_from {D = Disks g.row.D.Denot g.D.Disk} trio_view g.D.Disk.tells told g.N.Nonces.nonce c.args.options.now (scripts_of c.args.setup) c.rules_of-rules.result 0 disks c.args.sources.items c.in-Ok.site.row.homes
          (omega (arith, sources, taken.many, size)) begun.many (λ t. (both_tell _ _ t).1) c.rules_of-rules.ensures.asked
          (λ i j d n h at d_is n_is h_is. let same : i ≡ j = omega (arith, at) in
          subst (λ m. IsBegunAt {D = Disks g.row.D.Denot g.D.Disk} {N = g.row.N.Denot} trio_view g.D.Disk.tells (scripts_of c.args.setup) c.rules_of-rules.result m d n h) same (begun.each i d n h d_is n_is h_is));
      kept = λ t k x read left x_is read_is left_is.
          kept_from {D = Disks g.row.D.Denot g.D.Disk} trio_view g.D.Disk.tells told g.N.Nonces.nonce c.args.options.now (scripts_of c.args.setup) c.rules_of-rules.result 0 disks c.args.sources.items c.in-Ok.site.row.homes
          (shelves_of (g.R.Rack.view c.args.rack.now)).holds (omega (arith, sources, taken.many, size)) begun.many (both_tell _ _ t).1
          (λ d. reads_left g.D.Disk g.met.D.Disk.reads_image d (both_tell _ _ t).1)
          (λ i j d n h at d_is n_is h_is. let same : i ≡ j = omega (arith, at) in (
            subst (λ m. IsBegunAt {D = Disks g.row.D.Denot g.D.Disk} {N = g.row.N.Denot} trio_view g.D.Disk.tells (scripts_of c.args.setup) c.rules_of-rules.result m d n h) same (begun.each i d n h d_is n_is h_is),
            subst (λ m. AreAmong (trio_view d).images ((shelves_of (g.R.Rack.view c.args.rack.now)).holds m)) same (c.in_ok-disks.ensures.from (both_tell _ _ t).0 i d d_is),
          ))
          k k x read left (omega arith) x_is read_is left_is;
    }

pub returns-in-Ok-clause-count : goal.returns-in-Ok-clause-count
returns-in-Ok-clause-count g c =
    let size = seen_size {D = Disks g.row.D.Denot g.D.Disk} trio_view c.in_ok-disks.disks.items in
    let taken = c.in_ok-disks.ensures.taken.many in
    let many = c.in-Ok.ensures.begun.many in
    omega (arith, size, taken, many)

pub returns-in-Err-clause-refused : goal.returns-in-Err-clause-refused
returns-in-Err-clause-refused g c =
    let told = IsTrue (g.R.Rack.tells && g.D.Disk.tells) in
    let before = g.R.Rack.view c.args.rack.now in
    let middle = g.R.Rack.view c.take_all.new.rack in
    let last = g.R.Rack.view c.give_all.new.rack in
    let scripts = scripts_of c.args.setup in
    let disks = c.in_ok-disks.disks.items in
    let taken = c.in_ok-disks.ensures.taken in
    let not = c.in-Err.ensures.fault in
    let size = seen_size {D = Disks g.row.D.Denot g.D.Disk} trio_view disks in
    let many : length c.in-Err.field-0.disks.items ≡ c.args.options.now.shelves = omega (arith, not.disks_back.returned.many, size, taken.many) in
    let why : unopened_by c.in-Err.field-0.shelf c.in-Err.field-0.fault ≡ c.why_unopened.result = sym c.why_unopened.ensures in
    let asked = given_asked c.args.options.now.shelves before middle last taken.asked c.give_all.ensures.back.asked in
    let refused = refused_at {D = Disks g.row.D.Denot g.D.Disk} trio_view g.D.Disk.tells scripts told disks c.args.sources.items c.in-Err.field-0 (λ k. FailedFor k before last)
    (λ t. (both_tell _ _ t).1) not
    (λ k e e_is some. failed_since k before middle last taken.later taken.failed_later (c.give_all.ensures.given.faults k e e_is some)) in
    record {
      images = seen_on {D = Disks g.row.D.Denot g.D.Disk} trio_view disks;
      held = taken.held;
      refused = subst (λ (f : OpenFault). IsRefused told (FailsAt c.args.options.now.shelves before last) scripts (seen_on {D = Disks g.row.D.Denot g.D.Disk} trio_view disks) f.shelf f.why) why
          (subst (λ n. IsRefused told (λ k. (k < n) × FailedFor k before last) scripts (seen_on {D = Disks g.row.D.Denot g.D.Disk} trio_view disks) c.in-Err.field-0.shelf (reopen_of c.in-Err.field-0.fault)) (sym size ∙ taken.many) refused);
      in_order = λ t.
          subst (λ (f : OpenFault). RefusesInOrder scripts before last c.args.options.now.shelves (seen_on {D = Disks g.row.D.Denot g.D.Disk} trio_view disks) f.shelf f.why) why
          (refused_in_order {D = Disks g.row.D.Denot g.D.Disk} trio_view g.D.Disk.tells scripts disks c.args.sources.items c.in-Err.field-0 before last c.args.options.now.shelves
          (both_tell _ _ t).1 (λ d. reads_left g.D.Disk g.met.D.Disk.reads_image d (both_tell _ _ t).1) not taken.many (c.in_ok-disks.ensures.from (both_tell _ _ t).0)
          (λ j e e_is. c.give_all.ensures.given.held t (subst (AreOut middle) (sym many) taken.out) j e e_is)
          asked);
      kept = λ t k read left read_is left_is but. kept_at {D = Disks g.row.D.Denot g.D.Disk} trio_view g.D.Disk.tells scripts told disks c.args.sources.items c.in-Err.field-0 (shelves_of before).holds (shelves_of last).holds
          (λ u. (both_tell _ _ u).1) (λ u d. reads_left g.D.Disk g.met.D.Disk.reads_image d (both_tell _ _ u).1) not (λ u. c.in_ok-disks.ensures.from (both_tell _ _ u).0)
          (λ u j e e_is. c.give_all.ensures.given.held u (subst (AreOut middle) (sym many) taken.out) j e e_is)
          t k read left read_is left_is (subst (λ (f : OpenFault). f.why ≡ reopen.Disk → k ≢ f.shelf) (sym why) but);
      unread = λ t n le image h. taken.rest n (omega (arith, size, taken.many, le)) image (c.give_all.ensures.given.others n (omega (arith, many, size, taken.many, le)) image h);
      home = all_home told before middle last c.args.options.now.shelves (seen_on {D = Disks g.row.D.Denot g.D.Disk} trio_view disks) taken (subst (TakesBack middle last 0) many c.give_all.ensures.back);
      asked = taken_asked before last c.args.options.now.shelves c.why_unopened.result.shelf c.why_unopened.result.why asked;
    }

pub begin-requires-clause-begins : goal.begin-requires-clause-begins
begin-requires-clause-begins g c = λ k low. c.requires.begins k (omega (arith, low, c.rules_of-rules.ensures.asked.shelves))

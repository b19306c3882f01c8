use Rattle.std.proofs.Common.{◌≡◌, ◌<◌, ◌∙◌, ℕ, sym, subst, false}
use Rattle.script_nodes.specs.Views.{library_of}
use Rattle.book_recovery.specs.declared.found.Found.{Found}
use Rattle.book_recovery.specs.declared.found.Found.TheVariants as found
use Rattle.book_recovery.specs.Found.{HasStates}
use Rattle.book_recovery.specs.Reading.{found_as, IsKept, IsUnderWay}
use Rattle.book_recovery.proofs.Way.{own_in_first}
use Rattle.book_recovery.proofs.reader.Reader.take.Goals as goal

pub returns-in-Made-clause-sound : goal.returns-in-Made-clause-sound
returns-in-Made-clause-sound c =
    let old = c.args.self.now in
    let new = c.later-taken.new.self in
    let b = c.in-Made.book in
    let rust = c.in-Made.library in
    let its = c.later-taken.ensures in
    let f = found_as c.args.place c.later-taken.result c.later-taken.new.book c.later-taken.new.library in
    let was : found.Made b rust ≡ old.found = c.in-Made.ensures.value in
    let way : IsUnderWay old.shelf old.alone old.seen b (library_of rust) = subst (λ (x : Found). IsKept old.shelf old.alone old.seen x) (sym was) c.requires.sound.kept in
    let states : old.format ≡ 1 → HasStates f =
    λ one. its.owns c.args.place (own_in_first old.format old.shelf old.alone old.seen b rust c.args.body.now one way) (subst (λ (x : Found). HasStates x) (sym was) (c.requires.sound.own one)) in
    record {
      kept = subst (λ (x : Found). IsKept new.shelf false new.seen x) (sym c.found_as.ensures) (subst (λ (k : ℕ). IsKept k false new.seen f) (sym its.same.shelf) (its.kept c.args.place));
      known = subst (λ (k : ℕ). 0 < k) (sym its.same.format) c.requires.sound.known;
      own = λ one. subst (λ (x : Found). HasStates x) (sym c.found_as.ensures) (states (sym its.same.format ∙ one));
      noted = its.noted;
    }

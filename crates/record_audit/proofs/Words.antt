-- The word of the first test that fails.
use Rattle.std.proofs.Common.{◌≡◌, ℕ, List, Bool, true, false, Option, Some, None, refl, not, if◌then◌else◌}
use Rattle.replay_spec.specs.Book.{Change}
use Rattle.replay_spec.specs.Recovery.{number_in, is_repeated}
use Rattle.book_redo.specs.JournalSpec.Before.{Made}
use Rattle.audit_spec.specs.declared.word.Word.{Word}
use Rattle.audit_spec.specs.declared.word.Word.TheVariants as word
use Rattle.audit_spec.specs.Tests.{goes_on, is_admitted, runs_so, least_go, is_in_time, tells_own}
use Rattle.audit_spec.specs.Findings.{fault_in}

abbrev first_word : (goes again admitted runs least time tells : Bool) → Option Word
first_word a b c d e f g =
    if not a then Some word.Sweep
    else (if b then Some word.Number
    else (if not c then Some word.Target
    else (if not d then Some word.Run
    else (if not e then Some word.Evicted
    else (if not f then Some word.Deadline
    else (if not g then Some word.State else None))))))

module _ (a b c d e f g : Bool) where
  number : a ≡ true → b ≡ true → first_word a b c d e f g ≡ Some word.Number
  number x y = rw (x, y) refl

  target : a ≡ true → b ≡ false → c ≡ false → first_word a b c d e f g ≡ Some word.Target
  target x y z = rw (x, y, z) refl

  run : a ≡ true → b ≡ false → c ≡ true → d ≡ false → first_word a b c d e f g ≡ Some word.Run
  run x y z u = rw (x, y, z, u) refl

  evicted : a ≡ true → b ≡ false → c ≡ true → d ≡ true → e ≡ false → first_word a b c d e f g ≡ Some word.Evicted
  evicted x y z u v = rw (x, y, z, u, v) refl

  deadline : a ≡ true → b ≡ false → c ≡ true → d ≡ true → e ≡ true → f ≡ false → first_word a b c d e f g ≡ Some word.Deadline
  deadline x y z u v w = rw (x, y, z, u, v, w) refl

  state : a ≡ true → b ≡ false → c ≡ true → d ≡ true → e ≡ true → f ≡ true → g ≡ false → first_word a b c d e f g ≡ Some word.State
  state x y z u v w t = rw (x, y, z, u, v, w, t) refl

  none : a ≡ true → b ≡ false → c ≡ true → d ≡ true → e ≡ true → f ≡ true → g ≡ true → first_word a b c d e f g ≡ None
  none x y z u v w t = rw (x, y, z, u, v, w, t) refl

-- what the tests of a change's record come to
module _ (format : ℕ) (m : Made) (c : Change) (s : Option (List ℕ)) where
  module _ (goes : goes_on m.book c ≡ true) where
    pub at_number : is_repeated (number_in c) m.earlier.seen ≡ true → fault_in format m c s ≡ Some word.Number
    at_number x = number _ _ _ _ _ _ _ goes x

    module _ (new : is_repeated (number_in c) m.earlier.seen ≡ false) where
      pub at_target : is_admitted m.book c ≡ false → fault_in format m c s ≡ Some word.Target
      at_target x = target _ _ _ _ _ _ _ goes new x

      module _ (admitted : is_admitted m.book c ≡ true) where
        pub at_run : runs_so m.book c ≡ false → fault_in format m c s ≡ Some word.Run
        at_run x = run _ _ _ _ _ _ _ goes new admitted x

        module _ (runs : runs_so m.book c ≡ true) where
          pub at_evicted : least_go m.book c ≡ false → fault_in format m c s ≡ Some word.Evicted
          at_evicted x = evicted _ _ _ _ _ _ _ goes new admitted runs x

          module _ (least : least_go m.book c ≡ true) where
            pub at_deadline : is_in_time m.book c ≡ false → fault_in format m c s ≡ Some word.Deadline
            at_deadline x = deadline _ _ _ _ _ _ _ goes new admitted runs least x

            module _ (time : is_in_time m.book c ≡ true) where
              pub at_state : tells_own format m c s ≡ false → fault_in format m c s ≡ Some word.State
              at_state x = state _ _ _ _ _ _ _ goes new admitted runs least time x

              pub at_none : tells_own format m c s ≡ true → fault_in format m c s ≡ None
              at_none x = none _ _ _ _ _ _ _ goes new admitted runs least time x

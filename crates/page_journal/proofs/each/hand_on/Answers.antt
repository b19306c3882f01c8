use Rattle.std.proofs.Common.{◌≡◌, ◌+◌, ℕ, suc, List, [], length, take, drop, refl, ◌∙◌, ap, subst, arith}
use Rattle.page_journal.specs.Records.{records_from, Damaged}
use Rattle.page_journal.specs.Scanned.{IsFound, IsWithin, HasRecord, HasEnd}
use Rattle.page_journal.proofs.Scans.{quiet_none, quiet_then, no_longer}
use Rattle.page_journal.proofs.Takings.{handed_all, handed_one, takes_front, takes_none, takes_one, takes_all, fits_buffer, never_wrong, never_past}
use Rattle.page_journal.proofs.each.hand_on.Goals as goal

pub gates-init : goal.gates-init
gates-init g c = record {
  taking = λ told. takes_none g.T.Take.takes c.args.taker.now _ (c.requires.holds told).intact;
  handing = record { done = []; here = refl {A = ℕ}; fits = omega arith; taken = refl };
  ready = c.requires.ready;
  quiet = quiet_none _ (g.met.D.Disk.only_now c.args.disk.now);
  buffer = omega arith;
}

pub returns-in-Wrong-clause-taken : goal.returns-in-Wrong-clause-taken
returns-in-Wrong-clause-taken g c = λ told.
    let same = c.gates.invariant.quiet.seen in
    let found = subst (λ f. IsFound (g.D.Disk.view c.gates.disk).seen c.gates.place f) c.in-Wrong.is (c.in_ok-look.ensures.found told) in
    absurd (never_wrong g.T.Take.takes c.args.taker.now _ c.gates.place c.gates.taker (c.gates.invariant.taking told)
    (λ f. subst (λ (l : List ℕ). records_from (suc f) c.gates.place (drop c.gates.place l) ≡ Damaged c.gates.place) same (found f)))

pub returns-in-End-clause-taken : goal.returns-in-End-clause-taken
returns-in-End-clause-taken g c = λ told.
    let same = c.gates.invariant.quiet.seen in
    let found = subst (λ f. IsFound (g.D.Disk.view c.gates.disk).seen c.gates.place f) c.in-End.is (c.in_ok-look.ensures.found told) in
    takes_all g.T.Take.takes c.args.taker.now _ c.gates.place c.in-End.gate c.gates.taker (c.gates.invariant.taking told) (subst (λ (l : List ℕ). HasEnd l c.gates.place c.in-End.gate) same found)

pub gates-preserved : goal.gates-preserved
gates-preserved g c = record {
  taking = λ told.
      let same = c.gates.invariant.quiet.seen in
      let found = subst (λ f. IsFound (g.D.Disk.view c.gates.disk).seen c.gates.place f) c.in-Next.is (c.in_ok-look.ensures.found told) in
      let bytes = c.deref.ensures.value ∙ c.in_ok-read_body-in-Next.ensures.bytes told ∙ ap (λ (l : List ℕ). take c.in-Next.size (drop (c.gates.place + 5) l)) (c.look.ensures.quiet.seen ∙ same) in
      takes_one g.T.Take.takes c.args.taker.now _ c.gates.place c.in-Next.size _ c.gates.taker c.body.new.self c.deref.result.now (c.gates.invariant.taking told)
      (subst (λ (l : List ℕ). HasRecord l c.gates.place c.in-Next.size) same found) bytes c.body.ensures.takes (omega arith);
  handing = handed_one g.T.Take.takes c.args.taker.now c.gates.place c.in-Next.size _ c.gates.taker c.body.new.self (c.gates.invariant.handing) (ap length c.deref.ensures.value ∙ c.in_ok-read_body-in-Next.ensures.size)
      (subst (λ f. IsWithin c.gates.place c.args.len f) c.in-Next.is c.in_ok-look.ensures.within).0 c.body.ensures.takes;
  ready =
      let long : length c.deref.result.now ≡ c.in-Next.size = ap length c.deref.ensures.value ∙ c.in_ok-read_body-in-Next.ensures.size in
      let next : c.gates.place + 5 + length c.deref.result.now ≡ c.gates.place + (5 + c.in-Next.size) = omega (arith, long) in
      subst (λ (n : ℕ). g.T.Take.ready c.body.new.self n) next c.body.ensures.ready;
  quiet = quiet_then _ _ _ c.gates.invariant.quiet (quiet_then _ _ _ c.look.ensures.quiet c.read_body.ensures.quiet);
  buffer = omega (arith, c.gates.invariant.buffer, c.read_body.ensures.capacity);
}

pub returns-clause-taken : goal.returns-clause-taken
returns-clause-taken g c = λ told.
    absurd (never_past g.T.Take.takes c.args.taker.now _ c.gates.place c.gates.taker (c.gates.invariant.taking told) (omega (arith, c.gates-test.false, c.requires.len told)))

pub returns-then-size-capacity-clause-taken : goal.returns-then-size-capacity-clause-taken
returns-then-size-capacity-clause-taken g c = λ told.
    let same = c.gates.invariant.quiet.seen in
    let found = subst (λ f. IsFound (g.D.Disk.view c.gates.disk).seen c.gates.place f) c.in-Next.is (c.in_ok-look.ensures.found told) in
    let fits = fits_buffer g.T.Take.takes c.args.taker.now _ c.gates.place c.in-Next.size _ c.gates.taker (c.gates.invariant.taking told)
    (subst (λ (l : List ℕ). HasRecord l c.gates.place c.in-Next.size) same found) (no_longer _ _ _ _ (c.requires.holds told).short c.gates.invariant.buffer refl) in
    absurd (omega (arith, fits, c.if-size-capacity.true, c.capacity.ensures))

pub returns-in-Wrong-clause-handed : goal.returns-in-Wrong-clause-handed
returns-in-Wrong-clause-handed g c = handed_all _ _ _ _ c.gates.invariant.handing

pub returns-in-End-clause-handed : goal.returns-in-End-clause-handed
returns-in-End-clause-handed g c = handed_all _ _ _ _ c.gates.invariant.handing

pub returns-clause-handed : goal.returns-clause-handed
returns-clause-handed g c = handed_all _ _ _ _ c.gates.invariant.handing

pub returns-then-size-capacity-clause-handed : goal.returns-then-size-capacity-clause-handed
returns-then-size-capacity-clause-handed g c = handed_all _ _ _ _ c.gates.invariant.handing

pub returns-in_err-look-clause-handed : goal.returns-in_err-look-clause-handed
returns-in_err-look-clause-handed g c = handed_all _ _ _ _ c.gates.invariant.handing

pub returns-in_err-read_body-in-Next-clause-handed : goal.returns-in_err-read_body-in-Next-clause-handed
returns-in_err-read_body-in-Next-clause-handed g c = handed_all _ _ _ _ c.gates.invariant.handing

pub returns-in-Wrong-clause-front : goal.returns-in-Wrong-clause-front
returns-in-Wrong-clause-front g c = λ told. takes_front g.T.Take.takes c.args.taker.now _ c.gates.place c.gates.taker (c.gates.invariant.taking told)

pub returns-in-End-clause-front : goal.returns-in-End-clause-front
returns-in-End-clause-front g c = λ told. takes_front g.T.Take.takes c.args.taker.now _ c.gates.place c.gates.taker (c.gates.invariant.taking told)

pub returns-clause-front : goal.returns-clause-front
returns-clause-front g c = λ told. takes_front g.T.Take.takes c.args.taker.now _ c.gates.place c.gates.taker (c.gates.invariant.taking told)

pub returns-then-size-capacity-clause-front : goal.returns-then-size-capacity-clause-front
returns-then-size-capacity-clause-front g c = λ told. takes_front g.T.Take.takes c.args.taker.now _ c.gates.place c.gates.taker (c.gates.invariant.taking told)

pub returns-in_err-look-clause-front : goal.returns-in_err-look-clause-front
returns-in_err-look-clause-front g c = λ told. takes_front g.T.Take.takes c.args.taker.now _ c.gates.place c.gates.taker (c.gates.invariant.taking told)

pub returns-in_err-read_body-in-Next-clause-front : goal.returns-in_err-read_body-in-Next-clause-front
returns-in_err-read_body-in-Next-clause-front g c = λ told. takes_front g.T.Take.takes c.args.taker.now _ c.gates.place c.gates.taker (c.gates.invariant.taking told)

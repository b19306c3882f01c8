-- Each lawful event keeps a book sound.
use Rattle.std.proofs.Common.{◌≡◌, ℕ, List, [], ◌∷◌, ◌++◌, Option, None, refl, sym, ap, subst, ◌∙◌}
use Rattle.script_value.specs.declared.outcome.TxName.{TxName}
use Rattle.script_nodes.specs.Setup.{Named}
use Rattle.replay_spec.specs.Book.{Change, sweeps, Book, landing, compacting, draw, spend}
use Rattle.replay_spec.specs.Rules.{Journal, Rules, empty_book}
use Rattle.replay_spec.specs.Change.{instances_by, land}
use Rattle.replay_spec.specs.Compaction.{rewritten, reopened_with}
use Rattle.replay_spec.specs.Step.{Event, Fate, doubting}
use Rattle.replay_spec.specs.Runs.{Shelf, after, lands}
use Rattle.replay_spec.specs.Invariant.{AreSound, IsSoundChange, IsSoundDoubt, IsOf, Unused, IsSound}
use Rattle.replay_spec.specs.Laws.{IsLawful, Moment, then_book, book_after, AreLawful, Leads, IsLawfulRun, IsReached, SoundBooksStay, ReachedBooksAreSound, EachChainReplays}
use Rattle.replay_spec.proofs.Ancestors.{chain_is}
use Rattle.replay_spec.proofs.Stand.{SinceNamed, named_same, named_then, sound_less, empty_sound, Later, Well}
use Rattle.replay_spec.proofs.Sound.{land_named}
use Rattle.replay_spec.proofs.Decided.{recorded_sound_of}
use Rattle.replay_spec.proofs.Going.{Goes, stays, draws, spends, publishes, fails, goes_to, fails_at, rewrites, fails_to_rewrite, keeps, keeps_rewritten, loses, goes}
use Rattle.replay_spec.proofs.Goes.{run_leads}
use Rattle.replay_spec.proofs.Orderly as orderly
use Rattle.replay_spec.proofs.Orderly.{recorded_orderly, published_fewer, swept_fewer, kept_fewer, is_out, is_doubted, later_then}

-- a later book with the same instances and setup
still : (b c : Book) → IsSound b → Later b c → c.instances ≡ b.instances → c.scripts ≡ b.scripts → IsSoundDoubt b.scripts b.shelf b.instances c.down → Well b c
still b c g later same scripts doubt = record {
  sound = record {
    orderly = later.orderly;
    instances = subst (λ n. AreSound (Unused c) n c.instances) (sym later.shelf) (subst (AreSound (Unused c) b.shelf) (sym same) (sound_less (Unused b) (Unused c) b.shelf b.instances later.fewer g.instances));
    doubt =
        subst (λ n. IsSoundDoubt c.scripts n c.instances c.down) (sym later.shelf)
        (subst (λ is. IsSoundDoubt c.scripts b.shelf is c.down) (sym same) (subst (λ ss. IsSoundDoubt ss b.shelf b.instances c.down) (sym scripts) doubt));
  };
  later = later;
  named = subst (SinceNamed (Unused b) b.instances) (sym same) (named_same (Unused b) b.instances);
}

-- a shelf that is opened again with another setup has nothing in doubt
lost : (journal : Option Journal) (b : Book) (scripts : List Named) → IsSound b → Later b (reopened_with journal scripts b) → Well b (reopened_with journal scripts b)
lost journal b scripts g later = record {
  sound = record {
    orderly = later.orderly;
    instances = sound_less (Unused b) (Unused (reopened_with journal scripts b)) b.shelf b.instances later.fewer g.instances;
    doubt = tt;
  };
  later = later;
  named = named_same (Unused b) b.instances;
}

landed : (b d : Book) (c : Change) (inside : List TxName) → IsSound b → Later b d → IsSoundChange b.scripts b.shelf b.instances c inside → ((m : ℕ) → IsOf m c → Unused b m)
    → d.instances ≡ instances_by b.scripts c inside b.instances → d.down ≡ None → ((m : ℕ) → Unused d m → Unused b m × (IsOf m c → ⊥)) → Well b d
landed b d c inside g later sound here is up fewer =
    let all = land_named b.scripts (Unused b) (Unused d) b.shelf b.instances c inside g.orderly.instances g.instances sound here fewer in
    record {
      sound = record {
        orderly = later.orderly;
        instances = subst (λ n. AreSound (Unused d) n d.instances) (sym later.shelf) (subst (AreSound (Unused d) b.shelf) (sym is) all.0);
        doubt = subst (IsSoundDoubt d.scripts d.shelf d.instances) (sym up) tt;
      };
      later = later;
      named = subst (SinceNamed (Unused b) b.instances) (sym is) all.1;
    }

went_on : {lawful : Type 0} (rules : Rules) (b d : Book) (o : Option Change) → Goes lawful rules b o d → lawful → IsSound b → Later b d → Well b d
went_on rules b d o stays l g later = still b b g later refl refl g.doubt
went_on rules b d o draws l g later = still b (draw b) g later refl refl g.doubt
went_on rules b d o (spends n out) l g later = still b (spend n b) g later refl refl g.doubt
went_on rules b d o (publishes t c inside h) l g later =
    let fits = recorded_orderly rules b t c inside g.orderly h in
    landed b (land rules c inside (spend t.number b)) c inside g later (recorded_sound_of rules b t c inside g h) (is_out b t.number c (h.out l) fits.1) refl h.up
    (published_fewer rules b t.number c inside h.up fits.1)
went_on rules b d o (fails count t c inside h) l g later = still b (doubting count (landing c inside) (spend t.number b)) g later refl refl (recorded_sound_of rules b t c inside g h)
went_on rules b d o (goes_to tick after up unfed) l g later = landed b (land rules (sweeps tick) [] b) (sweeps tick) [] g later tt (λ m e. absurd e) refl up (swept_fewer rules b tick up)
went_on rules b d o (fails_at count tick after up unfed) l g later = still b (doubting count (landing (sweeps tick) []) b) g later refl refl tt
went_on rules b d o (rewrites up unfed) l g later = still b (rewritten rules b) g later refl refl g.doubt
went_on rules b d o (fails_to_rewrite count up unfed) l g later = still b (doubting count compacting b) g later refl refl tt
went_on rules b d o (keeps scripts count c inside down) l g later =
    landed b (reopened_with rules.journal scripts (land rules c inside b)) c inside g later
    (subst (IsSoundDoubt b.scripts b.shelf b.instances) down g.doubt) (is_doubted b count c inside down) refl refl (kept_fewer rules scripts b c inside)
went_on rules b d o (keeps_rewritten scripts count down) l g later = record {
  sound = record {
    orderly = later.orderly;
    instances = sound_less (Unused b) (Unused (reopened_with rules.journal scripts (rewritten rules b))) b.shelf b.instances later.fewer g.instances;
    doubt = tt;
  };
  later = later;
  named = named_same (Unused b) b.instances;
}
went_on rules b d o (loses scripts) l g later = lost rules.journal b scripts g later

pub went : {lawful : Type 0} (rules : Rules) (b d : Book) (o : Option Change) → Goes lawful rules b o d → lawful → IsSound b → Well b d
went rules b d o h l g = went_on rules b d o h l g (orderly.went rules b d o h l g.orderly)

pub stepped : (m : Moment) (b : Book) → IsSound b → IsLawful m.event b → Well b (then_book m b)
stepped m b g lawful = went m.rules b (then_book m b) (lands m.rules b m.event m.fate) (goes m.rules b m.nonce m.event m.fate) lawful g

then_well : (b c d : Book) → Well b c → Well c d → Well b d
then_well b c d one two = record {
  sound = two.sound;
  later = later_then b c d one.later two.later;
  named = named_then (Unused b) (Unused c) b.instances c.instances d.instances one.later.fewer one.named two.named;
}

same : (b : Book) → IsSound b → Well b b
same b g = still b b g (orderly.same b g.orderly) refl refl g.doubt

ran : (ms : List Moment) (b : Book) → IsSound b → AreLawful ms b → Well b (book_after ms b)
ran [] b g lawful = same b g
ran (m ∷ ms) b g lawful =
    let one = stepped m b g lawful.0 in then_well b (then_book m b) (book_after (m ∷ ms) b) one (ran ms (then_book m b) one.sound lawful.1)

pub led : (b c : Book) → IsSound b → Leads b c → Well b c
led b c g l = subst (Well b) l.there (ran l.moments b g l.lawful)

pub books_stay : SoundBooksStay
books_stay = (empty_sound, λ (b c : Book) (g : IsSound b) (l : Leads b c). (led b c g l).sound)

lawful_more : (ms ns : List Moment) (b : Book) → AreLawful ms b → AreLawful ns (book_after ms b) → AreLawful (ms ++ ns) b
lawful_more [] ns b first second = second
lawful_more (m ∷ ms) ns b first second = (first.0, lawful_more ms ns (then_book m b) first.1 second)

after_more : (ms ns : List Moment) (b : Book) → book_after (ms ++ ns) b ≡ book_after ns (book_after ms b)
after_more [] ns b = refl
after_more (m ∷ ms) ns b = after_more ms ns (then_book m b)

-- one run after another
pub leads_on : (b c d : Book) → Leads b c → Leads c d → Leads b d
leads_on b c d one two = record {
  moments = one.moments ++ two.moments;
  lawful = lawful_more one.moments two.moments b one.lawful (subst (λ (x : Book). AreLawful two.moments x) (sym one.there) two.lawful);
  there = after_more one.moments two.moments b ∙ (ap (λ (x : Book). book_after two.moments x) one.there ∙ two.there);
}

further : (shelf : ℕ) (b c : Book) → IsReached shelf b → Leads b c → IsReached shelf c
further shelf b c h on = record { rules = h.rules; scripts = h.scripts; from = leads_on (empty_book h.rules h.scripts shelf) b c h.from on }

pub reached : ReachedBooksAreSound
reached shelf b h =
    let start = empty_book h.rules h.scripts shelf in
    let well = led start b (empty_sound h.rules h.scripts shelf) h.from in (
      (well.sound, well.later.shelf),
      λ (c : Book) (on : Leads b c). (further shelf b c h on, (orderly.led b c well.sound.orderly on).fewer),
      λ (source : ℕ → ℕ) (xs : List (Event × Fate)) (s : Shelf) (is : s.book ≡ b) (lawful : IsLawfulRun source xs s).
          further shelf s.book (after source xs s).book (subst (IsReached shelf) (sym is) h) (run_leads source xs s lawful),
    )

pub each_replays : EachChainReplays
each_replays b g k n i p here shown =
    let h = g.orderly.instances.lineage k i here n p shown in
    (h.ancestors, (h.are, chain_is i.pages p h.ancestors h.are h.few, g.instances.replays k i here n p shown h))

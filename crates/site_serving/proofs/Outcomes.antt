-- What a serving came to, by what its calls say.
use Rattle.std.proofs.Common.{Bool, IsTrue, ◌≡◌, ◌∙◌, inl, ℕ, List, length, refl, sym, subst}
use Rattle.std.specs.Prelude.{All, Err}
use Rattle.web_outside.specs.Doors.{GiveLists, HaveNone}
use Rattle.web_outside.specs.View.{DoorView}
use Rattle.web_outside.specs.declared.door.DoorFault.{DoorFault}
use Rattle.web_outside.specs.declared.door.DoorFault.TheVariants as listening
use Rattle.request_workers.specs.Tallies.{count_of}
use Rattle.request_workers.specs.declared.tally.Tally.{Tally}
use Rattle.request_workers.specs.declared.tally.WorkEnd.{WorkEnd}
use Rattle.site_serving.specs.Totals.{total}
use Rattle.web_disk.specs.View.{View}
use Rattle.site.specs.declared.site.Site.{Site}
use Rattle.site.specs.Opened.{Opened}
use Rattle.site_serving.specs.declared.serving.ServingFault.TheVariants as fault
use Rattle.site_serving.specs.declared.serving.Watch.{Watch}
use Rattle.site_serving.specs.Kept.{Kept}
use Rattle.site_serving.specs.Serving.{AreEnded, AreUntouched, ComesTo, EndsAs, GivesUp, Leaves, Pasts, Views, fault_of, opened_as, openings_in, openings_of}

-- a site that gave its passes was opened as before
module _ {D N : Type 0} (disk : D → View) (told : Bool) (nonce : N → ℕ → ℕ) (site site' : Site D N) where
  pub ends : {P L : Type 0} (v : Views D P L N) (requests : ℕ) (porches : List P) (left : DoorView P L) (past : Pasts) (workers : ℕ) (disks : List D) (tally : Tally)
      → site'.row.homes ≡ site.row.homes → EndsAs v (openings_in disk told nonce site') requests porches left past workers disks tally
      → EndsAs v (openings_in disk told nonce site) requests porches left past workers disks tally
  ends v requests porches left past workers disks tally same e =
      subst (λ homes. EndsAs v (opened_as disk told nonce (openings_of homes)) requests porches left past workers disks tally) same e

  pub untouched : (disks : List D) → site'.row.homes ≡ site.row.homes → AreUntouched disk (IsTrue told) (openings_in disk told nonce site') disks
      → AreUntouched disk (IsTrue told) (openings_in disk told nonce site) disks
  untouched disks same u = subst (λ homes. AreUntouched disk (IsTrue told) (opened_as disk told nonce (openings_of homes)) disks) same u

-- a door that did not listen
pub unserved_by : {D P L N : Type 0} (v : Views D P L N) (openings : List Opened) (door left : DoorView P L) (past : Pasts) (w : Watch) (disks : List D)
    (why : DoorFault) → GivesUp v openings door left past disks → ComesTo v openings door left past w disks (Err (fault_of why))
unserved_by v openings door left past w disks listening.Failed none = inl none
unserved_by v openings door left past w disks listening.Memory none = none

pub failed_by : (P : Type 0) (why : DoorFault) → (why ≡ listening.Failed → P) → fault_of why ≡ fault.Door → P
failed_by P listening.Failed h is = h refl
failed_by P listening.Memory h is = absurd (let no : ⊥ = cc is in no)

-- what was kept of a serving by so many workers
pub kept_by : {D P L N : Type 0} (v : Views D P L N) (openings : List Opened) (porches : List P) (door left : DoorView P L) (past : Pasts)
    (w : Watch) (workers : ℕ) (disks : List D) (tally : Tally) (end : WorkEnd) → EndsAs v openings w.requests porches left past workers disks tally
    → workers ≡ w.workers → length porches ≡ workers → GiveLists v.porch porches (door.links w.port) → HaveNone v.porch porches
    → All (λ p. (v.porch p).given ≡ 0) porches → All (λ p. (v.porch p).most ≡ w.connections) porches → tally.end ≡ end
    → (kept : Kept) × Leaves v openings door left past w disks end kept × (count_of tally ≡ total kept.tallies)
kept_by v openings porches door left past w workers disks tally end e count many came fresh none most ended = (
  e.kept,
  record {
    told = e.told;
    served = record {
      links = record { porches = porches; many = many ∙ count; came = came; fresh = fresh; none = none; most = most; works = e.leaves.works };
      shelves = subst (λ n. AreEnded v.disk (IsTrue v.told) n openings disks e.kept.histories) count e.leaves.shelves;
      pages = e.leaves.pages;
    };
    ended = sym e.end ∙ ended;
  },
  e.count,
)

-- What a visit and a tick of a site do to a pass.
use Rattle.std.specs.Prelude.{◌≡◌, ℕ, Bool, Ok, Err}
use Rattle.web_disk.specs.View.{View}
use Rattle.http_forms.specs.Passes.{PassRules, Swept}
use Rattle.site.specs.declared.site.Site.{Site}
use Rattle.site.specs.Passes.{Spots}
use Rattle.site.specs.Sites.{IsOwn, VisitsAt, Ticks}

module _ {D N : Type 0} (view : D → View) (tells : Bool) (coming : N → ℕ → ℕ) where
  -- what a tick does to a pass: want of memory for the answers changes nothing
  abbrev pub TicksAs : Spots D N → (tick : ℕ) → Swept → Spots D N → Type 0
  TicksAs old tick (Ok answers) new = Ticks view tells coming old tick answers new
  TicksAs old tick (Err e) new = new ≡ old

  -- what a service does to the passes of a site, as the definitions have it
  abbrev pub site_rules : Site D N → PassRules (Spots D N)
  site_rules site = record { IsOwn = IsOwn site; Visits = VisitsAt view tells coming; Ticks = TicksAs }

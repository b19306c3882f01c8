-- A page's record with other bytes of its state.
use Rattle.std.proofs.Common.{ℕ, ◌<◌, ◌^◌, List, length, Some}
use Rattle.replay_spec.specs.Book.{Change, opens, extends, ends, finishes, sweeps}
use Rattle.journal_records.specs.Records.{Page, PageFits, opening_page, extension_page, ChangeFits}

-- a page that can be written can be with any bytes of its state that can be counted
page_with : (p : Page) (state : List ℕ) → PageFits p → length state < 2 ^ 32 → PageFits (record p { state = state })
page_with p state fits few = record {
  ticket = fits.ticket;
  nonce = fits.nonce;
  origin = fits.origin;
  effects = fits.effects;
  left = fits.left;
  time = fits.time;
  evicted = fits.evicted;
  state = few;
}

-- so can a change that shows a page
pub change_with : (c : Change) (old state : List ℕ) → ChangeFits c (Some old) → length state < 2 ^ 32 → ChangeFits c (Some state)
change_with (opens o) old state fits few = page_with (opening_page o old) state fits few
change_with (extends x) old state fits few = page_with (extension_page x old) state fits few
change_with (ends e) old state fits few = absurd fits
change_with (finishes f) old state fits few = absurd fits
change_with (sweeps tick) old state fits few = absurd fits

-- States of pages stay where they are, and links count on.
use Rattle.std.proofs.Common.{◌≡◌, ◌∙◌, ap, sym, subst, ℕ, ◌<◌, ◌≤◌, List, [], ◌∷◌, length, Some, None, refl, arith}
use Rattle.std.proofs.lemmas.List.{length-reverse}
use Rattle.script_nodes.specs.Setup.{Named}
use Rattle.script_nodes.specs.PageNames.Names.{page}
use Rattle.journal_records.specs.ReplaySpec.Book.{Page, at_number, page_at, chain}
use Rattle.journal_records.specs.ReplaySpec.Change.{put_page, put_in_order}
use Rattle.journal_records.specs.ReplaySpec.Next.{Home}
use Rattle.journal_records.specs.ReplaySpec.Invariant.{Lineage}
use Rattle.journal_records.proofs.ReplaySpec.Ancestors.{Grown, put_grown, lineage_grown, chain_is}
use Rattle.journal_records.proofs.ReplaySpec.Numbered.{put_length}
use Rattle.kept_states.specs.MachineStates.Machine.{Suspended}
use Rattle.kept_states.specs.Kept.{Kept}
use Rattle.kept_states.specs.Links.{next_links, links_at}
use Rattle.instance_book.specs.declared.numbered.Numbered.{Numbered}
use Rattle.instance_book.specs.declared.page.KeptPage.{KeptPage}
use Rattle.instance_book.specs.declared.instance.KeptInstance.{KeptInstance}
use Rattle.instance_book.specs.declared.change.Opening.{Opening}
use Rattle.instance_book.specs.Views.{page_of, pages_of, script_in}
use Rattle.instance_book.specs.Places.{Source, source_in, kept_at, shown_of, shown_in, IsKeptBehind, HasState, HaveStates, IsKeptAs, IsKept, IsPlaced, OneMoreHasItsState}
use Rattle.instance_book.specs.Changes.{OpensKept}
use Rattle.instance_book.proofs.Seen.{all_put, all_at}

-- what a page has among others it has among more
states_grown : (s : Named) (h : Source Home) (ps qs : List Page) → Grown ps qs → length ps ≤ length qs → (xs : List (Page × Kept)) → HaveStates s h ps xs → HaveStates s h qs xs
states_grown s h ps qs grown longer [] all = tt
states_grown s h ps qs grown longer (x ∷ xs) all =
    (record { lineage = lineage_grown ps qs grown longer x.0 all.0.lineage; state = all.0.state; its = all.0.its; bytes = all.0.bytes; kept = all.0.kept }, states_grown s h ps qs grown longer xs all.1)

pub one_more_state : OneMoreHasItsState
one_more_state s h ps xs p d unused first all =
    let more : length ps ≤ length (put_page p ps) = omega (arith, put_length (λ (q : Page). q.number) p ps unused) in
    all_put (λ (x : Page × Kept). HasState s h (put_page p ps) x.0 x.1) (λ (x : Page × Kept). x.0.number) (p, d) xs first
    (states_grown s h ps (put_page p ps) (put_grown p ps unused) more xs all)

-- an instance is kept as what is seen of it
pub kept_alike : (scripts : List Named) (shelf : Source ℕ) (x y : Numbered KeptInstance) → x.number ≡ y.number → x.item.script ≡ y.item.script
    → pages_of x.item.pages ≡ pages_of y.item.pages → shown_in x.item.pages ≡ shown_in y.item.pages → IsKept scripts shelf y → IsKept scripts shelf x
kept_alike scripts shelf x y number place pages shown kept = rw (number, place, pages, shown) kept

-- what is seen of it: its number, its script's place, and its pages with their states
abbrev pub kept_of : Numbered KeptInstance → (ℕ × ℕ) × (List Page × List (Page × Kept))
kept_of x = ((x.number, x.item.script), (pages_of x.item.pages, shown_in x.item.pages))

pub same_kept : (x y : Numbered KeptInstance) → x.number ≡ y.number → x.item.script ≡ y.item.script → pages_of x.item.pages ≡ pages_of y.item.pages → shown_in x.item.pages ≡ shown_in y.item.pages
    → kept_of x ≡ kept_of y
same_kept x y number place pages shown = rw (number, place, pages, shown) refl

pub kept_as : (scripts : List Named) (shelf : Source ℕ) (x y : Numbered KeptInstance) → kept_of x ≡ kept_of y → IsKept scripts shelf y → IsKept scripts shelf x
kept_as scripts shelf x y e kept =
    subst (λ (k : (ℕ × ℕ) × (List Page × List (Page × Kept))). IsKeptAs scripts shelf k.0.0 k.0.1 k.1.0 k.1.1) (sym e) kept

-- and it is of a script of the setup as what is seen of it
pub placed_alike : (scripts : List Named) (x y : Numbered KeptInstance) → x.item.script ≡ y.item.script → IsPlaced scripts y → IsPlaced scripts x
placed_alike scripts x y place placed = subst (λ (k : ℕ). k < length scripts) (sym place) placed

pub placed_as : (scripts : List Named) (x y : Numbered KeptInstance) → kept_of x ≡ kept_of y → IsPlaced scripts y → IsPlaced scripts x
placed_as scripts x y e placed = placed_alike scripts x y (ap (λ (k : (ℕ × ℕ) × (List Page × List (Page × Kept))). k.0.1) e) placed

-- with its next page it is kept too
pub kept_next : (scripts : List Named) (shelf : Source ℕ) (x y : Numbered KeptInstance) (p : Numbered KeptPage) → y.number ≡ x.number → y.item.script ≡ x.item.script
    → pages_of y.item.pages ≡ put_page (page_of p) (pages_of x.item.pages) → shown_in y.item.pages ≡ put_in_order (λ z. z.0.number) (shown_of p) (shown_in x.item.pages)
    → page_at p.number (pages_of x.item.pages) ≡ None
    → (let s = script_in scripts x.item.script in HasState s (source_in s shelf x.number) (put_page (page_of p) (pages_of x.item.pages)) (page_of p) (kept_at p))
    → IsKept scripts shelf x → IsKept scripts shelf y
kept_next scripts shelf x y p number place pages shown unused next kept =
    let s = script_in scripts x.item.script in
    rw (number, place, pages, shown) (record {
      placed = kept.placed;
      states = one_more_state s (source_in s shelf x.number) (pages_of x.item.pages) (shown_in x.item.pages) (page_of p) (kept_at p) unused next kept.states;
    })

-- an instance that begins with its page
pub kept_first : (scripts : List Named) (shelf : Source ℕ) (o : Opening) (y : Numbered KeptInstance) → OpensKept scripts shelf o → y.number ≡ o.page.number → y.item.script ≡ o.instance.script
    → pages_of y.item.pages ≡ put_page (page_of o.page) (pages_of o.instance.pages) → shown_in y.item.pages ≡ put_in_order (λ z. z.0.number) (shown_of o.page) (shown_in o.instance.pages)
    → IsKept scripts shelf y
kept_first scripts shelf o y kept number place pages shown =
    rw (number, place, pages, shown, kept.pages, kept.shown) (record { placed = kept.place; states = (kept.state, tt) })

-- the links of a page, and of one that answers it
links_behind : (s : Named) (h : Source Home) (older : List Page) (d : Suspended) (k : Kept) → IsKeptBehind s h older d k → k.links ≡ links_at (length older)
links_behind s h [] d k kept = kept.links_are
links_behind s h (q ∷ older) d k kept = kept.1.1.links_are

pub links_of : (s : Named) (h : Source Home) (ps : List Page) (p : Page) (k : Kept) (has : HasState s h ps p k) → k.links ≡ links_at (length has.lineage.ancestors)
links_of s h ps p k has = links_behind s h has.lineage.ancestors has.state k has.kept

pub chain_length : (ps : List Page) (p : Page) (h : Lineage ps p) → length (chain ps p) ≡ length (p ∷ h.ancestors)
chain_length ps p h = ap length (chain_is ps p h.ancestors h.are h.few) ∙ length-reverse (p ∷ h.ancestors)

pub links_next : (s : Named) (h : Source Home) (ps : List Page) (p : Page) (k : Kept) → HasState s h ps p k → next_links k.links ≡ links_at (length (chain ps p))
links_next s h ps p k has = ap next_links (links_of s h ps p k has) ∙ ap links_at (sym (chain_length ps p has.lineage))

-- the state of a page that is found among those of an instance
pub state_found : (s : Named) (h : Source Home) (ps : List Page) (n : ℕ) (xs : List (Page × Kept)) (x : Page × Kept) → HaveStates s h ps xs
    → at_number (λ (y : Page × Kept). y.0.number) n xs ≡ Some x → HasState s h ps x.0 x.1
state_found s h ps n xs x all found = all_at (λ (y : Page × Kept). HasState s h ps y.0 y.1) (λ (y : Page × Kept). y.0.number) n xs x all found

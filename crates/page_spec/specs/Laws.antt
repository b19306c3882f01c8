-- What no text can do to the page that it stands in.
use Rattle.std.specs.Prelude.{◌≡◌, ◌≢◌, ℕ, ◌||◌, Bool, true, List, [], ◌∷◌, ◌++◌, codes}
use Rattle.std.specs.Str.{bytes_eq}
use Rattle.script_value.specs.Texts.{lacks}
use Rattle.page_spec.specs.Markup.{escaped_text, escaped_attribute}

-- whether bytes are one of the four entities that a page writes for `&`, `<`, `>` and the quotation mark
abbrev pub is_entity : List ℕ → Bool
is_entity e = bytes_eq e (codes "&amp;") || bytes_eq e (codes "&lt;") || bytes_eq e (codes "&gt;") || bytes_eq e (codes "&quot;")

-- each `&` begins an entity
pub data Entities : List ℕ → Type 0 where
  nothing : Entities []
  entity : (e bytes : List ℕ) → is_entity e ≡ true → Entities bytes → Entities (e ++ bytes)
  other : (b : ℕ) (bytes : List ℕ) → b ≢ 38 → Entities bytes → Entities (b ∷ bytes)

-- bytes that stay characters: no `<`, no `>`, and no `&` but in an entity
pub record Inside (bytes : List ℕ) : Type 0 where
  pub no_less : lacks 60 bytes ≡ true
  pub no_greater : lacks 62 bytes ≡ true
  pub entities : Entities bytes

-- whatever a text is, it opens and closes no tag
abbrev pub TextsStayInside : Type 0
TextsStayInside = (t : List ℕ) → Inside (escaped_text t)

-- whatever an attribute's text is, it opens and closes no tag, and does not close its quotes
abbrev pub AttributesStayInside : Type 0
AttributesStayInside = (t : List ℕ) → Inside (escaped_attribute t) × (lacks 34 (escaped_attribute t) ≡ true)

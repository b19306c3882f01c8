-- Which bytes are well formed: each element that is opened is closed by its own end tag, inside the element around it.
use Rattle.std.specs.Prelude.{◌≡◌, ℕ, true, List, [], ◌++◌, codes}
use Rattle.script_value.specs.Texts.{lacks}
use Rattle.page_spec.specs.Markup.{is_void, is_element, is_attribute, is_entity_name, named_entity, start_tag, end_tag}
use Rattle.page_spec.specs.Laws.{Inside}

-- the bytes are attributes, each ` NAME="CHARACTERS"`, in which no character ends the quotes or the tag
pub data AreAttributes : List ℕ → Type 0 where
  no_more : AreAttributes []
  one_more : (n t others : List ℕ) → is_attribute n ≡ true → Inside t → lacks 34 t ≡ true → AreAttributes others
      → AreAttributes ((codes " " ++ n ++ codes "=\"" ++ t ++ codes "\"") ++ others)

-- IsMarkup bytes: the bytes are well formed
pub data IsMarkup : List ℕ → Type 0 where
  -- nothing
  empty : IsMarkup []
  -- characters, which open and close no tag, and then markup
  characters : (t others : List ℕ) → Inside t → IsMarkup others → IsMarkup (t ++ others)
  -- an entity, and then markup
  an_entity : (n others : List ℕ) → is_entity_name n ≡ true → IsMarkup others → IsMarkup (named_entity n ++ others)
  -- the tag of a void element, and then markup
  a_void_tag : (n attributes others : List ℕ) → is_void n ≡ true → AreAttributes attributes → IsMarkup others
      → IsMarkup (start_tag n attributes ++ others)
  -- a start tag, markup, the end tag of the same name, and then markup
  an_element : (n attributes inner others : List ℕ) → is_element n ≡ true → AreAttributes attributes → IsMarkup inner → IsMarkup others
      → IsMarkup ((start_tag n attributes ++ inner ++ end_tag n) ++ others)

-- Which bytes are the page of a value: the grammar of pages by cases.
use Rattle.std.specs.Prelude.{◌≡◌, ℕ, true, List, [], ◌++◌}
use Rattle.script_value.specs.Val.{Val, Vals, text, symbol, list, no_vals, val}
use Rattle.page_spec.specs.Markup.{is_void, is_element, is_attribute, is_entity_name, named_entity, escaped_text, one_attribute, start_tag, end_tag}

-- Attributes vs bytes: each of these values is a list of a name and a text, and the bytes are they as attributes, in order
pub data Attributes : Vals → List ℕ → Type 0 where
  no_attributes : Attributes no_vals []
  attribute : (n t : List ℕ) (vs : Vals) (others : List ℕ) → is_attribute n ≡ true → Attributes vs others
      → Attributes (val (list (val (symbol n) (val (text t) no_vals))) vs) (one_attribute n t ++ others)

mutual
  -- Renders v bytes: the bytes are the page of v
  pub data Renders : Val → List ℕ → Type 0 where
    -- a text gives its characters, escaped
    a_text : (t : List ℕ) → Renders (text t) (escaped_text t)
    -- a symbol gives the entity of its name
    an_entity : (n : List ℕ) → is_entity_name n ≡ true → Renders (symbol n) (named_entity n)
    -- (NAME) gives the start tag alone where the element is void
    a_void : (n : List ℕ) → is_void n ≡ true → Renders (list (val (symbol n) no_vals)) (start_tag n [])
    -- (NAME (attribute ..)) gives the start tag with the attributes where the element is void; a void element has no children
    a_void_with : (n : List ℕ) (ws : Vals) (attributes : List ℕ) → is_void n ≡ true → Attributes ws attributes
        → Renders (list (val (symbol n) (val (list ws) no_vals))) (start_tag n attributes)
    -- (NAME child ..) gives the start tag, the children and the end tag
    an_element : (n : List ℕ) (vs : Vals) (children : List ℕ) → is_element n ≡ true → Children vs children
        → Renders (list (val (symbol n) vs)) (start_tag n [] ++ children ++ end_tag n)
    -- (NAME (attribute ..) child ..) gives the start tag with the attributes, the children and the end tag;
    -- a list of attributes is no child
    with_attributes : (n : List ℕ) (ws vs : Vals) (attributes children : List ℕ) → is_element n ≡ true → Attributes ws attributes
        → Children vs children → Renders (list (val (symbol n) (val (list ws) vs))) (start_tag n attributes ++ children ++ end_tag n)

  -- Children vs bytes: the bytes are the pages of vs, one after the other
  pub data Children : Vals → List ℕ → Type 0 where
    no_children : Children no_vals []
    a_child : (v : Val) (vs : Vals) (first others : List ℕ) → Renders v first → Children vs others → Children (val v vs) (first ++ others)

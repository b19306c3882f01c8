-- A value as the bytes of a page, or none.
use Rattle.std.specs.Prelude.{◌≡◌, ℕ, Bool, List, [], ◌++◌, Option, Some, None, option_map, if◌then◌else◌}
use Rattle.script_value.specs.Val.{Val, Vals, text, symbol, list, no_vals, val}
use Rattle.script_value.specs.Views.{meaning, meanings}
use Rattle.script_value.specs.declared.value.Value.{Value}
use Rattle.page_spec.specs.Markup.{is_void, is_element, is_attribute, is_entity_name, named_entity, escaped_text, one_attribute, start_tag, end_tag}

-- one piece and then another, where both are there
abbrev pub join : Option (List ℕ) → Option (List ℕ) → Option (List ℕ)
join None q = None
join (Some a) q = option_map (λ b. a ++ b) q

-- an attribute's name is a symbol, and its text is a text
abbrev pub pair_text : Val → Val → Option (List ℕ)
pair_text (symbol k) (text t) =
    if is_attribute k then Some (one_attribute k t) else None
pair_text _ _ = None

-- an attribute is a list of a symbol and a text
abbrev pub pair_in : Vals → Option (List ℕ)
pair_in (val v (val w no_vals)) = pair_text v w
pair_in _ = None

-- the bytes of one attribute in a tag, where a value is a list of its name and its text
abbrev pub attribute_of : Val → Option (List ℕ)
attribute_of (list vs) = pair_in vs
attribute_of _ = None

-- the bytes of the attributes of a tag, where each of these values is one
abbrev pub attributes_of : Vals → Option (List ℕ)
attributes_of no_vals = Some []
attributes_of (val v vs) = join (attribute_of v) (attributes_of vs)

-- an element of this name, with these attributes and children
abbrev pub element : List ℕ → Option (List ℕ) → Option (List ℕ) → Option (List ℕ)
element n attributes children =
    if is_element n then join (option_map (start_tag n) attributes) (join children (Some (end_tag n))) else None

-- a value after an element's name is attributes where it is the empty list, or a list whose first item is a list
abbrev pub attributes_in : Val → Option Vals
attributes_in (list no_vals) = Some no_vals
attributes_in (list (val (list ws) vs)) = Some (val (list ws) vs)
attributes_in _ = None

-- the element whose first item after the name is these attributes, or is a child of this page
abbrev pub element_with : List ℕ → Option Vals → Option (List ℕ) → Option (List ℕ) → Option (List ℕ)
element_with n None first others = element n (Some []) (join first others)
element_with n (Some attributes) first others = element n (attributes_of attributes) others

-- the start tag of an element of this name, with these attributes
abbrev pub start_of : List ℕ → Vals → Option (List ℕ)
start_of n attributes = option_map (start_tag n) (attributes_of attributes)

-- a void element with these attributes
abbrev pub void_with : List ℕ → Option Vals → Option (List ℕ)
void_with n None = None
void_with n (Some attributes) = start_of n attributes

-- a void element: after its name stand attributes, if there are any, and no children
abbrev pub void_of : List ℕ → Vals → Option (List ℕ)
void_of n no_vals = Some (start_tag n [])
void_of n (val v no_vals) = void_with n (attributes_in v)
void_of n _ = None

-- the entity of this name
abbrev pub entity_of : List ℕ → Option (List ℕ)
entity_of n = if is_entity_name n then Some (named_entity n) else None

abbrev mutual
  -- a text, the name of an entity, or a list of a symbol, attributes if there are any, and children
  pub page_of : Val → Option (List ℕ)
  page_of (text t) = Some (escaped_text t)
  page_of (symbol n) = entity_of n
  page_of (list (val (symbol n) vs)) = if is_void n then void_of n vs else element_of n vs
  page_of _ = None

  -- the bytes of an element of this name with what follows the name: attributes, if they come first, and content
  pub element_of : List ℕ → Vals → Option (List ℕ)
  element_of n no_vals = element n (Some []) (Some [])
  element_of n (val v vs) = element_with n (attributes_in v) (page_of v) (children_of vs)

  -- the bytes of the content of an element, one part after the other
  pub children_of : Vals → Option (List ℕ)
  children_of no_vals = Some []
  children_of (val v vs) = join (page_of v) (children_of vs)

-- the bytes that were there before a page, and then the page's
abbrev pub appended : List ℕ → Option (List ℕ) → Option (List ℕ)
appended old page = option_map (λ b. old ++ b) page

-- the list of a first value and others
abbrev pub listed : Value → List Value → Val
listed v vs = list (val (meaning v) (meanings vs))

-- whether these items, in a list after an element's name, are attributes
abbrev pub AreAttributes : Vals → Bool → Type 0
AreAttributes items b = attributes_in (list items) ≡ (if b then Some items else None)

-- what stands after an element's name is these attributes and then these children, whatever the name
abbrev pub AreSplit : Vals → Vals → Vals → Type 0
AreSplit parts attributes children = (n : List ℕ) → element_of n parts ≡ element n (attributes_of attributes) (children_of children)

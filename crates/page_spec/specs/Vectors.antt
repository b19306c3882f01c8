-- Small pages, computed.
use Rattle.std.specs.Prelude.{◌≡◌, pos, true, false, List, [], ◌∷◌, Some, None, codes, map, refl}
use Rattle.script_value.specs.Val.{Val, number, text, symbol, list, vals_of}
use Rattle.page_spec.specs.Page.{page_of}
use Rattle.page_spec.specs.Tags.{closes_its_elements}

-- a list of these values
abbrev words : List Val → Val
words vs = list (vals_of vs)

-- a text is escaped between its tags
pub escaped_text : page_of (words (symbol (codes "p") ∷ text (codes "x<y&z") ∷ [])) ≡ Some (codes "<p>x&lt;y&amp;z</p>")
escaped_text = refl

-- an attribute's text is escaped between its quotation marks
pub a_link : page_of (words (symbol (codes "a") ∷ words (words (symbol (codes "href") ∷ text (codes "u\"v") ∷ []) ∷ []) ∷ text (codes "1") ∷ []))
    ≡ Some (codes "<a href=\"u&quot;v\">1</a>")
a_link = refl

-- `(p ((class "a\"b")) "x<y&z")`
pub escaped_class : page_of (words (symbol (codes "p") ∷ words (words (symbol (codes "class") ∷ text (codes "a\"b") ∷ []) ∷ []) ∷ text (codes "x<y&z") ∷ []))
    ≡ Some (codes "<p class=\"a&quot;b\">x&lt;y&amp;z</p>")
escaped_class = refl

-- attributes stand in their order, also with an empty text
pub two_attributes :
    page_of (words (symbol (codes "p") ∷ words (words (symbol (codes "id") ∷ text (codes "x") ∷ []) ∷ words (symbol (codes "data-n") ∷ text [] ∷ []) ∷ []) ∷ []))
    ≡ Some (codes "<p id=\"x\" data-n=\"\"></p>")
two_attributes = refl

-- a text is a page too
pub lone_text : page_of (text (codes "a>b")) ≡ Some (codes "a&gt;b")
lone_text = refl

-- elements stand one inside another, and an empty list of attributes shows nothing
pub nested : page_of (words (symbol (codes "div") ∷ words [] ∷ words (symbol (codes "p") ∷ text (codes "a") ∷ []) ∷ text (codes "b") ∷ []))
    ≡ Some (codes "<div><p>a</p>b</div>")
nested = refl

-- a number is no child of an element
pub number_child : page_of (words (symbol (codes "p") ∷ number (pos 5) ∷ [])) ≡ None
number_child = refl

-- `(p ((class "a\"b")) "x<y&z" nbsp (br))`
pub class_entity_and_break : page_of (words (symbol (codes "p") ∷ words (words (symbol (codes "class") ∷ text (codes "a\"b") ∷ []) ∷ []) ∷ text (codes "x<y&z") ∷ symbol (codes "nbsp") ∷ words (symbol (codes "br") ∷ []) ∷ []))
    ≡ Some (codes "<p class=\"a&quot;b\">x&lt;y&amp;z&nbsp;<br></p>")
class_entity_and_break = refl

-- each element without an end stands as its start tag alone
pub each_void_element :
    page_of (words (symbol (codes "p") ∷ map (λ n. words (symbol n ∷ [])) (
    codes "area" ∷ codes "base" ∷ codes "br" ∷ codes "col" ∷ codes "embed" ∷ codes "hr" ∷ codes "img" ∷ codes "input" ∷ codes "link" ∷ codes "meta"
    ∷ codes "source" ∷ codes "track" ∷ codes "wbr" ∷ [])))
    ≡ Some (codes "<p><area><base><br><col><embed><hr><img><input><link><meta><source><track><wbr></p>")
each_void_element = refl

-- `(img ((src "a&b") (src "")))`
pub void_element_with_attributes :
    page_of (words (symbol (codes "img") ∷ words (words (symbol (codes "src") ∷ text (codes "a&b") ∷ []) ∷ words (symbol (codes "src") ∷ text [] ∷ []) ∷ []) ∷ []))
    ≡ Some (codes "<img src=\"a&amp;b\" src=\"\">")
void_element_with_attributes = refl

-- a void element may have an empty list of attributes
pub void_element_without_attributes : page_of (words (symbol (codes "br") ∷ words [] ∷ [])) ≡ Some (codes "<br>")
void_element_without_attributes = refl

-- a child of a void element, also one that shows nothing, and a second empty list
pub void_element_with_child : page_of (words (symbol (codes "br") ∷ text (codes "x") ∷ [])) ≡ None
void_element_with_child = refl

-- a void element has no child, not even an empty text
pub void_element_with_empty_child : page_of (words (symbol (codes "br") ∷ text [] ∷ [])) ≡ None
void_element_with_empty_child = refl

-- a void element has no child after its attributes
pub void_element_with_child_behind_attributes : page_of (words (symbol (codes "br") ∷ words [] ∷ text [] ∷ [])) ≡ None
void_element_with_child_behind_attributes = refl

-- a void element has one list of attributes at most
pub void_element_with_two_empty_lists : page_of (words (symbol (codes "br") ∷ words [] ∷ words [] ∷ [])) ≡ None
void_element_with_two_empty_lists = refl

-- a `script` element is none of a page's
pub script_element : page_of (words (symbol (codes "script") ∷ text (codes "x") ∷ [])) ≡ None
script_element = refl

-- the empty list is no page
pub empty_list : page_of (words []) ≡ None
empty_list = refl

-- the empty list after the attributes is no child
pub empty_child : page_of (words (symbol (codes "p") ∷ words [] ∷ words [] ∷ [])) ≡ None
empty_child = refl

-- a symbol is a page too, where it names an entity
pub lone_symbol : page_of (symbol (codes "frac12")) ≡ Some (codes "&frac12;")
lone_symbol = refl

-- the name of an entity may have capitals
pub capital_entity : page_of (symbol (codes "Eacute")) ≡ Some (codes "&Eacute;")
capital_entity = refl

-- the name of an entity has no hyphen
pub entity_with_dash : page_of (symbol (codes "a-b")) ≡ None
entity_with_dash = refl

-- the name of an entity does not begin with a digit
pub entity_of_a_digit : page_of (symbol (codes "1a")) ≡ None
entity_of_a_digit = refl

-- a symbol without a byte names no entity
pub entity_without_name : page_of (symbol []) ≡ None
entity_without_name = refl

-- a name with a capital, and an attribute that is no pair
pub capital_name : page_of (words (symbol (codes "P") ∷ [])) ≡ None
capital_name = refl

-- an attribute without its text makes no page
pub half_attribute : page_of (words (symbol (codes "p") ∷ words (words (symbol (codes "id") ∷ []) ∷ []) ∷ [])) ≡ None
half_attribute = refl

-- an attribute whose value is a number makes no page
pub number_attribute : page_of (words (symbol (codes "p") ∷ words (words (symbol (codes "id") ∷ number (pos 5) ∷ []) ∷ []) ∷ [])) ≡ None
number_attribute = refl

-- bytes that close their elements: with attributes and a void element, one inside another, one after another, none
pub closed_around_a_break : closes_its_elements (codes "<p class=\"a b\">x&nbsp;<br></p>") ≡ true
closed_around_a_break = refl

-- bytes with attributes and elements after one another close their elements
pub closed_in_order : closes_its_elements (codes "<ul><li>a<b id=\"x\">b</b></li><li></li></ul><p></p>") ≡ true
closed_in_order = refl

-- no bytes close their elements
pub closed_without_elements : closes_its_elements [] ≡ true
closed_without_elements = refl

-- bytes that do not close their elements: the outer element first, one left open, none open, another's name, a void element,
-- a tag without its end
pub closed_out_of_order : closes_its_elements (codes "<p><b>x</p></b>") ≡ false
closed_out_of_order = refl

-- bytes whose outer element has no end tag do not close their elements
pub left_open : closes_its_elements (codes "<p><b>x</b>") ≡ false
left_open = refl

-- bytes with an end tag too many do not close their elements
pub closed_but_not_open : closes_its_elements (codes "<p></p></p>") ≡ false
closed_but_not_open = refl

-- bytes with an end tag of another name do not close their elements
pub closed_by_another_name : closes_its_elements (codes "<p></pre>") ≡ false
closed_by_another_name = refl

-- bytes with an end tag of a void element do not close their elements
pub void_element_closed : closes_its_elements (codes "<br></br>") ≡ false
void_element_closed = refl

-- bytes that are cut in a tag do not close their elements
pub cut_in_a_tag : closes_its_elements (codes "<p></p") ≡ false
cut_in_a_tag = refl

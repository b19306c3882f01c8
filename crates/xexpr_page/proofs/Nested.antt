-- What the grammar gives is well formed.
use Rattle.std.proofs.Common.{◌≡◌, ℕ, true, List, [], ◌++◌, sym, subst, append_assoc, append-nil, Some}
use Rattle.script_value.specs.Val.{Val, Vals}
use Rattle.page_spec.specs.Markup.{is_void, is_element, named_entity, escaped_text, escaped_attribute, start_tag, end_tag}
use Rattle.page_spec.specs.Page.{page_of}
use Rattle.page_spec.specs.Renders.{Attributes, no_attributes, attribute, Renders, Children, no_children, a_child}
use Rattle.page_spec.specs.Renders as shape
use Rattle.page_spec.specs.Nesting.{AreAttributes, no_more, one_more, IsMarkup, empty, characters, an_entity, a_void_tag, an_element}
use Rattle.xexpr_page.proofs.Inside.{texts_inside, attributes_inside}
use Rattle.xexpr_page.proofs.Grammar.{page_renders}

attributes_shaped : {vs : Vals} {bytes : List ℕ} → Attributes vs bytes → AreAttributes bytes
attributes_shaped no_attributes = no_more
attributes_shaped (attribute n t vs others named more) =
    let q = attributes_inside t in one_more n (escaped_attribute t) others named q.0 q.1 (attributes_shaped more)

markup_as : (a b : List ℕ) → a ≡ b → IsMarkup a → IsMarkup b
markup_as a b e h = subst (λ c. IsMarkup c) e h

-- markup after markup
behind : {a : List ℕ} (b : List ℕ) → IsMarkup a → IsMarkup b → IsMarkup (a ++ b)
behind b empty k = k
behind b (characters t others i more) k = markup_as _ _ (sym (append_assoc t others b)) (characters t (others ++ b) i (behind b more k))
behind b (an_entity n others named more) k = markup_as _ _ (sym (append_assoc (named_entity n) others b)) (an_entity n (others ++ b) named (behind b more k))
behind b (a_void_tag n attributes others named a more) k =
    markup_as _ _ (sym (append_assoc (start_tag n attributes) others b)) (a_void_tag n attributes (others ++ b) named a (behind b more k))
behind b (an_element n attributes inner others named a i more) k =
    markup_as _ _ (sym (append_assoc (start_tag n attributes ++ inner ++ end_tag n) others b))
    (an_element n attributes inner (others ++ b) named a i (behind b more k))

-- a piece with nothing after it
alone : (a : List ℕ) → IsMarkup (a ++ []) → IsMarkup a
alone a h = markup_as _ _ (append-nil a) h

void_tag : (n attributes : List ℕ) → is_void n ≡ true → AreAttributes attributes → IsMarkup (start_tag n attributes)
void_tag n attributes named a = alone (start_tag n attributes) (a_void_tag n attributes [] named a empty)

element_of_parts : (n attributes inner : List ℕ) → is_element n ≡ true → AreAttributes attributes → IsMarkup inner
    → IsMarkup (start_tag n attributes ++ inner ++ end_tag n)
element_of_parts n attributes inner named a i = alone (start_tag n attributes ++ inner ++ end_tag n) (an_element n attributes inner [] named a i empty)

mutual
  pub renders_markup : {v : Val} {bytes : List ℕ} → Renders v bytes → IsMarkup bytes
  renders_markup (shape.a_text t) = alone (escaped_text t) (characters (escaped_text t) [] (texts_inside t) empty)
  renders_markup (shape.an_entity n named) = alone (named_entity n) (an_entity n [] named empty)
  renders_markup (shape.a_void n named) = void_tag n [] named no_more
  renders_markup (shape.a_void_with n ws attributes named a) = void_tag n attributes named (attributes_shaped a)
  renders_markup (shape.an_element n vs children named c) = element_of_parts n [] children named no_more (children_markup c)
  renders_markup (shape.with_attributes n ws vs attributes children named a c) =
      element_of_parts n attributes children named (attributes_shaped a) (children_markup c)

  children_markup : {vs : Vals} {bytes : List ℕ} → Children vs bytes → IsMarkup bytes
  children_markup no_children = empty
  children_markup (a_child v vs first others h more) = behind others (renders_markup h) (children_markup more)

-- a page is well formed
pub page_markup : (v : Val) (bytes : List ℕ) → page_of v ≡ Some bytes → IsMarkup bytes
page_markup v bytes h = renders_markup (page_renders v bytes h)

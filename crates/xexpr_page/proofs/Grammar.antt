-- The function of a page and its grammar.
use Rattle.std.proofs.Common.{◌≡◌, ℕ, Bool, true, false, ◌&&◌, not, cond, List, [], ◌∷◌, ◌++◌, Option, Some, None, option_map, refl, sym, ap, ◌∙◌, subst, append_assoc, arith}
use Rattle.std.specs.Prelude.{Result, Ok, Err}
use Rattle.std.specs.List.{list_all}
use Rattle.std.proofs.lemmas.Bool.{cond-true, cond-false}
use Rattle.std.proofs.lemmas.Option.{same_Some}
use Rattle.script_value.specs.Val.{Val, Vals, text, symbol, list, no_vals, val}
use Rattle.script_value.proofs.Options.{allowed, mapped}
use Rattle.xexpr_page.specs.declared.fault.RenderFault.{RenderFault}
use Rattle.xexpr_page.specs.declared.fault.RenderFault.TheVariants.{Memory, NotPage}
use Rattle.page_spec.specs.Markup.{is_lower, is_element_byte, is_void, is_raw_text, is_element, is_attribute, is_entity_name, named_entity, escaped_text, one_attribute, start_tag, end_tag}
use Rattle.page_spec.specs.Page.{join, pair_text, attribute_of, attributes_of, element, attributes_in, element_with, void_with, void_of, entity_of, page_of, element_of, children_of}
use Rattle.xexpr_page.specs.Answers.{Gives}
use Rattle.page_spec.specs.Renders.{Attributes, no_attributes, attribute, Renders, a_text, an_entity, a_void, a_void_with, an_element, with_attributes, Children, no_children, a_child}

-- from the grammar to the function

join_some : (p q : Option (List ℕ)) (a b : List ℕ) → p ≡ Some a → q ≡ Some b → join p q ≡ Some (a ++ b)
join_some p q a b h k = rw (h, k) refl

attributes_page : {vs : Vals} {bytes : List ℕ} → Attributes vs bytes → attributes_of vs ≡ Some bytes
attributes_page no_attributes = refl
attributes_page (attribute n t vs others h more) =
    join_some _ _ (one_attribute n t) others (cond-true (is_attribute n) (Some (one_attribute n t)) None h) (attributes_page more)

element_page : (n : List ℕ) (p q : Option (List ℕ)) (attributes children : List ℕ) → is_element n ≡ true → p ≡ Some attributes → q ≡ Some children
    → element n p q ≡ Some (start_tag n attributes ++ children ++ end_tag n)
element_page n p q attributes children named h k =
    cond-true (is_element n) _ None named
    ∙ join_some _ _ (start_tag n attributes) (children ++ end_tag n) (ap (option_map (start_tag n)) h) (join_some q _ children (end_tag n) k refl)
    ∙ ap Some (sym (append_assoc (start_tag n attributes) children (end_tag n)))

-- an element that may have children is not void
pub element_not_void : (n : List ℕ) → is_element n ≡ true → is_void n ≡ false
element_not_void [] h = absurd (cc)
element_not_void (b ∷ bs) h = third_fails (is_lower b) (list_all is_element_byte bs) (is_void (b ∷ bs)) (is_raw_text (b ∷ bs)) h
  where
    third_fails : (x y z u : Bool) → (x && y && not z && not u) ≡ true → z ≡ false
    third_fails x y z u h = grind arith

void_page : (n : List ℕ) (vs : Vals) (bytes : List ℕ) → is_void n ≡ true → void_of n vs ≡ Some bytes → page_of (list (val (symbol n) vs)) ≡ Some bytes
void_page n vs bytes v h = cond-true (is_void n) (void_of n vs) (element_of n vs) v ∙ h

nonvoid_page : (n : List ℕ) (vs : Vals) (bytes : List ℕ) → is_element n ≡ true → element_of n vs ≡ Some bytes → page_of (list (val (symbol n) vs)) ≡ Some bytes
nonvoid_page n vs bytes e h = cond-false (is_void n) (void_of n vs) (element_of n vs) (element_not_void n e) ∙ h

-- a page is no list of attributes
page_none : (v : Val) (bytes : List ℕ) → page_of v ≡ Some bytes → attributes_in v ≡ None
page_none (list no_vals) bytes h = absurd (cc)
page_none (list (val (list ws) vs)) bytes h = absurd (cc)
page_none _ bytes h = refl

-- a list of attributes is attributes
attributes_here : {ws : Vals} {bytes : List ℕ} → Attributes ws bytes → attributes_in (list ws) ≡ Some ws
attributes_here no_attributes = refl
attributes_here (attribute n t vs others h more) = refl

mutual
  pub renders_page : {v : Val} {bytes : List ℕ} → Renders v bytes → page_of v ≡ Some bytes
  renders_page (a_text t) = refl
  renders_page (an_entity n named) = cond-true (is_entity_name n) (Some (named_entity n)) None named
  renders_page (a_void n named) = void_page n no_vals _ named refl
  renders_page (a_void_with n ws attributes named a) =
      void_page n (val (list ws) no_vals) _ named (ap (void_with n) (attributes_here a) ∙ ap (option_map (start_tag n)) (attributes_page a))
  renders_page (an_element n vs children named no_children) = nonvoid_page n no_vals _ named (element_page n _ _ [] [] named refl refl)
  renders_page (an_element n vs children named (a_child v others first rest h more)) =
      nonvoid_page n (val v others) _ named
      (ap (λ a. element_with n a (page_of v) (children_of others)) (page_none v first (renders_page h))
      ∙ element_page n _ _ [] (first ++ rest) named refl (join_some _ _ first rest (renders_page h) (children_page more)))
  renders_page (with_attributes n ws vs attributes children named a c) =
      nonvoid_page n (val (list ws) vs) _ named
      (ap (λ b. element_with n b (page_of (list ws)) (children_of vs)) (attributes_here a)
      ∙ element_page n _ _ attributes children named (attributes_page a) (children_page c))

  pub children_page : {vs : Vals} {bytes : List ℕ} → Children vs bytes → children_of vs ≡ Some bytes
  children_page no_children = refl
  children_page (a_child v vs first others h more) = join_some _ _ first others (renders_page h) (children_page more)

-- from the function to the grammar

record Joined (p q : Option (List ℕ)) (bytes : List ℕ) : Type 0 where
  first : List ℕ
  others : List ℕ
  is_first : p ≡ Some first
  is_others : q ≡ Some others
  parts : first ++ others ≡ bytes

joined : (p q : Option (List ℕ)) (bytes : List ℕ) → join p q ≡ Some bytes → Joined p q bytes
joined None q bytes h = absurd (cc)
joined (Some a) None bytes h = absurd (cc)
joined (Some a) (Some b) bytes h = record { first = a; others = b; is_first = refl; is_others = refl; parts = same_Some (a ++ b) bytes h }

-- an element's name, attributes and children
record Element (n : List ℕ) (p q : Option (List ℕ)) (bytes : List ℕ) : Type 0 where
  named : is_element n ≡ true
  attributes : List ℕ
  children : List ℕ
  is_attributes : p ≡ Some attributes
  is_children : q ≡ Some children
  parts : start_tag n attributes ++ children ++ end_tag n ≡ bytes

element_parts : (n : List ℕ) (p q : Option (List ℕ)) (bytes : List ℕ) → element n p q ≡ Some bytes → Element n p q bytes
element_parts n p q bytes h =
    let t = allowed (is_element n) _ bytes h in
    let j = joined (option_map (start_tag n) p) (join q (Some (end_tag n))) bytes t.1 in
    let m = mapped p (start_tag n) j.first j.is_first in
    let k = joined q (Some (end_tag n)) j.others j.is_others in
    let e : end_tag n ≡ k.others = same_Some _ _ k.is_others in
    record {
      named = t.0;
      attributes = m.0;
      children = k.first;
      is_attributes = m.1;
      is_children = k.is_first;
      parts =
          append_assoc (start_tag n m.0) k.first (end_tag n)
          ∙ (ap (λ b. start_tag n m.0 ++ (k.first ++ b)) e ∙ (ap (λ b. start_tag n m.0 ++ b) k.parts ∙ (ap (λ b. b ++ j.others) m.2 ∙ j.parts)));
    }

attributes_as : (vs : Vals) (a b : List ℕ) → a ≡ b → Attributes vs a → Attributes vs b
attributes_as vs a b e h = subst (λ c. Attributes vs c) e h

children_as : (vs : Vals) (a b : List ℕ) → a ≡ b → Children vs a → Children vs b
children_as vs a b e h = subst (λ c. Children vs c) e h

renders_as : (v : Val) (a b : List ℕ) → a ≡ b → Renders v a → Renders v b
renders_as v a b e h = subst (λ c. Renders v c) e h

pair_found : (v w : Val) (vs : Vals) (first others : List ℕ) → pair_text v w ≡ Some first → Attributes vs others
    → Attributes (val (list (val v (val w no_vals))) vs) (first ++ others)
pair_found (symbol n) (text t) vs first others h more =
    let named = allowed (is_attribute n) (Some (one_attribute n t)) first h in
    attributes_as _ (one_attribute n t ++ others) (first ++ others) (ap (λ b. b ++ others) (same_Some (one_attribute n t) first named.1))
    (attribute n t vs others named.0 more)
pair_found _ _ vs first others h more = absurd (cc)

attribute_found : (v : Val) (vs : Vals) (first others : List ℕ) → attribute_of v ≡ Some first → Attributes vs others
    → Attributes (val v vs) (first ++ others)
attribute_found (list (val v (val w no_vals))) vs first others h more = pair_found v w vs first others h more
attribute_found _ vs first others h more = absurd (cc)

attributes_found : (vs : Vals) (bytes : List ℕ) → attributes_of vs ≡ Some bytes → Attributes vs bytes
attributes_found no_vals bytes h = attributes_as no_vals [] bytes (same_Some [] bytes h) no_attributes
attributes_found (val v vs) bytes h =
    let j = joined (attribute_of v) (attributes_of vs) bytes h in
    attributes_as (val v vs) (j.first ++ j.others) bytes j.parts
    (attribute_found v vs j.first j.others j.is_first (attributes_found vs j.others j.is_others))

-- the parts of an element and those after the first of them
abbrev AreFound : Vals → Type 0
AreFound vs = (bytes : List ℕ) → children_of vs ≡ Some bytes → Children vs bytes

abbrev AreFoundBehind : Vals → Type 0
AreFoundBehind no_vals = Unit {0}
AreFoundBehind (val v vs) = AreFound vs

plain_element : (n : List ℕ) (vs : Vals) (bytes : List ℕ) → AreFound vs → element n (Some []) (children_of vs) ≡ Some bytes
    → Renders (list (val (symbol n) vs)) bytes
plain_element n vs bytes f h =
    let e = element_parts n (Some []) (children_of vs) bytes h in
    let a : [] ≡ e.attributes = same_Some [] e.attributes e.is_attributes in
    renders_as _ _ bytes (ap (λ b. start_tag n b ++ e.children ++ end_tag n) a ∙ e.parts)
    (an_element n vs e.children e.named (f e.children e.is_children))

attributed_element : (n : List ℕ) (ws vs : Vals) (bytes : List ℕ) → AreFound vs → element n (attributes_of ws) (children_of vs) ≡ Some bytes
    → Renders (list (val (symbol n) (val (list ws) vs))) bytes
attributed_element n ws vs bytes f h =
    let e = element_parts n (attributes_of ws) (children_of vs) bytes h in
    renders_as _ _ bytes e.parts
    (with_attributes n ws vs e.attributes e.children e.named (attributes_found ws e.attributes e.is_attributes) (f e.children e.is_children))

element_found : (n : List ℕ) (vs : Vals) (bytes : List ℕ) → AreFound vs → AreFoundBehind vs → element_of n vs ≡ Some bytes
    → Renders (list (val (symbol n) vs)) bytes
element_found n no_vals bytes f g h = plain_element n no_vals bytes f h
element_found n (val (list no_vals) vs) bytes f g h = attributed_element n no_vals vs bytes g h
element_found n (val (list (val (list ws) us)) vs) bytes f g h = attributed_element n (val (list ws) us) vs bytes g h
element_found n (val v vs) bytes f g h = plain_element n (val v vs) bytes f h

child_found : (v : Val) (vs : Vals) → ((bytes : List ℕ) → page_of v ≡ Some bytes → Renders v bytes) → AreFound vs → AreFound (val v vs)
child_found v vs f g bytes h =
    let j = joined (page_of v) (children_of vs) bytes h in
    children_as (val v vs) (j.first ++ j.others) bytes j.parts (a_child v vs j.first j.others (f j.first j.is_first) (g j.others j.is_others))

-- a void element with these attributes
void_attributed : (n : List ℕ) (ws : Vals) (bytes : List ℕ) → is_void n ≡ true → option_map (start_tag n) (attributes_of ws) ≡ Some bytes
    → Renders (list (val (symbol n) (val (list ws) no_vals))) bytes
void_attributed n ws bytes named h =
    let m = mapped (attributes_of ws) (start_tag n) bytes h in
    renders_as _ _ bytes m.2 (a_void_with n ws m.0 named (attributes_found ws m.0 m.1))

void_found : (n : List ℕ) (vs : Vals) (bytes : List ℕ) → is_void n ≡ true → void_of n vs ≡ Some bytes → Renders (list (val (symbol n) vs)) bytes
void_found n no_vals bytes named h = renders_as _ (start_tag n []) bytes (same_Some _ _ h) (a_void n named)
void_found n (val (list no_vals) no_vals) bytes named h = void_attributed n no_vals bytes named h
void_found n (val (list (val (list ws) us)) no_vals) bytes named h = void_attributed n (val (list ws) us) bytes named h
void_found n (val v no_vals) bytes _ h = absurd (cc)
void_found n (val v (val w vs)) bytes _ h = absurd (cc)

entity_found : (n bytes : List ℕ) → entity_of n ≡ Some bytes → Renders (symbol n) bytes
entity_found n bytes h =
    let t = allowed (is_entity_name n) (Some (named_entity n)) bytes h in
    renders_as (symbol n) (named_entity n) bytes (same_Some _ _ t.1) (an_entity n t.0)

-- a list that a symbol begins is a void element or one with children
named_found : (n : List ℕ) (vs : Vals) (bytes : List ℕ) → AreFound vs → AreFoundBehind vs → page_of (list (val (symbol n) vs)) ≡ Some bytes
    → Renders (list (val (symbol n) vs)) bytes
named_found n vs bytes f g h =
    elim (is_void n) as (λ b. is_void n ≡ b → cond b (void_of n vs) (element_of n vs) ≡ Some bytes → Renders (list (val (symbol n) vs)) bytes) [
      | true ↦ λ v k. void_found n vs bytes v k
      | false ↦ λ v k. element_found n vs bytes f g k
    ] refl h

mutual
  pub page_renders : (v : Val) (bytes : List ℕ) → page_of v ≡ Some bytes → Renders v bytes
  page_renders (text t) bytes h = renders_as (text t) (escaped_text t) bytes (same_Some _ _ h) (a_text t)
  page_renders (symbol n) bytes h = entity_found n bytes h
  page_renders (list (val (symbol n) vs)) bytes h = let f = children_found vs in named_found n vs bytes f.0 f.1 h
  page_renders _ bytes h = absurd (cc)

  children_found : (vs : Vals) → AreFound vs × AreFoundBehind vs
  children_found no_vals = (λ bytes h. children_as no_vals [] bytes (same_Some [] bytes h) no_children, tt)
  children_found (val v vs) = let f = children_found vs in (child_found v vs (page_renders v) f.0, f.0)

pub answer_found : (v : Val) (r : Result (List ℕ) RenderFault) → Gives r (page_of v) → (wanted : List ℕ) → Renders v wanted → Gives r (Some wanted)
answer_found v (Ok bytes) h wanted s = sym (renders_page s) ∙ h
answer_found v (Err Memory) h wanted s = tt
answer_found v (Err NotPage) h wanted s = sym (renders_page s) ∙ h

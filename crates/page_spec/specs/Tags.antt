-- What a reader finds that goes over the bytes of a page once, and keeps the names of the elements that are open.
use Rattle.std.specs.Prelude.{◌≡◌, ℕ, ◌==◌, not, Bool, true, false, List, [], ◌∷◌, ◌++◌, Option, Some, None, if◌then◌else◌}
use Rattle.std.specs.List.{take_while}
use Rattle.std.specs.Str.{bytes_eq}
use Rattle.page_spec.specs.Markup.{is_void}
use Rattle.page_spec.specs.Nesting.{IsMarkup}

-- the names of the open elements, the innermost first; none after a tag that does not fit
abbrev pub Open : Type 0
Open = Option (List (List ℕ))

-- an end tag has the innermost element's name, and closes it
abbrev pub closed_by : List ℕ → List (List ℕ) → Open
closed_by n [] = None
closed_by n (m ∷ others) = if bytes_eq n m then Some others else None

-- a start tag opens an element, unless that is void
abbrev pub opened_by : List ℕ → List (List ℕ) → Open
opened_by n names = if is_void n then Some names else Some (n ∷ names)

-- a tag's name ends at its first space
abbrev pub name_of : List ℕ → List ℕ
name_of tag = take_while (λ b. not (b == 32)) tag

-- the names of the elements that are open after a tag, of which the bytes between `<` and `>` are given; an end tag begins with `/`
abbrev pub open_behind : List ℕ → List (List ℕ) → Open
open_behind [] names = None
open_behind (b ∷ bs) names = if b == 47 then closed_by bs names else opened_by (name_of (b ∷ bs)) names

abbrev mutual
  -- the bytes from here on, with these elements open, fit them, and none is open where they end
  pub fits : Open → List ℕ → Bool
  fits None bs = false
  fits (Some []) [] = true
  fits (Some (n ∷ names)) [] = false
  fits (Some names) (b ∷ bs) = if b == 60 then fits_in_tag [] names bs else if b == 62 then false else fits (Some names) bs

  -- the bytes from inside a tag on, of which these bytes were read, fit the open elements, and none is open where they end
  pub fits_in_tag : List ℕ → List (List ℕ) → List ℕ → Bool
  fits_in_tag tag names [] = false
  fits_in_tag tag names (b ∷ bs) =
      if b == 62 then fits (open_behind tag names) bs else if b == 60 then false else fits_in_tag (tag ++ b ∷ []) names bs

-- each end tag closes the innermost element that is open, and none is open at the end
abbrev pub closes_its_elements : List ℕ → Bool
closes_its_elements bytes = fits (Some []) bytes

-- markup that is well formed closes its elements
abbrev pub MarkupCloses : Type 0
MarkupCloses = (bytes : List ℕ) → IsMarkup bytes → closes_its_elements bytes ≡ true

-- What the code's answer to bytes stands for.
use Rattle.std.specs.Prelude.{◌≡◌, Option, Some, None, Result, Ok, Err, option_map}
use Rattle.script_value.specs.Views.{meaning}
use Rattle.page_names.specs.Views.{target_of}
use Rattle.http_forms.specs.Request.{Visit, Outcome, unfinished, refused, visits}
use Rattle.http_forms.specs.declared.refused.RequestFault.{RequestFault}
use Rattle.http_forms.specs.declared.refused.RequestFault.TheVariants.{Memory, Refused}
use Rattle.http_forms.specs.declared.request.Request.{Request}

-- the visit that a request asks for: its target, its answer, its length, and whether it is the connection's last
abbrev pub visit_in : Request → Outcome
visit_in r = visits (record {
  destination = option_map target_of r.target;
  answer = meaning r.answer;
  length = r.length;
  closes = r.closes;
})

-- the answer is an outcome of this kind; memory runs out for a visit alone
abbrev pub Tells : Result (Option Request) RequestFault → (Outcome → Type 0) → Type 0
Tells (Ok None) P = P unfinished
Tells (Ok (Some r)) P = P (visit_in r)
Tells (Err (Refused r)) P = P (refused r)
Tells (Err Memory) P = (v : Visit) × P (visits v)

-- the answer is this outcome, and memory did not run out
abbrev pub Is : Result (Option Request) RequestFault → Outcome → Type 0
Is (Ok None) outcome = outcome ≡ unfinished
Is (Ok (Some r)) outcome = outcome ≡ visit_in r
Is (Err (Refused r)) outcome = outcome ≡ refused r
Is (Err Memory) outcome = ⊥

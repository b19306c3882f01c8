-- The first steps of a run, the lines of steps, what is kept and what is counted, computed.
use Rattle.std.specs.Prelude.{◌≡◌, ℕ, Bool, true, false, List, [], ◌∷◌, ◌++◌, length, map, replicate, take, codes, slice_index_or, refl}
use Rattle.std.specs.Fmt.{decimal, digits}
use Rattle.script_value.specs.declared.outcome.Fault.TheVariants as faults
use Rattle.script_value.specs.declared.outcome.Refusal.TheVariants as refusals
use Rattle.script_value.specs.declared.outcome.Reply.TheVariants as replies
use Rattle.play_steps.specs.declared.report.Report.TheVariants.{Taken, Replied, Swept, Unswept}
use Rattle.page_names.specs.Hex.{hex16}
use Rattle.measured_run.specs.declared.step.LoadStep.{LoadStep}
use Rattle.measured_run.specs.declared.step.LoadStep.TheVariants.{Crash, Tick, Publish, Take, Get}
use Rattle.measured_run.specs.declared.script.LoadScript.TheVariants.{Hotel, Shop, Pay}
use Rattle.measured_run.specs.Scripts.{text_of, setup_text}
use Rattle.measured_run.specs.Generator.{Source, source_of, drawn, step_of, next_step, held_in, source_behind, last_of, with_url, learned}
use Rattle.measured_run.specs.Lines.{line_of}
use Rattle.measured_run.specs.Tallies.{counted, summary_text}

-- the first two numbers of the run of 1
pub first_numbers : (drawn 1 ∷ drawn (drawn 1) ∷ []) ≡ 1082269761 ∷ 1152992998833853505 ∷ []
unfolding drawn
first_numbers = refl

-- the URL of the first page of the hotel
abbrev first_page : List ℕ
first_page = codes "/servlets/hotel;0*0*0*0000000000000000"

-- nobody holds a ticket
abbrev nobody : ℕ → Bool
nobody worker = false

-- the first step of the run of 1 over a shelf is a start of the hotel
pub first_step : (next_step 1 nobody (source_of 1)).0 ≡ Get 1 (codes "/servlets/hotel")
unfolding next_step drawn
first_step = refl

-- the second step of the run of 1 answers the page that the first one showed
pub second_step :
    line_of (next_step 1 nobody (with_url first_page (next_step 1 nobody (source_of 1)).1)).0
    ≡ codes "get 1 /servlets/hotel;0*0*0*0000000000000000?h=3"
unfolding next_step drawn digits
second_step = refl

-- a source with the URLs of two pages and a clock at 60 seconds
abbrev two_pages : Source
two_pages = record { number = 5; clock = 60; targets = codes "/a" ∷ codes "/b" ∷ [] }

-- the steps on which these numbers decide, over three shelves and where worker 1 alone holds a ticket
abbrev steps_at : Source → List ℕ → List LoadStep
steps_at source = map (step_of 3 (held_in (false ∷ true ∷ false ∷ false ∷ [])) source)

-- lots 0, 1 and 20: also where the worker holds a ticket
pub crashes_and_ticks :
    steps_at two_pages (20000 ∷ 21000 ∷ 1 ∷ 476020 ∷ 477020 ∷ [])
    ≡ Crash 2 ∷ Crash 2 ∷ Tick 60 ∷ Tick 119 ∷ Tick 119 ∷ []
crashes_and_ticks = refl

-- from lot 21 on a ticket is spent
pub spent : steps_at two_pages (1021 ∷ 1999 ∷ []) ≡ Publish 1 ∷ Publish 1 ∷ []
spent = refl

-- starts up to lot 119, and where there is no URL
pub starts :
    steps_at two_pages (21 ∷ 4119 ∷ 10118 ∷ []) ++ steps_at (source_of 5) (500 ∷ 4999 ∷ [])
    ≡ Get 0 (codes "/servlets/hotel") ∷ Get 0 (codes "/servlets/shop") ∷ Take 2 (codes "/servlets/pay")
    ∷ Take 0 (codes "/servlets/hotel") ∷ Get 0 (codes "/servlets/shop") ∷ []
starts = refl

-- from lot 120 on a page, with one of ten answers
pub pages :
    steps_at two_pages (1028120 ∷ 10243999 ∷ 9215999 ∷ [])
    ≡ Take 0 (codes "/b?h=1") ∷ Get 3 (codes "/a?h=0") ∷ Get 3 (codes "/b?h=8") ∷ []
unfolding digits
pages = refl

-- a step leaves the number that decided on it, and a tick its time
pub a_tick :
    (source_behind (Tick 119) 7 two_pages ∷ source_behind (Crash 0) 8 two_pages ∷ [])
    ≡ record { number = 7; clock = 119; targets = codes "/a" ∷ codes "/b" ∷ [] }
    ∷ record { number = 8; clock = 60; targets = codes "/a" ∷ codes "/b" ∷ [] } ∷ []
a_tick = refl

-- a page of a reply is learned at the end; what has no URL is not
pub learned_pages :
    map (λ told. (learned told two_pages).targets)
    (Replied 0 (replies.Page (codes "<p/>") (codes "/c")) ∷ Replied 0 (replies.Ended (codes "<p/>")) ∷ Taken 0 7
    ∷ Replied 1 (replies.Refused refusals.Unknown) ∷ Swept 0 1 ∷ [])
    ≡ (codes "/a" ∷ codes "/b" ∷ codes "/c" ∷ []) ∷ two_pages.targets ∷ two_pages.targets ∷ two_pages.targets ∷ two_pages.targets ∷ []
learned_pages = refl

-- the URLs that are kept of so many between a first one and a last one
abbrev kept_of : ℕ → List (List ℕ)
kept_of count = last_of ((codes "/first" ∷ replicate count (codes "/")) ++ codes "/last" ∷ [])

-- how many URLs are kept, the first of them and the 256th
abbrev kept_at : ℕ → List (List ℕ)
kept_at count = (decimal (length (kept_of count))) ∷ slice_index_or (kept_of count) 0 [] ∷ slice_index_or (kept_of count) 255 [] ∷ []

-- the last 256 URLs are kept: of 257 the oldest goes
pub kept_urls :
    map kept_at (254 ∷ 255 ∷ [])
    ≡ (codes "256" ∷ codes "/first" ∷ codes "/last" ∷ []) ∷ (codes "256" ∷ codes "/" ∷ codes "/last" ∷ []) ∷ []
unfolding digits
kept_urls = refl

-- a step of each kind
pub spelled :
    map line_of (Crash 15 ∷ Tick 119 ∷ Publish 3 ∷ Take 0 (codes "/servlets/pay") ∷ Get 2 (codes "/a?h=9") ∷ [])
    ≡ codes "crash 15" ∷ codes "tick 119" ∷ codes "publish 3" ∷ codes "take 0 /servlets/pay" ∷ codes "get 2 /a?h=9" ∷ []
unfolding digits
spelled = refl

-- pages count as such, whichever they are, and every other answer as refused; a ticket and a swept shelf are no answers
pub counts :
    counted (record { steps = 4; pages = 2; refused = 1 })
    (Replied 0 (replies.Page [] (codes "/c")) ∷ Replied 0 (replies.Finished []) ∷ Replied 0 (replies.Ended []) ∷ Taken 0 7
    ∷ Replied 1 (replies.Refused refusals.Unknown) ∷ Replied 1 (replies.Fault faults.Zero) ∷ Replied 1 replies.Memory ∷ Swept 0 1
    ∷ Unswept 1 (replies.Down 1) ∷ [])
    ≡ record { steps = 5; pages = 5; refused = 4 }
counts = refl

-- a count of 64 bits stands at its end
pub at_the_end :
    counted (record { steps = 18446744073709551615; pages = 18446744073709551614; refused = 0 })
    (Replied 0 (replies.Ended []) ∷ Replied 0 (replies.Ended []) ∷ [])
    ≡ record { steps = 18446744073709551615; pages = 18446744073709551615; refused = 0 }
at_the_end = refl

-- the line that a run prints at its end
pub summary :
    summary_text (record { steps = 20000; pages = 12; refused = 0 }) 171 ≡ codes "steps 20000 pages 12 refused 0 hash 00000000000000ab\n"
unfolding digits hex16
summary = refl

-- how long the texts of the scripts are
pub lengths : map (λ script. length (text_of script)) (Hotel ∷ Shop ∷ Pay ∷ []) ≡ 246 ∷ 217 ∷ 387 ∷ []
unfolding text_of
lengths = refl

-- the text of the setup begins with the section of the hotel
pub setup_begins : take 56 setup_text ≡ codes "script hotel 246\n(define picked (make-web-cell \"none\"))\n"
unfolding text_of digits
setup_begins = refl

-- What is counted of a measured run.
use Rattle.std.specs.Prelude.{ℕ, ◌+◌, ◌-◌, ◌^◌, Bool, true, false, List, ◌++◌, min, count_by, codes}
use Rattle.std.specs.Fmt.{decimal}
use Rattle.reply_words.specs.Words.{Told, page, word, told}
use Rattle.play_steps.specs.declared.report.Report.{Report}
use Rattle.play_steps.specs.declared.report.Report.TheVariants.{Replied}
use Rattle.measured_run.specs.declared.tally.Tally.{Tally}
use Rattle.page_names.specs.Hex.{hex16}

-- whether a page is told
abbrev pub is_page : Told → Bool
is_page (page bytes) = true
is_page (word status bytes) = false

-- whether a status and a word are told
abbrev pub is_word : Told → Bool
is_word (page bytes) = false
is_word (word status bytes) = true

-- whether a worker was answered with a page
abbrev pub tells_page : Report → Bool
tells_page (Replied worker reply) = is_page (told reply)
tells_page _ = false

-- whether a worker was answered without a page; a ticket that is taken is no answer
abbrev pub tells_refusal : Report → Bool
tells_refusal (Replied worker reply) = is_word (told reply)
tells_refusal _ = false

-- a count that grew, of 64 bits
abbrev pub grown : ℕ → ℕ → ℕ
grown count more = min (count + more) (2 ^ 64 - 1)

-- the tally with one step more, of which this was told
abbrev pub counted : Tally → List Report → Tally
counted tally told = record {
  steps = grown tally.steps 1;
  pages = grown tally.pages (count_by tells_page told);
  refused = grown tally.refused (count_by tells_refusal told);
}

-- what is printed of the counts and of a hash
abbrev pub summary_text : Tally → (hash : ℕ) → List ℕ
summary_text tally hash =
    codes "steps " ++ decimal tally.steps ++ codes " pages " ++ decimal tally.pages ++ codes " refused " ++ decimal tally.refused
    ++ codes " hash " ++ hex16 hash ++ codes "\n"

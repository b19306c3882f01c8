-- What is printed of reports.
use Rattle.std.specs.Prelude.{ℕ, List, [], ◌∷◌, ◌++◌, length, codes}
use Rattle.std.specs.Fmt.{decimal}
use Rattle.script_value.specs.declared.outcome.Reply.{Reply}
use Rattle.reply_words.specs.Words.{Told, page, word, status_number, told}
use Rattle.reply_words.specs.declared.status.ReplyStatus.{ReplyStatus}
use Rattle.play_steps.specs.declared.report.Report.{Report}
use Rattle.play_steps.specs.declared.report.Report.TheVariants.{Taken, Replied, Swept, Unswept, Compacted, Uncompacted, Reopened}

-- the text of a reply to a worker, with a status and a word
abbrev pub line_text : ℕ → ReplyStatus → List ℕ → List ℕ
line_text worker status bytes =
    decimal worker ++ codes " " ++ decimal (status_number status) ++ codes " " ++ bytes ++ codes "\n"

-- the text of a reply to a worker, with a page
abbrev pub page_text : ℕ → List ℕ → List ℕ
page_text worker bytes =
    decimal worker ++ codes " 200 " ++ decimal (length bytes) ++ codes "\n" ++ bytes ++ codes "\n"

-- the text of what is told to a worker
abbrev pub told_text : ℕ → Told → List ℕ
told_text worker (page bytes) = page_text worker bytes
told_text worker (word status bytes) = line_text worker status bytes

-- the text of the reply to a worker
unfoldable pub reply_text : ℕ → Reply → List ℕ
reply_text worker reply = told_text worker (told reply)

-- the line that says which number a worker's ticket has
abbrev pub taken_text : ℕ → ℕ → List ℕ
taken_text worker number = decimal worker ++ codes " taken " ++ decimal number ++ codes "\n"

-- the line that says how many instances of a shelf a tick freed
abbrev pub swept_text : ℕ → ℕ → List ℕ
swept_text shelf count = codes "shelf " ++ decimal shelf ++ codes " swept " ++ decimal count ++ codes "\n"

-- the line that says how long a shelf's file is after a compaction
abbrev pub compacted_text : ℕ → ℕ → List ℕ
compacted_text shelf length = codes "shelf " ++ decimal shelf ++ codes " length " ++ decimal length ++ codes "\n"

-- the text of a reply in the place of what a shelf was asked for
abbrev pub refused_text : ℕ → Reply → List ℕ
refused_text shelf reply = codes "shelf " ++ reply_text shelf reply

-- the line that says how many instances of a shelf live after it was opened again
abbrev pub reopened_text : ℕ → ℕ → List ℕ
reopened_text shelf live = codes "shelf " ++ decimal shelf ++ codes " live " ++ decimal live ++ codes "\n"

-- The text of a report: a number that was taken; a reply; a shelf that was swept, with the number of instances that went, or was not; one
-- whose file was compacted, with the length of that, or was not; or a shelf that was opened again, with the number of its live instances.
unfoldable pub report_text : Report → List ℕ
report_text (Taken worker number) = taken_text worker number
report_text (Replied worker reply) = reply_text worker reply
report_text (Swept shelf count) = swept_text shelf count
report_text (Unswept shelf reply) = refused_text shelf reply
report_text (Compacted shelf length) = compacted_text shelf length
report_text (Uncompacted shelf reply) = refused_text shelf reply
report_text (Reopened shelf live) = reopened_text shelf live

-- the text of reports, one after another
abbrev pub print : List Report → List ℕ
print [] = []
print (r ∷ reports) = report_text r ++ print reports

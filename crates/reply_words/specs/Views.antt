-- What the program's values stand for.
use Rattle.reply_words.specs.Words as spec
use Rattle.reply_words.specs.declared.words.Told.{Told}
use Rattle.reply_words.specs.declared.words.Told.TheVariants.{Page, Word}

-- what the program's answer says to a visitor: a page, or a status with a word
abbrev pub told_of : Told → spec.Told
told_of (Page bytes) = spec.page bytes.now
told_of (Word status bytes) = spec.word status bytes.now

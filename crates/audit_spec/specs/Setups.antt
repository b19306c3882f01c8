-- The setups that a journal tells.
use Rattle.setup_reader.specs.Texts.{setup_of_texts}
use Rattle.audit_spec.specs.Meaning.{ReadsSetups}

-- Each setup that names and texts are read as can be run, and no name stands twice in it.
abbrev pub SetupsCanBeRun : Type 0
SetupsCanBeRun = ReadsSetups setup_of_texts

-- The scripts of a measured run, their starts, and the setup that they make.
use Rattle.std.specs.Prelude.{ℕ, ◌==◌, List, [], ◌∷◌, ◌++◌, length, codes, if◌then◌else◌}
use Rattle.std.specs.Fmt.{decimal}
use Rattle.std.specs.List.{join_with_byte}
use Rattle.measured_run.specs.declared.script.LoadScript.{LoadScript}
use Rattle.measured_run.specs.declared.script.LoadScript.TheVariants.{Hotel, Shop, Pay}

-- the name of a script
abbrev pub name_of : LoadScript → List ℕ
name_of Hotel = codes "hotel"
name_of Shop = codes "shop"
name_of Pay = codes "pay"

-- the lines of a script
abbrev pub lines_of : LoadScript → List (List ℕ)
lines_of Hotel =
    codes "(define picked (make-web-cell \"none\"))"
    ∷ codes "(let ((b (send/suspend (lambda (u) `(a ((href ,u)) \"list\")))))"
    ∷ codes "  (web-cell-shadow picked (extract-binding/single 'h b))"
    ∷ codes "  (send/suspend (lambda (u) `(a ((href ,u)) \"confirm\")))"
    ∷ codes "  `(p ,(web-cell-ref picked)))"
    ∷ []
lines_of Shop =
    codes "(define stock (make-instance-cell 1))"
    ∷ codes "(begin"
    ∷ codes "  (send/suspend (lambda (u) `(a ((href ,u)) \"buy\")))"
    ∷ codes "  (if (< (instance-cell-ref stock) 1)"
    ∷ codes "      '(p \"sold out\")"
    ∷ codes "      (begin (instance-cell-add! stock -1) '(p \"bought\"))))"
    ∷ []
lines_of Pay =
    codes "(define charged (make-instance-cell 0))"
    ∷ codes "(begin"
    ∷ codes "  (send/suspend (lambda (u) `(a ((href ,u)) \"cart\")))"
    ∷ codes "  (isolate"
    ∷ codes "    (begin"
    ∷ codes "      (send/suspend (lambda (u) `(a ((href ,u)) \"card\")))"
    ∷ codes "      (send/suspend (lambda (u) `(a ((href ,u)) \"pay\")))"
    ∷ codes "      (instance-cell-add! charged 1)))"
    ∷ codes "  (send/suspend (lambda (u)"
    ∷ codes "    `(a ((href ,u)) ,(number->string (instance-cell-ref charged)))))"
    ∷ codes "  '(p \"end\"))"
    ∷ []

-- the text of a script: newlines stand between its lines, and none after the last
unfoldable pub text_of : LoadScript → List ℕ
text_of script = join_with_byte 10 (lines_of script)

-- the script of a number: 0, 1 or 2
abbrev pub script_of : ℕ → LoadScript
script_of number = if number == 0 then Hotel else (if number == 1 then Shop else Pay)

-- the target that starts a script
abbrev pub start_of : LoadScript → List ℕ
start_of script = codes "/servlets/" ++ name_of script

-- the section of a script: `script NAME LENGTH`, its text and a newline
abbrev pub section_of : LoadScript → List ℕ
section_of script =
    codes "script " ++ name_of script ++ codes " " ++ decimal (length (text_of script)) ++ codes "\n" ++ text_of script ++ codes "\n"

-- the text of the setup: a section of each script, in the order of their numbers
abbrev pub setup_text : List ℕ
setup_text = section_of Hotel ++ section_of Shop ++ section_of Pay

-- What some replies say, computed.
use Rattle.std.specs.Prelude.{◌≡◌, [], ◌∷◌, codes, map, refl}
use Rattle.script_value.specs.declared.outcome.Fault.TheVariants.{Binding, NotPage}
use Rattle.script_value.specs.declared.outcome.Refusal.TheVariants.{Unknown, Closed}
use Rattle.script_value.specs.declared.outcome.Reply.TheVariants.{Page, Ended, Refused, Fault, Fuel, Following, Memory}
use Rattle.reply_words.specs.Words.{status_number, page, word, told}
use Rattle.reply_words.specs.declared.status.ReplyStatus.TheVariants.{NotFound, Gone, InternalServerError, ServiceUnavailable}

-- a page, with or without a URL
pub pages : map told (Page (codes "<p>1</p>") (codes "/u") ∷ Ended [] ∷ []) ≡ page (codes "<p>1</p>") ∷ page [] ∷ []
pages = refl

-- a target that is not admitted
pub not_admitted :
    map told (Refused Unknown ∷ Refused (Closed (record { ticket = 7; entry = 1 })) ∷ [])
    ≡ word NotFound (codes "unknown") ∷ word Gone (codes "closed") ∷ []
not_admitted = refl

-- a script that stopped by itself, and what it is not given
pub stopped :
    map told (Fault Binding ∷ Fault NotPage ∷ Fuel 100001 ∷ Following ∷ Memory ∷ [])
    ≡ word InternalServerError (codes "binding") ∷ word InternalServerError (codes "page")
    ∷ word ServiceUnavailable (codes "fuel") ∷ word ServiceUnavailable (codes "following") ∷ word ServiceUnavailable (codes "memory") ∷ []
stopped = refl

-- the number of each status
pub numbers : map status_number (NotFound ∷ Gone ∷ InternalServerError ∷ ServiceUnavailable ∷ []) ≡ 404 ∷ 410 ∷ 500 ∷ 503 ∷ []
numbers = refl

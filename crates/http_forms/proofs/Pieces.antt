-- Bytes that are read in pieces.
use Rattle.std.proofs.Common.{◌≡◌, ◌≤◌, ◌<◌, ◌+◌, ◌-◌, ◌++◌, ℕ, List, [], Bool, true, false, length, take, drop, nat_lt, Option, Some, None, Ok, Err, arith, refl, sym, ap, ◌∙◌, subst, length-append, append-nil, append_assoc}
use Rattle.std.proofs.lemmas.Bool.Decides.{nat_tests}
use Rattle.std.proofs.lemmas.List.{nil_from_length, take-append-drop, length-take-le}
use Rattle.std.specs.Io.KnownBytes.{Consumes, Keeps}
use Rattle.web_outside.proofs.Consumed.{consumes_then}
use Rattle.http_forms.specs.Outcomes.{visit_in}
use Rattle.http_forms.specs.Request.{Visit, unfinished, visits, Decides}
use Rattle.http_forms.specs.Progress.{IsDecided, Follows, Knows}
use Rattle.http_forms.specs.Reader.{Gets, ReadsMore, ReadsNoFurther, IsEnough, Fills, Gives, GivesVisit}
use Rattle.http_forms.specs.declared.reader.Incoming.{Incoming}
use Rattle.http_forms.specs.declared.reader.Incoming.TheVariants.{Visit as Visiting}
use Rattle.http_forms.specs.declared.request.Request.{Request}
use Rattle.http_forms.specs.declared.progress.RequestScanner.{RequestScanner}
use Rattle.http_forms.specs.declared.reader.ReadStop.{ReadStop}
use Rattle.http_forms.specs.declared.reader.ReadStop.TheVariants.{Failed, Memory}
use Rattle.http_forms.proofs.Decisions.{outcomes_are_one, requests_stand_alone, ended_links_are_decided}
use Rattle.http_forms.proofs.Fronts.{requests_are_fronts}
use Rattle.http_forms.proofs.Bounds.{unfinished_bound}

-- nothing is consumed where all stays
pub consumes_none : (known : Option (List ℕ)) → Consumes known known []
consumes_none None = tt
consumes_none (Some xs) = refl

keeps_itself : (known : Option (List ℕ)) → Keeps known known
keeps_itself None = tt
keeps_itself (Some xs) = refl

-- what stays after bytes were consumed changes nothing
pub consumes_kept : (old mid new : Option (List ℕ)) (bytes : List ℕ) → Consumes old mid bytes → Keeps mid new → Consumes old new bytes
consumes_kept None mid new bytes p q = tt
consumes_kept (Some xs) None new bytes p q = absurd p
consumes_kept (Some xs) (Some ys) None bytes p q = absurd q
consumes_kept (Some xs) (Some ys) (Some zs) bytes p q = p ∙ ap (λ w. bytes ++ w) (sym q)

gets_none : (known : Option (List ℕ)) (bytes : List ℕ) → Gets known known bytes [] bytes
gets_none known bytes = record { read = []; consumed = consumes_none known; is = append-nil bytes }

gets_more : (old mid new : Option (List ℕ)) (before bytes after piece : List ℕ) → Gets old mid before [] bytes → Consumes mid new piece
    → after ≡ bytes ++ piece → Gets old new before [] after
gets_more old mid new before bytes after piece got more is = record {
  read = got.read ++ piece;
  consumed = consumes_then old mid new got.read piece got.consumed more;
  is = sym (append_assoc before got.read piece) ∙ (ap (λ w. w ++ piece) got.is ∙ sym is);
}

gets_same : (old mid new : Option (List ℕ)) (before bytes after : List ℕ) → Gets old mid before [] bytes → Keeps mid new
    → after ≡ bytes → Gets old new before [] after
gets_same old mid new before bytes after got kept is = record {
  read = got.read;
  consumed = consumes_kept old mid new got.read got.consumed kept;
  is = got.is ∙ sym is;
}

-- more is wanted only where the bytes are unfinished
pub still_open : (bytes : List ℕ) (wanted : ℕ) → ((more : List ℕ) → length more < wanted → Decides (bytes ++ more) false unfinished)
    → 0 < wanted → Decides bytes false unfinished
still_open bytes wanted short some = subst (λ w. Decides w false unfinished) (append-nil bytes) (short [] some)

-- where bytes are unfinished, those that were kept before were not decided, so more was to be read
pub more_is_due : (old new : Option (List ℕ)) (mid : Option (List ℕ)) (first bytes : List ℕ) → Gets old mid first [] bytes
    → Decides bytes false unfinished → ReadsNoFurther old new first
more_is_due old new mid first bytes got still decided =
    let whole = requests_stand_alone first got.read false decided.outcome decided.decides decided.finished in
    absurd (decided.finished (outcomes_are_one bytes false decided.outcome unfinished
    (subst (λ w. Decides w false decided.outcome) got.is whole) still))

-- decided bytes ask for no more
pub enough : (bytes : List ℕ) → IsDecided bytes → IsEnough bytes false
enough bytes decided more = absurd (decided.finished (outcomes_are_one bytes false decided.outcome unfinished decided.decides more))

-- nor do those after which the link ended, if there are any
pub enough_ended : (bytes : List ℕ) → IsEnough bytes true
enough_ended bytes more = by_size (nat_lt 0 (length bytes)) refl
  where
    by_size : (b : Bool) → nat_lt 0 (length bytes) ≡ b → (bytes ≡ []) × (true ≡ true)
    by_size true e = absurd (ended_links_are_decided bytes (grind (arith, nat_tests, e)) more)
    by_size false e = (nil_from_length bytes (grind (arith, nat_tests, e)), refl)

-- what the scanner says of the bytes that it was shown
pub record Says (scanner : RequestScanner) (wanted : ℕ) (shown : List ℕ) : Type 0 where
  pub goes_on : (more : List ℕ) → Follows scanner (shown ++ more)
  pub knows : Knows scanner shown
  pub decided : wanted ≡ 0 → IsDecided shown
  pub short : (more : List ℕ) → length more < wanted → Decides (shown ++ more) false unfinished

-- how far the reading has come: bytes were read after those that were kept, and the scanner has followed them
pub record Came (old new : Option (List ℕ)) (first bytes : List ℕ) (scanner : RequestScanner) (wanted before now : ℕ) : Type 0 where
  pub got : Gets old new first [] bytes
  pub prompt : ReadsNoFurther old new first
  pub says : Says scanner wanted bytes
  pub later : before ≤ now

pub came_first : (known : Option (List ℕ)) (bytes shown : List ℕ) (scanner : RequestScanner) (wanted count : ℕ)
    → shown ≡ bytes → Says scanner wanted shown → Came known known bytes bytes scanner wanted count count
came_first known bytes shown scanner wanted count is says =
    record {
      got = gets_none known bytes;
      prompt = λ decided. keeps_itself known;
      says = subst (Says scanner wanted) is says;
      later = omega arith;
    }

-- a piece more was read, and shown to the scanner
pub came_more : (old mid new : Option (List ℕ)) (first bytes after shown : List ℕ) (scanner scanner' : RequestScanner)
    (wanted wanted' before now now' count : ℕ)
    → Came old mid first bytes scanner wanted before now → 0 < wanted → ReadsMore mid new bytes after (Ok count)
    → shown ≡ after → Says scanner' wanted' shown → now ≤ now' → Came old new first after scanner' wanted' before now'
came_more old mid new first bytes after shown scanner scanner' wanted wanted' before now now' count here some (piece, more, is, size, end) seen says later =
    let l = here.later in
    record {
      got = gets_more old mid new first bytes after piece here.got more is;
      prompt = more_is_due old new mid first bytes here.got (still_open bytes wanted here.says.short some);
      says = subst (Says scanner' wanted') seen says;
      later = omega (arith, l, later);
    }

-- what was read, where the reading stopped
pub stopped : (old mid new : Option (List ℕ)) (first bytes after : List ℕ) (scanner : RequestScanner) (wanted before now : ℕ) (stop : ReadStop)
    → Came old mid first bytes scanner wanted before now → 0 < wanted → ReadsMore mid new bytes after (Err stop)
    → Fills old new first after (Err stop)
stopped old mid new first bytes after scanner wanted before now Failed came some (kept, same) = (
  gets_same old mid new first bytes after came.got kept same,
  subst (λ w. Decides w false unfinished) (sym same) (still_open bytes wanted came.says.short some),
)
stopped old mid new first bytes after scanner wanted before now Memory came some (piece, more) =
    (came.got.read ++ piece, consumes_then old mid new came.got.read piece came.got.consumed more)

-- what was read, where the link ended
pub ended : (old mid new : Option (List ℕ)) (first bytes after : List ℕ) (scanner : RequestScanner) (wanted before now count : ℕ)
    → Came old mid first bytes scanner wanted before now → ReadsMore mid new bytes after (Ok count) → count ≡ 0
    → Fills old new first after (Ok true)
ended old mid new first bytes after scanner wanted before now count came (piece, more, is, size, end) none =
    (gets_more old mid new first bytes after piece came.got more is, (λ e. end none), enough_ended after)

-- a piece that is not empty brings the bytes nearer to the most that may be unfinished
pub nearer : (mid new : Option (List ℕ)) (bytes after : List ℕ) (count : ℕ) → ReadsMore mid new bytes after (Ok count)
    → (count ≡ 0 → ⊥) → Decides bytes false unfinished → 81920 - length after < 81920 - length bytes
nearer mid new bytes after count (piece, more, is, size, end) some still =
    let b = unfinished_bound bytes still in
    let l : length after ≡ length bytes + length piece = ap length is ∙ length-append bytes piece in
    let s : 0 < count = grind (arith, some) in
    omega (arith, b, l, s, size)

-- a request is the first of the bytes, and those after it are kept
pub gives_visit : (old new : Option (List ℕ)) (before bytes after : List ℕ) (ended : Bool) (v : Visit) → Gets old new before [] bytes
    → Decides bytes ended (visits v) → after ≡ drop v.length bytes → GivesVisit old new before after v.length (visits v)
gives_visit old new before bytes after ended v got decided is =
    let front = requests_are_fronts bytes ended v decided in
    record {
      bytes = take v.length bytes;
      got = record {
        read = got.read;
        consumed = got.consumed;
        is = got.is ∙ (sym (take-append-drop v.length bytes) ∙ ap (λ w. take v.length bytes ++ w) (sym is));
      };
      size = length-take-le v.length bytes front.0;
      decided = front.1;
    }

-- the visit that came, of the bytes that were shown
pub came_visit : (bytes shown : List ℕ) (ended : Bool) (came : Incoming) (request : Request) → came ≡ Visiting request
    → Gives (Ok came) (Decides shown ended) → shown ≡ bytes → Decides bytes ended (visit_in request)
came_visit bytes shown ended came request is gives seen =
    subst (λ (w : List ℕ). Decides w ended (visit_in request)) seen (subst (λ i. Gives (Ok i) (Decides shown ended)) is gives)

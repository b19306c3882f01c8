-- Runs of a shelf that compute: what small scripts are answered step by step.
use Rattle.std.specs.Prelude.{◌≡◌, ◌-◌, ◌^◌, false, List, [], ◌∷◌, ◌++◌, Some, None, codes, refl}
use Rattle.std.specs.Fmt.{digits}
use Rattle.script_value.specs.Val.{truth, text}
use Rattle.script_value.specs.declared.outcome.Refusal.TheVariants.{Unknown, Revoked, Closed, Evicted, Expired}
use Rattle.script_nodes.specs.PageNames.Names.{start}
use Rattle.script_nodes.specs.Core.{isolate}
use Rattle.replay_spec.specs.Runs.{after}
use Rattle.replay_spec.specs.Rules.{empty_book}
use Rattle.replay_spec.specs.Step.{Event, take, sweep, crash, Fate, plain, no_memory, disk_fault, lost, kept, Reply, taken, shown, finished, ended, refusal, out_of_fuel, shelf_full, disk_failed, down, oversize, journal_full, worn, memory, swept, live, step}
use Rattle.replay_spec.specs.Samples.{name, script, journal, rules, opened, counted, Answers, at, url, link_to, takes, publishing, publishes, get, nothing, says, link, hotel, fwd, fin, shop, pay, transaction, note}

-- two clones do not see each other's web cell
pub two_guests :
    Answers (opened rules hotel)
    (get (start name) nothing 0 ++ get (at 0 0 0) (text (codes "A")) 1 ++ get (at 0 0 0) (text (codes "B")) 2 ++ get (at 0 1 1) nothing 3 ++ get (at 0 2 2) nothing 4)
    (taken 0 0 ∷ link_to (codes "list") 0 0 ∷ taken 1 1 ∷ link_to (codes "confirm") 0 1 ∷ taken 2 2 ∷ link_to (codes "confirm") 0 2
    ∷ taken 3 3 ∷ ended (codes "A") ∷ taken 4 4 ∷ ended (codes "B") ∷ [])
unfolding step
two_guests = refl

-- a page that forwards revokes the older, also for a visit in flight
pub forwarded :
    Answers (opened rules fwd)
    (get (start name) nothing 0 ++ takes (at 0 0 0) nothing ∷ get (at 0 0 0) nothing 2 ++ publishes (at 0 0 0) nothing 1 ∷ takes (at 0 0 0) nothing ∷ get (at 0 2 2) nothing 3)
    (taken 0 0 ∷ link_to (codes "1") 0 0 ∷ taken 1 1 ∷ taken 2 2 ∷ link_to (codes "2") 0 2 ∷ refusal Revoked ∷ refusal Revoked ∷ taken 3 3 ∷ ended (codes "done") ∷ [])
unfolding step
forwarded = refl

-- an instance that is finished is gone
pub finished_once :
    Answers (opened rules fin) (get (start name) nothing 0 ++ get (at 0 0 0) nothing 1 ++ takes (at 0 0 0) nothing ∷ get (start name) nothing 2)
    (taken 0 0 ∷ link_to (codes "1") 0 0 ∷ taken 1 1 ∷ finished (codes "bye") ∷ refusal Unknown ∷ taken 2 2 ∷ link_to (codes "1") 2 2 ∷ [])
unfolding step
finished_once = refl

-- the last item is sold once: the second click is run again at its publish
pub sold_once :
    Answers (opened rules shop) (get (start name) nothing 0 ++ takes (at 0 0 0) nothing ∷ takes (at 0 0 0) nothing ∷ publishes (at 0 0 0) nothing 1 ∷ publishes (at 0 0 0) nothing 2 ∷ [])
    (taken 0 0 ∷ link_to (codes "buy") 0 0 ∷ taken 1 1 ∷ taken 2 2 ∷ ended (codes "bought") ∷ ended (codes "sold out") ∷ [])
unfolding step
sold_once = refl

-- paid once, and not again by the card's page or another page of the payment; at the cart another transaction is entered
pub paid_once :
    Answers (opened rules pay)
    (get (start name) nothing 0 ++ get (at 0 0 0) nothing 1 ++ get (at 0 1 1) nothing 2 ++ get (at 0 1 1) nothing 3 ++ get (at 0 2 2) nothing 4
    ++ takes (at 0 1 1) nothing ∷ takes (at 0 3 3) nothing ∷ get (at 0 0 0) nothing 5)
    (taken 0 0 ∷ link_to (codes "cart") 0 0 ∷ taken 1 1 ∷ link_to (codes "card") 0 1 ∷ taken 2 2 ∷ link_to (codes "pay") 0 2 ∷ taken 3 3 ∷ link_to (codes "pay") 0 3
    ∷ taken 4 4 ∷ link_to (codes "1") 0 4 ∷ refusal (Closed (transaction 1)) ∷ refusal (Closed (transaction 1)) ∷ taken 5 5 ∷ link_to (codes "card") 0 5 ∷ [])
unfolding step digits
paid_once = refl

-- the visits of the shop's pages, up to the one that pays
abbrev to_pay : List (Event × Fate)
to_pay = get (start name) nothing 0 ++ get (at 0 0 0) nothing 1 ++ get (at 0 1 1) nothing 2

-- the replies to the visits of the shop's pages, up to the one that pays
abbrev paying : List Reply
paying = taken 0 0 ∷ link_to (codes "cart") 0 0 ∷ taken 1 1 ∷ link_to (codes "card") 0 1 ∷ taken 2 2 ∷ link_to (codes "pay") 0 2 ∷ []

-- of two visits in flight the first pays
pub paid_by_one :
    Answers (opened rules pay) (to_pay ++ takes (at 0 2 2) nothing ∷ takes (at 0 2 2) nothing ∷ publishes (at 0 2 2) nothing 3 ∷ publishes (at 0 2 2) nothing 4 ∷ [])
    (paying ++ taken 3 3 ∷ taken 4 4 ∷ link_to (codes "1") 0 3 ∷ refusal (Closed (transaction 1)) ∷ [])
unfolding step digits
paid_by_one = refl

-- a transaction is closed also where the segment that leaves it ends
pub closed_at_the_end :
    Answers (opened rules (script [] [] (isolate (link (codes "1")) ∷ says (codes "done") ∷ [])))
    (get (start name) nothing 0 ++ get (at 0 0 0) nothing 1 ++ takes (at 0 0 0) nothing ∷ [])
    (taken 0 0 ∷ link_to (codes "1") 0 0 ∷ taken 1 1 ∷ ended (codes "done") ∷ refusal (Closed (transaction 0)) ∷ [])
unfolding step
closed_at_the_end = refl

-- a payment whose record is in doubt until a crash with this fate, and a visit of its page after the crash
abbrev doubted : Fate → List (Event × Fate)
doubted fate = to_pay ++ takes (at 0 2 2) nothing ∷ (publishing (at 0 2 2) nothing 3 3, disk_fault 1) ∷ takes (at 0 1 1) nothing ∷ (crash (pay ∷ []), fate) ∷ takes (at 0 1 1) nothing ∷ []

-- a payment that was in doubt and is kept at the crash closes its transaction
pub payment_kept : Answers (opened rules pay) (doubted kept) (paying ++ taken 3 3 ∷ disk_failed 1 ∷ down 1 ∷ live 1 ∷ refusal (Closed (transaction 1)) ∷ [])
unfolding step digits
payment_kept = refl

-- a payment that was in doubt and is lost at the crash may be made again: its number is drawn again, and the nonces go on
pub payment_lost : Answers (opened rules pay) (doubted lost) (paying ++ taken 3 3 ∷ disk_failed 1 ∷ down 1 ∷ live 1 ∷ taken 3 4 ∷ [])
unfolding step digits
payment_lost = refl

-- a shelf in memory has no disk that fails
pub paid_in_memory :
    Answers (opened (record rules { journal = None }) pay) (doubted lost)
    (paying ++ taken 3 3 ∷ link_to (codes "1") 0 3 ∷ refusal (Closed (transaction 1)) ∷ live 1 ∷ refusal (Closed (transaction 1)) ∷ [])
unfolding step digits
paid_in_memory = refl

-- a ticket is lost in a crash with nothing in doubt, and pages are not
pub crashed :
    Answers (opened rules hotel)
    (get (start name) nothing 0 ++ get (at 0 0 0) (text (codes "A")) 1 ++ takes (at 0 1 1) nothing ∷ (crash (hotel ∷ []), kept) ∷ takes (at 0 0 0) (text (codes "B"))
    ∷ (publishing (at 0 0 0) (text (codes "B")) 2 3, plain) ∷ takes (at 0 1 1) nothing ∷ (publishing (at 0 1 1) nothing 3 4, plain) ∷ [])
    (taken 0 0 ∷ link_to (codes "list") 0 0 ∷ taken 1 1 ∷ link_to (codes "confirm") 0 1 ∷ taken 2 2 ∷ live 1 ∷ taken 2 3 ∷ shown (codes "confirm") (url 0 2 3)
    ∷ taken 3 4 ∷ ended (codes "A") ∷ [])
unfolding step
crashed = refl

-- a ticket that was lost in a crash leaves the book empty
pub nothing_is_out : (after counted (takes (start name) nothing ∷ (crash (hotel ∷ []), lost) ∷ []) (opened rules hotel)).book ≡ empty_book rules (hotel ∷ []) 0
unfolding step
nothing_is_out = refl

-- what is said is an instance cell: all pages see it
pub said_to_all :
    Answers (opened rules note) (get (start name) nothing 0 ++ get (at 0 0 0) (text (codes "hi")) 1 ++ get (at 0 0 0) (truth false) 2)
    (taken 0 0 ∷ link_to (codes "say") 0 0 ∷ taken 1 1 ∷ ended (codes "ok") ∷ taken 2 2 ∷ ended (codes "hi") ∷ [])
unfolding step
said_to_all = refl

-- a page is answered until its deadline; an instance is freed by the sweep at which all of its pages are over; both hold
-- after a crash
pub expired :
    Answers (opened (record rules { life = 100 }) hotel)
    (get (start name) nothing 0 ++ (sweep 50, plain) ∷ get (at 0 0 0) nothing 1 ++ (sweep 100, plain) ∷ takes (at 0 0 0) nothing ∷ (crash (hotel ∷ []), lost) ∷ takes (at 0 0 0) nothing
    ∷ takes (at 0 1 1) nothing ∷ (sweep 99, plain) ∷ (sweep 150, plain) ∷ takes (at 0 0 0) nothing ∷ [])
    (taken 0 0 ∷ link_to (codes "list") 0 0 ∷ swept 0 ∷ taken 1 1 ∷ link_to (codes "confirm") 0 1 ∷ swept 0 ∷ refusal (Expired 100) ∷ live 1 ∷ refusal (Expired 100)
    ∷ taken 2 2 ∷ swept 0 ∷ swept 1 ∷ refusal Unknown ∷ [])
unfolding step
expired = refl

-- a sweep that is in doubt until a crash with this fate, and a visit after it
abbrev swept_or_not : Fate → List (Event × Fate)
swept_or_not fate = get (start name) nothing 0 ++ (sweep 100, disk_fault 2) ∷ (sweep 200, plain) ∷ (crash (hotel ∷ []), fate) ∷ takes (at 0 0 0) nothing ∷ []

-- a sweep that was in doubt and is kept at the crash has freed its instance
pub sweep_kept : Answers (opened (record rules { life = 100 }) hotel) (swept_or_not kept) (taken 0 0 ∷ link_to (codes "list") 0 0 ∷ disk_failed 2 ∷ down 2 ∷ live 0 ∷ refusal Unknown ∷ [])
unfolding step
sweep_kept = refl

-- a sweep that was in doubt and is lost at the crash has freed nothing
pub sweep_lost : Answers (opened (record rules { life = 100 }) hotel) (swept_or_not lost) (taken 0 0 ∷ link_to (codes "list") 0 0 ∷ disk_failed 2 ∷ down 2 ∷ live 1 ∷ taken 1 1 ∷ [])
unfolding step
sweep_lost = refl

-- a shelf is full where it has as many instances as its limit says
pub too_many_instances :
    Answers (opened (record rules { instances = 1 }) hotel) (get (start name) nothing 0 ++ get (start name) nothing 1) (taken 0 0 ∷ link_to (codes "list") 0 0 ∷ taken 1 1 ∷ shelf_full 1 ∷ [])
unfolding step
too_many_instances = refl

-- where there is room for one page alone, the page that was answered goes for the new one
pub one_page_at_a_time :
    Answers (opened (record rules { pages = 1 }) hotel)
    (get (start name) nothing 0 ++ get (at 0 0 0) (text (codes "A")) 1 ++ takes (at 0 0 0) nothing ∷ get (at 0 1 1) nothing 2)
    (taken 0 0 ∷ link_to (codes "list") 0 0 ∷ taken 1 1 ∷ link_to (codes "confirm") 0 1 ∷ refusal (Evicted 1) ∷ taken 2 2 ∷ ended (codes "A") ∷ [])
unfolding step
one_page_at_a_time = refl

-- the least used page goes, also where a visit of it is in flight; its descendants' chains replay
pub least_used_goes :
    Answers (opened (record rules { pages = 2 }) hotel)
    (get (start name) nothing 0 ++ get (at 0 0 0) (text (codes "A")) 1 ++ takes (at 0 1 1) nothing ∷ get (at 0 0 0) (text (codes "B")) 3
    ++ publishes (at 0 1 1) nothing 2 ∷ get (at 0 3 3) nothing 4)
    (taken 0 0 ∷ link_to (codes "list") 0 0 ∷ taken 1 1 ∷ link_to (codes "confirm") 0 1 ∷ taken 2 2 ∷ taken 3 3 ∷ link_to (codes "confirm") 0 3
    ∷ refusal (Evicted 3) ∷ taken 4 4 ∷ ended (codes "B") ∷ [])
unfolding step
least_used_goes = refl

-- where there is room for two pages, one that was answered just now goes too, if its segment is older than the uses of the others
pub answered_page_goes :
    Answers (opened (record rules { pages = 2 }) hotel)
    (get (start name) nothing 0 ++ get (at 0 0 0) (text (codes "A")) 1 ++ takes (at 0 0 0) (text (codes "B")) ∷ get (at 0 1 1) nothing 3
    ++ publishes (at 0 0 0) (text (codes "B")) 2 ∷ takes (at 0 0 0) nothing ∷ get (at 0 2 2) nothing 4)
    (taken 0 0 ∷ link_to (codes "list") 0 0 ∷ taken 1 1 ∷ link_to (codes "confirm") 0 1 ∷ taken 2 2 ∷ taken 3 3 ∷ ended (codes "A")
    ∷ link_to (codes "confirm") 0 2 ∷ refusal (Evicted 2) ∷ taken 4 4 ∷ ended (codes "B") ∷ [])
unfolding step
answered_page_goes = refl

-- pages of other instances neither count nor go
pub each_instance_by_itself :
    Answers (opened (record rules { pages = 3 }) hotel)
    (get (start name) nothing 0 ++ get (at 0 0 0) (text (codes "A")) 1 ++ get (start name) nothing 2 ++ get (start name) nothing 3
    ++ get (at 0 0 0) (text (codes "B")) 4 ++ get (at 0 1 1) nothing 5 ++ get (at 2 2 2) (text (codes "C")) 6)
    (taken 0 0 ∷ link_to (codes "list") 0 0 ∷ taken 1 1 ∷ link_to (codes "confirm") 0 1 ∷ taken 2 2 ∷ link_to (codes "list") 2 2 ∷ taken 3 3
    ∷ link_to (codes "list") 3 3 ∷ taken 4 4 ∷ link_to (codes "confirm") 0 4 ∷ taken 5 5 ∷ ended (codes "A") ∷ taken 6 6 ∷ link_to (codes "confirm") 2 6 ∷ [])
unfolding step
each_instance_by_itself = refl

-- of two pages that were used as late as each other the one of the lower number goes
pub lower_number_goes :
    Answers (opened (record rules { pages = 2 }) hotel)
    (get (start name) nothing 0 ++ takes (at 0 0 0) (text (codes "A")) ∷ takes (at 0 0 0) (text (codes "B")) ∷ publishes (at 0 0 0) (text (codes "B")) 2
    ∷ publishes (at 0 0 0) (text (codes "A")) 1 ∷ takes (at 0 0 0) nothing ∷ get (at 0 2 2) nothing 3 ++ get (at 0 1 1) nothing 4)
    (taken 0 0 ∷ link_to (codes "list") 0 0 ∷ taken 1 1 ∷ taken 2 2 ∷ link_to (codes "confirm") 0 2 ∷ link_to (codes "confirm") 0 1
    ∷ refusal (Evicted 1) ∷ taken 3 3 ∷ ended (codes "B") ∷ taken 4 4 ∷ ended (codes "A") ∷ [])
unfolding step
lower_number_goes = refl

-- a page stays used by its latest segment where an older one answers it last
pub older_answer :
    Answers (opened (record rules { pages = 3 }) hotel)
    (get (start name) nothing 0 ++ takes (at 0 0 0) (text (codes "A")) ∷ get (at 0 0 0) (text (codes "B")) 2 ++ get (at 0 0 0) (text (codes "C")) 3
    ++ publishes (at 0 0 0) (text (codes "A")) 1 ∷ takes (at 0 2 2) nothing ∷ get (at 0 0 0) (text (codes "D")) 4 ++ takes (at 0 1 1) nothing ∷ [])
    (taken 0 0 ∷ link_to (codes "list") 0 0 ∷ taken 1 1 ∷ taken 2 2 ∷ link_to (codes "confirm") 0 2 ∷ taken 3 3 ∷ link_to (codes "confirm") 0 3
    ∷ link_to (codes "confirm") 0 1 ∷ refusal (Evicted 1) ∷ taken 4 4 ∷ link_to (codes "confirm") 0 4 ∷ refusal (Evicted 4) ∷ [])
unfolding step
older_answer = refl

-- an instance whose first page was answered three times, each time with a new page
abbrev four_pages : List (Event × Fate)
four_pages =
    get (start name) nothing 0 ++ get (at 0 0 0) (text (codes "A")) 1 ++ get (at 0 0 0) (text (codes "B")) 2 ++ get (at 0 0 0) (text (codes "C")) 3

-- where a shelf is opened with a lower limit, the pages that are too many go at once at the next page
pub lower_limit :
    Answers (record (after counted four_pages (opened rules hotel)) { rules = record rules { pages = 2 } })
    (get (at 0 0 0) (text (codes "D")) 4 ++ takes (at 0 1 1) nothing ∷ takes (at 0 2 2) nothing ∷ takes (at 0 3 3) nothing ∷ get (at 0 4 4) nothing 5)
    (taken 4 4 ∷ link_to (codes "confirm") 0 4 ∷ refusal (Evicted 4) ∷ refusal (Evicted 4) ∷ refusal (Evicted 4) ∷ taken 5 5 ∷ ended (codes "D") ∷ [])
unfolding step
lower_limit = refl

-- a page that was evicted counts as expired where an instance is freed
pub freed_with_evicted :
    Answers (opened (record rules { pages = 1; life = 100 }) hotel)
    (get (start name) nothing 0 ++ (sweep 50, plain) ∷ get (at 0 0 0) nothing 1 ++ (sweep 149, plain) ∷ (sweep 150, plain) ∷ [])
    (taken 0 0 ∷ link_to (codes "list") 0 0 ∷ swept 0 ∷ taken 1 1 ∷ link_to (codes "confirm") 0 1 ∷ swept 0 ∷ swept 1 ∷ [])
unfolding step
freed_with_evicted = refl

-- an instance is freed with a page that was evicted and whose own time is not over, as an earlier opening gave longer lives
pub freed_with_evicted_young :
    Answers (record (after counted (get (start name) nothing 0 ++ (sweep 50, plain) ∷ []) (opened (record rules { life = 100 }) hotel)) {
      rules = record rules { pages = 1; life = 10 };
    })
    (get (at 0 0 0) nothing 1 ++ (sweep 59, plain) ∷ (sweep 60, plain) ∷ takes (at 0 0 0) nothing ∷ [])
    (taken 1 1 ∷ link_to (codes "confirm") 0 1 ∷ swept 0 ∷ swept 1 ∷ refusal Unknown ∷ [])
unfolding step
freed_with_evicted_young = refl

-- what shows no page needs no room for one
pub ends_in_the_full :
    Answers (opened (record rules { pages = 1 }) (script [] [] (link (codes "1") ∷ says (codes "2") ∷ []))) (get (start name) nothing 0 ++ get (at 0 0 0) nothing 1)
    (taken 0 0 ∷ link_to (codes "1") 0 0 ∷ taken 1 1 ∷ ended (codes "2") ∷ [])
unfolding step
ends_in_the_full = refl

-- want of memory draws nothing at a take, no nonce either, and spends the number at a publish
pub no_memory_there :
    Answers (opened rules hotel)
    ((take (start name) nothing, no_memory) ∷ takes (start name) nothing ∷ (publishing (start name) nothing 0 0, no_memory) ∷ get (start name) nothing 1)
    (memory ∷ taken 0 0 ∷ memory ∷ taken 1 1 ∷ link_to (codes "list") 1 1 ∷ [])
unfolding step
no_memory_there = refl

-- a record that is too long, and a journal that would be; a shelf whose numbers are worn
pub too_long_a_record :
    Answers (opened (record rules { journal = Some (journal 100 1048577) }) hotel) (get (start name) nothing 0) (taken 0 0 ∷ oversize 1048577 ∷ [])
unfolding step
too_long_a_record = refl

-- a record that would make the journal longer than it may be is refused
pub too_long_a_journal :
    Answers (opened (record rules { journal = Some (journal (2 ^ 30 - 60) 50) }) hotel) (get (start name) nothing 0 ++ get (start name) nothing 1 ++ (sweep 5, plain) ∷ [])
    (taken 0 0 ∷ link_to (codes "list") 0 0 ∷ taken 1 1 ∷ journal_full 1073741874 ∷ journal_full 1073741874 ∷ [])
unfolding step
too_long_a_journal = refl

-- a shelf whose numbers are used up takes no visit
pub worn_out : (step rules (record (empty_book rules (hotel ∷ []) 0) { drawn = 2 ^ 62 }) 0 (take (start name) nothing) plain).0 ≡ worn
unfolding step
worn_out = refl

-- the fuel: a charge of ten beside the one of the whole, and one more
pub in_fuel : Answers (opened (record rules { fuel = 11 }) (script [] [] (says (codes "12345678") ∷ []))) (get (start name) nothing 0) (taken 0 0 ∷ ended (codes "12345678") ∷ [])
unfolding step
in_fuel = refl

-- a segment whose cost is above its fuel stops with that cost
pub out_of_it : Answers (opened (record rules { fuel = 11 }) (script [] [] (says (codes "123456789") ∷ []))) (get (start name) nothing 0) (taken 0 0 ∷ out_of_fuel 12 ∷ [])
unfolding step
out_of_it = refl

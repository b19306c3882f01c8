-- What the URLs of an instance's pages share.
use Rattle.page_names.specs.Views.{name_of}
use Rattle.replay_spec.specs.Next as next
use Rattle.book_visits.specs.declared.home.Home.{Home}

-- what the URLs of an instance's pages share, as the program's value says it
abbrev pub home_of : Home → next.Home
home_of h = record { name = name_of h.name; shelf = h.shelf; instance = h.instance }

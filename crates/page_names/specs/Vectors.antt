-- Paths, and what they name.
use Rattle.std.specs.Prelude.{◌≡◌, ◌++◌, Some, None, codes, replicate, refl}
use Rattle.std.specs.Fmt.{digits}
use Rattle.percent_encoding.specs.Percent.{percent_decode}
use Rattle.page_names.specs.Names.{start, page, spelling, named_by, destination_of}
use Rattle.page_names.specs.Hex.{hex16}

-- a path without a semicolon names the start of a script
pub a_start : destination_of (codes "/servlets/sum") ≡ Some (start (codes "sum"))
unfolding destination_of named_by percent_decode
a_start = refl

-- a path with four numbers names a page: its shelf, its instance, its number and its nonce
pub a_page : destination_of (codes "/servlets/sum;0*0*0*0000000000000000")
    ≡ Some (page (codes "sum") (record { shelf = 0; instance = 0; page = 0; nonce = 0 }))
unfolding destination_of named_by percent_decode
a_page = refl

-- the name of a script may have digits and hyphens, and its page large numbers
pub later_page : destination_of (codes "/servlets/my-shop2;3*10*4294967296*00000000deadbeef")
    ≡ Some (page (codes "my-shop2") (record { shelf = 3; instance = 10; page = 4294967296; nonce = 3735928559 }))
unfolding destination_of named_by percent_decode
later_page = refl

-- a nonce is spelled by sixteen hexadecimal digits
pub last_nonce : spelling (page (codes "a") (record { shelf = 4294967295; instance = 0; page = 1; nonce = 18446744073709551615 }))
    ≡ codes "/servlets/a;4294967295*0*1*ffffffffffffffff"
unfolding hex16 digits
last_nonce = refl

-- the number of a shelf has no leading zero
pub leading_zero : destination_of (codes "/servlets/sum;00*0*0*0000000000000000") ≡ None
unfolding destination_of named_by percent_decode
leading_zero = refl

-- the number of a page has no leading zero
pub page_leading_zero : destination_of (codes "/servlets/sum;0*0*00*0000000000000000") ≡ None
unfolding destination_of named_by percent_decode
page_leading_zero = refl

-- the number of an instance has no sign
pub signed_number : destination_of (codes "/servlets/sum;0*+1*0*0000000000000000") ≡ None
unfolding destination_of named_by percent_decode
signed_number = refl

-- the number of a shelf has 32 bits
pub great_shelf : destination_of (codes "/servlets/sum;4294967296*0*0*0000000000000000") ≡ None
unfolding destination_of named_by percent_decode
great_shelf = refl

-- a nonce has small letters
pub capital_nonce : destination_of (codes "/servlets/sum;0*0*0*00000000DEADBEEF") ≡ None
unfolding destination_of named_by percent_decode
capital_nonce = refl

-- a nonce has no seventeenth digit
pub long_nonce : destination_of (codes "/servlets/sum;0*0*0*00000000000000000") ≡ None
unfolding destination_of named_by percent_decode
long_nonce = refl

-- a nonce has all of its sixteen digits
pub short_nonce : destination_of (codes "/servlets/sum;0*0*0*000000000000000") ≡ None
unfolding destination_of named_by percent_decode
short_nonce = refl

-- the name of a script has 32 bytes at most
pub long_name : destination_of (codes "/servlets/" ++ replicate 33 97) ≡ None
unfolding destination_of named_by percent_decode
long_name = refl

-- the name of a script may have 32 bytes
pub longest_name : destination_of (codes "/servlets/" ++ replicate 32 97) ≡ Some (start (replicate 32 97))
unfolding destination_of named_by percent_decode
longest_name = refl

-- the name of a script has small letters
pub capital_name : destination_of (codes "/servlets/Sum") ≡ None
unfolding destination_of named_by percent_decode
capital_name = refl

-- the name of a script is not empty
pub empty_name : destination_of (codes "/servlets/") ≡ None
unfolding destination_of named_by percent_decode
empty_name = refl

-- `%2A` is `*`
pub escaped_star : destination_of (codes "/servlets/sum;0%2A0%2A0%2A0000000000000000")
    ≡ Some (page (codes "sum") (record { shelf = 0; instance = 0; page = 0; nonce = 0 }))
unfolding destination_of named_by percent_decode
escaped_star = refl

-- `%73` is `s`
pub escaped_letter : destination_of (codes "/%73ervlets/sum") ≡ Some (start (codes "sum"))
unfolding destination_of named_by percent_decode
escaped_letter = refl

-- `%3b` is `;`
pub escaped_end : destination_of (codes "/servlets/sum%3b1*2*3*000000000000000a")
    ≡ Some (page (codes "sum") (record { shelf = 1; instance = 2; page = 3; nonce = 10 }))
unfolding destination_of named_by percent_decode
escaped_end = refl

-- `%252A` is `%2A`, and no `*`
pub escaped_twice : destination_of (codes "/servlets/sum;0%252A0*0*0000000000000000") ≡ None
unfolding destination_of named_by percent_decode
escaped_twice = refl

-- what is no escape stays as it is
pub lone_percent : destination_of (codes "/servlets/sum%") ≡ None
unfolding destination_of named_by percent_decode
lone_percent = refl

-- nothing may stand after a page's nonce, nor before the path
pub more_behind : destination_of (codes "/servlets/sum;0*0*0*0000000000000000*0") ≡ None
unfolding destination_of named_by percent_decode
more_behind = refl

-- a path begins with one slash
pub more_before : destination_of (codes "//servlets/sum") ≡ None
unfolding destination_of named_by percent_decode
more_before = refl

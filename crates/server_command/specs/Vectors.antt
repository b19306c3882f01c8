-- Worked rows: what a server tells at its end.
use Rattle.std.specs.Prelude.{◌≡◌, codes, refl}
use Rattle.std.specs.Fmt.{digits}
use Rattle.server_command.specs.Serving.{count_line}

-- connections that failed are not told, and none was dropped
pub nothing_dropped : count_line (record { pages = 3; refused = 2; failed = 1; dropped = 0 }) ≡ codes "pages 3 refused 2\n"
unfolding digits
nothing_dropped = refl

-- three connections were dropped for want of memory
pub three_dropped : count_line (record { pages = 12; refused = 0; failed = 0; dropped = 3 }) ≡ codes "pages 12 refused 0 dropped 3\n"
unfolding digits
three_dropped = refl

-- What the command promises, from why it ended so.
use Rattle.std.proofs.Common.{◌≡◌, ◌≤◌, ◌∙◌, inl, inr, ℕ, None, IfSome, refl, sym, subst, arith}
use Rattle.web_outside.specs.Causes.{Rose}
use Rattle.command_words.specs.declared.Command.{Command}
use Rattle.command_words.specs.declared.Command.TheVariants.{Audit, Check, Export, Follow, Load, Play, Promote, Serve}
use Rattle.play_desk.specs.Laws.{TranscriptsAreRuns}
use Rattle.server_command.specs.declared.program.Status.{Status}
use Rattle.server_command.specs.declared.program.Status.TheVariants as status
use Rattle.server_command.specs.Command.{Around, ComesTo, Ends, EndsAs, EndsAsLoad, EndsWell, Explained, Explains, HasCause, IsComplete, IsTidy, Met, ReadsInput, Settles, asked_in, asks_in, code_of, met_in, reached_by, serves_in}
use Rattle.server_command.specs.Order.{AsksInOrder}
use Rattle.server_command.specs.Output.{Chances, Hands}
use Rattle.server_command.specs.Racks.{AreBack}
use Rattle.server_command.specs.Serving.{Serves}
use Rattle.server_command.proofs.Causes.{never_usage, plain_asks}
use Rattle.server_command.proofs.Dues.{EndsSo, complete, disk_cause, door_cause, exact_if, key_cause, load_complete, load_exact}
use Rattle.server_command.proofs.Loads.{loads_events}
use Rattle.server_command.proofs.Playing.{plays_events}

pub ends : {D P L N : Type 0} (a : Around D P L N) → TranscriptsAreRuns → (result : ℕ) (s : Status) → result ≡ code_of s
    → Explained (serves_in a) s (met_in a) → AsksInOrder (asks_in a) a.rack (asked_in a.words) s → Ends result a
ends a law result s code h order = record {
  chances = h.0;
  status = s;
  code = code;
  explained = h.1;
  order = order;
  events = λ o bytes setup asked input is none. plays_events law o bytes setup h.0 is none;
  load_events = λ l asked. loads_events law l h.0.fates;
  exact = subst (λ n. IfSome a.input.before.left (λ bytes. ReadsInput (asked_in a.words) → Settles a.rack (reached_by (asked_in a.words) bytes)
      → EndsAs n (met_in a) bytes h.0)) (sym code) (exact_if (serves_in a) s (met_in a) h.0 a.input.before.left refl refl h.1);
  exact_load = λ l asked t. subst (λ n. EndsAsLoad n (met_in a) l h.0) (sym code) (load_exact (serves_in a) l s (met_in a) h.0 asked t h.1);
}

pub completes : (serves : Serves) (result : ℕ) (s : Status) (met : Met) → serves.rack ≡ met.rack → result ≡ code_of s → Explained serves s met
    → IsComplete result met
completes serves result s met same code h = record {
  plain = λ asked p. plain_asks met.words asked p;
  lawful = λ asked bytes plain told lawful opens read write well.
      subst (λ n. EndsSo asked n met bytes) (sym code)
      (complete serves s met asked bytes same (plain_asks met.words asked plain) told lawful opens read write well h.0 h.1);
  load = λ l plain opens write well.
      subst (EndsWell (Load l)) (sym code) (load_complete serves s met l (plain_asks met.words (Load l) plain) opens write well h.0 h.1);
}

-- ---- causes

usage_of : (serves : Serves) (chances : Chances) (met : Met) → Explains serves status.Usage chances met → asked_in met.words ≡ None
usage_of serves chances met (inl h) = h.0
usage_of serves chances met (inr h) = absurd (never_usage serves h.0 chances met h.1.1)

read_by : (serves : Serves) (asked : Command) (chances : Chances) (met : Met) → ComesTo serves asked chances status.Read met
    → Rose met.input_before met.input_after
read_by serves Check chances met h = h.0
read_by serves (Play o) chances met h = h.0
read_by serves (Serve v) chances met h = h.0.0
read_by serves (Load l) chances met h = absurd h.1
read_by serves (Audit o) chances met h = absurd h
read_by serves (Export o) chances met h = absurd h
read_by serves (Follow o) chances met h = absurd h
read_by serves (Promote o) chances met h = absurd h

read_of : (serves : Serves) (chances : Chances) (met : Met) → Explains serves status.Read chances met → Rose met.input_before met.input_after
read_of serves chances met (inl h) = absurd h
read_of serves chances met (inr h) = read_by serves h.0 chances met h.1.1

write_by : (serves : Serves) (asked : Command) (chances : Chances) (met : Met) → ComesTo serves asked chances status.Write met
    → Rose met.output.before met.output.after
write_by serves Check chances met h = h.1
write_by serves (Play o) chances met h = h.1
write_by serves (Serve v) chances met h = h.1
write_by serves (Load l) chances met h = h.1.0
write_by serves (Audit o) chances met h = absurd h
write_by serves (Export o) chances met h = absurd h
write_by serves (Follow o) chances met h = absurd h
write_by serves (Promote o) chances met h = absurd h

write_of : (serves : Serves) (chances : Chances) (met : Met) → Explains serves status.Write chances met → Rose met.output.before met.output.after
write_of serves chances met (inl h) = absurd h
write_of serves chances met (inr h) = write_by serves h.0 chances met h.1.1

is_usage : (s : Status) → code_of s ≡ 2 → s ≡ status.Usage
is_usage s e = grind (arith, e)

is_read : (s : Status) → code_of s ≡ 5 → s ≡ status.Read
is_read s e = grind (arith, e)

is_write : (s : Status) → code_of s ≡ 6 → s ≡ status.Write
is_write s e = grind (arith, e)

is_done : (s : Status) → code_of s ≡ 0 → s ≡ status.Done
is_done s e = grind (arith, e)

pub causes : (serves : Serves) (result : ℕ) (s : Status) (met : Met) → result ≡ code_of s → Explained serves s met → HasCause result met
causes serves result s met code h = record {
  usage = λ e. usage_of serves h.0 met (subst (λ x. Explains serves x h.0 met) (is_usage s (sym code ∙ e)) h.1);
  read = λ e. read_of serves h.0 met (subst (λ x. Explains serves x h.0 met) (is_read s (sym code ∙ e)) h.1);
  write = λ e. write_of serves h.0 met (subst (λ x. Explains serves x h.0 met) (is_write s (sym code ∙ e)) h.1);
  disk = λ e. disk_cause serves s met h (sym code ∙ e);
  door = λ e. door_cause serves s met h (sym code ∙ e);
  key = λ e. key_cause serves s met h (sym code ∙ e);
}

-- ---- whatever it came to

pub tidies : {D P L N : Type 0} (a : Around D P L N) (result : ℕ) (s : Status) → result ≡ code_of s → Hands s a.output.before a.output.after
    → AreBack a.rack.before a.rack.after → a.input.before.faults ≤ a.input.after.faults → a.door.before.faults ≤ a.door.after.faults
    → a.seeds.before.faults ≤ a.seeds.after.faults → IsTidy result a
tidies a result s code hands back input door seeds = record {
  handed = hands.on;
  done = λ e. hands.done (is_done s (sym code ∙ e));
  home = back.home;
  input = input;
  output = hands.later;
  rack = back.later;
  door = door;
  seeds = seeds;
}

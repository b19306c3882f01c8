use Rattle.std.proofs.Common.{◌∙◌, ap, sym, option_map}
use Rattle.script_nodes.specs.Views.{scripts_of}
use Rattle.play_desk.proofs.Edited.{edited_read}
use Rattle.play_desk.proofs.desk.DeskStage.edit.Goals as goal

pub returns-in-Some-clause-sound : goal.returns-in-Some-clause-sound
returns-in-Some-clause-sound g c = record {
  read = edited_read (scripts_of c.args.self.now.setup) (scripts_of c.in-Some.setup) c.args.name.now c.args.text.now c.requires.read
      (sym c.in_ok-setup.ensures ∙ ap (option_map scripts_of) c.in-Some.is);
  fit = c.requires.fit;
}

use Rattle.std.proofs.Common.{ap, ap₂}
use Rattle.map_file.specs.declared.reader.Reader.{Reader}
use Rattle.map_file.specs.declared.use_text.UseText.{UseText}
use Rattle.std.specs.Prelude.{List}
use Rattle.map_file.proofs.InStep.{of_parts, with_use}
use Rattle.map_file.proofs.reader.Reader.keep_use.Goals as goal
use Rattle.map_file.proofs.reader.Reader.keep_use.Goals.{in-Ok, in-Err}

abbrev using_them : Reader → List UseText → Reader
using_them r uses = record r { uses = uses }

pub returns : goal.returns
returns c =
    elim c.match-push.branch [
      | in-Ok w ↦
          rw w.result-is (
            with_use c.args.self.now _ c.args.used c.requires.in_step c.requires.within
                (ap (using_them c.args.self.now) w.in-Ok.ensures.ok),
            ap₂ (λ us m. of_parts c.args.self.now.maps us m) w.in-Ok.ensures.ok c.requires.alone,
          )
      | in-Err w ↦ rw w.result-is tt
    ]

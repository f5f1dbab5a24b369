use Rattle.std.proofs.Common.{sym, ap, ◌∙◌}
use Rattle.map_file.specs.Lines.{unless_empty}
use Rattle.map_file.proofs.NameSteps.{map_name-other, map_name-utf8}
use Rattle.map_file.proofs.words.map_name.Goals as goal

pub returns-in-Ok : goal.returns-in-Ok
returns-in-Ok c =
    c.unless_empty.ensures ∙ ap unless_empty c.in-Ok.ensures.cases.0
    ∙ sym (map_name-utf8 c.args.word.now c.in-Ok.ensures.cases.1)

pub returns-in-Err : goal.returns-in-Err
returns-in-Err c = sym (map_name-other c.args.word.now c.in-Err.ensures.cases.0)

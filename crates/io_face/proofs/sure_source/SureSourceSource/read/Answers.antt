-- What was copied is the front of the bytes left.
use Rattle.std.proofs.Common.{rules, ◌≡◌, Some, ap, sym, ◌∙◌, length, take, drop}
use Rattle.std.proofs.lemmas.Grind.{common_steps}
use Rattle.io_face.specs.SourceLaws.{copied_front}
use Rattle.io_face.proofs.sure_source.SureSourceSource.read.Goals as goal

pub returns-clause-taken : goal.returns-clause-taken
returns-clause-taken c =
    let fits : length c.copy_from_slice.new.self ≡ c.min-count.result =
    search (rules, common_steps) in
    let copied : c.copy_from_slice.new.self
    ≡ take c.min-count.result (drop c.self.inside.taken c.self.inside.bytes.items) = search
    (rules, common_steps) in
    ap Some (sym c.self.view_is ∙ copied_front _ _ _ _ _ fits copied)

use Rattle.std.specs.Prelude.{map}
use Rattle.std.proofs.Common.{◌∙◌, ap}
use Rattle.certificates.specs.Points.{addresses_of}
use Rattle.dualization.specs.Rows.{left_named}
use Rattle.dualization.proofs.RowLemmas.{row_pushed}
use Rattle.dualization.proofs.rows.push_row.Goals as goal

pub returns-in_ok-push-in-Some : goal.returns-in_ok-push-in-Some
returns-in_ok-push-in-Some c =
    let model = c.args.model.now.model in
    let names = c.args.names.now in
    let g = c.args.group.now in
    row_pushed names model c.args.place c.args.own (addresses_of g.vars) g.set c.in-Some.set
    c.in_ok-row_name-in-Some.field-0 c.named_in.result c.in_ok-functions-in-Some.functions.items
    c.own_from-two.result c.in_ok-row_set.field-0 c.args.edits.now.items c.push.new.self.items
    c.requires.columns c.requires.size c.in_ok-row_set.ensures c.in-Some.is c.in_ok-row_name-in-Some.ensures
    c.named_in.ensures
    (c.in_ok-functions-in-Some.ensures
    ∙ ap (λ vs. map (left_named model names c.own_from-two.result) (addresses_of vs))
    c.as_slice.ensures)
    c.own_from-two.ensures c.in_ok-push-in-Some.ensures.items

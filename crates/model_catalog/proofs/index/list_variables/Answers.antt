use Rattle.std.proofs.Common.{arith, ap, ◌∙◌}
use Rattle.numbered_list.specs.Numbered.{find, set_at}
use Rattle.model_catalog.specs.declared.names.NameChange.{NameChange}
use Rattle.model_catalog.specs.Index.{given_variable, variable_number}
use Rattle.model_catalog.proofs.Listings.{listed_more}
use Rattle.model_catalog.proofs.index.list_variables.Goals as goal

pub loop-item-preserved : goal.loop-item-preserved
loop-item-preserved c =
    let now = c.loop-item.kept.items in
    listed_more c.args.group c.args.kept.now.items now c.list_variable.new.kept.items
    c.args.listed.now c.loop-item.item-index c.args.kept.now.room
    c.loop-item.kept.room c.list_variable.new.kept.room c.item-item.result
    c.loop-item.invariant (omega arith)
    (c.list_variable.ensures.after ∙ ap (λ (y : NameChange). set_at variable_number y.number
    (given_variable c.args.group y (find variable_number y.number now)) now) c.item-item.is)
    c.list_variable.ensures.rising c.list_variable.ensures.capacity

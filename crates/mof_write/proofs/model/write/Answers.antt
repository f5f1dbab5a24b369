use Rattle.std.proofs.Common.{◌∙◌, subst, sym}
use Rattle.serde_json.specs.View.{view}
use Rattle.mof_write.specs.Written.{IsTextOf, model_data}
use Rattle.mof_write.proofs.WrittenText.{reads_as, text_is}
use Rattle.mof_write.proofs.model.write.Goals as goal

pub returns-clause-text : goal.returns-clause-text
returns-clause-text c =
    let told = c.in_ok-value.ensures in
    let text = c.in_ok-text.ensures in
    c.from_vec.ensures
    ∙ text_is c.args.model.now.model (view c.in_ok-value.value) c.in_ok-text.text.items told.valid
    told.value text.text

pub returns-clause-reads_back : goal.returns-clause-reads_back
returns-clause-reads_back c =
    let told = c.in_ok-value.ensures in
    let text = c.in_ok-text.ensures in
    subst (λ t. IsTextOf t (model_data c.args.model.now.model)) (sym c.from_vec.ensures)
    (reads_as c.args.model.now.model (view c.in_ok-value.value) c.in_ok-text.text.items told.valid
    told.value text.text text.utf8 text.reads_back)

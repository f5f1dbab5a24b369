use Rattle.std.proofs.Common.{◌≡◌, ◌∷◌, [], Some, map, refl, ap, ◌∙◌}
use Rattle.std.proofs.lemmas.Result.{IfOk-weaker}
use Rattle.user_model.specs.declared.edit.Edit.TheVariants as edit
use Rattle.user_model.specs.Edited.{edited, renamed}
use Rattle.model_laws.specs.Passed.{passed}
use Rattle.model_catalog.specs.Names.{listed_as}
use Rattle.model_plans.proofs.Leading.{parts_same}
use Rattle.model_plans.proofs.GroupPlans.{renamed_leads}
use Rattle.model_plans.proofs.groups.rename.Goals as goal

pub returns : goal.returns
unfolding edited
returns c =
    let model = c.args.model.now.model in
    let free = (passed model (edit.RenameVariable c.args.var.now.name.now c.args.new.now)
    c.requires.accepts.accepted).free in
    let names : c.in_ok-listed.listed.items ≡ c.new.result ∷ [] = c.in_ok-listed.ensures in
    let made : c.in_ok-vars.vars.items ≡ map (renamed c.args.var.now.number c.args.new.now)
    c.as_slice.result.now = c.in_ok-vars.ensures in
    let vars = c.from_vec.ensures ∙ (made ∙ ap (map (renamed c.args.var.now.number c.args.new.now))
    c.as_slice.ensures) in
    let listed_name = c.in_ok-copy-2.ensures in
    let set : c.in_ok-copy.field-0 ≡ c.args.var.now.group.now.set = c.in_ok-copy.ensures in
    IfOk-weaker c.of_group.result _ _ (λ plan p. renamed_leads model plan
    c.requires.accepts.consistent c.args.var.now.name.now c.args.var.now.number c.requires.var.0
    c.args.var.now.group.now c.requires.var.1 c.args.new.now free p.1
    (parts_same p.0 _ [] _ _ [] (λ i. record {
      number = c.args.var.now.group.now.id;
      content = Some (record {
        id = c.args.var.now.group.now.id;
        vars = vars i;
        set = set i;
      });
    } ∷ []) refl c.next.ensures (names ∙ (ap (λ l. l ∷ []) c.new.ensures
    ∙ (λ i. listed_as c.args.var.now.number (Some (listed_name i)) ∷ []))) refl))
    c.of_group.ensures

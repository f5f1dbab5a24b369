use Rattle.std.proofs.Common.{◌≡◌, ◌+◌, ◌∷◌, [], Some, arith, refl, ap, ◌∙◌}
use Rattle.std.proofs.lemmas.Result.{IfOk-weaker}
use Rattle.user_model.specs.Edited.{edited, numbered_from}
use Rattle.model_plans.specs.Plans.{listed_variables}
use Rattle.model_plans.proofs.Leading.{parts_same}
use Rattle.model_plans.proofs.GroupPlans.{added_leads, next_group}
use Rattle.model_plans.proofs.groups.add.Goals as goal

pub numbered_vars-requires : goal.numbered_vars-requires
numbered_vars-requires c =
    let next = ap (λ k. k.variable) c.next-next.ensures in
    let fits = (next_group c.args.model.now.model c.args.names.now c.args.set.now c.requires).1 in
    omega (arith, next, fits)

pub overflow_add-after : goal.overflow_add-after
overflow_add-after c =
    let next = ap (λ k. k.group) c.next-next.ensures in
    let fits = (next_group c.args.model.now.model c.args.names.now c.args.set.now c.requires).0 in
    omega (arith, next, fits)

pub overflow_cast-after : goal.overflow_cast-after
overflow_cast-after c =
    let fits = (next_group c.args.model.now.model c.args.names.now c.args.set.now c.requires).1 in
    let long = c.len.ensures in
    omega (arith, fits, long)

pub overflow_add-after-2 : goal.overflow_add-after-2
overflow_add-after-2 c =
    let next = ap (λ k. k.variable) c.next-next.ensures in
    let fits = (next_group c.args.model.now.model c.args.names.now c.args.set.now c.requires).1 in
    let long = c.len.ensures in
    omega (arith, next, fits, long)

pub returns : goal.returns
unfolding edited
returns c =
    let model = c.args.model.now.model in
    let next = c.next-next.ensures in
    let made : c.in_ok-vars.vars.items ≡ numbered_from c.next-next.result.variable
    c.args.names.now = c.in_ok-vars.ensures in
    let numbered = made ∙ ap (λ k. numbered_from k.variable c.args.names.now) next in
    let vars = c.from_vec.ensures ∙ numbered in
    let shown : c.in_ok-listed.listed.items ≡ listed_variables c.deref.result.now =
    c.in_ok-listed.ensures in
    let long = c.len.ensures in
    let copied : c.in_ok-copy.field-0 ≡ c.args.set.now = c.in_ok-copy.ensures in
    IfOk-weaker c.of_group.result _ _ (λ plan p. added_leads model plan c.args.names.now
    c.args.set.now c.requires.consistent (p.1 ∙ ap (λ k. k.group) c.next-next.ensures)
    (parts_same p.0 _ [] _ _ [] (λ i. record {
      number = (next i).group;
      content = Some (record { id = (next i).group; vars = vars i; set = copied i });
    } ∷ []) refl
    (λ i. record {
      group = (next i).group + 1;
      variable = (next i).variable + long i;
      row = (next i).row;
    }) (shown ∙ ap listed_variables (c.deref.ensures.value ∙ numbered))
    refl)) c.of_group.ensures

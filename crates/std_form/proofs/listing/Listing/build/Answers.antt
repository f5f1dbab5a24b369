use Rattle.std.specs.Prelude.{map}
use Rattle.std.specs.Option.{option_copied}
use Rattle.std.proofs.Common.{◌∙◌, ap, subst}
use Rattle.address_map.specs.Places.{AreIndicesOneToOne}
use Rattle.std_form.specs.Borrowed.{row_in}
use Rattle.std_form.specs.Indexed.{rows_of, variables_of}
use Rattle.std_form.specs.ListedLeaves.{ListedLeaves}
use Rattle.std_form.specs.ToldLaws.{built_is, built_well, tells_listed, tells_through}
use Rattle.std_form.proofs.listing.Listing.build.Goals as goal

pub returns : goal.returns
returns c =
    let all = c.args.self.now in
    let is = c.self.view_is in
    let r = c.form_by_index.result in
    let told = tells_listed all.map all.leaves c.deref.result.now (map row_in c.deref-2.result.now)
    (c.deref.ensures.value ∙ c.self.invariant.0
    ∙ ap (λ (l : ListedLeaves). variables_of l.map l.leaves) is)
    (ap (map row_in) c.deref-2.ensures.value ∙ c.self.invariant.1
    ∙ ap (λ (l : ListedLeaves). rows_of l.map l.leaves) is)
    (option_copied c.objective.result)
    (c.objective.ensures ∙ ap (λ (l : ListedLeaves). l.leaves.objective) is)
    r c.form_by_index.ensures in
    record {
      told = λ at readable. tells_through all.map all.leaves
          (subst (λ (l : ListedLeaves). AreIndicesOneToOne l.map.vars.indices) is
          c.var_at-one_to_one.ensures.one_to_one) readable at r told;
      built = built_is all.map all.leaves r told;
      well_shaped = built_well all.map all.leaves r told;
    }

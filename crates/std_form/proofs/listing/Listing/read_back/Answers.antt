use Rattle.std.specs.Prelude.{map}
use Rattle.std.proofs.Common.{◌∙◌, ap, subst}
use Rattle.address_map.specs.Places.{AreIndicesOneToOne}
use Rattle.std_form.specs.Borrowed.{row_in}
use Rattle.std_form.specs.Indexed.{rows_of, variables_of}
use Rattle.std_form.specs.ListedLeaves.{ListedLeaves}
use Rattle.std_form.specs.ToldLaws.{answer_listed, answer_through, read_is, right_through}
use Rattle.std_form.proofs.listing.Listing.read_back.Goals as goal

pub returns : goal.returns
returns c =
    let all = c.args.self.now in
    let is = c.self.view_is in
    let form = c.args.form.now in
    let a = c.args.a.now in
    let r = c.read_by_index.result in
    let one_var = subst (λ (l : ListedLeaves). AreIndicesOneToOne l.map.vars.indices) is
    c.var_at-variables.ensures.one_to_one in
    let one_row = subst (λ (l : ListedLeaves). AreIndicesOneToOne l.map.rows.indices) is
    c.row_at-rows.ensures.one_to_one in
    let told = answer_listed all.map all.leaves c.deref.result.now
    (map row_in c.deref-2.result.now)
    (c.deref.ensures.value ∙ c.self.invariant.0
    ∙ ap (λ (l : ListedLeaves). variables_of l.map l.leaves) is)
    (ap (map row_in) c.deref-2.ensures.value ∙ c.self.invariant.1
    ∙ ap (λ (l : ListedLeaves). rows_of l.map l.leaves) is)
    form a r c.read_by_index.ensures in
    record {
      by_index = read_is all.map all.leaves one_var one_row form c.requires a r told;
      told = λ at. answer_through all.map all.leaves one_var one_row form c.requires a at r told;
      right = λ at readable right. right_through all.map all.leaves one_var one_row form
          c.requires a at readable right r told;
    }

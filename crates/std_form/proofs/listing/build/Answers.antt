use Rattle.std.specs.Prelude.{◌≡◌, IfOk}
use Rattle.std.proofs.Common.{subst}
use Rattle.aff_core.specs.Address.{Address}
use Rattle.leaf_model.specs.ReadThrough.{read_through}
use Rattle.std_form.specs.Indexed.{form_of}
use Rattle.std_form.specs.ListedLeaves.{ListedLeaves}
use Rattle.std_form.specs.Readable.{IsReadable}
use Rattle.std_form.specs.Told.{TellsForm}
use Rattle.std_form.proofs.listing.build.Goals as goal

pub returns : goal.returns
returns c =
    let is = c.in_ok-listing.ensures in
    let r = c.build.result in
    record {
      told = subst (λ (l : ListedLeaves). (at : Address) → IsReadable l.map l.leaves
          → TellsForm (read_through l.map l.leaves at) r) is c.build.ensures.told;
      built = subst (λ (l : ListedLeaves). IfOk r (λ form. form ≡ form_of l.map l.leaves)) is
          c.build.ensures.built;
      well_shaped = c.build.ensures.well_shaped;
    }

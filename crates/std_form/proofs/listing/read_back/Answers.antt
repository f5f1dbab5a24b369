use Rattle.std.specs.Prelude.{◌≡◌, IfOk}
use Rattle.std.proofs.Common.{◌∙◌, ap, subst, sym}
use Rattle.aff_core.specs.Address.{Address}
use Rattle.equality_form.specs.Right.{IsRight}
use Rattle.leaf_model.specs.ReadThrough.{read_through}
use Rattle.simplex_core.specs.Answer.{IsRightAnswer}
use Rattle.simplex_core.specs.StdForm.{equality_form}
use Rattle.std_form.specs.Answers.{answer_of, read_by_index}
use Rattle.std_form.specs.Indexed.{form_of}
use Rattle.std_form.specs.ListedLeaves.{ListedLeaves}
use Rattle.std_form.specs.Readable.{IsReadable}
use Rattle.std_form.specs.Told.{TellsAnswer}
use Rattle.std_form.proofs.listing.read_back.Goals as goal

pub read_back-requires : goal.read_back-requires
read_back-requires c =
    c.requires ∙ ap (λ (l : ListedLeaves). form_of l.map l.leaves) (sym c.in_ok-listing.ensures)

pub returns : goal.returns
returns c =
    let is = c.in_ok-listing.ensures in
    let form = c.args.form.now in
    let a = c.args.a.now in
    let r = c.read_back.result in
    record {
      by_index = subst (λ (l : ListedLeaves). IfOk r (λ answer.
          answer ≡ read_by_index l.map l.leaves form.flips a)) is c.read_back.ensures.by_index;
      told = subst (λ (l : ListedLeaves). (at : Address)
          → TellsAnswer l.map (read_through l.map l.leaves at) a r) is c.read_back.ensures.told;
      right = subst (λ (l : ListedLeaves). (at : Address) → IsReadable l.map l.leaves
          → IsRightAnswer (equality_form form) a → IfOk r (λ answer.
          IsRight (read_through l.map l.leaves at) (answer_of l.map answer))) is
          c.read_back.ensures.right;
    }

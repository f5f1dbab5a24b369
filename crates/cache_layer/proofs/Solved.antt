-- What the form's calls tell of the leaf model.
use Rattle.std.specs.Prelude.{◌≡◌, ℕ, IfOk, IsErrAnd, Result, Ok, Err}
use Rattle.std.proofs.Common.{subst, sym}
use Rattle.ratio_core.specs.declared.fault.NumberFault.{NumberFault}
use Rattle.ratio_core.specs.declared.fault.NumberFault.TheVariants as number
use Rattle.address_map.specs.AddressMap.{AddressMap}
use Rattle.aff_core.specs.Address.{Address}
use Rattle.cache_layer.specs.Faults.{form_fault, read_fault, solve_fault}
use Rattle.cache_layer.specs.Optimizing.{TellsLeaf}
use Rattle.cache_layer.specs.Outcome.{IsFormMade, IsFormSolved, Stops, at_a_pivot, at_a_right_side, at_reading_back, form_in, out_of_pivots, too_large}
use Rattle.cache_layer.specs.declared.fault.OptFault.{OptFault}
use Rattle.cache_layer.specs.declared.fault.OptFault.TheVariants.{Limit, TooLarge}
use Rattle.equality_form.specs.Right.{IsRight}
use Rattle.leaf_model.specs.LeafModel.{LeafModel}
use Rattle.leaf_model.specs.ReadThrough.{read_through}
use Rattle.simplex_core.specs.Answer.{IsRightAnswer, SaysOutcome}
use Rattle.simplex_core.specs.StdForm.{equality_form}
use Rattle.simplex_core.specs.declared.answer.SolverAnswer.{SolverAnswer}
use Rattle.simplex_core.specs.declared.fault.SolveFault.{SolveFault}
use Rattle.simplex_core.specs.declared.fault.SolveFault.TheVariants as solve
use Rattle.simplex_core.specs.declared.form.StdForm.{StdForm}
use Rattle.solver_store.specs.SolverModel.{Leaves}
use Rattle.solver_store.specs.declared.answer.LeafAnswer.{LeafAnswer}
use Rattle.std_form.specs.Answers.{answer_of}
use Rattle.std_form.specs.ListedLeaves.{ListedLeaves, listed}
use Rattle.std_form.specs.Readable.{IsReadable}
use Rattle.std_form.specs.Told.{TellsAnswer, TellsForm}
use Rattle.std_form.specs.declared.fault.FormFault.{FormFault}
use Rattle.std_form.specs.declared.fault.FormFault.TheVariants as form

-- what is said of a fault is said of the result that hands it on
pub handed_on : {A : Type 0} (Q : Result A OptFault → Type 0) (r : Result A OptFault)
    (fault : OptFault) → IsErrAnd r (λ e. e ≡ fault) → Q (Err fault) → Q r
handed_on Q (Ok a) fault h told = absurd h
handed_on Q (Err e) fault h told = subst (λ f. Q (Err f)) (sym h) told

-- what holds of a listing holds of the model and the map that were listed
module _ (listing : ListedLeaves) (map : AddressMap) (stored : Leaves) (is : listing ≡ listed map stored)
  where
    pub form_listed : (r : Result StdForm FormFault)
        → ((at : Address) → IsReadable listing.map listing.leaves
        → TellsForm (read_through listing.map listing.leaves at) r)
        → (at : Address) → IsReadable map stored → TellsForm (read_through map stored at) r
    form_listed r told =
        subst (λ (l : ListedLeaves). (at : Address) → IsReadable l.map l.leaves
        → TellsForm (read_through l.map l.leaves at) r) is told

    pub answer_listed : (answer : SolverAnswer) (r : Result LeafAnswer NumberFault)
        → ((at : Address)
        → TellsAnswer listing.map (read_through listing.map listing.leaves at) answer r)
        → (at : Address) → TellsAnswer map (read_through map stored at) answer r
    answer_listed answer r told =
        subst (λ (l : ListedLeaves). (at : Address)
        → TellsAnswer l.map (read_through l.map l.leaves at) answer r) is told

    pub right_listed : (form : StdForm) (answer : SolverAnswer) (r : Result LeafAnswer NumberFault)
        → ((at : Address) → IsReadable listing.map listing.leaves
        → IsRightAnswer (equality_form form) answer → IfOk r (λ leaf.
        IsRight (read_through listing.map listing.leaves at) (answer_of listing.map leaf)))
        → (at : Address) → IsReadable map stored → IsRightAnswer (equality_form form) answer
        → IfOk r (λ leaf. IsRight (read_through map stored at) (answer_of map leaf))
    right_listed form answer r told =
        subst (λ (l : ListedLeaves). (at : Address) → IsReadable l.map l.leaves
        → IsRightAnswer (equality_form form) answer → IfOk r (λ leaf.
        IsRight (read_through l.map l.leaves at) (answer_of l.map leaf))) is told

module _ (map : AddressMap) (leaves : LeafModel) (pivots : ℕ) where
  pub unmade : (fault : FormFault) → TellsForm leaves (Err fault)
      → TellsLeaf map leaves pivots (Err (form_fault fault))
  unmade (form.TooLarge cells) h =
      subst (λ n. Stops leaves pivots (TooLarge n)) (sym h.1) (too_large h.0)
  unmade form.Overflow h = at_a_right_side h.0 h.1
  unmade form.Memory h = tt

  made : (f : StdForm) → TellsForm leaves (Ok f) → IsFormMade leaves
  made f h = record { cells = h.1; rights = h.2 }

  of_the_form : (f : StdForm) (result : Result SolverAnswer SolveFault) → TellsForm leaves (Ok f)
      → SaysOutcome (equality_form f) pivots result → SaysOutcome (form_in leaves) pivots result
  of_the_form f result h says =
      subst (λ g. SaysOutcome (equality_form g) pivots result) h.0 says

  stops_at : (fault : SolveFault) → IsFormMade leaves
      → SaysOutcome (form_in leaves) pivots (Err fault)
      → TellsLeaf map leaves pivots (Err (solve_fault fault))
  stops_at (solve.Limit basis n) h says =
      subst (λ m. Stops leaves pivots (Limit m)) (sym says.3) (out_of_pivots h says.0 says.1)
  stops_at (solve.Overflow basis) h says = at_a_pivot h says.0 says.1
  stops_at solve.Memory h says = tt

  pub unsolved : (f : StdForm) (fault : SolveFault) → TellsForm leaves (Ok f)
      → SaysOutcome (equality_form f) pivots (Err fault)
      → TellsLeaf map leaves pivots (Err (solve_fault fault))
  unsolved f fault h says = stops_at fault (made f h) (of_the_form f (Err fault) h says)

  is_solved : (f : StdForm) (answer : SolverAnswer) → TellsForm leaves (Ok f)
      → SaysOutcome (equality_form f) pivots (Ok answer) → IsFormSolved leaves pivots answer
  is_solved f answer h says =
      let here = of_the_form f (Ok answer) h says in
      record { made = made f h; state = here.0; turn = here.1; ends = here.2; read = here.3 }

  pub unread : (f : StdForm) (answer : SolverAnswer) (fault : NumberFault)
      → TellsForm leaves (Ok f) → SaysOutcome (equality_form f) pivots (Ok answer)
      → TellsAnswer map leaves answer (Err fault)
      → TellsLeaf map leaves pivots (Err (read_fault fault))
  unread f answer number.Overflow h says back =
      at_reading_back answer (is_solved f answer h says) back
  unread f answer number.Memory h says back = tt

  pub is_read : (f : StdForm) (answer : SolverAnswer) (leaf : LeafAnswer) → TellsForm leaves (Ok f)
      → SaysOutcome (equality_form f) pivots (Ok answer)
      → TellsAnswer map leaves answer (Ok leaf) → IsRight leaves (answer_of map leaf)
      → TellsLeaf map leaves pivots (Ok leaf)
  is_read f answer leaf h says back right = (
    record {
      form_answer = answer;
      solved = is_solved f answer h says;
      fits = back.1;
      read = back.0;
    },
    right,
  )

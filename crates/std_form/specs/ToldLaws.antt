-- What holds of a model by index holds of the leaf model that is read through its map.
use Rattle.std.specs.Prelude.{◌≡◌, ℕ, ◌+◌, ◌*◌, ◌<◌, ◌≤◌, ◌-◌, ◌^◌, Bool, List, [], ◌∷◌, All, IfOk, Option, Result, Ok, Err, flat_map, min}
use Rattle.std.specs.Prelude as prelude
use Rattle.std.proofs.Common.{sym, ◌∙◌, ap, subst}
use Rattle.std.proofs.lemmas.List.Elements.{All-cons, All-head, All-map, All-nil, All-tail, All-weaker}
use Rattle.ratio_core.specs.Rational.{SumFits, neg_ℚ}
use Rattle.ratio_core.specs.declared.fault.NumberFault.{NumberFault}
use Rattle.ratio_core.specs.declared.fault.NumberFault.TheVariants as number
use Rattle.address_map.specs.AddressMap.{AddressMap}
use Rattle.address_map.specs.Places.{AreIndicesOneToOne, Indices}
use Rattle.aff_core.specs.Address.{Address}
use Rattle.equality_form.specs.EqualityForm.{cell_count, cells_of}
use Rattle.equality_form.specs.Equations.{RightFits, equations, number_of}
use Rattle.equality_form.specs.Right.{IsRight}
use Rattle.equality_form.specs.ShapeLaws.{well_shaped}
use Rattle.leaf_model.specs.ReadThrough.{read_through}
use Rattle.simplex_core.specs.Answer.{IsRightAnswer}
use Rattle.simplex_core.specs.StdForm.{IsWellShaped, equality_form}
use Rattle.simplex_core.specs.declared.answer.SolverAnswer.{SolverAnswer}
use Rattle.simplex_core.specs.declared.form.StdForm.{StdForm}
use Rattle.solver_store.specs.SolverModel.{Leaves}
use Rattle.solver_store.specs.declared.answer.LeafAnswer.{LeafAnswer}
use Rattle.solver_store.specs.declared.leaf.LeafObjective.{LeafObjective}
use Rattle.solver_store.specs.declared.leaf.LeafRow.{LeafRow}
use Rattle.solver_store.specs.declared.leaf.LeafVar.{LeafVar}
use Rattle.std_form.specs.declared.fault.FormFault.{FormFault}
use Rattle.std_form.specs.declared.fault.FormFault.TheVariants.{TooLarge, Overflow, Memory}
use Rattle.std_form.specs.AnswerLaws.{answer_is, fit_is, right_by_index}
use Rattle.std_form.specs.Answers.{FitBy, FitByIndex, answer_by, answer_of, read_by_index}
use Rattle.std_form.specs.FormLaws.{equations_through, form_is, named_equation}
use Rattle.std_form.specs.Indexed.{SolverEquation, cost_in, equations_in, equations_of, form_of, rows_of, variables_of}
use Rattle.std_form.specs.NameLaws.{constant_named}
use Rattle.std_form.specs.Readable.{IsReadable}
use Rattle.std_form.specs.Told.{TellsAnswer, TellsBuilt, TellsForm}

fits_named : (indices : Indices) (e : SolverEquation)
    → RightFits e ≡ RightFits (named_equation indices e)
fits_named indices e =
    ap (λ k. SumFits (number_of e.set) (neg_ℚ k)) (sym (constant_named indices e.function))

all_map : {X Y : Type 0} (P : Y → Type 0) (Q : X → Type 0) (f : X → Y) → ((x : X) → P (f x) → Q x)
    → (xs : List X) → All P (prelude.map f xs) → All Q xs
all_map P Q f h [] k = All-nil Q
all_map P Q f h (x ∷ xs) k = All-cons Q x xs (h x (All-head P (f x) (prelude.map f xs) k))
    (all_map P Q f h xs (All-tail P (f x) (prelude.map f xs) k))

module _ (map : AddressMap) (leaves : Leaves) (one : AreIndicesOneToOne map.vars.indices)
    (readable : IsReadable map leaves) (at : Address) where
  cells_through : cells_of (variables_of map leaves) (equations_of map leaves)
      ≡ cell_count (read_through map leaves at)
  cells_through = ap (λ form. form.m * (form.c + form.m + 1)) (form_is map leaves one readable at)

  fits_through : All RightFits (equations_of map leaves)
      → All RightFits (equations (read_through map leaves at))
  fits_through h =
      subst (All RightFits) (sym (equations_through map leaves at))
      (All-map RightFits (named_equation map.vars.indices) (equations_of map leaves)
      (All-weaker RightFits (λ e. RightFits (named_equation map.vars.indices e))
      (λ e k. subst (λ P. P) (fits_named map.vars.indices e) k) (equations_of map leaves) h))

  fits_back : All RightFits (equations (read_through map leaves at))
      → All RightFits (equations_of map leaves)
  fits_back h =
      all_map RightFits RightFits (named_equation map.vars.indices)
      (λ e k. subst (λ P. P) (sym (fits_named map.vars.indices e)) k) (equations_of map leaves)
      (subst (All RightFits) (equations_through map leaves at) h)

  pub tells_through : (r : Result StdForm FormFault)
      → TellsBuilt (variables_of map leaves) (equations_of map leaves) (cost_in leaves.objective) r
      → TellsForm (read_through map leaves at) r
  tells_through (Ok form) h = (
    h.0 ∙ form_is map leaves one readable at,
    subst (λ n. n ≤ 16777216) cells_through h.1,
    fits_through h.2,
  )
  tells_through (Err (TooLarge cells)) h = (
    subst (λ n. 16777216 < n) cells_through h.0,
    h.1
        ∙ ap (λ n. min n (2 ^ 64 - 1)) cells_through,
  )
  tells_through (Err Overflow) h =
      (subst (λ n. n ≤ 16777216) cells_through h.0, λ k. h.1 (fits_back k))
  tells_through (Err Memory) h = tt

-- what is said of an answer of the variables and rows, of the flips of the form's rows
abbrev pub TellsBy : List (ℕ × LeafVar) → List (ℕ × LeafRow) → List Bool → SolverAnswer
    → Result LeafAnswer NumberFault → Type 0
TellsBy vars rows flips a (Ok answer) = (answer ≡ answer_by vars rows flips a) × FitBy vars a
TellsBy vars rows flips a (Err number.Overflow) = ¬ FitBy vars a
TellsBy vars rows flips a (Err number.Memory) = Unit {0}

-- what is said by index of reading back
abbrev pub TellsByIndex : AddressMap → Leaves → StdForm → SolverAnswer
    → Result LeafAnswer NumberFault
    → Type 0
TellsByIndex map leaves form a r =
    TellsBy (variables_of map leaves) (rows_of map leaves) form.flips a r

-- variables and rows that are those of a model
module _ (map : AddressMap) (leaves : Leaves) (vars : List (ℕ × LeafVar))
    (rows : List (ℕ × LeafRow)) (their_vars : vars ≡ variables_of map leaves)
    (their_rows : rows ≡ rows_of map leaves) where
  pub tells_listed : (objective : Option LeafObjective) → objective ≡ leaves.objective
      → (r : Result StdForm FormFault)
      → TellsBuilt vars (flat_map (λ row. equations_in row.1) rows) (cost_in objective) r
      → TellsBuilt (variables_of map leaves) (equations_of map leaves) (cost_in leaves.objective) r
  tells_listed objective its r h =
      subst (λ (vs : List (ℕ × LeafVar)). TellsBuilt vs (equations_of map leaves)
      (cost_in leaves.objective) r) their_vars
      (subst (λ (rs : List (ℕ × LeafRow)). TellsBuilt vars (flat_map (λ row. equations_in row.1) rs)
      (cost_in leaves.objective) r) their_rows
      (subst (λ (o : Option LeafObjective). TellsBuilt vars (flat_map (λ row. equations_in row.1) rows)
      (cost_in o) r) its h))

  pub answer_listed : (form : StdForm) (a : SolverAnswer) (r : Result LeafAnswer NumberFault)
      → TellsBy vars rows form.flips a r → TellsByIndex map leaves form a r
  answer_listed form a r h =
      subst (λ (vs : List (ℕ × LeafVar)). TellsBy vs (rows_of map leaves) form.flips a r) their_vars
      (subst (λ (rs : List (ℕ × LeafRow)). TellsBy vars rs form.flips a r) their_rows h)

module _ (map : AddressMap) (leaves : Leaves) where
  -- a form that is given is that of the model, and well shaped
  pub built_is : (r : Result StdForm FormFault)
      → TellsBuilt (variables_of map leaves) (equations_of map leaves) (cost_in leaves.objective) r
      → IfOk r (λ form. form ≡ form_of map leaves)
  built_is (Ok form) h = h.0
  built_is (Err e) h = tt

  pub built_well : (r : Result StdForm FormFault)
      → TellsBuilt (variables_of map leaves) (equations_of map leaves) (cost_in leaves.objective) r
      → IfOk r IsWellShaped
  built_well (Ok form) h =
      subst IsWellShaped (sym h.0)
      (well_shaped (variables_of map leaves) (equations_of map leaves) (cost_in leaves.objective))
  built_well (Err e) h = tt

  -- what is read back, where the form is the one that was built
  module _ (one_var : AreIndicesOneToOne map.vars.indices) (one_row : AreIndicesOneToOne map.rows.indices)
      (form : StdForm) (built : form ≡ form_of map leaves) (a : SolverAnswer) where
    abbrev flips_are : form.flips ≡ (form_of map leaves).flips
    flips_are = ap (λ form. form.flips) built

    pub read_is : (r : Result LeafAnswer NumberFault) → TellsByIndex map leaves form a r
        → IfOk r (λ answer. answer ≡ read_by_index map leaves form.flips a)
    read_is (Ok answer) h = h.0
    read_is (Err e) h = tt

    pub answer_through : (at : Address) (r : Result LeafAnswer NumberFault)
        → TellsByIndex map leaves form a r → TellsAnswer map (read_through map leaves at) a r
    answer_through at (Ok answer) h = (
      ap (answer_of map) (h.0 ∙ ap (λ flips. read_by_index map leaves flips a) flips_are)
          ∙ answer_is map leaves one_var one_row at a,
      subst (λ P. P) (fit_is map leaves one_var one_row at a) h.1,
    )
    answer_through at (Err number.Overflow) h =
        λ k. h (subst (λ P. P) (sym (fit_is map leaves one_var one_row at a)) k)
    answer_through at (Err number.Memory) h = tt

    pub right_through : (at : Address) → IsReadable map leaves
        → IsRightAnswer (equality_form form) a → (r : Result LeafAnswer NumberFault)
        → TellsByIndex map leaves form a r
        → IfOk r (λ answer. IsRight (read_through map leaves at) (answer_of map answer))
    right_through at readable right (Ok answer) h =
        subst (λ answer. IsRight (read_through map leaves at) (answer_of map answer))
        (sym (h.0 ∙ ap (λ flips. read_by_index map leaves flips a) flips_are))
        (right_by_index map leaves one_var one_row at readable a
        (subst (λ form. IsRightAnswer (equality_form form) a) built right))
    right_through at readable right (Err e) h = tt

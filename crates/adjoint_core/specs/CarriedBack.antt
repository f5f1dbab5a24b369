-- What carrying an answer for the leaf model back adds up, and what `carry_back` answers: the
-- certificate exactly where all of it fits, and else the address of the first of it that doesn't.
--
-- In order: the values of the user's variables, for a ray each followed by its entry; the duals of
-- the user's rows, those of the child rows of each before its own; the variables' duals; the
-- objective's value, or the gap. A number below a row that exceeds 128 bits is reported at the row.
use Rattle.std.specs.List.{zip}
use Rattle.std.specs.Prelude.{◌≡◌, ℕ, zero, suc, ◌⊎◌, List, [], ◌∷◌, ◌++◌, All, Result, length, map, take}
use Rattle.ratio_core.specs.Folds.{sum_from}
use Rattle.ratio_core.specs.Rational.{Rational, neg_ℚ, one_ℚ, zero_ℚ}
use Rattle.aff_core.specs.Address.{Address, root_address}
use Rattle.aff_core.specs.Function.{Function, slope, value_of}
use Rattle.aff_core.specs.declared.root.Root.TheVariants as root
use Rattle.bridge_face.specs.BackOf.{BackFits}
use Rattle.bridge_face.specs.ImageOf.{image_of}
use Rattle.cert_core.specs.Folds.{AddUp, EvaluationFits, ObjectiveValueFits, ReducedCostFits, adjoint_parts, gap_parts_of}
use Rattle.certificates.specs.declared.certificate.Certificate.{Certificate}
use Rattle.certificates.specs.Duals.{adjoint_of_rows, groups_with, reduced_cost, rows_with}
use Rattle.certificates.specs.Points.{addresses_of, at_point, objective_coefficient, sense_of}
use Rattle.dual_laws.specs.Held.{DualRow}
use Rattle.equality_form.specs.ReadBack.{AnswerByAddress, infeasible, optimal, unbounded}
use Rattle.expansion.specs.Bridged.{Bridged, EachBridgedIn, by, each_in, natively, none_in}
use Rattle.expansion.specs.Rules.{Rules}
use Rattle.fresh_bridging.specs.Entries.{Entry, function_in}
use Rattle.fresh_bridging.specs.FreshBridging.{FreshBridging}
use Rattle.fresh_bridging.specs.TheRules.{Setting, edge_at}
use Rattle.item_core.specs.declared.item.Item.{Item}
use Rattle.tree_laws.specs.Carried.{LeafAnswerDuals, backs}
use Rattle.tree_laws.specs.Certificate.{certificate_of, infeasible_duals, optimal_duals, rows_of}
use Rattle.user_model.specs.Model.{ModelValue, variables}
use Rattle.user_model.specs.declared.group.Group.{Group}
use Rattle.adjoint_core.specs.Told.{FirstNot, TellsCarried}
use Rattle.adjoint_core.specs.Walk.{row_place}
use Rattle.adjoint_core.specs.declared.fault.BackFault.{BackFault}

-- something isn't so at once, or all of it is and something later isn't
abbrev pub Then : Type 0 → Type 0 → Type 0 → Type 0
Then not_now now not_later = not_now ⊎ (now × not_later)

-- ---- rows

module _ {rules : Rules Item Entry} (d : LeafAnswerDuals) where
  unfoldable mutual
    -- what is carried back to a row, and to each row below it
    pub RowFits : {item : Item} {entries : List Entry} → Bridged rules item entries → Type 0
    RowFits (natively c) = Unit {0}
    RowFits (by {item} {edge} c groups others) =
        let count = length (image_of (edge_at edge) item).rows in
        RowsFit count others × BackFits (edge_at edge) item (take count (backs d others))

    -- the same of the first n
    pub RowsFit : ℕ → {inner : List Entry} {items : List Item} → EachBridgedIn rules inner items
        → Type 0
    RowsFit zero others = Unit {0}
    RowsFit (suc n) none_in = Unit {0}
    RowsFit (suc n) (each_in first rest) = RowFits first × RowsFit n rest

  -- the first of the first n to which what is carried back doesn't fit
  unfoldable pub UnfitRow : ℕ → {inner : List Entry} {items : List Item}
      → EachBridgedIn rules inner items → Address → Type 0
  UnfitRow zero others at = ⊥
  UnfitRow (suc n) none_in at = ⊥
  UnfitRow (suc n) (each_in {item = item} first rest) at =
      (¬ (RowFits first) × (item.at ≡ at)) ⊎ (RowFits first × UnfitRow n rest at)

-- ---- the gap

-- the first whose part of the gap doesn't fit, added to the parts before
unfoldable pub UnfitGap : Rational → List (Address × DualRow) → Address → Type 0
UnfitGap sum [] at = ⊥
UnfitGap sum (h ∷ hs) at =
    (¬ (AddUp sum (gap_parts_of h.1)) × (h.0 ≡ at))
    ⊎ (AddUp sum (gap_parts_of h.1) × UnfitGap (sum_from sum (gap_parts_of h.1)) hs at)

unfoldable pub GapFits : Rational → List (Address × DualRow) → Type 0
GapFits sum [] = Unit {0}
GapFits sum (h ∷ hs) =
    AddUp sum (gap_parts_of h.1) × GapFits (sum_from sum (gap_parts_of h.1)) hs

abbrev pub group_place : Group → Address
group_place g = root_address root.Group g.id

-- rows and groups with their duals, at their addresses
abbrev pub placed_rows : ModelValue → List (List Rational) → List (Address × DualRow)
placed_rows model rows =
    zip (map row_place model.rows) (rows_with rows model.rows)

abbrev pub placed_groups : ModelValue → List Rational → List (Address × DualRow)
placed_groups model vars =
    zip (map group_place model.groups)
    (groups_with (at_point model vars) model.groups)

abbrev pub placed : ModelValue → List (List Rational) → List Rational → List (Address × DualRow)
placed model rows vars = placed_rows model rows ++ placed_groups model vars

-- ---- of a model

abbrev pub users : ModelValue → List Address
users model = addresses_of (variables model)

-- by its variables' expressions
module _ (model : ModelValue) (expression : Address → Function) where
  -- a variable's value, and what it is along a ray
  abbrev pub VariableValueFits : (Address → Rational) → Address → Type 0
  VariableValueFits x v = EvaluationFits one_ℚ (expression v) x

  abbrev pub EntryFits : (Address → Rational) → Address → Type 0
  EntryFits d v = EvaluationFits zero_ℚ (expression v) d

  abbrev pub PointAndRayFit : (Address → Rational) → (Address → Rational) → Address → Type 0
  PointAndRayFit x d v = VariableValueFits x v × EntryFits d v

  abbrev pub point : (Address → Rational) → List Rational
  point x = map (λ v. value_of (expression v) x) (users model)

  abbrev pub ray : (Address → Rational) → List Rational
  ray d = map (λ v. slope (expression v) d) (users model)

-- by the duals of its rows
module _ (model : ModelValue) (rows : List (List Rational)) where
  -- what the rows leave for a variable, and what the objective does
  abbrev pub AdjointFits : Address → Type 0
  AdjointFits v = AddUp zero_ℚ (adjoint_parts (rows_with rows model.rows) v)

  abbrev pub VariableDualFits : Address → Type 0
  VariableDualFits v = AdjointFits v × ReducedCostFits model rows v

  abbrev pub reduced : List Rational
  reduced =
      map (λ v. reduced_cost (sense_of model.objective) (objective_coefficient model v)
      (adjoint_of_rows model rows v)) (users model)

  abbrev pub cancelled : List Rational
  cancelled = map (λ v. neg_ℚ (adjoint_of_rows model rows v)) (users model)

  abbrev pub gap_parts_placed : List (Address × DualRow)
  gap_parts_placed = placed model rows cancelled

-- whether these duals fit, and at which address the first stands that doesn't
module _ (model : ModelValue) (rows : List (List Rational)) (RowsFit : Type 0)
    (IsUnfitRow : Address → Type 0) where
  -- values, duals of rows, duals of variables, and the objective's value
  abbrev pub OptimalBackFits : (Address → Function) → (Address → Rational) → Type 0
  OptimalBackFits expression x =
      All (VariableValueFits model expression x) (users model)
      × (RowsFit × (All (VariableDualFits model rows) (users model)
      × ObjectiveValueFits model one_ℚ (point model expression x)))

  abbrev pub IsUnfitOptimal : (Address → Function) → (Address → Rational) → Address → Type 0
  IsUnfitOptimal expression x at =
      Then (FirstNot (VariableValueFits model expression x) (λ v. v) (users model) at)
      (All (VariableValueFits model expression x) (users model))
      (Then (IsUnfitRow at) RowsFit
      (Then (FirstNot (VariableDualFits model rows) (λ v. v) (users model) at)
      (All (VariableDualFits model rows) (users model))
      (¬ (ObjectiveValueFits model one_ℚ (point model expression x))
      × (root_address root.Objective 0 ≡ at))))

  -- duals of rows, duals of variables, and the gap
  abbrev pub InfeasibleBackFits : Type 0
  InfeasibleBackFits =
      RowsFit × (All (AdjointFits model rows) (users model)
      × GapFits zero_ℚ (gap_parts_placed model rows))

  abbrev pub IsUnfitInfeasible : Address → Type 0
  IsUnfitInfeasible at =
      Then (IsUnfitRow at) RowsFit
      (Then (FirstNot (AdjointFits model rows) (λ v. v) (users model) at)
      (All (AdjointFits model rows) (users model))
      (UnfitGap zero_ℚ (gap_parts_placed model rows) at))

-- ---- of a bridging

module _ {setting : Setting} {model : ModelValue} (bridging : FreshBridging setting model) where
  abbrev expression : Address → Function
  expression = function_in bridging.made.entries

  abbrev pub AllRowsFit : LeafAnswerDuals → Type 0
  AllRowsFit d = RowsFit d (length model.rows) bridging.made.others

  abbrev pub IsUnfitRow : LeafAnswerDuals → Address → Type 0
  IsUnfitRow d at = UnfitRow d (length model.rows) bridging.made.others at

  -- everything fits
  abbrev pub AllFits : AnswerByAddress → Type 0
  AllFits (optimal x y) =
      let d = optimal_duals bridging y in
      OptimalBackFits model (rows_of bridging d) (AllRowsFit d) (IsUnfitRow d) expression x
  AllFits (infeasible y) =
      let d = infeasible_duals bridging y in
      InfeasibleBackFits model (rows_of bridging d) (AllRowsFit d) (IsUnfitRow d)
  AllFits (unbounded x d) = All (PointAndRayFit model expression x d) (users model)

  -- the first that doesn't is reported at the address
  abbrev pub IsFirstUnfitAddress : AnswerByAddress → Address → Type 0
  IsFirstUnfitAddress (optimal x y) at =
      let d = optimal_duals bridging y in
      IsUnfitOptimal model (rows_of bridging d) (AllRowsFit d) (IsUnfitRow d) expression x at
  IsFirstUnfitAddress (infeasible y) at =
      let d = infeasible_duals bridging y in
      IsUnfitInfeasible model (rows_of bridging d) (AllRowsFit d) (IsUnfitRow d) at
  IsFirstUnfitAddress (unbounded x d) at =
      FirstNot (PointAndRayFit model expression x d) (λ v. v) (users model) at

  -- the certificate exactly where everything fits, and else the first address at which it doesn't
  abbrev pub CarriesAnswerBack : AnswerByAddress → Result Certificate BackFault → Type 0
  CarriesAnswerBack answer result =
      TellsCarried result (AllFits answer) (λ c. c ≡ certificate_of bridging answer)
      (IsFirstUnfitAddress answer)

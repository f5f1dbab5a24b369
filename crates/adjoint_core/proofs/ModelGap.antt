-- The gap of a model's rows and then its groups.
use Rattle.std.specs.Prelude.{◌≡◌, List, Result, length, map}
use Rattle.std.specs.List.{zip}
use Rattle.std.proofs.Common.{subst, sym, ◌∙◌}
use Rattle.std.proofs.lemmas.List.{length-map}
use Rattle.ratio_core.specs.Folds.{sum_from}
use Rattle.ratio_core.specs.Rational.{Rational, zero_ℚ}
use Rattle.aff_core.specs.Address.{Address}
use Rattle.certificates.specs.Duals.{dual_gap, groups_with, rows_with}
use Rattle.certificates.specs.Points.{all_addresses, at_point}
use Rattle.cert_core.specs.Checked.{HasRowDuals}
use Rattle.cert_core.specs.Folds.{gap_parts}
use Rattle.cert_core.proofs.Assembled.{numbers_of_model, ready}
use Rattle.cert_core.proofs.Rows.{row_count}
use Rattle.user_model.specs.Model.{ModelValue, variables}
use Rattle.user_model.specs.Valid.{IsValid}
use Rattle.user_model.specs.declared.group.Group.{Group}
use Rattle.user_model.specs.declared.row.Row.{Row}
use Rattle.certificates.specs.Points.{address_of}
use Rattle.adjoint_core.specs.CarriedBack.{GapFits, UnfitGap, group_place, placed}
use Rattle.adjoint_core.specs.Told.{TellsCarried}
use Rattle.adjoint_core.specs.Walk.{row_place}
use Rattle.adjoint_core.specs.declared.fault.BackFault.{BackFault}
use Rattle.adjoint_core.proofs.GapSteps.{gap_told}

module _ (m : ModelValue) (duals : List (List Rational)) (vars : List Rational)
    (entries : HasRowDuals m.rows duals) (size : length vars ≡ length (variables m))
    (valid : IsValid m) where
  -- the model's own point has these numbers of its variables
  numbers_there : map (at_point m vars) (all_addresses m.groups) ≡ vars
  numbers_there =
      numbers_of_model m.groups m.rows (all_addresses m.groups) vars
      (ready m.groups m.rows m.objective (all_addresses m.groups) valid.parts
      valid.consistent.variables_rise (λ i. all_addresses m.groups))
      (size ∙ sym (length-map (variables m) address_of))

  places_count : length (map row_place m.rows) ≡ length (rows_with duals m.rows)
  places_count = length-map m.rows row_place ∙ sym (row_count duals m.rows entries.each)

  module _ (rows : List Row) (groups : List Group) (rows_are : rows ≡ m.rows)
      (groups_are : groups ≡ m.groups) (before : Rational)
      (fits : GapFits zero_ℚ (zip (map row_place rows) (rows_with duals rows)))
      (is : before ≡ sum_from zero_ℚ (gap_parts (rows_with duals rows))) where
    pub gap_at : (r : Result Rational BackFault)
        → ((w : Address → Rational) → map w (all_addresses groups) ≡ vars
        → TellsCarried r (GapFits before (zip (map group_place groups) (groups_with w groups)))
        (λ q. q ≡ sum_from before (gap_parts (groups_with w groups)))
        (UnfitGap before (zip (map group_place groups) (groups_with w groups))))
        → TellsCarried r (GapFits zero_ℚ (placed m duals vars)) (λ q. q ≡ dual_gap m duals vars)
        (UnfitGap zero_ℚ (placed m duals vars))
    gap_at r h =
        let w = at_point m vars in
        gap_told (map row_place m.rows) (map group_place m.groups) (rows_with duals m.rows)
        (groups_with w m.groups) places_count before
        (subst (λ rs. GapFits zero_ℚ (zip (map row_place rs) (rows_with duals rs))) rows_are fits)
        (subst (λ rs. before ≡ sum_from zero_ℚ (gap_parts (rows_with duals rs))) rows_are is) r
        (subst (λ gs. TellsCarried r (GapFits before (zip (map group_place gs) (groups_with w gs)))
        (λ q. q ≡ sum_from before (gap_parts (groups_with w gs)))
        (UnfitGap before (zip (map group_place gs) (groups_with w gs)))) groups_are
        (h w (subst (λ gs. map w (all_addresses gs) ≡ vars) (sym groups_are) numbers_there)))

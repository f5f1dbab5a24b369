-- A written model reads back: the file says what the model says.
use Rattle.std.specs.Prelude.{◌≡◌, ◌≢◌, ℕ, zero, suc, ◌<◌, ◌≤◌, All, true, false, List, [], ◌∷◌, length, map, bytes_eq, slice_index_or, refl}
use Rattle.std.specs.List.{list_any}
use Rattle.std.specs.FinMap as finite
use Rattle.std.specs.FinMap.{is_sorted}
use Rattle.std.specs.FinMap.Entries.{below_all}
use Rattle.std.specs.Ordering.{is_lt}
use Rattle.std.specs.Cmp.{tied_itself}
use Rattle.std.proofs.Common.{ap, arith, sym, ◌∙◌}
use Rattle.std.proofs.lemmas.Bool.{and_parts, or_left, or_right, true≢false}
use Rattle.std.proofs.lemmas.List.Elements.{All-cons, All-head, All-tail, Contains-get_or}
use Rattle.ratio_core.specs.Rational.{Rational}
use Rattle.aff_core.specs.Address.{Address, address_cmp, address_eq, address_eq-Decides, address_total}
use Rattle.aff_core.specs.Function.{Function}
use Rattle.aff_core.specs.Function as aff
use Rattle.aff_core.specs.FunctionLaws.{terms_rise}
use Rattle.user_model.specs.declared.function.UserFunc.{UserFunc}
use Rattle.user_model.specs.declared.function.UserFunc.TheVariants.{Plain, Affine, PlainVec, AffineVec}
use Rattle.user_model.specs.declared.objective.Objective.{Objective}
use Rattle.user_model.specs.declared.objective.Objective.TheVariants as objective
use Rattle.user_model.specs.declared.row.Row.{Row}
use Rattle.user_model.specs.Functions.{components, func_mentions, has_term}
use Rattle.user_model.specs.Limits.{COMPONENTS}
use Rattle.user_model.specs.Consistent.{IsConsistent}
use Rattle.user_model.specs.Model.{ModelValue, variables}
use Rattle.user_model.specs.Valid.{IsValidObjective, IsValidRow, Stands}
use Rattle.model_laws.specs.Found.{one_passes}
use Rattle.mof_laws.specs.FunctionLaws.{ApartBy, IsFunctionReadable, IsNameKnown}
use Rattle.mof_laws.specs.FileLaws.{IsReadableFunc, IsReadableObjective}
use Rattle.mof_write.specs.Sayable.{FunctionFits, HasName, ObjectiveFits, UserFuncFits}
use Rattle.mof_laws.specs.ReadBack.{var_names}
use Rattle.mof_laws.specs.VariableLaws.{HasVariableAt, named_at, other_name, variable_there}
use Rattle.mof_write.specs.Written.{naming}

-- ---- the terms of a function

term_there : (ts : List (Address × Rational)) (k : ℕ) (d : Address × Rational) → k < length ts
    → list_any (address_eq (slice_index_or ts k d).0) (map (λ e. e.0) ts) ≡ true
term_there [] k d h = absurd (omega arith)
term_there (t ∷ ts) zero d h = or_left _ _ ((address_eq-Decides t.0 t.0).1 refl)
term_there (t ∷ ts) (suc k) d h = or_right _ _ (term_there ts k d (omega arith))

-- each is mentioned
pub terms_mentioned : (f : Function)
    → All {X = Address × Rational} (λ t. has_term t.0 f ≡ true) (aff.terms_of f)
terms_mentioned f = λ k d within.
    finite.contains_key-keys f.terms (slice_index_or (aff.terms_of f) k d).0
    ∙ term_there (aff.terms_of f) k d within

less_apart : (v w : Address) → is_lt (address_cmp v w) ≡ true → v ≢ w
less_apart v w less e =
    true≢false (sym less
    ∙ ap (λ a. is_lt (address_cmp v a)) (sym e) ∙ ap is_lt (tied_itself address_total v))

module _ (model : ModelValue) (c : IsConsistent model) where
  abbrev name : Address → List ℕ
  name = naming model

  abbrev known : List (List ℕ)
  known = var_names (variables model)

  others_apart : (t : Address × Rational) (ts : List (Address × Rational))
      → below_all address_cmp t.0 ts ≡ true → HasVariableAt model t.0
      → All {X = Address × Rational} (λ u. HasVariableAt model u.0) ts
      → All {X = Address × Rational} (λ u. bytes_eq (name u.0) (name t.0) ≡ false) ts
  others_apart t [] below here there = λ k d within. absurd (omega arith)
  others_apart t (u ∷ us) below here there =
      let parts = and_parts (is_lt (address_cmp t.0 u.0)) (below_all address_cmp t.0 us) below in
      All-cons {X = Address × Rational} (λ u. bytes_eq (name u.0) (name t.0) ≡ false) u us
      (other_name model t.0 u.0 c here
      (All-head (λ u. HasVariableAt model u.0) u us there) (less_apart t.0 u.0 parts.0))
      (others_apart t us parts.1 here (All-tail (λ u. HasVariableAt model u.0) u us there))

  named_apart : (ts : List (Address × Rational)) → is_sorted address_cmp ts ≡ true
      → All {X = Address × Rational} (λ u. HasVariableAt model u.0) ts
      → ApartBy {X = Address × Rational} (λ t u. bytes_eq (name u.0) (name t.0) ≡ false) ts
  named_apart [] rises there = tt
  named_apart (t ∷ ts) rises there =
      let parts = and_parts (below_all address_cmp t.0 ts) (is_sorted address_cmp ts) rises in (
        others_apart t ts parts.0 (All-head
            (λ u. HasVariableAt model u.0) t ts there)
            (All-tail (λ u. HasVariableAt model u.0) t ts there),
        named_apart ts parts.1 (All-tail (λ u. HasVariableAt model u.0) t ts there),
      )

  module _ (names : All HasName (variables model)) where
    stands_named : (at : Address) → Stands model.groups at → IsNameKnown name known at
    stands_named at s = named_at model at names (variable_there model at s)

    readable : (f : Function) → FunctionFits f
        → ((at : Address) → has_term at f ≡ true → Stands model.groups at)
        → IsFunctionReadable name known f
    readable f fits stand =
        let there : All {X = Address × Rational} (λ u. HasVariableAt model u.0) (aff.terms_of f) =
        λ k d within. variable_there model _ (stand _ (terms_mentioned f k d within)) in
        record {
          fits = fits;
          named = λ k d within. named_at model _ names (there k d within);
          apart = named_apart (aff.terms_of f) ((terms_rise f).rising) there;
        }

    pub readable_row : (row : Row) → IsValidRow model.groups row → UserFuncFits row.func
        → IsReadableFunc name known row.func
    readable_row row h fits =
        from row.func
        (λ at is. stands_named at (h.stand at is)) (λ at is. h.stand at is) h.limit fits
      where
        from : (func : UserFunc) → ((at : Address) → func_mentions at func ≡ true
            → IsNameKnown name known at)
            → ((at : Address) → func_mentions at func ≡ true → Stands model.groups at)
            → components func ≤ COMPONENTS → UserFuncFits func → IsReadableFunc name known func
        from (Plain var) is stand few fits = is var ((address_eq-Decides var var).1 refl)
        from (Affine f) is stand few fits = readable f fits stand
        from (PlainVec vars) is stand few fits = λ k d within.
            is _ (one_passes (address_eq (slice_index_or vars k d)) vars (slice_index_or vars k d)
            (Contains-get_or vars k d within)
            ((address_eq-Decides (slice_index_or vars k d) (slice_index_or vars k d)).1 refl))
        from (AffineVec fs) is stand few fits = (
          λ k d within. readable (slice_index_or fs k d) (fits k d within)
              (λ at there. stand at (one_passes (has_term at) fs (slice_index_or fs k d)
              (Contains-get_or fs k d within) there)),
          omega arith,
        )

    pub readable_objective : (o : Objective) → IsValidObjective model.groups o → ObjectiveFits o
        → IsReadableObjective name known o
    readable_objective objective.Feasibility h fits = tt
    readable_objective (objective.Plain sense var) h fits =
        stands_named var (h.stand var ((address_eq-Decides var var).1 refl))
    readable_objective (objective.Affine sense f) h fits = readable f fits h.stand

-- Functions of a model by name, located in a model with its variables renumbered.
use Rattle.std.specs.Prelude.{◌≡◌, ℕ, ◌&&◌, List, [], ◌∷◌, All, Contains, length, map, refl}
use Rattle.std.specs.FinMap.{is_sorted}
use Rattle.std.specs.FinMap.Entries.{below_all}
use Rattle.std.specs.Ordering.{is_lt, ordering_then}
use Rattle.std.specs.declared.cmp.Ordering.TheVariants.{Equal}
use Rattle.std.proofs.Common.{ap, ap₂, sym, ◌∙◌}
use Rattle.std.proofs.lemmas.List.{length-map}
use Rattle.std.proofs.lemmas.List.Elements.{All-head, All-tail}
use Rattle.std.proofs.lemmas.List.Folds.{list_all-map}
use Rattle.ratio_core.specs.Rational.{Rational}
use Rattle.aff_core.specs.Address.{Address, address_cmp}
use Rattle.aff_core.specs.Function.{Function, function_of, gathered, terms_of}
use Rattle.aff_core.specs.FunctionLaws.{coefficient-function_of, coefficient-gathered, constant-function_of, same_coefficients, terms_kept, terms_rise}
use Rattle.aff_core.specs.KeyOrder.{address_order}
use Rattle.aff_core.specs.Rising.{RiseStrictly}
use Rattle.aff_core.specs.Terms.{HaveNoZero, is_nonzero}
use Rattle.user_model.specs.declared.function.UserFunc.{UserFunc}
use Rattle.user_model.specs.declared.group.GroupVar.{GroupVar}
use Rattle.user_model.specs.declared.function.UserFunc.TheVariants.{Plain, Affine, PlainVec, AffineVec}
use Rattle.user_model.specs.Consistent.{IsConsistent, variable_number}
use Rattle.user_model.specs.Edited.{affine, located}
use Rattle.user_model.specs.Functions.{term_count, term_counts}
use Rattle.user_model.specs.Model.{ModelValue, address_named, variable_address, variables}
use Rattle.user_model.specs.SameUpToNumbers.{address_by_position, affine_by_position, function_by_position, position, variable_numbers}
use Rattle.mof_write.specs.Written.{naming}
use Rattle.mof_laws.specs.ReadBack.{named_affine, named_function, named_term}
use Rattle.mof_laws.specs.VariableLaws.{HasVariableAt}
use Rattle.user_model.specs.PositionLaws.{position_order}
use Rattle.mof_round_trip_laws.specs.Renumbered.{HasRenumberedVariables, address_again, address_of_name, made_as, numbers, placed_address}

-- ---- addresses of variables

-- positions of variables compare as their numbers do
pub placed_order : (model : ModelValue) (v w : GroupVar)
    → Contains (variables model) v → Contains (variables model) w
    → address_cmp (variable_address (position (numbers model) v.number))
    (variable_address (position (numbers model) w.number))
    ≡ address_cmp (variable_address v.number) (variable_address w.number)
unfolding address_cmp
placed_order model v w here there =
    ap (λ o. ordering_then o Equal)
    (position_order variable_number (variables model) v w here there)

-- ---- terms that rise

gathered_constant : (ts : List (Address × Rational)) (k : Rational)
    → (gathered {R = address_cmp} ts k).constant ≡ k
unfolding gathered
gathered_constant ts k = constant-function_of address_cmp _ k

-- where the keys rise it makes no difference that the first of each key counts
pub gathered_is : (ts : List (Address × Rational)) (k : Rational) → RiseStrictly ts
    → gathered {R = address_cmp} ts k ≡ function_of ts k
gathered_is ts k rise =
    same_coefficients address_order (gathered ts k) (function_of ts k)
    (λ v. coefficient-gathered address_order ts k v
    ∙ sym (coefficient-function_of address_order ts k v rise))
    (gathered_constant ts k ∙ sym (constant-function_of address_cmp ts k))

-- ---- functions whose variables stand

module _ (model : ModelValue) where
  abbrev pub placed_term : Address × Rational → Address × Rational
  placed_term t = (address_by_position (numbers model) t.0, t.1)

  abbrev pub HasVariable : Address × Rational → Type 0
  HasVariable t = HasVariableAt model t.0

  -- the variable of each term stands
  abbrev pub HaveVariables : List (Address × Rational) → Type 0
  HaveVariables ts = All HasVariable ts

  abbrev pub HasTerms : Function → Type 0
  HasTerms f = HaveVariables (terms_of f)

  -- each variable of the function stands
  abbrev pub IsPlaced : UserFunc → Type 0
  IsPlaced (Plain var) = HasVariableAt model var
  IsPlaced (Affine f) = HasTerms f
  IsPlaced (PlainVec vars) = All (HasVariableAt model) vars
  IsPlaced (AffineVec fs) = All {X = Function} HasTerms fs

module _ (model : ModelValue) (c : IsConsistent model) where
  abbrev ns : List ℕ
  ns = numbers model

  -- positions keep the order of addresses
  order_kept : (one other : Address) → HasVariableAt model one → HasVariableAt model other
      → address_cmp (address_by_position ns one) (address_by_position ns other)
      ≡ address_cmp one other
  order_kept one other h g =
      ap₂ address_cmp (placed_address model one h) (placed_address model other g)
      ∙ placed_order model h.var g.var h.there g.there
      ∙ ap₂ address_cmp h.address g.address

  below_kept : (t : Address × Rational) (ts : List (Address × Rational)) → HasVariableAt model t.0
      → HaveVariables model ts
      → below_all address_cmp (address_by_position ns t.0) (map (placed_term model) ts)
      ≡ below_all address_cmp t.0 ts
  below_kept t [] h there = refl
  below_kept t (u ∷ us) h there =
      ap₂ (λ o b. is_lt o && b) (order_kept t.0 u.0 h (All-head (HasVariable model) u us there))
      (below_kept t us h (All-tail (HasVariable model) u us there))

  sorted_kept : (ts : List (Address × Rational)) → HaveVariables model ts
      → is_sorted address_cmp (map (placed_term model) ts) ≡ is_sorted address_cmp ts
  sorted_kept [] there = refl
  sorted_kept (t ∷ ts) there =
      let later = All-tail (HasVariable model) t ts there in
      ap₂ ◌&&◌ (below_kept t ts (All-head (HasVariable model) t ts there) later)
      (sorted_kept ts later)

  placed_rise : (f : Function) → HasTerms model f
      → RiseStrictly (map (placed_term model) (terms_of f))
  placed_rise f there =
      record { rising = sorted_kept (terms_of f) there ∙ (terms_rise f).rising }

  placed_nonzero : (ts : List (Address × Rational)) → HaveNoZero ts
      → HaveNoZero (map (placed_term model) ts)
  placed_nonzero ts h = list_all-map is_nonzero (placed_term model) ts ∙ h

  -- its terms are those of the function, each at the address of its variable's position
  pub placed_terms : (f : Function) → HasTerms model f
      → terms_of (affine_by_position ns f) ≡ map (placed_term model) (terms_of f)
  placed_terms f there =
      terms_kept (map (placed_term model) (terms_of f)) f.constant (placed_rise f there)
      (placed_nonzero (terms_of f) f.nonzero)

  pub placed_count : (f : Function) → HasTerms model f
      → term_count (affine_by_position ns f) ≡ term_count f
  placed_count f there =
      ap length (placed_terms f there) ∙ length-map (terms_of f) (placed_term model)

  pub placed_counts : (func : UserFunc) → IsPlaced model func
      → term_counts (function_by_position ns func) ≡ term_counts func
  placed_counts (Plain var) h = refl
  placed_counts (Affine f) h = ap (λ n. n ∷ []) (placed_count f h)
  placed_counts (PlainVec vars) h = refl
  placed_counts (AffineVec fs) h =
      made_as (affine_by_position ns) (HasTerms model) term_count term_count placed_count fs h

  -- ---- found by name

  module _ (other : ModelValue) (has : HasRenumberedVariables model other) where
    located_terms : (ts : List (Address × Rational)) → HaveVariables model ts
        → map (λ t. (address_named other t.variable, t.coefficient))
        (map (named_term (naming model)) ts)
        ≡ map (placed_term model) ts
    located_terms ts there =
        made_as (named_term (naming model)) (HasVariable model)
        (λ t. (address_named other t.variable, t.coefficient)) (placed_term model)
        (λ t h. ap (λ at. (at, t.1)) (address_of_name model c other has t.0 h)) ts there

    pub located_affine : (f : Function) → HasTerms model f
        → affine other (named_affine (naming model) f) ≡ affine_by_position ns f
    located_affine f there =
        ap (λ ts. gathered ts f.constant) (located_terms (terms_of f) there)
        ∙ gathered_is (map (placed_term model) (terms_of f)) f.constant (placed_rise f there)

    pub located_is : (func : UserFunc) → IsPlaced model func
        → located other (named_function (naming model) func) ≡ function_by_position ns func
    located_is (Plain var) h = ap Plain (address_of_name model c other has var h)
    located_is (Affine f) h = ap Affine (located_affine f h)
    located_is (PlainVec vars) h =
        ap PlainVec (made_as (naming model) (HasVariableAt model) (address_named other)
        (address_by_position ns) (address_of_name model c other has) vars h)
    located_is (AffineVec fs) h =
        ap AffineVec (made_as (named_affine (naming model)) (HasTerms model) (affine other)
        (affine_by_position ns) located_affine fs h)

  -- ---- renumbered once more

  module _ (other : ModelValue) (d : IsConsistent other) (has : HasRenumberedVariables model other) where
    terms_again : (ts : List (Address × Rational)) → HaveVariables model ts
        → map (placed_term other) (map (placed_term model) ts) ≡ map (placed_term model) ts
    terms_again ts there =
        made_as (placed_term model) (HasVariable model) (placed_term other) (placed_term model)
        (λ t h. ap (λ at. (at, t.1)) (address_again model c other d has t.0 h)) ts there

    pub affine_again : (f : Function) → HasTerms model f
        → affine_by_position (variable_numbers other) (affine_by_position ns f)
        ≡ affine_by_position ns f
    affine_again f there =
        let k = (affine_by_position ns f).constant in
        ap (λ ts. function_of (map (placed_term other) ts) k) (placed_terms f there)
        ∙ ap (λ ts. function_of ts k) (terms_again (terms_of f) there)
        ∙ ap (function_of (map (placed_term model) (terms_of f)))
        (constant-function_of address_cmp (map (placed_term model) (terms_of f)) f.constant)

    pub function_again : (func : UserFunc) → IsPlaced model func
        → function_by_position (variable_numbers other) (function_by_position ns func)
        ≡ function_by_position ns func
    function_again (Plain var) h = ap Plain (address_again model c other d has var h)
    function_again (Affine f) h = ap Affine (affine_again f h)
    function_again (PlainVec vars) h =
        ap PlainVec (made_as (address_by_position ns) (HasVariableAt model)
        (address_by_position (variable_numbers other)) (address_by_position ns)
        (address_again model c other d has) vars h)
    function_again (AffineVec fs) h =
        ap AffineVec (made_as (affine_by_position ns) (HasTerms model)
        (affine_by_position (variable_numbers other)) (affine_by_position ns) affine_again fs h)

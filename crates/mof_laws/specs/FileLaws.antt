-- A written file reads back as what its model says.
use Rattle.std.specs.Prelude.{◌≡◌, ℕ, ◌^◌, ◌<◌, All, ⊤, true, ◌&&◌, not, cond, List, [], ◌∷◌, ◌++◌, length, map, Option, Some, None, Ok, Err, codes, is_some, refl}
use Rattle.std.proofs.Common.{ap, ◌∙◌}
use Rattle.std.proofs.lemmas.Bool.{and_right, cond-false, cond-true, eq-eqb}
use Rattle.aff_core.specs.Function.{Function}
use Rattle.aff_core.specs.declared.sense.Sense.{Sense}
use Rattle.aff_core.specs.declared.sense.Sense.TheVariants.{Min, Max}
use Rattle.set_core.specs.Shapes.{dimension_of, is_scalar}
use Rattle.set_core.specs.declared.set.Set.{Set}
use Rattle.user_model.specs.declared.edit.NamedFunc.{NamedFunc}
use Rattle.user_model.specs.declared.edit.NamedFunc.TheVariants as named
use Rattle.user_model.specs.declared.function.UserFunc.{UserFunc}
use Rattle.user_model.specs.declared.function.UserFunc.TheVariants.{Plain, Affine, PlainVec, AffineVec}
use Rattle.user_model.specs.declared.objective.Objective.{Objective}
use Rattle.user_model.specs.declared.objective.Objective.TheVariants as objective
use Rattle.user_model.specs.Functions.{is_scalar_named, named_components}
use Rattle.serde_json.specs.Data.{Data, string}
use Rattle.serde_json.specs.Find.{as_object, get}
use Rattle.mof_values.specs.declared.fault.MofFault.TheVariants.{Dimension}
use Rattle.mof_values.specs.Values.{a_text, an_array, field}
use Rattle.mof_values.specs.Walked.{◌>>=◌, at, here, key, mapped}
use Rattle.mof_file.specs.declared.objectives.FileObjective.TheVariants as file
use Rattle.mof_file.specs.File.{is_unequal, objective_of, sense_named, sense_of, sensed_of, set_for}
use Rattle.mof_file.specs.Functions.{Known, add_variable, function_of_any, is_known, objective_function_of, scalar_function_of, typed_function_of, variable_of, variables_of}
use Rattle.mof_write.specs.Values.{list_of, set_data, word}
use Rattle.mof_write.specs.Written.{Naming, affine_data, function_data, objective_data, sense_data, sought_data, variable_data, variables_data, vector_affine_data}
use Rattle.mof_laws.specs.FunctionLaws.{IsFunctionReadable, IsNameKnown, affine_back}
use Rattle.mof_write.specs.Sayable.{SetFits}
use Rattle.mof_laws.specs.ReadBack.{named_affine, named_function, said_objective}
use Rattle.mof_laws.specs.ValueLaws.{set_back}
use Rattle.mof_laws.specs.VectorLaws.{vector_affine_back}
use Rattle.mof_laws.specs.WalkLaws.{always_good, by_type, each_appends, field_back, object_then}

-- ---- functions

-- a function by its type
function_from : (known : Known) (d : Data) (type : List ℕ) (r : NamedFunc)
    → is_some (as_object d) ≡ true → get (codes "type") d ≡ Some (string type)
    → typed_function_of known type d ≡ Ok r → function_of_any known d ≡ Ok r
unfolding function_of_any
function_from known d type r object typed is =
    by_type (typed_function_of known) d type r object typed is

named_back : (known : Known) (n : List ℕ) → is_known known n ≡ true
    → variable_of known (string n) ≡ Ok n
unfolding variable_of a_text
named_back known n h = cond-true _ _ _ h

-- the names of a list's items
names_step : {X : Type 0} (known : Known) (g : X → List ℕ) (s : List (List ℕ)) (x : X)
    → is_known known (g x) ≡ true → add_variable known s (string (g x)) ≡ Ok (s ++ g x ∷ [])
unfolding add_variable
names_step known g s x h = ap (λ w. w >>= (λ n. Ok (s ++ n ∷ []))) (named_back known (g x) h)

names_back : {X : Type 0} (known : Known) (g : X → List ℕ) (xs : List X)
    → All (λ x. is_known known (g x) ≡ true) xs
    → variables_of known (list_of (map (λ x. string (g x)) xs)) ≡ Ok (map g xs)
unfolding variables_of an_array
names_back known g xs h =
    each_appends (add_variable known) (λ x. string (g x)) g (λ _ x. is_known known (g x) ≡ true)
    (names_step known g) 0 [] xs (always_good g (λ x. is_known known (g x) ≡ true) [] xs h)

-- one variable, and several, as functions
plain_back : (known : Known) (n : List ℕ) → is_known known n ≡ true
    → scalar_function_of known (codes "Variable") (variable_data n) ≡ Ok (named.Plain n)
unfolding scalar_function_of
plain_back known n h =
    ap (mapped named.Plain)
    (field_back (variable_of known) (codes "name") (variable_data n) (string n) n refl
    (named_back known n h))

pub one_back : (known : Known) (n : List ℕ) → is_known known n ≡ true
    → function_of_any known (variable_data n) ≡ Ok (named.Plain n)
unfolding typed_function_of
one_back known n h =
    function_from known (variable_data n) (codes "Variable") (named.Plain n) refl refl
    (plain_back known n h)

pub several_back : {X : Type 0} (known : Known) (g : X → List ℕ) (xs : List X)
    → All (λ x. is_known known (g x) ≡ true) xs
    → function_of_any known (variables_data
    (map (λ x. string (g x)) xs)) ≡ Ok (named.PlainVec (map g xs))
unfolding typed_function_of
several_back known g xs h =
    function_from known (variables_data
    (map (λ x. string (g x)) xs)) (codes "VectorOfVariables") (named.PlainVec (map g xs)) refl refl
    (ap (mapped named.PlainVec)
    (field_back (variables_of known) (codes "variables")
    (variables_data (map (λ x. string (g x)) xs))
    (list_of (map (λ x. string (g x)) xs)) (map g xs) refl (names_back known g xs h)))

module _ (name : Naming) (known : Known) where
  -- the function has names of the file and numbers that fit
  abbrev pub IsReadableFunc : UserFunc → Type 0
  IsReadableFunc (Plain var) = IsNameKnown name known var
  IsReadableFunc (Affine f) = IsFunctionReadable name known f
  IsReadableFunc (PlainVec vars) = All (IsNameKnown name known) vars
  IsReadableFunc (AffineVec fs) =
      All {X = Function} (IsFunctionReadable name known) fs × (length fs < 2 ^ 32)

  pub function_back : (func : UserFunc) → IsReadableFunc func
      → function_of_any known (function_data name func) ≡ Ok (named_function name func)
  unfolding function_data typed_function_of scalar_function_of affine_data vector_affine_data
  function_back (Plain var) h = one_back known (name var) h
  function_back (Affine f) h =
      function_from known (affine_data name f) (codes "ScalarAffineFunction")
      (named.Affine (named_affine name f)) refl refl
      (ap (mapped named.Affine) (affine_back name known f h))
  function_back (PlainVec vars) h = several_back known name vars h
  function_back (AffineVec fs) h =
      function_from known (vector_affine_data name fs) (codes "VectorAffineFunction")
      (named.AffineVec (map (named_affine name) fs)) refl refl
      (ap (mapped named.AffineVec) (vector_affine_back name known fs h.1 h.0))

  -- ---- the objective

  abbrev pub IsReadableObjective : Objective → Type 0
  IsReadableObjective objective.Feasibility = ⊤
  IsReadableObjective (objective.Plain sense var) = IsNameKnown name known var
  IsReadableObjective (objective.Affine sense f) = IsFunctionReadable name known f

  -- an objective by its sense
  objective_from : (d said : Data) (sense : Option Sense) → is_some (as_object d) ≡ true
      → get (codes "sense") d ≡ Some said → sense_of said ≡ Ok sense
      → objective_of known d ≡ sensed_of known sense d
  unfolding objective_of
  objective_from d said sense object there is =
      object_then d (field sense_of "sense" d >>= (λ s. sensed_of known s d)) object
      ∙ ap (λ w. w >>= (λ s. sensed_of known s d))
      (field_back sense_of (codes "sense") d said sense there is)

  sense_back : (sense : Sense) → sense_of (sense_data sense) ≡ Ok (Some sense)
  unfolding sense_of sense_named a_text
  sense_back Min = refl
  sense_back Max = refl

  sought_back : (sense : Sense) (func : Data) (type : List ℕ) (r : NamedFunc)
      → is_some (as_object func) ≡ true → get (codes "type") func ≡ Some (string type)
      → scalar_function_of known type func ≡ Ok r
      → objective_of known (sought_data func sense) ≡ Ok (file.Optimize sense r)
  unfolding sensed_of objective_function_of
  sought_back sense func type r object typed is =
      objective_from (sought_data func sense) (sense_data sense) (Some sense) refl refl
      (sense_back sense)
      ∙ ap (λ w. w >>= (λ f. Ok (file.Optimize sense f)))
      (field_back (objective_function_of known) (codes "function") (sought_data func sense) func r
      refl (by_type (scalar_function_of known) func type r object typed is))

  pub objective_back : (o : Objective) → IsReadableObjective o
      → objective_of known (objective_data name o) ≡ Ok (said_objective name o)
  unfolding objective_data sensed_of sense_of sense_named a_text scalar_function_of affine_data
  objective_back objective.Feasibility h =
      objective_from (objective_data name objective.Feasibility) (word "feasibility") None refl refl
      refl
  objective_back (objective.Plain sense var) h =
      sought_back sense (variable_data (name var)) (codes "Variable") (named.Plain (name var)) refl
      refl (plain_back known (name var) h)
  objective_back (objective.Affine sense f) h =
      sought_back sense (affine_data name f) (codes "ScalarAffineFunction")
      (named.Affine (named_affine name f)) refl refl
      (ap (mapped named.Affine) (affine_back name known f h))

-- ---- sets and constraints

pub set_for_back : (func : NamedFunc) (set : Set) → SetFits set → dimension_of set < 2 ^ 32
    → named_components func ≡ dimension_of set → set_for func (set_data set) ≡ Ok set
unfolding set_for
set_for_back func set fits few same =
    ap (λ w. w >>= (λ s. cond (is_unequal func s) (at (key "dimension") (Err (Dimension here)))
    (Ok s))) (set_back set fits few)
    ∙ cond-false (is_unequal func set) _ _
    (and_right (not (is_scalar_named func) && not (is_scalar set)) _
    (ap (λ b. not b) (eq-eqb (named_components func) (dimension_of set) same)))

-- What is known of an edit that is not refused.
use Rattle.std.specs.Prelude.{◌≡◌, ℕ, ◌≤◌, Bool, true, false, if◌then◌else◌, List, [], ◌∷◌, map, Option, Some, None, All, refl}
use Rattle.std.proofs.Common.{ltb-false}
use Rattle.std.proofs.lemmas.List.Elements.{All-nil, All-cons}
use Rattle.user_model.specs.declared.edit.Edit.{Edit}
use Rattle.user_model.specs.declared.refusal.Refusal.{Refusal}
use Rattle.user_model.specs.Sets.{sets_lower, sets_upper}
use Rattle.user_model.specs.Model.{ModelValue, has_lower_bound, has_upper_bound}
use Rattle.user_model.specs.Refusals.{first_of, first_refusal, full_at, counts, refusal_tests, meets_unknown_name, meets_name_taken, meets_function_shape, meets_bad_dimension, meets_output_index, meets_bad_interval, meets_bound_already_set, meets_set_type_mismatch, meets_delete_not_allowed}

-- each test of a refusal fails, and each count is at most its limit
pub record IsPassed (model : ModelValue) (e : Edit) : Type 0 where
  pub known : meets_unknown_name model e ≡ false
  pub free : meets_name_taken model e ≡ false
  pub shaped : meets_function_shape model e ≡ false
  pub dimension : meets_bad_dimension model e ≡ false
  pub output : meets_output_index model e ≡ false
  pub interval : meets_bad_interval e ≡ false
  pub lower : meets_bound_already_set sets_lower has_lower_bound model e ≡ false
  pub upper : meets_bound_already_set sets_upper has_upper_bound model e ≡ false
  pub of_type : meets_set_type_mismatch model e ≡ false
  pub deletable : meets_delete_not_allowed model e ≡ false
  pub counted : All (λ c. c.0 ≤ c.1) (counts model e)

-- no test of the list holds
abbrev pub AllFail : List (Bool × Refusal) → Type 0
AllFail [] = Unit {0}
AllFail (test ∷ tests) = (test.0 ≡ false) × AllFail tests

first_fails : (b : Bool) (r : Refusal) (rest : Option Refusal) → (if b then Some r else rest) ≡ None
    → b ≡ false
first_fails true r rest e = cc
first_fails false r rest e = refl

others_fail : (b : Bool) (r : Refusal) (rest : Option Refusal) → (if b then Some r else rest) ≡ None
    → rest ≡ None
others_fail true r rest e = cc
others_fail false r rest e = e

none_holds : (tests : List (Bool × Refusal)) → first_of tests ≡ None → AllFail tests
none_holds [] e = tt
none_holds (test ∷ tests) e = (
  first_fails test.0 test.1 (first_of tests) e,
  none_holds tests
      (others_fail test.0 test.1 (first_of tests) e),
)

within_limits : (counted : List (ℕ × ℕ)) → AllFail (map full_at counted)
    → All (λ c. c.0 ≤ c.1) counted
within_limits [] h = All-nil (λ c. c.0 ≤ c.1)
within_limits (c ∷ counted) h =
    All-cons (λ c. c.0 ≤ c.1) c counted (ltb-false c.1 c.0 h.0) (within_limits counted h.1)

-- an edit that is not refused passes every test
pub passed : (model : ModelValue) (e : Edit) → first_refusal model e ≡ None → IsPassed model e
unfolding first_refusal
passed model e none =
    let h : AllFail (refusal_tests model e) = none_holds (refusal_tests model e) none in
    record {
      known = h.0;
      free = h.1.0;
      shaped = h.1.1.0;
      dimension = h.1.1.1.0;
      output = h.1.1.1.1.0;
      interval = h.1.1.1.1.1.0;
      lower = h.1.1.1.1.1.1.0;
      upper = h.1.1.1.1.1.1.1.0;
      of_type = h.1.1.1.1.1.1.1.1.0;
      deletable = h.1.1.1.1.1.1.1.1.1.0;
      counted = within_limits (counts model e) h.1.1.1.1.1.1.1.1.1.1;
    }

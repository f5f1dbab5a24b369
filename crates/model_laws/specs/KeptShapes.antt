-- Changes of functions and sets that keep a row and a group valid.
use Rattle.std.specs.Prelude.{◌≡◌, ◌⊎◌, ℕ, zero, suc, ◌-◌, ◌≤◌, Bool, true, false, ◌&&◌, List, [], ◌∷◌, All, length, map, refl}
use Rattle.std.proofs.Common.{arith, rules, sym, ap, subst, inl, inr, ◌∙◌}
use Rattle.std.proofs.lemmas.Bool.{both_ways}
use Rattle.std.proofs.lemmas.List.{length-map}
use Rattle.ratio_core.specs.Rational.{Rational}
use Rattle.aff_core.specs.Address.{Address}
use Rattle.aff_core.specs.Function.{Function, with_coefficient}
use Rattle.set_core.specs.declared.set.Set.{Set}
use Rattle.set_core.specs.declared.set.Set.TheVariants.{LessThan}
use Rattle.user_model.specs.declared.edit.NamedFunc.{NamedFunc}
use Rattle.user_model.specs.declared.edit.NamedFunc.TheVariants as named
use Rattle.user_model.specs.declared.function.UserFunc.{UserFunc}
use Rattle.user_model.specs.declared.function.UserFunc.TheVariants.{Plain, Affine, PlainVec, AffineVec}
use Rattle.user_model.specs.declared.group.Group.{Group}
use Rattle.user_model.specs.declared.row.Row.{Row}
use Rattle.user_model.specs.Sets.{sets_lower, sets_upper}
use Rattle.set_core.specs.Shapes.{IsSetOf, is_scalar, same_type, type_of}
use Rattle.set_core.specs.declared.set_type.SetType.{SetType}
use Rattle.set_core.specs.declared.set_type.SetType.TheVariants as types
use Rattle.set_core.specs.contracts.set_type.SetType.{the_type}
use denote.Enum.Bare.{same_true}
use Rattle.user_model.specs.Functions.{components, func_mentions, is_scalar_function, is_scalar_named, named_components, term_count, term_counts}
use Rattle.user_model.specs.Limits.{TERMS}
use Rattle.user_model.specs.Model.{ModelValue, is_variable}
use Rattle.user_model.specs.Edited.{changed_at, located, on_affine, on_output, with_constant}
use Rattle.user_model.specs.Valid.{IsValidRow, Stands}
use Rattle.model_laws.specs.KeptParts.{IsRowInPlace}
use Rattle.model_laws.specs.Standing.{MentionsOnly, with_term}

-- ---- functions of the same shape

pub record HasShapeOf (old new : UserFunc) : Type 0 where
  pub scalar : is_scalar_function new ≡ is_scalar_function old
  pub components : components new ≡ components old
  pub variable : (n : ℕ) → is_variable n new ≡ is_variable n old

pub affine_shape : (h : Function → Function) (func : UserFunc) → HasShapeOf func (on_affine h func)
affine_shape h (Plain var) = record { scalar = refl; components = refl; variable = λ n. refl }
affine_shape h _ = record { scalar = refl; components = refl; variable = λ n. refl }

changed_length : (i : ℕ) (h : Function → Function) (fs : List Function)
    → length (changed_at i h fs) ≡ length fs
changed_length i h [] = refl
changed_length zero h (f ∷ fs) = refl
changed_length (suc i) h (f ∷ fs) = ap suc (changed_length i h fs)

pub output_shape : (output : ℕ) (h : Function → Function) (func : UserFunc)
    → HasShapeOf func (on_output output h func)
output_shape output h (AffineVec fs) =
    record { scalar = refl; components = changed_length (output - 1) h fs; variable = λ n. refl }
output_shape output h _ = record { scalar = refl; components = refl; variable = λ n. refl }

pub located_scalar : (model : ModelValue) (func : NamedFunc)
    → is_scalar_function (located model func) ≡ is_scalar_named func
located_scalar model (named.Plain var) = refl
located_scalar model _ = refl

pub scalar_components : (func : UserFunc) → is_scalar_function func ≡ true → components func ≡ 1
scalar_components (PlainVec vars) e = absurd (both_ways false refl e)
scalar_components (AffineVec fs) e = absurd (both_ways false refl e)
scalar_components _ e = refl

pub located_components : (model : ModelValue) (func : NamedFunc)
    → components (located model func) ≡ named_components func
located_components model (named.PlainVec vars) = length-map vars _
located_components model (named.AffineVec fs) = length-map fs _
located_components model _ = refl

-- ---- constants have no part in the number of terms

counts_at : (i : ℕ) (value : Rational) (fs : List Function)
    → map term_count (changed_at i (λ f. with_constant f value) fs) ≡ map term_count fs
counts_at i value [] = refl
counts_at zero value (f ∷ fs) = refl
counts_at (suc i) value (f ∷ fs) = ap (λ ns. term_count f ∷ ns) (counts_at i value fs)

pub constant_counts : (value : Rational) (func : UserFunc)
    → term_counts (on_affine (λ f. with_constant f value) func) ≡ term_counts func
constant_counts value (Plain var) = refl
constant_counts value _ = refl

pub output_counts : (output : ℕ) (value : Rational) (func : UserFunc)
    → term_counts (on_output output (λ f. with_constant f value) func) ≡ term_counts func
output_counts output value (AffineVec fs) = counts_at (output - 1) value fs
output_counts output value _ = refl

-- ---- changes of functions that mention variables that stand

pub standing_coefficient : (groups : List Group) (at : Address) (value : Rational)
    → Stands groups at → MentionsOnly (Stands groups) (λ f. with_coefficient f at value)
standing_coefficient groups at value s =
    record { only = λ f q e. by_term f q (with_term f at value q e) }
  where
    by_term : (f : Function) (q : Address) → (q ≡ at) ⊎ (func_mentions q (Affine f) ≡ true)
        → Stands groups q ⊎ (func_mentions q (Affine f) ≡ true)
    by_term f q (inl same) = inl (subst (Stands groups) (sym same) s)
    by_term f q (inr was) = inr was

-- ---- a row with another function, set or name

module _ (groups : List Group) (row : Row) where
  pub function_in_place : (func : UserFunc) → HasShapeOf row.func func
      → ((q : Address) → func_mentions q func ≡ true
      → Stands groups q ⊎ (func_mentions q row.func ≡ true))
      → (All (λ count. count ≤ TERMS) (term_counts row.func)
      → All (λ count. count ≤ TERMS) (term_counts func))
      → IsRowInPlace groups row (record row { func = func })
  function_in_place func shape only terms = record {
    id = refl;
    valid = λ is. (record {
      stand = λ q e. by_mention is (only q e);
      limit = let limit = is.limit in let same = shape.components in omega (arith, limit, same);
      terms = terms is.terms;
      shape = is.shape ∙ sym shape.scalar;
      set = subst (λ k. IsSetOf k row.set) (sym shape.components) is.set;
    });
    lower = λ n e. ap (λ b. b && sets_lower row.set) (sym (shape.variable n)) ∙ e;
    upper = λ n e. ap (λ b. b && sets_upper row.set) (sym (shape.variable n)) ∙ e;
  }
    where
      by_mention : IsValidRow groups row → {q : Address}
          → Stands groups q ⊎ (func_mentions q row.func ≡ true) → Stands groups q
      by_mention is (inl s) = s
      by_mention is {q = q} (inr was) = is.stand q was

  pub name_in_place : (name : List ℕ) → IsRowInPlace groups row (record row { name = name })
  name_in_place name = record {
    id = refl;
    valid = λ is. (record {
      stand = is.stand;
      limit = is.limit;
      terms = is.terms;
      shape = is.shape;
      set = is.set;
    });
    lower = λ n e. e;
    upper = λ n e. e;
  }

-- ---- sets of one type set the same bounds

-- whether sets of the type set a lower bound, and an upper one
bounds_of : SetType → Bool × Bool
bounds_of types.LessThan = (false, true)
bounds_of types.GreaterThan = (true, false)
bounds_of types.EqualTo = (true, true)
bounds_of types.Interval = (true, true)
bounds_of _ = (false, false)

abbrev pub set_bounds : Set → Bool × Bool
set_bounds set = (sets_lower set, sets_upper set)

type_bounds : (set : Set) → set_bounds set ≡ bounds_of (type_of set)
unfolding bounds_of
type_bounds (LessThan u) = refl
type_bounds _ = refl

pub same_bounds : (old new : Set) → same_type old new ≡ true
    → set_bounds old ≡ set_bounds new
same_bounds old new same = type_bounds old
    ∙ (ap bounds_of (same_true the_type (search rules) (type_of old) (type_of new) same)
    ∙ sym (type_bounds new))

pub set_in_place : (groups : List Group) (row : Row) (set : Set)
    → is_scalar set ≡ is_scalar_function row.func → IsSetOf (components row.func) set
    → same_type row.set set ≡ true → IsRowInPlace groups row (record row { set = set })
set_in_place groups row set shape is same = record {
  id = refl;
  valid = λ was. (record {
    stand = was.stand;
    limit = was.limit;
    terms = was.terms;
    shape = shape;
    set = is;
  });
  lower = λ n e. ap (λ b. is_variable n row.func && b.0) (same_bounds row.set set same) ∙ e;
  upper = λ n e. ap (λ b. is_variable n row.func && b.1) (same_bounds row.set set same) ∙ e;
}

-- What is written of a valid model has texts and short numbers alone.
use Rattle.std.proofs.Common.{◌≡◌, ℕ, suc, ◌+◌, ◌^◌, ◌<◌, ◌≤◌, ℤ, pos, negsuc, unsigned_abs, Bool, true, false, List, [], ◌∷◌, ◌++◌, length, map, refl, sym, subst, arith}
use Rattle.std.specs.Prelude.{All}
use Rattle.std.proofs.lemmas.Bool.{and_parts, cond-false, cond-true, ltb-true}
use Rattle.std.proofs.lemmas.List.Elements.{All-head, All-tail}
use Rattle.ratio_core.specs.Rational.{Rational}
use Rattle.ratio_core.specs.Text.{text_of}
use Rattle.aff_core.specs.Address.{Address}
use Rattle.aff_core.specs.Function.{Function, terms_of}
use Rattle.aff_core.specs.declared.sense.Sense.{Sense}
use Rattle.aff_core.specs.declared.sense.Sense.TheVariants.{Min, Max}
use Rattle.set_core.specs.Shapes.{dimension_of, is_scalar}
use Rattle.set_core.specs.declared.set.Set.{Set}
use Rattle.set_core.specs.declared.set.Set.TheVariants.{LessThan, GreaterThan, EqualTo, Interval, Reals, Zeros, Nonnegatives, Nonpositives, NormInfinityCone, NormOneCone}
use Rattle.user_model.specs.declared.function.UserFunc.{UserFunc}
use Rattle.user_model.specs.declared.function.UserFunc.TheVariants.{Plain, Affine, PlainVec, AffineVec}
use Rattle.user_model.specs.declared.group.Group.{Group}
use Rattle.user_model.specs.declared.group.GroupVar.{GroupVar}
use Rattle.user_model.specs.declared.objective.Objective.{Objective}
use Rattle.user_model.specs.declared.objective.Objective.TheVariants as objective
use Rattle.user_model.specs.declared.row.Row.{Row}
use Rattle.user_model.specs.Functions.{components}
use Rattle.user_model.specs.Limits.{COMPONENTS}
use Rattle.user_model.specs.Model.{ModelValue, variables}
use Rattle.user_model.specs.Valid.{IsValid, IsValidGroup, IsValidRow}
use Rattle.serde_json.specs.Data.{Data, number, string}
use Rattle.serde_json.specs.Find.{of_integer}
use Rattle.serde_json.specs.View.{items_of}
use Rattle.mof_write.specs.Values.{is_short, number_data, set_data}
use Rattle.mof_write.specs.Written.{Naming, address_data, affine_data, function_data, group_data, model_data, naming, objective_data, row_data, sense_data, term_data, variable_entry, variables_of, vector_affine_data, vector_term_data, vector_terms}
use Rattle.mof_write.proofs.ShortTexts.{AreShort, IsShort, IsShortNumber}

-- ---- lists

each_short : {X : Type 0} (k : ℕ) (f : X → Data) → ((x : X) → IsShort k (f x)) → (xs : List X)
    → AreShort k (items_of (map f xs))
each_short k f short [] = tt
each_short k f short (x ∷ xs) = (short x, each_short k f short xs)

all_short : {X : Type 0} (k : ℕ) (P : X → Type 0) (f : X → Data)
    → ((x : X) → P x → IsShort k (f x)) → (xs : List X) → All P xs
    → AreShort k (items_of (map f xs))
all_short k P f short [] h = tt
all_short k P f short (x ∷ xs) h =
    (short x (All-head P x xs h), all_short k P f short xs (All-tail P x xs h))

both_short : (k : ℕ) (ds es : List Data) → AreShort k (items_of ds) → AreShort k (items_of es)
    → AreShort k (items_of (ds ++ es))
both_short k [] es h g = g
both_short k (d ∷ ds) es h g = (h.0, both_short k ds es h.1 g)

-- ---- numbers and sets

integer_short : (z : ℤ) → unsigned_abs z < 10 ^ 18 → IsShortNumber (of_integer z)
integer_short (pos n) h = h
integer_short (negsuc n) h = h

number_short : (k : ℕ) (q : Rational) → IsShort k (number_data q)
unfolding number_data
number_short k q = by (is_short q) refl
  where
    by : (b : Bool) → is_short q ≡ b → IsShort k (number_data q)
    by true e =
        subst (IsShort k)
        (sym (cond-true (is_short q) (number (of_integer q.num)) (string (text_of q)) e))
        (integer_short q.num (ltb-true _ _ (and_parts _ _ e).1))
    by false e =
        subst (IsShort k)
        (sym (cond-false (is_short q) (number (of_integer q.num)) (string (text_of q)) e)) tt

set_short : (k : ℕ) (set : Set) → dimension_of set < 10 ^ 18 → IsShort (suc k) (set_data set)
unfolding set_data
set_short k (LessThan u) h = (tt, (number_short k u, tt))
set_short k (GreaterThan l) h = (number_short k l, (tt, tt))
set_short k (EqualTo a) h = (tt, (number_short k a, tt))
set_short k (Interval l u) h = (number_short k l, (tt, (number_short k u, tt)))
set_short k (Reals n) h = (h, (tt, tt))
set_short k (Zeros n) h = (h, (tt, tt))
set_short k (Nonnegatives n) h = (h, (tt, tt))
set_short k (Nonpositives n) h = (h, (tt, tt))
set_short k (NormInfinityCone n) h = (h, (tt, tt))
set_short k (NormOneCone n) h = (h, (tt, tt))

-- ---- functions

sense_short : (k : ℕ) (sense : Sense) → IsShort k (sense_data sense)
sense_short k Min = tt
sense_short k Max = tt

module _ (name : Naming) where
  term_short : (k : ℕ) (t : Address × Rational) → IsShort (suc k) (term_data name t)
  term_short k t = (number_short k t.1, (tt, tt))

  affine_short : (k : ℕ) (f : Function) → IsShort (suc (suc (suc k))) (affine_data name f)
  unfolding affine_data
  affine_short k f = (
    number_short (suc (suc k)) f.constant,
    (each_short (suc k) (term_data name) (term_short k) (terms_of f), (tt, tt)),
  )

  vector_term_short : (j : ℕ) → j < 10 ^ 18 → (t : Address × Rational)
      → IsShort 2 (vector_term_data name j t)
  vector_term_short j h t = (h, (term_short 0 t, tt))

  vector_terms_short : (j : ℕ) (fs : List Function) → j + length fs < 10 ^ 18
      → AreShort 2 (items_of (vector_terms name j fs))
  vector_terms_short j [] h = tt
  vector_terms_short j (f ∷ fs) h =
      both_short 2 (map (vector_term_data name (j + 1)) (terms_of f)) (vector_terms name (j + 1) fs)
      (each_short 2 (vector_term_data name (j + 1)) (vector_term_short (j + 1) (omega arith))
      (terms_of f))
      (vector_terms_short (j + 1) fs (omega arith))

  vector_affine_short : (fs : List Function) → length fs ≤ COMPONENTS
      → IsShort 4 (vector_affine_data name fs)
  unfolding vector_affine_data
  vector_affine_short fs h = (
    each_short 2 (λ f. number_data f.constant) (λ f. number_short 2 f.constant) fs,
    (vector_terms_short 0 fs (omega arith), (tt, tt)),
  )

  function_short : (func : UserFunc) → components func ≤ COMPONENTS
      → IsShort 4 (function_data name func)
  unfolding function_data
  function_short (Plain var) h = (tt, (tt, tt))
  function_short (Affine f) h = affine_short 1 f
  function_short (PlainVec vars) h = (tt, (each_short 2 (address_data name) (λ _. tt) vars, tt))
  function_short (AffineVec fs) h = vector_affine_short fs h

  row_short : {groups : List Group} (row : Row) → IsValidRow groups row
      → IsShort 5 (row_data name row)
  unfolding row_data
  row_short row h = (
    function_short row.func h.limit,
    (tt, (set_short 3 row.set (omega (arith, h.limit, h.set.dimension)), tt)),
  )

  objective_short : (o : Objective) → IsShort 6 (objective_data name o)
  unfolding objective_data
  objective_short objective.Feasibility = (tt, tt)
  objective_short (objective.Plain sense var) = ((tt, (tt, tt)), (sense_short 5 sense, tt))
  objective_short (objective.Affine sense f) = (affine_short 2 f, (sense_short 5 sense, tt))

-- ---- groups

variables_short : (scalar : Bool) (vars : List GroupVar) → IsShort 4 (variables_of scalar vars)
variables_short true [] = (tt, (tt, tt))
variables_short true (v ∷ vs) = (tt, (tt, tt))
variables_short false vars = (tt, (each_short 2 (λ v. string v.name) (λ _. tt) vars, tt))

group_short : (g : Group) → IsValidGroup g → IsShort 5 (group_data g)
unfolding group_data
group_short g h = (
  variables_short (is_scalar g.set) g.vars,
  (set_short 3 g.set (omega (arith, h.limit, h.set.dimension)), tt),
)

-- ---- the model

pub model_short : (model : ModelValue) → IsValid model → IsShort 7 (model_data model)
unfolding model_data
model_short model h = (
  both_short 5 (map group_data model.groups) (map (row_data (naming model)) model.rows)
      (all_short 5 IsValidGroup group_data group_short model.groups h.parts.valid_groups)
      (all_short 5 (IsValidRow model.groups) (row_data (naming model)) (row_short (naming model))
      model.rows h.parts.valid_rows),
  (
    objective_short (naming model) model.objective,
    (
      each_short 5 variable_entry (λ _. (tt, tt)) (variables model),
      ((omega arith, (omega arith, tt)), tt),
    ),
  ),
)

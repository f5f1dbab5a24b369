-- Names of variables that stand, item by item; and terms of distinct variables have distinct names.
use Rattle.std.proofs.Common.{◌≡◌, ◌+◌, ◌<◌, ℕ, true, false, true≢false, List, [], ◌∷◌, ◌++◌, None, ap, append_assoc, drop, get_or, length, map, subst, sym, ◌∙◌}
use Rattle.std.specs.Prelude.{bytes_eq, find}
use Rattle.std.specs.List.{AllByRecursion, IsDistinct}
use Rattle.std.specs.Option.{option_map}
use Rattle.std.specs.Cmp.{tied_itself}
use Rattle.std.specs.FinMap.{is_sorted}
use Rattle.std.specs.FinMap.Entries.{below_all}
use Rattle.std.specs.Ordering.{is_lt}
use Rattle.std.proofs.lemmas.Bool.{and_parts}
use Rattle.std.proofs.lemmas.List.{drop_more, map-append}
use Rattle.std.proofs.lemmas.List.Elements.{All-head, All-tail}
use Rattle.std.proofs.lemmas.Option.{none-some}
use mathlib.Core.List.{map-map}
use Rattle.aff_core.specs.Address.{Address, address_cmp, address_eq, address_eq-Decides, address_total}
use Rattle.aff_core.specs.Function.{Function, terms_of}
use Rattle.aff_core.specs.FunctionLaws.{terms_rise}
use Rattle.model_laws.specs.Found.{is_some-find, one_passes, something}
use Rattle.mof_laws.specs.ReadBack.{named_term}
use Rattle.mof_laws.specs.VariableLaws.{HasVariableAt, other_name}
use Rattle.mof_round_trip_laws.specs.Functions.{HasVariable, HaveVariables}
use Rattle.mof_write.specs.Written.{naming}
use Rattle.named_aff.specs.Distinct.{HasDistinctNames}
use Rattle.named_aff.specs.declared.terms.NamedTerm.{NamedTerm}
use Rattle.ratio_core.specs.Rational.{Rational}
use Rattle.user_model.specs.Consistent.{IsConsistent}
use Rattle.user_model.specs.Model.{ModelValue, name_at, variable_address, variables}

-- ---- a variable that stands has a name

pub is_named : (model : ModelValue) (at : Address) → HasVariableAt model at
    → name_at model at ≡ None → ⊥
is_named model at h none =
    let some = something (find (λ v. address_eq (variable_address v.number) at) (variables model))
    (is_some-find (λ v. address_eq (variable_address v.number) at) (variables model)
    ∙ one_passes (λ v. address_eq (variable_address v.number) at) (variables model) h.var h.there
    ((address_eq-Decides (variable_address h.var.number) at).1 h.address)) in
    none-some some.0.name (sym none ∙ ap (option_map (λ v. v.name)) some.1)

-- ---- loops that make an item of each

-- what is made, and what is left to be made
pub one_made : {X Y : Type 0} (f : X → Y) (xs : List X) (i : ℕ) (x : X) (old new all : List Y)
    (y : Y) → x ≡ get_or xs i x → i < length xs → new ≡ old ++ y ∷ [] → y ≡ f x
    → old ++ map f (drop i xs) ≡ all → new ++ map f (drop (i + 1) xs) ≡ all
one_made f xs i x old new all y is within pushed made so_far =
    ap (λ l. l ++ map f (drop (i + 1) xs)) (pushed ∙ ap (λ z. old ++ z ∷ []) made)
    ∙ append_assoc old (f x ∷ []) (map f (drop (i + 1) xs))
    ∙ ap (λ z. old ++ (f z ∷ map f (drop (i + 1) xs))) is
    ∙ ap (λ l. old ++ map f l) (sym (drop_more xs i x within)) ∙ so_far

-- ---- names are distinct

module _ (model : ModelValue) (c : IsConsistent model) where
  less_apart : (v w : Address) → is_lt (address_cmp v w) ≡ true → w ≡ v → ⊥
  less_apart v w less e =
      true≢false (sym less
      ∙ ap (λ a. is_lt (address_cmp v a)) e ∙ ap is_lt (tied_itself address_total v))

  others_apart : (t : Address × Rational) (ts : List (Address × Rational))
      → below_all address_cmp t.0 ts ≡ true → HasVariableAt model t.0 → HaveVariables model ts
      → AllByRecursion (λ n. bytes_eq (naming model t.0) n ≡ false) (map (λ u. naming model u.0) ts)
  others_apart t [] below here there = tt
  others_apart t (u ∷ us) below here there =
      let parts = and_parts (is_lt (address_cmp t.0 u.0)) (below_all address_cmp t.0 us) below in (
        other_name model u.0 t.0 c (All-head (HasVariable model) u us there) here
            (less_apart t.0 u.0 parts.0),
        others_apart t us parts.1 here (All-tail (HasVariable model) u us there),
      )

  names_distinct : (ts : List (Address × Rational)) → is_sorted address_cmp ts ≡ true
      → HaveVariables model ts → IsDistinct bytes_eq (map (λ u. naming model u.0) ts)
  unfolding IsDistinct
  names_distinct [] rises there = tt
  names_distinct (t ∷ ts) rises there =
      let parts = and_parts (below_all address_cmp t.0 ts) (is_sorted address_cmp ts) rises in (
        others_apart t ts parts.0 (All-head (HasVariable model) t ts there)
            (All-tail (HasVariable model) t ts there),
        names_distinct ts parts.1 (All-tail (HasVariable model) t ts there),
      )

  pub terms_distinct : (f : Function) → HaveVariables model (terms_of f)
      → HasDistinctNames (map (named_term (naming model)) (terms_of f))
  terms_distinct f there =
      subst (IsDistinct bytes_eq)
      (sym (map-map (λ t. t.variable) (named_term (naming model)) (terms_of f)))
      (names_distinct (terms_of f) ((terms_rise f).rising) there)

-- ---- the first of distinct names are distinct

all_front : {X : Type 0} (P : X → Type 0) (xs ys : List X) → AllByRecursion P (xs ++ ys)
    → AllByRecursion P xs
all_front P [] ys h = tt
all_front P (x ∷ xs) ys h = (h.0, all_front P xs ys h.1)

distinct_front : (xs ys : List (List ℕ)) → IsDistinct bytes_eq (xs ++ ys) → IsDistinct bytes_eq xs
unfolding IsDistinct
distinct_front [] ys h = tt
distinct_front (x ∷ xs) ys h =
    (all_front (λ n. bytes_eq x n ≡ false) xs ys h.0, distinct_front xs ys h.1)

abbrev variable_of : NamedTerm → List ℕ
variable_of t = t.variable

pub front_distinct : (ts us all : List NamedTerm) → ts ++ us ≡ all → HasDistinctNames all
    → HasDistinctNames ts
front_distinct ts us all is h =
    distinct_front (map variable_of ts) (map variable_of us)
    (subst (IsDistinct bytes_eq) (ap (map variable_of) (sym is) ∙ map-append variable_of ts us) h)

-- Names that are new in a model, and the edit that adds a group of variables with such names.
use Rattle.std.specs.Prelude.{◌≡◌, ◌≢◌, ℕ, Bool, true, false, ◌&&◌, ◌==◌, not, cond, List, [], ◌∷◌, All, AllPairs, Option, Some, find, is_some, length, refl}
use Rattle.std.specs.List.{list_any}
use Rattle.std.specs.Option.{option_map}
use Rattle.std.specs.Str.{bytes_eq}
use Rattle.std.proofs.Common.{sym, ◌∙◌, ap}
use Rattle.std.proofs.lemmas.Bool.{eq-eqb, false_from_ne_true, or_from}
use Rattle.std.proofs.lemmas.List.Elements.{All-head, All-tail, All-weaker}
use Rattle.std.proofs.lemmas.Slice.Eq.{bytes_eq-Decides}
use Rattle.limit_laws.specs.Leads.{PassesTests}
use Rattle.map_laws.specs.PairLaws.{AllPairs-head, AllPairs-tail}
use Rattle.set_core.specs.ShapeLaws.{good_dimension, scalar_one}
use Rattle.set_core.specs.Shapes.{IsSetOf, is_scalar}
use Rattle.set_core.specs.declared.set.Set.{Set}
use Rattle.user_model.specs.Model.{ModelValue, variables}
use Rattle.user_model.specs.Refusals.{has_twins, has_variable_named}
use Rattle.user_model.specs.declared.edit.Edit.TheVariants.{AddGroup}
use Rattle.user_model.specs.declared.group.GroupVar.{GroupVar}

pub other_name : (a b : List ℕ) → a ≢ b → bytes_eq a b ≡ false
other_name a b apart = false_from_ne_true _ (λ e. apart ((bytes_eq-Decides a b).0 e))

pub none_passes : {X : Type 0} (p : X → Bool) (xs : List X) → All (λ x. p x ≡ false) xs
    → list_any p xs ≡ false
none_passes p [] h = refl
none_passes p (x ∷ xs) h =
    or_from _ _ (All-head (λ x. p x ≡ false) x xs h)
    (none_passes p xs (All-tail (λ x. p x ≡ false) x xs h))

no_twins : (names : List (List ℕ)) → AllPairs {X = List ℕ} (λ a b. a ≢ b) names
    → has_twins names ≡ false
no_twins [] h = refl
no_twins (name ∷ names) h =
    or_from _ _
    (none_passes (bytes_eq name) names
    (All-weaker (λ b. name ≢ b) (λ b. bytes_eq name b ≡ false) (other_name name) names
    (AllPairs-head (λ a b. a ≢ b) name names h)))
    (no_twins names (AllPairs-tail (λ a b. a ≢ b) name names h))

-- none of the variables has the name
abbrev pub IsNewIn : List GroupVar → List ℕ → Type 0
IsNewIn vs name = All (λ (v : GroupVar). v.name ≢ name) vs

-- whether one of them has it
abbrev pub is_one_named : List GroupVar → List ℕ → Bool
is_one_named vs name =
    is_some (option_map (λ (v : GroupVar). v.number)
    (find (λ (v : GroupVar). bytes_eq v.name name) vs))

not_named : (vs : List GroupVar) (name : List ℕ) → IsNewIn vs name → is_one_named vs name ≡ false
not_named [] name h = refl
not_named (v ∷ vs) name h =
    ap (λ b. is_some (option_map (λ (v : GroupVar). v.number)
    (cond b (Some v) (find (λ (v : GroupVar). bytes_eq v.name name) vs))))
    (other_name v.name name (All-head (λ (v : GroupVar). v.name ≢ name) v vs h))
    ∙ not_named vs name (All-tail (λ (v : GroupVar). v.name ≢ name) v vs h)

pub named_first : (b : Bool) (v : GroupVar) (o : Option GroupVar)
    → is_some (option_map (λ (v : GroupVar). v.number) o) ≡ true
    → is_some (option_map (λ (v : GroupVar). v.number) (cond b (Some v) o)) ≡ true
named_first true v o h = refl
named_first false v o h = h

-- a set of numbers has one component
one_component : (set : Set) (n : ℕ) → IsSetOf n set → (is_scalar set && not (n == 1)) ≡ false
one_component set n h = by (is_scalar set) refl
  where
    by : (b : Bool) → is_scalar set ≡ b → (b && not (n == 1)) ≡ false
    by true e = ap (λ b. not b) (eq-eqb n 1 (sym h.dimension ∙ scalar_one set e))
    by false e = refl

-- a group of variables with new names, apart from each other, in a set of as many components
pub group_passes : (m : ModelValue) (names : List (List ℕ)) (set : Set)
    → IsSetOf (length names) set → All (IsNewIn (variables m)) names
    → AllPairs {X = List ℕ} (λ a b. a ≢ b) names → PassesTests m (AddGroup names set)
group_passes m names set suits new apart = record {
  known = refl;
  free = or_from _ _
      (none_passes (has_variable_named m) names
      (All-weaker (IsNewIn (variables m)) (λ b. has_variable_named m b ≡ false)
      (λ b h. not_named (variables m) b h) names new))
      (no_twins names apart);
  shaped = one_component set (length names) suits;
  dimension = good_dimension (length names) set suits;
  output = refl;
  interval = suits.uncrossed;
  lower = refl;
  upper = refl;
  of_type = refl;
  deletable = refl;
}

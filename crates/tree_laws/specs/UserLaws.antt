-- The user's model, its points and its functions, as items have them.
use Rattle.std.specs.Prelude.{◌≡◌, ◌⊎◌, ◌==◌, ◌||◌, ℕ, zero, suc, Bool, true, false, cond, List, [], ◌∷◌, ◌++◌, All, Contains, IsSome, Some, None, find, map, refl}
use Rattle.std.specs.List.{list_any}
use Rattle.std.proofs.Common.{arith, inl, inr, sym, ap, ap₂, subst, ◌∙◌, true≢false}
use Rattle.std.proofs.lemmas.Bool.Decides.{Decides-eqb}
use Rattle.std.proofs.lemmas.List.Elements.{All-cons, All-head, All-nil, All-tail, Contains-append_left, Contains-append_right}
use Rattle.std.proofs.lemmas.Bool.{false_from_ne_true}
use Rattle.map_laws.specs.OptionLaws.{not_some}
use Rattle.ratio_core.specs.Rational.{Rational, zero_ℚ}
use Rattle.set_core.specs.declared.set.Set.{Set}
use Rattle.aff_core.specs.Address.{Address, address_eq, address_eq-Decides}
use Rattle.aff_core.specs.Function.{Function, coefficient}
use Rattle.aff_core.specs.FunctionLists.{evaluations}
use Rattle.aff_core.specs.Points.{spread}
use Rattle.linear_laws.specs.EvaluationLaws.{evaluated_agreeing}
use Rattle.bridge_face.specs.Law.{Miss, inner_of, row_functions, row_set}
use Rattle.item_core.specs.Item.{functions_of}
use Rattle.certificates.specs.PointLaws.{split_addresses}
use Rattle.certificates.specs.Points.{address_of, addresses_of, all_addresses, at_point, functions_of as functions_in}
use Rattle.user_model.specs.Functions.{func_mentions}
use Rattle.user_model.specs.Model.{ModelValue, has_variable, variable_address, variables}
use Rattle.user_model.specs.Valid.{IsValidRow, Stands}
use Rattle.user_model.specs.declared.function.UserFunc.{UserFunc}
use Rattle.user_model.specs.declared.function.UserFunc.TheVariants.{Plain, Affine, PlainVec, AffineVec}
use Rattle.user_model.specs.declared.group.Group.{Group}
use Rattle.user_model.specs.declared.group.GroupVar.{GroupVar}
use Rattle.user_model.specs.declared.row.Row.{Row}
use Rattle.map_laws.specs.EachLaws.{all_first, all_second, contains_here, contains_later}
use Rattle.fresh_bridging.specs.ModelImage.{group_item, row_body}
use Rattle.fresh_bridging.specs.ModelLaws.{row_omits}
use Rattle.address_laws.specs.Apart.{Avoids, in_or_not, not_in}

-- ---- the variables

-- the groups' variables are the model's
pub inner_is : (groups : List Group) → inner_of (map group_item groups) ≡ all_addresses groups
inner_is [] = refl
inner_is (g ∷ gs) = ap (λ l. addresses_of g.vars ++ l) (inner_is gs) ∙ sym (split_addresses g gs)

in_vars : (vars : List GroupVar) (n : ℕ) → list_any (λ v. v.number == n) vars ≡ true
    → Contains (addresses_of vars) (variable_address n)
in_vars [] n h = absurd (true≢false (sym h))
in_vars (v ∷ vs) n h = by (v.number == n) refl h (in_vars vs n)
  where
    by : (b : Bool) → (v.number == n) ≡ b → (b || list_any (λ w. w.number == n) vs) ≡ true
        → (list_any (λ w. w.number == n) vs ≡ true
        → Contains (addresses_of vs) (variable_address n))
        → Contains (addresses_of (v ∷ vs)) (variable_address n)
    by true e k later =
        subst (λ m. Contains (addresses_of (v ∷ vs)) (variable_address m))
        ((Decides-eqb v.number n).0 e) (contains_here (address_of v) (addresses_of vs))
    by false e k later =
        contains_later (address_of v) (variable_address n) (addresses_of vs) (later k)

found_in : (groups : List Group) (n : ℕ) → IsSome (find (has_variable n) groups)
    → Contains (all_addresses groups) (variable_address n)
found_in [] n h = absurd (not_some {X = Group} None refl h)
found_in (g ∷ gs) n h = by (has_variable n g) refl h (found_in gs n)
  where
    by : (b : Bool) → has_variable n g ≡ b
        → IsSome (cond b (Some g) (find (has_variable n) gs))
        → (IsSome (find (has_variable n) gs) → Contains (all_addresses gs) (variable_address n))
        → Contains (all_addresses (g ∷ gs)) (variable_address n)
    by true e k later =
        subst (λ l. Contains l (variable_address n)) (sym (split_addresses g gs))
        (Contains-append_left (addresses_of g.vars) (all_addresses gs) (variable_address n)
        (in_vars g.vars n e))
    by false e k later =
        subst (λ l. Contains l (variable_address n)) (sym (split_addresses g gs))
        (Contains-append_right (addresses_of g.vars) (all_addresses gs) (variable_address n)
        (later k))

pub stands_in : (groups : List Group) (v : Address) → Stands groups v
    → Contains (all_addresses groups) v
stands_in groups v s =
    subst (Contains (all_addresses groups)) (sym s.address) (found_in groups s.number s.group)

-- ---- rows and groups name the model's variables alone

pub user_row_misses : (groups : List Group) (row : Row) → IsValidRow groups row → (v : Address)
    → Avoids (all_addresses groups) v → Miss (functions_of (row_body row.func row.set)) v
user_row_misses groups row valid v h =
    row_omits row.func row.set v
    (false_from_ne_true (func_mentions v row.func)
    (λ t. not_in (all_addresses groups) v h (stands_in groups v (valid.stand v t))))

pub row_functions_are : (func : UserFunc) (s : Set)
    → row_functions (row_body func s) ≡ functions_in func
row_functions_are (Plain var) s = refl
row_functions_are (Affine f) s = refl
row_functions_are (PlainVec vars) s = refl
row_functions_are (AffineVec fs) s = refl

pub item_functions_are : (func : UserFunc) (s : Set)
    → functions_of (row_body func s) ≡ functions_in func
item_functions_are (Plain var) s = refl
item_functions_are (Affine f) s = refl
item_functions_are (PlainVec vars) s = refl
item_functions_are (AffineVec fs) s = refl

pub row_sets_are : (bound : Rational) (func : UserFunc) (s : Set)
    → row_set bound (row_body func s) ≡ s
row_sets_are bound (Plain var) s = refl
row_sets_are bound (Affine f) s = refl
row_sets_are bound (PlainVec vars) s = refl
row_sets_are bound (AffineVec fs) s = refl

-- a group's variables are among the model's
pub group_among : (groups : List Group)
    → All (λ g. (v : Address) → Avoids (all_addresses groups) v → Avoids (addresses_of g.vars) v)
    groups
group_among groups = each groups (λ v h. h)
  where
    each : (gs : List Group)
        → ((v : Address) → Avoids (all_addresses groups) v → Avoids (all_addresses gs) v)
        → All (λ g. (v : Address) → Avoids (all_addresses groups) v
        → Avoids (addresses_of g.vars) v) gs
    each [] h =
        All-nil (λ g. (v : Address) → Avoids (all_addresses groups) v
        → Avoids (addresses_of g.vars) v)
    each (g ∷ gs) h =
        All-cons (λ k. (v : Address) → Avoids (all_addresses groups) v
        → Avoids (addresses_of k.vars) v) g gs
        (λ v n. all_first (λ k. ¬ (k ≡ v)) (addresses_of g.vars) (all_addresses gs)
        (subst (λ l. Avoids l v) (split_addresses g gs) (h v n)))
        (each gs (λ v n. all_second (λ k. ¬ (k ≡ v)) (addresses_of g.vars) (all_addresses gs)
        (subst (λ l. Avoids l v) (split_addresses g gs) (h v n))))

-- ---- points

pub spread_is : (us : List Address) (f : Address → Rational) (v : Address) → Contains us v
    → spread us (map f us) v ≡ f v
spread_is [] f v c = absurd (omega (arith, c.1))
spread_is (a ∷ us) f v c = by (address_eq v a) refl (spread_is us f v)
  where
    later : Contains (a ∷ us) v → ¬ (a ≡ v) → Contains us v
    later (zero, inside, is) n = absurd (n is)
    later (suc place, inside, is) n = (place, omega (arith, inside), is)

    by : (b : Bool) → address_eq v a ≡ b → (Contains us v → spread us (map f us) v ≡ f v)
        → cond b (f a) (spread us (map f us) v) ≡ f v
    by true e rest = ap f (sym ((address_eq-Decides v a).0 e))
    by false e rest =
        rest (later c (λ k. true≢false (sym ((address_eq-Decides v a).1 (sym k)) ∙ e)))

module _ (model : ModelValue) (f : Address → Rational) where
  -- the point that has these numbers of the model's variables
  abbrev pub listed_point : List Rational
  listed_point = map f (addresses_of (variables model))

  -- functions that name the model's variables alone see it as it was
  pub evaluations_agree : (one : Rational) (fs : List Function)
      → ((v : Address) → Avoids (all_addresses model.groups) v → Miss fs v)
      → evaluations one fs (at_point model listed_point) ≡ evaluations one fs f
  evaluations_agree one [] h = refl
  evaluations_agree one (g ∷ fs) h =
      ap₂ ◌∷◌ (evaluated_agreeing one g (at_point model listed_point) f agree)
      (evaluations_agree one fs (λ v n. All-tail (λ k. coefficient k v ≡ zero_ℚ) g fs (h v n)))
    where
      agree : (v : Address) → ¬ (coefficient g v ≡ zero_ℚ) → at_point model listed_point v ≡ f v
      agree v some = by (in_or_not (all_addresses model.groups) v)
        where
          by : Contains (all_addresses model.groups) v ⊎ Avoids (all_addresses model.groups) v
              → at_point model listed_point v ≡ f v
          by (inl c) = spread_is (all_addresses model.groups) f v c
          by (inr n) = absurd (some (All-head (λ k. coefficient k v ≡ zero_ℚ) g fs (h v n)))

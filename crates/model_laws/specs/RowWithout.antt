-- A row without a variable: its number and name stay, it has no more terms, and it is on no other
-- variable, and not on that one.
use Rattle.std.specs.Prelude.{◌≡◌, ◌≢◌, ℕ, ◌≤◌, true, false, cond, List, [], ◌∷◌, map, Some, None, IfSome, length, refl}
use Rattle.std.specs.List.{list_any}
use Rattle.std.proofs.Common.{arith, sym, subst, inl, inr, ◌∙◌}
use Rattle.std.proofs.lemmas.Bool.{cases_Bool, both_ways}
use Rattle.aff_core.specs.Address.{Address, address_eq, address_eq-Decides}
use Rattle.set_core.specs.declared.set.Set.{Set}
use Rattle.user_model.specs.declared.function.UserFunc.{UserFunc}
use Rattle.user_model.specs.declared.function.UserFunc.TheVariants.{Plain, Affine, PlainVec, AffineVec}
use Rattle.user_model.specs.declared.row.Row.{Row}
use Rattle.user_model.specs.Functions.{all_terms}
use Rattle.user_model.specs.Model.{is_variable, variable_address}
use Rattle.set_core.specs.Shapes.{resized}
use Rattle.user_model.specs.Deletion.{row_without, unless_empty, without_address, without_term}
use Rattle.model_laws.specs.Terms.{map_terms, affine_terms, without_adds_none}

pub record IsRowWithout (at : Address) (row left : Row) : Type 0 where
  pub id : left.id ≡ row.id
  pub name : left.name ≡ row.name
  pub bounds : (n : ℕ) → is_variable n left.func ≡ true → is_variable n row.func ≡ true
  pub off : (n : ℕ) → is_variable n left.func ≡ true → variable_address n ≢ at
  pub terms : all_terms left.func ≤ all_terms row.func

-- what holds of each list with its set
pub unless_empty_all : {X Y : Type 0} (P : Y → Type 0) (make : List X → Set → Y) (set : Set)
    (xs : List X) → ((left : List X) (set : Set) → P (make left set))
    → IfSome (unless_empty make set xs) P
unless_empty_all P make set [] each = tt
unless_empty_all P make set (x ∷ xs) each = each (x ∷ xs) (resized (length (x ∷ xs)) set)

-- a row of its parts
abbrev pub row_of : ℕ → List ℕ → UserFunc → Set → Row
row_of id name func set = record { id = id; name = name; func = func; set = set }

-- a row with a function that is no variable, and has no more terms
with_other : (at : Address) (row : Row) (func : UserFunc) (set : Set)
    → ((n : ℕ) → is_variable n func ≡ false) → all_terms func ≤ all_terms row.func
    → IsRowWithout at row (record row { func = func; set = set })
with_other at row func set none fewer = record {
  id = refl;
  name = refl;
  bounds = λ n is. absurd (both_ways (is_variable n func) (none n) is);
  off = λ n is same. both_ways (is_variable n func) (none n) is;
  terms = fewer;
}

by_function : (at : Address) (id : ℕ) (name : List ℕ) (func : UserFunc) (set : Set)
    → IfSome (row_without at (row_of id name func set)) (IsRowWithout at (row_of id name func set))
by_function at id name (Plain var) set =
    elim (cases_Bool (address_eq at var)) [
      | inl same ↦ subst (λ b. IfSome (cond b None (Some (row_of id name (Plain var) set)))
          (IsRowWithout at (row_of id name (Plain var) set))) (sym same) tt
      | inr other ↦ subst (λ b. IfSome (cond b None (Some (row_of id name (Plain var) set)))
          (IsRowWithout at (row_of id name (Plain var) set))) (sym other) (stays other)
    ]
  where
    stays : address_eq at var ≡ false
        → IsRowWithout at (row_of id name (Plain var) set) (row_of id name (Plain var) set)
    stays other = record {
      id = refl;
      name = refl;
      bounds = λ n e. e;
      off = λ n e same. both_ways (address_eq at var) other
          ((address_eq-Decides at var).1 (sym same
          ∙ (address_eq-Decides (variable_address n) var).0 e));
      terms = omega arith;
    }
by_function at id name (Affine f) set =
    with_other at (row_of id name (Affine f) set) (Affine (without_term at f)) set (λ n. refl)
    (affine_terms (without_term at) (without_adds_none at) (Affine f))
by_function at id name (PlainVec vars) set =
    let row = row_of id name (PlainVec vars) set in
    elim (list_any (address_eq at) vars) as (λ b. IfSome
    (cond b (unless_empty (λ left s. record row { func = PlainVec left; set = s }) set
    (without_address at vars)) (Some row)) (IsRowWithout at row)) [
      | true ↦ unless_empty_all (IsRowWithout at row)
          (λ left s. record row { func = PlainVec left; set = s }) set (without_address at vars)
          (λ left s. with_other at row (PlainVec left) s (λ n. refl) (omega arith))
      | false ↦ with_other at row (PlainVec vars) set (λ n. refl) (omega arith)
    ]
by_function at id name (AffineVec fs) set =
    with_other at (row_of id name (AffineVec fs) set) (AffineVec (map (without_term at) fs)) set
    (λ n. refl) (map_terms (without_term at) (without_adds_none at) fs)

pub row_without_is : (at : Address) (row : Row) → IfSome (row_without at row) (IsRowWithout at row)
row_without_is at row = by_function at row.id row.name row.func row.set

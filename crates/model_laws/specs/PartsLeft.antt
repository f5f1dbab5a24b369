-- What is left of valid groups, rows and objectives without a variable is valid.
use Rattle.std.specs.Prelude.{◌≡◌, ◌≢◌, ℕ, ◌≤◌, ◌==◌, Bool, true, false, ◌&&◌, not, cond, List, [], ◌∷◌, Option, Some, None, IfSome, All, find, is_some, length, map, refl}
use Rattle.std.specs.List.{filter_map, list_any}
use Rattle.std.specs.Option.{option_map_or}
use Rattle.std.proofs.Common.{arith, sym, ap, subst, inl, inr, ◌∙◌}
use Rattle.std.proofs.lemmas.Bool.{both_ways, cases_Bool, cases_eq}
use Rattle.std.proofs.lemmas.List.{length-map}
use Rattle.std.proofs.lemmas.List.Elements.{All-nil, All-cons, All-head, All-tail}
use Rattle.aff_core.specs.Address.{Address, address_eq, address_eq-Decides}
use Rattle.aff_core.specs.Function.{Function}
use Rattle.set_core.specs.declared.set.Set.{Set}
use Rattle.set_core.specs.declared.set.Set.TheVariants.{Reals}
use Rattle.user_model.specs.declared.function.UserFunc.{UserFunc}
use Rattle.user_model.specs.declared.function.UserFunc.TheVariants.{Plain, Affine, PlainVec, AffineVec}
use Rattle.user_model.specs.declared.group.Group.{Group}
use Rattle.user_model.specs.declared.group.GroupVar.{GroupVar}
use Rattle.user_model.specs.declared.objective.Objective.{Objective}
use Rattle.user_model.specs.declared.objective.Objective.TheVariants as objective
use Rattle.user_model.specs.declared.row.Row.{Row}
use Rattle.user_model.specs.Sets.{sets_lower, sets_upper}
use Rattle.set_core.specs.Shapes.{IsSetOf, is_norm_cone, is_scalar, resized}
use Rattle.set_core.specs.ShapeLaws.{resized_set}
use Rattle.user_model.specs.Functions.{term_count}
use Rattle.user_model.specs.Limits.{TERMS}
use Rattle.user_model.specs.Model.{has_variable, is_variable, variable_address}
use Rattle.user_model.specs.Deletion.{group_without, objective_without, row_without, unless_empty, without_address, without_term}
use Rattle.user_model.specs.Refusals.{is_cone_row_of}
use Rattle.user_model.specs.Valid.{IsValidGroup, IsValidObjective, IsValidRow, Stands, is_created_by}
use Rattle.model_laws.specs.Replaced.{length_filter}
use Rattle.model_laws.specs.Variables.{group_found, vars_in}
use Rattle.model_laws.specs.GroupWithout.{others, others_stand, vars_without}
use Rattle.model_laws.specs.RowWithout.{row_of}
use Rattle.model_laws.specs.Mentions.{failing_none}
use Rattle.model_laws.specs.Terms.{terms_without}
use Rattle.model_laws.specs.SingleBounds.{groups_left}
use Rattle.model_laws.specs.Standing.{without_terms_mention, without_term_mentions, without_vars_mention}

-- ---- sets of another dimension

-- the set of another dimension is of the same kind
pub record IsResized (set left : Set) : Type 0 where
  pub shape : is_scalar left ≡ is_scalar set
  pub lower : sets_lower left ≡ sets_lower set
  pub upper : sets_upper left ≡ sets_upper set

pub resized_is : (n : ℕ) (set : Set) → IsResized set (resized n set)
resized_is n (Reals d) = record { shape = refl; lower = refl; upper = refl }
resized_is n _ = record { shape = refl; lower = refl; upper = refl }

-- ---- groups

abbrev remade : Group → List GroupVar → Set → Group
remade group left set = record group { vars = left; set = set }

group_remade : (n : ℕ) (group : Group) → IsValidGroup group → is_norm_cone group.set ≡ false
    → (left : List GroupVar) → length left ≤ length group.vars
    → IfSome (unless_empty (remade group) group.set left) IsValidGroup
group_remade n group is plain [] less = tt
group_remade n group is plain (v ∷ vs) less =
    let limit = is.limit in
    record {
      limit = omega (arith, limit, less);
      set = resized_set (length group.vars) (length (v ∷ vs)) group.set is.set plain (omega arith)
          less;
    }

pub group_left_valid : (n : ℕ) (group : Group) → IsValidGroup group
    → (has_variable n group ≡ true → is_norm_cone group.set ≡ false)
    → IfSome (group_without n group) IsValidGroup
group_left_valid n group is plain =
    elim (cases_Bool (has_variable n group)) [
      | inl has ↦
          subst (λ b. IfSome (cond b (unless_empty (remade group) group.set (others n group.vars))
          (Some group)) IsValidGroup) (sym has) (group_remade n group is (plain has)
          (others n group.vars) (length_filter (λ v. not (v.number == n)) group.vars))
      | inr lacks ↦ subst (λ b. IfSome (cond b (unless_empty (remade group) group.set
          (others n group.vars)) (Some group)) IsValidGroup) (sym lacks) is
    ]

module _ (test : Set → Bool) (alike : (n : ℕ) (set : Set) → test (resized n set) ≡ test set)
    (n m : ℕ) where
  -- the groups that are left bound no other variable, and the variable is in none
  set_less : (group : Group)
      → IfSome (group_without n group) (λ left. test left.set ≡ true → test group.set ≡ true)
  set_less group =
      elim (has_variable n group) as (λ b. IfSome (cond b
      (unless_empty (remade group) group.set (others n group.vars)) (Some group))
      (λ left. test left.set ≡ true → test group.set ≡ true)) [
        | true ↦ by_left (others n group.vars)
        | false ↦ λ e. e
      ]
    where
      by_left : (left : List GroupVar)
          → IfSome (unless_empty (remade group) group.set left)
          (λ left. test left.set ≡ true → test group.set ≡ true)
      by_left [] = tt
      by_left (v ∷ vs) = λ e. sym (alike (length (v ∷ vs)) group.set) ∙ e

  same_left : m ≢ n → (group : Group)
      → option_map_or (has_variable m) (group_without n group) false ≡ has_variable m group
  same_left ne group =
      elim (cases_Bool (has_variable n group)) [
        | inl has ↦
            ap (λ b. option_map_or (has_variable m) (cond b
            (unless_empty (remade group) group.set (others n group.vars)) (Some group)) false)
            has
            ∙ (by_left (others n group.vars) ∙ others_stand m n group.vars ne)
        | inr lacks ↦ ap (λ b. option_map_or (has_variable m)
            (cond b (unless_empty (remade group) group.set (others n group.vars)) (Some group))
            false) lacks
      ]
    where
      by_left : (left : List GroupVar)
          → option_map_or (has_variable m) (unless_empty (remade group) group.set left) false
          ≡ list_any (λ v. v.number == m) left
      by_left [] = refl
      by_left (v ∷ vs) = refl

  pub created_left : (groups : List Group)
      → is_created_by test (filter_map (group_without n) groups) m ≡ true
      → is_created_by test groups m ≡ true
  created_left groups e =
      elim (cases_eq m n) [
        | inl same ↦ absurd (both_ways false refl (sym
            (ap (λ o. option_map_or (λ g. test g.set) o false) (gone same)) ∙ e))
        | inr ne ↦ groups_left test m (group_without n) (same_left ne) set_less groups e
      ]
    where
      nothing : (o : Option Group) → is_some o ≡ false → o ≡ None
      nothing None e = refl
      nothing (Some g) e = absurd (both_ways true e refl)

      gone : m ≡ n → find (has_variable m) (filter_map (group_without n) groups) ≡ None
      gone same =
          nothing (find (has_variable m) (filter_map (group_without n) groups))
          (group_found m (filter_map (group_without n) groups)
          ∙ (ap (list_any (λ v. v.number == m)) (vars_without n groups)
          ∙ subst (λ k. list_any (λ v. v.number == k) (others n (vars_in groups)) ≡ false)
          (sym same) (failing_none (λ v. v.number == n) (vars_in groups))))

-- a variable that stands and is not the deleted one is left
pub stands_left : (n : ℕ) (groups : List Group) (at : Address) → at ≢ variable_address n
    → Stands groups at → Stands (filter_map (group_without n) groups) at
stands_left n groups at off s =
    record {
      number = s.number;
      address = s.address;
      group =
          group_found s.number (filter_map (group_without n) groups)
          ∙ (ap (list_any (λ v. v.number == s.number)) (vars_without n groups)
          ∙ (others_stand s.number n (vars_in groups) (λ e. off (s.address ∙ ap variable_address e))
          ∙ (sym (group_found s.number groups) ∙ s.group)));
    }

-- ---- rows

fewer_terms : (at : Address) (fs : List Function) → All (λ count. count ≤ TERMS) (map term_count fs)
    → All (λ count. count ≤ TERMS) (map term_count (map (without_term at) fs))
fewer_terms at [] h = h
fewer_terms at (f ∷ fs) h =
    let first = All-head (λ count. count ≤ TERMS) (term_count f) (map term_count fs) h in
    let less = terms_without at f in
    All-cons (λ count. count ≤ TERMS) (term_count (without_term at f))
    (map term_count (map (without_term at) fs)) (omega (arith, first, less))
    (fewer_terms at fs (All-tail (λ count. count ≤ TERMS) (term_count f) (map term_count fs) h))

module _ (n : ℕ) (groups left_groups : List Group)
    (stay : (at : Address) → at ≢ variable_address n → Stands groups at
    → Stands left_groups at) where
  abbrev at : Address
  at = variable_address n

  vars_left : (id : ℕ) (name : List ℕ) (vars : List Address) (set : Set)
      → IsValidRow groups (row_of id name (PlainVec vars) set) → is_norm_cone set ≡ false
      → (left : List Address) → length left ≤ length vars
      → ((q : Address) → list_any (address_eq q) left ≡ true
      → (q ≢ at) × (list_any (address_eq q) vars ≡ true))
      → IfSome (unless_empty (λ left s. row_of id name (PlainVec left) s) set left)
      (IsValidRow left_groups)
  vars_left id name vars set is plain [] less only = tt
  vars_left id name vars set is plain (v ∷ vs) less only =
      let limit = is.limit in
      record {
        stand = λ q e. let from = only q e in stay q from.0 (is.stand q from.1);
        limit = omega (arith, limit, less);
        terms = All-nil (λ count. count ≤ TERMS);
        shape = (resized_is (length (v ∷ vs)) set).shape ∙ is.shape;
        set = resized_set (length vars) (length (v ∷ vs)) set is.set plain (omega arith) less;
      }

  row_left : (id : ℕ) (name : List ℕ) (func : UserFunc) (set : Set)
      → IsValidRow groups (row_of id name func set)
      → is_cone_row_of n (row_of id name func set) ≡ false
      → IfSome (row_without at (row_of id name func set)) (IsValidRow left_groups)
  row_left id name (Plain var) set is plain =
      elim (cases_Bool (address_eq at var)) [
        | inl same ↦ subst (λ b. IfSome (cond b None (Some (row_of id name (Plain var) set)))
            (IsValidRow left_groups)) (sym same) tt
        | inr other ↦
            subst (λ b. IfSome (cond b None (Some (row_of id name (Plain var) set)))
            (IsValidRow left_groups)) (sym other) (record {
              stand = λ q e. stay q (λ off. both_ways (address_eq at var) other
                  ((address_eq-Decides at var).1 (sym off ∙ (address_eq-Decides q var).0 e)))
                  (is.stand q e);
              limit = is.limit;
              terms = is.terms;
              shape = is.shape;
              set = is.set;
            })
      ]
  row_left id name (Affine f) set is plain = record {
    stand = λ q e. let from = without_term_mentions at f q e in stay q from.0 (is.stand q from.1);
    limit = is.limit;
    terms = fewer_terms at (f ∷ []) is.terms;
    shape = is.shape;
    set = is.set;
  }
  row_left id name (PlainVec vars) set is plain =
      elim (cases_Bool (list_any (address_eq at) vars)) [
        | inl has ↦
            subst (λ b. IfSome (cond b (unless_empty (λ left s. row_of id name (PlainVec left) s)
            set (without_address at vars)) (Some (row_of id name (PlainVec vars) set)))
            (IsValidRow left_groups)) (sym has) (vars_left id name vars set is
            (no_cone (is_norm_cone set) (subst (λ b. (is_norm_cone set && b) ≡ false) has
            plain)) (without_address at vars) (length_filter (λ var. not (address_eq at var))
            vars) (without_vars_mention at vars))
        | inr lacks ↦
            subst (λ b. IfSome (cond b (unless_empty (λ left s. row_of id name (PlainVec left) s)
            set (without_address at vars)) (Some (row_of id name (PlainVec vars) set)))
            (IsValidRow left_groups)) (sym lacks) (record {
              stand = λ q e. stay q (λ off. both_ways (list_any (address_eq at) vars) lacks
                  (subst (λ a. list_any (address_eq a) vars ≡ true) off e)) (is.stand q e);
              limit = is.limit;
              terms = is.terms;
              shape = is.shape;
              set = is.set;
            })
      ]
    where
      no_cone : (b : Bool) → (b && true) ≡ false → b ≡ false
      no_cone true e = e
      no_cone false e = refl
  row_left id name (AffineVec fs) set is plain = record {
    stand = λ q e. let from = without_terms_mention at fs q e in stay q from.0 (is.stand q from.1);
    limit = let limit = is.limit in omega (arith, limit, length-map fs (without_term at));
    terms = fewer_terms at fs is.terms;
    shape = is.shape;
    set = subst (λ k. IsSetOf k set) (sym (length-map fs (without_term at))) is.set;
  }

  pub row_left_valid : (row : Row) → IsValidRow groups row → is_cone_row_of n row ≡ false
      → IfSome (row_without at row) (IsValidRow left_groups)
  row_left_valid row is plain = row_left row.id row.name row.func row.set is plain

  pub objective_left_valid : (o : Objective) → IsValidObjective groups o
      → IsValidObjective left_groups (objective_without at o)
  objective_left_valid objective.Feasibility is =
      record { stand = λ q e. absurd (both_ways false refl e); terms = is.terms }
  objective_left_valid (objective.Plain sense var) is =
      elim (cases_Bool (address_eq at var)) [
        | inl same ↦
            subst (λ b. IsValidObjective left_groups (cond b objective.Feasibility
            (objective.Plain sense var))) (sym same) (record {
              stand = λ q e. absurd
                  (both_ways false refl e);
              terms = is.terms;
            })
        | inr other ↦
            subst (λ b. IsValidObjective left_groups (cond b objective.Feasibility
            (objective.Plain sense var))) (sym other) (record {
              stand = λ q e. stay q (λ off. both_ways (address_eq at var) other
                  ((address_eq-Decides at var).1 (sym off ∙ (address_eq-Decides q var).0 e)))
                  (is.stand q e);
              terms = is.terms;
            })
      ]
  objective_left_valid (objective.Affine sense f) is = record {
    stand = λ q e. let from = without_term_mentions at f q e in stay q from.0 (is.stand q from.1);
    terms = let limit = is.terms in omega (arith, limit, terms_without at f);
  }

-- a row that is left bounds only what it bounded
pub row_left_bounds : (test : Set → Bool) (at : Address) (m : ℕ) (row : Row)
    → IfSome (row_without at row) (λ left. cond (is_variable m left.func && test left.set) 1 0
    ≤ cond (is_variable m row.func && test row.set) 1 0)
row_left_bounds test at m row = by_function row.id row.name row.func row.set
  where
    by_function : (id : ℕ) (name : List ℕ) (func : UserFunc) (set : Set)
        → IfSome (row_without at (row_of id name func set))
        (λ left. cond (is_variable m left.func && test left.set) 1 0
        ≤ cond (is_variable m func && test set) 1 0)
    by_function id name (Plain var) set =
        elim (address_eq at var) as (λ b. IfSome (cond b None
        (Some (row_of id name (Plain var) set))) (λ left. cond
        (is_variable m left.func && test left.set) 1 0
        ≤ cond (is_variable m (Plain var) && test set) 1 0)) [ true ↦ tt | false ↦ omega arith ]
    by_function id name (Affine f) set = omega arith
    by_function id name (PlainVec vars) set =
        elim (list_any (address_eq at) vars) as (λ b. IfSome
        (cond b (unless_empty (λ left s. row_of id name (PlainVec left) s) set
        (without_address at vars)) (Some (row_of id name (PlainVec vars) set)))
        (λ left. cond (is_variable m left.func && test left.set) 1 0 ≤ 0)) [
          | true ↦ by_left (without_address at vars)
          | false ↦ omega arith
        ]
      where
        by_left : (left : List Address)
            → IfSome (unless_empty (λ left s. row_of id name (PlainVec left) s) set left)
            (λ left. cond (is_variable m left.func && test left.set) 1 0 ≤ 0)
        by_left [] = tt
        by_left (v ∷ vs) = omega arith
    by_function id name (AffineVec fs) set = omega arith

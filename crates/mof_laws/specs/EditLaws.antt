-- The edits of a file that was written of a valid model: its groups, its rows and its objective.
use Rattle.std.specs.Prelude.{◌≡◌, ℕ, suc, ◌+◌, ◌<◌, ◌≤◌, All, ⊤, Bool, true, false, ◌&&◌, not, List, [], ◌∷◌, ◌++◌, length, map, nat_lt, Option, Some, None, bytes_eq, is_none, option_to_list, slice_index_or, option_and_then, refl}
use Rattle.std.specs.List.{list_any}
use Rattle.std.proofs.Common.{ap, ap₂, append-nil, append_assoc, arith, cond, length-append, subst, sym, ◌∙◌}
use Rattle.std.proofs.lemmas.Bool.{and_from, and_left, and_right, cond-false, cond-true, lt-ltb, or_from}
use Rattle.std.proofs.lemmas.List.{set_at}
use Rattle.std.proofs.lemmas.List.Elements.{All-head, All-tail}
use Rattle.std.proofs.lemmas.List.Folds.{list_any-append}
use Rattle.map_laws.specs.EachLaws.{all_first}
use Rattle.aff_core.specs.Address.{Address}
use Rattle.set_core.specs.Shapes.{IsSetOf, is_norm_cone, is_scalar}
use Rattle.set_core.specs.declared.set.Set.{Set}
use Rattle.user_model.specs.declared.edit.Edit.{Edit}
use Rattle.user_model.specs.declared.edit.Edit.TheVariants as edit
use Rattle.user_model.specs.declared.function.UserFunc.{UserFunc}
use Rattle.user_model.specs.declared.function.UserFunc.TheVariants.{Plain, Affine, PlainVec, AffineVec}
use Rattle.user_model.specs.declared.group.Group.{Group}
use Rattle.user_model.specs.declared.group.GroupVar.{GroupVar}
use Rattle.user_model.specs.declared.row.Row.{Row}
use Rattle.user_model.specs.Model.{ModelValue}
use Rattle.user_model.specs.Valid.{IsValidGroup}
use Rattle.mof_file.specs.declared.constraints.FileConstraint.{FileConstraint}
use Rattle.mof_read.specs.Edits.{Sorted, objective_edits, with_constraint, with_constraints}
use Rattle.mof_read.specs.Groups.{Owners, becomes_group, group_at, in_order, left_after, plain_names, with_owners}
use Rattle.mof_read.specs.Names.{with_own_names}
use Rattle.mof_write.specs.Written.{Naming, naming}
use Rattle.mof_laws.specs.FunctionLaws.{ApartBy}
use Rattle.model_laws.specs.Variables.{vars_in}
use Rattle.mof_laws.specs.OwnerLaws.{AllOwned, IsNew, Other, all_free, found, later_new, new_names, owned, pairs, parted, with_owners_is}
use Rattle.mof_laws.specs.WalkLaws.{get_behind}
use Rattle.mof_laws.specs.ReadBack.{group_constraint, group_function, named_function, row_constraint, said_objective, var_names}

abbrev pub group_edit : Group → Edit
group_edit g = edit.AddGroup (var_names g.vars) g.set

abbrev pub row_edit : Naming → Row → Edit
row_edit name row = edit.AddRow row.name (named_function name row.func) row.set

-- the edits that make the model from an empty one
unfoldable pub edits_for : ModelValue → List Edit
edits_for model =
    map group_edit model.groups ++ map (row_edit (naming model)) model.rows
    ++ objective_edits (said_objective (naming model) model.objective)

abbrev pub some_edit : Group → Option Edit
some_edit g = Some (group_edit g)

abbrev pub sorted_with : List (Option Edit) → Owners → List Edit → Sorted
sorted_with made owners rows = record { groups = made; owners = owners; rows = rows }

-- ---- names of constraints

-- a later row has another name
abbrev pub OtherRow : Row → Row → Type 0
OtherRow r s = bytes_eq s.name r.name ≡ false

pub own_groups : (earlier : List (List ℕ)) (gs : List Group) (cs : List FileConstraint)
    → with_own_names earlier (map group_constraint gs ++ cs)
    ≡ map group_constraint gs ++ with_own_names earlier cs
own_groups earlier [] cs = refl
own_groups earlier (g ∷ gs) cs = ap (λ ds. group_constraint g ∷ ds) (own_groups earlier gs cs)

abbrev named_as : Naming → Row → Option (List ℕ) → FileConstraint
named_as name r n = record (row_constraint name r) { name = n }

pub own_rows : (name : Naming) (earlier : List (List ℕ)) (rs : List Row)
    → All {X = Row} (λ r. list_any (bytes_eq r.name) earlier ≡ false) rs → ApartBy OtherRow rs
    → with_own_names earlier (map (row_constraint name) rs) ≡ map (row_constraint name) rs
own_rows name earlier [] new apart = refl
own_rows name earlier (r ∷ rs) new apart =
    let fresh : list_any (bytes_eq r.name) earlier ≡ false =
    All-head (λ r. list_any (bytes_eq r.name) earlier ≡ false) r rs new in
    ap (λ b. named_as name r (cond b None (Some r.name)) ∷ with_own_names
    (cond b earlier (earlier ++ r.name ∷ [])) (map (row_constraint name) rs)) fresh
    ∙ ap (λ cs. row_constraint name r ∷ cs) (own_rows name (earlier ++ r.name ∷ []) rs
    (λ k d within. list_any-append (bytes_eq (slice_index_or rs k d).name) earlier (r.name ∷ [])
    ∙ or_from _ _ (All-tail (λ r. list_any (bytes_eq r.name) earlier ≡ false) r rs new k d within)
    (or_from _ _ (apart.0 k d within) refl))
    apart.1)

-- ---- groups

pub some_components : (set : Set) (n : ℕ) → IsSetOf n set → 0 < n
some_components set n h = from (is_norm_cone set) h.enough
  where
    from : (b : Bool) → cond b 2 1 ≤ n → 0 < n
    from true h = omega arith
    from false h = omega arith

module _ (es : Owners) (set : Set) where
  becomes : (b : Bool) (vars : List GroupVar) → is_scalar set ≡ b → 0 < length vars
      → (b ≡ true → length vars ≡ 1) → All (IsNew es) vars → ApartBy Other vars
      → becomes_group es (group_function b vars) set ≡ true
  becomes true [] is some one new apart = absurd (omega arith)
  becomes true (v ∷ vs) is some one new apart =
      and_from _ _ is (ap is_none (All-head (IsNew es) v vs new))
  becomes false vars is some one new apart =
      and_from _ _ (and_from _ _ (and_from _ _
      (ap (λ b. not b) is) (lt-ltb _ _ (names_lem vars some))) (all_free es vars new))
      (new_names [] vars (λ k d within. refl) apart)
    where
      names_lem : (ws : List GroupVar) → 0 < length ws → 0 < length (var_names ws)
      names_lem [] h = h
      names_lem (w ∷ ws) h = omega arith

plain_is : (b : Bool) (vars : List GroupVar) → (b ≡ true → length vars ≡ 1)
    → plain_names (group_function b vars) ≡ var_names vars
plain_is true [] one = refl
plain_is true (v ∷ []) one = refl
plain_is true (v ∷ w ∷ vs) one = let e : suc (suc (length vs))
    ≡ 1 = one refl in absurd (omega arith)
plain_is false vars one = refl

module _ (taken : List (List ℕ)) (count : ℕ) where
  one_group : (k : ℕ) (made : List (Option Edit)) (es : Owners) (g : Group) → IsValidGroup g
      → (is_scalar g.set ≡ true → length g.vars ≡ 1) → All (IsNew es) g.vars → ApartBy Other g.vars
      → with_constraint taken count k (sorted_with made es []) (group_constraint g)
      ≡ sorted_with (made ++ some_edit g ∷ []) (es ++ pairs (length made) g.vars) []
  unfolding with_constraint
  one_group k made es g valid one new apart =
      cond-true _ _ _ (becomes es g.set (is_scalar g.set) g.vars refl
      (some_components g.set (length g.vars) valid.set) one new apart)
      ∙ ap (λ names. sorted_with (made ++ Some (edit.AddGroup names g.set) ∷ [])
      (with_owners es names (length made)) [])
      (plain_is (is_scalar g.set) g.vars one)
      ∙ ap (λ o. sorted_with (made ++ some_edit g ∷ []) o [])
      (with_owners_is es (length made) g.vars new apart)

  pub all_groups : (cs : List FileConstraint) (r : Sorted) (k : ℕ) (made : List (Option Edit))
      (es : Owners) (gs : List Group)
      → All IsValidGroup gs → All {X = Group} (λ g. is_scalar g.set ≡ true → length g.vars ≡ 1) gs
      → All (IsNew es) (vars_in gs) → ApartBy Other (vars_in gs)
      → ((j : ℕ) → with_constraints taken count j
      (sorted_with (made ++ map some_edit gs) (es ++ owned (length made) gs) []) cs ≡ r)
      → with_constraints taken count k (sorted_with made es []) (map group_constraint gs ++ cs) ≡ r
  all_groups cs r k made es [] valid one new apart next =
      ap₂ (λ m o. with_constraints taken count k (sorted_with m o []) cs) (sym (append-nil made))
      (sym (append-nil es)) ∙ next k
  all_groups cs r k made es (g ∷ gs) valid one new apart next =
      let parts = parted Other g.vars (vars_in gs) apart in
      ap (λ s. with_constraints taken count (k + 1) s (map group_constraint gs ++ cs))
      (one_group (k + 1) made es g (All-head IsValidGroup g gs valid)
      (All-head (λ g. is_scalar g.set ≡ true → length g.vars ≡ 1) g gs one)
      (all_first (IsNew es) g.vars (vars_in gs) new) parts.one)
      ∙ all_groups cs r (k + 1) (made ++ some_edit g ∷ []) (es ++ pairs (length made) g.vars) gs
      (All-tail IsValidGroup g gs valid)
      (All-tail (λ g. is_scalar g.set ≡ true → length g.vars ≡ 1) g gs one)
      (later_new es (length made) g.vars (vars_in gs) new apart) parts.other
      (λ j. ap₂ (λ m o. with_constraints taken count j (sorted_with m o []) cs)
      (append_assoc made (some_edit g ∷ []) (map some_edit gs))
      (append_assoc es (pairs (length made) g.vars) (owned (length (made ++ some_edit g ∷ [])) gs)
      ∙ ap (λ n. es ++ (pairs (length made) g.vars ++ owned n gs)) (length_lem made (some_edit g)))
      ∙ next j)
    where
      length_lem : (xs : List (Option Edit)) (x : Option Edit)
          → length (xs ++ x ∷ []) ≡ suc (length xs)
      length_lem xs x = omega (arith, length-append xs (x ∷ []))

-- ---- rows

module _ (name : Naming) (owners : Owners) where
  abbrev pub IsOwned : Address → Type 0
  IsOwned at = is_none (found owners (name at)) ≡ false

  abbrev pub IsOwnedFunc : UserFunc → Type 0
  IsOwnedFunc (Plain var) = IsOwned var
  IsOwnedFunc (Affine f) = ⊤
  IsOwnedFunc (PlainVec vars) = All IsOwned vars
  IsOwnedFunc (AffineVec fs) = ⊤

  -- the row's function has variables that are owned
  abbrev pub IsOwnedRow : Row → Type 0
  IsOwnedRow r = IsOwnedFunc r.func

  no_group : (func : UserFunc) (set : Set) → IsOwnedFunc func
      → becomes_group owners (named_function name func) set ≡ false
  no_group (Plain var) set h = and_right (is_scalar set) _ h
  no_group (Affine f) set h = refl
  no_group (PlainVec []) set h =
      and_left _ _ (and_left _ _ (and_right (not (is_scalar set)) _ refl))
  no_group (PlainVec (v ∷ vs)) set h =
      and_left _ _ (and_right (not (is_scalar set) && nat_lt 0 (length (map name (v ∷ vs)))) _
      (and_left _ _ (All-head IsOwned v vs h)))
  no_group (AffineVec fs) set h = refl

  pub all_rows : (taken : List (List ℕ)) (count k : ℕ) (made : List (Option Edit))
      (rows : List Edit)
      (rs : List Row) → All IsOwnedRow rs
      → with_constraints taken count k (sorted_with made owners rows) (map (row_constraint name) rs)
      ≡ sorted_with made owners (rows ++ map (row_edit name) rs)
  unfolding with_constraint
  all_rows taken count k made rows [] h =
      ap (λ es. sorted_with made owners es) (sym (append-nil rows))
  all_rows taken count k made rows (r ∷ rs) h =
      ap (λ s. with_constraints taken count (k + 1) s (map (row_constraint name) rs))
      (cond-false _ _ _ (no_group r.func r.set (All-head IsOwnedRow r rs h)))
      ∙ all_rows taken count (k + 1) made (rows ++ row_edit name r ∷ []) rs
      (All-tail IsOwnedRow r rs h)
      ∙ ap (λ es. sorted_with made owners es)
      (append_assoc rows (row_edit name r ∷ []) (map (row_edit name) rs))

-- ---- the groups in order

module _ (owners : Owners) where
  abbrev taken_out : List (Option Edit) → List (List ℕ) → Option ℕ → List ℕ → List Edit
  taken_out left names o n =
      option_to_list (group_at left o n) ++ in_order owners (left_after left o) names

  -- further variables of a group that was taken out
  passed : (front rest : List (Option Edit)) (vs : List GroupVar) (names : List (List ℕ))
      → All {X = GroupVar} (λ v. found owners v.name ≡ Some (length front)) vs
      → in_order owners (front ++ None ∷ rest) (var_names vs ++ names)
      ≡ in_order owners (front ++ None ∷ rest) names
  passed front rest [] names h = refl
  passed front rest (v ∷ vs) names h =
      ap (λ o. taken_out (front ++ None ∷ rest) (var_names vs ++ names) o v.name)
      (All-head (λ v. found owners v.name ≡ Some (length front)) v vs h)
      ∙ ap₂ (λ o left. option_to_list (option_and_then (λ group. group) o) ++ in_order owners left
      (var_names vs ++ names))
      (get_behind front None rest) (set_at front None rest None (length front) refl)
      ∙ passed front rest vs names (All-tail
      (λ v. found owners v.name ≡ Some (length front)) v vs h)

  taken : (front rest : List (Option Edit)) (g : Group) (vs : List GroupVar) (names : List (List ℕ))
      → 0 < length vs
      → All {X = GroupVar} (λ v. found owners v.name ≡ Some (length front)) vs
      → in_order owners (front ++ some_edit g ∷ rest) (var_names vs ++ names)
      ≡ group_edit g ∷ in_order owners (front ++ None ∷ rest) names
  taken front rest g [] names some h = absurd (omega arith)
  taken front rest g (v ∷ vs) names some h =
      ap (λ o. taken_out (front ++ some_edit g ∷ rest) (var_names vs ++ names) o v.name)
      (All-head (λ v. found owners v.name ≡ Some (length front)) v vs h)
      ∙ ap₂ (λ o left. option_to_list (option_and_then (λ group. group) o) ++ in_order owners left
      (var_names vs ++ names))
      (get_behind front (some_edit g) rest)
      (set_at front (some_edit g) rest None (length front) refl)
      ∙ ap (λ es. group_edit g ∷ es) (passed front rest vs names
      (All-tail (λ v. found owners v.name ≡ Some (length front)) v vs h))

  pub in_order_is : (front : List (Option Edit)) (gs : List Group)
      → All {X = Group} (λ g. 0 < length g.vars) gs
      → AllOwned owners (length front) gs
      → in_order owners (front ++ map some_edit gs) (var_names (vars_in gs)) ≡ map group_edit gs
  in_order_is front [] some h = refl
  in_order_is front (g ∷ gs) some h =
      ap (in_order owners (front ++ map some_edit (g ∷ gs))) (names_lem g.vars)
      ∙ taken front (map some_edit gs) g g.vars (var_names (vars_in gs))
      (All-head (λ g. 0 < length g.vars) g gs some) h.0
      ∙ ap (λ left. group_edit g ∷ in_order owners left (var_names (vars_in gs)))
      (sym (append_assoc front (None ∷ []) (map some_edit gs)))
      ∙ ap (λ es. group_edit g ∷ es) (in_order_is (front ++ None ∷ []) gs
      (All-tail (λ g. 0 < length g.vars) g gs some)
      (subst (λ n. AllOwned owners n gs) (length_lem front) h.1))
    where
      names_lem : (vs : List GroupVar)
          → var_names (vs ++ vars_in gs) ≡ var_names vs ++ var_names (vars_in gs)
      names_lem [] = refl
      names_lem (v ∷ vs) = ap (λ ns. v.name ∷ ns) (names_lem vs)

      length_lem : (xs : List (Option Edit)) → suc (length xs) ≡ length (xs ++ None ∷ [])
      length_lem xs = omega (arith, length-append xs (None ∷ []))

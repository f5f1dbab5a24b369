-- How many bounds a variable has after changes of groups and rows.
use Rattle.std.specs.Prelude.{◌≡◌, ◌⊎◌, ℕ, ◌+◌, ◌≤◌, Bool, true, false, ◌&&◌, ◌||◌, cond, List, [], ◌∷◌, ◌++◌, Option, Some, None, IfSome, All, count_by, find, is_some, refl}
use Rattle.std.specs.List.{filter_map, cons_option, list_any}
use Rattle.std.specs.Option.{option_map_or, option_or}
use Rattle.std.proofs.Common.{arith, sym, ap, subst, inl, inr, ◌∙◌}
use Rattle.std.proofs.lemmas.Bool.{both_ways, cases_Bool, or_parts}
use Rattle.std.proofs.lemmas.List.Elements.{All-head, All-tail, All-weaker}
use Rattle.std.proofs.lemmas.List.Folds.{find-append}
use Rattle.std.proofs.lemmas.List.Sums.{sum_by-append, sum_by-cons}
use Rattle.numbered_list.specs.Numbered.{Rise, put, without}
use Rattle.numbered_list.specs.Numbered as numbered
use Rattle.set_core.specs.declared.set.Set.{Set}
use Rattle.user_model.specs.declared.group.Group.{Group}
use Rattle.user_model.specs.declared.row.Row.{Row}
use Rattle.user_model.specs.Model.{has_variable, is_variable}
use Rattle.user_model.specs.Edited.{group_number, row_number}
use Rattle.user_model.specs.Valid.{bound_count, is_created_by}
use Rattle.model_laws.specs.Replaced.{replaced, sum_put, sum_without}
use Rattle.model_laws.specs.Found.{none_pass}

weight_le : (a b : Bool) → (a ≡ true → b ≡ true) → cond a 1 0 ≤ cond b 1 0
weight_le true b h = subst (λ b. 1 ≤ cond b 1 0) (sym (h refl)) (omega arith)
weight_le false b h = omega arith

weight_one : (b : Bool) → cond b 1 0 ≤ 1
weight_one true = omega arith
weight_one false = omega arith

weight_none : (b : Bool) → b ≡ false → cond b 1 0 ≤ 0
weight_none b e = subst (λ b. cond b 1 0 ≤ 0) (sym e) (omega arith)

count_none : {X : Type 0} (p : X → Bool) (xs : List X) → All (λ x. p x ≡ false) xs
    → count_by p xs ≤ 0
count_none p [] h = omega arith
count_none p (x ∷ xs) h =
    omega (
      arith,
      sum_by-cons (λ x. cond (p x) 1 0) x xs,
      weight_none (p x)
          (All-head (λ x. p x ≡ false) x xs h),
      count_none p xs (All-tail (λ x. p x ≡ false) x xs h),
    )

module _ (test : Set → Bool) (n : ℕ) where
  -- the row is on the variable, and its set passes the test
  abbrev pub bounds : Row → Bool
  bounds r = is_variable n r.func && test r.set

  -- ---- less of each

  pub bounds_less : (groups others : List Group) (rows left : List Row)
      → count_by bounds left ≤ count_by bounds rows
      → (is_created_by test others n ≡ true → is_created_by test groups n ≡ true)
      → bound_count test groups rows n ≤ 1 → bound_count test others left n ≤ 1
  bounds_less groups others rows left less created h = omega (
    arith,
    less,
    weight_le (is_created_by test others n) (is_created_by test groups n) created,
    h,
  )

  -- ---- rows

  pub row_put : (new old : Row) (rows : List Row) → Rise row_number rows
      → numbered.find row_number new.id rows ≡ Some old → (bounds new ≡ true → bounds old ≡ true)
      → count_by bounds (put row_number new rows) ≤ count_by bounds rows
  row_put new old rows rise found h =
      omega (
        arith,
        sum_put row_number (λ r. cond (bounds r) 1 0) new old rows rise found,
        weight_le
            (bounds new) (bounds old) h,
      )

  pub row_deleted : (m : ℕ) (rows : List Row) → Rise row_number rows
      → count_by bounds (without row_number m rows) ≤ count_by bounds rows
  row_deleted m rows rise = sum_without row_number (λ r. cond (bounds r) 1 0) m rows rise

  -- a new row on a variable that had no such bound
  pub row_added : (groups : List Group) (rows : List Row) (new : Row)
      → (bounds new ≡ true → (list_any bounds rows || is_created_by test groups n) ≡ false)
      → bound_count test groups rows n ≤ 1 → bound_count test groups (rows ++ new ∷ []) n ≤ 1
  row_added groups rows new free h =
      elim (cases_Bool (bounds new)) [
        | inl on ↦
            let parts = or_parts (list_any bounds rows) (is_created_by test groups n) (free on) in
            omega (
              arith,
              joined,
              count_none bounds rows (none_pass bounds rows parts.0),
              weight_none (is_created_by test groups n) parts.1,
              weight_one (bounds new),
            )
        | inr off ↦ omega (arith, joined, weight_none (bounds new) off, h)
      ]
    where
      joined : count_by bounds (rows ++ new ∷ []) ≡ count_by bounds rows + cond (bounds new) 1 0
      joined =
          let all = sum_by-append (λ r. cond (bounds r) 1 0) rows (new ∷ [])
          in let one = sum_by-cons (λ r. cond (bounds r) 1 0) new [] in omega (arith, all, one)

  -- ---- groups

  -- a new group; a variable that is in none has no row
  pub group_added : (groups : List Group) (rows : List Row) (new : Group)
      → All (λ r. is_variable n r.func ≡ true → is_some (find (has_variable n) groups) ≡ true) rows
      → bound_count test groups rows n ≤ 1 → bound_count test (groups ++ new ∷ []) rows n ≤ 1
  group_added groups rows new stand h = by_found (find (has_variable n) groups) refl
    where
      by_found : (o : Option Group) → find (has_variable n) groups ≡ o
          → bound_count test (groups ++ new ∷ []) rows n ≤ 1
      by_found (Some g) e =
          let here : find (has_variable n) (groups ++ new ∷ []) ≡ Some g = find-append
          (has_variable n) groups (new ∷ [])
          ∙ ap (λ o. option_or o (find (has_variable n) (new ∷ []))) e in
          let same : is_created_by test (groups ++ new ∷ []) n ≡ is_created_by test groups n =
          ap (λ o. option_map_or (λ g. test g.set) o false) (here ∙ sym e) in
          bounds_less groups (groups ++ new ∷ []) rows rows (omega arith) (λ on. sym same ∙ on) h
      by_found None e =
          omega (
            arith,
            count_none bounds rows (All-weaker
                (λ r. is_variable n r.func ≡ true → is_some (find (has_variable n) groups) ≡ true)
                (λ r. bounds r ≡ false) (λ r on. off r on (cases_Bool (is_variable n r.func))) rows
                stand),
            weight_one (is_created_by test (groups ++ new ∷ []) n),
          )
        where
          off : (r : Row)
              → (is_variable n r.func ≡ true → is_some (find (has_variable n) groups) ≡ true)
              → (is_variable n r.func ≡ true) ⊎ (is_variable n r.func ≡ false) → bounds r ≡ false
          off r on (inl it) = absurd (both_ways false refl (sym (ap is_some e) ∙ on it))
          off r on (inr not_it) = ap (λ b. b && test r.set) not_it

  found_here : (g : Group) (gs : List Group) → has_variable n g ≡ true
      → is_created_by test (g ∷ gs) n ≡ test g.set
  found_here g gs e =
      ap (λ b. option_map_or (λ g. test g.set) (cond b (Some g) (find (has_variable n) gs)) false) e

  found_later : (g : Group) (gs : List Group) → has_variable n g ≡ false
      → is_created_by test (g ∷ gs) n ≡ is_created_by test gs n
  found_later g gs e =
      ap (λ b. option_map_or (λ g. test g.set) (cond b (Some g) (find (has_variable n) gs)) false) e

  -- another group with the same variables in a group's place
  pub group_put : (new old : Group) (groups : List Group) → Rise group_number groups
      → numbered.find group_number new.id groups ≡ Some old
      → has_variable n new ≡ has_variable n old → (test new.set ≡ true → test old.set ≡ true)
      → is_created_by test (put group_number new groups) n ≡ true
      → is_created_by test groups n ≡ true
  group_put new old groups rise found same less =
      replaced group_number (λ xs ys. is_created_by test ys n ≡ true
      → is_created_by test xs n ≡ true) new old groups rise found at
    where
      at : (before after : List Group) → is_created_by test (before ++ (new ∷ after)) n ≡ true
          → is_created_by test (before ++ (old ∷ after)) n ≡ true
      at [] after e =
          elim (cases_Bool (has_variable n old)) [
            | inl has ↦ found_here old after has
                ∙ less (sym (found_here new after (same ∙ has)) ∙ e)
            | inr lacks ↦ found_later old after lacks
                ∙ (sym (found_later new after (same ∙ lacks)) ∙ e)
          ]
      at (g ∷ before) after e =
          elim (cases_Bool (has_variable n g)) [
            | inl has ↦ found_here g (before ++ (old ∷ after)) has
                ∙ (sym (found_here g (before ++ (new ∷ after)) has) ∙ e)
            | inr lacks ↦ found_later g (before ++ (old ∷ after)) lacks
                ∙ at before after (sym (found_later g (before ++ (new ∷ after)) lacks) ∙ e)
          ]

  -- groups of which an edit leaves the variable in its place, with a set that passes no more
  pub groups_left : (h : Group → Option Group)
      → ((g : Group) → option_map_or (has_variable n) (h g) false ≡ has_variable n g)
      → ((g : Group) → IfSome (h g) (λ left. test left.set ≡ true → test g.set ≡ true))
      → (groups : List Group) → is_created_by test (filter_map h groups) n ≡ true
      → is_created_by test groups n ≡ true
  groups_left h same less [] e = e
  groups_left h same less (g ∷ groups) e =
      by_left (h g) (same g) (less g) (groups_left h same less groups) e
    where
      by_left : (o : Option Group) → option_map_or (has_variable n) o false ≡ has_variable n g
          → IfSome o (λ left. test left.set ≡ true → test g.set ≡ true)
          → (is_created_by test (filter_map h groups) n ≡ true → is_created_by test groups n ≡ true)
          → is_created_by test (cons_option o (filter_map h groups)) n ≡ true
          → is_created_by test (g ∷ groups) n ≡ true
      by_left None has k rest e = found_later g groups (sym has) ∙ rest e
      by_left (Some left) has k rest e =
          elim (cases_Bool (has_variable n g)) [
            | inl it ↦ found_here g groups it
                ∙ k (sym (found_here left (filter_map h groups) (has ∙ it)) ∙ e)
            | inr not_it ↦ found_later g groups not_it
                ∙ rest (sym (found_later left (filter_map h groups) (has ∙ not_it)) ∙ e)
          ]

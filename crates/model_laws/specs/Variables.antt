-- The variables of groups after a change of a group.
use Rattle.std.specs.Prelude.{◌≡◌, ◌≢◌, ℕ, ◌<◌, ◌==◌, cond, List, [], ◌∷◌, ◌++◌, Some, All, AllPairs, Contains, find, flat_map, map, is_some, slice_index_or, refl}
use Rattle.std.specs.List.{list_any}
use Rattle.std.proofs.Common.{arith, sym, ap, ap₂, subst, ◌∙◌}
use Rattle.std.proofs.lemmas.List.Concat.{flat_map-append}
use Rattle.std.proofs.lemmas.List.Folds.{map_fixed}
use Rattle.std.proofs.lemmas.List.Elements.{All-nil, All-cons, All-contains, All-weaker, Contains-append_left}
use Rattle.std.proofs.lemmas.Bool.{ne_eqb}
use Rattle.std.proofs.lemmas.List.{map-append}
use Rattle.map_laws.specs.EachLaws.{all_second}
use Rattle.numbered_list.specs.Numbered.{Rise, put}
use Rattle.numbered_list.specs.Numbered as numbered
use Rattle.user_model.specs.declared.group.Group.{Group}
use Rattle.user_model.specs.declared.group.GroupVar.{GroupVar}
use Rattle.user_model.specs.Model.{has_variable}
use Rattle.user_model.specs.Edited.{group_number, renamed}
use Rattle.user_model.specs.Consistent.{variable_number}
use Rattle.map_laws.specs.PairLaws.{AllPairs-head, AllPairs-tail}
use Rattle.model_laws.specs.Replaced.{replaced}
use Rattle.model_laws.specs.Found.{is_some-find, list_any-flat_map}

-- the variables of all groups, in their order
abbrev pub vars_in : List Group → List GroupVar
vars_in groups = flat_map (λ g. g.vars) groups

-- a variable's group is found where the variable stands in one
pub group_found : (n : ℕ) (groups : List Group)
    → is_some (find (has_variable n) groups) ≡ list_any (λ v. v.number == n) (vars_in groups)
group_found n groups = is_some-find (has_variable n) groups
    ∙ sym (list_any-flat_map (λ v. v.number == n) (λ g. g.vars) groups)

pub vars_around : (before after : List Group) (g : Group)
    → vars_in (before ++ (g ∷ after)) ≡ vars_in before ++ (g.vars ++ vars_in after)
vars_around before after g = flat_map-append (λ g. g.vars) before (g ∷ after)

-- another group with the same variables
pub vars_replaced : (x y : Group) (groups : List Group) → Rise group_number groups
    → numbered.find group_number x.id groups ≡ Some y → x.vars ≡ y.vars
    → vars_in (put group_number x groups) ≡ vars_in groups
vars_replaced x y groups rise found same =
    replaced group_number (λ xs ys. vars_in ys ≡ vars_in xs) x y groups rise found (λ before after.
    vars_around before after x
    ∙ (ap (λ vs. vars_in before ++ (vs ++ vars_in after)) same
    ∙ sym (vars_around before after y)))

module _ {X : Type 0} (number_of : X → ℕ) where
  Rise-across : (xs ys : List X) → AllPairs (λ x y. number_of x < number_of y) (xs ++ ys)
      → All (λ x. All (λ y. number_of x < number_of y) ys) xs
  Rise-across [] ys h = All-nil (λ x. All (λ y. number_of x < number_of y) ys)
  Rise-across (x ∷ xs) ys h =
      All-cons (λ x. All (λ y. number_of x < number_of y) ys) x xs
      (all_second (λ y. number_of x < number_of y) xs ys
      (AllPairs-head (λ x y. number_of x < number_of y) x (xs ++ ys) h))
      (Rise-across xs ys (AllPairs-tail (λ x y. number_of x < number_of y) x (xs ++ ys) h))

  Rise-later : (xs ys : List X) → AllPairs (λ x y. number_of x < number_of y) (xs ++ ys)
      → AllPairs (λ x y. number_of x < number_of y) ys
  Rise-later [] ys h = h
  Rise-later (x ∷ xs) ys h =
      Rise-later xs ys (AllPairs-tail (λ x y. number_of x < number_of y) x (xs ++ ys) h)

  -- an item among those in the middle has a number of its own
  pub others_below : (us vs ws : List X) (v : X) → Contains vs v
      → AllPairs (λ x y. number_of x < number_of y) (us ++ (vs ++ ws))
      → All (λ u. number_of u < number_of v) us
  others_below us vs ws v there h = λ k d end.
      All-contains (λ w. number_of (slice_index_or us k d) < number_of w) (vs ++ ws) v
      (Rise-across us (vs ++ ws) h k d end) (Contains-append_left vs ws v there)

  pub others_above : (us vs ws : List X) (v : X) → Contains vs v
      → AllPairs (λ x y. number_of x < number_of y) (us ++ (vs ++ ws))
      → All (λ w. number_of v < number_of w) ws
  others_above us vs ws v there h = All-contains (λ x. All (λ y. number_of x < number_of y) ws) vs v
      (Rise-across vs ws (Rise-later us (vs ++ ws) h)) there

renamed_others : (n : ℕ) (name : List ℕ) (vs : List GroupVar) → All (λ v. v.number ≢ n) vs
    → map (renamed n name) vs ≡ vs
renamed_others n name vs h =
    map_fixed (renamed n name) vs (All-weaker (λ v. v.number ≢ n) (λ v. renamed n name v ≡ v)
    (λ v off. ap (λ b. cond b (record v { name = name }) v) (ne_eqb v.number n off)) vs h)

-- the variable's new name in its group is its new name among all variables
pub vars_renamed : (n : ℕ) (name : List ℕ) (y : Group) (groups : List Group)
    → Rise group_number groups → Rise variable_number (vars_in groups)
    → numbered.find group_number y.id groups ≡ Some y → (v : GroupVar) → Contains y.vars v
    → v.number ≡ n
    → vars_in (put group_number (record y { vars = map (renamed n name) y.vars }) groups)
    ≡ map (renamed n name) (vars_in groups)
vars_renamed n name y groups rise vars_rise found v there at =
    replaced group_number (λ xs ys. Rise variable_number (vars_in xs)
    → vars_in ys ≡ map (renamed n name) (vars_in xs))
    (record y { vars = map (renamed n name) y.vars }) y groups rise found
    (λ before after h. one before after (vars_in before) (vars_in after) refl refl h) vars_rise
  where
    one : (before after : List Group) (us ws : List GroupVar) → vars_in before ≡ us
        → vars_in after ≡ ws → Rise variable_number (vars_in (before ++ (y ∷ after)))
        → vars_in (before ++ (record y { vars = map (renamed n name) y.vars } ∷ after))
        ≡ map (renamed n name) (vars_in (before ++ (y ∷ after)))
    one before after us ws first last h =
        let all : vars_in (before ++ (y ∷ after)) ≡ us ++ (y.vars ++ ws) =
        vars_around before after y ∙ ap₂ (λ us ws. us ++ (y.vars ++ ws)) first last in
        let vars = map (renamed n name) y.vars in
        let new : vars_in (before ++ (record y { vars = vars } ∷ after)) ≡ us ++ (vars ++ ws) =
        vars_around before after (record y { vars = vars })
        ∙ ap₂ (λ us ws. us ++ (vars ++ ws)) first last in
        let up : AllPairs (λ x y. variable_number x < variable_number y) (us ++ (y.vars ++ ws)) =
        (subst (Rise variable_number) all h).rising in
        let low = others_below variable_number us y.vars ws v there up in
        let high = others_above variable_number us y.vars ws v there up in
        new
        ∙ (ap₂ (λ us ws. us ++ (map (renamed n name) y.vars ++ ws))
        (sym (renamed_others n name us (All-weaker (λ u. u.number < v.number)
        (λ u. u.number ≢ n) (λ u lt e. omega arith) us low)))
        (sym (renamed_others n name ws (All-weaker (λ w. v.number < w.number)
        (λ w. w.number ≢ n) (λ w lt e. omega arith) ws high)))
        ∙ (sym (map-append (renamed n name) us (y.vars ++ ws)
        ∙ ap (λ zs. map (renamed n name) us ++ zs) (map-append (renamed n name) y.vars ws))
        ∙ ap (map (renamed n name)) (sym all)))

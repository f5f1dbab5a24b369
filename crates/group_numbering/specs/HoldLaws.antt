-- Whether groups that are numbered one after another are in their sets, at a point.
use Rattle.std.specs.Prelude.{◌≡◌, ℕ, suc, ◌+◌, List, [], ◌∷◌, ◌++◌, All, length, map}
use Rattle.std.proofs.Common.{sym, ◌∙◌, ap, arith, subst}
use Rattle.std.proofs.lemmas.List.Elements.{All-cons, All-head, All-nil, All-tail}
use Rattle.ratio_core.specs.Rational.{Rational, one_ℚ}
use Rattle.aff_core.specs.Address.{Address}
use Rattle.aff_core.specs.FunctionLists.{values}
use Rattle.linear_laws.specs.ListLaws.{evaluations_values, evaluations_variables}
use Rattle.set_core.specs.Membership.{In}
use Rattle.user_model.specs.declared.group.Group.{Group}
use Rattle.user_model.specs.Edited.{numbered_from}
use Rattle.certificates.specs.Points.{addresses_of, functions_of_group, variables_at}
use Rattle.group_numbering.specs.NewGroups.{NewGroup, numbered_groups, variable_count}
use Rattle.group_numbering.specs.NumberLaws.{numbers_from}
use Rattle.group_numbering.specs.PlaceLaws.{named_addresses, numbers_at}

module _ (x : Address → Rational) where
  -- those from the n-th variable on
  abbrev pub HoldFrom : ℕ → List NewGroup → Type 0
  HoldFrom n [] = Unit {0}
  HoldFrom n (g ∷ gs) =
      In g.set (numbers_from x n (length g.names)) × HoldFrom (n + length g.names) gs

  stay : (n : ℕ) → n + 0 ≡ n
  stay n = omega arith

  along : (n a b : ℕ) → (n + a) + b ≡ n + (a + b)
  along n a b = omega arith

  pub hold_first : (n : ℕ) (gs hs : List NewGroup) → HoldFrom n (gs ++ hs) → HoldFrom n gs
  hold_first n [] hs h = tt
  hold_first n (g ∷ gs) hs h = (h.0, hold_first (n + length g.names) gs hs h.1)

  pub hold_second : (n : ℕ) (gs hs : List NewGroup) → HoldFrom n (gs ++ hs)
      → HoldFrom (n + variable_count gs) hs
  hold_second n [] hs h = subst (λ m. HoldFrom m hs) (sym (stay n)) h
  hold_second n (g ∷ gs) hs h =
      subst (λ m. HoldFrom m hs) (along n (length g.names) (variable_count gs))
      (hold_second (n + length g.names) gs hs h.1)

  pub hold_both : (n : ℕ) (gs hs : List NewGroup) → HoldFrom n gs
      → HoldFrom (n + variable_count gs) hs → HoldFrom n (gs ++ hs)
  hold_both n [] hs h k = subst (λ m. HoldFrom m hs) (stay n) k
  hold_both n (g ∷ gs) hs h k = (
    h.0,
    hold_both (n + length g.names) gs hs h.1
        (subst (λ m. HoldFrom m hs) (sym (along n (length g.names) (variable_count gs))) k),
  )

-- ---- as groups of a model

abbrev pub GroupIn : (Address → Rational) → Group → Type 0
GroupIn x g = In g.set (values (functions_of_group g) x)

group_values : (x : Address → Rational) (n : ℕ) (names : List (List ℕ))
    → values (variables_at (addresses_of (numbered_from n names))) x
    ≡ numbers_from x n (length names)
group_values x n names =
    let vs : List Address = addresses_of (numbered_from n names) in
    sym (evaluations_values (variables_at vs) x) ∙ evaluations_variables one_ℚ vs x
    ∙ ap (map x) (named_addresses n names) ∙ numbers_at x n (length names)

pub hold_from_groups : (x : Address → Rational) (id n : ℕ) (gs : List NewGroup)
    → All (GroupIn x) (numbered_groups id n gs) → HoldFrom x n gs
hold_from_groups x id n [] h = tt
hold_from_groups x id n (g ∷ gs) h =
    let first : Group = record { id = id; vars = numbered_from n g.names; set = g.set } in
    let others : List Group = numbered_groups (suc id) (n + length g.names) gs in (
      subst (In g.set) (group_values x n g.names) (All-head (GroupIn x) first others h),
      hold_from_groups x (suc id) (n + length g.names) gs (All-tail (GroupIn x) first others h),
    )

pub groups_from_hold : (x : Address → Rational) (id n : ℕ) (gs : List NewGroup) → HoldFrom x n gs
    → All (GroupIn x) (numbered_groups id n gs)
groups_from_hold x id n [] h = All-nil (GroupIn x)
groups_from_hold x id n (g ∷ gs) h =
    let first : Group = record { id = id; vars = numbered_from n g.names; set = g.set } in
    let others : List Group = numbered_groups (suc id) (n + length g.names) gs in
    All-cons (GroupIn x) first others (subst (In g.set) (sym (group_values x n g.names)) h.0)
    (groups_from_hold x (suc id) (n + length g.names) gs h.1)

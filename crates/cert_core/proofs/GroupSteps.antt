-- Groups gone through with the numbers of their variables.
use Rattle.std.specs.Prelude.{◌≡◌, ◌↔◌, ◌&&◌, Bool, IsTrue, List, [], ◌∷◌, ◌++◌, All, map, length, take, drop}
use Rattle.std.proofs.Common.{sym, ◌∙◌, ap, subst}
use Rattle.ratio_core.specs.Folds.{sum_from}
use Rattle.ratio_core.specs.Rational.{Rational, SumFits, ◌+ℚ◌}
use Rattle.rational_laws.specs.Dot.{negated}
use Rattle.aff_core.specs.Address.{Address}
use Rattle.aff_core.specs.FunctionLists.{constants}
use Rattle.set_core.specs.Membership.{LowFits, low_of}
use Rattle.user_model.specs.declared.group.Group.{Group}
use Rattle.certificates.specs.Duals.{group_with, groups_with}
use Rattle.certificates.specs.Points.{addresses_of, all_addresses, functions_of_group}
use Rattle.cert_core.specs.Folds.{AddUp, gap_parts, gap_parts_of, products}
use Rattle.cert_core.proofs.Groups.{GroupsSoFar, groups_more, next_numbers}
use Rattle.cert_core.proofs.Parts.{no_constants}
use Rattle.cert_core.proofs.Summed.{Fits_sum, SummedAsAll, summed_end, summed_refused, summed_step, zeros_add_up}
use Rattle.cert_core.proofs.Tested.{TestedAsAll, tested_end, tested_refused, tested_step}

-- ---- tests

module _ (F P : (Address → Rational) → Group → Type 0) where
  -- with what is left it is as with all
  abbrev Tested : Bool → List Group → (Address → Rational) → List Group → Type 0
  Tested so_far groups x left_groups = TestedAsAll (F x) (P x) so_far groups left_groups

  abbrev pub GroupsTested : Bool → List Group → List Group → List Rational → List Rational → Type 0
  GroupsTested so_far groups left_groups numbers left =
      GroupsSoFar (Tested so_far groups) groups left_groups numbers left

  module _ (so_far : Bool) (groups left_groups rest : List Group) (numbers left : List Rational)
      (g : Group) (h : GroupsTested so_far groups left_groups numbers left)
      (next : left_groups ≡ g ∷ rest) where
    own : (x : Address → Rational) → map x (all_addresses groups) ≡ numbers
        → take (length g.vars) left ≡ map x (addresses_of g.vars)
    own = next_numbers (Tested so_far groups) groups left_groups rest numbers left g h next

    pub groups_step : (b : Bool)
        → ((x : Address → Rational) → take (length g.vars) left ≡ map x (addresses_of g.vars)
        → F x g × (IsTrue b ↔ P x g))
        → GroupsTested (so_far && b) groups rest numbers (drop (length g.vars) left)
    groups_step b tells =
        groups_more (Tested so_far groups) groups left_groups rest numbers left g h next
        (Tested (so_far && b) groups) (λ x is.
        let told = tells x (own x is) in
        tested_step (F x) (P x) so_far b groups left_groups rest g (h.so_far x is) next told.0
        told.1)

    -- what must fit at a group
    pub groups_fit : (x : Address → Rational) → map x (all_addresses groups) ≡ numbers
        → All (F x) groups → (take (length g.vars) left ≡ map x (addresses_of g.vars)) × F x g
    groups_fit x is all = (
      own x is,
      tested_refused (F x) (P x) so_far groups left_groups rest g (h.so_far x is) next all,
    )

  pub groups_end : (so_far : Bool) (groups left_groups : List Group) (numbers left : List Rational)
      → GroupsTested so_far groups left_groups numbers left → left_groups ≡ []
      → (x : Address → Rational) → map x (all_addresses groups) ≡ numbers
      → All (F x) groups × (IsTrue so_far ↔ All (P x) groups)
  groups_end so_far groups left_groups numbers left h end x is =
      tested_end (F x) (P x) so_far groups left_groups (h.so_far x is) end

-- ---- the gap

-- a group has no constant, so that its least product is all
pub low_alone : (sum : Rational) (w : Address → Rational) (g : Group) (low : Rational)
    → LowFits g.set (map w (addresses_of g.vars))
    → low ≡ low_of g.set (map w (addresses_of g.vars)) → SumFits sum low
    → AddUp sum (gap_parts_of (group_with w g))
    × (sum_from sum (gap_parts_of (group_with w g)) ≡ sum +ℚ low)
unfolding AddUp
low_alone sum w g low fits is total =
    let none = zeros_add_up (sum +ℚ low)
    (negated (products (map w (addresses_of g.vars)) (constants (functions_of_group g))))
    (Fits_sum sum low total) (no_constants (map w (addresses_of g.vars)) (addresses_of g.vars)) in
    let first : sum +ℚ low_of g.set (map w (addresses_of g.vars)) ≡ sum +ℚ low =
    ap (λ q. sum +ℚ q) (sym is) in (
      (
        fits,
        subst (SumFits sum) is total,
        subst (λ s. AddUp s (negated (products (map w (addresses_of g.vars))
            (constants (functions_of_group g))))) (sym first) none.0,
      ),
      ap (λ s. sum_from s (negated (products (map w (addresses_of g.vars))
          (constants (functions_of_group g))))) first ∙ none.1,
    )

abbrev Summed : Rational → Rational → List Group → (Address → Rational) → List Group → Type 0
Summed start sum groups w left_groups =
    SummedAsAll start sum (gap_parts (groups_with w groups)) (gap_parts (groups_with w left_groups))

abbrev pub GroupsSummed : Rational → Rational → List Group → List Group → List Rational
    → List Rational → Type 0
GroupsSummed start sum groups left_groups numbers left =
    GroupsSoFar (Summed start sum groups) groups left_groups numbers left

module _ (start sum : Rational) (groups left_groups rest : List Group)
    (numbers left : List Rational) (g : Group)
    (h : GroupsSummed start sum groups left_groups numbers left)
    (next : left_groups ≡ g ∷ rest) where
  pub own_left : (w : Address → Rational) → map w (all_addresses groups) ≡ numbers
      → take (length g.vars) left ≡ map w (addresses_of g.vars)
  own_left = next_numbers (Summed start sum groups) groups left_groups rest numbers left g h next

  parts_next : (w : Address → Rational) → gap_parts (groups_with w left_groups)
      ≡ gap_parts_of (group_with w g) ++ gap_parts (groups_with w rest)
  parts_next w = ap (λ gs. gap_parts (groups_with w gs)) next

  pub sums_step : (now : Rational)
      → ((w : Address → Rational) → take (length g.vars) left ≡ map w (addresses_of g.vars)
      → AddUp sum (gap_parts_of (group_with w g))
      × (now ≡ sum_from sum (gap_parts_of (group_with w g))))
      → GroupsSummed start now groups rest numbers (drop (length g.vars) left)
  sums_step now told =
      groups_more (Summed start sum groups) groups left_groups rest numbers left g h next
      (Summed start now groups) (λ w at.
      let said = told w (own_left w at) in
      subst (λ s. SummedAsAll start s (gap_parts (groups_with w groups))
      (gap_parts (groups_with w rest))) (sym said.1)
      (summed_step start sum (gap_parts (groups_with w groups))
      (gap_parts (groups_with w left_groups)) (h.so_far w at) (gap_parts_of (group_with w g))
      (gap_parts (groups_with w rest)) (parts_next w) said.0))

  -- what must fit at a group
  pub sums_refused : (w : Address → Rational) → map w (all_addresses groups) ≡ numbers
      → AddUp start (gap_parts (groups_with w groups)) → AddUp sum (gap_parts_of (group_with w g))
  sums_refused w at =
      summed_refused start sum (gap_parts (groups_with w groups))
      (gap_parts (groups_with w left_groups)) (h.so_far w at) (gap_parts_of (group_with w g))
      (gap_parts (groups_with w rest)) (parts_next w)

pub sums_end : (start sum : Rational) (groups left_groups : List Group)
    (numbers left : List Rational) → GroupsSummed start sum groups left_groups numbers left
    → left_groups ≡ [] → (w : Address → Rational) → map w (all_addresses groups) ≡ numbers
    → AddUp start (gap_parts (groups_with w groups))
    × (sum ≡ sum_from start (gap_parts (groups_with w groups)))
sums_end start sum groups left_groups numbers left h end w at =
    summed_end start sum (gap_parts (groups_with w groups)) (gap_parts (groups_with w left_groups))
    (h.so_far w at) (ap (λ gs. gap_parts (groups_with w gs)) end)

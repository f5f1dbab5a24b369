-- The point of the dual that is made of right duals: where each variable has the part that it
-- holds, the point meets the dual, gives these duals back and counts just the least products.
use Rattle.std.specs.Prelude.{◌≡◌, ℕ, ◌+◌, List, [], ◌∷◌, ◌++◌, All, flat_map, length, map, refl}
use Rattle.std.proofs.Common.{sym, ◌∙◌, ap, ap₂, arith, subst}
use Rattle.std.proofs.lemmas.List.{length-append, length-map}
use Rattle.std.proofs.lemmas.List.Elements.{All-head, All-tail}
use Rattle.map_laws.specs.EachLaws.{all_first, all_second, map_same_on}
use Rattle.ratio_core.specs.Rational.{Rational, ◌+ℚ◌}
use Rattle.rational_laws.specs.Dot.{dot}
use Rattle.aff_core.specs.Address.{Address}
use Rattle.set_core.specs.Membership.{low_of}
use Rattle.user_model.specs.declared.group.Group.{Group}
use Rattle.user_model.specs.declared.row.Row.{Row}
use Rattle.user_model.specs.Model.{ModelValue}
use Rattle.certificates.specs.Points.{addresses_of, all_addresses}
use Rattle.certificates.specs.Duals.{group_with, groups_with, row_with, rows_with}
use Rattle.dual_laws.specs.Held.{HasDuals}
use Rattle.certificates.specs.PointLaws.{split_addresses}
use Rattle.dual_parts.specs.Parts.{AreOwn, AreParts, IsLeftOfDuals, bounds_on, joined, own_bounds, own_for, parts_for, shifts_on}
use Rattle.dual_parts.specs.GroupPartLaws.{are_own, is_left, length-own_for, shifts_at}
use Rattle.dual_parts.specs.PartLaws.{are_parts, at_low, joined_parts, length-parts_for}
use Rattle.group_numbering.specs.NumberLaws.{length-numbers_from, numbers_from, numbers_from-append}
use Rattle.group_numbering.specs.PlaceLaws.{joined_alike}
use Rattle.dual_model.specs.Carried.{part_size}
use Rattle.dual_model.specs.DualOf.{row_size}
use Rattle.dual_model.specs.RowPartLaws.{AddsUp, ArePartsOf, Count, HasSetOf, rows_duals, total_parts}
use Rattle.dual_model.specs.GroupRowLaws.{AreGroupsLeft, AreOwnOf, CountOwn, HasGroupSetOf, IsLeftAt, left_at, own_total}

-- ---- equal is a relation that adds up

pub equal_adds : AddsUp (λ p q. p ≡ q)
equal_adds = record { itself = λ c. refl; sums = λ a b c d e k. ap₂ ◌+ℚ◌ e k }

-- ---- rows

-- the numbers of the variables that hold these duals of the rows
abbrev pub row_numbers : List Row → List (List Rational) → List Rational
row_numbers [] ys = []
row_numbers (r ∷ rows) [] = []
row_numbers (r ∷ rows) (y ∷ ys) = parts_for r.set y ++ row_numbers rows ys

module _ (x : Address → Rational) where
  -- they stand at the variables from the n-th on
  abbrev pub AreLaid : ℕ → List Row → List (List Rational) → Type 0
  AreLaid n rows ys = numbers_from x n (total_parts rows) ≡ row_numbers rows ys

  abbrev NextLaid : ℕ → Row → List Rational → List Row → List (List Rational) → Type 0
  NextLaid n r y rows ys =
      (numbers_from x n (part_size r) ≡ parts_for r.set y) × AreLaid (n + part_size r) rows ys

  laid_next : (n : ℕ) (r : Row) (y : List Rational) (rows : List Row) (ys : List (List Rational))
      → length y ≡ row_size r → AreLaid n (r ∷ rows) (y ∷ ys) → NextLaid n r y rows ys
  laid_next n r y rows ys size e =
      joined_alike (numbers_from x n (part_size r))
      (numbers_from x (n + part_size r) (total_parts rows)) (parts_for r.set y) (row_numbers rows ys)
      (length-numbers_from x n (part_size r) ∙ sym (length-parts_for (row_size r) r.set y size))
      (sym (numbers_from-append x n (part_size r) (total_parts rows)) ∙ e)

  abbrev RowDuals : List (List Rational) → List Row → Type 0
  RowDuals ys rows = All HasDuals (rows_with ys rows)

  pub laid_parts : (n : ℕ) (rows : List Row) (ys : List (List Rational)) → length ys ≡ length rows
      → RowDuals ys rows → AreLaid n rows ys → ArePartsOf x n rows
  laid_parts n [] ys k h e = tt
  laid_parts n (r ∷ rows) [] k h e = absurd (omega (arith, k))
  laid_parts n (r ∷ rows) (y ∷ ys) k h e =
      let own = All-head HasDuals (row_with y r) (rows_with ys rows) h in
      let next = laid_next n r y rows ys own.size e in (
        subst (AreParts r.set) (sym next.0) (are_parts r.set y own.dual),
        laid_parts (n + part_size r) rows ys (omega (arith, k))
            (All-tail HasDuals (row_with y r) (rows_with ys rows) h) next.1,
      )

  pub laid_duals : (n : ℕ) (rows : List Row) (ys : List (List Rational)) → length ys ≡ length rows
      → All HasSetOf rows → RowDuals ys rows → AreLaid n rows ys → rows_duals x n rows ≡ ys
  laid_duals n [] [] k sets h e = refl
  laid_duals n [] (y ∷ ys) k sets h e = absurd (omega (arith, k))
  laid_duals n (r ∷ rows) [] k sets h e = absurd (omega (arith, k))
  laid_duals n (r ∷ rows) (y ∷ ys) k sets h e =
      let own = All-head HasDuals (row_with y r) (rows_with ys rows) h in
      let next = laid_next n r y rows ys own.size e in
      ap₂ (λ z zs. z ∷ zs) (ap (joined r.set) next.0
      ∙ joined_parts (row_size r) r.set y (All-head HasSetOf r rows sets) own.size)
      (laid_duals (n + part_size r) rows ys (omega (arith, k)) (All-tail HasSetOf r rows sets)
      (All-tail HasDuals (row_with y r) (rows_with ys rows) h) next.1)

  pub laid_count : (at : Address → Rational) (n : ℕ) (rows : List Row) (ys : List (List Rational))
      → length ys ≡ length rows → All HasSetOf rows → RowDuals ys rows → AreLaid n rows ys
      → Count x (λ p q. p ≡ q) equal_adds at n rows
  laid_count at n [] ys k sets h e = tt
  laid_count at n (r ∷ rows) [] k sets h e = absurd (omega (arith, k))
  laid_count at n (r ∷ rows) (y ∷ ys) k sets h e =
      let own = All-head HasDuals (row_with y r) (rows_with ys rows) h in
      let set = All-head HasSetOf r rows sets in
      let next = laid_next n r y rows ys own.size e in (
        ap (λ z. dot z (bounds_on r.set (row_size r))) next.0
            ∙ at_low (row_size r) r.set y set own.size
            ∙ ap (low_of r.set) (sym (ap (joined r.set) next.0
            ∙ joined_parts (row_size r) r.set y set own.size)),
        laid_count at (n + part_size r) rows ys (omega (arith, k)) (All-tail HasSetOf r rows sets)
            (All-tail HasDuals (row_with y r) (rows_with ys rows) h) next.1,
      )

pub length-row_numbers : (rows : List Row) (ys : List (List Rational)) → length ys ≡ length rows
    → All HasDuals (rows_with ys rows) → length (row_numbers rows ys) ≡ total_parts rows
length-row_numbers [] ys k h = refl
length-row_numbers (r ∷ rows) [] k h = absurd (omega (arith, k))
length-row_numbers (r ∷ rows) (y ∷ ys) k h =
    length-append (parts_for r.set y) (row_numbers rows ys)
    ∙ ap₂ ◌+◌ (length-parts_for (row_size r) r.set y
    ((All-head HasDuals (row_with y r) (rows_with ys rows) h).size))
    (length-row_numbers rows ys (omega (arith, k))
    (All-tail HasDuals (row_with y r) (rows_with ys rows) h))

-- ---- groups

-- the numbers of the groups' own variables where these are the duals of theirs
abbrev pub own_numbers : (Address → Rational) → List Group → List Rational
own_numbers w groups = flat_map (λ g. own_for g.set (map w (addresses_of g.vars))) groups

pub length-own_numbers : (w : Address → Rational) (groups : List Group)
    → length (own_numbers w groups) ≡ own_total groups
length-own_numbers w [] = refl
length-own_numbers w (g ∷ groups) =
    length-append (own_for g.set (map w (addresses_of g.vars))) (own_numbers w groups)
    ∙ ap₂ ◌+◌ (length-own_for g.set (map w (addresses_of g.vars))) (length-own_numbers w groups)

module _ (x w : Address → Rational) where
  abbrev pub AreOwnLaid : ℕ → List Group → Type 0
  AreOwnLaid n groups = numbers_from x n (own_total groups) ≡ own_numbers w groups

  abbrev NextOwn : ℕ → Group → List Group → Type 0
  NextOwn n g groups =
      (numbers_from x n (length (own_bounds g.set)) ≡ own_for g.set (map w (addresses_of g.vars)))
      × AreOwnLaid (n + length (own_bounds g.set)) groups

  own_next : (n : ℕ) (g : Group) (groups : List Group) → AreOwnLaid n (g ∷ groups)
      → NextOwn n g groups
  own_next n g groups e =
      let size : ℕ = length (own_bounds g.set) in
      let ws : List Rational = map w (addresses_of g.vars) in
      joined_alike (numbers_from x n size) (numbers_from x (n + size) (own_total groups))
      (own_for g.set ws) (own_numbers w groups)
      (length-numbers_from x n size ∙ sym (length-own_for g.set ws))
      (sym (numbers_from-append x n size (own_total groups)) ∙ e)

  pub laid_own : (n : ℕ) (groups : List Group) → AreOwnLaid n groups → AreOwnOf x n groups
  laid_own n [] e = tt
  laid_own n (g ∷ groups) e =
      let next = own_next n g groups e in (
        subst (AreOwn g.set) (sym next.0) (are_own g.set (map w (addresses_of g.vars))),
        laid_own (n + length (own_bounds g.set)) groups next.1,
      )

  abbrev GroupDuals : List Group → Type 0
  GroupDuals groups = All HasDuals (groups_with w groups)

  pub laid_left : (model : ModelValue) (n : ℕ) (groups : List Group)
      → All (IsLeftAt model x w) (all_addresses groups) → GroupDuals groups → AreOwnLaid n groups
      → AreGroupsLeft model x n groups
  laid_left model n [] same h e = tt
  laid_left model n (g ∷ groups) same h e =
      let vs : List Address = addresses_of g.vars in
      let all = subst (All (IsLeftAt model x w)) (split_addresses g groups) same in
      let here = map_same_on w (left_at model x) vs
      (all_first (IsLeftAt model x w) vs (all_addresses groups) all) in
      let next = own_next n g groups e in
      let own = All-head HasDuals (group_with w g) (groups_with w groups) h in (
        subst (λ ps. IsLeftOfDuals g.set (map (left_at model x) vs) ps) (sym next.0)
            (subst (λ ws. IsLeftOfDuals g.set ws (own_for g.set (map w vs))) here
            (is_left g.set (map w vs) own.dual)),
        laid_left model (n + length (own_bounds g.set)) groups
            (all_second (IsLeftAt model x w) vs (all_addresses groups) all)
            (All-tail HasDuals (group_with w g) (groups_with w groups) h) next.1,
      )

  pub laid_count_own : (at : Address → Rational) (n : ℕ) (groups : List Group)
      → All HasGroupSetOf groups → AreOwnLaid n groups
      → CountOwn x w (λ p q. p ≡ q) equal_adds at n groups
  laid_count_own at n [] sets e = tt
  laid_count_own at n (g ∷ groups) sets e =
      let vs : List Address = addresses_of g.vars in
      let next = own_next n g groups e in (
        ap (λ ps. dot ps (own_bounds g.set) +ℚ dot (map w vs) (shifts_on g.set (length vs))) next.0
            ∙ shifts_at (length vs) g.set (map w vs) (All-head HasGroupSetOf g groups sets)
            (length-map vs w),
        laid_count_own at (n + length (own_bounds g.set)) groups
            (All-tail HasGroupSetOf g groups sets) next.1,
      )

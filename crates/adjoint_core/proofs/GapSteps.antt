-- The gap, a row or a group at a time.
use Rattle.std.specs.Prelude.{Result, ◌≡◌, ◌⊎◌, List, [], ◌∷◌, ◌++◌, length, map, take, refl}
use Rattle.std.specs.List.{zip}
use Rattle.std.proofs.Common.{arith, ap, ap₂, drop, inl, inr, subst, sym, ◌∙◌}
use Rattle.std.proofs.lemmas.Grind.{flat_map-append}
use Rattle.std.proofs.lemmas.List.Sums.{fold-append}
use Rattle.ratio_core.specs.Folds.{sum_from}
use Rattle.ratio_core.specs.Rational.{Rational, zero_ℚ, ◌+ℚ◌}
use Rattle.aff_core.specs.Address.{Address}
use Rattle.certificates.specs.Duals.{group_with, groups_with}
use Rattle.certificates.specs.Points.{addresses_of, all_addresses}
use Rattle.cert_core.specs.Folds.{AddUp, gap_parts, gap_parts_of}
use Rattle.cert_core.proofs.Groups.{GroupsSoFar, groups_more, next_numbers}
use Rattle.cert_core.proofs.Parts.{gap_is}
use Rattle.dual_laws.specs.Held.{DualRow, gap}
use Rattle.user_model.specs.declared.group.Group.{Group}
use Rattle.adjoint_core.specs.CarriedBack.{GapFits, UnfitGap, group_place}
use Rattle.adjoint_core.specs.Told.{TellsCarried}
use Rattle.adjoint_core.specs.declared.fault.BackFault.{BackFault}
use Rattle.adjoint_core.proofs.InOrder.{told_alike}

-- what is left, from the sum so far, as all of it
pub record GapSoFar (start sum : Rational) (ps left_ps : List Address)
    (hs left_hs : List DualRow) : Type 0 where
  pub fits : GapFits sum (zip left_ps left_hs) → GapFits start (zip ps hs)
  pub unfit : (at : Address) → UnfitGap sum (zip left_ps left_hs) at
      → UnfitGap start (zip ps hs) at
  pub value : sum_from sum (gap_parts left_hs) ≡ sum_from start (gap_parts hs)

module _ (start sum : Rational) (ps left_ps rest_ps : List Address) (hs left_hs rest_hs : List DualRow)
    (p : Address) (held : DualRow) (h : GapSoFar start sum ps left_ps hs left_hs)
    (next_p : left_ps ≡ p ∷ rest_ps) (next_h : left_hs ≡ held ∷ rest_hs) where
  next : zip left_ps left_hs ≡ (p, held) ∷ zip rest_ps rest_hs
  next = ap₂ zip next_p next_h

  pub gap_step : (now : Rational) → AddUp sum (gap_parts_of held)
      → now ≡ sum_from sum (gap_parts_of held) → GapSoFar start now ps rest_ps hs rest_hs
  unfolding GapFits UnfitGap
  gap_step now up is =
      subst (λ s. GapSoFar start s ps rest_ps hs rest_hs) (sym is)
      (record {
        fits = λ k. h.fits (subst (GapFits sum) (sym next) (up, k));
        unfit = λ at k.
            h.unfit at (subst (λ l. UnfitGap sum l at) (sym next) (inr (up, k)));
        value =
            sym (ap (λ l. sum_from sum (gap_parts l)) next_h
            ∙ fold-append ◌+ℚ◌ sum (gap_parts_of held) (gap_parts rest_hs))
            ∙ h.value;
      })

  pub gap_refused : (at : Address) → ¬ (AddUp sum (gap_parts_of held)) × (p ≡ at)
      → UnfitGap start (zip ps hs) at
  unfolding UnfitGap
  gap_refused at n = h.unfit at (subst (λ l. UnfitGap sum l at) (sym next) (inl n))

pub gap_end : (start sum : Rational) (ps left_ps : List Address) (hs left_hs : List DualRow)
    → GapSoFar start sum ps left_ps hs left_hs → left_ps ≡ [] → left_hs ≡ []
    → GapFits start (zip ps hs) × (sum ≡ sum_from start (gap_parts hs))
unfolding GapFits
gap_end start sum ps left_ps hs left_hs h none_p none_h = (
  h.fits (subst (GapFits sum) (sym (ap₂ zip none_p none_h)) tt),
  sym (ap (λ l. sum_from sum (gap_parts l)) none_h) ∙ h.value,
)

-- ---- groups, wherever these are the variables' numbers

-- with the groups left the gap is as with all
abbrev GapLeft : Rational → Rational → List Group → (Address → Rational) → List Group → Type 0
GapLeft start sum groups w left_groups =
    GapSoFar start sum (map group_place groups) (map group_place left_groups)
    (groups_with w groups) (groups_with w left_groups)

abbrev pub GroupsGap : Rational → Rational → List Group → List Group → List Rational
    → List Rational → Type 0
GroupsGap start sum groups left_groups numbers left =
    GroupsSoFar (GapLeft start sum groups) groups left_groups numbers left

module _ (start sum : Rational) (groups left_groups rest : List Group)
    (numbers left : List Rational) (g : Group)
    (h : GroupsGap start sum groups left_groups numbers left) (next : left_groups ≡ g ∷ rest) where
  pub own_is : (w : Address → Rational) → map w (all_addresses groups) ≡ numbers
      → take (length g.vars) left ≡ map w (addresses_of g.vars)
  own_is = next_numbers (GapLeft start sum groups) groups left_groups rest numbers left g h next

  pub groups_gap_step : (now : Rational)
      → ((w : Address → Rational) → take (length g.vars) left ≡ map w (addresses_of g.vars)
      → AddUp sum (gap_parts_of (group_with w g))
      × (now ≡ sum_from sum (gap_parts_of (group_with w g))))
      → GroupsGap start now groups rest numbers (drop (length g.vars) left)
  groups_gap_step now told =
      groups_more (GapLeft start sum groups) groups left_groups rest numbers left g h next
      (GapLeft start now groups) (λ w is.
      let said = told w (own_is w is) in
      gap_step start sum (map group_place groups) (map group_place left_groups)
      (map group_place rest) (groups_with w groups) (groups_with w left_groups)
      (groups_with w rest) (group_place g) (group_with w g) (h.so_far w is)
      (ap (map group_place) next) (ap (groups_with w) next) now said.0 said.1)

  pub groups_gap_refused : (w : Address → Rational) → map w (all_addresses groups) ≡ numbers
      → (at : Address)
      → ¬ (AddUp sum (gap_parts_of (group_with w g))) × (group_place g ≡ at)
      → UnfitGap start (zip (map group_place groups) (groups_with w groups)) at
  groups_gap_refused w is at n =
      gap_refused start sum (map group_place groups) (map group_place left_groups)
      (map group_place rest) (groups_with w groups) (groups_with w left_groups)
      (groups_with w rest) (group_place g) (group_with w g) (h.so_far w is)
      (ap (map group_place) next) (ap (groups_with w) next) at n

pub groups_gap_end : (start sum : Rational) (groups left_groups : List Group)
    (numbers left : List Rational) → GroupsGap start sum groups left_groups numbers left
    → left_groups ≡ [] → (w : Address → Rational) → map w (all_addresses groups) ≡ numbers
    → GapFits start (zip (map group_place groups) (groups_with w groups))
    × (sum ≡ sum_from start (gap_parts (groups_with w groups)))
groups_gap_end start sum groups left_groups numbers left h none w is =
    gap_end start sum (map group_place groups) (map group_place left_groups)
    (groups_with w groups) (groups_with w left_groups) (h.so_far w is)
    (ap (map group_place) none) (ap (groups_with w) none)

-- ---- rows, and then groups

-- one list after another
pub gap_append : (start : Rational) (xs ys : List (Address × DualRow))
    → GapFits start xs → GapFits (sum_from start (gap_parts (map (λ x. x.1) xs))) ys
    → GapFits start (xs ++ ys)
unfolding GapFits
gap_append start [] ys h k = k
gap_append start (x ∷ xs) ys h k = (
  h.0,
  gap_append (sum_from start (gap_parts_of x.1)) xs ys h.1
      (subst (λ s. GapFits s ys)
      (fold-append ◌+ℚ◌ start (gap_parts_of x.1) (gap_parts (map (λ x. x.1) xs))) k),
)

unfit_either : (start : Rational) (x : Address × DualRow) (xs ys : List (Address × DualRow))
    (at : Address)
    → (UnfitGap (sum_from start (gap_parts_of x.1)) xs at
    → UnfitGap (sum_from start (gap_parts_of x.1)) (xs ++ ys) at)
    → (¬ (AddUp start (gap_parts_of x.1)) × (x.0 ≡ at))
    ⊎ (AddUp start (gap_parts_of x.1) × UnfitGap (sum_from start (gap_parts_of x.1)) xs at)
    → (¬ (AddUp start (gap_parts_of x.1)) × (x.0 ≡ at))
    ⊎ (AddUp start (gap_parts_of x.1)
    × UnfitGap (sum_from start (gap_parts_of x.1)) (xs ++ ys) at)
unfit_either start x xs ys at later (inl n) = inl n
unfit_either start x xs ys at later (inr k) = inr (k.0, later k.1)

pub unfit_first : (start : Rational) (xs ys : List (Address × DualRow)) (at : Address)
    → UnfitGap start xs at → UnfitGap start (xs ++ ys) at
unfolding UnfitGap
unfit_first start [] ys at h = absurd h
unfit_first start (x ∷ xs) ys at h =
    unfit_either start x xs ys at (unfit_first (sum_from start (gap_parts_of x.1)) xs ys at) h

pub unfit_second : (start : Rational) (xs ys : List (Address × DualRow)) (at : Address)
    → GapFits start xs → UnfitGap (sum_from start (gap_parts (map (λ x. x.1) xs))) ys at
    → UnfitGap start (xs ++ ys) at
unfolding GapFits UnfitGap
unfit_second start [] ys at h k = k
unfit_second start (x ∷ xs) ys at h k =
    inr (
      h.0,
      unfit_second (sum_from start (gap_parts_of x.1)) xs ys at h.1
          (subst (λ s. UnfitGap s ys at)
          (fold-append ◌+ℚ◌ start (gap_parts_of x.1) (gap_parts (map (λ x. x.1) xs))) k),
    )

seconds : (ps : List Address) (hs : List DualRow) → length ps ≡ length hs
    → map (λ (x : Address × DualRow). x.1) (zip ps hs) ≡ hs
seconds [] [] e = refl
seconds [] (h ∷ hs) e = absurd (omega (arith, e))
seconds (p ∷ ps) [] e = absurd (omega (arith, e))
seconds (p ∷ ps) (h ∷ hs) e = ap (λ l. h ∷ l) (seconds ps hs (omega (arith, e)))

-- the rows' part, and then the groups'
module _ (ps qs : List Address) (hs gs : List DualRow) (size : length ps ≡ length hs)
    (before : Rational) (fits : GapFits zero_ℚ (zip ps hs))
    (is : before ≡ sum_from zero_ℚ (gap_parts hs)) where
  same_start : before ≡ sum_from zero_ℚ (gap_parts (map (λ (x : Address × DualRow). x.1) (zip ps hs)))
  same_start = is ∙ ap (λ l. sum_from zero_ℚ (gap_parts l)) (sym (seconds ps hs size))

  whole_gap : sum_from before (gap_parts gs) ≡ gap (hs ++ gs)
  whole_gap =
      ap (λ s. sum_from s (gap_parts gs)) is
      ∙ sym (fold-append ◌+ℚ◌ zero_ℚ (gap_parts hs) (gap_parts gs))
      ∙ ap (sum_from zero_ℚ) (sym (flat_map-append gap_parts_of hs gs))
      ∙ gap_is (hs ++ gs)

  pub gap_told : (r : Result Rational BackFault)
      → TellsCarried r (GapFits before (zip qs gs)) (λ q. q ≡ sum_from before (gap_parts gs))
      (UnfitGap before (zip qs gs))
      → TellsCarried r (GapFits zero_ℚ (zip ps hs ++ zip qs gs)) (λ q. q ≡ gap (hs ++ gs))
      (UnfitGap zero_ℚ (zip ps hs ++ zip qs gs))
  gap_told r h =
      told_alike r (GapFits before (zip qs gs)) (GapFits zero_ℚ (zip ps hs ++ zip qs gs))
      (λ q. q ≡ sum_from before (gap_parts gs)) (λ q. q ≡ gap (hs ++ gs))
      (UnfitGap before (zip qs gs)) (UnfitGap zero_ℚ (zip ps hs ++ zip qs gs)) h
      (λ k. gap_append zero_ℚ (zip ps hs) (zip qs gs) fits
      (subst (λ s. GapFits s (zip qs gs)) same_start k))
      (λ q k. k ∙ whole_gap)
      (λ at k. unfit_second zero_ℚ (zip ps hs) (zip qs gs) at fits
      (subst (λ s. UnfitGap s (zip qs gs) at) same_start k))

-- Where the relaxation has no feasible point, the hard rows have none: its certificate, with the
-- duals of the hard rows and of the model's variables alone, is one of the hard model. For the duals
-- of the slacks are at least 0 and cancel the soft rows' duals with each of their signs, so these are
-- 0.
use Rattle.std.specs.Prelude.{◌≡◌, ◌⊎◌, ℕ, zero, suc, ◌+◌, ◌<◌, ◌≤◌, List, [], ◌∷◌, ◌++◌, All, length, map, refl}
use Rattle.std.proofs.Common.{ap, ap₂, arith, inl, inr, subst, sym, ◌∙◌}
use Rattle.std.proofs.lemmas.Int.{ints}
use Rattle.std.proofs.lemmas.List.{map-append}
use Rattle.std.proofs.lemmas.List.Elements.{All-append, All-cons, All-head, All-map, All-nil, All-tail, All-weaker}
use Rattle.map_laws.specs.EachLaws.{all_first, all_second}
use Rattle.ratio_core.specs.Rational.{Rational, zero_ℚ, ◌*ℚ◌, ◌+ℚ◌, ◌-ℚ◌, ◌≤ℚ◌}
use Rattle.rational_laws.specs.Field.{*ℚ-zero, +ℚ-zero, -ℚ-itself, zero-+ℚ}
use Rattle.rational_laws.specs.Linear.{as_scaled, linear₂, scaled_zero, scales}
use Rattle.aff_core.specs.Address.{Address, address_cmp}
use Rattle.aff_core.specs.FunctionLaws.{constant-variable}
use Rattle.dual_laws.specs.Held.{DualRow, HasDuals, adjoint, gap, gap_of}
use Rattle.dual_laws.specs.PullLaws.{gap-append}
use Rattle.user_model.specs.declared.group.Group.{Group}
use Rattle.user_model.specs.declared.group.GroupVar.{GroupVar}
use Rattle.user_model.specs.declared.row.Row.{Row}
use Rattle.user_model.specs.Model.{ModelValue, variable_address, variables}
use Rattle.user_model.specs.Valid.{IsValid}
use Rattle.certificates.specs.Points.{address_of, addresses_of, at_point, variables_of}
use Rattle.certificates.specs.Duals.{group_with, groups_with, rows_with}
use Rattle.certificates.specs.Good.{Cancels, IsInfeasible}
use Rattle.group_numbering.specs.NewGroups.{numbered_groups}
use Rattle.group_numbering.specs.PlaceLaws.{addresses_from}
use Rattle.relaxed_model.specs.OwnLaws.{IsNumberedBelow, own_rows}
use Rattle.relaxed_model.specs.PlacedLaws.{first_part, last_part, length-first_part, length-free_names, own_numbers, parts_join, relaxed_addresses}
use Rattle.relaxed_model.specs.Relaxed.{at_hard_rows, hard_model, hard_rows, relaxed_model, relaxed_rows, row_signs, slack_count, slack_group, slack_names}
use Rattle.relaxed_model.specs.SoftDuals.{CountAs, hard_part}

-- what is beside a number of at least 0 with which it comes to 0
nonpos_beside : (a w : Rational) → a +ℚ w ≡ zero_ℚ → zero_ℚ ≤ℚ w → a ≤ℚ zero_ℚ
nonpos_beside =
    linear₂ _ (λ a b e h k. simp (scaled_zero e) (omega
    (arith, ints, scales, simp (as_scaled, scaled_zero e) at h, simp (scaled_zero e) at k)))

-- ---- groups

same_or_later : (n m : ℕ) → n ≤ m → (n ≡ m) ⊎ (suc n ≤ m)
same_or_later zero zero h = inl refl
same_or_later zero (suc m) h = inr (omega arith)
same_or_later (suc n) zero h = absurd (omega (arith, h))
same_or_later (suc n) (suc m) h = more (same_or_later n m (omega (arith, h)))
  where
    more : (n ≡ m) ⊎ (suc n ≤ m) → (suc n ≡ suc m) ⊎ (suc (suc n) ≤ suc m)
    more (inl e) = inl (ap suc e)
    more (inr k) = inr (omega (arith, k))

-- what holds of each of some variables numbered from n on
at_number : (P : Address → Type 0) (n k : ℕ) → All P (addresses_from n k) → (m : ℕ) → n ≤ m
    → m < n + k → P (variable_address m)
at_number P n zero h m from to = absurd (omega (arith, from, to))
at_number P n (suc k) h m from to =
    elim (same_or_later n m from) [
      | inl e ↦
          subst (λ j. P (variable_address j)) e
          (All-head P (variable_address n) (addresses_from (suc n) k) h)
      | inr later ↦
          at_number P (suc n) k (All-tail P (variable_address n) (addresses_from (suc n) k) h) m
          later (omega (arith, to))
    ]

next : (n : ℕ) → n + 1 ≡ suc n
next n = omega arith

abbrev slacks_from : ℕ → ℕ → List (List ℕ) → List Group
slacks_from id n names = numbered_groups id n (map slack_group names)

abbrev slack_at : ℕ → ℕ → List ℕ → Group
slack_at id n name = record {
  id = id;
  vars = record { number = n; name = name } ∷ [];
  set = (slack_group name).set;
}

abbrev IsNonnegativeAt : (Address → Rational) → Address → Type 0
IsNonnegativeAt w v = zero_ℚ ≤ℚ w v

module _ (w : Address → Rational) where
  -- the duals of slacks are at least 0
  slack_duals : (id n : ℕ) (names : List (List ℕ))
      → All HasDuals (groups_with w (slacks_from id n names))
      → All (IsNonnegativeAt w) (addresses_from n (length names))
  slack_duals id n [] h = All-nil (IsNonnegativeAt w)
  slack_duals id n (name ∷ names) h =
      let first : DualRow = group_with w (slack_at id n name) in
      let others : List DualRow =
      groups_with w (numbered_groups (suc id) (n + 1) (map slack_group names)) in
      All-cons (IsNonnegativeAt w) (variable_address n) (addresses_from (suc n) (length names))
      (All-head (λ q. zero_ℚ ≤ℚ q) (w (variable_address n)) []
      (All-head HasDuals first others h).dual)
      (slack_duals (suc id) (suc n) names
      (subst (λ m. All HasDuals (groups_with w (slacks_from (suc id) m names))) (next n)
      (All-tail HasDuals first others h)))

  slack_gap : (id n : ℕ) (name : List ℕ) → gap_of (group_with w (slack_at id n name)) ≡ zero_ℚ
  slack_gap id n name =
      ap (λ q. zero_ℚ -ℚ q)
      (ap (λ c. w (variable_address n) *ℚ c +ℚ zero_ℚ)
      (constant-variable address_cmp (variable_address n))
      ∙ +ℚ-zero (w (variable_address n) *ℚ zero_ℚ) ∙ *ℚ-zero (w (variable_address n)))
      ∙ -ℚ-itself zero_ℚ

  slack_gaps : (id n : ℕ) (names : List (List ℕ))
      → gap (groups_with w (slacks_from id n names)) ≡ zero_ℚ
  slack_gaps id n [] = refl
  slack_gaps id n (name ∷ names) =
      ap₂ ◌+ℚ◌ (slack_gap id n name)
      (ap (λ m. gap (groups_with w (slacks_from (suc id) m names))) (next n)
      ∙ slack_gaps (suc id) (suc n) names)
      ∙ zero-+ℚ zero_ℚ

-- numbers that agree below n give such groups one list of duals
module _ (n : ℕ) (w u : Address → Rational) (agree : (v : Address) → v.number < n → w v ≡ u v) where
  same_duals : (vars : List GroupVar) → All (IsNumberedBelow n) vars
      → map w (addresses_of vars) ≡ map u (addresses_of vars)
  same_duals [] below = refl
  same_duals (v ∷ vars) below =
      ap₂ (λ q qs. q ∷ qs) (agree (address_of v) (All-head (IsNumberedBelow n) v vars below))
      (same_duals vars (All-tail (IsNumberedBelow n) v vars below))

  same_groups : (groups : List Group) → All (IsNumberedBelow n) (variables_of groups)
      → groups_with w groups ≡ groups_with u groups
  same_groups [] below = refl
  same_groups (g ∷ groups) below =
      ap₂ (λ duals hs. record (group_with w g) { duals = duals } ∷ hs)
      (same_duals g.vars (all_first (IsNumberedBelow n) g.vars (variables_of groups) below))
      (same_groups groups (all_second (IsNumberedBelow n) g.vars (variables_of groups) below))

-- ---- a certificate of the relaxation

module _ (model : ModelValue) (valid : IsValid model) (amount : Rational)
    (rows : List (List Rational)) (vars : List Rational)
    (infeasible : IsInfeasible (relaxed_model model) amount rows vars) where
  abbrev relaxed : ModelValue
  relaxed = relaxed_model model

  abbrev first : ℕ
  first = model.next.variable

  abbrev count : ℕ
  count = slack_count model.rows

  abbrev slacks : List Group
  slacks = slacks_from model.next.group first (slack_names model)

  abbrev outer : Address → Rational
  outer = at_point relaxed vars

  abbrev inner : Address → Rational
  inner = at_point model (first_part model vars)

  abbrev row_duals : List DualRow
  row_duals = rows_with rows (relaxed_rows first model.rows)

  agree : (v : Address) → v.number < first → outer v ≡ inner v
  agree v h =
      ap (λ z. at_point relaxed z v) (sym (parts_join model vars))
      ∙ own_numbers model valid.consistent (first_part model vars) (last_part model vars)
      (length-first_part model valid.consistent vars infeasible.duals.each_variable) v h

  split_groups : groups_with outer (model.groups ++ slacks)
      ≡ groups_with inner model.groups ++ groups_with outer slacks
  split_groups =
      map-append (group_with outer) model.groups slacks
      ∙ ap (λ hs. hs ++ groups_with outer slacks)
      (same_groups first outer inner agree model.groups valid.consistent.given_variables)

  group_duals : All HasDuals (groups_with inner model.groups ++ groups_with outer slacks)
  group_duals =
      subst (All HasDuals) split_groups
      (all_second HasDuals row_duals (groups_with outer (model.groups ++ slacks))
      infeasible.duals.duals)

  equations : All (Cancels relaxed rows vars)
      (addresses_of (variables model) ++ addresses_from first count)
  equations =
      subst (All (Cancels relaxed rows vars)) (relaxed_addresses model valid.consistent)
      infeasible.equations

  slack_cancels : (m : ℕ) → first ≤ m → m < first + count
      → adjoint row_duals (variable_address m) ≤ℚ zero_ℚ
  slack_cancels m from to =
      nonpos_beside (adjoint row_duals (variable_address m)) (outer (variable_address m))
      (at_number (Cancels relaxed rows vars) first count
      (all_second (Cancels relaxed rows vars) (addresses_of (variables model))
      (addresses_from first count) equations) m from to)
      (at_number (IsNonnegativeAt outer) first count
      (subst (λ k. All (IsNonnegativeAt outer) (addresses_from first k))
      (length-free_names model count 1 count)
      (slack_duals outer model.next.group first (slack_names model)
      (all_second HasDuals (groups_with inner model.groups) (groups_with outer slacks)
      group_duals))) m from to)

  kept : CountAs row_duals (at_hard_rows model.rows rows) (hard_rows model.rows)
  kept =
      hard_part first first (omega arith) model.rows rows (own_rows model valid)
      (infeasible.duals.each_row ∙ length-rows first model.rows)
      (all_first HasDuals row_duals (groups_with outer (model.groups ++ slacks))
      infeasible.duals.duals) slack_cancels
    where
      length-rows : (n : ℕ) (rows : List Row) → length (relaxed_rows n rows) ≡ length rows
      length-rows n [] = refl
      length-rows n (r ∷ rows) = ap suc (length-rows (n + length (row_signs r)) rows)

  addresses_below : (vars : List GroupVar) → All (IsNumberedBelow first) vars
      → All (λ (v : Address). v.number < first) (addresses_of vars)
  addresses_below vars below = All-map (λ (v : Address). v.number < first) address_of vars below

  hard_cancels : (v : Address) → v.number < first → Cancels relaxed rows vars v
      → Cancels (hard_model model) (at_hard_rows model.rows rows) (first_part model vars) v
  hard_cancels v h e = sym (ap₂ ◌+ℚ◌ (kept.adjoints v) (agree v h)) ∙ e

  pub hard_infeasible : IsInfeasible (hard_model model) amount (at_hard_rows model.rows rows)
      (first_part model vars)
  hard_infeasible = record {
    duals = record {
      each_row = kept.size;
      each_variable =
          length-first_part model valid.consistent vars infeasible.duals.each_variable;
      duals = All-append HasDuals (rows_with (at_hard_rows model.rows rows) (hard_rows model.rows))
          (groups_with inner model.groups) kept.duals
          (all_first HasDuals (groups_with inner model.groups) (groups_with outer slacks)
          group_duals);
    };
    equations =
        All-weaker (λ v. Cancels relaxed rows vars v × (v.number < first))
        (Cancels (hard_model model) (at_hard_rows model.rows rows) (first_part model vars))
        (λ v both. hard_cancels v both.1 both.0) (addresses_of (variables model))
        (λ k d end. (
          all_first (Cancels relaxed rows vars) (addresses_of (variables model))
              (addresses_from first count) equations k d end,
          addresses_below (variables model) valid.consistent.given_variables k d end,
        ));
    is_gap =
        infeasible.is_gap
        ∙ gap-append row_duals (groups_with outer (model.groups ++ slacks))
        ∙ ap₂ ◌+ℚ◌ kept.gaps
        (ap gap split_groups ∙ gap-append (groups_with inner model.groups) (groups_with outer slacks)
        ∙ ap (λ q. gap (groups_with inner model.groups) +ℚ q)
        (slack_gaps outer model.next.group first (slack_names model))
        ∙ +ℚ-zero (gap (groups_with inner model.groups)))
        ∙ sym (gap-append (rows_with (at_hard_rows model.rows rows) (hard_rows model.rows))
        (groups_with inner model.groups));
    positive = infeasible.positive;
  }

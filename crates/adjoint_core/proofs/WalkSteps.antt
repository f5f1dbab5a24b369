-- A step of the walk to an address.
use Rattle.std.specs.Prelude.{◌≡◌, ◌+◌, ◌-◌, ◌<◌, ◌≤◌, ◌^◌, ℕ, zero, suc, List, All, IsErrAnd, IsSomeAnd, Option, Some, None, Result, Err, length, map, refl}
use Rattle.std.specs.Option.{option_map, option_or}
use Rattle.std.proofs.Common.{arith, ap, get_or, subst, sym, ◌∙◌}
use Rattle.std.proofs.lemmas.List.Elements.{All-get_or}
use Rattle.std.proofs.lemmas.List.FromFn.{get_or-map-range_with_len, length-map-range_with_len}
use Rattle.std.proofs.lemmas.Option.{none-some, same_Some}
use Rattle.ratio_core.specs.Rational.{Rational}
use Rattle.ratio_core.specs.declared.fault.NumberFault.{NumberFault}
use Rattle.ratio_core.specs.Answers.{ExactWhere}
use Rattle.ratio_core.specs.AnsweredLaws.{exact_as, passed_on}
use Rattle.aff_core.specs.Address.{Address, child_of}
use Rattle.bridge_face.specs.BackOf.{BackFits, back_of}
use Rattle.bridge_face.specs.BridgeState.{BridgeState, IsCarriedBack, TakesDuals, child_rows_of}
use Rattle.bridge_face.specs.declared.child_rows.ChildRows.{ChildRows}
use Rattle.bridge_face.specs.declared.kept_item.KeptItem.{KeptItem}
use Rattle.adjoint_core.specs.Walk.{DualBelowFits, FitsBelow, IsRowWithin, TakesBy, dual_at, dual_by, kept_at, places_of, row_places}
use Rattle.adjoint_core.proofs.Walks.{leaf_read}

-- what is kept, from where its child rows stand
pub kept_of_rows : (o : Option KeptItem) (rows : ChildRows)
    → option_map (λ (kept : KeptItem). child_rows_of kept.edge kept.item) o ≡ Some rows
    → (kept : KeptItem) × (o ≡ Some kept) × (rows ≡ child_rows_of kept.edge kept.item)
kept_of_rows None rows e = absurd (none-some rows e)
kept_of_rows (Some kept) rows e =
    (kept, refl, sym (same_Some (child_rows_of kept.edge kept.item) rows e))

-- the first bridge that keeps something tells where its child rows stand
pub first_kept : (o p : Option KeptItem) (rows : ChildRows)
    → option_map (λ (kept : KeptItem). child_rows_of kept.edge kept.item) o ≡ Some rows
    → option_or o p ≡ o
first_kept None p rows e = absurd (none-some rows e)
first_kept (Some kept) p rows e = refl

pub passed_by : (o p : Option KeptItem)
    → ((rows : ChildRows)
    → option_map (λ (kept : KeptItem). child_rows_of kept.edge kept.item) o ≡ Some rows → ⊥)
    → option_or o p ≡ p
passed_by None p n = refl
passed_by (Some kept) p n = absurd (n (child_rows_of kept.edge kept.item) refl)

-- the places one by one
pub place_there : (at : Address) (rows : ChildRows) (i : ℕ) → i < rows.count
    → child_of at (rows.first + i)
    ≡ get_or (places_of at rows) i (child_of at (rows.first + i))
place_there at rows i lt =
    sym (get_or-map-range_with_len (child_of at) rows.first rows.count i (rows.first + i)
    (child_of at (rows.first + i)) lt refl)

pub place_count : (at : Address) (rows : ChildRows) → length (places_of at rows) ≡ rows.count
place_count at rows = length-map-range_with_len (child_of at) rows.first rows.count

module _ (states : List BridgeState) (leaf : Address → List Rational) where
  pub some_level : (n : ℕ) (at : Address) → IsRowWithin states leaf n at → 1 ≤ n
  unfolding IsRowWithin
  some_level zero at h = absurd h
  some_level (suc n) at h = omega arith

  -- nothing is kept there
  pub leaf_answer : (n : ℕ) (at : Address) → IsRowWithin states leaf n at → kept_at states at ≡ None
      → DualBelowFits states leaf n at × (leaf at ≡ dual_at states leaf n at)
  unfolding IsRowWithin
  leaf_answer zero at h is = absurd h
  leaf_answer (suc n) at h is =
      let read = leaf_read states leaf n at is in (read.fits, sym read.same)

  -- something is kept there, and this is a level less
  pub record Opened (n less : ℕ) (at : Address) (kept : KeptItem) (ps : List Address) : Type 0 where
    pub duals : TakesDuals kept (map (dual_at states leaf less) ps)
    pub depth : length at.positions < 40
    pub places : (child_rows_of kept.edge kept.item).first
        + (child_rows_of kept.edge kept.item).count ≤ 2 ^ 16
    pub each : All (IsRowWithin states leaf less) ps
    pub fits : All (DualBelowFits states leaf less) ps
        × BackFits kept.edge kept.item (map (dual_at states leaf less) ps)
        → DualBelowFits states leaf n at
    pub only : DualBelowFits states leaf n at
        → All (DualBelowFits states leaf less) ps
        × BackFits kept.edge kept.item (map (dual_at states leaf less) ps)
    pub same : dual_at states leaf n at
        ≡ back_of kept.edge kept.item (map (dual_at states leaf less) ps)

  opened_by : (n : ℕ) (at : Address) (kept : KeptItem)
      → TakesBy states leaf (dual_at states leaf n) (IsRowWithin states leaf n) at (kept_at states at)
      → kept_at states at ≡ Some kept → Opened (suc n) n at kept (row_places at kept)
  unfolding dual_at DualBelowFits dual_by FitsBelow TakesBy
  opened_by n at kept h is =
      let below = dual_at states leaf n in
      let takes = subst (TakesBy states leaf below (IsRowWithin states leaf n) at) is h in
      record {
        duals = takes.0.duals;
        depth = takes.0.depth;
        places = takes.0.places;
        each = takes.1;
        fits = λ k. subst (FitsBelow states leaf below (DualBelowFits states leaf n) at) (sym is) k;
        only = λ k. subst (FitsBelow states leaf below (DualBelowFits states leaf n) at) is k;
        same = ap (dual_by states leaf below at) is;
      }

  opened_here : (n : ℕ) (at : Address) (kept : KeptItem) → IsRowWithin states leaf n at
      → kept_at states at ≡ Some kept → Opened n (n - 1) at kept (row_places at kept)
  unfolding IsRowWithin
  opened_here zero at kept h is = absurd h
  opened_here (suc n) at kept h is =
      let less : n ≡ suc n - 1 = omega arith in
      subst (λ k. Opened (suc n) k at kept (row_places at kept)) less (opened_by n at kept h is)

  pub opened : (n : ℕ) (at : Address) (kept : KeptItem) (rows : ChildRows)
      → IsRowWithin states leaf n at → kept_at states at ≡ Some kept
      → rows ≡ child_rows_of kept.edge kept.item → Opened n (n - 1) at kept (places_of at rows)
  opened n at kept rows h is rows_is =
      subst (λ rs. Opened n (n - 1) at kept (places_of at rs)) (sym rows_is)
      (opened_here n at kept h is)

  module _ (n : ℕ) (at : Address) (kept : KeptItem) (ps : List Address)
      (h : Opened n (n - 1) at kept ps) where
    pub child_within : (i : ℕ) (v : Address) → v ≡ get_or ps i v → i < length ps
        → IsRowWithin states leaf (n - 1) v
    child_within i v here lt =
        subst (IsRowWithin states leaf (n - 1)) (sym here)
        (All-get_or (IsRowWithin states leaf (n - 1)) ps i v lt h.each)

    -- a child's fault is the item's
    pub child_refused : {T U : Type 0} (r : Result T NumberFault) (e : NumberFault) (i : ℕ)
        (v : Address) (A : T → Type 0) (B : U → Type 0) → v ≡ get_or ps i v → i < length ps
        → IsErrAnd r (λ x. x ≡ e)
        → ExactWhere {T = U} (Err e) (DualBelowFits states leaf (n - 1) v) B
        → ExactWhere r (DualBelowFits states leaf n at) A
    child_refused r e i v A B here lt is said =
        passed_on r e (DualBelowFits states leaf (n - 1) v) (DualBelowFits states leaf n at) A B is said
        (λ fits. subst (DualBelowFits states leaf (n - 1)) (sym here)
        (All-get_or (DualBelowFits states leaf (n - 1)) ps i v lt (h.only fits).0))

    pub back_told : (r : Result (List Rational) NumberFault) (ys : List (List Rational))
        → All (DualBelowFits states leaf (n - 1)) ps → ys ≡ map (dual_at states leaf (n - 1)) ps
        → IsCarriedBack r ys kept
        → ExactWhere r (DualBelowFits states leaf n at) (λ dual. dual ≡ dual_at states leaf n at)
    back_told r ys all made said =
        exact_as r (BackFits kept.edge kept.item ys) (DualBelowFits states leaf n at)
        (λ dual. dual ≡ back_of kept.edge kept.item ys)
        (λ dual. dual ≡ dual_at states leaf n at)
        (λ fits. h.fits (all, subst (BackFits kept.edge kept.item) made fits))
        (λ fits. subst (BackFits kept.edge kept.item) (sym made) (h.only fits).1)
        (λ dual is. is ∙ ap (back_of kept.edge kept.item) made ∙ sym h.same)
        said

    pub takes_made : (o : Option KeptItem) (ys : List (List Rational)) → o ≡ Some kept
        → ys ≡ map (dual_at states leaf (n - 1)) ps
        → IsSomeAnd o (λ k. TakesDuals k ys)
    takes_made o ys is made =
        subst (λ p. IsSomeAnd p (λ k. TakesDuals k ys)) (sym is)
        (subst (TakesDuals kept) (sym made) h.duals)

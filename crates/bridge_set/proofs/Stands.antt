-- What a change at a place leaves.
use Rattle.std.specs.Prelude.{◌≡◌, ◌⊎◌, ◌+◌, ◌<◌, ◌≤◌, ℕ, zero, suc, Bool, true, false, List, [], ◌∷◌, Some, drop, map, length, option_map, slice_get, slice_set, slice_index_or}
use Rattle.std.specs.List.{list_any}
use Rattle.std.proofs.Common.{arith, inl, inr, sym, ap, subst, ◌∙◌}
use Rattle.std.proofs.Math.Seq.{map-set_same}
use Rattle.std.proofs.lemmas.List.{drop_all, length-map, map-set}
use Rattle.std.proofs.lemmas.Option.{get_or_from_slice_get, slice_get-get_or, slice_get-map}
use Rattle.std.proofs.lemmas.Bool.{cases_lt}
use Rattle.fresh_bridging.specs.TableLaws.{equal_family}
use Rattle.item_core.specs.declared.family.Family.{Family}
use Rattle.item_core.specs.Edge.{family_eq}
use Rattle.bridge_face.specs.Law.{IsLawful}
use Rattle.bridge_face.specs.BridgeState.{BridgeState, all_gone}
use Rattle.map_laws.specs.LoopLaws.{IsPast, any_found, past_more}
use Rattle.bridge_set.specs.Bridges.{IsChangedFor, families_of}
use Rattle.bridge_set.proofs.Families.{any_map}

-- what f doesn't tell from what was there stays
pub same_after : {A : Type 0} (f : BridgeState → A) (family : Family) (change : BridgeState → BridgeState)
    (old new : List BridgeState) → ((s : BridgeState) → f (change s) ≡ f s)
    → IsChangedFor family change old new → map f new ≡ map f old
same_after f family change old new same h =
    ap (map f) h.new_is
    ∙ map-set_same f old h.place (change h.was) h.was
    (same h.was ∙ ap f (sym (get_or_from_slice_get old h.place h.was h.was h.at)))

module _ {B : Type 0} (state : B → BridgeState) where
  pub state_at : (bs : List B) (n : ℕ) (b d : B) → n < length bs → b ≡ slice_index_or bs n d
      → slice_get (map state bs) n ≡ Some (state b)
  state_at [] n b d lt e = absurd (omega arith)
  state_at (c ∷ bs) zero b d lt e = ap (λ x. Some (state x)) (sym e)
  state_at (c ∷ bs) (suc n) b d lt e = state_at bs n b d (omega arith) e

  -- where the bridge at a place is of the family and is changed
  pub changed_for : (family : Family) (change : BridgeState → BridgeState) (bs : List B) (n : ℕ)
      (b d after : B) → n < length bs → b ≡ slice_index_or bs n d → family_eq family (state b).family ≡ true
      → state after ≡ change (state b)
      → IsChangedFor family change (map state bs) (map state (slice_set bs n after))
  changed_for family change bs n b d after lt e same is = record {
    place = n;
    was = state b;
    at = state_at bs n b d lt e;
    of_family = sym (equal_family family (state b).family same);
    new_is = map-set state bs n after ∙ ap (λ s. slice_set (map state bs) n s) is;
  }

  -- ---- a search by family

  abbrev pub is_of : Family → B → Bool
  is_of f b = family_eq f (state b).family

  -- a bridge of the family is one of its family
  pub one_there : (bs : List B) (n : ℕ) (b d : B) (f : Family) → n < length bs
      → b ≡ slice_index_or bs n d → family_eq f (state b).family ≡ true
      → list_any (is_of f) (drop n bs) ≡ list_any (is_of f) bs
      → true ≡ list_any (family_eq f) (families_of (map state bs))
  one_there bs n b d f lt e same so_far =
      any_found (is_of f) bs n b so_far (slice_get-get_or bs n d lt ∙ ap Some (sym e)) same
      ∙ sym (any_map (family_eq f) (λ (s : BridgeState). s.family) (map state bs)
      ∙ any_map (λ (s : BridgeState). family_eq f s.family) state bs)

  pub none_there : (bs : List B) (n : ℕ) (f : Family) → length bs ≤ n
      → list_any (is_of f) (drop n bs) ≡ list_any (is_of f) bs
      → list_any (family_eq f) (families_of (map state bs)) ≡ false
  none_there bs n f end so_far =
      any_map (family_eq f) (λ (s : BridgeState). s.family) (map state bs)
      ∙ any_map (λ (s : BridgeState). family_eq f s.family) state bs
      ∙ sym so_far
      ∙ ap (list_any (is_of f)) (drop_all n bs end)

  -- ---- each is asked

  pub next_lawful : (bs : List B) (n : ℕ) (b : B) → n < length bs → b ≡ slice_index_or bs n b
      → IsLawful (state b).family
      → ((k : ℕ) (d : Family) → k < n → IsLawful (slice_index_or (families_of (map state bs)) k d))
      → (k : ℕ) (d : Family) → k < n + 1
      → IsLawful (slice_index_or (families_of (map state bs)) k d)
  next_lawful bs n b lt e law so_far k d below = by (cases_lt k n)
    where
      there : k ≡ n → slice_index_or (families_of (map state bs)) k d ≡ (state b).family
      there same =
          ap (λ j. slice_index_or (families_of (map state bs)) j d) same
          ∙ get_or_from_slice_get (families_of (map state bs)) n (state b).family d
          (slice_get-map (λ (s : BridgeState). s.family) (map state bs) n
          ∙ ap (option_map (λ (s : BridgeState). s.family)) (state_at bs n b b lt e))

      by : (k < n) ⊎ (n ≤ k) → IsLawful (slice_index_or (families_of (map state bs)) k d)
      by (inl low) = so_far k d low
      by (inr high) = subst IsLawful (sym (there (omega (arith, high, below)))) law

  -- ---- each is cleared

  pub next_gone : (old now : List B) (n : ℕ) (b d after : B) → n < length now
      → b ≡ slice_index_or now n d → state after ≡ all_gone (state b)
      → length now ≡ length old
      → IsPast all_gone (map state old) (map state now) n
      → IsPast all_gone (map state old) (map state (slice_set now n after)) (n + 1)
  next_gone old now n b d after lt e gone long so_far =
      let here : n < length (map state old) = omega (arith, lt, long, length-map old state) in
      let there = get_or_from_slice_get (map state now) n (state b) (state b)
      (state_at now n b d lt e) in
      subst (λ ss. IsPast all_gone (map state old) ss (n + 1)) (sym (map-set state now n after))
      (past_more all_gone (map state old) (map state now) n (state b) (state after) here so_far
      (gone ∙ ap all_gone (sym there)))

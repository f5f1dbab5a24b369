-- A leaf put under an index that is free, and its index at an address that has none: what the
-- model then is through the map.
use Rattle.std.specs.Prelude.{◌≡◌, ℕ, IsSome, Option, Some, None, option_and_then, refl}
use Rattle.std.specs.FinMap as finite
use Rattle.std.specs.FinMap.{FinMap}
use Rattle.std.specs.Option.{option_map}
use Rattle.std.specs.Ordering.{nat_cmp}
use Rattle.std.proofs.Common.{sym, ◌∙◌, ap, subst}
use Rattle.std.proofs.lemmas.Option.{none-some, same_Some}
use Rattle.address_map.specs.Places.{Indices}
use Rattle.aff_core.specs.Address.{Address, address_total, exact_addresses}
use Rattle.aff_core.specs.KeyOrder.{address_order, same_or_other}
use Rattle.leaf_model.specs.ReadThrough.{by_address}
use Rattle.map_laws.specs.OptionLaws.{none_mapped, not_some, some_is}
use Rattle.std_form.specs.NameLaws.{index_order}
use Rattle.std_form.specs.Readable.{NamesExactly}
use Rattle.std_form.specs.ThroughLaws.{get_through}
use Rattle.leaf_update.specs.SplicedLaws.{get_past, get_put}

module _ {X : Type 0} (indices : Indices) (leaves : FinMap nat_cmp X)
    (exact : NamesExactly indices leaves) where
  -- where nothing is read, no index stands
  pub absent_index : {Y : Type 0} (read : X → Y) (at : Address)
      → finite.get (by_address read indices leaves) at ≡ None → finite.get indices at ≡ None
  absent_index read at h = by (finite.get indices at) refl
    where
      by : (o : Option ℕ) → finite.get indices at ≡ o → o ≡ None
      by None e = refl
      by (Some i) e =
          absurd (not_some (finite.get leaves i)
          (none_mapped read (finite.get leaves i)
          (sym (get_through leaves read indices at
          ∙ ap (option_and_then (λ j. option_map read (finite.get leaves j))) e) ∙ h))
          (exact.used at i e))

  module _ (at : Address) (i : ℕ) (x : X) (absent : finite.get indices at ≡ None)
      (unused : finite.get leaves i ≡ None) where
    still : (j : ℕ) → IsSome (finite.get leaves j) → finite.get (finite.insert leaves i x) j
        ≡ finite.get leaves j
    still j h =
        get_past index_order leaves i x j (λ s. not_some (finite.get leaves i) unused
        (subst (λ k. IsSome (finite.get leaves k)) s h))

    used : (q : Address) (j : ℕ) → finite.get (finite.insert indices at i) q ≡ Some j
        → IsSome (finite.get (finite.insert leaves i x) j)
    used q j e = same_or_other address_order _ q at here there
      where
        here : q ≡ at → IsSome (finite.get (finite.insert leaves i x) j)
        here s =
            let index : i ≡ j = same_Some i j (sym (get_put address_order indices at i) ∙ ap
            (finite.get (finite.insert indices at i)) (sym s) ∙ e) in
            subst (λ k. IsSome (finite.get (finite.insert leaves i x) k)) index
            (some_is (finite.get (finite.insert leaves i x) i) x
            (get_put index_order leaves i x))

        there : ¬ (q ≡ at) → IsSome (finite.get (finite.insert leaves i x) j)
        there n =
            let old : IsSome (finite.get leaves j) =
            exact.used q j (sym (get_past address_order indices at i q n) ∙ e) in
            subst IsSome (sym (still j old)) old

    named : (j : ℕ) → IsSome (finite.get (finite.insert leaves i x) j)
        → (q : Address) × (finite.get (finite.insert indices at i) q ≡ Some j)
    named j h = same_or_other index_order _ j i here there
      where
        here : j ≡ i → (q : Address) × (finite.get (finite.insert indices at i) q ≡ Some j)
        here s = (at, get_put address_order indices at i ∙ ap Some (sym s))

        there : ¬ (j ≡ i) → (q : Address) × (finite.get (finite.insert indices at i) q ≡ Some j)
        there n =
            let old : (q : Address) × (finite.get indices q ≡ Some j) =
            exact.named j (subst IsSome (get_past index_order leaves i x j n) h) in (
              old.0,
              get_past address_order indices at i old.0
                  (λ s. none-some j (sym absent ∙ ap (finite.get indices) (sym s) ∙ old.1)) ∙ old.1,
            )

    pub exact_more : NamesExactly (finite.insert indices at i) (finite.insert leaves i x)
    exact_more = record { used = used; named = named }

    -- the leaf is read at its address, and all else as before
    pub through_more : {Y : Type 0} (read : X → Y) → by_address read (finite.insert indices at i)
        (finite.insert leaves i x) ≡ finite.insert (by_address read indices leaves) at (read x)
    through_more {Y} read = finite.same_map address_total exact_addresses _ _ each
      where
        each : (q : Address) → finite.get (by_address read (finite.insert indices at i)
            (finite.insert leaves i x)) q
            ≡ finite.get (finite.insert (by_address read indices leaves) at (read x)) q
        each q =
            get_through (finite.insert leaves i x) read (finite.insert indices at i) q
            ∙ same_or_other address_order _ q at here there
          where
            here : q ≡ at → option_and_then (λ j. option_map read
                (finite.get (finite.insert leaves i x) j))
                (finite.get (finite.insert indices at i) q)
                ≡ finite.get (finite.insert (by_address read indices leaves) at (read x)) q
            here s =
                ap (λ r. option_and_then (λ j. option_map read
                (finite.get (finite.insert leaves i x) j))
                (finite.get (finite.insert indices at i) r)) s
                ∙ ap (option_and_then (λ j. option_map read (finite.get (finite.insert leaves i x)
                j))) (get_put address_order indices at i)
                ∙ ap (option_map read) (get_put index_order leaves i x)
                ∙ sym (ap (finite.get (finite.insert (by_address read indices leaves) at (read x)))
                s
                ∙ get_put address_order (by_address read indices leaves) at (read x))

            same : (o : Option ℕ) → finite.get indices q ≡ o
                → option_and_then (λ j. option_map read (finite.get (finite.insert leaves i x) j)) o
                ≡ option_and_then (λ j. option_map read (finite.get leaves j)) o
            same None e = refl
            same (Some j) e = ap (option_map read) (still j (exact.used q j e))

            there : ¬ (q ≡ at)
                → option_and_then (λ j. option_map read (finite.get (finite.insert leaves i x) j))
                (finite.get (finite.insert indices at i) q)
                ≡ finite.get (finite.insert (by_address read indices leaves) at (read x)) q
            there n =
                ap (option_and_then (λ j. option_map read (finite.get (finite.insert leaves i x)
                j))) (get_past address_order indices at i q n)
                ∙ same (finite.get indices q) refl
                ∙ sym (get_through leaves read indices q)
                ∙ sym (get_past address_order (by_address read indices leaves) at (read x) q n)

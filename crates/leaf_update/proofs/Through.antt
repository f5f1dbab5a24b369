-- A leaf changed under its index, and one taken out with its address: what the model then is
-- through the map.
use Rattle.std.specs.Prelude.{◌≡◌, ℕ, IsSome, Option, Some, None, option_and_then, refl}
use Rattle.std.specs.FinMap as finite
use Rattle.std.specs.FinMap.{FinMap}
use Rattle.std.specs.Option.{option_map}
use Rattle.std.specs.Ordering.{nat_cmp}
use Rattle.std.proofs.Common.{sym, ◌∙◌, ap, subst}
use Rattle.std.proofs.lemmas.Option.{none-some, same_Some}
use Rattle.address_map.specs.Places.{AreIndicesOneToOne, Indices}
use Rattle.aff_core.specs.Address.{Address, address_total, exact_addresses}
use Rattle.aff_core.specs.KeyOrder.{address_order, same_or_other}
use Rattle.leaf_model.specs.ReadThrough.{by_address}
use Rattle.map_laws.specs.OptionLaws.{not_some, some_is}
use Rattle.std_form.specs.NameLaws.{index_order}
use Rattle.std_form.specs.Readable.{NamesExactly}
use Rattle.std_form.specs.ThroughLaws.{get_through}
use Rattle.leaf_update.specs.SplicedLaws.{get_beside, get_gone, get_past, get_put}

module _ {X : Type 0} (indices : Indices) (leaves : FinMap nat_cmp X)
    (exact : NamesExactly indices leaves) (one : AreIndicesOneToOne indices)
    (at : Address) (i : ℕ) (here : finite.get indices at ≡ Some i) where
  -- ---- changed

  pub exact_changed : (x : X) → NamesExactly indices (finite.insert leaves i x)
  exact_changed x = record {
    used = λ q j e. same_or_other index_order _ j i
        (λ s. some_is _ x (ap (finite.get (finite.insert leaves i x)) s
        ∙ get_put index_order leaves i x))
        (λ n. subst IsSome (sym (get_past index_order leaves i x j n)) (exact.used q j e));
    named = λ j h. same_or_other index_order _ j i
        (λ s. (at, here ∙ ap Some (sym s)))
        (λ n. exact.named j (subst IsSome (get_past index_order leaves i x j n) h));
  }

  pub through_changed : {Y : Type 0} (read : X → Y) (x : X)
      → by_address read indices (finite.insert leaves i x)
      ≡ finite.insert (by_address read indices leaves) at (read x)
  through_changed {Y} read x = finite.same_map address_total exact_addresses _ _ each
    where
      each : (q : Address) → finite.get (by_address read indices (finite.insert leaves i x)) q
          ≡ finite.get (finite.insert (by_address read indices leaves) at (read x)) q
      each q =
          get_through (finite.insert leaves i x) read indices q
          ∙ same_or_other address_order _ q at equal other
        where
          found : Option ℕ → Option Y
          found = option_and_then (λ j. option_map read (finite.get (finite.insert leaves i x) j))

          equal : q ≡ at → found (finite.get indices q)
              ≡ finite.get (finite.insert (by_address read indices leaves) at (read x)) q
          equal s =
              ap found (ap (finite.get indices) s ∙ here)
              ∙ ap (option_map read) (get_put index_order leaves i x)
              ∙ sym (ap (finite.get (finite.insert (by_address read indices leaves) at (read x))) s
              ∙ get_put address_order (by_address read indices leaves) at (read x))

          still : (o : Option ℕ) → finite.get indices q ≡ o → ¬ (q ≡ at)
              → found o ≡ option_and_then (λ j. option_map read (finite.get leaves j)) o
          still None e n = refl
          still (Some j) e n =
              ap (option_map read) (get_past index_order leaves i x j
              (λ s. n (one q at i (e ∙ ap Some s) here)))

          other : ¬ (q ≡ at) → found (finite.get indices q)
              ≡ finite.get (finite.insert (by_address read indices leaves) at (read x)) q
          other n =
              still (finite.get indices q) refl n
              ∙ sym (get_through leaves read indices q)
              ∙ sym (get_past address_order (by_address read indices leaves) at (read x) q n)

  -- ---- taken out

  pub one_removed : AreIndicesOneToOne (finite.remove indices at)
  one_removed p q j e f = one p q j (kept p j e) (kept q j f)
    where
      kept : (p : Address) (j : ℕ) → finite.get (finite.remove indices at) p ≡ Some j
          → finite.get indices p ≡ Some j
      kept p j e =
          same_or_other address_order _ p at
          (λ s. absurd (none-some j (sym (ap (finite.get (finite.remove indices at)) s
          ∙ get_gone address_order indices at) ∙ e)))
          (λ n. sym (get_beside address_order indices at p n) ∙ e)

  pub exact_removed : NamesExactly (finite.remove indices at) (finite.remove leaves i)
  exact_removed = record {
    used = λ q j e. same_or_other address_order _ q at
        (λ s. absurd (none-some j (sym (ap (finite.get (finite.remove indices at)) s
        ∙ get_gone address_order indices at) ∙ e)))
        (λ n.
        let was : finite.get indices q ≡ Some j = sym (get_beside address_order indices at q n) ∙ e
        in
        subst IsSome (sym (get_beside index_order leaves i j
        (λ s. n (one q at i (was ∙ ap Some s) here)))) (exact.used q j was));
    named = λ j h. same_or_other index_order _ j i
        (λ s. absurd (not_some (finite.get (finite.remove leaves i) j)
        (ap (finite.get (finite.remove leaves i)) s ∙ get_gone index_order leaves i) h))
        (λ n.
        let was = exact.named j (subst IsSome (get_beside index_order leaves i j n) h) in (
          was.0,
          get_beside address_order indices at was.0
              (λ s. n (same_Some j i (sym was.1 ∙ ap (finite.get indices) s ∙ here))) ∙ was.1,
        ));
  }

  pub through_removed : {Y : Type 0} (read : X → Y)
      → by_address read (finite.remove indices at) (finite.remove leaves i)
      ≡ finite.remove (by_address read indices leaves) at
  through_removed {Y} read = finite.same_map address_total exact_addresses _ _ each
    where
      each : (q : Address)
          → finite.get (by_address read (finite.remove indices at) (finite.remove leaves i)) q
          ≡ finite.get (finite.remove (by_address read indices leaves) at) q
      each q =
          get_through (finite.remove leaves i) read (finite.remove indices at) q
          ∙ same_or_other address_order _ q at equal other
        where
          found : Option ℕ → Option Y
          found = option_and_then (λ j. option_map read (finite.get (finite.remove leaves i) j))

          equal : q ≡ at → found (finite.get (finite.remove indices at) q)
              ≡ finite.get (finite.remove (by_address read indices leaves) at) q
          equal s =
              ap found (ap (finite.get (finite.remove indices at)) s
              ∙ get_gone address_order indices at)
              ∙ sym (ap (finite.get (finite.remove (by_address read indices leaves) at)) s
              ∙ get_gone address_order (by_address read indices leaves) at)

          still : (o : Option ℕ) → finite.get indices q ≡ o → ¬ (q ≡ at)
              → found o ≡ option_and_then (λ j. option_map read (finite.get leaves j)) o
          still None e n = refl
          still (Some j) e n =
              ap (option_map read) (get_beside index_order leaves i j
              (λ s. n (one q at i (e ∙ ap Some s) here)))

          other : ¬ (q ≡ at) → found (finite.get (finite.remove indices at) q)
              ≡ finite.get (finite.remove (by_address read indices leaves) at) q
          other n =
              ap found (get_beside address_order indices at q n)
              ∙ still (finite.get indices q) refl n
              ∙ sym (get_through leaves read indices q)
              ∙ sym (get_beside address_order (by_address read indices leaves) at q n)

-- ---- read otherwise, and alike at each index in use

module _ {X Y : Type 0} (indices : Indices) (leaves : FinMap nat_cmp X) where
  pub through_alike : (read other : X → Y)
      → ((i : ℕ) (x : X) → finite.get leaves i ≡ Some x → read x ≡ other x)
      → by_address read indices leaves ≡ by_address other indices leaves
  through_alike read other h =
      finite.same_map address_total exact_addresses _ _ (λ q.
      get_through leaves read indices q
      ∙ each (finite.get indices q)
      ∙ sym (get_through leaves other indices q))
    where
      at_index : (i : ℕ) (o : Option X) → finite.get leaves i ≡ o
          → option_map read o ≡ option_map other o
      at_index i None e = refl
      at_index i (Some x) e = ap Some (h i x e)

      each : (o : Option ℕ)
          → option_and_then (λ j. option_map read (finite.get leaves j)) o
          ≡ option_and_then (λ j. option_map other (finite.get leaves j)) o
      each None = refl
      each (Some i) = at_index i (finite.get leaves i) refl

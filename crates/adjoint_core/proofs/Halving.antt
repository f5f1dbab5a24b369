-- As many sums of the first variables as fit, found by halves.
use Rattle.std.specs.Prelude.{◌≡◌, ◌+◌, ◌<◌, ◌≤◌, ℕ, List, [], ◌∷◌, All, Some, length, map, slice_get, take, refl}
use Rattle.std.specs.Option.{option_map}
use Rattle.std.proofs.Common.{arith, ap, get_or, subst, sym, ◌∙◌}
use Rattle.std.proofs.lemmas.List.{take_all}
use Rattle.std.proofs.lemmas.List.Elements.{All-get_or, All-more, All-nil}
use Rattle.std.proofs.lemmas.Option.{get_or_from_slice_get, same_Some, slice_get-map, slice_get_read, slice_get_within}
use Rattle.map_laws.specs.PlaceLaws.{taken_at}
use Rattle.adjoint_core.specs.Prefix.{IsAsFarAs}

module _ {X Y : Type 0} (P : X → Type 0) (f : X → Y) (xs : List X) where
  -- the sums so far fit, and not all before an end do
  pub record Between (made : List Y) (end : ℕ) : Type 0 where
    pub fits : All P (take (length made) xs)
    pub values : made ≡ map f (take (length made) xs)
    pub before : length made < end
    pub within : end ≤ length xs
    pub unfit : ¬ (All P (take end xs))

  pub between_start : ¬ (All P xs) → Between [] (length xs)
  between_start n = record {
    fits = All-nil P;
    values = refl;
    before = some xs n;
    within = omega arith;
    unfit = λ all. n (subst (All P) (take_all (length xs) xs (omega arith)) all);
  }
    where
      some : (ys : List X) → ¬ (All P ys) → 0 < length ys
      some [] h = absurd (h (All-nil P))
      some (y ∷ ys) h = omega arith

  pub between_begin : (made : List Y) (end : ℕ) → made ≡ [] → end ≡ length xs → ¬ (All P xs)
      → Between made end
  between_begin made end none whole n =
      subst (λ e. Between made e) (sym whole)
      (subst (λ l. Between l (length xs)) (sym none) (between_start n))

  pub between_end : (made : List Y) (end : ℕ) → Between made end → end ≤ length made + 1
      → IsAsFarAs P f xs made
  between_end made end h le = record {
    fits = h.fits;
    values = h.values;
    stops = λ x there p.
        let last : end ≡ length made + 1 = omega (arith, le, h.before) in
        h.unfit (subst (λ n. All P (take n xs)) (sym last)
        (All-more P xs (length made) x (slice_get_within xs (length made) x there) h.fits
        (subst P (sym (get_or_from_slice_get xs (length made) x x there)) p)));
  }

  -- ---- what is read of them

  -- the sum of a variable that is there
  pub far_there : (made : List Y) (i : ℕ) (x : X) (y : Y) → IsAsFarAs P f xs made
      → i < length made → y ≡ get_or made i y → x ≡ get_or xs i x → i < length xs → P x × (y ≡ f x)
  far_there made i x y far below there here lt =
      let us = take (length made) xs in
      let at : slice_get us i ≡ Some x =
      taken_at (length made) i x xs below (slice_get_read xs (length xs) i x refl lt here) in (
        subst P (get_or_from_slice_get us i x x at)
            (All-get_or P us i x (slice_get_within us i x at) far.fits),
        same_Some y (f x) (sym (slice_get_read made (length made) i y refl below there)
            ∙ ap (λ l. slice_get l i) far.values ∙ slice_get-map f us i ∙ ap (option_map f) at),
      )

  -- the first item that has no result doesn't fit
  pub far_gone : (made : List Y) (i : ℕ) (x : X) → IsAsFarAs P f xs made
      → length made ≤ i → i ≤ length made → x ≡ get_or xs i x → i < length xs → ¬ (P x)
  far_gone made i x far past le here lt =
      let last : i ≡ length made = omega (arith, le, past) in
      far.stops x (subst (λ n. slice_get xs n ≡ Some x) last
      (slice_get_read xs (length xs) i x refl lt here))

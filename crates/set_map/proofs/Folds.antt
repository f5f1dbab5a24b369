-- A loop over two lists side by side that adds one step after another, each of which must fit: what is
-- left, from the sum so far, is as all of it is.
use Rattle.std.specs.Prelude.{◌≡◌, ℕ, ◌+◌, ◌≤◌, List, [], ◌∷◌, length, refl}
use Rattle.std.proofs.Common.{sym, ◌∙◌, ap, ap₂, drop, subst}
use Rattle.std.proofs.Math.ListN.{drop_of_length-le}
use Rattle.ratio_core.specs.Rational.{Rational, zero_ℚ, ◌+ℚ◌, ◌*ℚ◌}
use Rattle.rational_laws.specs.Dot.{dot}
use Rattle.rational_laws.specs.Field.{+ℚ-zero, +ℚ_assoc, zero-+ℚ}
use Rattle.aff_core.specs.Arithmetic.{scaled, sum_of}
use Rattle.aff_core.specs.Function.{Function, constant_function}
use Rattle.aff_core.specs.Terms.{StepFits}
use Rattle.set_map.specs.Combinations.{combined_from}
use Rattle.set_map.specs.Fitting.{CombinationFits, DotFits, MultipleAdds}

-- a fold over two lists: its step, what must fit of a step, its result and what must fit of it
pub record IsFold {S A B : Type 0} (step : S → A → B → S) (Ok : S → A → B → Type 0)
    (whole : S → List A → List B → S) (Fit : S → List A → List B → Type 0) : Type 0 where
  pub more : (s : S) (a : A) (b : B) (xs : List A) (ys : List B)
      → whole s (a ∷ xs) (b ∷ ys) ≡ whole (step s a b) xs ys
  pub fits : (s : S) (a : A) (b : B) (xs : List A) (ys : List B)
      → Ok s a b → Fit (step s a b) xs ys → Fit s (a ∷ xs) (b ∷ ys)
  pub first : (s : S) (a : A) (b : B) (xs : List A) (ys : List B)
      → Fit s (a ∷ xs) (b ∷ ys) → Ok s a b
  pub others : (s : S) (a : A) (b : B) (xs : List A) (ys : List B)
      → Fit s (a ∷ xs) (b ∷ ys) → Fit (step s a b) xs ys
  pub none : (s : S) (ys : List B) → whole s [] ys ≡ s
  pub none_fits : (s : S) (ys : List B) → Fit s [] ys

module _ {S A B : Type 0} (step : S → A → B → S) (Ok : S → A → B → Type 0)
    (whole : S → List A → List B → S) (Fit : S → List A → List B → Type 0) where
  pub record IsAsAll (start : S) (xs : List A) (ys : List B) (i : ℕ) (s : S) : Type 0 where
    pub value : whole s (drop i xs) (drop i ys) ≡ whole start xs ys
    pub fits : Fit s (drop i xs) (drop i ys) → Fit start xs ys
    pub only : Fit start xs ys → Fit s (drop i xs) (drop i ys)

  pub as_all-start : (start : S) (xs : List A) (ys : List B) → IsAsAll start xs ys 0 start
  as_all-start start xs ys = record { value = refl; fits = λ h. h; only = λ h. h }

  module _ (f : IsFold step Ok whole Fit) (start : S) (xs : List A) (ys : List B) (i : ℕ) (s : S)
      (h : IsAsAll start xs ys i s) where
    pub as_all-end : drop i xs ≡ [] → Fit start xs ys × (s ≡ whole start xs ys)
    as_all-end none = (
      h.fits (subst (λ l. Fit s l (drop i ys)) (sym none) (f.none_fits s (drop i ys))),
      sym (f.none s (drop i ys)) ∙ ap (λ l. whole s l (drop i ys)) (sym none) ∙ h.value,
    )

    module _ (a : A) (b : B) (x : drop i xs ≡ a ∷ drop (i + 1) xs)
        (y : drop i ys ≡ b ∷ drop (i + 1) ys) where
      pub as_all-refused : Fit start xs ys → Ok s a b
      as_all-refused all =
          f.first s a b (drop (i + 1) xs) (drop (i + 1) ys)
          (subst (λ l. Fit s l (b ∷ drop (i + 1) ys)) x
          (subst (λ l. Fit s (drop i xs) l) y (h.only all)))

      pub as_all-step : (next : S) → Ok s a b → next ≡ step s a b
          → IsAsAll start xs ys (i + 1) next
      as_all-step next ok is = subst (IsAsAll start xs ys (i + 1)) (sym is) (record {
        value =
            sym (f.more s a b (drop (i + 1) xs) (drop (i + 1) ys))
            ∙ ap₂ (whole s) (sym x) (sym y) ∙ h.value;
        fits = λ rest. h.fits (subst (λ l. Fit s l (drop i ys)) (sym x)
            (subst (λ l. Fit s (a ∷ drop (i + 1) xs) l) (sym y)
            (f.fits s a b (drop (i + 1) xs) (drop (i + 1) ys) ok rest)));
        only = λ all. f.others s a b (drop (i + 1) xs) (drop (i + 1) ys)
            (subst (λ l. Fit s l (b ∷ drop (i + 1) ys)) x
            (subst (λ l. Fit s (drop i xs) l) y (h.only all)));
      })

-- ---- products of numbers

abbrev pub plus_product : Rational → Rational → Rational → Rational
plus_product s p q = s +ℚ p *ℚ q

abbrev pub plus_dot : Rational → List Rational → List Rational → Rational
plus_dot s w v = s +ℚ dot w v

pub dot_fold : IsFold plus_product StepFits plus_dot DotFits
unfolding DotFits
dot_fold = record {
  more = λ s p q w v. sym (+ℚ_assoc s (p *ℚ q) (dot w v));
  fits = λ s p q w v step rest. (step, rest);
  first = λ s p q w v h. h.0;
  others = λ s p q w v h. h.1;
  none = λ s v. +ℚ-zero s;
  none_fits = λ s v. tt;
}

abbrev pub DotSoFar : List Rational → List Rational → ℕ → Rational → Type 0
DotSoFar w v i s = IsAsAll plus_product StepFits plus_dot DotFits zero_ℚ w v i s

pub dot_whole : (w v : List Rational) (q : Rational) → q ≡ plus_dot zero_ℚ w v → q ≡ dot w v
dot_whole w v q e = e ∙ zero-+ℚ (dot w v)

-- ---- multiples of functions

abbrev pub plus_multiple : Function → Rational → Function → Function
plus_multiple s q f = sum_of s (scaled q f)

pub combined_fold : IsFold plus_multiple MultipleAdds combined_from CombinationFits
unfolding combined_from CombinationFits
combined_fold = record {
  more = λ s q f w fs. refl;
  fits = λ s q f w fs step rest. (step, rest);
  first = λ s q f w fs h. h.0;
  others = λ s q f w fs h. h.1;
  none = λ s fs. refl;
  none_fits = λ s fs. tt;
}

abbrev pub CombinedSoFar : List Rational → List Function → ℕ → Function → Type 0
CombinedSoFar w fs i s =
    IsAsAll plus_multiple MultipleAdds combined_from CombinationFits
    (constant_function zero_ℚ) w fs i s

-- the weights end with the functions
pub weights_end : (w : List Rational) (fs : List Function) (i : ℕ) → length w ≡ length fs
    → length fs ≤ i → drop i w ≡ []
weights_end w fs i e h = drop_of_length-le w (subst (λ n. n ≤ i) (sym e) h)

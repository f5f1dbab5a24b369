-- Numbers at equal places of two lists, one place after another.
use Rattle.std.specs.Prelude.{◌≡◌, ℕ, ◌+◌, ◌<◌, ◌≤◌, ◌⊎◌, List, [], ◌∷◌, ◌++◌, drop, length, refl}
use Rattle.std.proofs.Common.{sym, ◌∙◌, ap, ap₂, arith, get_or, inl, inr, subst}
use Rattle.std.proofs.Math.ListN.{drop_of_length-le}
use Rattle.std.proofs.lemmas.List.{append-nil, append_assoc, drop_more}
use Rattle.ratio_core.specs.Rational.{Rational, Fits, SumFits, neg_ℚ, ◌*ℚ◌, ◌-ℚ◌}
use Rattle.rational_laws.specs.Dot.{minus, times}
use Rattle.dualization.specs.Fitting.{EachDifferenceFits, MultipleFits}

minus-nil : (ps : List Rational) → minus ps [] ≡ []
minus-nil [] = refl
minus-nil (p ∷ ps) = refl

differences-nil : (ps : List Rational) → EachDifferenceFits ps []
differences-nil [] = tt
differences-nil (p ∷ ps) = tt

-- past what both have
pub reached : (a b n i : ℕ) → n ≤ i → (a ≤ n) ⊎ (b ≤ n) → (a ≤ i) ⊎ (b ≤ i)
reached a b n i h (inl k) = inl (omega (arith, h, k))
reached a b n i h (inr k) = inr (omega (arith, h, k))

-- ---- differences

pub record DifferencesSoFar (first second : List Rational) (i : ℕ)
    (old made : List Rational) : Type 0 where
  pub whole : made ++ minus (drop i first) (drop i second) ≡ old ++ minus first second
  pub fit : EachDifferenceFits (drop i first) (drop i second) → EachDifferenceFits first second
  pub unfit : EachDifferenceFits first second → EachDifferenceFits (drop i first) (drop i second)

pub differences_none : (first second old : List Rational) → DifferencesSoFar first second 0 old old
differences_none first second old = record { whole = refl; fit = λ h. h; unfit = λ h. h }

module _ (first second : List Rational) (i : ℕ) (old made : List Rational) (p q : Rational)
    (lt : i < length first) (le : i < length second)
    (p_is : p ≡ get_or first i p) (q_is : q ≡ get_or second i q)
    (so : DifferencesSoFar first second i old made) where
  first_split : drop i first ≡ p ∷ drop (i + 1) first
  first_split = drop_more first i p lt ∙ ap (λ x. x ∷ drop (i + 1) first) (sym p_is)

  second_split : drop i second ≡ q ∷ drop (i + 1) second
  second_split = drop_more second i q le ∙ ap (λ x. x ∷ drop (i + 1) second) (sym q_is)

  pub difference_unfit : ¬ (SumFits p (neg_ℚ q)) → ¬ (EachDifferenceFits first second)
  difference_unfit n h =
      n (subst (λ xs. EachDifferenceFits xs (q ∷ drop (i + 1) second)) first_split
      (subst (EachDifferenceFits (drop i first)) second_split (so.unfit h))).0

  pub difference_made : (d : Rational) (new : List Rational) → SumFits p (neg_ℚ q) → d ≡ p -ℚ q
      → new ≡ made ++ d ∷ [] → DifferencesSoFar first second (i + 1) old new
  difference_made d new fits d_is new_is = record {
    whole =
        ap (λ xs. xs ++ minus (drop (i + 1) first) (drop (i + 1) second)) new_is
        ∙ append_assoc made (d ∷ []) (minus (drop (i + 1) first) (drop (i + 1) second))
        ∙ ap (λ x. made ++ x ∷ minus (drop (i + 1) first) (drop (i + 1) second)) d_is
        ∙ ap (λ xs. made ++ xs) (sym (ap₂ minus first_split second_split))
        ∙ so.whole;
    fit = λ h. so.fit (subst (λ xs. EachDifferenceFits xs (drop i second)) (sym first_split)
        (subst (EachDifferenceFits (p ∷ drop (i + 1) first)) (sym second_split) (fits, h)));
    unfit = λ h. (subst (λ xs. EachDifferenceFits xs (q ∷ drop (i + 1) second)) first_split
        (subst (EachDifferenceFits (drop i first)) second_split (so.unfit h))).1;
  }

pub differences_all : (first second : List Rational) (i : ℕ) (old made : List Rational)
    → (length first ≤ i) ⊎ (length second ≤ i) → DifferencesSoFar first second i old made
    → EachDifferenceFits first second × (made ≡ old ++ minus first second)
differences_all first second i old made (inl le) so =
    let none : drop i first ≡ [] = drop_of_length-le first le in (
      so.fit (subst (λ xs. EachDifferenceFits xs (drop i second)) (sym none) tt),
      sym (append-nil made) ∙ ap (λ xs. made ++ minus xs (drop i second)) (sym none) ∙ so.whole,
    )
differences_all first second i old made (inr le) so =
    let none : drop i second ≡ [] = drop_of_length-le second le in (
      so.fit (subst (EachDifferenceFits (drop i first)) (sym none) (differences-nil (drop i first))),
      sym (append-nil made)
          ∙ ap (λ xs. made ++ xs) (sym (minus-nil (drop i first)))
          ∙ ap (λ xs. made ++ minus (drop i first) xs) (sym none) ∙ so.whole,
    )

-- ---- less a multiple

abbrev less : Rational → List Rational → List Rational → List Rational
less u ps cs = minus ps (times u cs)

multiple-nil : (u : Rational) (ps : List Rational) → MultipleFits u ps []
multiple-nil u [] = tt
multiple-nil u (p ∷ ps) = tt

pub record MultipleSoFar (u : Rational) (ps cs : List Rational) (i : ℕ)
    (made : List Rational) : Type 0 where
  pub whole : made ++ less u (drop i ps) (drop i cs) ≡ less u ps cs
  pub fit : MultipleFits u (drop i ps) (drop i cs) → MultipleFits u ps cs
  pub unfit : MultipleFits u ps cs → MultipleFits u (drop i ps) (drop i cs)

pub multiple_none : (u : Rational) (ps cs made : List Rational) → made ≡ []
    → MultipleSoFar u ps cs 0 made
multiple_none u ps cs made e =
    record { whole = ap (λ xs. xs ++ less u ps cs) e; fit = λ h. h; unfit = λ h. h }

module _ (u : Rational) (ps cs : List Rational) (i : ℕ) (made : List Rational) (p c : Rational)
    (lt : i < length ps) (le : i < length cs)
    (p_is : p ≡ get_or ps i p) (c_is : c ≡ get_or cs i c)
    (so : MultipleSoFar u ps cs i made) where
  ps_split : drop i ps ≡ p ∷ drop (i + 1) ps
  ps_split = drop_more ps i p lt ∙ ap (λ x. x ∷ drop (i + 1) ps) (sym p_is)

  cs_split : drop i cs ≡ c ∷ drop (i + 1) cs
  cs_split = drop_more cs i c le ∙ ap (λ x. x ∷ drop (i + 1) cs) (sym c_is)

  next_fits : MultipleFits u ps cs
      → (Fits (u *ℚ c) × SumFits p (neg_ℚ (u *ℚ c))) × MultipleFits u (drop (i + 1) ps) (drop (i + 1) cs)
  next_fits h =
      subst (λ xs. MultipleFits u xs (c ∷ drop (i + 1) cs)) ps_split
      (subst (MultipleFits u (drop i ps)) cs_split (so.unfit h))

  pub product_unfit : ¬ (Fits (u *ℚ c)) → ¬ (MultipleFits u ps cs)
  product_unfit n h = n (next_fits h).0.0

  pub less_unfit : ¬ (SumFits p (neg_ℚ (u *ℚ c))) → ¬ (MultipleFits u ps cs)
  less_unfit n h = n (next_fits h).0.1

  pub multiple_made : (d : Rational) (new : List Rational) → Fits (u *ℚ c)
      → SumFits p (neg_ℚ (u *ℚ c)) → d ≡ p -ℚ u *ℚ c → new ≡ made ++ d ∷ []
      → MultipleSoFar u ps cs (i + 1) new
  multiple_made d new fits sum d_is new_is = record {
    whole =
        ap (λ xs. xs ++ less u (drop (i + 1) ps) (drop (i + 1) cs)) new_is
        ∙ append_assoc made (d ∷ []) (less u (drop (i + 1) ps) (drop (i + 1) cs))
        ∙ ap (λ x. made ++ x ∷ less u (drop (i + 1) ps) (drop (i + 1) cs)) d_is
        ∙ ap (λ xs. made ++ xs) (sym (ap₂ (less u) ps_split cs_split))
        ∙ so.whole;
    fit = λ h. so.fit (subst (λ xs. MultipleFits u xs (drop i cs)) (sym ps_split)
        (subst (MultipleFits u (p ∷ drop (i + 1) ps)) (sym cs_split) ((fits, sum), h)));
    unfit = λ h. (next_fits h).1;
  }

pub multiple_all : (u : Rational) (ps cs : List Rational) (i : ℕ) (made : List Rational)
    → (length ps ≤ i) ⊎ (length cs ≤ i) → MultipleSoFar u ps cs i made
    → MultipleFits u ps cs × (made ≡ less u ps cs)
multiple_all u ps cs i made (inl le) so =
    let none : drop i ps ≡ [] = drop_of_length-le ps le in (
      so.fit (subst (λ xs. MultipleFits u xs (drop i cs)) (sym none) tt),
      sym (append-nil made) ∙ ap (λ xs. made ++ less u xs (drop i cs)) (sym none) ∙ so.whole,
    )
multiple_all u ps cs i made (inr le) so =
    let none : drop i cs ≡ [] = drop_of_length-le cs le in (
      so.fit (subst (MultipleFits u (drop i ps)) (sym none) (multiple-nil u (drop i ps))),
      sym (append-nil made)
          ∙ ap (λ xs. made ++ xs) (sym (minus-nil (drop i ps)))
          ∙ ap (λ xs. made ++ less u (drop i ps) xs) (sym none) ∙ so.whole,
    )

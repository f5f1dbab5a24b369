-- Components of rows one by one: their values and their duals, by the set, and what all of them say
-- of the row.
use Rattle.std.specs.Prelude.{◌≡◌, Bool, true, false, List, [], ◌∷◌, Option, Some, None, All, length, map, refl}
use Rattle.std.proofs.Common.{sym, ◌∙◌, ap, arith, subst}
use Rattle.std.proofs.lemmas.Int.{ints}
use Rattle.std.proofs.lemmas.List.Elements.{All-head, All-weaker}
use Rattle.ratio_core.specs.Rational.{Rational, neg_ℚ, zero_ℚ, ◌*ℚ◌, ◌+ℚ◌, ◌-ℚ◌, ◌≤ℚ◌}
use Rattle.rational_laws.specs.Dot.{dot}
use Rattle.rational_laws.specs.DotLaws.{dot_map-neg_ℚ, dot_map_same}
use Rattle.rational_laws.specs.Field.{*ℚ-zero, neg_ℚ-zero, ring_ℚ, zero-+ℚ, +ℚ-zero}
use Rattle.rational_laws.specs.Linear.{as_scaled, linear₂, scaled_zero, scales}
use Rattle.rational_laws.specs.Ring.{as_expression, by_ring, ring₅}
use Rattle.set_core.specs.declared.set.Set.{Set}
use Rattle.set_core.specs.declared.set.Set.TheVariants.{LessThan, GreaterThan, EqualTo, Interval, Reals, Zeros, Nonnegatives, Nonpositives, NormInfinityCone, NormOneCone}
use Rattle.set_core.specs.Membership.{Dual, In, low_of}
use Rattle.set_core.specs.Mirrored.{multiplied}
use Rattle.set_core.specs.Shapes.{dimension_of}
use Rattle.set_core.specs.Vectors.{first_of}
use Rattle.equality_form.specs.Equations.{number_of, slack_of}
use Rattle.equality_form.specs.Native.{HasEquations}
use Rattle.equality_form.specs.SlackLaws.{MayAdd}

-- ---- values

-- the value of a component may be this, where its number is that
abbrev pub MeetsBound : Option Bool → Rational → Rational → Type 0
MeetsBound None number v = v ≡ number
MeetsBound (Some false) number v = v ≤ℚ number
MeetsBound (Some true) number v = number ≤ℚ v

moved : (one number constant slope s : Rational) → slope +ℚ s ≡ one *ℚ (number -ℚ constant)
    → one *ℚ constant +ℚ slope ≡ one *ℚ number -ℚ s
moved one number constant slope s e =
    apart one constant slope s ∙ ap (λ q. one *ℚ constant +ℚ (q -ℚ s)) e
    ∙ joined one number constant s (one *ℚ constant)
  where
    apart : (one constant slope s : Rational)
        → one *ℚ constant +ℚ slope ≡ one *ℚ constant +ℚ ((slope +ℚ s) -ℚ s)
    apart one constant slope s = simp ring_ℚ

    joined : (one number constant s k : Rational)
        → one *ℚ constant +ℚ (one *ℚ (number -ℚ constant) -ℚ s) ≡ one *ℚ number -ℚ s
    joined = ring₅ _ (λ ρ. simp as_expression (by_ring ρ _ _ refl))

meets_by : (o : Option Bool) (number s : Rational) → MayAdd o s → MeetsBound o number (number -ℚ s)
meets_by None number s h = ap (λ q. number -ℚ q) h ∙ ap (λ q. number +ℚ q) neg_ℚ-zero
    ∙ +ℚ-zero number
meets_by (Some false) number s h = less number s h
  where
    less : (p q : Rational) → zero_ℚ ≤ℚ q → (p -ℚ q) ≤ℚ p
    less = linear₂ _ (λ a b e h. simp as_scaled (omega
        (arith, ints, scales, simp (scaled_zero e) at h)))
meets_by (Some true) number s h = more number s h
  where
    more : (p q : Rational) → q ≤ℚ zero_ℚ → p ≤ℚ (p -ℚ q)
    more = linear₂ _ (λ a b e h. simp as_scaled (omega
        (arith, ints, scales, simp (scaled_zero e) at h)))

-- what a slack adds brings the value of the component to its number: at a point `one` is 1, and
-- along a ray it is 0
pub meets : (o : Option Bool) (one number constant slope s : Rational) → MayAdd o s
    → slope +ℚ s ≡ one *ℚ (number -ℚ constant)
    → MeetsBound o (one *ℚ number) (one *ℚ constant +ℚ slope)
meets o one number constant slope s h e =
    subst (MeetsBound o (one *ℚ number)) (sym (moved one number constant slope s e))
    (meets_by o (one *ℚ number) s h)

-- ---- rows

-- the values of the components of a row are in its set
pub in_set : (one : Rational) (set : Set) (vs : List Rational) → HasEquations set
    → dimension_of set ≡ length vs → All (MeetsBound (slack_of set) (one *ℚ number_of set)) vs
    → In (multiplied one set) vs
in_set one (LessThan u) [] h n k = absurd (omega (arith, n))
in_set one (LessThan u) (v ∷ vs) h n k = All-head (MeetsBound (Some false) (one *ℚ u)) v vs k
in_set one (GreaterThan l) [] h n k = absurd (omega (arith, n))
in_set one (GreaterThan l) (v ∷ vs) h n k = All-head (MeetsBound (Some true) (one *ℚ l)) v vs k
in_set one (EqualTo a) [] h n k = absurd (omega (arith, n))
in_set one (EqualTo a) (v ∷ vs) h n k = All-head (MeetsBound None (one *ℚ a)) v vs k
in_set one (Zeros n) vs h e k =
    All-weaker (MeetsBound None (one *ℚ zero_ℚ)) (λ q. q ≡ zero_ℚ) (λ q p. p ∙ *ℚ-zero one) vs k
in_set one (Nonnegatives n) vs h e k = All-weaker (MeetsBound (Some true) (one *ℚ zero_ℚ))
    (λ q. zero_ℚ ≤ℚ q) (λ q p. subst (λ z. z ≤ℚ q) (*ℚ-zero one) p) vs k
in_set one (Nonpositives n) vs h e k = All-weaker (MeetsBound (Some false) (one *ℚ zero_ℚ))
    (λ q. q ≤ℚ zero_ℚ) (λ q p. subst (λ z. q ≤ℚ z) (*ℚ-zero one) p) vs k
in_set one _ vs h e k = absurd h

-- ---- duals

-- the dual of a component may be this
abbrev pub MayWeigh : Option Bool → Rational → Type 0
MayWeigh None w = Unit {0}
MayWeigh (Some false) w = w ≤ℚ zero_ℚ
MayWeigh (Some true) w = zero_ℚ ≤ℚ w

-- the duals of the components of a row are in the dual of its set
pub in_dual : (set : Set) (ws : List Rational) → HasEquations set → dimension_of set ≡ length ws
    → All (MayWeigh (slack_of set)) ws → Dual set ws
in_dual (LessThan u) [] h n k = absurd (omega (arith, n))
in_dual (LessThan u) (w ∷ ws) h n k = All-head (MayWeigh (Some false)) w ws k
in_dual (GreaterThan l) [] h n k = absurd (omega (arith, n))
in_dual (GreaterThan l) (w ∷ ws) h n k = All-head (MayWeigh (Some true)) w ws k
in_dual (EqualTo a) ws h n k = tt
in_dual (Zeros n) ws h e k = tt
in_dual (Nonnegatives n) ws h e k = k
in_dual (Nonpositives n) ws h e k = k
in_dual _ vs h e k = absurd h

-- ---- gaps

module _ {X : Type 0} (constant : X → Rational) where
  of_one : (a w c : Rational) → a *ℚ w -ℚ (w *ℚ c +ℚ zero_ℚ) ≡ w *ℚ (a -ℚ c) +ℚ zero_ℚ
  of_one a w c = simp ring_ℚ

  of_scalar : (a : Rational) (ws : List Rational) (xs : List X) → 1 ≡ length xs
      → length ws ≡ length xs
      → a *ℚ first_of ws -ℚ dot ws (map constant xs) ≡ dot ws (map (λ x. a -ℚ constant x) xs)
  of_scalar a [] [] n e = absurd (omega (arith, n))
  of_scalar a [] (x ∷ xs) n e = absurd (omega (arith, e))
  of_scalar a (w ∷ []) [] n e = absurd (omega (arith, n))
  of_scalar a (w ∷ []) (x ∷ []) n e = of_one a w (constant x)
  of_scalar a (w ∷ []) (x ∷ y ∷ xs) n e = absurd (omega (arith, n))
  of_scalar a (w ∷ v ∷ ws) [] n e = absurd (omega (arith, n))
  of_scalar a (w ∷ v ∷ ws) (x ∷ xs) n e = absurd (omega (arith, n, e))

  of_vector : (ws : List Rational) (xs : List X)
      → zero_ℚ -ℚ dot ws (map constant xs) ≡ dot ws (map (λ x. zero_ℚ -ℚ constant x) xs)
  of_vector ws xs =
      zero-+ℚ (neg_ℚ (dot ws (map constant xs))) ∙ sym (dot_map-neg_ℚ ws constant xs)
      ∙ dot_map_same ws (λ x. neg_ℚ (constant x)) (λ x. zero_ℚ -ℚ constant x) xs
      (λ x. sym (zero-+ℚ (neg_ℚ (constant x))))

  -- the gap of a row is the sum of its components' duals times their right sides
  pub gap_by_components : (set : Set) (ws : List Rational) (xs : List X) → HasEquations set
      → dimension_of set ≡ length xs → length ws ≡ length xs
      → low_of set ws -ℚ dot ws (map constant xs)
      ≡ dot ws (map (λ x. number_of set -ℚ constant x) xs)
  gap_by_components (LessThan u) ws xs h n e = of_scalar u ws xs n e
  gap_by_components (GreaterThan l) ws xs h n e = of_scalar l ws xs n e
  gap_by_components (EqualTo a) ws xs h n e = of_scalar a ws xs n e
  gap_by_components (Zeros n) ws xs h k e = of_vector ws xs
  gap_by_components (Nonnegatives n) ws xs h k e = of_vector ws xs
  gap_by_components (Nonpositives n) ws xs h k e = of_vector ws xs
  gap_by_components (Interval l u) ws xs h n e = absurd h
  gap_by_components (Reals n) ws xs h k e = absurd h
  gap_by_components (NormInfinityCone n) ws xs h k e = absurd h
  gap_by_components (NormOneCone n) ws xs h k e = absurd h

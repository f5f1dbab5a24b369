-- What a pivot does to weighted sums, and to a matrix times a vector.
use Rattle.std.specs.Prelude.{◌≡◌, ℕ, ◌<◌, Bool, true, false, cond, nat_eq, refl}
use Rattle.std.proofs.Common.{sym, ◌∙◌, ap, ap₂, subst}
use Rattle.std.proofs.lemmas.Bool.{cond-true, eq-eqb, eqb-true}
use Rattle.ratio_core.specs.Rational.{Rational, inverse_ℚ, one_ℚ, zero_ℚ, ◌*ℚ◌, ◌+ℚ◌, ◌-ℚ◌}
use Rattle.rational_laws.specs.Field.{*ℚ-inverse_ℚ, *ℚ-one, *ℚ_assoc, *ℚ_comm}
use Rattle.rational_laws.specs.Ring.{as_expression, by_ring, one_as, ring₃, ring₄, ring₅, zero_as}
use Rattle.simplex_form.specs.Basis.{pivoted, times}
use Rattle.simplex_form.specs.BoundedSums.{delta, sum_to}
use Rattle.simplex_laws.specs.BoundedSumLaws.{delta_other, delta_same, same_or_other, sum_to-*ℚ, sum_to-*ℚ_right, sum_to-+ℚ, sum_to--ℚ, sum_to_delta, sum_to_exchanged, sum_to_same}

-- ---- the two kinds of row

pub pivoted_at : (r : ℕ) (e w : ℕ → Rational) → pivoted r e w r ≡ w r *ℚ inverse_ℚ (e r)
unfolding pivoted
pivoted_at r e w = cond-true (nat_eq r r) (w r *ℚ inverse_ℚ (e r))
    (w r -ℚ e r *ℚ (w r *ℚ inverse_ℚ (e r))) (eq-eqb r r refl)

pub pivoted_off : (r : ℕ) (e w : ℕ → Rational) (i : ℕ) → ¬ (i ≡ r)
    → pivoted r e w i ≡ w i -ℚ e i *ℚ (w r *ℚ inverse_ℚ (e r))
unfolding pivoted
pivoted_off r e w i n = by_test (nat_eq i r) refl
  where
    by_test : (b : Bool) → nat_eq i r ≡ b
        → cond b (w r *ℚ inverse_ℚ (e r)) (w i -ℚ e i *ℚ (w r *ℚ inverse_ℚ (e r)))
        ≡ w i -ℚ e i *ℚ (w r *ℚ inverse_ℚ (e r))
    by_test true h = absurd (n (eqb-true i r h))
    by_test false h = refl

-- a fact of the pivot's row and of each other
pub pivoted_each : (P : ℕ → Rational → Type 0) (r : ℕ) (e w : ℕ → Rational) (i : ℕ)
    → P r (w r *ℚ inverse_ℚ (e r))
    → (¬ (i ≡ r) → P i (w i -ℚ e i *ℚ (w r *ℚ inverse_ℚ (e r)))) → P i (pivoted r e w i)
pivoted_each P r e w i at off =
    same_or_other (P i (pivoted r e w i)) i r
    (λ q. subst (λ k. P k (pivoted r e w k)) (sym q) (subst (P r) (sym (pivoted_at r e w)) at))
    (λ n. subst (P i) (sym (pivoted_off r e w i n)) (off n))

-- it reads its row and the pivot's row alone
pub pivoted_same : (r : ℕ) (e w v : ℕ → Rational) (i : ℕ) → w i ≡ v i → w r ≡ v r
    → pivoted r e w i ≡ pivoted r e v i
pivoted_same r e w v i here at =
    pivoted_each (λ k x. x ≡ pivoted r e v k) r e w i
    (ap (λ x. x *ℚ inverse_ℚ (e r)) at ∙ sym (pivoted_at r e v))
    (λ n. ap₂ (λ x y. x -ℚ e i *ℚ (y *ℚ inverse_ℚ (e r))) here at ∙ sym (pivoted_off r e v i n))

-- the new number of the pivot's row, times the entry, is the old one
pub quotient_back : (e w : Rational) → ¬ (e ≡ zero_ℚ) → e *ℚ (w *ℚ inverse_ℚ e) ≡ w
quotient_back e w n =
    sym (*ℚ_assoc e w (inverse_ℚ e)) ∙ ap (λ x. x *ℚ inverse_ℚ e) (*ℚ_comm e w)
    ∙ *ℚ_assoc w e (inverse_ℚ e) ∙ ap (λ x. w *ℚ x) (*ℚ-inverse_ℚ e n) ∙ *ℚ-one w

-- ---- a weighted sum after the pivot

at_row : (g e s h w : Rational) → e *ℚ s ≡ w
    → h *ℚ s ≡ (g *ℚ w -ℚ (g *ℚ e) *ℚ s) +ℚ one_ℚ *ℚ (h *ℚ s)
at_row g e s h w k =
    subst (λ x. h *ℚ s ≡ (g *ℚ x -ℚ (g *ℚ e) *ℚ s) +ℚ one_ℚ *ℚ (h *ℚ s)) k
    (ring₄ (λ g e s h. h *ℚ s ≡ (g *ℚ (e *ℚ s) -ℚ (g *ℚ e) *ℚ s) +ℚ one_ℚ *ℚ (h *ℚ s))
    (λ ρ. simp (as_expression, one_as ρ) (by_ring ρ _ _ refl)) g e s h)

off_row : (g e s h w : Rational)
    → g *ℚ (w -ℚ e *ℚ s) ≡ (g *ℚ w -ℚ (g *ℚ e) *ℚ s) +ℚ zero_ℚ *ℚ (h *ℚ s)
off_row = ring₅ _ (λ ρ. simp (as_expression, zero_as ρ) (by_ring ρ _ _ refl))

gathered : (a b h s : Rational) → (a -ℚ b *ℚ s) +ℚ h *ℚ s ≡ a +ℚ (h -ℚ b) *ℚ s
gathered = ring₄ _ (λ ρ. simp as_expression (by_ring ρ _ _ refl))

-- the weights change at the pivot's row alone
pub pivot-weighted : (n r : ℕ) (e w g h : ℕ → Rational) → r < n → ¬ (e r ≡ zero_ℚ)
    → ((i : ℕ) → i < n → ¬ (i ≡ r) → h i ≡ g i)
    → sum_to n (λ i. h i *ℚ pivoted r e w i)
    ≡ sum_to n (λ i. g i *ℚ w i) +ℚ (h r -ℚ sum_to n (λ i. g i *ℚ e i)) *ℚ (w r *ℚ inverse_ℚ (e r))
pivot-weighted n r e w g h b k same =
    sum_to_same n (λ i. h i *ℚ pivoted r e w i) (λ i. kept i +ℚ added i) term
    ∙ sum_to-+ℚ n kept added
    ∙ ap₂ ◌+ℚ◌
    (sum_to--ℚ n (λ i. g i *ℚ w i) (λ i. (g i *ℚ e i) *ℚ step)
    ∙ ap (λ x. sum_to n (λ i. g i *ℚ w i) -ℚ x) (sum_to-*ℚ_right n step (λ i. g i *ℚ e i)))
    (sum_to_delta n r (λ _. h r *ℚ step) b)
    ∙ gathered (sum_to n (λ i. g i *ℚ w i)) (sum_to n (λ i. g i *ℚ e i)) (h r) step
  where
    step : Rational
    step = w r *ℚ inverse_ℚ (e r)

    kept : ℕ → Rational
    kept i = g i *ℚ w i -ℚ (g i *ℚ e i) *ℚ step

    added : ℕ → Rational
    added i = delta r i *ℚ (h r *ℚ step)

    term_at : h r *ℚ pivoted r e w r ≡ kept r +ℚ added r
    term_at =
        ap (λ x. h r *ℚ x) (pivoted_at r e w)
        ∙ at_row (g r) (e r) step (h r) (w r) (quotient_back (e r) (w r) k)
        ∙ ap (λ d. kept r +ℚ d *ℚ (h r *ℚ step)) (sym (delta_same r))

    term_off : (i : ℕ) → i < n → ¬ (i ≡ r) → h i *ℚ pivoted r e w i ≡ kept i +ℚ added i
    term_off i c m =
        ap₂ ◌*ℚ◌ (same i c m) (pivoted_off r e w i m) ∙ off_row (g i) (e i) step (h r) (w i)
        ∙ ap (λ d. kept i +ℚ d *ℚ (h r *ℚ step)) (sym (delta_other r i (λ q. m (sym q))))

    term : (i : ℕ) → i < n → h i *ℚ pivoted r e w i ≡ kept i +ℚ added i
    term i c = same_or_other _ i r (λ q. subst (λ j. h j *ℚ pivoted r e w j ≡ kept j +ℚ added j)
        (sym q) term_at) (term_off i c)

-- ---- a matrix times a vector after the pivot

row_divided : (a b c : Rational) → (a *ℚ c) *ℚ b ≡ (a *ℚ b) *ℚ c
row_divided = ring₃ _ (λ ρ. simp as_expression (by_ring ρ _ _ refl))

row_lowered : (a b c d v : Rational) → (a -ℚ b *ℚ (c *ℚ d)) *ℚ v ≡ a *ℚ v -ℚ (c *ℚ v) *ℚ (b *ℚ d)
row_lowered = ring₅ _ (λ ρ. simp as_expression (by_ring ρ _ _ refl))

regrouped : (a b c d : Rational) → a -ℚ c *ℚ (b *ℚ d) ≡ a -ℚ b *ℚ (c *ℚ d)
regrouped = ring₄ _ (λ ρ. simp as_expression (by_ring ρ _ _ refl))

pub times-pivoted : (n r : ℕ) (e : ℕ → Rational) (M : ℕ → ℕ → Rational) (v : ℕ → Rational) (i : ℕ)
    → times n (λ i k. pivoted r e (λ row. M row k) i) v i ≡ pivoted r e (times n M v) i
times-pivoted n r e M v i = same_or_other _ i r at off
  where
    at : i ≡ r → times n (λ i k. pivoted r e (λ row. M row k) i) v i ≡ pivoted r e (times n M v) i
    at q =
        subst (λ j. times n (λ i k. pivoted r e (λ row. M row k) i) v j
        ≡ pivoted r e (times n M v) j) (sym q)
        (sum_to_same n (λ k. pivoted r e (λ row. M row k) r *ℚ v k)
        (λ k. (M r k *ℚ v k)
        *ℚ inverse_ℚ (e r)) (λ k _. ap (λ x. x *ℚ v k) (pivoted_at r e (λ row. M row k))
        ∙ row_divided (M r k) (v k) (inverse_ℚ (e r)))
        ∙ sum_to-*ℚ_right n (inverse_ℚ (e r)) (λ k. M r k *ℚ v k)
        ∙ sym (pivoted_at r e (times n M v)))

    off : ¬ (i ≡ r)
        → times n (λ i k. pivoted r e (λ row. M row k) i) v i ≡ pivoted r e (times n M v) i
    off m =
        sum_to_same n (λ k. pivoted r e (λ row. M row k) i *ℚ v k)
        (λ k. M i k *ℚ v k -ℚ (M r k *ℚ v k) *ℚ (e i *ℚ inverse_ℚ (e r))) (λ k _.
        ap (λ x. x *ℚ v k) (pivoted_off r e (λ row. M row k) i m)
        ∙ row_lowered (M i k) (e i) (M r k) (inverse_ℚ (e r)) (v k))
        ∙ sum_to--ℚ n (λ k. M i k *ℚ v k) (λ k. (M r k *ℚ v k) *ℚ (e i *ℚ inverse_ℚ (e r)))
        ∙ ap (λ x. times n M v i
        -ℚ x) (sum_to-*ℚ_right n (e i *ℚ inverse_ℚ (e r)) (λ k. M r k *ℚ v k))
        ∙ regrouped (times n M v i) (e i) (times n M v r) (inverse_ℚ (e r))
        ∙ sym (pivoted_off r e (times n M v) i m)

-- ---- products of matrices

-- a row times a matrix times a column, from either side
pub products_regrouped : (m n : ℕ) (a : ℕ → Rational) (B : ℕ → ℕ → Rational) (c : ℕ → Rational)
    → sum_to m (λ i. a i *ℚ sum_to n (λ k. B i k *ℚ c k))
    ≡ sum_to n (λ k. sum_to m (λ i. a i *ℚ B i k) *ℚ c k)
products_regrouped m n a B c =
    sum_to_same m (λ i. a i *ℚ sum_to n (λ k. B i k *ℚ c k))
    (λ i. sum_to n (λ k. (a i *ℚ B i k) *ℚ c k)) (λ i _.
    sym (sum_to-*ℚ n (a i) (λ k. B i k *ℚ c k))
    ∙ sum_to_same n (λ k. a i *ℚ (B i k *ℚ c k)) (λ k. (a i *ℚ B i k) *ℚ c k)
    (λ k _. sym (*ℚ_assoc (a i) (B i k) (c k))))
    ∙ sum_to_exchanged m n (λ i k. (a i *ℚ B i k) *ℚ c k)
    ∙ sum_to_same n (λ k. sum_to m (λ i. (a i *ℚ B i k) *ℚ c k))
    (λ k. sum_to m (λ i. a i *ℚ B i k)
    *ℚ c k) (λ k _. sum_to-*ℚ_right m (c k) (λ i. a i *ℚ B i k))

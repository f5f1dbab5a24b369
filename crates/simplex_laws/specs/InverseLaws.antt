-- A pivot keeps the inverse, and a basis has one inverse.
use Rattle.std.specs.Prelude.{◌≡◌, ℕ, ◌<◌}
use Rattle.std.proofs.Common.{sym, ◌∙◌, ap, ap₂, subst}
use Rattle.ratio_core.specs.Rational.{Rational, inverse_ℚ, one_ℚ, zero_ℚ, ◌*ℚ◌, ◌+ℚ◌, ◌-ℚ◌}
use Rattle.rational_laws.specs.Field.{*ℚ-inverse_ℚ, *ℚ-one, +ℚ-neg_ℚ, +ℚ-zero, zero-*ℚ}
use Rattle.rational_laws.specs.Field.{ring_ℚ}
use Rattle.simplex_form.specs.Basis.{IsInverse, basic, pivoted, times}
use Rattle.simplex_form.specs.BoundedSums.{delta, sum_to}
use Rattle.simplex_form.specs.Form.{column}
use Rattle.simplex_form.specs.Trail.{next}
use Rattle.simplex_laws.specs.BoundedSumLaws.{delta_other, delta_same, same_or_other, sum_to_delta, sum_to_delta_right, sum_to_same}
use Rattle.simplex_laws.specs.PivotLaws.{pivot-weighted, pivoted_each, pivoted_off, pivoted_same, products_regrouped, times-pivoted}

-- ---- a column of the board becomes a unit vector

lowered_by_itself : (e c : Rational) → c ≡ one_ℚ → e -ℚ e *ℚ c ≡ zero_ℚ
lowered_by_itself e c h = ap (λ x. e -ℚ e *ℚ x) h ∙ ap (λ x. e -ℚ x) (*ℚ-one e) ∙ +ℚ-neg_ℚ e

lowered_by_zero : (d e s c : Rational) → s ≡ zero_ℚ → d -ℚ e *ℚ (s *ℚ c) ≡ d
lowered_by_zero d e s c h = ap (λ x. d -ℚ e *ℚ (x *ℚ c)) h ∙ zero_lem d e c
  where
    zero_lem : (d e c : Rational) → d -ℚ e *ℚ (zero_ℚ *ℚ c) ≡ d
    zero_lem d e c = simp ring_ℚ

pub pivoted_itself : (r : ℕ) (e : ℕ → Rational) (i : ℕ) → ¬ (e r ≡ zero_ℚ)
    → pivoted r e e i ≡ delta i r
pivoted_itself r e i n =
    pivoted_each (λ k x. x ≡ delta k r) r e e i (*ℚ-inverse_ℚ (e r) n ∙ sym (delta_same r))
    (λ m. lowered_by_itself (e i) (e r *ℚ inverse_ℚ (e r)) (*ℚ-inverse_ℚ (e r) n)
    ∙ sym (delta_other i r m))

-- where the pivot's row has 0, nothing changes
pub pivoted_zero : (r : ℕ) (e w : ℕ → Rational) (i : ℕ) → w r ≡ zero_ℚ → pivoted r e w i ≡ w i
pivoted_zero r e w i h =
    pivoted_each (λ k x. x ≡ w k) r e w i
    (ap (λ x. x *ℚ inverse_ℚ (e r)) h ∙ zero-*ℚ (inverse_ℚ (e r)) ∙ sym h)
    (λ _. lowered_by_zero (w i) (e i) (w r) (inverse_ℚ (e r)) h)

-- and where the entering column has 0, its row stays
pub pivoted_unmoved : (r : ℕ) (e w : ℕ → Rational) (i : ℕ) → ¬ (i ≡ r) → e i ≡ zero_ℚ
    → pivoted r e w i ≡ w i
pivoted_unmoved r e w i m h = pivoted_off r e w i m
    ∙ ap (λ x. w i -ℚ x *ℚ (w r *ℚ inverse_ℚ (e r))) h ∙ zero_lem (w i) (w r *ℚ inverse_ℚ (e r))
  where
    zero_lem : (d s : Rational) → d -ℚ zero_ℚ *ℚ s ≡ d
    zero_lem d s = simp ring_ℚ

-- ---- the inverse after a pivot

pub inverse_pivoted : (n : ℕ) (column : ℕ → ℕ → Rational) (basic next : ℕ → ℕ)
    (M : ℕ → ℕ → Rational) (r : ℕ) → r < n → ¬ (times n M (column (next r)) r ≡ zero_ℚ)
    → ((i : ℕ) → i < n → ¬ (i ≡ r) → next i ≡ basic i) → IsInverse n column basic M
    → IsInverse n column next (λ i k. pivoted r (times n M (column (next r))) (λ row. M row k) i)
inverse_pivoted n column basic next M r b m same inv = record { units = units; spans = spans }
  where
    e : ℕ → Rational
    e = times n M (column (next r))

    unit_off : (i k : ℕ) → i < n → k < n → ¬ (k ≡ r)
        → pivoted r e (times n M (column (next k))) i ≡ delta i k
    unit_off i k c d q =
        ap (λ j. pivoted r e (times n M (column j)) i) (same k d q)
        ∙ pivoted_same r e (times n M (column (basic k))) (λ j. delta j k) i (inv.units i k c d)
        (inv.units r k b d)
        ∙ pivoted_zero r e (λ j. delta j k) i (delta_other r k (λ h. q (sym h)))

    unit : (i k : ℕ) → i < n → k < n → pivoted r e (times n M (column (next k))) i ≡ delta i k
    unit i k c d =
        same_or_other _ k r
        (λ q. subst (λ j. pivoted r e (times n M (column (next j))) i ≡ delta i j) (sym q)
        (pivoted_itself r e i m))
        (unit_off i k c d)

    units : (i k : ℕ) → i < n → k < n
        → times n (λ i k. pivoted r e (λ row. M row k) i) (column (next k)) i ≡ delta i k
    units i k c d = times-pivoted n r e M (column (next k)) i ∙ unit i k c d

    nothing_added : (v x s : Rational) → v +ℚ (x -ℚ x) *ℚ s ≡ v
    nothing_added v x s = ap (λ y. v +ℚ y *ℚ s) (+ℚ-neg_ℚ x) ∙ ap (λ y. v +ℚ y) (zero-*ℚ s)
        ∙ +ℚ-zero v

    spans : (v : ℕ → Rational) (k : ℕ) → k < n
        → sum_to n (λ i. column (next i) k *ℚ times n (λ i k. pivoted r e (λ row. M row k) i) v i)
        ≡ v k
    spans v k c =
        sum_to_same n (λ i. column (next i) k
        *ℚ times n (λ i k. pivoted r e (λ row. M row k) i) v i)
        (λ i. column (next i) k *ℚ pivoted r e (times n M v) i) (λ i _.
        ap (λ x. column (next i) k *ℚ x) (times-pivoted n r e M v i))
        ∙ pivot-weighted n r e (times n M v) (λ i. column (basic i) k) (λ i. column (next i) k) b m
        (λ i d q. ap (λ j. column j k) (same i d q))
        ∙ ap₂ (λ x y. x +ℚ (column (next r) k -ℚ y) *ℚ (times n M v r *ℚ inverse_ℚ (e r)))
        (inv.spans v k c) (inv.spans (column (next r)) k c)
        ∙ nothing_added (v k) (column (next r) k) (times n M v r *ℚ inverse_ℚ (e r))

-- ---- the inverse is determined

-- two inverses of a basis agree on each vector
pub inverse-unique : (n : ℕ) (column : ℕ → ℕ → Rational) (basic : ℕ → ℕ) (M N : ℕ → ℕ → Rational)
    → IsInverse n column basic M → IsInverse n column basic N → (v : ℕ → Rational) (i : ℕ) → i < n
    → times n M v i ≡ times n N v i
inverse-unique n column basic M N left right v i b =
    sum_to_same n (λ k. M i k *ℚ v k) (λ k. M i k
    *ℚ sum_to n (λ l. column (basic l) k *ℚ times n N v l))
    (λ k c. ap (λ x. M i k *ℚ x) (sym (right.spans v k c)))
    ∙ products_regrouped n n (M i) (λ k l. column (basic l) k) (times n N v)
    ∙ sum_to_same n (λ l. times n M (column (basic l)) i *ℚ times n N v l)
    (λ l. delta i l *ℚ times n N v l) (λ l c. ap (λ x. x *ℚ times n N v l) (left.units i l b c))
    ∙ sum_to_delta n i (times n N v) b

-- and so they are equal
pub inverse_entries-unique : (n : ℕ) (column : ℕ → ℕ → Rational) (basic : ℕ → ℕ)
    (M N : ℕ → ℕ → Rational) → IsInverse n column basic M → IsInverse n column basic N → (i k : ℕ)
    → i < n → k < n → M i k ≡ N i k
inverse_entries-unique n column basic M N left right i k b c =
    sym (sum_to_delta_right n k (M i) c)
    ∙ inverse-unique n column basic M N left right (delta k) i b
    ∙ sum_to_delta_right n k (N i) c

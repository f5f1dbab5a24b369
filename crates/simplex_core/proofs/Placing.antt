-- Numbers placed at the basic columns, one row after the other.
use Rattle.std.specs.Prelude.{◌≡◌, ℕ, zero, suc, ◌+◌, ◌-◌, ◌<◌, ◌≤◌, List, [], ◌∷◌, ◌++◌, length, replicate, slice_set}
use Rattle.std.specs.List.{range_with_len}
use Rattle.std.proofs.Common.{sym, ◌∙◌, ap, ap₂, add-one, add-zero, arith, subst}
use Rattle.std.proofs.lemmas.List.{get_or-replicate, get_or-set_other, get_or-set_same, length-set, length-replicate}
use Rattle.ratio_core.specs.Rational.{Rational, neg_ℚ, one_ℚ, zero_ℚ, ◌*ℚ◌, ◌+ℚ◌, ◌-ℚ◌, ◌‹ℚ◌}
use Rattle.rational_laws.specs.Field.{*ℚ-neg_ℚ, +ℚ-neg_ℚ, +ℚ-zero, neg_ℚ-zero, one-*ℚ, zero-*ℚ, zero-+ℚ}
use Rattle.rational_laws.specs.Order.{not_‹ℚ_from_≤ℚ, zero_‹ℚ_one, ≤ℚ_refl}
use Rattle.simplex_form.specs.BoundedSums.{delta, sum_to}
use Rattle.simplex_laws.specs.BoundedSumLaws.{delta_other, delta_same, delta_sym, same_or_other, sum_to-neg_ℚ, sum_to_delta_right, sum_to_same, sum_to_zeros}
use Rattle.simplex_form.specs.Form.{Form, second_cost}
use Rattle.simplex_form.specs.Basis.{BasisState, IsBasis, basic}
use Rattle.simplex_form.specs.Board.{entry, point, price, ray, right_side}
use Rattle.tableau_core.specs.ListLaws.{listed_more}
use Rattle.tableau_core.specs.Row.{cell}
use Rattle.tableau_core.specs.Start.{IsListOf}

-- ---- lists of numbers

-- the numbers from a on
pub from_none : (a j : ℕ) (f : ℕ → Rational) (ys : List Rational) → j ≡ a → ys ≡ []
    → IsListOf (j - a) (λ k. f (a + k)) ys
from_none a j f ys e n =
    record { long = ap length n ∙ none_lem j a e; cells = λ k b. absurd (omega (arith, b, e)) }
  where
    none_lem : (j a : ℕ) → j ≡ a → 0 ≡ j - a
    none_lem j a e = omega (arith, e)

pub from_more : (a j : ℕ) (f : ℕ → Rational) (ys zs : List Rational) (y : Rational) → a ≤ j
    → IsListOf (j - a) (λ k. f (a + k)) ys → zs ≡ ys ++ y ∷ [] → y ≡ f j
    → IsListOf (j + 1 - a) (λ k. f (a + k)) zs
from_more a j f ys zs y b l e is =
    subst (λ n. IsListOf n (λ k. f (a + k)) zs) (more_lem j a b)
    (listed_more (j - a) (λ k. f (a + k)) ys zs y l (is ∙ ap f (back_lem j a b)) e)
  where
    more_lem : (j a : ℕ) → a ≤ j → j - a + 1 ≡ j + 1 - a
    more_lem j a b = omega (arith, b)

    back_lem : (j a : ℕ) → a ≤ j → j ≡ a + (j - a)
    back_lem j a b = omega (arith, b)

-- one more artificial column
pub range_more : (a n : ℕ) → range_with_len a (n + 1) ≡ range_with_len a n ++ (a + n) ∷ []
range_more a n = ap (range_with_len a) (add-one n) ∙ range_suc a n
  where
    next_lem : (a n : ℕ) → (a + 1) + n ≡ a + suc n
    next_lem a n = omega arith

    range_suc : (a n : ℕ) → range_with_len a (suc n) ≡ range_with_len a n ++ (a + n) ∷ []
    range_suc a zero = ap (λ k. k ∷ []) (sym (add-zero a))
    range_suc a (suc n) =
        ap (λ xs. a ∷ xs) (range_suc (a + 1) n ∙ ap (λ k. range_with_len (a + 1) n ++ k ∷ [])
        (next_lem a n))

-- ---- numbers at places

-- of c numbers those at the places of the first n rows have their values, and the others are 0
pub record IsPlacedTo (c n : ℕ) (at : ℕ → ℕ) (w : ℕ → Rational) (xs : List Rational) : Type 0 where
  pub long : length xs ≡ c
  pub cells : (j : ℕ) → j < c → cell xs j ≡ sum_to n (λ i. delta (at i) j *ℚ w i)

pub placed_none : (c : ℕ) (at : ℕ → ℕ) (w : ℕ → Rational) (xs : List Rational)
    → xs ≡ replicate c zero_ℚ → IsPlacedTo c 0 at w xs
placed_none c at w xs e = record {
  long = ap length e ∙ length-replicate c zero_ℚ;
  cells = λ j b. ap (λ x. cell x j) e ∙ get_or-replicate c j zero_ℚ zero_ℚ b;
}

away : (a j : ℕ) (w : Rational) → ¬ (a ≡ j) → delta a j *ℚ w ≡ zero_ℚ
away a j w n = ap (λ x. x *ℚ w) (delta_other a j n) ∙ zero-*ℚ w

module _ (c n : ℕ) (at : ℕ → ℕ) (w : ℕ → Rational) where
  -- the value of one row more
  sum_past : (j : ℕ) (x : Rational) → ¬ (at n ≡ j) → x ≡ sum_to n (λ i. delta (at i) j *ℚ w i)
      → x ≡ sum_to (n + 1) (λ i. delta (at i) j *ℚ w i)
  sum_past j x m e =
      e ∙ sym (+ℚ-zero (sum_to n (λ i. delta (at i) j *ℚ w i)))
      ∙ ap (λ y. sum_to n (λ i. delta (at i) j *ℚ w i) +ℚ y) (sym (away (at n) j (w n) m))
      ∙ ap (λ k. sum_to k (λ i. delta (at i) j *ℚ w i)) (sym (add-one n))

  sum_here : ((i : ℕ) → i < n → ¬ (at i ≡ at n))
      → w n ≡ sum_to (n + 1) (λ i. delta (at i) (at n) *ℚ w i)
  sum_here other =
      sym (zero-+ℚ (w n))
      ∙ ap₂ ◌+ℚ◌ (sym (sum_to_zeros n (λ i. delta (at i) (at n) *ℚ w i)
      (λ i b. away (at i) (at n) (w i) (other i b))))
      (sym (ap (λ x. x *ℚ w n) (delta_same (at n)) ∙ one-*ℚ (w n)))
      ∙ ap (λ k. sum_to k (λ i. delta (at i) (at n) *ℚ w i)) (sym (add-one n))

  pub placed_past : (xs : List Rational) → IsPlacedTo c n at w xs → c ≤ at n
      → IsPlacedTo c (n + 1) at w xs
  placed_past xs p b = record {
    long = p.long;
    cells = λ j d. sum_past j (cell xs j) (λ e. absurd (omega (arith, b, d, e))) (p.cells j d);
  }

  pub placed_more : (xs ys : List Rational) (value : Rational) → IsPlacedTo c n at w xs
      → ys ≡ slice_set xs (at n) value → at n < c → ((i : ℕ) → i < n → ¬ (at i ≡ at n))
      → value ≡ w n → IsPlacedTo c (n + 1) at w ys
  placed_more xs ys value p e b other is = record {
    long = ap length e ∙ length-set xs (at n) value ∙ p.long;
    cells =
        λ j d. ap (λ x. cell x j) e ∙ same_or_other (cell (slice_set xs (at n) value) j ≡ sum_to
        (n + 1) (λ i. delta (at i) j *ℚ w i)) j (at n)
        (λ q. subst (λ k. cell (slice_set xs (at n) value) k ≡ sum_to (n + 1)
        (λ i. delta (at i) k *ℚ w i)) (sym q) (get_or-set_same xs (at n) value zero_ℚ
        (subst (λ k. at n < k) (sym p.long) b) ∙ is ∙ sum_here other))
        (λ m. sum_past j _ (λ k. m (sym k)) (get_or-set_other xs (at n) j value zero_ℚ m
        ∙ p.cells j d));
  }

-- ---- a basis

module _ (F : Form) (s : BasisState) (h : IsBasis F s) where
  -- an entry of a basic column
  entry-basic : (i k : ℕ) → i < F.rows → k < F.rows → entry F s (basic s k) i ≡ delta i k
  entry-basic i k b c = h.inverse.units i k b c

  zero_one : zero_ℚ ≡ one_ℚ → ⊥
  zero_one e =
      not_‹ℚ_from_≤ℚ zero_ℚ zero_ℚ (≤ℚ_refl zero_ℚ) (subst (λ x. zero_ℚ ‹ℚ x) (sym e) zero_‹ℚ_one)

  -- no column is basic in two rows
  pub basic_distinct : (i k : ℕ) → i < F.rows → k < F.rows → ¬ (i ≡ k) → ¬ (basic s i ≡ basic s k)
  basic_distinct i k b c n e =
      zero_one (sym (delta_other i k n) ∙ sym (entry-basic i k b c)
      ∙ ap (λ j. entry F s j i) (sym e) ∙ entry-basic i i b b ∙ delta_same i)

  -- the price of a basic column is 0
  price-basic : (cost : ℕ → Rational) (k : ℕ) → k < F.rows → price F s cost (basic s k) ≡ zero_ℚ
  price-basic cost k c =
      ap (λ x. cost (basic s k) -ℚ x)
      (sum_to_same F.rows (λ i. cost (basic s i) *ℚ entry F s (basic s k) i)
      (λ i. cost (basic s i) *ℚ delta k i) (λ i b. ap (λ x. cost (basic s i) *ℚ x)
      (entry-basic i k b c ∙ delta_sym i k))
      ∙ sum_to_delta_right F.rows k (λ i. cost (basic s i)) c)
      ∙ +ℚ-neg_ℚ (cost (basic s k))

  -- so a column of negative price isn't basic
  pub not_basic : (cost : ℕ → Rational) (q k : ℕ) → price F s cost q ‹ℚ zero_ℚ → k < F.rows
      → ¬ (basic s k ≡ q)
  not_basic cost q k low c e =
      not_‹ℚ_from_≤ℚ zero_ℚ zero_ℚ (≤ℚ_refl zero_ℚ)
      (subst (λ x. x ‹ℚ zero_ℚ) (ap (price F s cost) (sym e) ∙ price-basic cost k c) low)

  earlier_distinct : (n : ℕ) → n < F.rows → (i : ℕ) → i < n → ¬ (basic s i ≡ basic s n)
  earlier_distinct n b i c =
      basic_distinct i n (omega (arith, b, c)) b (λ e. absurd (omega (arith, c, e)))

  -- ---- one row more, of any numbers w of the rows

  pub next_placed : (c n j : ℕ) (w : ℕ → Rational) (xs ys : List Rational) (value : Rational)
      → IsPlacedTo c n (basic s) w xs → n < F.rows → j ≡ basic s n → ys ≡ slice_set xs j value
      → j < c → value ≡ w n → IsPlacedTo c (n + 1) (basic s) w ys
  next_placed c n j w xs ys value p b e k d is =
      placed_more c n (basic s) w xs ys value p (k ∙ ap (λ i. slice_set xs i value) e)
      (subst (λ i. i < c) e d) (earlier_distinct n b) is

  pub next_past : (c n j : ℕ) (w : ℕ → Rational) (xs ys : List Rational) → ys ≡ xs
      → IsPlacedTo c n (basic s) w xs → j ≡ basic s n → c ≤ j → IsPlacedTo c (n + 1) (basic s) w ys
  next_past c n j w xs ys same p e d =
      subst (IsPlacedTo c (n + 1) (basic s) w) (sym same) (placed_past c n (basic s) w xs p
      (subst (λ i. c ≤ i) e d))

  -- ---- the point and the ray

  pub point_from : (c m : ℕ) (x : List Rational) → c ≡ F.reals → m ≡ F.rows
      → IsPlacedTo c m (basic s) (right_side F s) x → IsListOf F.reals (point F s) x
  point_from c m x e f p = record {
    long = p.long ∙ e;
    cells = λ j b. p.cells j (subst (λ n. j < n) (sym e) b)
        ∙ ap (λ n. sum_to n (λ i. delta (basic s i) j *ℚ right_side F s i)) f;
  }

  negated_sum : (q j : ℕ) → sum_to F.rows (λ i. delta (basic s i) j *ℚ neg_ℚ (entry F s q i))
      ≡ neg_ℚ (sum_to F.rows (λ i. delta (basic s i) j *ℚ entry F s q i))
  negated_sum q j =
      sum_to_same F.rows (λ i. delta (basic s i) j *ℚ neg_ℚ (entry F s q i))
      (λ i. neg_ℚ (delta (basic s i) j *ℚ entry F s q i)) (λ i _. *ℚ-neg_ℚ (delta (basic s i) j)
      (entry F s q i))
      ∙ sum_to-neg_ℚ F.rows (λ i. delta (basic s i) j *ℚ entry F s q i)

  ray_off : (q j : ℕ) → ¬ (q ≡ j)
      → neg_ℚ (sum_to F.rows (λ i. delta (basic s i) j *ℚ entry F s q i)) ≡ ray F s q j
  ray_off q j n =
      sym (zero-+ℚ (neg_ℚ (sum_to F.rows (λ i. delta (basic s i) j *ℚ entry F s q i))))
      ∙ ap (λ x. x -ℚ sum_to F.rows (λ i. delta (basic s i) j *ℚ entry F s q i))
      (sym (delta_other q j n))

  ray_at : (q : ℕ) → price F s (second_cost F) q ‹ℚ zero_ℚ → one_ℚ ≡ ray F s q q
  ray_at q low =
      sym (+ℚ-zero one_ℚ) ∙ ap (λ x. one_ℚ +ℚ x) (sym neg_ℚ-zero)
      ∙ ap₂ ◌-ℚ◌ (sym (delta_same q))
      (sym (sum_to_zeros F.rows (λ i. delta (basic s i) q *ℚ entry F s q i)
      (λ i b. away (basic s i) q (entry F s q i) (not_basic (second_cost F) q i low b))))

  pub ray_from : (c m q : ℕ) (xs ys : List Rational) → c ≡ F.reals → m ≡ F.rows → q < c
      → price F s (second_cost F) q ‹ℚ zero_ℚ
      → IsPlacedTo c m (basic s) (λ i. neg_ℚ (entry F s q i)) xs → ys ≡ slice_set xs q one_ℚ
      → IsListOf F.reals (ray F s q) ys
  ray_from c m q xs ys e f b low p k = record {
    long = ap length k ∙ length-set xs q one_ℚ ∙ p.long ∙ e;
    cells =
        λ j d. ap (λ x. cell x j) k ∙ same_or_other (cell (slice_set xs q one_ℚ) j ≡ ray F s q j) j
        q
        (λ i. subst (λ n. cell (slice_set xs q one_ℚ) n ≡ ray F s q n) (sym i)
        (get_or-set_same xs q one_ℚ zero_ℚ (subst (λ n. q < n) (sym p.long) b) ∙ ray_at q low))
        (λ n. get_or-set_other xs q j one_ℚ zero_ℚ n ∙ p.cells j (subst (λ n. j < n) (sym e) d)
        ∙ ap (λ n. sum_to n (λ i. delta (basic s i) j *ℚ neg_ℚ (entry F s q i))) f
        ∙ negated_sum q j ∙ ray_off q j (λ i. n (sym i)));
  }

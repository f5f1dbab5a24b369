-- The laws of the rational numbers that every user needs: equal parts and equal cross products make
-- equal numbers, and the order is total.
use Rattle.std.specs.Prelude.{◌≡◌, ℕ, zero, suc, ◌+◌, ◌*◌, ◌/◌, ◌^◌, ◌<◌, Bool, true, false, ℤ, pos, negsuc, ◌+ℤ◌, ◌*ℤ◌, neg_ℤ, ◌<ℤ◌, int_div, unsigned_abs, Decides, refl}
use Rattle.std.specs.Cmp.{int_ranks, IsTotalOrder, one_rank, strict, eq_by_cmp_equiv, IsEquivalence, IsPartialEquivalence, partial_equiv_from_equiv, IsPartialOrder, partial_order_from_total}
use Rattle.std.specs.FinMap.{IsAntisymmetric}
use Rattle.std.specs.Int.{◌∣◌}
use Rattle.std.specs.Ordering.{is_eq, MatchOrdering, as_partial_cmp}
use Rattle.std.specs.declared.cmp.Ordering.{Ordering}
use Rattle.std.specs.declared.cmp.Ordering.TheVariants.{Less, Equal, Greater}
use Rattle.std.proofs.Common.{sym, ◌∙◌, ap, subst, arith, true≢false, mul-lt-mul_of_pos_right, lt_of_mul-lt-mul_right, zero-mul, mul_comm}
use Rattle.std.proofs.Math.Nat.{div-mul_cancel, dvd_antisymm, dvd-mul_left, mul-div_cancel}
use Rattle.std.proofs.lemmas.Int.{unsigned_abs-mul}
use borrow.Author.Differences.{up, down, same_in, same_out, product_is, sum_is_lem, below_in, lt_out}
use Rattle.ratio_core.specs.Gcd.{gcd, gcd_is, dvd_from_coprime}
use Rattle.std.proofs.lemmas.Bool.Decides.{Decides-like, Decides-and, Decides-ltb}
use Rattle.ratio_core.specs.Rational.{Rational, IsReduced, rational_parts, same_parts, signed, unsigned_abs-neg, reduce, ◌‹ℚ◌, rational_cmp, rational_eq, Fits, fits, left_term, right_term, sum_of_terms, sum_denominator, SumFits, sum_fits}

-- ---- integers times naturals

pub times_is : (z : ℤ) (d : ℕ) → (up (z *ℤ pos d) ≡ up z * d) × (down (z *ℤ pos d) ≡ down z * d)
times_is z d = omega (arith, product_is z (pos d))

pub times_times : (z : ℤ) (a b : ℕ) → (z *ℤ pos a) *ℤ pos b ≡ z *ℤ pos (a * b)
times_times z a b =
    let u : up (z *ℤ pos a) * b ≡ up z * a * b = ap (λ x. x * b) (times_is z a).0 in
    let v : down (z *ℤ pos a) * b ≡ down z * a * b = ap (λ x. x * b) (times_is z a).1 in
    same_in _ _ (omega (arith, u, v, times_is (z *ℤ pos a) b, times_is z (a * b)))

pub swap_times : (z : ℤ) (a b : ℕ) → (z *ℤ pos a) *ℤ pos b ≡ (z *ℤ pos b) *ℤ pos a
swap_times z a b = times_times z a b ∙ ap (λ k. z *ℤ pos k) (mul_comm a b) ∙ sym (times_times z b a)

pub cancel_times : (y z : ℤ) (d : ℕ) → 0 < d → y *ℤ pos d ≡ z *ℤ pos d → y ≡ z
cancel_times y z d h e =
    same_in y z (cancel_lem (up y) (down y) (up z) (down z) d h
    (omega (arith, same_out _ _ e, times_is y d, times_is z d)))
  where
    cancel_lem : (a b c e d : ℕ) → 0 < d → a * d + e * d ≡ c * d + b * d → a + e ≡ c + b
    cancel_lem a b c e d h k =
        let products : (a + e) * d ≡ (c + b) * d = omega (arith, k) in
        sym (mul-div_cancel (a + e) h) ∙ ap (λ x. x / d) products ∙ mul-div_cancel (c + b) h

pub times_add : (x y : ℤ) (k : ℕ) → (x +ℤ y) *ℤ pos k ≡ (x *ℤ pos k) +ℤ (y *ℤ pos k)
times_add x y k =
    let scaled : (up (x +ℤ y) + down x + down y) * k ≡ (down (x +ℤ y) + up x + up y) * k =
    ap (λ w. w * k) (sum_is_lem x y) in
    same_in _ _ (omega (
      arith,
      scaled,
      sum_is_lem (x *ℤ pos k) (y *ℤ pos k),
      times_is (x +ℤ y) k,
      times_is x k,
      times_is y k,
    ))

pub times_< : (x y : ℤ) (k : ℕ) → 0 < k → x <ℤ y → (x *ℤ pos k) <ℤ (y *ℤ pos k)
times_< x y k above h =
    let scaled : (up x + down y) * k < (up y + down x) * k =
    mul-lt-mul_of_pos_right (lt_out x y h) above in
    below_in _ _ (omega (arith, scaled, times_is x k, times_is y k))

-- ---- equality

-- equal cross products make equal numbers
pub same_from_cross : (p q : Rational) → p.num *ℤ pos q.den ≡ q.num *ℤ pos p.den → p ≡ q
same_from_cross p q e =
    let sizes : unsigned_abs p.num * q.den ≡ unsigned_abs q.num * p.den = sym
    (unsigned_abs-mul p.num (pos q.den)) ∙ ap unsigned_abs e
    ∙ unsigned_abs-mul q.num (pos p.den) in
    let forth : p.den ∣ q.den = dvd_from_coprime (unsigned_abs p.num) p.den q.den p.reduced.1
    (subst (λ x. p.den ∣ x) (sym sizes ∙ mul_comm _ _)
    (dvd-mul_left p.den (unsigned_abs q.num))) in
    let back : q.den ∣ p.den = dvd_from_coprime (unsigned_abs q.num) q.den p.den q.reduced.1
    (subst (λ x. q.den ∣ x) (sizes ∙ mul_comm _ _)
    (dvd-mul_left q.den (unsigned_abs p.num))) in
    let dens : p.den ≡ q.den = dvd_antisymm forth back in
    let nums : p.num ≡ q.num =
    cancel_times p.num q.num q.den q.reduced.0 (e ∙ ap (λ d. q.num *ℤ pos d) dens) in
    same_parts p q (λ i. (nums i, dens i))

-- ---- lowest terms

pub neg_times : (x g : ℕ) → neg_ℤ (pos x) *ℤ pos g ≡ neg_ℤ (pos (x * g))
neg_times zero g = simp zero-mul
neg_times (suc x) g = refl

-- a sign and a size
pub signed_times : (s : Bool) (x y : ℕ) → signed s x *ℤ pos y ≡ signed s (x * y)
signed_times false x y = refl
signed_times true x y = neg_times x y

pub unsigned_abs-signed : (s : Bool) (n : ℕ) → unsigned_abs (signed s n) ≡ n
unsigned_abs-signed false n = refl
unsigned_abs-signed true n = unsigned_abs-neg n

int_div-exact : (n : ℤ) (g : ℕ) → g ∣ unsigned_abs n → int_div n (pos g) *ℤ pos g ≡ n
int_div-exact (pos n) g h = ap pos (div-mul_cancel g h)
int_div-exact (negsuc n) g h = neg_times (suc n / g) g
    ∙ ap (λ x. neg_ℤ (pos x)) (div-mul_cancel g h)

pub reduce-num : (n : ℤ) (d : ℕ) → 0 < d
    → (reduce n d).num ≡ int_div n (pos (gcd (unsigned_abs n) d))
unfolding reduce
reduce-num n zero h = absurd (omega arith)
reduce-num n (suc d) h = refl

pub reduce-den : (n : ℤ) (d : ℕ) → 0 < d → (reduce n d).den ≡ d / gcd (unsigned_abs n) d
unfolding reduce
reduce-den n zero h = absurd (omega arith)
reduce-den n (suc d) h = refl

-- the parts in lowest terms, times the greatest common divisor, are the parts given
pub reduce_parts : (n : ℤ) (d : ℕ) → 0 < d
    → ((reduce n d).num *ℤ pos (gcd (unsigned_abs n) d) ≡ n)
    × ((reduce n d).den * gcd (unsigned_abs n) d ≡ d)
reduce_parts n d h = (
  ap (λ x. x *ℤ pos (gcd (unsigned_abs n) d)) (reduce-num n d h)
      ∙ int_div-exact n _ (gcd_is (unsigned_abs n) d).0,
  ap (λ x. x * gcd (unsigned_abs n) d) (reduce-den n d h)
      ∙ div-mul_cancel _ (gcd_is (unsigned_abs n) d).1,
)

pub reduce_cross : (n : ℤ) (d : ℕ) → 0 < d → (reduce n d).num *ℤ pos d ≡ n *ℤ pos (reduce n d).den
reduce_cross n d h =
    let g : ℕ = gcd (unsigned_abs n) d in
    let r : Rational = reduce n d in
    let parts : (r.num *ℤ pos g ≡ n) × (r.den * g ≡ d) = reduce_parts n d h in
    ap (λ x. r.num *ℤ pos x) (sym parts.1 ∙ mul_comm r.den g) ∙ sym (times_times r.num g r.den)
    ∙ ap (λ x. x *ℤ pos r.den) parts.0

-- n over d is the number whose cross product with it is equal
pub reduce_is : (r : Rational) (n : ℤ) (d : ℕ) → 0 < d → r.num *ℤ pos d ≡ n *ℤ pos r.den
    → reduce n d ≡ r
reduce_is r n d h e =
    let s : Rational = reduce n d in
    same_from_cross s r
    (cancel_times (s.num *ℤ pos r.den) (r.num *ℤ pos s.den) d h
    (swap_times s.num r.den d
    ∙ ap (λ z. z *ℤ pos r.den) (reduce_cross n d h)
    ∙ swap_times n s.den r.den
    ∙ ap (λ z. z *ℤ pos s.den) (sym e)
    ∙ swap_times r.num d s.den))

-- a number is its numerator over its denominator
pub reduce_itself : (q : Rational) → reduce q.num q.den ≡ q
reduce_itself q = same_from_cross (reduce q.num q.den) q (reduce_cross q.num q.den q.reduced.0)

-- and parts that are in lowest terms stay
pub reduce_reduced : (n : ℤ) (d : ℕ) → IsReduced n d → rational_parts (reduce n d) ≡ (n, d)
reduce_reduced n d h = ap rational_parts (reduce_itself (record { num = n; den = d; reduced = h }))

-- ---- the order

pub ‹ℚ_irrefl : (p : Rational) → ¬ (p ‹ℚ p)
‹ℚ_irrefl p h = omega (arith, lt_out _ _ h.cross)

-- a/b below c/d and c/d below e/f, by cross products of differences of naturals
chain_lem : (a a' b c c' d e e' f : ℕ) → 0 < b → 0 < f → a * d + c' * b < c * b + a' * d
    → c * f + e' * d < e * d + c' * f → (a * f + e' * b) * d < (e * b + a' * f) * d
chain_lem a a' b c c' d e e' f hb hf h k =
    let first : (a * d + c' * b) * f < (c * b + a' * d) * f = mul-lt-mul_of_pos_right h hf in
    let second : (c * f + e' * d) * b < (e * d + c' * f) * b = mul-lt-mul_of_pos_right k hb in
    omega (arith, first, second)

pub ‹ℚ_trans : (p q r : Rational) → p ‹ℚ q → q ‹ℚ r → p ‹ℚ r
‹ℚ_trans p q r h k =
    let first : up p.num * q.den + down q.num * p.den < up q.num * p.den + down p.num * q.den =
    omega (arith, lt_out _ _ h.cross, times_is p.num q.den, times_is q.num p.den) in
    let second : up q.num * r.den + down r.num * q.den < up r.num * q.den + down q.num * r.den =
    omega (arith, lt_out _ _ k.cross, times_is q.num r.den, times_is r.num q.den) in
    let third : up p.num * r.den + down r.num * p.den < up r.num * p.den + down p.num * r.den =
    lt_of_mul-lt-mul_right q.den (chain_lem (up p.num) (down p.num) p.den (up q.num)
    (down q.num) q.den (up r.num) (down r.num) r.den p.reduced.0 r.reduced.0 first second)
    in
    record {
      cross = below_in _ _ (omega (arith, third, times_is p.num r.den, times_is r.num p.den));
    }

-- what an answer of a comparison says, said in other words
pub rank_as : {A B C P Q R : Type 0} (r : Ordering) → MatchOrdering r A B C → (A → P) → (B → Q)
    → (C → R) → MatchOrdering r P Q R
rank_as Less h less equal greater = less h
rank_as Equal h less equal greater = equal h
rank_as Greater h less equal greater = greater h

-- what an answer of the comparison says
pub rational_ranks : (p q : Rational) → MatchOrdering (rational_cmp p q) (p ‹ℚ q) (p ≡ q) (q ‹ℚ p)
unfolding rational_cmp
rational_ranks p q =
    rank_as {P = p ‹ℚ q} {R = q ‹ℚ p} _ (int_ranks (p.num *ℤ pos q.den) (q.num *ℤ pos p.den))
    (λ h. record { cross = h }) (same_from_cross p q) (λ h. record { cross = h })

pub rational_ranked : (p q : Rational) (r : Ordering) → r ≡ rational_cmp p q
    → MatchOrdering r (p ‹ℚ q) (p ≡ q) (q ‹ℚ p)
rational_ranked p q r e =
    subst (λ k. MatchOrdering k (p ‹ℚ q) (p ≡ q) (q ‹ℚ p)) (sym e) (rational_ranks p q)

-- and the answer from what holds
pub rational_cmp_is : (p q : Rational) (r : Ordering) → MatchOrdering r (p ‹ℚ q) (p ≡ q) (q ‹ℚ p)
    → r ≡ rational_cmp p q
rational_cmp_is p q r h =
    one_rank ◌‹ℚ◌ ‹ℚ_irrefl ‹ℚ_trans p q r (rational_cmp p q) h (rational_ranks p q)

pub rational_cmp_total : IsTotalOrder rational_cmp
rational_cmp_total = strict ◌‹ℚ◌ ‹ℚ_irrefl ‹ℚ_trans rational_cmp rational_ranks

-- numbers that compare alike are equal
pub rational_cmp-IsAntisymmetric : IsAntisymmetric rational_cmp
rational_cmp-IsAntisymmetric p q e = rational_ranked p q Equal (sym e)

-- ---- the tests

pub rational_eq_equiv : IsEquivalence rational_eq
unfolding rational_eq
rational_eq_equiv = eq_by_cmp_equiv rational_cmp_total

pub rational_eq_partial_equiv : IsPartialEquivalence rational_eq
rational_eq_partial_equiv = partial_equiv_from_equiv rational_eq_equiv

pub rational_partial_order : IsPartialOrder rational_eq (as_partial_cmp rational_cmp)
unfolding rational_eq
rational_partial_order = partial_order_from_total rational_cmp_total

pub rational_eq-is_eq : (p q : Rational) → rational_eq p q ≡ is_eq (rational_cmp p q)
unfolding rational_eq
rational_eq-is_eq p q = refl

equal_lem : (p q : Rational) (r : Ordering) → MatchOrdering r (p ‹ℚ q) (p ≡ q) (q ‹ℚ p)
    → Decides (is_eq r) (p ≡ q)
equal_lem p q Less h =
    (λ e. absurd (true≢false (sym e)), λ e. absurd (‹ℚ_irrefl q (subst (λ x. x ‹ℚ q) e h)))
equal_lem p q Equal h = (λ e. h, λ e. refl)
equal_lem p q Greater h =
    (λ e. absurd (true≢false (sym e)), λ e. absurd (‹ℚ_irrefl q (subst (λ x. q ‹ℚ x) e h)))

-- the test of equality is true exactly where the numbers are equal
pub rational_eq_Decides : (p q : Rational) → Decides (rational_eq p q) (p ≡ q)
unfolding rational_eq
rational_eq_Decides p q = equal_lem p q (rational_cmp p q) (rational_ranks p q)

pub rational_eq-true : (p q : Rational) → rational_eq p q ≡ true → p ≡ q
rational_eq-true p q = (rational_eq_Decides p q).0

pub rational_eq-false : (p q : Rational) → rational_eq p q ≡ false → ¬ (p ≡ q)
rational_eq-false p q e same = true≢false (sym ((rational_eq_Decides p q).1 same) ∙ e)

pub eq_rational_eq : (p q : Rational) → p ≡ q → rational_eq p q ≡ true
eq_rational_eq p q = (rational_eq_Decides p q).1

-- ---- what fits

pub fits_Decides : (q : Rational) → Decides (fits q) (Fits q)
unfolding fits
fits_Decides q =
    Decides-like (fits q) (λ h. record { num = h.0; den = h.1 }) (λ h. (h.num, h.den))
    (Decides-and _ _ (Decides-ltb (unsigned_abs q.num) (2 ^ 127)) (Decides-ltb q.den (2 ^ 127)))

pub sum_fits_Decides : (p q : Rational) → Decides (sum_fits p q) (SumFits p q)
unfolding sum_fits
sum_fits_Decides p q =
    Decides-like (sum_fits p q)
    (λ h. record { left = h.0.0.0; right = h.0.0.1; sum = h.0.1; denominator = h.1 })
    (λ h. (((h.left, h.right), h.sum), h.denominator))
    (Decides-and _ _
    (Decides-and _ _
    (Decides-and _ _ (Decides-ltb (unsigned_abs (left_term p q)) (2 ^ 127))
    (Decides-ltb (unsigned_abs (right_term p q)) (2 ^ 127)))
    (Decides-ltb (unsigned_abs (sum_of_terms p q)) (2 ^ 127)))
    (Decides-ltb (sum_denominator p q) (2 ^ 127)))

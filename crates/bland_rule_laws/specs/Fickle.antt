-- Bland's argument: the steps of a phase lead to no set of basic columns again. Of the columns that
-- enter and leave in between, the greatest enters at one basis and leaves at another, and by the
-- identity of prices another column would have left in its place.
use Rattle.std.specs.Prelude.{◌≡◌, ℕ, suc, ◌+◌, ◌<◌, ◌≤◌, Bool, true, false, ◌&&◌, nat_le, refl}
use Rattle.std.proofs.Common.{inl, inr, sym, ◌∙◌, ap, arith, subst, true≢false}
use Rattle.std.proofs.lemmas.Bool.{and_parts, le-leb, leb-true}
use Rattle.ratio_core.specs.Rational.{Rational, inverse_ℚ, rational_eq, zero_ℚ, ◌*ℚ◌, ◌-ℚ◌, ◌≤ℚ◌, ◌‹ℚ◌}
use Rattle.ratio_core.specs.RationalLaws.{rational_eq-false, rational_eq-true}
use Rattle.rational_laws.specs.Field.{*ℚ_comm, zero-*ℚ}
use Rattle.rational_laws.specs.Order.{nonneg_from_≤ℚ, nonpos_mul, not_‹ℚ_from_≤ℚ, ‹ℚ_from_not_≤ℚ, ≤ℚ_from_‹ℚ, ≤ℚ_refl, ≤ℚ_trans}
use Rattle.simplex_form.specs.Basis.{BasisState, basic}
use Rattle.simplex_form.specs.Board.{entry, price, right_side}
use Rattle.simplex_form.specs.BoundedSums.{sum_to}
use Rattle.simplex_form.specs.Form.{Form}
use Rattle.simplex_form.specs.Readings.{readings}
use Rattle.simplex_form.specs.Search.{some_below}
use Rattle.simplex_form.specs.Standing.{IsRatioBefore, StandsAtBasis}
use Rattle.simplex_form.specs.Turns.{ratio}
use Rattle.simplex_laws.specs.SearchLaws.{some_below_false, some_below_true}
use Rattle.bland_rule_laws.specs.BasicColumns.{basic_distinct, basic_if, is_basic, price-is_basic}
use Rattle.bland_rule_laws.specs.Degenerate.{each_degenerate, right_side-stays, row-stays}
use Rattle.bland_rule_laws.specs.Exchange.{price-exchanged}
use Rattle.bland_rule_laws.specs.Sequences.{Falls, IsGreatest, Rises, carried, differ, differ_false, greatest_below, rises_and_falls, term_above}
use Rattle.bland_rule_laws.specs.Steps.{IsStep, entered, entering_column, enters_from_outside, leaving_column}

-- ---- signs

not_below_itself : (p : Rational) → ¬ (p ‹ℚ p)
not_below_itself p = not_‹ℚ_from_≤ℚ p p (≤ℚ_refl p)

-- a number that is lowered from one that isn't negative to one that is
lowered_above : (p q x : Rational) → p ≡ q -ℚ x → p ‹ℚ zero_ℚ → zero_ℚ ≤ℚ q → zero_ℚ ‹ℚ x
lowered_above p q x e h k =
    ‹ℚ_from_not_≤ℚ zero_ℚ x (λ low. not_‹ℚ_from_≤ℚ zero_ℚ p
    (subst (λ y. zero_ℚ ≤ℚ y) (sym e) (nonneg_from_≤ℚ x q (≤ℚ_trans x zero_ℚ q low k))) h)

-- a product above 0 whose first factor isn't negative
second_above : (p x : Rational) → zero_ℚ ≤ℚ p → zero_ℚ ‹ℚ (p *ℚ x) → zero_ℚ ‹ℚ x
second_above p x h k =
    ‹ℚ_from_not_≤ℚ zero_ℚ x (λ low. not_‹ℚ_from_≤ℚ (p *ℚ x) zero_ℚ (nonpos_mul p x h low) k)

not_above : (p x : Rational) → p ‹ℚ zero_ℚ → zero_ℚ ‹ℚ x → ¬ (zero_ℚ ‹ℚ (p *ℚ x))
not_above p x h k =
    not_‹ℚ_from_≤ℚ (p *ℚ x) zero_ℚ (subst (λ y. y ≤ℚ zero_ℚ) (*ℚ_comm x p)
    (nonpos_mul x p (≤ℚ_from_‹ℚ zero_ℚ x k) (≤ℚ_from_‹ℚ p zero_ℚ h)))

zero_product : (p x : Rational) → p ≡ zero_ℚ → ¬ (zero_ℚ ‹ℚ (p *ℚ x))
zero_product p x e k =
    not_below_itself zero_ℚ (subst (λ y. zero_ℚ ‹ℚ y) (ap (λ y. y *ℚ x) e ∙ zero-*ℚ x) k)

-- of two ratios that are 0 that of the lower column comes first
no_later : (p q : Rational) (i j : ℕ) → p ≡ zero_ℚ → q ≡ zero_ℚ → IsRatioBefore p i q j → i ≤ j
no_later p q i j e g (inl h) =
    absurd (not_below_itself zero_ℚ (subst (λ x. x ‹ℚ zero_ℚ) e (subst (λ x. p ‹ℚ x) g h)))
no_later p q i j e g (inr h) = h.1

-- ---- between two equal sets

module _ (F : Form) (cost : ℕ → Rational) (S : ℕ → BasisState) (a b : ℕ)
    (stands : (k : ℕ) → StandsAtBasis F (S k))
    (step : (k : ℕ) → a ≤ k → k < b → IsStep F cost (S k) (S (suc k))) (ordered : a < b)
    (same : (j : ℕ) → j < F.reals + F.rows → is_basic F (S a) j ≡ is_basic F (S b) j) where
  -- column j is basic at the k-th basis
  abbrev at : ℕ → ℕ → Bool
  at j k = is_basic F (S k) j

  -- column j enters or leaves at some step from a to b
  unfoldable changes : ℕ → Bool
  changes j = some_below b (λ k. nat_le a k && differ (at j k) (at j (suc k)))

  changes_if : (j k : ℕ) → a ≤ k → k < b → at j k ≡ false → at j (suc k) ≡ true
      → changes j ≡ true
  unfolding changes
  changes_if j k c d e g = by_test (changes j) refl
    where
      passes : (u v w : Bool) → u ≡ true → v ≡ false → w ≡ true → (u && differ v w) ≡ true
      passes true false true e g h = refl
      passes true false false e g h = absurd (true≢false (sym h))
      passes true true w e g h = absurd (true≢false g)
      passes false v w e g h = absurd (true≢false (sym e))

      by_test : (v : Bool) → changes j ≡ v → changes j ≡ true
      by_test true h = h
      by_test false h =
          absurd (true≢false (sym (passes (nat_le a k) (at j k) (at j (suc k)) (le-leb a k c) e g)
          ∙ some_below_false b (λ n. nat_le a n && differ (at j n) (at j (suc n))) h k d))

  -- a column that doesn't is basic at each basis or at none
  kept : (j : ℕ) → changes j ≡ false → (k : ℕ) → a ≤ k → k ≤ b → at j k ≡ at j a
  unfolding changes
  kept j e k c d =
      carried (λ n. at j n ≡ at j a) a b
      (λ n g f h. differ_false (at j n) (at j (suc n)) (second (nat_le a n)
      (differ (at j n) (at j (suc n))) (le-leb a n g)
      (some_below_false b (λ n. nat_le a n && differ (at j n) (at j (suc n))) e n f)) ∙ h)
      a k (omega arith) c d refl
    where
      second : (u v : Bool) → u ≡ true → (u && v) ≡ false → v ≡ false
      second true v e h = h
      second false v e h = absurd (true≢false (sym e))

  -- and one that does both enters and leaves
  enters_and_leaves : (t : ℕ) → t < F.reals + F.rows → changes t ≡ true
      → Rises (at t) a b × Falls (at t) a b
  unfolding changes
  enters_and_leaves t c e =
      let found : (k : ℕ) × (k < b)
      × ((nat_le a k && differ (at t k) (at t (suc k))) ≡ true) =
      some_below_true b (λ k. nat_le a k && differ (at t k) (at t (suc k))) e in
      let tests : (nat_le a found.0 ≡ true)
      × (differ (at t found.0) (at t (suc found.0)) ≡ true) =
      and_parts (nat_le a found.0) (differ (at t found.0) (at t (suc found.0))) found.2 in
      rises_and_falls (at t) a b found.0 (leb-true a found.0 tests.0) found.1 (same t c) tests.1

  entering_changes : (k : ℕ) (c : a ≤ k) (d : k < b) → changes (step k c d).moves.column ≡ true
  entering_changes k c d =
      changes_if (step k c d).moves.column k c d
      (enters_from_outside F cost (S k) (S (suc k)) (stands k) (step k c d))
      (entered F (S k) (S (suc k)) (step k c d).moves)

  -- ---- the greatest column that changes, where it enters and where it leaves

  module _ (t : ℕ) (greatest : IsGreatest (F.reals + F.rows) changes t) (m : ℕ) (am : a ≤ m)
      (mb : m < b) (outside : at t m ≡ false) (inside : at t (suc m) ≡ true) (n : ℕ)
      (an : a ≤ n) (nb : n < b) (held : at t n ≡ true) (gone : at t (suc n) ≡ false) where
    -- the step at which it enters, and that at which it leaves, where column q enters in row r
    abbrev entry_step : IsStep F cost (S m) (S (suc m))
    entry_step = step m am mb

    abbrev exit_step : IsStep F cost (S n) (S (suc n))
    exit_step = step n an nb

    abbrev q : ℕ
    q = exit_step.moves.column

    abbrev r : ℕ
    r = exit_step.moves.row

    abbrev price_in : ℕ → Rational
    price_in j = price F (S m) cost j

    it_enters : entry_step.moves.column ≡ t
    it_enters = entering_column F (S m) (S (suc m)) entry_step.moves t outside inside

    it_leaves : basic (S n) r ≡ t
    it_leaves = leaving_column F (S n) (S (suc n)) exit_step.moves t held gone

    -- what changes is no greater
    at_most : (j : ℕ) → j < F.reals + F.rows → changes j ≡ true → j ≤ t
    at_most j c e = not_above_lem j t (λ d. true≢false (sym e ∙ greatest.2 j d c))
      where
        not_above_lem : (j t : ℕ) → ¬ (t < j) → j ≤ t
        not_above_lem j t n = omega (arith, n)

    price-negative : price_in t ‹ℚ zero_ℚ
    price-negative = subst (λ j. price_in j ‹ℚ zero_ℚ) it_enters entry_step.enters.negative

    price-nonneg : (j : ℕ) → j < t → zero_ℚ ≤ℚ price_in j
    price-nonneg j c = entry_step.enters.least j (subst (λ k. j < k) (sym it_enters) c)

    -- the entering column is less than t
    entering-below : q < t
    entering-below =
        below_lem q t (at_most q (real_column q F.reals F.rows exit_step.moves.real)
        (entering_changes n an nb))
        (λ e. true≢false (sym held ∙ ap (λ j. at j n) (sym e)
        ∙ enters_from_outside F cost (S n) (S (suc n)) (stands n) exit_step))
      where
        below_lem : (j t : ℕ) → j ≤ t → ¬ (j ≡ t) → j < t
        below_lem j t h k = omega (arith, h, k)

        real_column : (q c m : ℕ) → q < c → q < c + m
        real_column q c m h = omega (arith, h)

    -- by the identity of prices
    sum-above : zero_ℚ ‹ℚ sum_to F.rows (λ i. price_in (basic (S n) i) *ℚ entry F (S n) q i)
    sum-above =
        lowered_above (price F (S n) cost q) (price_in q)
        (sum_to F.rows (λ i. price_in (basic (S n) i) *ℚ entry F (S n) q i))
        (price-exchanged F (S m) (S n) (stands m).basis (stands n).basis cost q)
        exit_step.enters.negative (price-nonneg q entering-below)

    -- a column of positive product isn't basic where t enters, and so it changes, in a row of right
    -- side 0
    module _ (i : ℕ) (c : i < F.rows)
        (above : zero_ℚ ‹ℚ (price_in (basic (S n) i) *ℚ entry F (S n) q i)) where
      abbrev j : ℕ
      j = basic (S n) i

      not_basic_there : at j m ≡ false
      not_basic_there = by_test (at j m) refl
        where
          by_test : (v : Bool) → at j m ≡ v → at j m ≡ false
          by_test true e = absurd (zero_product (price_in j) (entry F (S n) q i)
              (price-is_basic F (S m) (stands m).basis cost j e) above)
          by_test false e = e

      it_changes : changes j ≡ true
      it_changes = by_test (changes j) refl
        where
          by_test : (v : Bool) → changes j ≡ v → changes j ≡ true
          by_test true e = e
          by_test false e =
              absurd (true≢false (sym (basic_if F (S n) j i c refl)
              ∙ kept j e n an (omega (arith, nb)) ∙ sym (kept j e m am (omega (arith, mb)))
              ∙ not_basic_there))

      no_right_side : right_side F (S n) i ≡ zero_ℚ
      no_right_side =
          right_side-stays F cost S a b stands step (omega (arith, ordered)) same i n an
          (omega (arith, nb)) ∙ by_test (rational_eq (right_side F (S a) i) zero_ℚ) refl
        where
          by_test : (v : Bool) → rational_eq (right_side F (S a) i) zero_ℚ ≡ v
              → right_side F (S a) i ≡ zero_ℚ
          by_test true e = rational_eq-true (right_side F (S a) i) zero_ℚ e
          by_test false e =
              let moved : ¬ (right_side F (S a) i ≡ zero_ℚ) =
              rational_eq-false (right_side F (S a) i) zero_ℚ e in
              absurd (true≢false (sym (basic_if F (S m) j i c
              (row-stays F cost S a b stands step (omega (arith, ordered)) same i moved m am
              (omega (arith, mb))
              ∙ sym (row-stays F cost S a b stands step (omega (arith, ordered)) same i moved n an
              (omega (arith, nb))))) ∙ not_basic_there))

      zero_ratio : (k : ℕ) → right_side F (S n) k ≡ zero_ℚ → ratio (readings F (S n)) q k ≡ zero_ℚ
      zero_ratio k e = ap (λ x. x *ℚ inverse_ℚ (entry F (S n) q k)) e
          ∙ zero-*ℚ (inverse_ℚ (entry F (S n) q k))

      -- it isn't t, which has a positive entry and a negative price
      it_is_other : ¬ (j ≡ t)
      it_is_other e =
          not_above (price_in j) (entry F (S n) q i)
          (subst (λ k. price_in k ‹ℚ zero_ℚ) (sym e) price-negative)
          (subst (λ k. zero_ℚ ‹ℚ entry F (S n) q k)
          (basic_distinct F (S n) (stands n).basis r i exit_step.moves.within c
          (it_leaves ∙ sym e)) exit_step.leaves.above)
          above

      below : j < t
      below =
          below_lem j t (at_most j ((stands n).basis.within i c) it_changes) it_is_other
        where
          below_lem : (j t : ℕ) → j ≤ t → ¬ (j ≡ t) → j < t
          below_lem j t h k = omega (arith, h, k)

      -- so it would have left in t's place
      contradicted : ⊥
      contradicted =
          too_late j t below (subst (λ k. k ≤ j) it_leaves
          (no_later (ratio (readings F (S n)) q r) (ratio (readings F (S n)) q i) (basic (S n) r) j
          (zero_ratio r (each_degenerate F cost S a b stands step (omega (arith, ordered)) same n
          an nb)) (zero_ratio i no_right_side)
          (exit_step.leaves.least i c
          (second_above (price_in j) (entry F (S n) q i) (price-nonneg j below) above))))
        where
          too_late : (j t : ℕ) → j < t → t ≤ j → ⊥
          too_late j t h k = absurd (omega (arith, h, k))

    impossible : ⊥
    impossible =
        let found : (i : ℕ) × (i < F.rows)
        × (zero_ℚ ‹ℚ (price_in (basic (S n) i) *ℚ entry F (S n) q i)) =
        term_above F.rows (λ i. price_in (basic (S n) i) *ℚ entry F (S n) q i) sum-above in
        contradicted found.0 found.1 found.2

  -- the sets aren't equal
  pub not_again : ⊥
  not_again =
      let first : IsStep F cost (S a) (S (suc a)) = step a (omega arith) ordered in
      let found : (t : ℕ) × IsGreatest (F.reals + F.rows) changes t =
      greatest_below (F.reals + F.rows) changes first.moves.column
      (real_lem first.moves.column F.reals F.rows first.moves.real)
      (entering_changes a (omega arith) ordered) in
      let both : Rises (at found.0) a b × Falls (at found.0) a b =
      enters_and_leaves found.0 found.1.0 found.1.1 in
      impossible found.0 found.1 both.0.0 both.0.1 both.0.2 both.0.3 both.0.4 both.1.0 both.1.1
      both.1.2 both.1.3 both.1.4
    where
      real_lem : (q c m : ℕ) → q < c → q < c + m
      real_lem q c m h = omega (arith, h)

-- The duals of rows with slacks, where those of the slacks are at least 0 and cancel them: the soft
-- rows' duals are cancelled with each of their slacks' signs, so they are 0, and the rows count as
-- much as the hard rows alone.
use Rattle.std.specs.Prelude.{◌≡◌, ℕ, suc, ◌+◌, ◌<◌, ◌≤◌, Bool, true, false, cond, not, List, [], ◌∷◌, All, length, refl}
use Rattle.std.specs.Ordering.{is_le}
use Rattle.std.proofs.Common.{ap, ap₂, arith, subst, sym, true≢false, ◌∙◌}
use Rattle.std.proofs.lemmas.List.Elements.{All-cons, All-head, All-nil, All-tail}
use Rattle.ratio_core.specs.Rational.{Rational, neg_ℚ, one_ℚ, rational_cmp, zero_ℚ, ◌*ℚ◌, ◌+ℚ◌, ◌-ℚ◌, ◌≤ℚ◌}
use Rattle.rational_laws.specs.DotLaws.{dot_zeros, zeros_dot}
use Rattle.rational_laws.specs.Field.{*ℚ-neg_ℚ, *ℚ-one, *ℚ-zero, +ℚ-zero, -ℚ-itself, neg_ℚ-neg_ℚ, neg_ℚ-zero, zero-+ℚ}
use Rattle.rational_laws.specs.Order.{neg_ℚ-≤ℚ, ≤ℚ_antisymm}
use Rattle.aff_core.specs.Address.{Address}
use Rattle.aff_core.specs.Function.{Function, coefficient}
use Rattle.aff_core.specs.FunctionLists.{coefficients, constants}
use Rattle.set_core.specs.declared.set.Set.{Set}
use Rattle.set_core.specs.declared.set.Set.TheVariants.{LessThan, GreaterThan, EqualTo, Interval}
use Rattle.set_core.specs.Membership.{Dual, low_of}
use Rattle.set_core.specs.Shapes.{is_scalar}
use Rattle.dual_laws.specs.Held.{DualRow, HasDuals, adjoint, adjoint_of, gap, gap_of}
use Rattle.user_model.specs.declared.function.UserFunc.{UserFunc}
use Rattle.user_model.specs.declared.function.UserFunc.TheVariants.{Affine}
use Rattle.user_model.specs.declared.row.Row.{Row}
use Rattle.user_model.specs.Model.{variable_address}
use Rattle.certificates.specs.Points.{functions_of}
use Rattle.certificates.specs.Duals.{row_with, rows_with}
use Rattle.relaxed_model.specs.FunctionLaws.{HasVariablesBelow, below_from, coefficient_first, coefficient_kept, coefficient_second, slacks_below, zero_from, zeros_from}
use Rattle.relaxed_model.specs.Relaxed.{at_hard_rows, hard_rows, is_soft, relaxed_row, relaxed_rows, row_signs, signs_on, slack_count, with_slacks}
use Rattle.relaxed_model.specs.RowLaws.{IsOwnRow, with_func}
use Rattle.relaxed_model.specs.SoftOrHard.{SoftOrHard, of_hard, of_soft, soft_or_hard}

-- ---- numbers that are 0

times_one : (d : Rational) → d *ℚ one_ℚ +ℚ zero_ℚ ≡ d
times_one d = +ℚ-zero (d *ℚ one_ℚ) ∙ *ℚ-one d

times_minus_one : (d : Rational) → d *ℚ neg_ℚ one_ℚ +ℚ zero_ℚ ≡ neg_ℚ d
times_minus_one d =
    +ℚ-zero (d *ℚ neg_ℚ one_ℚ) ∙ *ℚ-neg_ℚ d one_ℚ ∙ ap neg_ℚ (*ℚ-one d)

nonneg_from_neg : (d : Rational) → neg_ℚ d ≤ℚ zero_ℚ → zero_ℚ ≤ℚ d
nonneg_from_neg d h =
    subst (λ q. q ≤ℚ d) neg_ℚ-zero
    (subst (λ q. neg_ℚ zero_ℚ ≤ℚ q) (neg_ℚ-neg_ℚ d) (neg_ℚ-≤ℚ (neg_ℚ d) zero_ℚ h))

-- ---- one row

-- what a slack's coefficient says of the row's dual
abbrev CancelsAt : ℕ → Set → Function → Rational → ℕ → Type 0
CancelsAt n set f d m =
    (d *ℚ coefficient (with_slacks n (signs_on set) f) (variable_address m) +ℚ zero_ℚ) ≤ℚ zero_ℚ

module _ (n : ℕ) (f : Function) (d : Rational) where
  zero_from_both : (set : Set) → signs_on set ≡ one_ℚ ∷ neg_ℚ one_ℚ ∷ []
      → ((m : ℕ) → n ≤ m → m < n + length (signs_on set) → CancelsAt n set f d m) → d ≡ zero_ℚ
  zero_from_both set e h =
      let two : length (signs_on set) ≡ 2 = ap length e in
      ≤ℚ_antisymm d zero_ℚ
      (subst (λ q. q ≤ℚ zero_ℚ)
      (ap (λ c. d *ℚ c +ℚ zero_ℚ) (ap (λ qs. coefficient (with_slacks n qs f) (variable_address n)) e
      ∙ coefficient_first n one_ℚ (neg_ℚ one_ℚ ∷ []) f) ∙ times_one d)
      (h n (omega arith) (omega (arith, two))))
      (nonneg_from_neg d (subst (λ q. q ≤ℚ zero_ℚ)
      (ap (λ c. d *ℚ c +ℚ zero_ℚ)
      (ap (λ qs. coefficient (with_slacks n qs f) (variable_address (suc n))) e
      ∙ coefficient_second n one_ℚ (neg_ℚ one_ℚ) f) ∙ times_minus_one d)
      (h (suc n) (omega arith) (omega (arith, two)))))

  soft_dual : (set : Set) → is_scalar set ≡ true → Dual set (d ∷ [])
      → ((m : ℕ) → n ≤ m → m < n + length (signs_on set) → CancelsAt n set f d m) → d ≡ zero_ℚ
  soft_dual (LessThan u) scalar dual h =
      ≤ℚ_antisymm d zero_ℚ dual
      (nonneg_from_neg d (subst (λ q. q ≤ℚ zero_ℚ)
      (ap (λ c. d *ℚ c +ℚ zero_ℚ) (coefficient_first n (neg_ℚ one_ℚ) [] f) ∙ times_minus_one d)
      (h n (omega arith) (omega arith))))
  soft_dual (GreaterThan l) scalar dual h =
      ≤ℚ_antisymm d zero_ℚ
      (subst (λ q. q ≤ℚ zero_ℚ)
      (ap (λ c. d *ℚ c +ℚ zero_ℚ) (coefficient_first n one_ℚ [] f) ∙ times_one d)
      (h n (omega arith) (omega arith)))
      dual
  soft_dual (EqualTo a) scalar dual h = zero_from_both (EqualTo a) refl h
  soft_dual (Interval l u) scalar dual h = zero_from_both (Interval l u) refl h
  soft_dual set scalar dual h = absurd (true≢false (sym scalar))

low_of_zero : (set : Set) → low_of set (zero_ℚ ∷ []) ≡ zero_ℚ
low_of_zero (LessThan u) = *ℚ-zero u
low_of_zero (GreaterThan l) = *ℚ-zero l
low_of_zero (EqualTo a) = *ℚ-zero a
low_of_zero (Interval l u) = *ℚ-zero (cond (is_le (rational_cmp zero_ℚ zero_ℚ)) l u)
low_of_zero set = refl

-- a row whose dual is 0 counts nothing
record CountsNothing (h : DualRow) : Type 0 where
  pub adjoint_is : (v : Address) → adjoint_of h v ≡ zero_ℚ
  pub gap_is : gap_of h ≡ zero_ℚ

zero_alone : All (λ q. q ≡ zero_ℚ) (zero_ℚ ∷ [])
zero_alone = All-cons (λ q. q ≡ zero_ℚ) zero_ℚ [] refl (All-nil (λ q. q ≡ zero_ℚ))

counts_nothing : (set : Set) (fs : List Function)
    → CountsNothing (record { duals = zero_ℚ ∷ []; functions = fs; set = set })
counts_nothing set fs = record {
  adjoint_is = λ v. zeros_dot (zero_ℚ ∷ []) (coefficients fs v) zero_alone;
  gap_is = ap₂ ◌-ℚ◌ (low_of_zero set) (zeros_dot (zero_ℚ ∷ []) (constants fs) zero_alone)
      ∙ -ℚ-itself zero_ℚ;
}

module _ (first n : ℕ) (after : first ≤ n) where
  row_apart : Row → List Rational → DualRow
  row_apart r y = row_with y (relaxed_row n r)

  -- before its slacks a row has the coefficient 0 at the numbers from the first on
  zeros_before : (r : Row) → IsOwnRow first r → (m : ℕ) → first ≤ m → m < n
      → All (λ q. q ≡ zero_ℚ)
      (coefficients (functions_of (relaxed_row n r).func) (variable_address m))
  zeros_before r own m from before = by (soft_or_hard r.func) own.below
    where
      by : {func : UserFunc} → SoftOrHard func
          → All {X = Function} (HasVariablesBelow first) (functions_of func)
          → All (λ q. q ≡ zero_ℚ)
          (coefficients (functions_of (relaxed_row n (with_func r func)).func) (variable_address m))
      by (of_soft f) below =
          All-cons (λ q. q ≡ zero_ℚ)
          (coefficient (with_slacks n (signs_on r.set) f) (variable_address m)) []
          (coefficient_kept n (signs_on r.set) f (variable_address m) before
          ∙ zero_from first f (All-head (HasVariablesBelow first) f [] below) (variable_address m) from)
          (All-nil (λ q. q ≡ zero_ℚ))
      by (of_hard {func} isnt same) below =
          subst (λ (g : UserFunc). All (λ q. q ≡ zero_ℚ)
          (coefficients (functions_of g) (variable_address m)))
          (sym (same (with_slacks n (signs_on r.set))))
          (zeros_from first (functions_of func) below (variable_address m) from)

  -- and after them
  zeros_behind : (r : Row) → IsOwnRow first r → (m : ℕ) → n + length (row_signs r) ≤ m
      → All (λ q. q ≡ zero_ℚ)
      (coefficients (functions_of (relaxed_row n r).func) (variable_address m))
  zeros_behind r own m behind = by (soft_or_hard r.func) own.below behind
    where
      by : {func : UserFunc} → SoftOrHard func
          → All {X = Function} (HasVariablesBelow first) (functions_of func)
          → n + length (row_signs (with_func r func)) ≤ m
          → All (λ q. q ≡ zero_ℚ)
          (coefficients (functions_of (relaxed_row n (with_func r func)).func) (variable_address m))
      by (of_soft f) below behind =
          All-cons (λ q. q ≡ zero_ℚ)
          (coefficient (with_slacks n (signs_on r.set) f) (variable_address m)) []
          (zero_from (n + length (signs_on r.set)) (with_slacks n (signs_on r.set) f)
          (slacks_below n (signs_on r.set) f
          (below_from first n after f (All-head (HasVariablesBelow first) f [] below)))
          (variable_address m) behind)
          (All-nil (λ q. q ≡ zero_ℚ))
      by (of_hard {func} isnt same) below behind =
          subst (λ (g : UserFunc). All (λ q. q ≡ zero_ℚ)
          (coefficients (functions_of g) (variable_address m)))
          (sym (same (with_slacks n (signs_on r.set))))
          (zeros_from first (functions_of func) below (variable_address m)
          (omega (arith, after, behind)))

  -- a soft row's dual is 0 where its slacks' duals are at least 0
  soft_counts_nothing : (r : Row) (y : List Rational) → IsOwnRow first r → is_soft r ≡ true
      → HasDuals (row_with y (relaxed_row n r))
      → ((m : ℕ) → n ≤ m → m < n + length (row_signs r)
      → adjoint_of (row_with y (relaxed_row n r)) (variable_address m) ≤ℚ zero_ℚ)
      → CountsNothing (row_with y (relaxed_row n r))
  soft_counts_nothing r y own soft duals cancels =
      by (soft_or_hard r.func) y (own.scalar soft) soft duals cancels
    where
      lone : (f : Function) (y : List Rational) → is_scalar r.set ≡ true → length y ≡ 1
          → Dual r.set y
          → ((m : ℕ) → n ≤ m → m < n + length (signs_on r.set)
          → adjoint_of (row_with y (relaxed_row n (with_func r (Affine f)))) (variable_address m)
          ≤ℚ zero_ℚ)
          → CountsNothing (row_with y (relaxed_row n (with_func r (Affine f))))
      lone f [] scalar size dual cancels = absurd (omega (arith, size))
      lone f (d ∷ []) scalar size dual cancels =
          subst (λ q. CountsNothing (row_with (q ∷ []) (relaxed_row n (with_func r (Affine f)))))
          (sym (soft_dual n f d r.set scalar dual cancels))
          (counts_nothing r.set (with_slacks n (signs_on r.set) f ∷ []))
      lone f (d ∷ e ∷ ds) scalar size dual cancels = absurd (omega (arith, size))

      by : {func : UserFunc} → SoftOrHard func → (y : List Rational) → is_scalar r.set ≡ true
          → is_soft (with_func r func) ≡ true
          → HasDuals (row_with y (relaxed_row n (with_func r func)))
          → ((m : ℕ) → n ≤ m → m < n + length (row_signs (with_func r func))
          → adjoint_of (row_with y (relaxed_row n (with_func r func))) (variable_address m)
          ≤ℚ zero_ℚ)
          → CountsNothing (row_with y (relaxed_row n (with_func r func)))
      by (of_soft f) y scalar soft duals cancels = lone f y scalar duals.size duals.dual cancels
      by (of_hard isnt same) y scalar soft duals cancels = absurd (true≢false (sym soft ∙ isnt))

pub hard_row_kept : (n : ℕ) (r : Row) → is_soft r ≡ false → relaxed_row n r ≡ r
hard_row_kept n r hard = by (soft_or_hard r.func) hard
  where
    by : {func : UserFunc} → SoftOrHard func → is_soft (with_func r func) ≡ false
        → relaxed_row n (with_func r func) ≡ with_func r func
    by (of_soft f) hard = absurd (true≢false hard)
    by (of_hard isnt same) hard = ap (with_func r) (same (with_slacks n (signs_on r.set)))

-- ---- all rows

-- rows with duals count as much as these rows alone
pub record CountAs (all : List DualRow) (ys : List (List Rational)) (rows : List Row) : Type 0 where
  pub adjoints : (v : Address) → adjoint all v ≡ adjoint (rows_with ys rows) v
  pub gaps : gap all ≡ gap (rows_with ys rows)
  pub duals : All HasDuals (rows_with ys rows)
  pub size : length ys ≡ length rows

without_nothing : (h : DualRow) (all : List DualRow) (ys : List (List Rational)) (rows : List Row)
    → CountsNothing h → CountAs all ys rows → CountAs (h ∷ all) ys rows
without_nothing h all ys rows nothing rest = record {
  adjoints = λ v. ap₂ ◌+ℚ◌ (nothing.adjoint_is v) (rest.adjoints v)
      ∙ zero-+ℚ (adjoint (rows_with ys rows) v);
  gaps = ap₂ ◌+ℚ◌ nothing.gap_is rest.gaps ∙ zero-+ℚ (gap (rows_with ys rows));
  duals = rest.duals;
  size = rest.size;
}

with_one : (y : List Rational) (r : Row) (all : List DualRow) (ys : List (List Rational))
    (rows : List Row) → HasDuals (row_with y r) → CountAs all ys rows
    → CountAs (row_with y r ∷ all) (y ∷ ys) (r ∷ rows)
with_one y r all ys rows has rest = record {
  adjoints = λ v. ap (λ q. adjoint_of (row_with y r) v +ℚ q) (rest.adjoints v);
  gaps = ap (λ q. gap_of (row_with y r) +ℚ q) rest.gaps;
  duals = All-cons HasDuals (row_with y r) (rows_with ys rows) has rest.duals;
  size = ap suc rest.size;
}

module _ (first : ℕ) where
  nothing_before : (n : ℕ) → first ≤ n → (rows : List Row) (ys : List (List Rational))
      → All (IsOwnRow first) rows → (m : ℕ) → first ≤ m → m < n
      → adjoint (rows_with ys (relaxed_rows n rows)) (variable_address m) ≡ zero_ℚ
  nothing_before n after rows [] own m from before = refl
  nothing_before n after [] (y ∷ ys) own m from before = refl
  nothing_before n after (r ∷ rows) (y ∷ ys) own m from before =
      ap₂ ◌+ℚ◌
      (dot_zeros y (coefficients (functions_of (relaxed_row n r).func) (variable_address m))
      (zeros_before first n after r (All-head (IsOwnRow first) r rows own) m from before))
      (nothing_before (n + length (row_signs r)) (omega (arith, after)) rows ys
      (All-tail (IsOwnRow first) r rows own) m from (omega (arith, before)))
      ∙ zero-+ℚ zero_ℚ

  -- a row more, and what is said of its slacks and of those of the others
  module _ (n : ℕ) (after : first ≤ n) (r : Row) (rows : List Row) (y : List Rational)
      (ys : List (List Rational)) (own : All (IsOwnRow first) (r ∷ rows)) where
    abbrev behind : ℕ
    behind = n + length (row_signs r)

    abbrev here : DualRow
    here = row_with y (relaxed_row n r)

    abbrev others : List DualRow
    others = rows_with ys (relaxed_rows behind rows)

    module _ (cancels : (m : ℕ) → n ≤ m → m < n + slack_count (r ∷ rows)
        → (adjoint_of here (variable_address m) +ℚ adjoint others (variable_address m)) ≤ℚ zero_ℚ)
      where
        cancels_here : (m : ℕ) → n ≤ m → m < behind
            → adjoint_of here (variable_address m) ≤ℚ zero_ℚ
        cancels_here m from to =
            subst (λ q. q ≤ℚ zero_ℚ)
            (ap (λ q. adjoint_of here (variable_address m) +ℚ q)
            (nothing_before behind (omega (arith, after)) rows ys
            (All-tail (IsOwnRow first) r rows own) m (omega (arith, after, from)) to)
            ∙ +ℚ-zero (adjoint_of here (variable_address m)))
            (cancels m from (omega (arith, to)))

        cancels_later : (m : ℕ) → behind ≤ m → m < behind + slack_count rows
            → adjoint others (variable_address m) ≤ℚ zero_ℚ
        cancels_later m from to =
            subst (λ q. q ≤ℚ zero_ℚ)
            (ap (λ q. q +ℚ adjoint others (variable_address m))
            (dot_zeros y (coefficients (functions_of (relaxed_row n r).func) (variable_address m))
            (zeros_behind first n after r (All-head (IsOwnRow first) r rows own) m from))
            ∙ zero-+ℚ (adjoint others (variable_address m)))
            (cancels m (omega (arith, from)) (omega (arith, to)))

        one_part : HasDuals here → CountAs others (at_hard_rows rows ys) (hard_rows rows)
            → CountAs (here ∷ others) (at_hard_rows (r ∷ rows) (y ∷ ys)) (hard_rows (r ∷ rows))
        one_part has rest = by (is_soft r) refl
          where
            by : (b : Bool) → is_soft r ≡ b
                → CountAs (here ∷ others)
                (cond (not b) (y ∷ at_hard_rows rows ys) (at_hard_rows rows ys))
                (cond (not b) (r ∷ hard_rows rows) (hard_rows rows))
            by true soft =
                without_nothing here others (at_hard_rows rows ys) (hard_rows rows)
                (soft_counts_nothing first n after r y (All-head (IsOwnRow first) r rows own) soft has
                cancels_here) rest
            by false hard =
                subst (λ (q : Row). CountAs (row_with y q ∷ others) (y ∷ at_hard_rows rows ys)
                (r ∷ hard_rows rows)) (sym (hard_row_kept n r hard))
                (with_one y r others (at_hard_rows rows ys) (hard_rows rows)
                (subst (λ (q : Row). HasDuals (row_with y q)) (hard_row_kept n r hard) has) rest)

  pub hard_part : (n : ℕ) → first ≤ n → (rows : List Row) (ys : List (List Rational))
      → All (IsOwnRow first) rows → length ys ≡ length rows
      → All HasDuals (rows_with ys (relaxed_rows n rows))
      → ((m : ℕ) → n ≤ m → m < n + slack_count rows
      → adjoint (rows_with ys (relaxed_rows n rows)) (variable_address m) ≤ℚ zero_ℚ)
      → CountAs (rows_with ys (relaxed_rows n rows)) (at_hard_rows rows ys) (hard_rows rows)
  hard_part n after [] [] own size duals cancels =
      record { adjoints = λ v. refl; gaps = refl; duals = All-nil HasDuals; size = refl }
  hard_part n after [] (y ∷ ys) own size duals cancels = absurd (omega (arith, size))
  hard_part n after (r ∷ rows) [] own size duals cancels = absurd (omega (arith, size))
  hard_part n after (r ∷ rows) (y ∷ ys) own size duals cancels =
      let first_row : DualRow = row_with y (relaxed_row n r) in
      let others : List DualRow =
      rows_with ys (relaxed_rows (n + length (row_signs r)) rows) in
      one_part n after r rows y ys own cancels (All-head HasDuals first_row others duals)
      (hard_part (n + length (row_signs r)) (omega (arith, after)) rows ys
      (All-tail (IsOwnRow first) r rows own) (omega (arith, size))
      (All-tail HasDuals first_row others duals)
      (cancels_later n after r rows y ys own cancels))

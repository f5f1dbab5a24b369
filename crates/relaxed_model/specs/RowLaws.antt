-- Rows with their slacks, at a point: a point of the model and slacks that meet the sets make a point
-- of the relaxed rows, and every such point has slacks that are together at least by how much its
-- part misses the soft rows.
use Rattle.std.specs.Prelude.{◌≡◌, ℕ, ◌+◌, ◌<◌, ◌≤◌, Bool, true, false, cond, not, List, [], ◌∷◌, ◌++◌, All, drop, length, map, take, refl}
use Rattle.std.proofs.Common.{ap, ap₂, arith, subst, sym, true≢false, ◌∙◌}
use Rattle.std.proofs.Math.Seq.{drop-append_seam, take-append_seam}
use Rattle.std.proofs.lemmas.List.{length-append}
use Rattle.std.proofs.lemmas.List.Elements.{All-append, All-cons, All-head, All-nil, All-tail}
use Rattle.map_laws.specs.EachLaws.{all_first, all_second}
use Rattle.ratio_core.specs.Rational.{Rational, zero_ℚ, ◌+ℚ◌, ◌≤ℚ◌}
use Rattle.rational_laws.specs.Dot.{dot}
use Rattle.rational_laws.specs.Field.{zero-+ℚ}
use Rattle.rational_laws.specs.Order.{≤ℚ-+ℚ, ≤ℚ_refl}
use Rattle.rational_laws.specs.Sums.{sum_ℚ, sum_ℚ-append}
use Rattle.aff_core.specs.Address.{Address}
use Rattle.aff_core.specs.Function.{Function, value_of}
use Rattle.aff_core.specs.FunctionLists.{values}
use Rattle.set_core.specs.Membership.{In}
use Rattle.set_core.specs.Shapes.{is_crossed, is_scalar}
use Rattle.set_core.specs.Vectors.{AllNonnegative}
use Rattle.user_model.specs.declared.function.UserFunc.{UserFunc}
use Rattle.user_model.specs.declared.row.Row.{Row}
use Rattle.certificates.specs.Points.{functions_of}
use Rattle.group_numbering.specs.NumberLaws.{length-numbers_from, numbers_from, numbers_from-append}
use Rattle.group_numbering.specs.PlaceLaws.{joined_alike}
use Rattle.relaxed_model.specs.FunctionLaws.{HasVariablesBelow, below_from, value_below, value_with_slacks, values_below}
use Rattle.relaxed_model.specs.Relaxed.{hard_rows, is_soft, relaxed_row, relaxed_rows, row_signs, row_value, row_violation, signs_on, slack_count, slack_violation, slack_violations, soft_rows, with_slacks}
use Rattle.relaxed_model.specs.SoftOrHard.{SoftOrHard, of_hard, of_soft, soft_or_hard}
use Rattle.relaxed_model.specs.SlackLaws.{AreEnough, both_equal, length-slacks_on, slackened, slacks_enough, slacks_meet, slacks_nonneg, slacks_on, slacks_sum}

abbrev pub RowHoldsAt : (Address → Rational) → Row → Type 0
RowHoldsAt x r = In r.set (values (functions_of r.func) x)

-- a row of a valid model whose variables are numbered below n
pub record IsOwnRow (n : ℕ) (r : Row) : Type 0 where
  pub below : All {X = Function} (HasVariablesBelow n) (functions_of r.func)
  pub uncrossed : is_crossed r.set ≡ false
  pub scalar : is_soft r ≡ true → is_scalar r.set ≡ true

-- the row with another function
abbrev pub with_func : Row → UserFunc → Row
with_func r func = record r { func = func }

-- ---- hard rows and soft ones

module _ {X : Type 0} where
  abbrev kept_if : Bool → X → List X → List X
  kept_if b x xs = cond b (x ∷ xs) xs

  split_kept : (P : X → Type 0) (b : Bool) (x : X) (xs : List X)
      → All P (cond (not b) (x ∷ xs) xs) → (b ≡ false → P x) × All P xs
  split_kept P true x xs h = (λ e. absurd (true≢false e), h)
  split_kept P false x xs h = (λ _. All-head P x xs h, All-tail P x xs h)

  join_kept : (P : X → Type 0) (b : Bool) (x : X) (xs : List X) → (b ≡ false → P x) → All P xs
      → All P (cond (not b) (x ∷ xs) xs)
  join_kept P true x xs here rest = rest
  join_kept P false x xs here rest = All-cons P x xs (here refl) rest

-- the violation of a row, and 0 for a hard row
abbrev pub soft_violation : (Address → Rational) → Row → Rational
soft_violation x r = cond (is_soft r) (row_violation x r) zero_ℚ

sum_kept : (b : Bool) (f : Row → Rational) (r : Row) (rows : List Row)
    → sum_ℚ (map f (cond b (r ∷ rows) rows)) ≡ cond b (f r) zero_ℚ +ℚ sum_ℚ (map f rows)
sum_kept true f r rows = refl
sum_kept false f r rows = sym (zero-+ℚ (sum_ℚ (map f rows)))

-- ---- the slacks that a point needs

abbrev pub own_slacks : (Address → Rational) → Row → List Rational
own_slacks y r = cond (is_soft r) (slacks_on r.set (row_value y r)) []

abbrev pub row_slacks : (Address → Rational) → List Row → List Rational
row_slacks y [] = []
row_slacks y (r ∷ rows) = own_slacks y r ++ row_slacks y rows

length-own_slacks : (y : Address → Rational) (r : Row)
    → length (own_slacks y r) ≡ length (row_signs r)
length-own_slacks y r = by (is_soft r)
  where
    by : (b : Bool) → length (cond b (slacks_on r.set (row_value y r)) [])
        ≡ length (cond b (signs_on r.set) [])
    by true = length-slacks_on r.set (row_value y r)
    by false = refl

pub length-row_slacks : (y : Address → Rational) (rows : List Row)
    → length (row_slacks y rows) ≡ slack_count rows
length-row_slacks y [] = refl
length-row_slacks y (r ∷ rows) =
    length-append (own_slacks y r) (row_slacks y rows)
    ∙ ap₂ ◌+◌ (length-own_slacks y r) (length-row_slacks y rows)

own_nonneg : (y : Address → Rational) (r : Row) → AllNonnegative (own_slacks y r)
own_nonneg y r = by (is_soft r)
  where
    by : (b : Bool) → AllNonnegative (cond b (slacks_on r.set (row_value y r)) [])
    by true = slacks_nonneg r.set (row_value y r)
    by false = All-nil (λ q. zero_ℚ ≤ℚ q)

pub row_slacks_nonneg : (y : Address → Rational) (rows : List Row)
    → AllNonnegative (row_slacks y rows)
row_slacks_nonneg y [] = All-nil (λ q. zero_ℚ ≤ℚ q)
row_slacks_nonneg y (r ∷ rows) =
    All-append (λ q. zero_ℚ ≤ℚ q) (own_slacks y r) (row_slacks y rows) (own_nonneg y r)
    (row_slacks_nonneg y rows)

own_sum : (y : Address → Rational) (r : Row) → sum_ℚ (own_slacks y r) ≡ soft_violation y r
own_sum y r = by (is_soft r)
  where
    by : (b : Bool) → sum_ℚ (cond b (slacks_on r.set (row_value y r)) [])
        ≡ cond b (row_violation y r) zero_ℚ
    by true = slacks_sum r.set (row_value y r)
    by false = refl

-- they come to by how much the point misses the soft rows
pub row_slacks_sum : (y : Address → Rational) (rows : List Row)
    → sum_ℚ (row_slacks y rows) ≡ sum_ℚ (map (row_violation y) (soft_rows rows))
row_slacks_sum y [] = refl
row_slacks_sum y (r ∷ rows) =
    sum_ℚ-append (own_slacks y r) (row_slacks y rows)
    ∙ ap₂ ◌+ℚ◌ (own_sum y r) (row_slacks_sum y rows)
    ∙ sym (sum_kept (is_soft r) (row_violation y) r (soft_rows rows))

-- ---- all slacks with which rows are met

-- what is known of one row: it is met where it is hard, and missed by no more than its slacks
pub record IsEnoughFor (y : Address → Rational) (r : Row) (ts : List Rational) : Type 0 where
  pub hard : is_soft r ≡ false → RowHoldsAt y r
  pub least : soft_violation y r ≤ℚ sum_ℚ ts
  pub exact : is_soft r ≡ true → sum_ℚ ts ≡ row_violation y r
      → slack_violation ts ≡ row_violation y r

-- the hard rows are met, and the soft ones missed by no more than the slacks; where it is as much,
-- the slacks say by how much each is
pub record AreEnoughFor (y : Address → Rational) (rows : List Row)
    (ts : List Rational) : Type 0 where
  pub hard : All (RowHoldsAt y) (hard_rows rows)
  pub least : sum_ℚ (map (row_violation y) (soft_rows rows)) ≤ℚ sum_ℚ ts
  pub exact : sum_ℚ ts ≡ sum_ℚ (map (row_violation y) (soft_rows rows))
      → slack_violations rows ts ≡ map (row_violation y) (soft_rows rows)

-- one row more
module _ (y : Address → Rational) (r : Row) (rows : List Row) (own others : List Rational)
    (size : length own ≡ length (row_signs r)) (here : IsEnoughFor y r own)
    (rest : AreEnoughFor y rows others) where
  abbrev all : List Rational
  all = own ++ others

  total_is : sum_ℚ (map (row_violation y) (soft_rows (r ∷ rows)))
      ≡ soft_violation y r +ℚ sum_ℚ (map (row_violation y) (soft_rows rows))
  total_is = sum_kept (is_soft r) (row_violation y) r (soft_rows rows)

  violations_with : (b : Bool) → is_soft r ≡ b
      → soft_violation y r ≡ sum_ℚ own
      → slack_violations rows others ≡ map (row_violation y) (soft_rows rows)
      → cond b (slack_violation own ∷ slack_violations rows others) (slack_violations rows all)
      ≡ map (row_violation y) (cond b (r ∷ soft_rows rows) (soft_rows rows))
  violations_with true soft same others_are =
      ap₂ (λ q qs. q ∷ qs)
      (here.exact soft (sym same ∙ ap (λ b. cond b (row_violation y r) zero_ℚ) soft)) others_are
  violations_with false soft same others_are =
      ap (slack_violations rows) (ap (λ qs. qs ++ others) (none own
      (size ∙ ap (λ b. length (cond b (signs_on r.set) [])) soft)))
      ∙ others_are
    where
      none : (qs : List Rational) → length qs ≡ 0 → qs ≡ []
      none [] e = refl
      none (q ∷ qs) e = absurd (omega (arith, e))

  exact_more : sum_ℚ all ≡ sum_ℚ (map (row_violation y) (soft_rows (r ∷ rows)))
      → slack_violations (r ∷ rows) all ≡ map (row_violation y) (soft_rows (r ∷ rows))
  exact_more e =
      let same = both_equal (soft_violation y r) (sum_ℚ own)
      (sum_ℚ (map (row_violation y) (soft_rows rows))) (sum_ℚ others) here.least rest.least
      (sym (sum_ℚ-append own others) ∙ e ∙ total_is) in
      (λ i. cond (is_soft r)
      (slack_violation (first_part i) ∷ slack_violations rows (last_part i))
      (slack_violations rows all))
      ∙ violations_with (is_soft r) refl same.0 (rest.exact (sym same.1))
    where
      first_part : take (length (row_signs r)) all ≡ own
      first_part = ap (λ n. take n all) (sym size) ∙ take-append_seam own others

      last_part : drop (length (row_signs r)) all ≡ others
      last_part = ap (λ n. drop n all) (sym size) ∙ drop-append_seam own others

  one_more : AreEnoughFor y (r ∷ rows) all
  one_more = record {
    hard = join_kept (RowHoldsAt y) (is_soft r) r (hard_rows rows) here.hard rest.hard;
    least =
        subst (λ q. q ≤ℚ sum_ℚ all) (sym total_is)
        (subst (λ q. (soft_violation y r +ℚ sum_ℚ (map (row_violation y) (soft_rows rows))) ≤ℚ q)
        (sym (sum_ℚ-append own others))
        (≤ℚ-+ℚ (soft_violation y r) (sum_ℚ own) (sum_ℚ (map (row_violation y) (soft_rows rows)))
        (sum_ℚ others) here.least rest.least));
    exact = exact_more;
  }

-- ---- x has slacks beside the numbers of y

module _ (first : ℕ) (x y : Address → Rational)
    (agree : (v : Address) → v.number < first → x v ≡ y v) where
  -- a soft row's value at x
  soft_value : (n : ℕ) → first ≤ n → (qs : List Rational) (f : Function) → HasVariablesBelow first f
      → value_of (with_slacks n qs f) x
      ≡ value_of f y +ℚ dot qs (numbers_from x n (length qs))
  soft_value n h qs f below =
      value_with_slacks n qs f x (below_from first n h f below)
      ∙ ap (λ q. q +ℚ dot qs (numbers_from x n (length qs))) (value_below first f x y below agree)

  -- ---- slacks that meet the sets

  one_relaxed : (n : ℕ) → first ≤ n → (r : Row) → IsOwnRow first r
      → numbers_from x n (length (row_signs r)) ≡ own_slacks y r
      → (is_soft r ≡ false → RowHoldsAt y r)
      → RowHoldsAt x (relaxed_row n r)
  one_relaxed n h r own slacks hard = by (soft_or_hard r.func) own slacks hard
    where
      kept : (func : UserFunc) → All {X = Function} (HasVariablesBelow first) (functions_of func)
          → In r.set (values (functions_of func) y) → In r.set (values (functions_of func) x)
      kept func below inside =
          subst (In r.set) (sym (values_below first (functions_of func) x y below agree)) inside

      by : {func : UserFunc} → SoftOrHard func → IsOwnRow first (with_func r func)
          → numbers_from x n (length (row_signs (with_func r func)))
          ≡ own_slacks y (with_func r func)
          → (is_soft (with_func r func) ≡ false → RowHoldsAt y (with_func r func))
          → RowHoldsAt x (relaxed_row n (with_func r func))
      by (of_soft f) own slacks hard =
          subst (λ q. In r.set (q ∷ []))
          (sym (soft_value n h (signs_on r.set) f (All-head (HasVariablesBelow first) f [] own.below)
          ∙ ap (slackened r.set (value_of f y)) slacks))
          (slacks_meet r.set (value_of f y) own.uncrossed (own.scalar refl))
      by (of_hard {func} isnt same) own slacks hard =
          subst (λ (g : UserFunc). In r.set (values (functions_of g) x))
          (sym (same (with_slacks n (signs_on r.set)))) (kept func own.below (hard isnt))

  pub rows_relaxed : (n : ℕ) → first ≤ n → (rows : List Row) → All (IsOwnRow first) rows
      → numbers_from x n (slack_count rows) ≡ row_slacks y rows
      → All (RowHoldsAt y) (hard_rows rows)
      → All (RowHoldsAt x) (relaxed_rows n rows)
  rows_relaxed n h [] own slacks hard = All-nil (RowHoldsAt x)
  rows_relaxed n h (r ∷ rows) own slacks hard =
      let size : ℕ = length (row_signs r) in
      let parts = joined_alike (numbers_from x n size) (numbers_from x (n + size) (slack_count rows))
      (own_slacks y r) (row_slacks y rows)
      (length-numbers_from x n size ∙ sym (length-own_slacks y r))
      (sym (numbers_from-append x n size (slack_count rows)) ∙ slacks) in
      let split = split_kept (RowHoldsAt y) (is_soft r) r (hard_rows rows) hard in
      All-cons (RowHoldsAt x) (relaxed_row n r) (relaxed_rows (n + size) rows)
      (one_relaxed n h r (All-head (IsOwnRow first) r rows own) parts.0 split.0)
      (rows_relaxed (n + size) (omega (arith, h)) rows (All-tail (IsOwnRow first) r rows own)
      parts.1 split.1)

  -- ---- all slacks with which the rows are met

  one_enough : (n : ℕ) → first ≤ n → (r : Row) → IsOwnRow first r
      → AllNonnegative (numbers_from x n (length (row_signs r))) → RowHoldsAt x (relaxed_row n r)
      → IsEnoughFor y r (numbers_from x n (length (row_signs r)))
  one_enough n h r own nonneg inside = by (soft_or_hard r.func) own nonneg inside
    where
      kept : (func : UserFunc) → All {X = Function} (HasVariablesBelow first) (functions_of func)
          → In r.set (values (functions_of func) x) → In r.set (values (functions_of func) y)
      kept func below inside =
          subst (In r.set) (values_below first (functions_of func) x y below agree) inside

      by : {func : UserFunc} → SoftOrHard func → IsOwnRow first (with_func r func)
          → AllNonnegative (numbers_from x n (length (row_signs (with_func r func))))
          → RowHoldsAt x (relaxed_row n (with_func r func))
          → IsEnoughFor y (with_func r func)
          (numbers_from x n (length (row_signs (with_func r func))))
      by (of_soft f) own nonneg inside =
          let ts : List Rational = numbers_from x n (length (signs_on r.set)) in
          let enough : AreEnough r.set (value_of f y) ts =
          slacks_enough r.set (value_of f y) ts own.uncrossed
          (length-numbers_from x n (length (signs_on r.set))) nonneg
          (subst (λ q. In r.set (q ∷ []))
          (soft_value n h (signs_on r.set) f (All-head (HasVariablesBelow first) f [] own.below)) inside) in
          record {
            hard = λ e. absurd (true≢false e);
            least = enough.least;
            exact = λ _. enough.exact;
          }
      by (of_hard {func} isnt same) own nonneg inside = record {
        hard = λ _. kept func own.below
            (subst (λ (g : UserFunc). In r.set (values (functions_of g) x))
            (same (with_slacks n (signs_on r.set))) inside);
        least = subst (λ b. cond b (row_violation y (with_func r func)) zero_ℚ
            ≤ℚ sum_ℚ (numbers_from x n (length (cond b (signs_on r.set) [])))) (sym isnt)
            (≤ℚ_refl zero_ℚ);
        exact = λ e. absurd (true≢false (sym e ∙ isnt));
      }

  pub rows_enough : (n : ℕ) → first ≤ n → (rows : List Row) → All (IsOwnRow first) rows
      → AllNonnegative (numbers_from x n (slack_count rows))
      → All (RowHoldsAt x) (relaxed_rows n rows)
      → AreEnoughFor y rows (numbers_from x n (slack_count rows))
  rows_enough n h [] own nonneg inside = record {
    hard = All-nil (RowHoldsAt y);
    least = ≤ℚ_refl zero_ℚ;
    exact = λ _. refl;
  }
  rows_enough n h (r ∷ rows) own nonneg inside =
      let size : ℕ = length (row_signs r) in
      let split = numbers_from-append x n size (slack_count rows) in
      let both = subst AllNonnegative split nonneg in
      subst (AreEnoughFor y (r ∷ rows)) (sym split)
      (one_more y r rows (numbers_from x n size) (numbers_from x (n + size) (slack_count rows))
      (length-numbers_from x n size)
      (one_enough n h r (All-head (IsOwnRow first) r rows own)
      (all_first (λ q. zero_ℚ ≤ℚ q) (numbers_from x n size)
      (numbers_from x (n + size) (slack_count rows)) both)
      (All-head (RowHoldsAt x) (relaxed_row n r) (relaxed_rows (n + size) rows) inside))
      (rows_enough (n + size) (omega (arith, h)) rows (All-tail (IsOwnRow first) r rows own)
      (all_second (λ q. zero_ℚ ≤ℚ q) (numbers_from x n size)
      (numbers_from x (n + size) (slack_count rows)) both)
      (All-tail (RowHoldsAt x) (relaxed_row n r) (relaxed_rows (n + size) rows) inside)))

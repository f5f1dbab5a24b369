-- Square matrices: the lengths of their rows and columns, and rows of the unit matrix so far.
use Rattle.std.specs.Prelude.{◌≡◌, ◌↔◌, ◌==◌, ℕ, ◌+◌, ◌<◌, ◌≤◌, Bool, cond, not, replicate, true, false, ◌&&◌, IsTrue, List, [], ◌∷◌, ◌++◌, All, length, map, take, slice_index_or, refl}
use Rattle.std.specs.List.{range_with_len}
use Rattle.std.proofs.Common.{sym, ◌∙◌, ap, ap₂, arith, inl, inr, subst, get_or, true≢false}
use Rattle.std.proofs.lemmas.Bool.{cases_Bool, eq-eqb, eqb-true}
use Rattle.std.proofs.lemmas.Grind.{get_or-set_at}
use Rattle.std.proofs.lemmas.List.{get_or-replicate, get_or-set_other, get_or_default, length-map, length-replicate, length-set, take_all, take_more}
use Rattle.std.proofs.lemmas.List.Elements.{All-map, All-weaker}
use Rattle.std.proofs.lemmas.List.FromFn.{get_or-map-range_with_len, map-range_with_len_more}
use Rattle.map_laws.specs.LoopLaws.{map-take_more}
use Rattle.ratio_core.specs.Rational.{Rational, one_ℚ, rational_eq, zero_ℚ}
use Rattle.ratio_core.specs.RationalLaws.{rational_eq_Decides}
use Rattle.set_map.specs.Matrices.{AreInverse, ArePair, IsSquare, Matrix, column, product, transposed, unit, unit_number, unit_row}

pub within : (n : ℕ) (m : Matrix) (i : ℕ) → IsSquare n m → i < n → All (λ row. i < length row) m
within n m i s lt =
    All-weaker (λ row. length row ≡ n) (λ row. i < length row)
    (λ row e. subst (λ k. i < k) (sym e) lt) m s.numbers

pub square_itself : (n : ℕ) (m : Matrix) → IsSquare n m → IsSquare (length m) m
square_itself n m s = record {
  rows = refl;
  numbers = subst (λ k. All (λ row. length row ≡ k) m) (sym s.rows) s.numbers;
}

-- each row has n numbers, for any k that equals n
pub widths : (n k : ℕ) (m : Matrix) → IsSquare n m → k ≡ n → All (λ row. length row ≡ k) m
widths n k m s e = subst (λ j. All (λ row. length row ≡ j) m) (sym e) s.numbers

pub columns_long : (m : Matrix) (k : ℕ) → k ≡ length m → All (λ c. length c ≡ k) (transposed m)
columns_long m k e =
    All-map (λ c. length c ≡ k) (column m) (range_with_len 0 (length m))
    (λ j d end. length-map m (λ row. slice_index_or row _ zero_ℚ) ∙ sym e)

-- the columns of one matrix are as long as the rows of another of its size
pub columns_as_rows : (n : ℕ) (a b : Matrix) → IsSquare n a → IsSquare n b
    → All (λ row. All (λ c. length c ≡ length row) (transposed b)) a
columns_as_rows n a b s t =
    All-weaker (λ row. length row ≡ n) (λ row. All (λ c. length c ≡ length row) (transposed b))
    (λ row e. columns_long b (length row) (e ∙ sym t.rows)) a s.numbers

-- one column more
pub column_more : (m made next : Matrix) (i : ℕ) (x : List Rational)
    → made ≡ map (column m) (range_with_len 0 i) → x ≡ column m i → next ≡ made ++ x ∷ []
    → next ≡ map (column m) (range_with_len 0 (i + 1))
column_more m made next i x so_far is e =
    e ∙ ap₂ (λ xs y. xs ++ y ∷ []) so_far is
    ∙ sym (map-range_with_len_more (column m) 0 i i (zero_lem i))
  where
    zero_lem : (k : ℕ) → 0 + k ≡ k
    zero_lem k = omega arith

-- ---- rows of the unit matrix

module _ (m : Matrix) (i : ℕ) (row : List Rational) (is : row ≡ get_or m i row)
    (lt : i < length m) where
  -- one row more
  pub unit_more : take i m ≡ map (unit_row (length m)) (range_with_len 0 i)
      → row ≡ unit_row (length m) i
      → take (i + 1) m ≡ map (unit_row (length m)) (range_with_len 0 (i + 1))
  unit_more so_far e =
      take_step ∙ ap (λ xs. xs ++ row ∷ []) so_far
      ∙ ap (λ r. map (unit_row (length m)) (range_with_len 0 i) ++ r ∷ []) e
      ∙ sym (map-range_with_len_more (unit_row (length m)) 0 i i (zero_lem i))
    where
      zero_lem : (k : ℕ) → 0 + k ≡ k
      zero_lem k = omega arith

      id_lem : (xs : Matrix) → map (λ x. x) xs ≡ xs
      id_lem [] = refl
      id_lem (x ∷ xs) = ap (λ ys. x ∷ ys) (id_lem xs)

      take_step : take (i + 1) m ≡ take i m ++ row ∷ []
      take_step = sym (id_lem (take (i + 1) m)) ∙ map-take_more (λ x. x) m i row is lt
          ∙ ap (λ xs. xs ++ row ∷ []) (id_lem (take i m))

  -- a row that isn't one
  pub unit_failed : ¬ (row ≡ unit_row (length m) i) → ¬ (m ≡ unit (length m))
  unit_failed other same = other
      (is ∙ ap (λ rows. get_or rows i row) same
      ∙ get_or-map-range_with_len (unit_row (length m)) 0 (length m) i i row lt (zero_lem i))
    where
      zero_lem : (k : ℕ) → 0 + k ≡ k
      zero_lem k = omega arith

-- ---- numbers of a row of the unit matrix

abbrev number_at : List Rational → ℕ → Rational
number_at row j = get_or row j zero_ℚ

pub unit_at : (n i j : ℕ) → i < n → j < n → number_at (unit_row n i) j ≡ unit_number i j
unit_at n i j within lt =
    elim (cases_Bool (i == j)) [
      | inl is ↦
          let same : j ≡ i = sym (eqb-true i j is) in
          get_or-set_at (replicate n zero_ℚ) i j one_ℚ zero_ℚ same
          (subst (λ k. i < k) (sym (length-replicate n zero_ℚ)) within)
          ∙ sym (ap (λ b. cond b one_ℚ zero_ℚ) is)
      | inr other ↦
          get_or-set_other (replicate n zero_ℚ) i j one_ℚ zero_ℚ
          (λ e. true≢false (sym (eq-eqb i j (sym e)) ∙ other))
          ∙ get_or-replicate n j zero_ℚ zero_ℚ lt
          ∙ sym (ap (λ b. cond b one_ℚ zero_ℚ) other)
    ]

length-unit_row : (n i : ℕ) → length (unit_row n i) ≡ n
length-unit_row n i = length-set (replicate n zero_ℚ) i one_ℚ ∙ length-replicate n zero_ℚ

module _ (row : List Rational) (n i : ℕ) (within : i < n) where
  -- numbers that are too few or too many
  pub not_as_long : ¬ (length row ≡ n) → ¬ (row ≡ unit_row n i)
  not_as_long other same = other (ap length same ∙ length-unit_row n i)

  module _ (long : length row ≡ n) (j : ℕ) (number : Rational) (is : number ≡ get_or row j number)
      (lt : j < length row) where
    at_place : number ≡ number_at row j
    at_place = is ∙ get_or_default row j number zero_ℚ lt

    -- one number more
    pub number_more : take j row ≡ take j (unit_row n i) → number ≡ unit_number i j
        → take (j + 1) row ≡ take (j + 1) (unit_row n i)
    number_more so_far e =
        let low : j < n = subst (λ k. j < k) long lt in
        take_more row j zero_ℚ lt
        ∙ ap₂ (λ xs q. xs ++ q ∷ []) so_far (sym at_place ∙ e ∙ sym (unit_at n i j within low))
        ∙ sym (take_more (unit_row n i) j zero_ℚ
        (subst (λ k. j < k) (sym (length-unit_row n i)) low))

    -- a number that isn't the one there
    pub number_failed : ¬ (number ≡ unit_number i j) → ¬ (row ≡ unit_row n i)
    number_failed other same = other
        (at_place ∙ ap (λ xs. number_at xs j) same
        ∙ unit_at n i j within (subst (λ k. j < k) long lt))

  pub all_numbers : (j : ℕ) → length row ≡ n → length row ≤ j
      → take j row ≡ take j (unit_row n i) → row ≡ unit_row n i
  all_numbers j long all so_far =
      sym (take_all j row all) ∙ so_far
      ∙ take_all j (unit_row n i)
      (subst (λ k. k ≤ j) (long ∙ sym (length-unit_row n i)) all)

-- ---- a test of two numbers

pub same_from_test : (p q : Rational) (b : Bool) → b ≡ not (rational_eq p q) → b ≡ false → p ≡ q
same_from_test p q b is failed = (rational_eq_Decides p q).0 (by (rational_eq p q) refl)
  where
    by : (t : Bool) → rational_eq p q ≡ t → t ≡ true
    by true e = refl
    by false e = absurd (true≢false (sym (ap not e) ∙ sym is ∙ failed))

pub other_from_test : (p q : Rational) (b : Bool) → b ≡ not (rational_eq p q) → b ≡ true
    → ¬ (p ≡ q)
other_from_test p q b is passed e =
    true≢false (sym passed ∙ is ∙ ap not ((rational_eq_Decides p q).1 e))

-- ---- both products

-- both tests together tell of inverse matrices
pub inverse_told : (a b : Matrix) → ArePair a b → (r l : Bool)
    → IsTrue r ↔ (product a b ≡ unit (length a)) → IsTrue l ↔ (product b a ≡ unit (length b))
    → IsTrue (r && l) ↔ AreInverse a b
inverse_told a b pair true true R L = (
  λ t. record { right = R.0 refl; left = L.0 refl ∙ ap unit pair.second.rows },
  λ h. refl,
)
inverse_told a b pair true false R L = (
  λ t. absurd (true≢false (sym t)),
  λ h. L.1 (h.left ∙ ap unit (sym pair.second.rows)),
)
inverse_told a b pair false l R L = (λ t. absurd (true≢false (sym t)), λ h. R.1 h.right)

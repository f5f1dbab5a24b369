-- A row worked out up to its j-th number.
use Rattle.std.specs.Prelude.{◌≡◌, ℕ, ◌+◌, ◌<◌, ◌≤◌, Bool, true, false, List, length, slice_index_or, slice_set, refl, ◌⊎◌, take, min, slice_index}
use Rattle.std.proofs.Common.{sym, ◌∙◌, ap, arith, subst, inl, inr}
use Rattle.std.proofs.lemmas.List.{get_or-set_other, get_or-set_same, length-set, get_or-take, length-take}
use Rattle.ratio_core.specs.Rational.{Fits, Rational, fits, zero_ℚ, ◌*ℚ◌, ◌-ℚ◌, ◌/ℚ◌}
use Rattle.ratio_core.specs.RationalLaws.{fits_Decides}
use Rattle.tableau_core.specs.BoardNumbers.{differences_fit, quotients_fit}
use Rattle.tableau_core.specs.Row.{AllFit, IsLowered, IsLoweredBeside, IsPutAt, cell}
use Rattle.tableau_core.specs.ItemLaws.{item_is}
use Rattle.tableau_core.specs.Places.{CoversNonzeros}
use Rattle.tableau_core.specs.LoweringLaws.{false_from_not, fits_from, lowered-zero, lowered_fits-zero, step-zero, zero-step}
use Rattle.simplex_laws.specs.SearchLaws.{all_below_all, all_below_failed, all_below_more}
use Rattle.simplex_form.specs.Fit.{lowered_fits}
use Rattle.simplex_form.specs.Search.{all_below}
use Rattle.simplex_laws.specs.BoundedSumLaws.{same_or_other}

-- of n numbers those below j pass the test and have their values
pub record IsMadeTo (n j : ℕ) (test : ℕ → Bool) (made : ℕ → Rational)
    (next : List Rational) : Type 0 where
  pub within : j ≤ n
  pub long : length next ≡ n
  pub fit : all_below j test ≡ true
  pub cells : (k : ℕ) → k < j → cell next k ≡ made k
  pub all_fit : AllFit next

-- a number more that fits
pub set_fits : (row : List Rational) (j : ℕ) (value : Rational) → AllFit row → j < length row
    → Fits value → AllFit (slice_set row j value)
set_fits row j value h b f k =
    same_or_other (Fits (cell (slice_set row j value) k)) k j
    (λ q. subst (λ i. Fits (cell (slice_set row j value) i)) (sym q)
    (subst Fits (sym (get_or-set_same row j value zero_ℚ b)) f))
    (λ m. subst Fits (sym (get_or-set_other row j k value zero_ℚ m)) (h k))

pub made_more : (n j : ℕ) (test : ℕ → Bool) (made : ℕ → Rational) (next : List Rational)
    (value : Rational) → IsMadeTo n j test made next → j < n → test j ≡ true → value ≡ made j
    → Fits value → IsMadeTo n (j + 1) test made (slice_set next j value)
made_more n j test made next value h b e is f = record {
  all_fit = set_fits next j value h.all_fit (subst (λ m. j < m) (sym h.long) b) f;
  within = omega arith;
  long = length-set next j value ∙ h.long;
  fit = all_below_more j test h.fit e;
  cells = λ k c. same_or_other (cell (slice_set next j value) k ≡ made k) k j
      (λ q. subst (λ i. cell (slice_set next j value) i ≡ made i) (sym q)
      (get_or-set_same next j value zero_ℚ (subst (λ m. j < m) (sym h.long) b) ∙ is))
      (λ m. get_or-set_other next j k value zero_ℚ m ∙ h.cells k (omega (arith, m, c)));
}

-- ---- the code's tests

-- a quotient that is refused
pub divide_refused : (by item : Rational) (row : List Rational) (j : ℕ) → j < length row
    → item ≡ slice_index_or row j item → ¬ (by ≡ zero_ℚ) → ¬ ((¬ (by ≡ zero_ℚ)) × Fits (item /ℚ by))
    → quotients_fit (length row) (cell row) by ≡ false
divide_refused by item row j b e n refused =
    all_below_failed (length row) j (λ k. fits (cell row k /ℚ by)) b
    (false_from_not (fits (cell row j /ℚ by)) (Fits (item /ℚ by)) (λ f. subst (λ x. Fits (x /ℚ by))
    (sym (item_is row j item b e)) ((fits_Decides (cell row j /ℚ by)).0 f))
    (λ f. refused (n, f)))

-- and one that is made
pub divide_made : (by item value : Rational) (row next : List Rational) (j : ℕ)
    → IsMadeTo (length row) j (λ k. fits (cell row k /ℚ by)) (λ k. cell row k /ℚ by) next
    → j < length row → item ≡ slice_index_or row j item → Fits (item /ℚ by) → value ≡ item /ℚ by
    → IsMadeTo (length row) (j + 1) (λ k. fits (cell row k /ℚ by)) (λ k. cell row k /ℚ by)
    (slice_set next j value)
divide_made by item value row next j h b e f is =
    made_more (length row) j (λ k. fits (cell row k /ℚ by)) (λ k. cell row k /ℚ by) next value h b
    (fits_from (cell row j /ℚ by) (subst (λ x. Fits (x /ℚ by)) (item_is row j item b e) f)) (is
    ∙ ap (λ x. x /ℚ by) (item_is row j item b e)) (subst Fits (sym is) f)

-- ---- a row whose entry is 0

pub entry-zero : (row : List Rational) (q : ℕ) (item : Rational) → q < length row
    → item ≡ slice_index_or row q item → item ≡ zero_ℚ → cell row q ≡ zero_ℚ
entry-zero row q item b e z = sym (item_is row q item b e) ∙ z

pub lowered-itself : (by : Rational) (step row : List Rational) → by ≡ zero_ℚ
    → IsLowered by step row row
lowered-itself by step row z =
    record {
      long = refl;
      cells = λ j b. sym (lowered-zero (cell row j) by (cell step j)
          (zero-step by (cell step j) z));
    }

pub differences_fit-zero : (by : Rational) (step row : List Rational) → by ≡ zero_ℚ → AllFit row
    → differences_fit (length row) (cell row) by (cell step) ≡ true
differences_fit-zero by step row z h =
    all_below_all (length row) (λ j. lowered_fits (cell row j) by (cell step j))
    (λ j b. lowered_fits-zero (cell row j) by (cell step j)
    (zero-step by (cell step j) z) (h j))

-- ---- the places where a row isn't 0

-- of a row's numbers below j those that aren't 0 are noted
pub record IsNotedTo (row : List Rational) (places : List ℕ) (used j : ℕ) : Type 0 where
  pub few : used ≤ j
  pub row_end : j ≤ length row
  pub room : length row ≤ length places
  pub within : (k : ℕ) → k < used → slice_index places k < j
  pub nonzero : (k : ℕ) → k < used → ¬ (cell row (slice_index places k) ≡ zero_ℚ)
  pub found : (i : ℕ) → i < j
      → (cell row i ≡ zero_ℚ) ⊎ ((k : ℕ) × (k < used) × (slice_index places k ≡ i))

pub noted_none : (row : List Rational) (places : List ℕ) → length row ≤ length places
    → IsNotedTo row places 0 0
noted_none row places h = record {
  few = omega arith;
  row_end = omega arith;
  room = h;
  within = λ k b. absurd (omega (arith, b));
  nonzero = λ k b. absurd (omega (arith, b));
  found = λ i b. absurd (omega (arith, b));
}

pub noted_past : (row : List Rational) (places : List ℕ) (used j : ℕ) → IsNotedTo row places used j
    → j < length row → cell row j ≡ zero_ℚ → IsNotedTo row places used (j + 1)
noted_past row places used j h b z = record {
  few = omega (arith, h.few);
  row_end = omega (arith, b);
  room = h.room;
  within = λ k c. omega (arith, h.within k c);
  nonzero = h.nonzero;
  found = λ i c. same_or_other ((cell row i ≡ zero_ℚ) ⊎ ((k : ℕ) × (k < used)
      × (slice_index places k ≡ i))) i j (λ q. inl (ap (cell row) q ∙ z))
      (λ m. h.found i (omega (arith, c, m)));
}

pub noted_here : (row : List Rational) (places : List ℕ) (used j : ℕ) → IsNotedTo row places used j
    → j < length row → ¬ (cell row j ≡ zero_ℚ) → IsNotedTo row (slice_set places used j)
    (used + 1) (j + 1)
noted_here row places used j h b nonzero = record {
  few = omega (arith, h.few);
  row_end = omega (arith, b);
  room = subst (λ n. length row ≤ n) (sym (length-set places used j)) h.room;
  within = λ k c. same_or_other (slice_index (slice_set places used j) k < j + 1) k used
      (λ q. subst (λ n. slice_index (slice_set places used j) n < j + 1) (sym q)
      (subst (λ n. n < j + 1) (sym at) (omega arith))) (λ m. subst (λ n. n < j + 1) (sym (off k m))
      (omega (arith, h.within k (omega (arith, c, m)))));
  nonzero = λ k c. same_or_other (¬ (cell row (slice_index (slice_set places used j) k) ≡ zero_ℚ)) k
      used (λ q. subst (λ n. ¬ (cell row n ≡ zero_ℚ))
      (sym (ap (slice_index (slice_set places used j)) q ∙ at)) nonzero)
      (λ m. subst (λ n. ¬ (cell row n ≡ zero_ℚ)) (sym (off k m))
      (h.nonzero k (omega (arith, c, m))));
  found = λ i c. same_or_other ((cell row i ≡ zero_ℚ) ⊎ ((k : ℕ) × (k < used + 1)
      × (slice_index (slice_set places used j) k ≡ i))) i j (λ q. inr (
        used,
        omega arith,
        at
            ∙ sym q,
      )) (λ m. by_old i (h.found i (omega (arith, c, m))));
}
  where
    at : slice_index (slice_set places used j) used ≡ j
    at = get_or-set_same places used j 0 (omega (arith, h.few, h.room, b))

    off : (k : ℕ) → ¬ (k ≡ used) → slice_index (slice_set places used j) k ≡ slice_index places k
    off k m = get_or-set_other places used k j 0 m

    by_old : (i : ℕ) → (cell row i ≡ zero_ℚ) ⊎ ((k : ℕ) × (k < used) × (slice_index places k ≡ i))
        → (cell row i ≡ zero_ℚ) ⊎ ((k : ℕ) × (k < used + 1)
        × (slice_index (slice_set places used j) k ≡ i))
    by_old i (inl z) = inl z
    by_old i (inr f) = inr (f.0, omega (arith, f.1), off f.0 (λ e. omega (arith, f.1, e)) ∙ f.2)

pub noted_all : (row : List Rational) (places : List ℕ) (used j : ℕ) → IsNotedTo row places used j
    → j ≡ length row → CoversNonzeros (take used places) row
noted_all row places used j h e = record {
  within = λ k b. subst (λ n. n < length row) (sym (same k (less k b)))
      (omega (arith, h.within k (less k b), e));
  nonzero = λ k b. subst (λ n. ¬ (cell row n ≡ zero_ℚ)) (sym (same k (less k b)))
      (h.nonzero k (less k b));
  found = λ i b. by_old i (h.found i (omega (arith, b, e)));
}
  where
    few_lem : (used j n m : ℕ) → used ≤ j → j ≡ n → n ≤ m → used ≤ m
    few_lem used j n m a b c = omega (arith, a, b, c)

    long : length (take used places) ≡ used
    long =
        length-take used places ∙ min_lem used (length places)
        (few_lem used j (length row) (length places) h.few e h.room)
      where
        min_lem : (a b : ℕ) → a ≤ b → min a b ≡ a
        min_lem a b c = omega (arith, c)

    less : (k : ℕ) → k < length (take used places) → k < used
    less k b = subst (λ n. k < n) long b

    same : (k : ℕ) → k < used → slice_index (take used places) k ≡ slice_index places k
    same k b = get_or-take used places k 0 b

    by_old : (i : ℕ) → (cell row i ≡ zero_ℚ) ⊎ ((k : ℕ) × (k < used) × (slice_index places k ≡ i))
        → (cell row i ≡ zero_ℚ) ⊎ ((k : ℕ) × (k < length (take used places))
        × (slice_index (take used places) k ≡ i))
    by_old i (inl z) = inl z
    by_old i (inr f) = inr (f.0, subst (λ n. f.0 < n) (sym long) f.1, same f.0 f.1 ∙ f.2)

-- ---- numbers that are put at these places

pub put_none : (places : List ℕ) (made : ℕ → Rational) (row : List Rational)
    → IsPutAt places 0 made row row
put_none places made row = record {
  long = refl;
  put = λ k b. absurd (omega (arith, b));
  others = λ j n. refl;
}

-- where the i-th place is past n, each place up to it that is below n is an earlier one
earlier_place : (places : List ℕ) (i n k : ℕ) → n ≤ slice_index places i → k < i + 1
    → slice_index places k < n → k < i
earlier_place places i n k b c d =
    same_or_other (k < i) k i
    (λ e. absurd (past_lem (slice_index places k) (slice_index places i) n
    (ap (slice_index places) e) d b))
    (λ m. omega (arith, c, m))
  where
    past_lem : (a b n : ℕ) → a ≡ b → a < n → n ≤ b → ⊥
    past_lem a b n e d f = omega (arith, e, d, f)

module _ (places : List ℕ) (i : ℕ) (made : ℕ → Rational) (old new : List Rational)
    (h : IsPutAt places i made old new) where
  -- a place past the row's end
  pub put_past : length old ≤ slice_index places i → IsPutAt places (i + 1) made old new
  put_past b = record {
    long = h.long;
    put = λ k c d. h.put k (earlier_place places i (length old) k b c d) d;
    others = λ j n. h.others j (λ k c. n k (omega (arith, c)));
  }

  pub put_here : (value : Rational) → slice_index places i < length old
      → value ≡ made (slice_index places i)
      → IsPutAt places (i + 1) made old (slice_set new (slice_index places i) value)
  put_here value b is = record {
    long = length-set new at value ∙ h.long;
    put = λ k c d. same_or_other (cell (slice_set new at value) (slice_index places k) ≡ made
        (slice_index places k)) (slice_index places k) at
        (λ q. subst (λ n. cell (slice_set new at value) n ≡ made n) (sym q) written)
        (λ m. off (slice_index places k) m ∙ h.put k (earlier k c m) d);
    others = λ j n. off j (λ e. n i (omega arith) (sym e))
        ∙ h.others j (λ k c. n k (omega (arith, c)));
  }
    where
      at : ℕ
      at = slice_index places i

      written : cell (slice_set new at value) at ≡ made at
      written = get_or-set_same new at value zero_ℚ (subst (λ n. at < n) (sym h.long) b) ∙ is

      off : (j : ℕ) → ¬ (j ≡ at) → cell (slice_set new at value) j ≡ cell new j
      off j m = get_or-set_other new at j value zero_ℚ m

      earlier : (k : ℕ) → k < i + 1 → ¬ (slice_index places k ≡ at) → k < i
      earlier k c m =
          same_or_other (k < i) k i (λ e. absurd (m (ap (slice_index places) e)))
          (λ n. omega (arith, c, n))

-- ---- a row that is lowered at these places

-- the numbers at the first i places are lowered, and fit
pub record IsLoweredAt (by : Rational) (step row : List Rational) (places : List ℕ)
    (before next : List Rational) (i : ℕ) : Type 0 where
  pub long : length before ≡ length row
  pub put : IsPutAt places i (λ j. cell row j -ℚ by *ℚ cell step j) before next
  pub fit : (k : ℕ) → k < i → slice_index places k < length row
      → lowered_fits (cell row (slice_index places k)) by (cell step (slice_index places k)) ≡ true
  pub all_fit : AllFit next

pub lowered_none : (by : Rational) (step row : List Rational) (places : List ℕ)
    (next : List Rational) → length next ≡ length row → AllFit next
    → IsLoweredAt by step row places next next 0
lowered_none by step row places next long fit = record {
  long = long;
  put = put_none places (λ j. cell row j -ℚ by *ℚ cell step j) next;
  fit = λ k b. absurd (omega (arith, b));
  all_fit = fit;
}

module _ (by : Rational) (step row : List Rational) (places : List ℕ) (before next : List Rational)
    (i : ℕ) (h : IsLoweredAt by step row places before next i) where
  abbrev lowered : ℕ → Rational
  lowered j = cell row j -ℚ by *ℚ cell step j

  pub lowered_past : length row ≤ slice_index places i
      → IsLoweredAt by step row places before next (i + 1)
  lowered_past b = record {
    long = h.long;
    put = put_past places i lowered before next h.put (subst (λ n. n ≤ slice_index places i)
        (sym h.long) b);
    fit = λ k c d. h.fit k (earlier_place places i (length row) k b c d) d;
    all_fit = h.all_fit;
  }

  -- a number is written
  pub lowered_here : (value : Rational) → slice_index places i < length row
      → lowered_fits (cell row (slice_index places i)) by (cell step (slice_index places i)) ≡ true
      → value ≡ lowered (slice_index places i) → Fits value
      → IsLoweredAt by step row places before (slice_set next (slice_index places i) value) (i + 1)
  lowered_here value b e is f = record {
    long = h.long;
    put = put_here places i lowered before next h.put value (subst (λ n. slice_index places i < n)
        (sym h.long) b) is;
    fit = λ k c d. same_or_other (lowered_fits (cell row (slice_index places k)) by
        (cell step (slice_index places k)) ≡ true) k i
        (λ q. subst (λ n. lowered_fits (cell row (slice_index places n)) by
        (cell step (slice_index places n)) ≡ true) (sym q) e)
        (λ m. h.fit k (omega (arith, c, m)) d);
    all_fit = set_fits next (slice_index places i) value h.all_fit
        (subst (λ n. slice_index places i < n) (sym (h.put.long ∙ h.long)) b) f;
  }

  pub lowered_refused : slice_index places i < length row
      → lowered_fits (cell row (slice_index places i)) by (cell step (slice_index places i)) ≡ false
      → differences_fit (length row) (cell row) by (cell step) ≡ false
  lowered_refused b e =
      all_below_failed (length row) (slice_index places i) (λ k. lowered_fits (cell row k) by
      (cell step k)) b e

  -- at the end
  module _ (all : i ≡ length places) (covers : CoversNonzeros places step) (long : length row ≤ length step)
      (fits : AllFit row) where
    by_place : (P : ℕ → Type 0) (j : ℕ) → j < length row → (cell step j ≡ zero_ℚ → P j)
        → ((k : ℕ) → k < i → slice_index places k < length row → P (slice_index places k)) → P j
    by_place P j b zero place = by_found (covers.found j (omega (arith, b, long)))
      where
        by_found : (cell step j ≡ zero_ℚ) ⊎ ((k : ℕ) × (k < length places)
            × (slice_index places k ≡ j)) → P j
        by_found (inl z) = zero z
        by_found (inr f) =
            subst P f.2 (place f.0 (subst (λ n. f.0 < n) (sym all) f.1)
            (subst (λ n. n < length row) (sym f.2) b))

    pub lowered_fit : differences_fit (length row) (cell row) by (cell step) ≡ true
    lowered_fit =
        all_below_all (length row) (λ j. lowered_fits (cell row j) by (cell step j))
        (λ j b. by_place (λ j. lowered_fits (cell row j) by (cell step j) ≡ true) j b
        (λ z. lowered_fits-zero (cell row j) by (cell step j) (step-zero by (cell step j) z)
        (fits j)) h.fit)

    pub lowered_beside : IsLoweredBeside by step row next
    lowered_beside = record {
      long = h.put.long ∙ h.long;
      cells = λ j b n. by_place (λ j. cell next j ≡ lowered j) j b (λ z. absurd (n z))
          (λ k c d. h.put.put k c (subst (λ m. slice_index places k < m) (sym h.long) d));
    }

-- what was worked out beside a row is put in place
pub lowered_put : (by : Rational) (step row next new : List Rational) (places : List ℕ)
    → length row ≤ length step → CoversNonzeros places step → IsLoweredBeside by step row next
    → IsPutAt places (length places) (cell next) row new → IsLowered by step row new
lowered_put by step row next new places long covers h p = record {
  long = p.long;
  cells = λ j b. by_found j b (covers.found j (omega (arith, b, long)));
}
  where
    by_found : (j : ℕ) → j < length row
        → (cell step j ≡ zero_ℚ) ⊎ ((k : ℕ) × (k < length places) × (slice_index places k ≡ j))
        → cell new j ≡ cell row j -ℚ by *ℚ cell step j
    by_found j b (inl z) =
        p.others j (λ k d e. covers.nonzero k d (ap (cell step) e ∙ z))
        ∙ sym (lowered-zero (cell row j) by (cell step j) (step-zero by (cell step j) z))
    by_found j b (inr f) =
        let within : slice_index places f.0 < length row =
        subst (λ n. n < length row) (sym f.2) b in
        subst (λ n. cell new n ≡ cell row n -ℚ by *ℚ cell step n) f.2
        (p.put f.0 f.1 within ∙ h.cells (slice_index places f.0) within (covers.nonzero f.0 f.1))

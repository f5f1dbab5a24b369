-- Numerators that are lowered at listed columns, one after another.
use Rattle.std.specs.Prelude.{◌≡◌, ℕ, zero, suc, ◌+◌, ◌*◌, ◌^◌, ◌<◌, ◌≤◌, List, length, min, refl, slice_index, slice_index_or, slice_set, take, ◌⊎◌, ℤ, pos, ◌+ℤ◌, ◌-ℤ◌, ◌*ℤ◌, neg_ℤ, unsigned_abs}
use Rattle.std.proofs.Common.{inl, inr, sym, ◌∙◌, add-zero, ap, ap₂, arith, subst, subst₂, to_z, of_z, w64, FitsSigned}
use Rattle.std.proofs.Math.IntN.{*ℤ-zero, +ℤ_idr}
use Rattle.std.proofs.lemmas.Bool.{cases_lt}
use Rattle.std.proofs.lemmas.Int.{to_z-of_z, unsigned_abs-mul}
use Rattle.std.proofs.lemmas.List.{get_or-set_other, get_or-set_same, get_or-take, length-set, length-take}
use Rattle.rational_laws.specs.Fitting.{size_neg}
use Rattle.simplex_laws.specs.BoundedSumLaws.{same_or_other}
use Rattle.whole_rows.specs.ColumnMarks.{AreScaled}
use Rattle.whole_rows.specs.Listed.{IsLoweredAt, IsNotedTo, ListsNonzeros, lowered_once}
use Rattle.whole_rows.specs.Numerators.{AreNumeratorsLowered, LoweringFits}
use Rattle.whole_rows.specs.Over.{lowered_num}
use Rattle.rational_laws.specs.Whole.{*ℤ_pos_one}
use Rattle.whole_rows.specs.NarrowFit.{size_sum}
use Rattle.whole_rows.proofs.BitLaws.{back}

pub less_bits : (N b n : ℤ) → FitsSigned w64 N → FitsSigned w64 b → FitsSigned w64 n
    → unsigned_abs N + unsigned_abs b * unsigned_abs n < 2 ^ 63
    → to_z w64 (of_z w64 (to_z w64 (of_z w64 N)
    -ℤ to_z w64 (of_z w64 (to_z w64 (of_z w64 b) *ℤ to_z w64 (of_z w64 n)))))
    ≡ lowered_once N b n
less_bits N b n fits_N fits_b fits_n h =
    ap (λ z. to_z w64 (of_z w64 z)) (ap₂ ◌-ℤ◌ (to_z-of_z w64 N fits_N)
    (ap (λ z. to_z w64 (of_z w64 z)) (ap₂ ◌*ℤ◌ (to_z-of_z w64 b fits_b) (to_z-of_z w64 n fits_n))
    ∙ back (b *ℤ n) (part_lem _ _ _ (unsigned_abs-mul b n) h)))
    ∙ back (lowered_once N b n)
    (below_lem _ _ _ _ (size_sum N (neg_ℤ (b *ℤ n))) (size_neg (b *ℤ n) ∙ unsigned_abs-mul b n) h)
  where
    part_lem : (s x y : ℕ) → s ≡ y → x + y < 2 ^ 63 → s < 2 ^ 63
    part_lem s x y e k = omega (arith, e, k)

    below_lem : (s x y z : ℕ) → s ≤ x + y → y ≡ z → x + z < 2 ^ 63 → s < 2 ^ 63
    below_lem s x y z h e k = omega (arith, h, e, k)

pub listed_more : (by : ℤ) (columns : List ℕ) (step : List ℤ) (n : ℕ) (old now : List ℤ) (x : ℤ)
    → IsLoweredAt by columns step n old now → slice_index columns n < length now
    → ((k : ℕ) → k < n → ¬ (slice_index columns k ≡ slice_index columns n))
    → x ≡ lowered_once (slice_index_or now (slice_index columns n) (pos 0)) by
    (slice_index_or step (slice_index columns n) (pos 0))
    → IsLoweredAt by columns step (n + 1) old (slice_set now (slice_index columns n) x)
listed_more by columns step n old now x so_far within apart is = record {
  long = length-set now (slice_index columns n) x ∙ so_far.long;
  lowered = λ k b.
      same_or_other _ k n
      (λ e. subst (λ i. slice_index_or (slice_set now (slice_index columns n) x)
      (slice_index columns i) (pos 0)
      ≡ lowered_once (slice_index_or old (slice_index columns i) (pos 0)) by
      (slice_index_or step (slice_index columns i) (pos 0))) (sym e)
      (get_or-set_same now (slice_index columns n) x (pos 0) within ∙ is
      ∙ ap (λ y. lowered_once y by (slice_index_or step (slice_index columns n) (pos 0)))
      (so_far.others (slice_index columns n) apart)))
      (λ m. let here : k < n = omega (arith, b, m) in
      get_or-set_other now (slice_index columns n) (slice_index columns k) x (pos 0) (apart k here)
      ∙ so_far.lowered k here);
  others = λ j h.
      get_or-set_other now (slice_index columns n) j x (pos 0)
      (λ e. h n (omega arith) (sym e)) ∙ so_far.others j (λ k b. h k (omega (arith, b)));
}

pub less_fits : (old now step : List ℤ) (by N b u : ℤ) (j : ℕ) → LoweringFits 1 by step old
    → j < length old → slice_index_or now j (pos 0) ≡ slice_index_or old j (pos 0)
    → N ≡ slice_index_or now j (pos 0) → b ≡ by → u ≡ slice_index_or step j (pos 0)
    → unsigned_abs N + unsigned_abs b * unsigned_abs u < 2 ^ 63
less_fits old now step by N b u j fits within same N_is b_is u_is =
    below_lem _ _ _ (λ i. unsigned_abs ((N_is ∙ same) i) + unsigned_abs (b_is i)
    * unsigned_abs (u_is i)) (fits j within)
  where
    below_lem : (x a c : ℕ) → x ≡ a + c → a * 1 + c < 2 ^ 63 → x < 2 ^ 63
    below_lem x a c e h = omega (arith, e, h)

pub listed_none : (by : ℤ) (columns : List ℕ) (step old : List ℤ)
    → IsLoweredAt by columns step 0 old old
listed_none by columns step old = record {
  long = refl;
  lowered = λ k b. absurd (omega (arith, b));
  others = λ j h. refl;
}

pub lowered_once_is : (N b n : ℤ) → lowered_once N b n ≡ lowered_num N 1 b n
lowered_once_is N b n = ap (λ x. x +ℤ neg_ℤ (b *ℤ n)) (sym (*ℤ_pos_one N))

lowered_zero : (N b : ℤ) → N ≡ lowered_num N 1 b (pos 0)
lowered_zero N b =
    sym (+ℤ_idr N) ∙ ap (λ x. N +ℤ neg_ℤ x) (sym (*ℤ-zero b)) ∙ lowered_once_is N b (pos 0)

-- the place of a number among the first n, or none
pub sought : (columns : List ℕ) (j n : ℕ) → ((k : ℕ) × (k < n) × (slice_index columns k ≡ j))
    ⊎ ((k : ℕ) → k < n → ¬ (slice_index columns k ≡ j))
sought columns j zero = inr (λ k b. absurd (omega (arith, b)))
sought columns j (suc n) = by_last (sought columns j n)
  where
    by_last : ((k : ℕ) × (k < n) × (slice_index columns k ≡ j))
        ⊎ ((k : ℕ) → k < n → ¬ (slice_index columns k ≡ j))
        → ((k : ℕ) × (k < suc n) × (slice_index columns k ≡ j))
        ⊎ ((k : ℕ) → k < suc n → ¬ (slice_index columns k ≡ j))
    by_last (inl f) = inl (f.0, omega (arith, f.1), f.2)
    by_last (inr none) =
        same_or_other (((k : ℕ) × (k < suc n) × (slice_index columns k ≡ j))
        ⊎ ((k : ℕ) → k < suc n → ¬ (slice_index columns k ≡ j))) (slice_index columns n) j
        (λ e. inl (n, omega arith, e))
        (λ m. inr (λ k b. same_or_other (¬ (slice_index columns k ≡ j)) k n
        (λ q. subst (λ l. ¬ (slice_index columns l ≡ j)) (sym q) m)
        (λ d. none k (omega (arith, b, d)))))

pub listed_all : (by : ℤ) (columns : List ℕ) (step old new : List ℤ) (n : ℕ)
    → ListsNonzeros columns step → length step ≡ length old → n ≡ length columns
    → IsLoweredAt by columns step n old new → AreNumeratorsLowered 1 by step (length old) old new
listed_all by columns step old new n lists long all made = record {
  long = made.long;
  lowered = λ j b. by_place j b (sought columns j (length columns));
  others = λ j h. made.others j (λ k c e. past_lem j (slice_index columns k) (length step)
      (length old) (lists.within k (subst (λ m. k < m) all c)) e long h);
}
  where
    past_lem : (j x s m : ℕ) → x < s → x ≡ j → s ≡ m → m ≤ j → ⊥
    past_lem j x s m b e f h = omega (arith, b, e, f, h)

    by_place : (j : ℕ) → j < length old
        → ((k : ℕ) × (k < length columns) × (slice_index columns k ≡ j))
        ⊎ ((k : ℕ) → k < length columns → ¬ (slice_index columns k ≡ j))
        → slice_index_or new j (pos 0)
        ≡ lowered_num (slice_index_or old j (pos 0)) 1 by (slice_index_or step j (pos 0))
    by_place j b (inr none) =
        made.others j (λ k c. none k (subst (λ m. k < m) all c))
        ∙ lowered_zero (slice_index_or old j (pos 0)) by
        ∙ ap (lowered_num (slice_index_or old j (pos 0)) 1 by)
        (sym (lists.others j (subst (λ m. j < m) (sym long) b) none))
    by_place j b (inl f) =
        subst (λ i. slice_index_or new i (pos 0)
        ≡ lowered_num (slice_index_or old i (pos 0)) 1 by (slice_index_or step i (pos 0))) f.2
        (made.lowered f.0 (subst (λ m. f.0 < m) (sym all) f.1)
        ∙ lowered_once_is _ by _)

-- ---- the columns that are noted

pub noted_none : (numbers : List ℤ) (columns : List ℕ) → length numbers ≤ length columns
    → IsNotedTo numbers columns 0 0
noted_none numbers columns h = record {
  few = omega arith;
  row_end = omega arith;
  room = h;
  within = λ k b. absurd (omega (arith, b));
  rising = λ k l a b. absurd (omega (arith, b));
  nonzero = λ k b. absurd (omega (arith, b));
  found = λ i b. absurd (omega (arith, b));
}

pub noted_past : (numbers : List ℤ) (columns : List ℕ) (used j : ℕ)
    → IsNotedTo numbers columns used j → j < length numbers
    → slice_index_or numbers j (pos 0) ≡ pos 0 → IsNotedTo numbers columns used (j + 1)
noted_past numbers columns used j h b z = record {
  few = omega (arith, h.few);
  row_end = omega (arith, b);
  room = h.room;
  within = λ k c. omega (arith, h.within k c);
  rising = h.rising;
  nonzero = h.nonzero;
  found = λ i c. same_or_other ((slice_index_or numbers i (pos 0) ≡ pos 0) ⊎ ((k : ℕ) × (k < used)
      × (slice_index columns k ≡ i))) i j (λ q. inl (ap (λ n. slice_index_or numbers n (pos 0)) q
      ∙ z))
      (λ m. h.found i (omega (arith, c, m)));
}

pub noted_here : (numbers : List ℤ) (columns : List ℕ) (used j x : ℕ)
    → IsNotedTo numbers columns used j → j < length numbers → x ≡ j
    → ¬ (slice_index_or numbers j (pos 0) ≡ pos 0)
    → IsNotedTo numbers (slice_set columns used x) (used + 1) (j + 1)
noted_here numbers columns used j x h b x_is nonzero = record {
  few = omega (arith, h.few);
  row_end = omega (arith, b);
  room = subst (λ n. length numbers ≤ n) (sym (length-set columns used x)) h.room;
  within = λ k c. same_or_other (slice_index new k < j + 1) k used
      (λ q. subst (λ n. slice_index new n < j + 1) (sym q)
      (subst (λ n. n < j + 1) (sym at) (omega arith))) (λ m. subst (λ n. n < j + 1) (sym (off k m))
      (omega (arith, h.within k (omega (arith, c, m)))));
  rising = λ k l a c. same_or_other (slice_index new k < slice_index new l) l used
      (λ q. subst (λ n. slice_index new k < slice_index new n) (sym q)
      (subst (λ n. slice_index new k < n) (sym at)
      (subst (λ n. n < j) (sym (off k (λ e. omega (arith, a, c, e, q))))
      (h.within k (omega (arith, a, q))))))
      (λ m. subst (λ n. slice_index new k < n) (sym (off l m))
      (subst (λ n. n < slice_index columns l) (sym (off k (λ e. omega (arith, a, c, e, m))))
      (h.rising k l a (omega (arith, c, m)))));
  nonzero = λ k c. same_or_other
      (¬ (slice_index_or numbers (slice_index new k) (pos 0) ≡ pos 0)) k
      used (λ q. subst (λ n. ¬ (slice_index_or numbers n (pos 0) ≡ pos 0))
      (sym (ap (slice_index new) q ∙ at)) nonzero)
      (λ m. subst (λ n. ¬ (slice_index_or numbers n (pos 0) ≡ pos 0)) (sym (off k m))
      (h.nonzero k (omega (arith, c, m))));
  found = λ i c. same_or_other ((slice_index_or numbers i (pos 0) ≡ pos 0) ⊎ ((k : ℕ)
      × (k < used + 1) × (slice_index new k ≡ i))) i j (λ q. inr (
        used,
        omega arith,
        at ∙ sym q,
      )) (λ m. by_old i (h.found i (omega (arith, c, m))));
}
  where
    new : List ℕ
    new = slice_set columns used x

    at : slice_index new used ≡ j
    at = get_or-set_same columns used x 0 (omega (arith, h.few, h.room, b)) ∙ x_is

    off : (k : ℕ) → ¬ (k ≡ used) → slice_index new k ≡ slice_index columns k
    off k m = get_or-set_other columns used k x 0 m

    by_old : (i : ℕ) → (slice_index_or numbers i (pos 0) ≡ pos 0) ⊎ ((k : ℕ) × (k < used)
        × (slice_index columns k ≡ i))
        → (slice_index_or numbers i (pos 0) ≡ pos 0) ⊎ ((k : ℕ) × (k < used + 1)
        × (slice_index new k ≡ i))
    by_old i (inl z) = inl z
    by_old i (inr f) = inr (f.0, omega (arith, f.1), off f.0 (λ e. omega (arith, f.1, e)) ∙ f.2)

-- a column that is written behind those that are noted
pub noted_spare : (numbers : List ℤ) (columns : List ℕ) (used j x : ℕ)
    → IsNotedTo numbers columns used j → IsNotedTo numbers (slice_set columns used x) used j
noted_spare numbers columns used j x h = record {
  few = h.few;
  row_end = h.row_end;
  room = subst (λ n. length numbers ≤ n) (sym (length-set columns used x)) h.room;
  within = λ k c. subst (λ n. n < j) (sym (off k c)) (h.within k c);
  rising = λ k l a c. subst₂ (λ m n. m < n) (sym (off k (less_lem k l used a c))) (sym (off l c))
      (h.rising k l a c);
  nonzero = λ k c. subst (λ n. ¬ (slice_index_or numbers n (pos 0) ≡ pos 0)) (sym (off k c))
      (h.nonzero k c);
  found = λ i c. by_old i (h.found i c);
}
  where
    new : List ℕ
    new = slice_set columns used x

    less_lem : (k l n : ℕ) → k < l → l < n → k < n
    less_lem k l n a b = omega (arith, a, b)

    apart_lem : (k n : ℕ) → k < n → k ≡ n → ⊥
    apart_lem k n b e = omega (arith, b, e)

    off : (k : ℕ) → k < used → slice_index new k ≡ slice_index columns k
    off k c = get_or-set_other columns used k x 0 (apart_lem k used c)

    by_old : (i : ℕ) → (slice_index_or numbers i (pos 0) ≡ pos 0) ⊎ ((k : ℕ) × (k < used)
        × (slice_index columns k ≡ i))
        → (slice_index_or numbers i (pos 0) ≡ pos 0) ⊎ ((k : ℕ) × (k < used)
        × (slice_index new k ≡ i))
    by_old i (inl z) = inl z
    by_old i (inr f) = inr (f.0, f.1, off f.0 f.1 ∙ f.2)

-- a column that is written, and counted where its number isn't 0
pub noted_next : (numbers : List ℤ) (columns : List ℕ) (used j count : ℕ)
    → IsNotedTo numbers columns used j → j < length numbers → count ≤ 1
    → (count ≡ 0 → slice_index_or numbers j (pos 0) ≡ pos 0)
    → (count ≡ 1 → ¬ (slice_index_or numbers j (pos 0) ≡ pos 0))
    → IsNotedTo numbers (slice_set columns used j) (used + count) (j + 1)
noted_next numbers columns used j zero h b few none one =
    subst (λ n. IsNotedTo numbers (slice_set columns used j) n (j + 1)) (sym (add-zero used))
    (noted_past numbers (slice_set columns used j) used j (noted_spare numbers columns used j j h) b
    (none refl))
noted_next numbers columns used j (suc zero) h b few none one =
    noted_here numbers columns used j j h b refl (one refl)
noted_next numbers columns used j (suc (suc count)) h b few none one = absurd (omega (arith, few))

pub noted_all : (numbers : List ℤ) (columns : List ℕ) (used j : ℕ)
    → IsNotedTo numbers columns used j → j ≡ length numbers
    → ListsNonzeros (take used columns) numbers
noted_all numbers columns used j h e = record {
  within = λ k b. subst (λ n. n < length numbers) (sym (same k (less k b)))
      (omega (arith, h.within k (less k b), e));
  rising = λ k l a b. subst (λ n. n < slice_index (take used columns) l)
      (sym (same k (omega (arith, a, less l b))))
      (subst (λ n. slice_index columns k < n) (sym (same l (less l b))) (h.rising k l a (less l b)));
  nonzero = λ k b. subst (λ n. ¬ (slice_index_or numbers n (pos 0) ≡ pos 0))
      (sym (same k (less k b))) (h.nonzero k (less k b));
  others = λ i b none. by_old i none (h.found i (omega (arith, b, e)));
}
  where
    few_lem : (used j n m : ℕ) → used ≤ j → j ≡ n → n ≤ m → used ≤ m
    few_lem used j n m a b c = omega (arith, a, b, c)

    long : length (take used columns) ≡ used
    long =
        length-take used columns ∙ min_lem used (length columns)
        (few_lem used j (length numbers) (length columns) h.few e h.room)
      where
        min_lem : (a b : ℕ) → a ≤ b → min a b ≡ a
        min_lem a b c = omega (arith, c)

    less : (k : ℕ) → k < length (take used columns) → k < used
    less k b = subst (λ n. k < n) long b

    same : (k : ℕ) → k < used → slice_index (take used columns) k ≡ slice_index columns k
    same k b = get_or-take used columns k 0 b

    by_old : (i : ℕ)
        → ((k : ℕ) → k < length (take used columns) → ¬ (slice_index (take used columns) k ≡ i))
        → (slice_index_or numbers i (pos 0) ≡ pos 0) ⊎ ((k : ℕ) × (k < used)
        × (slice_index columns k ≡ i))
        → slice_index_or numbers i (pos 0) ≡ pos 0
    by_old i none (inl z) = z
    by_old i none (inr f) =
        absurd (none f.0 (subst (λ n. f.0 < n) (sym long) f.1) (same f.0 f.1 ∙ f.2))

-- columns of zeros are passed over
pub noted_skip : (numbers : List ℤ) (columns : List ℕ) (used j to : ℕ)
    → IsNotedTo numbers columns used j → j ≤ to → to ≤ length numbers
    → ((i : ℕ) → j ≤ i → i < to → slice_index_or numbers i (pos 0) ≡ pos 0)
    → IsNotedTo numbers columns used to
noted_skip numbers columns used j to h past row_end zeros = record {
  few = at_most_lem used j to h.few past;
  row_end = row_end;
  room = h.room;
  within = λ k c. below_lem _ j to (h.within k c) past;
  rising = h.rising;
  nonzero = h.nonzero;
  found = λ i c. by_place i c (cases_lt i j);
}
  where
    at_most_lem : (a b c : ℕ) → a ≤ b → b ≤ c → a ≤ c
    at_most_lem a b c x y = omega (arith, x, y)

    below_lem : (a b c : ℕ) → a < b → b ≤ c → a < c
    below_lem a b c x y = omega (arith, x, y)

    by_place : (i : ℕ) → i < to → (i < j) ⊎ (j ≤ i) → (slice_index_or numbers i (pos 0) ≡ pos 0)
        ⊎ ((k : ℕ) × (k < used) × (slice_index columns k ≡ i))
    by_place i c (inl l) = h.found i l
    by_place i c (inr l) = inl (zeros i l c)

-- no column is listed of numbers that are all 0
pub lists_zeros : (columns : List ℕ) (numbers : List ℤ)
    → ((j : ℕ) → slice_index_or numbers j (pos 0) ≡ pos 0) → ListsNonzeros (take 0 columns) numbers
lists_zeros columns numbers h = record {
  within = λ k b. absurd (omega (arith, b));
  rising = λ k l a b. absurd (omega (arith, b));
  nonzero = λ k b. absurd (omega (arith, b));
  others = λ j b none. h j;
}

-- numbers that are multiplied by 1
pub unscaled : (over : ℕ) (old : List ℤ) → over ≡ 1 → AreScaled (pos over) (length old) old old
unscaled over old e = record {
  long = refl;
  scaled = λ j b. sym (ap (λ n. slice_index_or old j (pos 0) *ℤ pos n) e
      ∙ *ℤ_pos_one (slice_index_or old j (pos 0)));
  others = λ j h. refl;
}

-- Laws of numbers beside their places.
use Rattle.std.specs.Prelude.{◌≡◌, ℕ, zero, suc, ◌+◌, ◌-◌, ◌<◌, ◌≤◌, Bool, true, false, cond, nat_eq, List, [], ◌∷◌, ◌++◌, drop, length, map, replicate, slice_index_or, take, refl, if◌then◌else◌}
use Rattle.std.specs.List.{range_with_len}
use Rattle.std.proofs.Common.{sym, ◌∙◌, ap, arith, subst}
use Rattle.std.proofs.lemmas.Bool.{cond-true, eq-eqb, eqb-true}
use Rattle.std.proofs.lemmas.List.{append-nil, append_assoc, length-drop, replicate-append-replicate, same_lists, take_all}
use Rattle.std.proofs.lemmas.List.FromFn.{get_or-map-range_with_len, length-map-range_with_len, map-range_with_len_more}
use Rattle.ratio_core.specs.Rational.{Rational, zero_ℚ}
use Rattle.sparse_ratios.specs.Terms.{AreTerms, AreTermsSplit, HaveNoZeros, Puts, number_at, numbers_of}

-- ---- the number at a place

pub number_here : (t : ℕ × Rational) (ts : List (ℕ × Rational)) (k : ℕ) → t.0 ≡ k
    → number_at (t ∷ ts) k ≡ t.1
number_here t ts k e = cond-true (nat_eq t.0 k) t.1 (number_at ts k) (eq-eqb t.0 k e)

pub number_later : (t : ℕ × Rational) (ts : List (ℕ × Rational)) (k : ℕ) → ¬ (t.0 ≡ k)
    → number_at (t ∷ ts) k ≡ number_at ts k
number_later t ts k n = by_test (nat_eq t.0 k) refl
  where
    by_test : (b : Bool) → nat_eq t.0 k ≡ b → cond b t.1 (number_at ts k) ≡ number_at ts k
    by_test true e = absurd (n (eqb-true t.0 k e))
    by_test false e = refl

pub number_before : (from to : ℕ) (ts : List (ℕ × Rational)) (k : ℕ) → AreTerms from to ts
    → k < from → number_at ts k ≡ zero_ℚ
number_before from to [] k h b = refl
number_before from to (t ∷ ts) k h b =
    number_later t ts k (λ e. omega (arith, h.0, e, b))
    ∙ number_before (t.0 + 1) to ts k h.2 (omega (arith, h.0, b))

pub number_past : (from to : ℕ) (ts : List (ℕ × Rational)) (k : ℕ) → AreTerms from to ts → to ≤ k
    → number_at ts k ≡ zero_ℚ
number_past from to [] k h b = refl
number_past from to (t ∷ ts) k h b =
    number_later t ts k (λ e. omega (arith, h.1, e, b)) ∙ number_past (t.0 + 1) to ts k h.2 b

-- ---- a number that is appended

pub terms_put : (from to p : ℕ) (x : Rational) (ts : List (ℕ × Rational)) → AreTerms from to ts
    → from ≤ p → to ≤ p → AreTerms from (p + 1) (ts ++ (p, x) ∷ [])
terms_put from to p x [] h b d = (b, omega arith, tt)
terms_put from to p x (t ∷ ts) h b d =
    (h.0, omega (arith, h.1, d), terms_put (t.0 + 1) to p x ts h.2 (omega (arith, h.1, d)) d)

pub terms_wider : (from to wide : ℕ) (ts : List (ℕ × Rational)) → AreTerms from to ts → to ≤ wide
    → AreTerms from wide ts
terms_wider from to wide [] h b = tt
terms_wider from to wide (t ∷ ts) h b =
    (h.0, omega (arith, h.1, b), terms_wider (t.0 + 1) to wide ts h.2 b)

pub nonzero_put : (p : ℕ) (x : Rational) (ts : List (ℕ × Rational)) → HaveNoZeros ts
    → ¬ (x ≡ zero_ℚ) → HaveNoZeros (ts ++ (p, x) ∷ [])
nonzero_put p x [] h n = (n, tt)
nonzero_put p x (t ∷ ts) h n = (h.0, nonzero_put p x ts h.1 n)

pub number_put_other : (p : ℕ) (x : Rational) (ts : List (ℕ × Rational)) (k : ℕ) → ¬ (p ≡ k)
    → number_at (ts ++ (p, x) ∷ []) k ≡ number_at ts k
number_put_other p x [] k n = number_later (p, x) [] k n
number_put_other p x (t ∷ ts) k n = λ i. if nat_eq t.0 k then t.1 else number_put_other p x ts k n i

pub number_put_here : (from to p : ℕ) (x : Rational) (ts : List (ℕ × Rational))
    → AreTerms from to ts → to ≤ p → number_at (ts ++ (p, x) ∷ []) p ≡ x
number_put_here from to p x [] h b = number_here (p, x) [] p refl
number_put_here from to p x (t ∷ ts) h b =
    number_later t (ts ++ (p, x) ∷ []) p (λ e. omega (arith, h.1, e, b))
    ∙ number_put_here (t.0 + 1) to p x ts h.2 b

-- ---- the list that they stand for

pub length-numbers_of : (n : ℕ) (ts : List (ℕ × Rational)) → length (numbers_of n ts) ≡ n
length-numbers_of n ts = length-map-range_with_len (number_at ts) 0 n

pub cell-numbers_of : (n : ℕ) (ts : List (ℕ × Rational)) (k : ℕ) → k < n
    → slice_index_or (numbers_of n ts) k zero_ℚ ≡ number_at ts k
cell-numbers_of n ts k b =
    get_or-map-range_with_len (number_at ts) 0 n k k zero_ℚ b (omega arith)

numbers_more : (n : ℕ) (ts : List (ℕ × Rational))
    → numbers_of (n + 1) ts ≡ numbers_of n ts ++ number_at ts n ∷ []
numbers_more n ts = map-range_with_len_more (number_at ts) 0 n n (omega arith)

pub numbers_zeros : (n z : ℕ) (ts : List (ℕ × Rational)) → AreTerms 0 n ts
    → numbers_of (n + z) ts ≡ numbers_of n ts ++ replicate z zero_ℚ
numbers_zeros n zero ts h =
    ap (λ k. numbers_of k ts) (none_lem n) ∙ sym (append-nil (numbers_of n ts))
  where
    none_lem : (n : ℕ) → n + 0 ≡ n
    none_lem n = omega arith
numbers_zeros n (suc z) ts h =
    ap (λ k. numbers_of k ts) (more_lem n z) ∙ numbers_more (n + z) ts
    ∙ (λ i. numbers_zeros n z ts h i ++ number_past 0 n ts (n + z) h (omega arith) i ∷ [])
    ∙ append_assoc (numbers_of n ts) (replicate z zero_ℚ) (zero_ℚ ∷ [])
    ∙ ap (λ l. numbers_of n ts ++ l) (replicate-append-replicate z 1 zero_ℚ
    ∙ ap (λ k. replicate k zero_ℚ) (suc_lem z))
  where
    more_lem : (n z : ℕ) → n + suc z ≡ (n + z) + 1
    more_lem n z = omega arith

    suc_lem : (z : ℕ) → z + 1 ≡ suc z
    suc_lem z = omega arith

-- the number at p, behind zeros
pub numbers_put : (n p : ℕ) (x : Rational) (ts next : List (ℕ × Rational)) → AreTerms 0 n ts
    → n ≤ p → number_at next p ≡ x → ((k : ℕ) → k < p → number_at next k ≡ number_at ts k)
    → numbers_of (p + 1) next ≡ (numbers_of n ts ++ replicate (p - n) zero_ℚ) ++ x ∷ []
numbers_put n p x ts next h b here others =
    numbers_more p next
    ∙ (λ i. same_numbers i ++ here i ∷ [])
    ∙ ap (λ l. l ++ x ∷ []) (ap (λ k. numbers_of k ts) (back n p b) ∙ numbers_zeros n (p - n) ts h)
  where
    same_numbers : numbers_of p next ≡ numbers_of p ts
    same_numbers =
        same_lists (numbers_of p next) (numbers_of p ts)
        (length-numbers_of p next ∙ sym (length-numbers_of p ts))
        (λ k d c. let low : k < p = subst (λ m. k < m) (length-numbers_of p next) c in
        get_or-map-range_with_len (number_at next) 0 p k k d low (omega arith) ∙ others k low
        ∙ sym (get_or-map-range_with_len (number_at ts) 0 p k k d low (omega arith)))

    back : (n p : ℕ) → n ≤ p → p ≡ n + (p - n)
    back n p b = omega (arith, b)

-- ---- some of the terms

pub rest_whole : (n : ℕ) (ts : List (ℕ × Rational)) → take (length ts - n) (drop n ts) ≡ drop n ts
rest_whole n ts = take_all (length ts - n) (drop n ts) (omega (arith, length-drop n ts))

pub terms_dropped : (from to low n : ℕ) (ts : List (ℕ × Rational)) → AreTerms from to ts
    → ((k : ℕ) (d : ℕ × Rational) → n ≤ k → k < length ts → low ≤ (slice_index_or ts k d).0)
    → AreTerms low to (drop n ts)
terms_dropped from to low zero [] h after = tt
terms_dropped from to low zero (t ∷ ts) h after =
    (after 0 t (omega arith) (omega arith), h.1, h.2)
terms_dropped from to low (suc n) [] h after = tt
terms_dropped from to low (suc n) (t ∷ ts) h after =
    terms_dropped (t.0 + 1) to low n ts h.2
    (λ k d b c. after (suc k) d (omega (arith, b)) (omega (arith, c)))

pub terms_taken : (from to high n : ℕ) (ts : List (ℕ × Rational)) → AreTerms from to ts
    → ((k : ℕ) (d : ℕ × Rational) → k < n → k < length ts → (slice_index_or ts k d).0 < high)
    → AreTerms from high (take n ts)
terms_taken from to high zero ts h before = tt
terms_taken from to high (suc n) [] h before = tt
terms_taken from to high (suc n) (t ∷ ts) h before = (
  h.0,
  before 0 t (omega arith) (omega arith),
  terms_taken (t.0 + 1) to high n ts h.2
      (λ k d b c. before (suc k) d (omega (arith, b)) (omega (arith, c))),
)

pub nonzero_dropped : (n : ℕ) (ts : List (ℕ × Rational)) → HaveNoZeros ts → HaveNoZeros (drop n ts)
nonzero_dropped zero ts h = h
nonzero_dropped (suc n) [] h = tt
nonzero_dropped (suc n) (t ∷ ts) h = nonzero_dropped n ts h.1

pub nonzero_taken : (n : ℕ) (ts : List (ℕ × Rational)) → HaveNoZeros ts → HaveNoZeros (take n ts)
nonzero_taken zero ts h = tt
nonzero_taken (suc n) [] h = tt
nonzero_taken (suc n) (t ∷ ts) h = (h.0, nonzero_taken n ts h.1)

-- the first n are at other places
pub number_dropped : (n k : ℕ) (ts : List (ℕ × Rational))
    → ((j : ℕ) (d : ℕ × Rational) → j < n → j < length ts → ¬ ((slice_index_or ts j d).0 ≡ k))
    → number_at (drop n ts) k ≡ number_at ts k
number_dropped zero k ts other = refl
number_dropped (suc n) k [] other = refl
number_dropped (suc n) k (t ∷ ts) other =
    number_dropped n k ts (λ j d b c. other (suc j) d (omega (arith, b)) (omega (arith, c)))
    ∙ sym (number_later t ts k (other 0 t (omega arith) (omega arith)))

-- those from the n-th on are
pub number_taken : (n k : ℕ) (ts : List (ℕ × Rational))
    → ((j : ℕ) (d : ℕ × Rational) → n ≤ j → j < length ts → ¬ ((slice_index_or ts j d).0 ≡ k))
    → number_at (take n ts) k ≡ number_at ts k
number_taken zero k [] other = refl
number_taken zero k (t ∷ ts) other =
    number_taken zero k ts (λ j d b c. other (suc j) d (omega arith) (omega (arith, c)))
    ∙ sym (number_later t ts k (other 0 t (omega arith) (omega arith)))
number_taken (suc n) k [] other = refl
number_taken (suc n) k (t ∷ ts) other = λ i.
    if nat_eq t.0 k then t.1 else number_taken n k ts
    (λ j d b c. other (suc j) d (omega (arith, b)) (omega (arith, c))) i

pub at_least : (from to : ℕ) (ts : List (ℕ × Rational)) (j : ℕ) (d : ℕ × Rational)
    → AreTerms from to ts → j < length ts → from ≤ (slice_index_or ts j d).0
at_least from to [] j d h c = absurd (omega (arith, c))
at_least from to (t ∷ ts) zero d h c = h.0
at_least from to (t ∷ ts) (suc j) d h c =
    omega (arith, h.0, at_least (t.0 + 1) to ts j d h.2 (omega (arith, c)))

-- a place past a term's is past those before it
pub terms_rise : (from to : ℕ) (ts : List (ℕ × Rational)) (i j : ℕ) (d : ℕ × Rational)
    → AreTerms from to ts → i ≤ j → j < length ts
    → (slice_index_or ts i d).0 ≤ (slice_index_or ts j d).0
terms_rise from to [] i j d h b c = absurd (omega (arith, c))
terms_rise from to (t ∷ ts) zero zero d h b c = omega arith
terms_rise from to (t ∷ ts) zero (suc j) d h b c =
    omega (arith, at_least (t.0 + 1) to ts j d h.2 (omega (arith, c)))
terms_rise from to (t ∷ ts) (suc i) zero d h b c = absurd (omega (arith, b))
terms_rise from to (t ∷ ts) (suc i) (suc j) d h b c =
    terms_rise (t.0 + 1) to ts i j d h.2 (omega (arith, b)) (omega (arith, c))

-- ---- a term that is appended

pub puts_none : (p : ℕ) (x : Rational) (ts : List (ℕ × Rational)) → x ≡ zero_ℚ → Puts p x ts ts
puts_none p x ts e = record {
  terms = λ n h b. terms_wider 0 n (p + 1) ts h (omega (arith, b));
  nonzero = λ h. h;
  here = λ n h b. number_past 0 n ts p h b ∙ sym e;
  others = λ k n. refl;
}

pub puts_one : (p : ℕ) (x : Rational) (ts : List (ℕ × Rational)) → ¬ (x ≡ zero_ℚ)
    → Puts p x ts (ts ++ (p, x) ∷ [])
puts_one p x ts n = record {
  terms = λ m h b. terms_put 0 m p x ts h (omega arith) b;
  nonzero = λ h. nonzero_put p x ts h n;
  here = λ m h b. number_put_here 0 m p x ts h b;
  others = λ k m. number_put_other p x ts k m;
}

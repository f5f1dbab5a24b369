-- Laws of lists one after the other.
use Rattle.std.specs.Prelude.{◌≡◌, ℕ, ◌+◌, ◌-◌, ◌<◌, ◌≤◌, ◌⊎◌, List, [], ◌∷◌, ◌++◌, drop, flat_map, length, replicate, slice_index_or, take}
use Rattle.std.proofs.Common.{inl, inr, sym, ◌∙◌, ap, arith, subst}
use Rattle.std.proofs.Math.ListN.{drop_of_length-le}
use Rattle.std.proofs.lemmas.Bool.{cases_lt}
use Rattle.std.proofs.lemmas.Grind.{flat_map-append}
use Rattle.std.proofs.lemmas.List.{append-nil, append_assoc, drop_more, get_or-append-add, get_or_append_left, get_or_default, get_or_past, get_or_push, length-append, length-replicate, same_lists, take_more}
use Rattle.ratio_core.specs.Rational.{Rational, zero_ℚ}
use Rattle.sparse_ratios.specs.Terms.{AreTerms, number_at}
use Rattle.sparse_ratios.specs.TermLaws.{number_before, number_here, number_later}
use Rattle.sparse_lists.specs.Across.{padded}
use Rattle.sparse_lists.specs.AcrossLaws.{behind}

abbrev at : List Rational → ℕ → Rational
at list k = slice_index_or list k zero_ℚ

-- the numbers before those of the terms that are left are appended
pub record IsAppendedTo (old list : List Rational) (left : List (ℕ × Rational))
    (now : List Rational) : Type 0 where
  pub next : ℕ
  pub few : next ≤ length list
  pub rest : AreTerms next (length list) left
  pub same : (k : ℕ) → next ≤ k → slice_index_or list k zero_ℚ ≡ number_at left k
  pub high : length now ≤ length old + next
  pub cells : (k : ℕ) → k < length old + next →
      slice_index_or now k zero_ℚ ≡ slice_index_or (old ++ list) k zero_ℚ

module _ (old list : List Rational) where
  pub appended_none : (terms : List (ℕ × Rational)) → AreTerms 0 (length list) terms
      → ((k : ℕ) → number_at terms k ≡ slice_index_or list k zero_ℚ)
      → IsAppendedTo old list terms old
  appended_none terms h same = record {
    next = 0;
    few = omega arith;
    rest = h;
    same = λ k b. sym (same k);
    high = omega arith;
    cells = λ k b. sym (get_or_append_left old list zero_ℚ k (omega (arith, b)));
  }

  -- what the list has past the old numbers
  past_old : (k j : ℕ) → k ≡ length old + j → at (old ++ list) k ≡ at list j
  past_old k j e = ap (at (old ++ list)) e ∙ get_or-append-add old list j zero_ℚ

  module _ (now : List Rational) where
    pub appended_at : (all : List (ℕ × Rational)) (i : ℕ) (t : ℕ × Rational) → i < length all
        → t ≡ slice_index_or all i t → IsAppendedTo old list (drop i all) now
        → IsAppendedTo old list (t ∷ drop (i + 1) all) now
    appended_at all i t b e = subst (λ left. IsAppendedTo old list left now)
        (drop_more all i t b ∙ ap (λ x. x ∷ drop (i + 1) all) (sym e))

    pub appended_end : (all : List (ℕ × Rational)) (i : ℕ) → length all ≤ i
        → IsAppendedTo old list (drop i all) now → IsAppendedTo old list [] now
    appended_end all i b = subst (λ left. IsAppendedTo old list left now) (drop_of_length-le all b)

    module _ (t : ℕ × Rational) (left : List (ℕ × Rational))
        (h : IsAppendedTo old list (t ∷ left) now) where
      pub place_high : (start : ℕ) → start ≡ length old → length now ≤ start + t.0
      place_high start e = omega (arith, e, h.high, h.rest.0)

      pub place_within : t.0 < length list
      place_within = h.rest.1

      pub appended_more : (start : ℕ) → start ≡ length old → (next : List Rational)
          → next ≡ (now ++ replicate (start + t.0 - length now) zero_ℚ) ++ t.1 ∷ []
          → IsAppendedTo old list left next
      appended_more start e next f = record {
        next = t.0 + 1;
        few = omega (arith, h.rest.1);
        rest = h.rest.2;
        same = λ k b. h.same k (omega (arith, b, h.rest.0))
            ∙ number_later t left k (λ g. omega (arith, b, g));
        high = omega (arith, long, e);
        cells = λ k b. by_end k b (cases_lt k (start + t.0));
      }
        where
          front : List Rational
          front = now ++ replicate (start + t.0 - length now) zero_ℚ

          front_long : length front ≡ start + t.0
          front_long =
              length-append now (replicate (start + t.0 - length now) zero_ℚ)
              ∙ ap (λ n. length now + n) (length-replicate (start + t.0 - length now) zero_ℚ)
              ∙ back_lem (length now) (start + t.0) (place_high start e)
            where
              back_lem : (l n : ℕ) → l ≤ n → l + (n - l) ≡ n
              back_lem l n b = omega (arith, b)

          long : length next ≡ start + t.0 + 1
          long = ap length f ∙ length-append front (t.1 ∷ []) ∙ ap (λ n. n + 1) front_long

          skipped : (k : ℕ) → length old + h.next ≤ k → k < start + t.0
              → at now k ≡ at (old ++ list) k
          skipped k b c =
              get_or_past now k zero_ℚ (omega (arith, b, h.high))
              ∙ sym (past_old k (k - length old) (omega (arith, b))
              ∙ h.same (k - length old) (omega (arith, b))
              ∙ number_later t left (k - length old) (λ g. omega (arith, b, c, e, g))
              ∙ number_before (t.0 + 1) (length list) left (k - length old) h.rest.2
              (omega (arith, b, c, e)))

          by_next : (k : ℕ) → k < start + t.0 → (k < length old + h.next) ⊎ (length old + h.next ≤ k)
              → at now k ≡ at (old ++ list) k
          by_next k c (inl b) = h.cells k b
          by_next k c (inr b) = skipped k b c

          by_end : (k : ℕ) → k < length old + (t.0 + 1) → (k < start + t.0) ⊎ (start + t.0 ≤ k)
              → at next k ≡ at (old ++ list) k
          by_end k b (inl c) =
              ap (λ l. at l k) f
              ∙ get_or_append_left front (t.1 ∷ []) zero_ℚ k (omega (arith, c, front_long))
              ∙ behind now (start + t.0 - length now) k
              ∙ by_next k c (cases_lt k (length old + h.next))
          by_end k b (inr c) =
              ap (λ l. at l k) f
              ∙ get_or_push front t.1 zero_ℚ k (omega (arith, front_long, b, c, e))
              ∙ sym (past_old k t.0 (omega (arith, b, c, e)) ∙ h.same t.0 h.rest.0
              ∙ number_here t left t.0 (λ i. t.0))

    pub appended_low : (start end len : ℕ) → start ≡ length old → end ≡ start + len
        → length list ≤ len → IsAppendedTo old list [] now → length now ≤ end
    appended_low start end len e f b h = omega (arith, e, f, b, h.high, h.few)

    pub appended_all : (start end len : ℕ) → start ≡ length old → end ≡ start + len
        → length list ≤ len → IsAppendedTo old list [] now
        → now ++ replicate (end - length now) zero_ℚ ≡ old ++ padded len list
    appended_all start end len e f b h =
        same_lists (now ++ replicate (end - length now) zero_ℚ) (old ++ padded len list)
        (left_long ∙ sym right_long)
        (λ k d c. get_or_default (now ++ replicate (end - length now) zero_ℚ) k d zero_ℚ c
        ∙ behind now (end - length now) k ∙ by_end k (cases_lt k (length old + h.next))
        ∙ sym (ap (λ l. at l k) (sym (append_assoc old list
        (replicate (len - length list) zero_ℚ)))
        ∙ behind (old ++ list) (len - length list) k)
        ∙ get_or_default (old ++ padded len list) k zero_ℚ d
        (subst (λ n. k < n) (left_long ∙ sym right_long) c))
      where
        left_long : length (now ++ replicate (end - length now) zero_ℚ) ≡ end
        left_long =
            length-append now (replicate (end - length now) zero_ℚ)
            ∙ ap (λ n. length now + n) (length-replicate (end - length now) zero_ℚ)
            ∙ back_lem (length now) end (appended_low start end len e f b h)
          where
            back_lem : (l n : ℕ) → l ≤ n → l + (n - l) ≡ n
            back_lem l n b = omega (arith, b)

        right_long : length (old ++ padded len list) ≡ end
        right_long =
            length-append old (padded len list)
            ∙ ap (λ n. length old + n) (length-append list (replicate (len - length list) zero_ℚ)
            ∙ ap (λ n. length list + n) (length-replicate (len - length list) zero_ℚ))
            ∙ sum_lem (length old) (length list) len start end b e f
          where
            sum_lem : (o l len start end : ℕ) → l ≤ len → start ≡ o → end ≡ start + len
                → o + (l + (len - l)) ≡ end
            sum_lem o l len start end b e f = omega (arith, b, e, f)

        by_end : (k : ℕ) → (k < length old + h.next) ⊎ (length old + h.next ≤ k)
            → at now k ≡ at (old ++ list) k
        by_end k (inl c) = h.cells k c
        by_end k (inr c) =
            get_or_past now k zero_ℚ (omega (arith, c, h.high))
            ∙ sym (past_old k (k - length old) (omega (arith, c))
            ∙ h.same (k - length old) (omega (arith, c)))

pub flat_map_more : {X Y : Type 0} (f : X → List Y) (xs : List X) (i : ℕ) (d : X) → i < length xs
    → flat_map f (take (i + 1) xs) ≡ flat_map f (take i xs) ++ f (slice_index_or xs i d)
flat_map_more f xs i d b =
    ap (flat_map f) (take_more xs i d b)
    ∙ flat_map-append f (take i xs) (slice_index_or xs i d ∷ [])
    ∙ ap (λ l. flat_map f (take i xs) ++ l) (append-nil (f (slice_index_or xs i d)))

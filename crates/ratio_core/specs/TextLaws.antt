-- The law of texts: what is printed reads back (`reads_back`).
use Rattle.std.proofs.Common.{◌≡◌, ℕ, zero, suc, ◌+◌, ◌^◌, ◌<◌, Bool, true, false, cond, List, [], ◌∷◌, ◌++◌, length, take, drop, slice_index, decimal, Some, ℤ, pos, negsuc, unsigned_abs, refl, sym, ◌∙◌, ap, ap₂, subst, arith, eq-eqb, ne_eqb, lt-ltb, ◌==◌, eqb-true}
use Rattle.std.proofs.Math.Seq.{drop-append-add, take-append_seam}
use Rattle.std.proofs.lemmas.Bool.Decides.{nat_tests}
use Rattle.std.proofs.lemmas.Fmt.{decimal_is_IsNumeral_wide}
use Rattle.std.specs.Char.{digit_value, is_ascii_digit}
use Rattle.std.specs.Fmt.{signed_decimal}
use Rattle.std.specs.List.{after_first, before_first, list_all, list_any, position_or_len}
use Rattle.std.specs.Str.Parse.{AllDigits, IsNumeral, digits_value}
use Rattle.ratio_core.specs.Rational.{Fits, Rational, reduce, signed}
use Rattle.ratio_core.specs.RationalLaws.{reduce_itself}
use Rattle.ratio_core.specs.Text.{denominator_of, denominator_text, is_part, is_slash, numerator_of, part_of, rational_from, rational_of, text_of}

-- ---- the sign

pub minus_read : (text : List ℕ) → slice_index text 0 ≡ 45
    → rational_from true (numerator_of (drop 1 text)) (denominator_of (drop 1 text))
    ≡ rational_of text
unfolding rational_of
minus_read text e = sym (ap (λ t. rational_from t (numerator_of (cond t (drop 1 text) text))
    (denominator_of (cond t (drop 1 text) text))) (eq-eqb _ _ e))

pub plain_read : (text : List ℕ) → ¬ (slice_index text 0 ≡ 45)
    → rational_from false (numerator_of text) (denominator_of text) ≡ rational_of text
unfolding rational_of
plain_read text e = sym (ap (λ t. rational_from t (numerator_of (cond t (drop 1 text) text))
    (denominator_of (cond t (drop 1 text) text))) (ne_eqb _ _ e))

-- ---- digits

digit_lem : (c : ℕ) → digit_value c < 10 → is_ascii_digit c ≡ true
digit_lem c h = grind (arith, nat_tests)

not_slash : (c : ℕ) → digit_value c < 10 → is_slash c ≡ false
not_slash c h = grind (arith, nat_tests)

all_digits : (ds : List ℕ) → AllDigits 10 ds → list_all is_ascii_digit ds ≡ true
all_digits [] h = refl
all_digits (c ∷ cs) h = rw (digit_lem c h.0) (all_digits cs h.1)

-- digits before another text: they have no slash
slash_past : (ds rest : List ℕ) → AllDigits 10 ds
    → list_any is_slash (ds ++ rest) ≡ list_any is_slash rest
slash_past [] rest h = refl
slash_past (c ∷ cs) rest h = rw (not_slash c h.0) (slash_past cs rest h.1)

place_past : (ds rest : List ℕ) → AllDigits 10 ds → position_or_len is_slash rest ≡ 0
    → position_or_len is_slash (ds ++ rest) ≡ length ds
place_past [] rest h e = e
place_past (c ∷ cs) rest h e =
    rw (not_slash c h.0) (ap (λ n. 1 + n) (place_past cs rest h.1 e) ∙ one_lem (length cs))
  where
    one_lem : (n : ℕ) → 1 + n ≡ suc n
    one_lem n = omega arith

first_lem : (ds rest : List ℕ) → IsNumeral 10 ds → ¬ (slice_index (ds ++ rest) 0 ≡ 45)
first_lem [] rest h = absurd (omega (arith, h.0))
first_lem (c ∷ cs) rest h = λ e. below_lem c h.1.0 e
  where
    below_lem : (c : ℕ) → digit_value c < 10 → ¬ (c ≡ 45)
    below_lem c h e = grind (arith, nat_tests)

numeral_lem : (n : ℕ) → n < 2 ^ 127 → IsNumeral 10 (decimal n) × (digits_value 10 (decimal n) ≡ n)
numeral_lem n h = decimal_is_IsNumeral_wide n (omega (arith, h))

part_decimal : (n : ℕ) → n < 2 ^ 127 → part_of (decimal n) ≡ Some n
unfolding part_of is_part
part_decimal n h =
    let numeral : IsNumeral 10 (decimal n) × (digits_value 10 (decimal n) ≡ n) = numeral_lem n h in
    passes_lem (decimal n) n numeral.0 numeral.1 h
  where
    passes_lem : (ds : List ℕ) (n : ℕ) → IsNumeral 10 ds → digits_value 10 ds ≡ n → n < 2 ^ 127
        → part_of ds ≡ Some n
    passes_lem ds n k e l =
        rw (lt-ltb 0 (length ds) k.0, all_digits ds k.1, e, lt-ltb n (2 ^ 127) l) refl

abbrev tail_of : Bool → ℕ → List ℕ
tail_of t d = cond t [] (47 ∷ decimal d)

front_lem : (ds : List ℕ) (d : ℕ) (t : Bool) → AllDigits 10 ds
    → before_first is_slash (ds ++ tail_of t d) ≡ ds
front_lem ds d t h =
    ap (λ n. take n (ds ++ tail_of t d)) (place_past ds (tail_of t d) h (at_once t))
    ∙ take-append_seam ds (tail_of t d)
  where
    at_once : (t : Bool) → position_or_len is_slash (tail_of t d) ≡ 0
    at_once true = refl
    at_once false = refl

back_lem : (ds : List ℕ) (d : ℕ) (t : Bool) → (d == 1) ≡ t → AllDigits 10 ds → d < 2 ^ 127
    → cond (list_any is_slash (ds ++ tail_of t d))
    (part_of (after_first is_slash (ds ++ tail_of t d))) (Some 1) ≡ Some d
back_lem ds d true e h k =
    ap (λ b. cond b (part_of (after_first is_slash (ds ++ []))) (Some 1)) (slash_past ds [] h)
    ∙ ap Some (sym (eqb-true d 1 e))
back_lem ds d false e h k =
    ap (λ b. cond b (part_of (after_first is_slash (ds ++ 47 ∷ decimal d))) (Some 1))
    (slash_past ds (47 ∷ decimal d) h)
    ∙ ap (λ n. part_of (drop (n + 1) (ds ++ 47 ∷ decimal d)))
    (place_past ds (47 ∷ decimal d) h refl)
    ∙ ap part_of (drop-append-add ds (47 ∷ decimal d) 1)
    ∙ part_decimal d k

module _ (n d : ℕ) (h : n < 2 ^ 127) (k : d < 2 ^ 127) where
  numerator_lem : numerator_of (decimal n ++ denominator_text d) ≡ Some n
  unfolding numerator_of denominator_text
  numerator_lem = ap part_of (front_lem (decimal n) d (d == 1) (numeral_lem n h).0.1)
      ∙ part_decimal n h

  denominator_lem : denominator_of (decimal n ++ denominator_text d) ≡ Some d
  unfolding denominator_of denominator_text
  denominator_lem = back_lem (decimal n) d (d == 1) refl (numeral_lem n h).0.1 k

above_lem : (s : Bool) (n d : ℕ) → 0 < d
    → rational_from s (Some n) (Some d) ≡ Some (reduce (signed s n) d)
above_lem s n zero h = absurd (omega arith)
above_lem s n (suc d) h = refl

both_lem : (s : Bool) (n d : ℕ) → n < 2 ^ 127 → d < 2 ^ 127 → 0 < d
    → rational_from s (numerator_of (decimal n ++ denominator_text d))
    (denominator_of (decimal n ++ denominator_text d)) ≡ Some (reduce (signed s n) d)
both_lem s n d h k above = ap₂ (rational_from s) (numerator_lem n d h k) (denominator_lem n d h k)
    ∙ above_lem s n d above

signed_lem : (z : ℤ) (d : ℕ) → unsigned_abs z < 2 ^ 127 → d < 2 ^ 127 → 0 < d
    → rational_of (signed_decimal z ++ denominator_text d) ≡ Some (reduce z d)
signed_lem (pos n) d h k above =
    sym (plain_read (decimal n ++ denominator_text d)
    (first_lem (decimal n) (denominator_text d) (numeral_lem n h).0))
    ∙ both_lem false n d h k above
signed_lem (negsuc n) d h k above =
    sym (minus_read (45 ∷ (decimal (suc n) ++ denominator_text d)) refl)
    ∙ both_lem true (suc n) d h k above

pub reads_back : (q : Rational) → Fits q → rational_of (text_of q) ≡ Some q
unfolding text_of
reads_back q f = signed_lem q.num q.den f.num f.den q.reduced.0 ∙ ap Some (reduce_itself q)

-- the same, of the parts as they are kept
pub kept_reads_back : (q : Rational) (size den : ℕ) → size ≡ unsigned_abs q.num → den ≡ q.den
    → size < 2 ^ 127 → den < 2 ^ 127 → rational_of (text_of q) ≡ Some q
kept_reads_back q size den e f h k =
    reads_back q (record { num = subst (λ n. n < 2 ^ 127) e h; den = subst (λ n. n < 2 ^ 127) f k })

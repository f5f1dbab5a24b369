-- The parts of a literal, round its first '/'.
use Rattle.std.proofs.Common.{◌≡◌, ℕ, zero, suc, ◌+◌, ◌-◌, ◌<◌, Bool, true, false, cond, List, [], length, take, drop, Option, Some, None, position, refl, sym, ◌∙◌, ap, arith, nat_lt, ltb-false, length-drop, take_all, lt-ltb, le-ltb}
use Rattle.std.proofs.lemmas.Bool.Decides.{nat_tests}
use Rattle.std.proofs.Common.{◌/◌, ◌^◌, ◌∷◌, Ok, Err, OkIff, Result, ap₂, div-le_self, slice_index}
use Rattle.std.specs.Result.{result_ok}
use Rattle.ratio_core.specs.Gcd.{gcd}
use Rattle.ratio_core.specs.Rational.{Fits, Rational, reduce, signed}
use Rattle.ratio_core.specs.Text.{denominator_of, is_slash, numerator_of, part_of, rational_from}
use Rattle.ratio_core.proofs.Kept.{lowest_made}
use Rattle.std.specs.List.{after_first, before_first, list_any, position_or_len}

head_lem : (p : ℕ → Bool) (x : ℕ) (xs : List ℕ) (b : Bool) → p x ≡ b
    → list_any p xs ≡ nat_lt (position_or_len p xs) (length xs)
    → list_any p (x ∷ xs) ≡ nat_lt (position_or_len p (x ∷ xs)) (length (x ∷ xs))
head_lem p x xs true e h = rw e (sym (lt-ltb 0 (suc (length xs)) (omega arith)))
head_lem p x xs false e h = rw e (h ∙ suc_lem (position_or_len p xs) (length xs))
  where
    suc_lem : (m n : ℕ) → nat_lt m n ≡ nat_lt (1 + m) (suc n)
    suc_lem m n = grind (arith, nat_tests)

-- an element passes where the first place that passes is within
pub list_any-position : (p : ℕ → Bool) (xs : List ℕ)
    → list_any p xs ≡ nat_lt (position_or_len p xs) (length xs)
list_any-position p [] = sym (le-ltb 0 0 (omega arith))
list_any-position p (x ∷ xs) = head_lem p x xs (p x) refl (list_any-position p xs)

-- a place that is found is the first that passes
found_lem : (m n i : ℕ) (t : Bool) → nat_lt m n ≡ t → cond t (Some m) None ≡ Some i
    → (m ≡ i) × (nat_lt m n ≡ true)
found_lem m n i true e f = (cc, e)
found_lem m n i false e f = cc

pub position_found : (p : ℕ → Bool) (xs : List ℕ) (i : ℕ) → position p xs ≡ Some i
    → (position_or_len p xs ≡ i) × (list_any p xs ≡ true)
position_found p xs i e =
    let found : (position_or_len p xs ≡ i) × (nat_lt (position_or_len p xs) (length xs) ≡ true) =
    found_lem (position_or_len p xs) (length xs) i _ refl e in
    (found.0, list_any-position p xs ∙ found.1)

none_lem : (m n : ℕ) (t : Bool) → nat_lt m n ≡ t → cond t (Some m) None ≡ None → nat_lt m n ≡ false
none_lem m n true e f = cc
none_lem m n false e f = e

pub position_none : (p : ℕ → Bool) (xs : List ℕ) → position p xs ≡ None → (before_first p xs ≡ xs)
    × (list_any p xs ≡ false)
position_none p xs e =
    let none : nat_lt (position_or_len p xs) (length xs) ≡ false = none_lem (position_or_len p xs)
    (length xs) _ refl e in
    (take_all _ xs (ltb-false _ _ none), list_any-position p xs ∙ none)

-- ---- a literal of two parts

-- parts below the limit stay below it in lowest terms
divided_lem : (n g : ℕ) → n < 2 ^ 127 → n / g < 2 ^ 127
divided_lem n g h = omega (arith, div-le_self n g)

pub fits_in_lowest : (s : Bool) (n d : ℕ) → 0 < d → n < 2 ^ 127 → d < 2 ^ 127
    → Fits (reduce (signed s n) d)
fits_in_lowest s n d above h k =
    (lowest_made s n d refl above refl refl (divided_lem n (gcd n d) h)
    (divided_lem d (gcd n d) k)).fits

ok_lem : {E : Type 0} (r : Result Rational E) (q : Rational) → Fits q → OkIff r (Fits q) q
    → result_ok r ≡ Some q
ok_lem (Ok x) q f h = ap Some h.1
ok_lem (Err e) q f h = absurd (h f)

both_lem : (s : Bool) (n d : ℕ) → ¬ (d ≡ 0) → Some (reduce (signed s n) d)
    ≡ rational_from s (Some n) (Some d)
both_lem s n zero h = absurd (h refl)
both_lem s n (suc d) h = refl

pub fraction_is : {E : Type 0} (s : Bool) (size den : Option ℕ) (n d : ℕ) (r : Result Rational E)
    (o : Option Rational) → size ≡ Some n → den ≡ Some d → n < 2 ^ 127 → d < 2 ^ 127 → ¬ (d ≡ 0)
    → OkIff r (Fits (reduce (signed s n) d)) (reduce (signed s n) d) → o ≡ result_ok r
    → o ≡ rational_from s size den
fraction_is s size den n d r o e f h k above exact same =
    same ∙ ok_lem r _ (fits_in_lowest s n d (omega arith) h k) exact ∙ both_lem s n d above
    ∙ sym (ap₂ (rational_from s) e f)

-- ---- round the slash

pub parts_at : (s : Bool) (text : List ℕ) (i : ℕ) (n d : Option ℕ) → position is_slash text ≡ Some i
    → n ≡ part_of (take i text) → d ≡ part_of (drop (i + 1) text)
    → rational_from s n d ≡ rational_from s (numerator_of text) (denominator_of text)
unfolding numerator_of denominator_of
parts_at s text i n d e f g =
    let found : (position_or_len is_slash text ≡ i) × (list_any is_slash text ≡ true) =
    position_found is_slash text i e in
    ap₂ (rational_from s) (f ∙ ap (λ k. part_of (take k text)) (sym found.0)) (g
    ∙ ap (λ k. part_of (drop (k + 1) text)) (sym found.0)
    ∙ sym (ap (λ t. cond t (part_of (after_first is_slash text)) (Some 1)) found.1))

pub parts_whole : (s : Bool) (text : List ℕ) (n : Option ℕ) → position is_slash text ≡ None
    → n ≡ part_of text → rational_from s n (Some 1) ≡ rational_from s (numerator_of text)
    (denominator_of text)
unfolding numerator_of denominator_of
parts_whole s text n e f =
    let none : (before_first is_slash text ≡ text) × (list_any is_slash text ≡ false) =
    position_none is_slash text e in
    ap₂ (rational_from s) (f ∙ ap part_of (sym none.0))
    (sym (ap (λ t. cond t (part_of (after_first is_slash text)) (Some 1)) none.1))

-- ---- the sign

pub empty_start : (text : List ℕ) → length text ≡ 0 → ¬ (slice_index text 0 ≡ 45)
empty_start [] h e = omega arith
empty_start (c ∷ cs) h e = omega arith

-- what a slice from a place to the end has
pub rest_is : (text : List ℕ) (i : ℕ) → take (length text - i) (drop i text) ≡ drop i text
rest_is text i = take_all _ (drop i text) (omega (arith, length-drop i text))

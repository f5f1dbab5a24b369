-- The bytes of lines: none is a newline, and none of a number or a name is a space.
use Rattle.std.proofs.Common.{◌≡◌, ℕ, zero, suc, ◌/◌, ◌%◌, ◌≤◌, Bool, true, false, cond, eqb, leb, List, [], ◌∷◌, decimal, ℤ, pos, negsuc, arith, ne_eqb, leb-true}
use Rattle.std.specs.Fmt.{digit_glyph, digits, digits_onto, signed_decimal}
use Rattle.std.specs.List.{All, list_all}
use Rattle.std.proofs.lemmas.Bool.{and_parts}
use Rattle.std.proofs.lemmas.Bool.Decides.{nat_tests}
use Rattle.std.proofs.lemmas.List.Elements.{All-append, All-cons, All-nil, All-weaker}
use Rattle.ratio_core.specs.Rational.{Rational}
use Rattle.ratio_core.specs.Text.{denominator_text, text_of}
use Rattle.cert_text.specs.ReadsBack.{IsGraphic}

abbrev pub is_space : ℕ → Bool
is_space b = eqb b 32

abbrev pub is_newline : ℕ → Bool
is_newline b = eqb b 10

-- bytes past the space
abbrev pub Above : List ℕ → Type 0
Above bs = All (λ b. 33 ≤ b) bs

-- bytes that a line may have
abbrev pub OnLine : List ℕ → Type 0
OnLine bs = All (λ b. 32 ≤ b) bs

pub no_spaces : (bs : List ℕ) → Above bs → All (λ b. is_space b ≡ false) bs
no_spaces bs h =
    All-weaker (λ b. 33 ≤ b) (λ b. is_space b ≡ false) (λ b l. ne_eqb b 32 (λ e. omega arith)) bs h

pub no_newlines : (bs : List ℕ) → OnLine bs → All (λ b. is_newline b ≡ false) bs
no_newlines bs h =
    All-weaker (λ b. 32 ≤ b) (λ b. is_newline b ≡ false)
    (λ b l. ne_eqb b 10 (λ e. omega arith)) bs h

pub on_line : (bs : List ℕ) → Above bs → OnLine bs
on_line bs h = All-weaker (λ b. 33 ≤ b) (λ b. 32 ≤ b) (λ b l. omega arith) bs h

pub by_test : (bs : List ℕ) → list_all (λ b. leb 32 b) bs ≡ true → OnLine bs
by_test [] h = All-nil (λ b. 32 ≤ b)
by_test (b ∷ bs) h =
    let both : (leb 32 b ≡ true) × (list_all (λ b. leb 32 b) bs ≡ true) =
    and_parts (leb 32 b) (list_all (λ b. leb 32 b) bs) h in
    All-cons (λ b. 32 ≤ b) b bs (leb-true 32 b both.0) (by_test bs both.1)

-- ---- numbers

glyph_above : (upper : Bool) (d : ℕ) → 33 ≤ digit_glyph upper d
glyph_above true d = grind (arith, nat_tests)
glyph_above false d = grind (arith, nat_tests)

digits_above : (k n : ℕ) (rest : List ℕ) → Above rest → Above (digits_onto k 10 false n rest)
digits_above zero n rest h = h
digits_above (suc k) n rest h =
    let more : Above (digit_glyph false (n % 10) ∷ rest) =
    All-cons (λ b. 33 ≤ b) (digit_glyph false (n % 10)) rest (glyph_above false (n % 10)) h in
    last (eqb (n / 10) 0) (digit_glyph false (n % 10) ∷ rest) (digits_onto k 10 false (n / 10)
    (digit_glyph false (n % 10) ∷ rest)) more (digits_above k (n / 10)
    (digit_glyph false (n % 10) ∷ rest) more)
  where
    last : (t : Bool) (xs ys : List ℕ) → Above xs → Above ys → Above (cond t xs ys)
    last true xs ys h k = h
    last false xs ys h k = k

decimal_above : (n : ℕ) → Above (decimal n)
unfolding digits
decimal_above n = digits_above 64 n [] (All-nil (λ b. 33 ≤ b))

signed_above : (z : ℤ) → Above (signed_decimal z)
signed_above (pos n) = decimal_above n
signed_above (negsuc n) =
    All-cons (λ b. 33 ≤ b) 45 (decimal (suc n)) (omega arith) (decimal_above (suc n))

denominator_above : (d : ℕ) → Above (denominator_text d)
unfolding denominator_text
denominator_above d =
    last (eqb d 1) (All-cons (λ b. 33 ≤ b) 47 (decimal d) (omega arith) (decimal_above d))
  where
    last : (t : Bool) → Above (47 ∷ decimal d) → Above (cond t [] (47 ∷ decimal d))
    last true h = All-nil (λ b. 33 ≤ b)
    last false h = h

pub number_above : (q : Rational) → Above (text_of q)
unfolding text_of
number_above q =
    All-append (λ b. 33 ≤ b) (signed_decimal q.num) (denominator_text q.den) (signed_above q.num)
    (denominator_above q.den)

-- ---- names

pub graphic_above : (bs : List ℕ) → IsGraphic bs → Above bs
graphic_above bs h = All-weaker (λ b. (33 ≤ b) × (b ≤ 126)) (λ b. 33 ≤ b) (λ b l. l.0) bs h

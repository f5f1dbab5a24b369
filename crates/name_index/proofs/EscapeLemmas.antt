-- The escapes of names are those of the crate percent_encoding, and an escaped name reads back.
use Rattle.std.proofs.Common.{◌≡◌, ℕ, ◌+◌, ◌*◌, ◌/◌, ◌%◌, ◌<◌, ◌≤◌, true, false, nat_lt, if◌then◌else◌, List, [], ◌∷◌, ◌++◌, All, sym, refl, ap, ◌∙◌, subst, arith, ⊎_elim}
use Rattle.std.specs.Char.{digit_value, is_digit, is_ascii_hexdigit}
use Rattle.std.specs.Fmt.{digit_glyph}
use Rattle.std.proofs.lemmas.Bool.{agree_below, agree_below_at, cond-true, cond-false, cond_both, and_parts}
use Rattle.std.proofs.lemmas.Bool.Decides.{nat_tests}
use Rattle.std.proofs.lemmas.List.Elements.{All-nil, All-cons, All-append, All-head, All-tail}
use Rattle.std.proofs.Math.Utf8.{scalar, scalars, encode, encodes, scalar_cases}
use Rattle.std.specs.Str.{IsUtf8}
use Rattle.percent_encoding.specs.AsciiSet.{should_percent_encode}
use Rattle.percent_encoding.specs.Percent as crate
use Rattle.percent_encoding.proofs.AsciiSetLemmas.{ascii_from_kept}
use Rattle.percent_encoding.proofs.PercentLemmas.{IsByte, IsEscapeByte, All-percent_encode, round_trip}
use Rattle.name_index.specs.declared.name.TheConstants.{ESCAPED}
use Rattle.name_index.specs.Escape.{percent, hex_digit, hex_value, is_escaped, escaped_byte, escaped, is_escape, percent_decoded}

-- ---- bytes of a text

-- the bytes in one character, one to four of them
one : (a : ℕ) → IsByte a → All IsByte (a ∷ [])
one a p = All-cons IsByte a [] p (All-nil IsByte)

two : (a b : ℕ) → IsByte a → IsByte b → All IsByte (a ∷ b ∷ [])
two a b p q = All-cons IsByte a (b ∷ []) p (one b q)

three : (a b c : ℕ) → IsByte a → IsByte b → IsByte c → All IsByte (a ∷ b ∷ c ∷ [])
three a b c p q r = All-cons IsByte a (b ∷ c ∷ []) p (two b c q r)

four : (a b c d : ℕ) → IsByte a → IsByte b → IsByte c → IsByte d → All IsByte (a ∷ b ∷ c ∷ d ∷ [])
four a b c d p q r s = All-cons IsByte a (b ∷ c ∷ d ∷ []) p (three b c d q r s)

bytes_of_char : (c : ℕ) → c < 1114112 → All IsByte (encode c)
unfolding encode
bytes_of_char c small =
    let low : (x : ℕ) → IsByte (128 + x % 64) = λ x. omega arith in
    cond_both (nat_lt c 128) _ _ (All IsByte) (λ t. one c (grind (arith, nat_tests)))
    (λ _. cond_both (nat_lt c 2048) _ _ (All IsByte) (λ t. let high : c < 2048 = grind (
      arith,
      nat_tests,
    ) in two _ _ (omega arith) (low c))
    (λ _. cond_both (nat_lt c 65536) _ _ (All IsByte) (λ t. let high : c < 65536 = grind (
      arith,
      nat_tests,
    ) in three _ _ _ (omega arith) (low (c / 64)) (low c))
    (λ _. four _ _ _ _ (omega arith) (low (c / 4096)) (low (c / 64)) (low c))))

bytes_of_chars : (cs : List ℕ) → scalars cs ≡ true → All IsByte (encodes cs)
bytes_of_chars [] good = All-nil IsByte
bytes_of_chars (c ∷ cs) good =
    let parts = and_parts (scalar c) (scalars cs) good in
    All-append IsByte (encode c) (encodes cs)
    (bytes_of_char c (⊎_elim (λ h. omega arith) (λ h. h.1) (scalar_cases c parts.0)))
    (bytes_of_chars cs parts.1)

-- UTF-8 is made of bytes
pub bytes_from_utf8 : (bs : List ℕ) → IsUtf8 bs → All IsByte bs
bytes_from_utf8 bs utf8 = subst (All IsByte) utf8.1.1 (bytes_of_chars utf8.0 utf8.1.0)

-- ---- writing

escaped_checked : agree_below (should_percent_encode ESCAPED) is_escaped 256 ≡ true
unfolding should_percent_encode
escaped_checked = refl

-- the set of the code has the bytes that are escaped
in_set : (b : ℕ) → b < 256 → should_percent_encode ESCAPED b ≡ is_escaped b
in_set b small =
    agree_below_at (should_percent_encode ESCAPED) is_escaped 256 b escaped_checked small

digits_of_byte : (b : ℕ) → b < 256 → crate.percent_encode_byte b
    ≡ percent ∷ hex_digit (b / 16) ∷ hex_digit (b % 16) ∷ []
unfolding crate.percent_encode_byte
digits_of_byte b small =
    let high : b / 16 % 16 ≡ b / 16 = omega arith in
    ap (λ (d : ℕ). percent ∷ digit_glyph true d ∷ digit_glyph true (b % 16) ∷ []) high

byte_escaped : (b : ℕ) → b < 256 → crate.encode_byte ESCAPED b ≡ escaped_byte b
byte_escaped b small = λ i. if in_set b small i then digits_of_byte b small i else b ∷ []

-- what the code writes is the escapes of the bytes
pub percent_encode-escaped : (bs : List ℕ) → All IsByte bs
    → crate.percent_encode ESCAPED bs ≡ escaped bs
unfolding crate.percent_encode escaped
percent_encode-escaped [] small = refl
percent_encode-escaped (b ∷ bs) small =
    λ i. byte_escaped b (All-head IsByte b bs small) i ++ percent_encode-escaped bs
    (All-tail IsByte b bs small) i

-- ---- reading

hex_test : (c : ℕ) → is_digit c 16 ≡ is_ascii_hexdigit c
hex_test c = grind (arith, nat_tests)

hex_same : (c : ℕ) → is_ascii_hexdigit c ≡ true → digit_value c ≡ hex_value c
hex_same c hex = grind (arith, nat_tests)

escape_test : (b high low : ℕ) → crate.is_escape b high low ≡ is_escape b high low
escape_test b high low = grind (arith, nat_tests, hex_test high, hex_test low)

high_is_hex : (b high low : ℕ) → is_escape b high low ≡ true → is_ascii_hexdigit high ≡ true
high_is_hex b high low t = grind (arith, nat_tests)

low_is_hex : (b high low : ℕ) → is_escape b high low ≡ true → is_ascii_hexdigit low ≡ true
low_is_hex b high low t = grind (arith, nat_tests)

unescaped_range : (b : ℕ) → is_escaped b ≡ false → (33 ≤ b) × (b ≤ 126)
unescaped_range b plain = grind (arith, nat_tests)

-- what the code reads is what the bytes stand for
pub percent_decode-decoded : (bs : List ℕ) → crate.percent_decode bs ≡ percent_decoded bs
unfolding crate.percent_decode percent_decoded
percent_decode-decoded [] = refl
percent_decode-decoded (b ∷ []) = refl
percent_decode-decoded (b ∷ c ∷ []) = refl
percent_decode-decoded (b ∷ high ∷ low ∷ rest) =
    elim (is_escape b high low) as (λ t. is_escape b high low ≡ t → crate.percent_decode
    (b ∷ high ∷ low ∷ rest) ≡ percent_decoded (b ∷ high ∷ low ∷ rest)) [
      | true ↦ λ t.
          let high_same = hex_same high (high_is_hex b high low t) in
          let low_same = hex_same low (low_is_hex b high low t) in
          cond-true _ _ _ (escape_test b high low ∙ t)
          ∙ (λ i. (16 * high_same i + low_same i) ∷ percent_decode-decoded rest i)
          ∙ sym (cond-true _ _ _ t)
      | false ↦ λ t.
          cond-false _ _ _ (escape_test b high low ∙ t)
          ∙ ap (λ l. b ∷ l) (percent_decode-decoded (high ∷ low ∷ rest))
          ∙ sym (cond-false _ _ _ t)
    ] refl

-- ---- the way back

-- an escaped text has bytes from 33 to 126 alone
pub graphic-escaped : (bs : List ℕ) → All IsByte bs → All (λ b. (33 ≤ b) × (b ≤ 126)) (escaped bs)
graphic-escaped bs small =
    subst (All (λ b. (33 ≤ b) × (b ≤ 126))) (percent_encode-escaped bs small)
    (All-percent_encode (λ b. (33 ≤ b) × (b ≤ 126)) ESCAPED bs kept digit)
  where
    kept : (b : ℕ) → should_percent_encode ESCAPED b ≡ false → (33 ≤ b) × (b ≤ 126)
    kept b outside = let ascii = ascii_from_kept ESCAPED b outside in
        let plain : is_escaped b ≡ false = sym (in_set b (omega arith)) ∙ outside in
        unescaped_range b plain

    digit : (b : ℕ) → IsEscapeByte b → (33 ≤ b) × (b ≤ 126)
    digit b one = grind arith

-- and stands for the text
pub percent_decoded-escaped : (bs : List ℕ) → All IsByte bs → percent_decoded (escaped bs) ≡ bs
percent_decoded-escaped bs small =
    sym (percent_decode-decoded (escaped bs)) ∙ ap crate.percent_decode
    (sym (percent_encode-escaped bs small)) ∙ round_trip ESCAPED bs refl small

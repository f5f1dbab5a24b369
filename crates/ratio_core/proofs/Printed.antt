-- Decimal digits, written from the last to the first.
use Rattle.std.proofs.Common.{◌≡◌, ℕ, zero, suc, ◌+◌, ◌-◌, ◌*◌, ◌/◌, ◌%◌, ◌^◌, ◌<◌, ◌≤◌, Bool, true, false, cond, List, [], ◌∷◌, ◌++◌, length, drop, set, decimal, refl, sym, ◌∙◌, ap, ap₂, subst, arith, ◌==◌, eq-eqb, ne_eqb, lt-ltb, pos, negsuc, ℤ, unsigned_abs, pow-suc, drop-cons, drop-set-lt, get_or-set_same, length-set, zero-le, le-ltb, drop_of_length-le, append-nil, take, take_all, length-drop}
use Rattle.std.specs.Fmt.{digits_onto, digit_glyph, signed_decimal}
use Rattle.std.specs.Fmt as Fmt
use Rattle.std.specs.Int.{is_negative}
use Rattle.ratio_core.specs.Rational.{Rational}
use Rattle.ratio_core.specs.Text.{denominator_text, text_of}

glyph_lem : (n : ℕ) → digit_glyph false (n % 10) ≡ 48 + n % 10
glyph_lem n =
    let small : n % 10 < 10 = omega arith in
    ap (λ t. cond t (48 + n % 10) (87 + n % 10)) (lt-ltb (n % 10) 10 small)

last_lem : (left n : ℕ) (acc : List ℕ) → 0 < left → n / 10 ≡ 0 → digits_onto left 10 false n acc
    ≡ (48 + n % 10) ∷ acc
last_lem zero n acc h e = absurd (omega arith)
last_lem (suc left) n acc h e =
    ap (λ t. cond t (digit_glyph false (n % 10) ∷ acc) (digits_onto left 10 false (n / 10)
    (digit_glyph false (n % 10) ∷ acc))) (eq-eqb (n / 10) 0 e)
    ∙ ap (λ g. g ∷ acc) (glyph_lem n)

more_lem : (left n : ℕ) (acc : List ℕ) → ¬ (n / 10 ≡ 0) → digits_onto (suc left) 10 false n acc
    ≡ digits_onto left 10 false (n / 10) ((48 + n % 10) ∷ acc)
more_lem left n acc e =
    ap (λ t. cond t (digit_glyph false (n % 10) ∷ acc) (digits_onto left 10 false (n / 10)
    (digit_glyph false (n % 10) ∷ acc))) (ne_eqb (n / 10) 0 e)
    ∙ ap (λ g. digits_onto left 10 false (n / 10) (g ∷ acc)) (glyph_lem n)

append_lem : (k n : ℕ) (acc tail : List ℕ) → digits_onto k 10 false n acc ++ tail
    ≡ digits_onto k 10 false n (acc ++ tail)
append_lem zero n acc tail = refl
append_lem (suc k) n acc tail =
    split_lem (n / 10 == 0) (digit_glyph false (n % 10) ∷ acc) _ tail
    (append_lem k (n / 10) (digit_glyph false (n % 10) ∷ acc) tail)
  where
    split_lem : (t : Bool) (a b tail : List ℕ) {c : List ℕ} → b ++ tail ≡ c
        → cond t a b ++ tail ≡ cond t (a ++ tail) c
    split_lem true a b tail e = refl
    split_lem false a b tail e = e

pub decimal_onto : (n : ℕ) (tail : List ℕ) → digits_onto 64 10 false n tail ≡ decimal n ++ tail
unfolding Fmt.digits
decimal_onto n tail = sym (append_lem 64 n [] tail)

-- a number of p digits at most
below_lem : (rest p : ℕ) → rest < 10 ^ p → ¬ (rest / 10 ≡ 0) → (1 < p) × (rest / 10 < 10 ^ (p - 1))
below_lem rest zero h e = absurd (omega arith)
below_lem rest (suc zero) h e = absurd (omega arith)
below_lem rest (suc (suc q)) h e =
    let tens : 10 ^ suc (suc q) ≡ 10 ^ suc q * 10 = pow-suc 10 (suc q) in
    let less : rest < 10 ^ suc q * 10 = omega (arith, h, tens) in
    let part : rest / 10 < 10 ^ suc q = omega (arith, less) in
    let same : suc (suc q) - 1 ≡ suc q = omega arith in
    (omega arith, rw same part)

-- ---- one digit more

put_lem : (text : List ℕ) (i g : ℕ) → i < length text
    → drop i (set text i g) ≡ g ∷ drop (suc i) text
put_lem text i g h =
    drop-cons (set text i g) i 0 (omega (arith, length-set text i g, h))
    ∙ ap₂ (λ a b. a ∷ b) (get_or-set_same text i g 0 h)
    (drop-set-lt (suc i) text i g (omega arith))

module _ (text written : List ℕ) (start end n : ℕ) (within : start ≤ end) (room : end < start + 39)
    (below : n < 10 ^ (start + 39 - end)) (some : 0 < start) (inside : start ≤ length text)
    (same : digits_onto (start + 64 - end) 10 false n (drop start text) ≡ written) where
  here : drop (start - 1) (set text (start - 1) (48 + n % 10)) ≡ (48 + n % 10) ∷ drop start text
  here =
      let next : suc (start - 1) ≡ start = omega arith in
      put_lem text (start - 1) (48 + n % 10) (omega arith)
      ∙ ap (λ k. (48 + n % 10) ∷ drop k text) next

  pub digit_last : n / 10 ≡ 0 → drop (start - 1) (set text (start - 1) (48 + n % 10)) ≡ written
  digit_last e = here ∙ sym (last_lem (start + 64 - end) n (drop start text) (omega arith) e) ∙ same

  pub digit_more : ¬ (n / 10 ≡ 0) → digits_onto (start - 1 + 64 - end) 10 false (n / 10)
      (drop (start - 1) (set text (start - 1) (48 + n % 10))) ≡ written
  digit_more e =
      let left : start + 64 - end ≡ suc (start - 1 + 64 - end) = omega arith in
      ap (digits_onto (start - 1 + 64 - end) 10 false (n / 10)) here
      ∙ sym (more_lem (start - 1 + 64 - end) n (drop start text) e)
      ∙ sym (ap (λ k. digits_onto k 10 false n (drop start text)) left) ∙ same

  pub digit_room : ¬ (n / 10 ≡ 0) → (end < start - 1 + 39) × (n / 10 < 10 ^ (start - 1 + 39 - end))
  digit_room e =
      let facts : (1 < start + 39 - end) × (n / 10 < 10 ^ (start + 39 - end - 1)) =
      below_lem n (start + 39 - end) below e in
      let power : start + 39 - end - 1 ≡ start - 1 + 39 - end = omega arith in
      (omega (arith, facts.0), subst (λ k. n / 10 < 10 ^ k) power facts.1)

-- ---- a number and its text

pub denominator_one : (d : ℕ) → d ≡ 1 → [] ≡ denominator_text d
unfolding denominator_text
denominator_one d e = sym (ap (λ t. cond t [] (47 ∷ decimal d)) (eq-eqb d 1 e))

pub denominator_more : (d : ℕ) → ¬ (d ≡ 1) → 47 ∷ decimal d ≡ denominator_text d
unfolding denominator_text
denominator_more d e = sym (ap (λ t. cond t [] (47 ∷ decimal d)) (ne_eqb d 1 e))

signed_lem : (z : ℤ) → cond (is_negative z) (45 ∷ decimal (unsigned_abs z))
    (decimal (unsigned_abs z)) ≡ signed_decimal z
signed_lem (pos n) = ap (λ t. cond t (45 ∷ decimal n) (decimal n)) (le-ltb n 0 zero-le)
signed_lem (negsuc n) = refl

pub text_is : (q : Rational) (negative : Bool) (size : ℕ) (written : List ℕ)
    → negative ≡ is_negative q.num → size ≡ unsigned_abs q.num → written ≡ denominator_text q.den
    → cond negative (45 ∷ decimal size) (decimal size) ++ written ≡ text_of q
unfolding text_of
text_is q negative size written e f g =
    ap₂ (λ a b. a ++ b) (ap₂ (λ t n. cond t (45 ∷ decimal n) (decimal n)) e f ∙ signed_lem q.num) g

-- ---- what is written into the text

pub nothing_written : (text : List ℕ) (d : ℕ) → length text ≡ 80 → d ≡ 1
    → drop 80 text ≡ denominator_text d
nothing_written text d h e =
    let short : length text ≤ 80 = omega arith in drop_of_length-le text short ∙ denominator_one d e

pub denominator_written : (old text : List ℕ) (d start : ℕ) → length old ≡ 80 → length text ≡ 80
    → 0 < start → start ≤ 80 → ¬ (d ≡ 1) → drop start text ≡ decimal d ++ drop 80 old
    → drop (start - 1) (set text (start - 1) 47) ≡ denominator_text d
denominator_written old text d start h k some within e f =
    let next : suc (start - 1) ≡ start = omega arith in
    let short : length old ≤ 80 = omega arith in
    let nothing : drop 80 old ≡ [] = drop_of_length-le old short in
    put_lem text (start - 1) 47 (omega arith)
    ∙ ap (λ i. 47 ∷ drop i text) next
    ∙ ap (λ t. 47 ∷ t) (f ∙ ap (λ t. decimal d ++ t) nothing ∙ append-nil (decimal d))
    ∙ denominator_more d e

-- the text from its start on
pub appended : (q : Rational) (negative : Bool) (size den end start : ℕ) (first text : List ℕ)
    → length text ≡ 80 → negative ≡ is_negative q.num → size ≡ unsigned_abs q.num → den ≡ q.den
    → drop end first ≡ denominator_text den → drop start text ≡ cond negative (45 ∷ decimal size)
    (decimal size) ++ drop end first → take (80 - start) (drop start text) ≡ text_of q
appended q negative size den end start first text long e f g h k =
    take_all _ (drop start text) (omega (arith, length-drop start text))
    ∙ k ∙ text_is q negative size (drop end first) e f (h ∙ ap denominator_text g)

-- A reader of JSON finds the same in a text with a newline behind it.
use Rattle.std.specs.Prelude.{◌≡◌, ℕ, zero, suc, ◌+◌, ◌-◌, Bool, true, false, ◌&&◌, ◌||◌, not, ◌==◌, nat_eq, nat_lt, cond, List, [], ◌∷◌, ◌++◌, length, take, drop, Option, Some, None, option_and_then, option_map, refl}
use Rattle.std.specs.Char.{encode_utf8, is_ascii_digit, is_digit}
use Rattle.std.specs.List.{list_all, prefix_len, starts_with}
use Rattle.std.proofs.Common.{ap, ap₂, arith, ◌∙◌}
use Rattle.std.proofs.lemmas.Bool.{and_left, and_parts, and_right, cond-false, not-true}
use Rattle.std.proofs.lemmas.List.{drop-append-le, length-append, take-append-le}
use Rattle.std.proofs.lemmas.List.Sums.{prefix_len-le-length}
use Rattle.json.specs.Ascii as ascii
use Rattle.json.specs.Json as json
use Rattle.json.specs.Lex.{Class, Lexeme, Mode, backslash, between, class, fresh, in_escape, in_string, in_word, lex, lex_byte, operator, operator_lexeme, other, punctuate, quote, space, string_token, token}
use Rattle.json.specs.Text.{Within, after_backslash, after_high, after_u, code_unit, content, is_high_surrogate, is_low_surrogate, plain, prepend, short_escape, surrogate_pair}
use Rattle.json.specs.Token.{Token, bad, boolean, null, number}
use Rattle.json.specs.Word.{after_digits, after_exponent, after_fraction, after_minus, after_number, after_sign, after_whole, ends_word, literal, number_before, word}
use Rattle.serde_json.specs.Read.{max_depth, of_json, read}

-- the text with a newline behind it
abbrev pub as_line : List ℕ → List ℕ
as_line text = text ++ 10 ∷ []

-- ---- words

digits_same : (t : List ℕ) → prefix_len is_ascii_digit (as_line t) ≡ prefix_len is_ascii_digit t
digits_same [] = refl
digits_same (c ∷ cs) = ap (λ n. cond (is_ascii_digit c) (1 + n) 0) (digits_same cs)

-- what follows, where something does
abbrev more : Option (List ℕ) → Option (List ℕ)
more left = option_map as_line left

-- the choice between two that have something behind them
either : {A B : Type 0} (f : A → B) (b : Bool) (x y : A) → cond b (f x) (f y) ≡ f (cond b x y)
either f true x y = refl
either f false x y = refl

after_digits_same : (t : List ℕ) → after_digits (as_line t) ≡ more (after_digits t)
after_digits_same t =
    let count = prefix_len is_ascii_digit t in
    ap (λ n. cond (n == 0) None (Some (drop n (as_line t)))) (digits_same t)
    ∙ ap (λ left. cond (count == 0) None (Some left))
    (drop-append-le count t (10 ∷ []) (prefix_len-le-length is_ascii_digit t))
    ∙ either more (count == 0) None (Some (drop count t))

after_minus_same : (t : List ℕ) → after_minus (as_line t) ≡ as_line (after_minus t)
after_minus_same [] = refl
after_minus_same (c ∷ cs) = either as_line (c == ascii.minus) cs (c ∷ cs)

after_sign_same : (t : List ℕ) → after_sign (as_line t) ≡ as_line (after_sign t)
after_sign_same [] = refl
after_sign_same (c ∷ cs) =
    either as_line ((c == ascii.minus) || (c == ascii.plus)) cs (c ∷ cs)

after_whole_same : (t : List ℕ) → after_whole (as_line t) ≡ more (after_whole t)
after_whole_same [] = refl
after_whole_same (c ∷ cs) =
    ap (cond (c == ascii.zero) (Some (as_line cs))) (after_digits_same (c ∷ cs))
    ∙ either more (c == ascii.zero) (Some cs) (after_digits (c ∷ cs))

after_fraction_same : (t : List ℕ) → after_fraction (as_line t) ≡ more (after_fraction t)
after_fraction_same [] = refl
after_fraction_same (c ∷ cs) =
    ap (λ left. cond (c == ascii.dot) left (Some (as_line (c ∷ cs)))) (after_digits_same cs)
    ∙ either more (c == ascii.dot) (after_digits cs) (Some (c ∷ cs))

after_exponent_same : (t : List ℕ) → after_exponent (as_line t) ≡ more (after_exponent t)
after_exponent_same [] = refl
after_exponent_same (c ∷ cs) =
    let here = (c == ascii.lower_e) || (c == ascii.upper_e) in
    ap (λ left. cond here left (Some (as_line (c ∷ cs))))
    (ap after_digits (after_sign_same cs) ∙ after_digits_same (after_sign cs))
    ∙ either more here (after_digits (after_sign cs)) (Some (c ∷ cs))

then_same : (f : List ℕ → Option (List ℕ)) → ((t : List ℕ) → f (as_line t) ≡ more (f t))
    → (left : Option (List ℕ)) → option_and_then f (more left) ≡ more (option_and_then f left)
then_same f same None = refl
then_same f same (Some t) = same t

after_number_same : (t : List ℕ) → after_number (as_line t) ≡ more (after_number t)
unfolding after_number
after_number_same t =
    ap (λ left. option_and_then after_exponent (option_and_then after_fraction left))
    (ap after_whole (after_minus_same t) ∙ after_whole_same (after_minus t))
    ∙ ap (option_and_then after_exponent)
    (then_same after_fraction after_fraction_same (after_whole (after_minus t)))
    ∙ then_same after_exponent after_exponent_same
    (option_and_then after_fraction (after_whole (after_minus t)))

ends_same : (t : List ℕ) → ends_word (as_line t) ≡ ends_word t
ends_same [] = refl
ends_same (c ∷ cs) = refl

number_same : (t : List ℕ) (left : Option (List ℕ))
    → number_before (as_line t) (more left) ≡ number_before t left
number_same t None = refl
number_same t (Some rest) =
    ap₂ (λ b digits. cond b (number digits) bad) (ends_same rest)
    (ap (λ n. take n (as_line t)) (shorter t rest)
    ∙ take-append-le (length t - length rest) t (10 ∷ []) (omega arith))
  where
    shorter : (xs ys : List ℕ)
        → length (as_line xs) - length (as_line ys) ≡ length xs - length ys
    shorter xs ys = omega (arith, length-append xs (10 ∷ []), length-append ys (10 ∷ []))

-- no byte of the name is a newline
abbrev IsOneLine : List ℕ → Type 0
IsOneLine name = list_all (λ n. not (nat_eq n 10)) name ≡ true

starts_same : (name t : List ℕ) → IsOneLine name
    → starts_with nat_eq (as_line t) name ≡ starts_with nat_eq t name
starts_same [] t h = refl
starts_same (n ∷ name) [] h =
    and_left _ _ (not-true (nat_eq n 10)
    (and_parts (not (nat_eq n 10)) (list_all (λ n. not (nat_eq n 10)) name) h).0)
starts_same (n ∷ name) (c ∷ cs) h =
    ap (λ b. nat_eq n c && b) (starts_same name cs
    (and_parts (not (nat_eq n 10)) (list_all (λ n. not (nat_eq n 10)) name) h).1)

ends_behind : (n : ℕ) (t : List ℕ) → ends_word (drop n (as_line t)) ≡ ends_word (drop n t)
ends_behind zero t = ends_same t
ends_behind (suc zero) [] = refl
ends_behind (suc (suc n)) [] = refl
ends_behind (suc n) (c ∷ cs) = ends_behind n cs

literal_same : (name : List ℕ) (t : Token) (text : List ℕ) → IsOneLine name
    → literal name t (as_line text) ≡ literal name t text
literal_same name t text h =
    ap₂ (λ a b. cond (a && b) t bad) (starts_same name text h) (ends_behind (length name) text)

word_same : (c : ℕ) (cs : List ℕ) → word (c ∷ as_line cs) ≡ word (c ∷ cs)
unfolding word
word_same c cs = λ i.
    cond (c == ascii.lower_t) (literal_same ascii.true_text (boolean true) (c ∷ cs) refl i)
    (cond (c == ascii.lower_f) (literal_same ascii.false_text (boolean false) (c ∷ cs) refl i)
    (cond (c == ascii.lower_n) (literal_same ascii.null_text null (c ∷ cs) refl i)
    (numbers i)))
  where
    numbers : number_before (c ∷ as_line cs) (after_number (c ∷ as_line cs))
        ≡ number_before (c ∷ cs) (after_number (c ∷ cs))
    numbers =
        ap (number_before (c ∷ as_line cs)) (after_number_same (c ∷ cs))
        ∙ number_same (c ∷ cs) (after_number (c ∷ cs))

-- ---- strings

-- a newline is no hex digit
no_unit : (a b c : ℕ) → code_unit a b c 10 ≡ None
unfolding code_unit
no_unit a b c =
    cond-false _ _ _ (and_right (is_digit a 16 && is_digit b 16 && is_digit c 16) false refl)

content_same : (m : Within) (xs : List ℕ) → content m (as_line xs) ≡ content m xs
unfolding content short_escape
content_same plain [] = refl
content_same plain (x ∷ xs) = λ i.
    cond (x == ascii.quote) (Some []) (cond (x == ascii.backslash)
    (content_same after_backslash xs i)
    (cond (nat_lt x ascii.space) None (prepend (x ∷ []) (content_same plain xs i))))
content_same after_backslash [] = refl
content_same after_backslash (x ∷ xs) = λ i.
    cond (x == ascii.lower_u) (content_same after_u xs i)
    (option_and_then (λ c. prepend (c ∷ []) (content_same plain xs i)) (short_escape x))
content_same after_u [] = refl
content_same after_u (a ∷ []) = refl
content_same after_u (a ∷ b ∷ []) = refl
content_same after_u (a ∷ b ∷ c ∷ []) =
    ap (option_and_then (λ u. cond (is_high_surrogate u) (content (after_high u) [])
    (cond (is_low_surrogate u) None (prepend (encode_utf8 u) (content plain [])))))
    (no_unit a b c)
content_same after_u (a ∷ b ∷ c ∷ d ∷ xs) = λ i.
    option_and_then (λ u. cond (is_high_surrogate u) (content_same (after_high u) xs i)
    (cond (is_low_surrogate u) None (prepend (encode_utf8 u) (content_same plain xs i))))
    (code_unit a b c d)
content_same (after_high h) [] = refl
content_same (after_high h) (s ∷ []) = refl
content_same (after_high h) (s ∷ u ∷ []) = refl
content_same (after_high h) (s ∷ u ∷ a ∷ []) = refl
content_same (after_high h) (s ∷ u ∷ a ∷ b ∷ []) = refl
content_same (after_high h) (s ∷ u ∷ a ∷ b ∷ c ∷ []) =
    ap (λ o. cond ((s == ascii.backslash) && (u == ascii.lower_u))
    (option_and_then (λ l. cond (is_low_surrogate l)
    (prepend (encode_utf8 (surrogate_pair h l)) (content plain [])) None) o) None)
    (no_unit a b c)
    ∙ either {A = List ℕ} (λ rest. None) ((s == ascii.backslash) && (u == ascii.lower_u)) [] []
content_same (after_high h) (s ∷ u ∷ a ∷ b ∷ c ∷ d ∷ xs) = λ i.
    cond ((s == ascii.backslash) && (u == ascii.lower_u))
    (option_and_then (λ l. cond (is_low_surrogate l)
    (prepend (encode_utf8 (surrogate_pair h l)) (content_same plain xs i)) None)
    (code_unit a b c d)) None

-- ---- lexemes

byte_same : (m : Mode) (kind : Class) (x : ℕ) (xs : List ℕ) (k l : Mode → List Lexeme)
    → ((n : Mode) → k n ≡ l n) → lex_byte m kind x (as_line xs) k ≡ lex_byte m kind x xs l
byte_same between quote x xs k l h = λ i.
    token (string_token (content_same plain xs i)) ∷ h in_string i
byte_same between backslash x xs k l h = ap (λ ls. token bad ∷ ls) (h in_word)
byte_same between operator x xs k l h = ap (λ ls. operator_lexeme x ∷ ls) (h between)
byte_same between space x xs k l h = h between
byte_same between other x xs k l h = λ i. token (word_same x xs i) ∷ h in_word i
byte_same in_word quote x xs k l h = h in_word
byte_same in_word backslash x xs k l h = h in_word
byte_same in_word operator x xs k l h = ap (λ ls. operator_lexeme x ∷ ls) (h between)
byte_same in_word space x xs k l h = h between
byte_same in_word other x xs k l h = h in_word
byte_same in_string quote x xs k l h = h between
byte_same in_string backslash x xs k l h = h in_escape
byte_same in_string operator x xs k l h = h in_string
byte_same in_string space x xs k l h = h in_string
byte_same in_string other x xs k l h = h in_string
byte_same in_escape kind x xs k l h = h in_string

lex_same : (m : Mode) (xs : List ℕ) → lex m (as_line xs) ≡ lex m xs
unfolding lex
lex_same between [] = refl
lex_same in_word [] = refl
lex_same in_string [] = refl
lex_same in_escape [] = refl
lex_same m (x ∷ xs) =
    byte_same m (class x) x xs (λ next. lex next (as_line xs)) (λ next. lex next xs)
    (λ next. lex_same next xs)

pub same_read : (text : List ℕ) → read (as_line text) ≡ read text
same_read text =
    ap (λ ts. option_and_then of_json
    (option_and_then (λ p. json.if_last p.0 p.1) (json.value max_depth ts)))
    (ap (punctuate fresh) (lex_same between text))

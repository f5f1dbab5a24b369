-- A text that is written of a value whose numbers are short has no numeral that is replaced before
-- it is read.
use Rattle.std.proofs.Common.{◌≡◌, ℕ, zero, suc, ◌/◌, ◌%◌, ◌^◌, ◌<◌, ◌≤◌, Bool, true, false, cond, not, List, [], ◌∷◌, ◌++◌, length, get_or, pos, negsuc, decimal, refl, sym, ap, ◌∙◌, arith, append-nil, append_assoc, ne_eqb}
use Rattle.std.specs.Prelude.{⊤, nat_lt, ◌==◌, bytes_eq}
use Rattle.std.proofs.lemmas.Bool.{and_left, and_right, cond-false, false_from_ne_true, le-leb, le-ltb, ltb-true, or_from, true≢false}
use Rattle.std.proofs.lemmas.Fmt.{decimal_is_IsNumeral, decimal_nonempty, first_decimal, length-decimal-le}
use Rattle.std.proofs.lemmas.Slice.Eq.{bytes_eq-Decides}
use Rattle.std.proofs.lemmas.Str.{digit_value-digit_char}
use Rattle.std.proofs.lemmas.Str.Parse.{digit_from_value}
use Rattle.std.specs.Char.{digit_char, digit_value}
use Rattle.std.specs.Str.Parse.{AllDigits, starts_with_minus}
use Rattle.fast_float.specs.Text.{IsWellFormed, Parts, scan}
use Rattle.fast_float.proofs.Writing.{scan-text_of}
use Rattle.json.specs.Print.{escape, escape_byte, escape_letter, quoted}
use Rattle.mof_text.specs.Numeral.{is_colon_next, is_json_number, is_long, magnitude_of, parts_of, replaced}
use Rattle.mof_text.specs.Rewritten.{after_other, is_run_byte, rewritten, rewritten_at}
use Rattle.mof_text.specs.Rewritten.BytePlace.{in_escape, in_string, outside}
use Rattle.mof_text.proofs.TextLaws.{onward, quoted_on, replaced-nil, single_is, string_is}
use Rattle.serde_json.specs.Data.{Data, Items, Members, Num, array, boolean, depth, float, item, items_depth, member, members_depth, negative, no_items, no_members, null, number, object, string, unsigned}
use Rattle.serde_json.specs.Written.{comma_if, compact_text, has_float, items_have_float, items_text, members_have_float, members_text, number_text}

-- ---- values whose numbers are short

-- a whole number of at most 18 digits
abbrev pub IsShortNumber : Num → Type 0
IsShortNumber (unsigned n) = n < 10 ^ 18
IsShortNumber (negative (pos n)) = ⊥
IsShortNumber (negative (negsuc n)) = suc n < 10 ^ 18
IsShortNumber (float x) = ⊥

-- texts and short numbers, in arrays and objects that nest no deeper than this
abbrev mutual
  pub IsShort : ℕ → Data → Type 0
  IsShort k null = ⊥
  IsShort k (boolean b) = ⊥
  IsShort k (number n) = IsShortNumber n
  IsShort k (string s) = ⊤
  IsShort zero (array ds) = ⊥
  IsShort (suc k) (array ds) = AreShort k ds
  IsShort zero (object ms) = ⊥
  IsShort (suc k) (object ms) = AreShortMembers k ms

  pub AreShort : ℕ → Items → Type 0
  AreShort k no_items = ⊤
  AreShort k (item d ds) = IsShort k d × AreShort k ds

  pub AreShortMembers : ℕ → Members → Type 0
  AreShortMembers k no_members = ⊤
  AreShortMembers k (member l d ms) = IsShort k d × AreShortMembers k ms

-- ---- they have no float, and nest no deeper

number_free : (n : Num) → IsShortNumber n → has_float (number n) ≡ false
number_free (unsigned n) h = refl
number_free (negative z) h = refl
number_free (float x) h = absurd h

mutual
  pub float_free : (k : ℕ) (d : Data) → IsShort k d → has_float d ≡ false
  float_free k null h = refl
  float_free k (boolean b) h = refl
  float_free k (number n) h = number_free n h
  float_free k (string s) h = refl
  float_free zero (array ds) h = absurd h
  float_free (suc k) (array ds) h = items_free k ds h
  float_free zero (object ms) h = absurd h
  float_free (suc k) (object ms) h = members_free k ms h

  items_free : (k : ℕ) (ds : Items) → AreShort k ds → items_have_float ds ≡ false
  items_free k no_items h = refl
  items_free k (item d ds) h =
      or_from (has_float d) (items_have_float ds) (float_free k d h.0) (items_free k ds h.1)

  members_free : (k : ℕ) (ms : Members) → AreShortMembers k ms → members_have_float ms ≡ false
  members_free k no_members h = refl
  members_free k (member l d ms) h =
      or_from (has_float d) (members_have_float ms) (float_free k d h.0) (members_free k ms h.1)

mutual
  pub depth_within : (k : ℕ) (d : Data) → IsShort k d → depth d ≤ k
  depth_within k null h = omega arith
  depth_within k (boolean b) h = omega arith
  depth_within k (number n) h = omega arith
  depth_within k (string s) h = omega arith
  depth_within zero (array ds) h = absurd h
  depth_within (suc k) (array ds) h = omega (arith, items_within k ds h)
  depth_within zero (object ms) h = absurd h
  depth_within (suc k) (object ms) h = omega (arith, members_within k ms h)

  items_within : (k : ℕ) (ds : Items) → AreShort k ds → items_depth ds ≤ k
  items_within k no_items h = omega arith
  items_within k (item d ds) h = omega (arith, depth_within k d h.0, items_within k ds h.1)

  members_within : (k : ℕ) (ms : Members) → AreShortMembers k ms → members_depth ms ≤ k
  members_within k no_members h = omega arith
  members_within k (member l d ms) h =
      omega (arith, depth_within k d h.0, members_within k ms h.1)

-- ---- numerals

abbrev AreRunBytes : List ℕ → Type 0
AreRunBytes [] = ⊤
AreRunBytes (c ∷ cs) = (is_run_byte c ≡ true) × AreRunBytes cs

-- no numeral goes on here
abbrev Stops : List ℕ → Type 0
Stops [] = ⊤
Stops (c ∷ cs) = is_run_byte c ≡ false

-- what comes of a byte behind those of a run, by whether it is of the run
abbrev turned : List ℕ → ℕ → List ℕ → Bool → List ℕ
turned acc c cs goes_on =
    cond goes_on (rewritten_at (outside (acc ++ c ∷ [])) cs)
    (replaced acc (c ∷ cs) ++ c ∷ rewritten_at (after_other c) cs)

run_whole : (acc run t : List ℕ) → AreRunBytes run → Stops t
    → rewritten_at (outside acc) (run ++ t) ≡ replaced (acc ++ run) t ++ onward t
run_whole acc [] [] h s =
    sym (ap (λ u. u ++ replaced [] []) (ap (λ a. replaced a []) (append-nil acc))
    ∙ ap (λ u. replaced acc [] ++ u) (replaced-nil [])
    ∙ append-nil (replaced acc []))
run_whole acc [] (c ∷ cs) h s =
    ap (turned acc c cs) s
    ∙ ap (λ u. replaced acc (c ∷ cs) ++ u)
    (sym (ap (turned [] c cs) s
    ∙ ap (λ u. u ++ c ∷ rewritten_at (after_other c) cs) (replaced-nil (c ∷ cs))))
    ∙ ap (λ a. replaced a (c ∷ cs) ++ onward (c ∷ cs)) (sym (append-nil acc))
run_whole acc (r ∷ rs) t h s =
    ap (turned acc r (rs ++ t)) h.0
    ∙ run_whole (acc ++ r ∷ []) rs t h.1 s
    ∙ ap (λ a. replaced a t ++ onward t) (append_assoc acc (r ∷ []) rs)

digit_run : (c : ℕ) → digit_value c < 10 → is_run_byte c ≡ true
digit_run c h = let r = digit_from_value c h in rw (le-leb _ _ r.0, le-leb _ _ r.1)

digits_run : (ds : List ℕ) → AllDigits 10 ds → AreRunBytes ds
digits_run [] h = tt
digits_run (d ∷ ds) h = (digit_run d h.0, digits_run ds h.1)

abbrev digits : ℕ → Parts
digits n = record {
  whole = decimal n;
  point = false;
  fraction = [];
  exponent_negative = false;
  exponent = [];
  len = length (decimal n ++ []);
}

module _ (n : ℕ) (h : n < 10 ^ 18) where
  small_lem : n < 2 ^ 64
  small_lem = omega arith

  numeral_lem : AllDigits 10 (decimal n)
  numeral_lem = (decimal_is_IsNumeral n small_lem).0.1

  scanned : scan (decimal n) ≡ digits n
  scanned =
      let formed : IsWellFormed (digits n) = record {
        whole_digits = numeral_lem;
        fraction_digits = tt;
        exponent_digits = tt;
        no_point = λ _. refl;
        no_exponent = λ _. refl;
        len_is = refl;
      } in
      ap scan (sym (append-nil (decimal n))) ∙ scan-text_of (digits n) formed

  -- a numeral of these digits that isn't `-0` is no long one
  stays : (run t : List ℕ) → parts_of run ≡ digits n → ¬ (run ≡ 45 ∷ 48 ∷ []) → replaced run t ≡ run
  unfolding replaced
  stays run t parts other =
      cond-false _ _ _
      (and_left _ (not (is_colon_next t))
      (and_right (is_json_number (parts_of run) (length (magnitude_of run))) _ short_lem))
    where
      short_lem : is_long run (parts_of run) ≡ false
      short_lem =
          ap (is_long run) parts
          ∙ or_from _ _ (or_from _ _ (or_from _ _ other_lem refl) refl)
          (le-ltb 18 (length (decimal n)) (length-decimal-le 18 n (omega arith) h small_lem))
        where
          other_lem : bytes_eq run (45 ∷ 48 ∷ []) ≡ false
          other_lem = false_from_ne_true _ (λ e. other ((bytes_eq-Decides run (45 ∷ 48 ∷ [])).0 e))

digit_first : (ds : List ℕ) → AllDigits 10 ds → 0 < length ds → get_or ds 0 0 ≡ 45 → ⊥
digit_first [] h some e = omega arith
digit_first (d ∷ ds) h some e =
    let digit : digit_value d < 10 = h.0 in
    let is : d ≡ 45 = e in
    grind arith

kept_number : (n : Num) (t : List ℕ) → IsShortNumber n → Stops t
    → onward (number_text n ++ t) ≡ number_text n ++ onward t
kept_number (unsigned n) t h s =
    run_whole [] (decimal n) t (digits_run (decimal n) (numeral_lem n h)) s
    ∙ ap (λ u. u ++ onward t)
    (stays n h (decimal n) t parts_lem (λ e. no_minus (ap (λ u. get_or u 0 0) e)))
  where
    no_minus : get_or (decimal n) 0 0 ≡ 45 → ⊥
    no_minus = digit_first (decimal n) (numeral_lem n h) (decimal_nonempty n (small_lem n h))

    parts_lem : parts_of (decimal n) ≡ digits n
    parts_lem =
        ap scan (cond-false (starts_with_minus (decimal n)) _ (decimal n) (ne_eqb _ 45 no_minus))
        ∙ scanned n h
kept_number (negative (pos n)) t h s = absurd h
kept_number (negative (negsuc n)) t h s =
    run_whole [] (45 ∷ decimal (suc n)) t
    (refl, digits_run (decimal (suc n)) (numeral_lem (suc n) h)) s
    ∙ ap (λ u. u ++ onward t)
    (stays (suc n) h (45 ∷ decimal (suc n)) t (scanned (suc n) h) zero_lem)
  where
    zero_lem : ¬ (45 ∷ decimal (suc n) ≡ 45 ∷ 48 ∷ [])
    zero_lem e =
        let first : get_or (decimal (suc n)) 0 0 ≡ 48 = ap (λ u. get_or u 1 0) e in
        let above : 48 < get_or (decimal (suc n)) 0 0 =
        first_decimal (suc n) (omega arith) (small_lem (suc n) h) in
        omega arith
kept_number (float x) t h s = absurd h

-- ---- strings

abbrev escaped_as : Bool → Bool → ℕ → List ℕ
escaped_as lettered low x =
    cond lettered (92 ∷ escape_letter x ∷ [])
    (cond low (92 ∷ 117 ∷ 48 ∷ 48 ∷ digit_char (x / 16) ∷ digit_char (x % 16) ∷ []) (x ∷ []))

plain_kept : (c : ℕ) (cs : List ℕ) → ¬ (c ≡ 34) → ¬ (c ≡ 92) → quoted_on (c ∷ cs) ≡ c ∷ quoted_on cs
plain_kept c cs quote slash =
    ap (λ b. c ∷ rewritten_at (cond b (outside []) (cond (c == 92) in_escape in_string)) cs)
    (ne_eqb c 34 quote)
    ∙ ap (λ b. c ∷ rewritten_at (cond b in_escape in_string) cs) (ne_eqb c 92 slash)

digit_plain : (d : ℕ) (cs : List ℕ) → d < 16
    → quoted_on (digit_char d ∷ cs) ≡ digit_char d ∷ quoted_on cs
digit_plain d cs h =
    plain_kept (digit_char d) cs (λ e. other 34 e (omega arith)) (λ e. other 92 e (omega arith))
  where
    other : (c : ℕ) → digit_char d ≡ c → 16 ≤ digit_value c → ⊥
    other c e above =
        let value : digit_value c ≡ d =
        ap digit_value (sym e) ∙ digit_value-digit_char d (omega arith) in
        omega arith

escaped_kept : (lettered low : Bool) (x : ℕ) (w : List ℕ) → nat_lt 0 (escape_letter x) ≡ lettered
    → nat_lt x 32 ≡ low
    → quoted_on (escaped_as lettered low x ++ w) ≡ escaped_as lettered low x ++ quoted_on w
escaped_kept true low x w e l = refl
escaped_kept false true x w e l =
    ap (λ u. 92 ∷ 117 ∷ 48 ∷ 48 ∷ u)
    (digit_plain (x / 16) (digit_char (x % 16) ∷ w) (omega (arith, ltb-true x 32 l))
    ∙ ap (λ u. digit_char (x / 16) ∷ u) (digit_plain (x % 16) w (omega arith)))
escaped_kept false false x w e l = plain_kept x w (λ is. none 34 is refl) (λ is. none 92 is refl)
  where
    none : (c : ℕ) → x ≡ c → nat_lt 0 (escape_letter c) ≡ true → ⊥
    none c is some = true≢false (sym some ∙ ap (λ y. nat_lt 0 (escape_letter y)) (sym is) ∙ e)

byte_kept : (x : ℕ) (w : List ℕ) → quoted_on (escape_byte x ++ w) ≡ escape_byte x ++ quoted_on w
unfolding escape_byte
byte_kept x w = escaped_kept (nat_lt 0 (escape_letter x)) (nat_lt x 32) x w refl refl

kept_within : (xs w : List ℕ) → quoted_on (escape xs ++ w) ≡ escape xs ++ quoted_on w
kept_within [] w = refl
kept_within (x ∷ xs) w =
    ap quoted_on (append_assoc (escape_byte x) (escape xs) w)
    ∙ byte_kept x (escape xs ++ w)
    ∙ ap (λ u. escape_byte x ++ u) (kept_within xs w)
    ∙ sym (append_assoc (escape_byte x) (escape xs) (quoted_on w))

kept_string : (xs t : List ℕ) → onward (quoted xs ++ t) ≡ quoted xs ++ onward t
kept_string xs t =
    ap onward (ap (λ u. 34 ∷ u) (append_assoc (escape xs) (34 ∷ []) t))
    ∙ string_is 34 (escape xs ++ 34 ∷ t) refl refl
    ∙ ap (λ u. 34 ∷ u) (kept_within xs (34 ∷ t))
    ∙ ap (λ u. 34 ∷ u) (sym (append_assoc (escape xs) (34 ∷ []) (onward t)))

-- ---- values

kept_comma : (later : Bool) (t : List ℕ) → onward (comma_if later ++ t) ≡ comma_if later ++ onward t
kept_comma true t = single_is 44 t refl (λ e. absurd (omega arith))
kept_comma false t = refl

items_stop : (ds : Items) (t : List ℕ) → Stops (items_text true ds ++ t)
items_stop no_items t = refl
items_stop (item d ds) t = refl

members_stop : (ms : Members) (t : List ℕ) → Stops (members_text true ms ++ t)
members_stop no_members t = refl
members_stop (member k d ms) t = refl

-- a value and what follows it, each as it was
parted : (later : Bool) (one rest t : List ℕ)
    → onward (one ++ (rest ++ t)) ≡ one ++ onward (rest ++ t)
    → onward (rest ++ t) ≡ rest ++ onward t
    → onward ((comma_if later ++ (one ++ rest)) ++ t)
    ≡ (comma_if later ++ (one ++ rest)) ++ onward t
parted later one rest t first second =
    ap onward (regroup t) ∙ kept_comma later (one ++ (rest ++ t))
    ∙ ap (λ u. comma_if later ++ u) (first ∙ ap (λ u. one ++ u) second)
    ∙ sym (regroup (onward t))
  where
    regroup : (u : List ℕ)
        → (comma_if later ++ (one ++ rest)) ++ u ≡ comma_if later ++ (one ++ (rest ++ u))
    regroup u =
        append_assoc (comma_if later) (one ++ rest) u
        ∙ ap (λ v. comma_if later ++ v) (append_assoc one rest u)

keyed : (k one rest : List ℕ) → quoted k ++ 58 ∷ (one ++ rest) ≡ (quoted k ++ 58 ∷ one) ++ rest
keyed k one rest = sym (append_assoc (quoted k) (58 ∷ one) rest)

-- a key and its value
kept_member : (k one t : List ℕ) → onward (one ++ t) ≡ one ++ onward t
    → onward ((quoted k ++ 58 ∷ one) ++ t) ≡ (quoted k ++ 58 ∷ one) ++ onward t
kept_member k one t kept =
    ap onward (append_assoc (quoted k) (58 ∷ one) t)
    ∙ kept_string k (58 ∷ (one ++ t))
    ∙ ap (λ u. quoted k ++ u)
    (single_is 58 (one ++ t) refl (λ e. absurd (omega arith)) ∙ ap (λ u. 58 ∷ u) kept)
    ∙ sym (append_assoc (quoted k) (58 ∷ one) (onward t))

mutual
  kept_value : (k : ℕ) (d : Data) (t : List ℕ) → IsShort k d → Stops t
      → onward (compact_text d ++ t) ≡ compact_text d ++ onward t
  kept_value k null t h s = absurd h
  kept_value k (boolean b) t h s = absurd h
  kept_value k (number n) t h s = kept_number n t h s
  kept_value k (string xs) t h s = kept_string xs t
  kept_value zero (array ds) t h s = absurd h
  kept_value (suc k) (array ds) t h s =
      single_is 91 (items_text false ds ++ t) refl (λ e. absurd (omega arith))
      ∙ ap (λ u. 91 ∷ u) (kept_items k false ds t h)
  kept_value zero (object ms) t h s = absurd h
  kept_value (suc k) (object ms) t h s =
      single_is 123 (members_text false ms ++ t) refl (λ e. absurd (omega arith))
      ∙ ap (λ u. 123 ∷ u) (kept_members k false ms t h)

  kept_items : (k : ℕ) (later : Bool) (ds : Items) (t : List ℕ) → AreShort k ds
      → onward (items_text later ds ++ t) ≡ items_text later ds ++ onward t
  kept_items k later no_items t h = single_is 93 t refl (λ e. absurd (omega arith))
  kept_items k later (item d ds) t h =
      parted later (compact_text d) (items_text true ds) t
      (kept_value k d (items_text true ds ++ t) h.0 (items_stop ds t)) (kept_items k true ds t h.1)

  kept_members : (k : ℕ) (later : Bool) (ms : Members) (t : List ℕ) → AreShortMembers k ms
      → onward (members_text later ms ++ t) ≡ members_text later ms ++ onward t
  kept_members k later no_members t h = single_is 125 t refl (λ e. absurd (omega arith))
  kept_members k later (member l d ms) t h =
      ap (λ u. onward ((comma_if later ++ u) ++ t))
      (keyed l (compact_text d) (members_text true ms))
      ∙ parted later (quoted l ++ 58 ∷ compact_text d) (members_text true ms) t
      (kept_member l (compact_text d) (members_text true ms ++ t)
      (kept_value k d (members_text true ms ++ t) h.0 (members_stop ms t)))
      (kept_members k true ms t h.1)
      ∙ ap (λ u. (comma_if later ++ u) ++ onward t)
      (sym (keyed l (compact_text d) (members_text true ms)))

-- no numeral of the text is replaced
pub stays_as_it_is : (k : ℕ) (d : Data) → IsShort k d → rewritten (compact_text d) ≡ compact_text d
unfolding rewritten
stays_as_it_is k d h =
    ap onward (sym (append-nil (compact_text d)))
    ∙ kept_value k d [] h tt
    ∙ ap (λ u. compact_text d ++ u) (replaced-nil [])
    ∙ append-nil (compact_text d)

-- Fractions below 1 in lowest terms, with a digit more before the others.
use Rattle.std.proofs.Common.{◌≡◌, ℕ, zero, suc, ◌+◌, ◌-◌, ◌*◌, ◌/◌, ◌%◌, ◌^◌, ◌<◌, ◌≤◌, false, pos, List, ◌∷◌, length, take, drop, get_or, pow-suc, sym, ◌∙◌, ap, ap₂, subst, arith, mul-pos, mul_comm, mul-one}
use Rattle.std.proofs.Math.Nat.{eq_of_mul-eq-mul_right, le_of_mul-le-mul_left, lt_of_mul-lt-mul_left, mul-le-mul_right, mul-lt-mul_of_pos_right, le_of_dvd, dvd-mul_left, dvd_trans, eq-one_of_dvd-one, dvd-add_iff_right, dvd-mul_right_of_dvd, div-mul_cancel, div-lt_iff_lt-mul, le-div_iff_mul-le, one-le-pow}
use Rattle.std.proofs.lemmas.List.{drop_all, drop_more, length-drop, take-append-drop}
use Rattle.std.proofs.lemmas.Nat.{pow-add}
use Rattle.std.specs.Int.{◌∣◌}
use Rattle.std.specs.Str.Parse.{AllDigits, digits_value}
use Rattle.ratio_core.specs.Gcd.{gcd, gcd_is, gcd_pos, gcd-scaled, dvd_from_coprime}
use Rattle.ratio_core.specs.Rational.{Rational, reduce}
use Rattle.mof_text.proofs.DigitLaws.{digit_at, digit_is, value-append, value-cons}
use Rattle.mof_text.proofs.Fractions.{den_stays, gcd-shift, lowest_is, same_over}

-- d * q + p as tens and a rest, by the tens and rests of q and p
pub tens_are : (d p q : ℕ) → d * q + p ≡ 10 * (d * (q / 10) + p / 10 + (d * (q % 10) + p % 10) / 10)
    + (d * (q % 10) + p % 10) % 10
tens_are d p q =
    sum_lem d p q (q / 10) (q % 10) (p / 10) (p % 10) ((d * (q % 10) + p % 10) / 10)
    ((d * (q % 10) + p % 10) % 10)
    (parts_lem q) (parts_lem p) (parts_lem (d * (q % 10) + p % 10))
  where
    parts_lem : (n : ℕ) → n ≡ 10 * (n / 10) + n % 10
    parts_lem n = omega arith

    sum_lem : (d p q a b c e f g : ℕ) → q ≡ 10 * a + b → p ≡ 10 * c + e → d * b + e ≡ 10 * f + g
        → d * q + p ≡ 10 * (d * a + c + f) + g
    sum_lem d p q a b c e f g eq ep ef = rw (eq, ep) (omega (arith, ef))

-- n over m is in lowest terms, where g times n is the tenfold of a number in lowest terms, and g
-- what
-- is left of 10
lowest_lem : (d p q tens r un ud g n m : ℕ) → gcd p q ≡ 1 → d * q + p ≡ 10 * tens + r → g * ud ≡ 10
    → g * un ≡ r → gcd un ud ≡ 1
    → g * n ≡ 10 * tens + r → g * m ≡ 10 * q → 0 < g → 0 < m → gcd n m ≡ 1
lowest_lem d p q tens r un ud g n m coprime whole ten unit unit_coprime all_is tenfold_is
    g_pos m_pos =
    let h_is : g * gcd n m ≡ gcd (d * q + p) (10 * q) =
    sym (gcd-scaled g n m g_pos) ∙ ap₂ gcd (all_is ∙ sym whole) tenfold_is in
    let divides : gcd (d * q + p) (10 * q) ∣ g = whole_lem (gcd (d * q + p) (10 * q))
    (gcd_is (d * q + p) (10 * q)).0 (gcd_is (d * q + p) (10 * q)).1 in
    let small : gcd (d * q + p) (10 * q) ≤ g = le_of_dvd g_pos divides in
    one_lem g (gcd n m) (gcd (d * q + p) (10 * q)) (gcd_pos n m m_pos) g_pos h_is small
  where
    one_lem : (g x h : ℕ) → 0 < x → 0 < g → g * x ≡ h → h ≤ g → x ≡ 1
    one_lem g x h above k e le =
        let all : g * x ≤ g * 1 = omega (arith, e, le) in
        let most : x ≤ 1 = le_of_mul-le-mul_left all k in
        omega arith

    whole_lem : (h : ℕ) → h ∣ d * q + p → h ∣ 10 * q → h ∣ g
    whole_lem h h_all h_tenfold =
        let common : gcd q h ∣ gcd (d * q + p) q = (gcd_is (d * q + p) q).2 (gcd q h)
        (dvd_trans (gcd q h) (gcd_is q h).1 h_all) (gcd_is q h).0 in
        let with_q : gcd q h ≡ 1 =
        eq-one_of_dvd-one (subst (λ t. gcd q h ∣ t) (gcd-shift d p q ∙ coprime) common) in
        let h_ten : h ∣ 10 = dvd_from_coprime q h 10 with_q h_tenfold in
        let h_sum : h ∣ 10 * tens + r = subst (λ t. h ∣ t) whole h_all in
        let h_rest : h ∣ r = (dvd-add_iff_right h (dvd-mul_right_of_dvd h h_ten tens)).1 h_sum in
        let h_unit : h ∣ gcd (g * un) (g * ud) =
        (gcd_is (g * un) (g * ud)).2 h (subst (λ t. h ∣ t) (sym unit) h_rest)
        (subst (λ t. h ∣ t) (sym ten) h_ten) in
        subst (λ t. h ∣ t) (gcd-scaled g un ud g_pos ∙ ap (λ t. g * t) unit_coprime
        ∙ mul-one g) h_unit

-- the tenths that r is, un over ud, brought below tens: (10 * tens + r) / 10 is (tens * ud + un) /
-- ud
module _ (d p q tens r un ud : ℕ) (digit : d < 10) (coprime : gcd p q ≡ 1) (below : p < q)
    (whole : d * q + p ≡ 10 * tens + r)
    (unit : un * 10 ≡ r * ud) (unit_coprime : gcd un ud ≡ 1) (some : 0 < ud) where
  step_value : (tens * ud + un) * (10 * q) ≡ (d * q + p) * (ud * q)
  step_value = value_lem (d * q + p) q tens r un ud whole unit
    where
      value_lem : (n q tens r un ud : ℕ) → n ≡ 10 * tens + r → un * 10 ≡ r * ud
          → (tens * ud + un) * (10 * q) ≡ n * (ud * q)
      value_lem n q tens r un ud e k = rw e (omega (arith, ap (λ t. t * q) k))

  step_pos : 0 < ud * q
  step_pos = mul-pos some (omega arith)

  step_below : tens * ud + un < ud * q
  step_below =
      let nine : d ≤ 9 = omega arith in
      let small : d * q ≤ 9 * q = mul-le-mul_right q nine in
      let less : d * q + p < 10 * q = omega (arith, small) in
      below_lem (tens * ud + un) (ud * q) (d * q + p) q less step_value step_pos
    where
      below_lem : (n m a q : ℕ) → a < 10 * q → n * (10 * q) ≡ a * m → 0 < m → n < m
      below_lem n m a q h e l =
          let up : a * m < 10 * q * m = mul-lt-mul_of_pos_right h l in
          let turned : (10 * q) * n < (10 * q) * m = omega (arith, e, up) in
          lt_of_mul-lt-mul_left (10 * q) turned

  ten_is : 10 / ud * ud ≡ 10
  ten_is =
      let divides : ud ∣ 10 * un = subst (λ t. ud ∣ t) (sym unit ∙ mul_comm un 10)
      (dvd-mul_left ud r) in
      div-mul_cancel ud (dvd_from_coprime un ud 10 unit_coprime divides)

  step_lowest : gcd (tens * ud + un) (ud * q) ≡ 1
  step_lowest =
      let unit_is : 10 / ud * un ≡ r = unit_lem (10 / ud) un ud r some ten_is unit in
      lowest_lem d p q tens r un ud (10 / ud) (tens * ud + un) (ud * q) coprime whole ten_is
      unit_is unit_coprime
      (all_lem (10 / ud) un ud r tens ten_is unit_is) (tenfold_lem (10 / ud) ud q ten_is)
      (g_pos (10 / ud) ud ten_is) step_pos
    where
      unit_lem : (g un ud r : ℕ) → 0 < ud → g * ud ≡ 10 → un * 10 ≡ r * ud → g * un ≡ r
      unit_lem g un ud r h e k =
          eq_of_mul-eq-mul_right ud h (g * un) r (omega (arith, ap (λ t. un * t) e, k))

      all_lem : (g un ud r tens : ℕ) → g * ud ≡ 10 → g * un ≡ r
          → g * (tens * ud + un) ≡ 10 * tens + r
      all_lem g un ud r tens e k = omega (arith, ap (λ t. t * tens) e, k)

      tenfold_lem : (g ud q : ℕ) → g * ud ≡ 10 → g * (ud * q) ≡ 10 * q
      tenfold_lem g ud q e = omega (arith, ap (λ t. t * q) e)

      g_pos : (g u : ℕ) → g * u ≡ 10 → 0 < g
      g_pos zero u e = absurd (omega arith)
      g_pos (suc g) u e = omega arith

  -- the tenfold fraction's denominator in lowest terms
  step_den : (reduce (pos (d * q + p)) (10 * q)).den ≡ ud * q
  step_den =
      ap (λ (t : Rational). t.den) (same_over false (d * q + p) (10 * q) (tens * ud + un) (ud * q)
      (omega arith) step_pos (sym step_value))
      ∙ (lowest_is false (tens * ud + un) (ud * q) step_pos step_lowest).1

-- the same by the tens and rests of the parts
abbrev pub low_of : ℕ → ℕ → ℕ → ℕ
low_of d p q = d * (q % 10) + p % 10

abbrev pub tens_of : ℕ → ℕ → ℕ → ℕ
tens_of d p q = d * (q / 10) + p / 10 + (d * (q % 10) + p % 10) / 10

-- n over m is the tenth of the digit d and p over q behind it
pub record IsBehind (d p q n m : ℕ) : Type 0 where
  pub value : n * (10 * q) ≡ (d * q + p) * m
  pub below : n < m
  pub lowest : gcd n m ≡ 1
  pub den : (reduce (pos (d * q + p)) (10 * q)).den ≡ m

pub behind : (d p q un ud : ℕ) → d < 10 → gcd p q ≡ 1 → p < q → un * 10 ≡ (low_of d p q % 10) * ud
    → gcd un ud ≡ 1 → un < ud → IsBehind d p q (tens_of d p q * ud + un) (ud * q)
behind d p q un ud digit coprime below unit unit_coprime unit_below =
    let tens = tens_of d p q in
    let r = low_of d p q % 10 in
    let some : 0 < ud = omega arith in
    let whole = tens_are d p q in
    record {
      value = step_value d p q tens r un ud digit coprime below whole unit unit_coprime some;
      below = step_below d p q tens r un ud digit coprime below whole unit unit_coprime some;
      lowest = step_lowest d p q tens r un ud digit coprime below whole unit unit_coprime some;
      den = step_den d p q tens r un ud digit coprime below whole unit unit_coprime some;
    }

-- ---- digits from the last on

-- num over den is n over m
abbrev pub IsOver : ℕ → ℕ → ℕ → ℕ → Type 0
IsOver num den n m = num * m ≡ n * den

-- what is over a fraction is over any other of its value
pub over_next : (num den f m v b n d : ℕ) → 0 < den → IsOver num den f m
    → IsOver n d (v * den + num) (b * den) → IsOver n d (v * m + f) (b * m)
over_next num den f m v b n d h e k =
    eq_of_mul-eq-mul_right den h (n * (b * m)) ((v * m + f) * d)
    (omega (arith, ap (λ t. t * m) k, ap (λ t. t * d) e))

-- and so its denominator
same_next : (num den f m v b : ℕ) → 0 < den → 0 < m → 0 < b → IsOver num den f m
    → reduce (pos (v * den + num)) (b * den) ≡ reduce (pos (v * m + f)) (b * m)
same_next num den f m v b h k l e =
    same_over false (v * den + num) (b * den) (v * m + f) (b * m) (mul-pos l h) (mul-pos l k)
    (omega (arith, ap (λ t. t * b) e))

-- a denominator that passes the limit, in whatever the digits before make of the number
pub fine_on : (num den f m v b n c g d : ℕ) → 0 < den → 0 < m → 0 < b → 0 < c → IsOver num den f m
    → n * (b * m) + (v * m + f) ≡ g → b * m * c ≡ d
    → 2 ^ 127 ≤ (reduce (pos (v * den + num)) (b * den)).den → 2 ^ 127 ≤ (reduce (pos g) d).den
fine_on num den f m v b n c g d h k l j e top bottom past =
    let same : (reduce (pos (v * den + num)) (b * den)).den
    ≡ (reduce (pos (v * m + f)) (b * m)).den =
    ap (λ (q : Rational). q.den) (same_next num den f m v b h k l e) in
    let stays : (reduce (pos (v * m + f)) (b * m)).den
    ≤ (reduce (pos (n * (b * m) + (v * m + f))) (b * m * c)).den =
    den_stays false (v * m + f) (b * m) n c (mul-pos l k) j in
    let all : (reduce (pos (n * (b * m) + (v * m + f))) (b * m * c)).den ≡ (reduce (pos g) d).den =
    ap₂ (λ x y. (reduce (pos x) y).den) top bottom in
    omega (arith, past, same, stays, all)

-- ---- the digits of a list

module _ (ds : List ℕ) (num0 den0 place num den : ℕ) (digits : AllDigits 10 ds) (some : 0 < place)
    (inside : place ≤ length ds)
    (above0 : 0 < den0) (above : 0 < den)
    (so_far : num * (10 ^ (length ds - place) * den0) ≡ (digits_value 10 (drop place ds) * den0
    + num0) * den)
    (digit : ℕ) (digit_here : digit ≡ get_or ds (place - 1) 0 - 48) where
  digit_lem : digits_value 10 (drop (place - 1) ds)
      ≡ digit * 10 ^ (length ds - place) + digits_value 10 (drop place ds)
  digit_lem =
      let back : place - 1 + 1 ≡ place = omega arith in
      let here : place - 1 < length ds = omega arith in
      ap (digits_value 10) (drop_more ds (place - 1) 0 here
      ∙ ap (λ k. get_or ds (place - 1) 0 ∷ drop k ds) back)
      ∙ value-cons (get_or ds (place - 1) 0) (drop place ds)
      ∙ ap₂ (λ a n. a * 10 ^ n + digits_value 10 (drop place ds))
      ((digit_is (get_or ds (place - 1) 0) (digit_at ds (place - 1) digits here)).1
      ∙ sym digit_here) (length-drop place ds)

  power_lem : 10 ^ (length ds - (place - 1)) ≡ 10 * 10 ^ (length ds - place)
  power_lem =
      let more : length ds - (place - 1) ≡ suc (length ds - place) = omega arith in
      ap (λ n. 10 ^ n) more ∙ pow-suc 10 (length ds - place)
      ∙ mul_comm (10 ^ (length ds - place)) 10

  pub listed_next : (n m : ℕ) → n * (10 * den) ≡ (digit * den + num) * m
      → n * (10 ^ (length ds - (place - 1)) * den0)
      ≡ (digits_value 10 (drop (place - 1) ds) * den0 + num0) * m
  listed_next n m e =
      regroup_lem digit (10 ^ (length ds - place)) den0 (digits_value 10 (drop place ds)) num0 n m
      (10 ^ (length ds - (place - 1))) (digits_value 10 (drop (place - 1) ds)) power_lem digit_lem
      (over_next num den (digits_value 10 (drop place ds) * den0 + num0)
      (10 ^ (length ds - place) * den0) digit 10 n m above so_far e)
    where
      regroup_lem : (d p z v k n m p' v' : ℕ) → p' ≡ 10 * p → v' ≡ d * p + v
          → n * (10 * (p * z)) ≡ (d * (p * z) + (v * z + k)) * m → n * (p' * z) ≡ (v' * z + k) * m
      regroup_lem d p z v k n m p' v' ep ev e = rw (ep, ev) (omega (arith, e))

  pub listed_fine : 2 ^ 127 ≤ (reduce (pos (digit * den + num)) (10 * den)).den
      → 2 ^ 127 ≤ (reduce (pos (digits_value 10 ds * den0 + num0)) (10 ^ length ds * den0)).den
  listed_fine h =
      let whole : digits_value 10 ds ≡ digits_value 10 (take (place - 1) ds) * 10 ^ (length
      ds - (place - 1)) + digits_value 10 (drop (place - 1) ds) =
      ap (digits_value 10) (sym (take-append-drop (place - 1) ds))
      ∙ value-append (take (place - 1) ds) (drop (place - 1) ds)
      ∙ ap (λ n. digits_value 10 (take (place - 1) ds) * 10 ^ n + digits_value 10
      (drop (place - 1) ds)) (length-drop (place - 1) ds) in
      let sum : length ds ≡ place - 1 + (length ds - (place - 1)) = omega arith in
      let power : 10 ^ length ds ≡ 10 ^ (place - 1) * 10 ^ (length ds - (place - 1)) =
      ap (λ n. 10 ^ n) sum ∙ pow-add 10 (place - 1) (length ds - (place - 1)) in
      fine_on num den (digits_value 10 (drop place ds) * den0 + num0)
      (10 ^ (length ds - place) * den0) digit 10
      (digits_value 10 (take (place - 1) ds)) (10 ^ (place - 1)) (digits_value 10 ds * den0 + num0)
      (10 ^ length ds * den0)
      above (mul-pos (one-le-pow (length ds - place) 10 (omega arith)) above0) (omega arith)
      (one-le-pow (place - 1) 10 (omega arith)) so_far
      (top_lem (digits_value 10 (take (place - 1) ds)) (10 ^ (length ds - place)) den0 digit
      (digits_value 10 (drop place ds)) num0
      (10 ^ (length ds - (place - 1))) (digits_value 10 (drop (place - 1) ds)) (digits_value 10 ds)
      power_lem digit_lem whole)
      (bottom_lem (10 ^ (length ds - place)) den0 (10 ^ (place - 1))
      (10 ^ (length ds - (place - 1))) (10 ^ length ds) power_lem power)
      h
    where
      top_lem : (a p z d v k p' v' w : ℕ) → p' ≡ 10 * p → v' ≡ d * p + v → w ≡ a * p' + v'
          → a * (10 * (p * z)) + (d * (p * z) + (v * z + k)) ≡ w * z + k
      top_lem a p z d v k p' v' w ep ev ew = rw (ew, ep, ev) (omega arith)

      bottom_lem : (p z s p' w : ℕ) → p' ≡ 10 * p → w ≡ s * p' → 10 * (p * z) * s ≡ w * z
      bottom_lem p z s p' w ep ew = rw (ew, ep) (omega arith)

pub digit_below : (ds : List ℕ) (i : ℕ) → AllDigits 10 ds → i < length ds → get_or ds i 0 - 48 < 10
digit_below ds i h k =
    omega (arith, (digit_is (get_or ds i 0) (digit_at ds i h k)).1, digit_at ds i h k)

-- a fraction before any digit
pub listed_start : (ds : List ℕ) (num0 den0 : ℕ) → num0 * (10 ^ (length ds - length ds) * den0)
    ≡ (digits_value 10 (drop (length ds) ds) * den0 + num0) * den0
listed_start ds num0 den0 =
    start_lem (10 ^ (length ds - length ds)) (digits_value 10 (drop (length ds) ds)) num0 den0
    (ap (λ n. 10 ^ n) (none_lem (length ds)))
    (ap (digits_value 10) (drop_all (length ds) ds (omega arith)))
  where
    none_lem : (n : ℕ) → n - n ≡ 0
    none_lem n = omega arith

    start_lem : (p v n d : ℕ) → p ≡ 1 → v ≡ 0 → n * (p * d) ≡ (v * d + n) * d
    start_lem p v n d ep ev = rw (ep, ev) (omega arith)

-- the fraction when no digit is left
pub listed_end : (ds : List ℕ) (num0 den0 place num den : ℕ) → place ≡ 0
    → num * (10 ^ (length ds - place) * den0)
    ≡ (digits_value 10 (drop place ds) * den0 + num0) * den
    → num * (10 ^ length ds * den0) ≡ (digits_value 10 ds * den0 + num0) * den
listed_end ds num0 den0 place num den none e =
    subst (λ n. num * (10 ^ n * den0) ≡ (digits_value 10 ds * den0 + num0) * den)
    (minus_zero (length ds))
    (subst (λ k. num * (10 ^ (length ds - k) * den0) ≡ (digits_value 10 (drop k ds) * den0 + num0)
    * den) none e)
  where
    minus_zero : (n : ℕ) → n - 0 ≡ n
    minus_zero n = omega arith

-- ---- where the denominator in lowest terms passes a limit

pub past_limit : (g u q n : ℕ) → n < u → g / u < q → g < u * q
past_limit g u q n h k =
    let some : 0 < u = omega arith in omega (arith, (div-lt_iff_lt-mul some).0 k)

pub within_limit : (g u q n : ℕ) → n < u → q ≤ g / u → u * q ≤ g
within_limit g u q n h k =
    let some : 0 < u = omega arith in omega (arith, (le-div_iff_mul-le some).0 k)

-- The pieces of a text outside strings, and what is rewritten of them.
use Rattle.std.proofs.Common.{◌≡◌, ℕ, suc, ◌+◌, ◌-◌, ◌<◌, ◌≤◌, Bool, true, false, cond, not, List, [], ◌∷◌, ◌++◌, length, take, drop, get_or, refl, sym, ◌∙◌, ap, ap₂, subst, arith, append-nil, append_assoc, eq-eqb, ne_eqb, ◌==◌, ◌⊎◌, inl, inr, drop-cons}
use Rattle.std.proofs.Math.Seq.{take-add}
use Rattle.std.proofs.lemmas.List.{drop-drop, drop_all, drop_more, length-drop, take_rest}
use Rattle.std.specs.Bool.{MatchBool}
use Rattle.std.specs.List.{position_or_len}
use Rattle.fast_float.specs.Text.{scan}
use Rattle.mof_text.specs.Numeral.{replaced}
use Rattle.mof_text.specs.Rewritten.{after_other, is_run_byte, rewritten, rewritten_at}
use Rattle.mof_text.specs.Rewritten.BytePlace.{in_escape, in_string, outside}

-- what is rewritten outside strings
abbrev pub onward : List ℕ → List ℕ
onward xs = rewritten_at (outside []) xs

-- nothing stands for nothing
pub replaced-nil : (rest : List ℕ) → replaced [] rest ≡ []
unfolding replaced scan
replaced-nil rest = refl

-- a byte of no run
other_lem : (c : ℕ) (cs : List ℕ) → is_run_byte c ≡ false
    → onward (c ∷ cs) ≡ c ∷ rewritten_at (after_other c) cs
other_lem c cs e =
    ap (λ b. cond b (rewritten_at (outside ([] ++ c ∷ [])) cs)
    (replaced [] (c ∷ cs) ++ c ∷ rewritten_at (after_other c) cs)) e
    ∙ ap (λ t. t ++ c ∷ rewritten_at (after_other c) cs) (replaced-nil (c ∷ cs))

-- ---- runs

one_more : (n : ℕ) → 1 + n ≡ suc n
one_more n = omega arith

abbrev pub run_size : List ℕ → ℕ
run_size xs = position_or_len (λ c. not (is_run_byte c)) xs

-- what a text begins with, behind the bytes of a run
abbrev parted : List ℕ → List ℕ → ℕ → List ℕ
parted acc xs n = replaced (acc ++ take n xs) (drop n xs) ++ onward (drop n xs)

run_step : (b : Bool) (acc : List ℕ) (c : ℕ) (cs : List ℕ) → is_run_byte c ≡ b
    → rewritten_at (outside (acc ++ c ∷ [])) cs ≡ parted (acc ++ c ∷ []) cs (run_size cs)
    → rewritten_at (outside acc) (c ∷ cs) ≡ parted acc (c ∷ cs)
    (cond (not (not b)) (1 + run_size cs) 0)
run_step true acc c cs e next =
    ap (λ b. cond b (rewritten_at (outside (acc ++ c ∷ [])) cs)
    (replaced acc (c ∷ cs) ++ c ∷ rewritten_at (after_other c) cs)) e
    ∙ next
    ∙ ap (λ t. replaced t (drop (run_size cs) cs) ++ onward (drop (run_size cs) cs))
    (append_assoc acc (c ∷ []) (take (run_size cs) cs))
    ∙ ap (parted acc (c ∷ cs)) (sym (one_more (run_size cs)))
run_step false acc c cs e next =
    ap (λ b. cond b (rewritten_at (outside (acc ++ c ∷ [])) cs)
    (replaced acc (c ∷ cs) ++ c ∷ rewritten_at (after_other c) cs)) e
    ∙ ap₂ (λ a b. a ++ b) (ap (λ t. replaced t (c ∷ cs)) (sym (append-nil acc)))
    (sym (other_lem c cs e))

run_lem : (acc xs : List ℕ) → rewritten_at (outside acc) xs ≡ parted acc xs (run_size xs)
run_lem acc [] =
    sym (ap₂ (λ a b. a ++ b) (ap (λ t. replaced t []) (append-nil acc)) (replaced-nil [])
    ∙ append-nil (replaced acc []))
run_lem acc (c ∷ cs) =
    run_step (is_run_byte c) acc c cs refl (run_lem (acc ++ c ∷ []) cs)

pub run_is : (xs : List ℕ) → onward xs ≡ replaced (take (run_size xs) xs)
    (drop (run_size xs) xs) ++ onward (drop (run_size xs) xs)
run_is xs = run_lem [] xs

-- a loop over a run
pub run_more : (text : List ℕ) (i : ℕ) → i < length text → is_run_byte (get_or text i 0) ≡ true
    → run_size (drop i text) ≡ 1 + run_size (drop (i + 1) text)
run_more text i h e =
    ap run_size (drop_more text i 0 h)
    ∙ ap (λ b. cond (not (not b)) (1 + run_size (drop (i + 1) text)) 0) e

pub run_stops : (text : List ℕ) (i : ℕ) → i < length text → is_run_byte (get_or text i 0) ≡ false
    → run_size (drop i text) ≡ 0
run_stops text i h e =
    ap run_size (drop_more text i 0 h)
    ∙ ap (λ b. cond (not (not b)) (1 + run_size (drop (i + 1) text)) 0) e

pub run_all : (text : List ℕ) (i : ℕ) → length text ≤ i → run_size (drop i text) ≡ 0
run_all text i h = ap run_size (drop_all i text h)

pub ruleset run_steps = (run_more, run_stops, run_all)

-- ---- other pieces

pub single_is : (c : ℕ) (cs : List ℕ) → is_run_byte c ≡ false → ¬ (c ≡ 34)
    → onward (c ∷ cs) ≡ c ∷ onward cs
single_is c cs e other =
    other_lem c cs e ∙ ap (λ b. c ∷ rewritten_at (cond b in_string (outside [])) cs)
    (ne_eqb c 34 other)

pub string_is : (c : ℕ) (cs : List ℕ) → is_run_byte c ≡ false → c ≡ 34
    → onward (c ∷ cs) ≡ c ∷ rewritten_at in_string cs
string_is c cs e is =
    other_lem c cs e ∙ ap (λ b. c ∷ rewritten_at (cond b in_string (outside [])) cs)
    (eq-eqb c 34 is)

-- a whole text that begins with such a piece
pub single_first : (xs : List ℕ) → 0 < length xs → is_run_byte (get_or xs 0 0) ≡ false
    → ¬ (get_or xs 0 0 ≡ 34) → onward xs ≡ take 1 xs ++ onward (drop 1 xs)
single_first [] h e other = absurd (omega arith)
single_first (c ∷ cs) h e other = single_is c cs e other

pub string_first : (xs : List ℕ) (n : ℕ) → 0 < length xs → is_run_byte (get_or xs 0 0) ≡ false
    → get_or xs 0 0 ≡ 34
    → rewritten_at in_string (drop 1 xs) ≡ take n (drop 1 xs) ++ onward (drop n (drop 1 xs))
    → onward xs ≡ take (1 + n) xs ++ onward (drop (1 + n) xs)
string_first [] n h e is within = absurd (omega arith)
string_first (c ∷ cs) n h e is within =
    string_is c cs e is ∙ ap (λ t. c ∷ t) within
    ∙ ap (λ k. take k (c ∷ cs) ++ onward (drop k (c ∷ cs))) (sym (one_more n))

-- ---- strings

abbrev pub quoted_on : List ℕ → List ℕ
quoted_on xs = rewritten_at in_string xs

in_quote : (c : ℕ) (cs : List ℕ) → c ≡ 34 → quoted_on (c ∷ cs) ≡ c ∷ onward cs
in_quote c cs e =
    ap (λ b. c ∷ rewritten_at (cond b (outside []) (cond (c == 92) in_escape in_string)) cs)
    (eq-eqb c 34 e)

in_plain : (c : ℕ) (cs : List ℕ) → ¬ (c ≡ 34)
    → quoted_on (c ∷ cs) ≡ c ∷ rewritten_at (cond (c == 92) in_escape in_string) cs
in_plain c cs e =
    ap (λ b. c ∷ rewritten_at (cond b (outside []) (cond (c == 92) in_escape in_string)) cs)
    (ne_eqb c 34 e)

module _ (text : List ℕ) (place : ℕ) (inside : place < length text)
    (so_far : quoted_on text ≡ take place text ++ quoted_on (drop place text)) where
  rest_lem : drop place text ≡ get_or text place 0 ∷ drop (suc place) text
  rest_lem = drop-cons text place 0 inside

  -- n bytes that stay, and then w
  keep_lem : (n : ℕ) (w : List ℕ) → quoted_on (drop place text) ≡ take n (drop place text) ++ w
      → quoted_on text ≡ take (place + n) text ++ w
  keep_lem n w e =
      so_far ∙ ap (λ t. take place text ++ t) e
      ∙ sym (append_assoc (take place text) (take n (drop place text)) w)
      ∙ ap (λ t. t ++ w) (sym (take-add place n text))

  rest_drop : (n : ℕ) → drop n (drop place text) ≡ drop (place + n) text
  rest_drop n = drop-drop n place text

  pub closed : get_or text place 0 ≡ 34 → quoted_on text
      ≡ take (place + 1) text ++ onward (drop (place + 1) text)
  closed e =
      keep_lem 1 _ (quote_lem (drop place text) (get_or text place 0)
      (drop (suc place) text) rest_lem e
      ∙ ap (λ t. take 1 (drop place text) ++ onward t) (rest_drop 1))
    where
      quote_lem : (xs : List ℕ) (c : ℕ) (cs : List ℕ) → xs ≡ c ∷ cs → c ≡ 34
          → quoted_on xs ≡ take 1 xs ++ onward (drop 1 xs)
      quote_lem xs c cs e is =
          subst (λ t. quoted_on t ≡ take 1 t ++ onward (drop 1 t)) (sym e) (in_quote c cs is)

  pub stepped : (n : ℕ) → quoted_on (drop place text)
      ≡ take n (drop place text) ++ quoted_on (drop n (drop place text))
      → quoted_on text ≡ take (place + n) text ++ quoted_on (drop (place + n) text)
  stepped n e = keep_lem n _ (e ∙ ap (λ t. take n (drop place text) ++ quoted_on t) (rest_drop n))

-- an escape, or another byte that is no quote
pub escape_is : (xs : List ℕ) → 1 < length xs → get_or xs 0 0 ≡ 92
    → quoted_on xs ≡ take 2 xs ++ quoted_on (drop 2 xs)
escape_is [] h e = absurd (omega arith)
escape_is (c ∷ []) h e = absurd (omega arith)
escape_is (c ∷ d ∷ cs) h e =
    in_plain c (d ∷ cs) (λ k. absurd (omega arith))
    ∙ ap (λ b. c ∷ rewritten_at (cond b in_escape in_string) (d ∷ cs)) (eq-eqb c 92 e)

pub byte_is : (xs : List ℕ) → 0 < length xs → ¬ (get_or xs 0 0 ≡ 34)
    → (length xs ≤ 1) ⊎ (¬ (get_or xs 0 0 ≡ 92)) → quoted_on xs ≡ take 1 xs ++ quoted_on (drop 1 xs)
byte_is [] h plain k = absurd (omega arith)
byte_is (c ∷ cs) h plain (inr other) =
    in_plain c cs plain ∙ ap (λ b. c ∷ rewritten_at (cond b in_escape in_string) cs)
    (ne_eqb c 92 other)
byte_is (c ∷ d ∷ cs) h plain (inl short) = absurd (omega arith)
byte_is (c ∷ []) h plain (inl short) = in_plain c [] plain ∙ last_lem (c == 92)
  where
    last_lem : (b : Bool) → c ∷ rewritten_at (cond b in_escape in_string) [] ≡ c ∷ []
    last_lem true = refl
    last_lem false = refl

-- nothing is left of a string, or of a text
pub string_end : (text : List ℕ) (place : ℕ) → length text ≤ place
    → quoted_on text ≡ take place text ++ quoted_on (drop place text)
    → quoted_on text ≡ take place text ++ onward (drop place text)
string_end text place h e =
    e ∙ ap (λ t. take place text ++ t) (ap quoted_on (drop_all place text h) ∙ sym (replaced-nil [])
    ∙ sym (ap onward (drop_all place text h)))

-- ---- the whole text

-- what is rewritten so far, what stays behind it, and what is left
pub record IsRewrittenSoFar (text exact : List ℕ) (copied place : ℕ) : Type 0 where
  pub within : place ≤ length text
  pub behind : copied ≤ place
  pub same : exact ++ (take (place - copied) (drop copied text) ++ onward (drop place text))
      ≡ rewritten text

pub rewritten_start : (text : List ℕ) → IsRewrittenSoFar text [] 0 0
unfolding rewritten
rewritten_start text = record { within = omega arith; behind = omega arith; same = refl }

module _ (text exact : List ℕ) (copied place : ℕ)
    (so_far : IsRewrittenSoFar text exact copied place) where
  between_lem : (n : ℕ) → take (place + n - copied) (drop copied text) ≡ take (place - copied)
      (drop copied text) ++ take n (drop place text)
  between_lem n =
      let sum : place + n - copied ≡ place - copied + n = omega (arith, so_far.behind) in
      let back : copied + (place - copied) ≡ place = omega (arith, so_far.behind) in
      ap (λ k. take k (drop copied text)) sum
      ∙ take-add (place - copied) n (drop copied text)
      ∙ ap (λ t. take (place - copied) (drop copied text) ++ take n t)
      (drop-drop (place - copied) copied text ∙ ap (λ k. drop k text) back)

  pub rewritten_kept : (n : ℕ) → n ≤ length text - place
      → onward (drop place text) ≡ take n (drop place text) ++ onward (drop n (drop place text))
      → IsRewrittenSoFar text exact copied (place + n)
  rewritten_kept n h e = record {
    within = omega (arith, so_far.within);
    behind = omega (arith, so_far.behind);
    same =
        ap₂ (λ a b. exact ++ (a ++ onward b)) (between_lem n) (sym (drop-drop n place text))
        ∙ ap (λ t. exact ++ t) (append_assoc (take (place - copied) (drop copied text))
        (take n (drop place text)) (onward (drop n (drop place text))))
        ∙ ap (λ t. exact ++ (take (place - copied) (drop copied text) ++ t)) (sym e)
        ∙ so_far.same;
  }

  pub rewritten_run : (n : ℕ) (more : List ℕ) → n ≤ length text - place
      → onward (drop place text) ≡ more ++ onward (drop n (drop place text))
      → IsRewrittenSoFar text (exact ++ (take (place - copied) (drop copied text) ++ more))
      (place + n) (place + n)
  rewritten_run n more h e = record {
    within = omega (arith, so_far.within);
    behind = omega arith;
    same =
        ap (λ k. (exact ++ (take (place - copied) (drop copied text) ++ more))
        ++ (take k (drop (place + n) text) ++ onward (drop (place + n) text))) none_lem
        ∙ append_assoc exact (take (place - copied) (drop copied text) ++ more)
        (onward (drop (place + n) text))
        ∙ ap (λ t. exact ++ t) (append_assoc (take (place - copied) (drop copied text)) more
        (onward (drop (place + n) text))
        ∙ ap (λ t. take (place - copied) (drop copied text) ++ t)
        (ap (λ t. more ++ onward t) (sym (drop-drop n place text)) ∙ sym e))
        ∙ so_far.same;
  }
    where
      none_lem : place + n - (place + n) ≡ 0
      none_lem = omega arith

  pub rewritten_end : length text ≤ place → exact ++ take (length text - copied) (drop copied text)
      ≡ rewritten text
  rewritten_end h =
      let all : place ≡ length text = omega (arith, so_far.within) in
      let nothing : onward (drop place text) ≡ [] =
      ap onward (drop_all place text h) ∙ replaced-nil [] in
      ap (λ k. exact ++ take (k - copied) (drop copied text)) (sym all)
      ∙ ap (λ t. exact ++ t) (sym (append-nil (take (place - copied) (drop copied text)))
      ∙ ap (λ t. take (place - copied) (drop copied text) ++ t) (sym nothing))
      ∙ so_far.same

-- a run that was found, and what follows it
pub run_found : (text : List ℕ) (place n : ℕ)
    → n ≡ run_size (take (length text - place) (drop place text))
    → onward (drop place text)
    ≡ replaced (take (place + n - place) (drop place text)) (take (length text - (place + n))
    (drop (place + n) text)) ++ onward (drop n (drop place text))
run_found text place n e =
    let size : n ≡ run_size (drop place text) = e ∙ ap run_size (take_rest text place) in
    let count : n ≡ place + n - place = omega arith in
    let rest : drop n (drop place text) ≡ take (length text - (place + n)) (drop (place + n) text) =
    drop-drop n place text ∙ sym (take_rest text (place + n)) in
    run_is (drop place text)
    ∙ ap (λ k. replaced (take k (drop place text)) (drop k (drop place text)) ++ onward
    (drop k (drop place text))) (sym size)
    ∙ ap₂ (λ k t. replaced (take k (drop place text)) t ++ onward (drop n (drop place text))) count
    rest

-- ---- a turn of the loop at a run

module _ (text exact exact' : List ℕ) (copied place n : ℕ)
    (so_far : IsRewrittenSoFar text exact copied place)
    (within : n ≤ length (take (length text - place) (drop place text)))
    (size : n ≡ run_size (take (length text - place) (drop place text))) where
  abbrev the_run : List ℕ
  the_run = take (place + n - place) (drop place text)

  abbrev the_rest : List ℕ
  the_rest = take (length text - (place + n)) (drop (place + n) text)

  fits_lem : n ≤ length text - place
  fits_lem = omega (arith, within, ap length (take_rest text place), length-drop place text)

  pub run_taken : (b : Bool) → b ≡ true
      → MatchBool b (exact' ≡ exact ++ (take (place - copied) (drop copied text) ++ replaced the_run
      the_rest)) ((exact' ≡ exact) × (replaced the_run the_rest ≡ the_run))
      → IsRewrittenSoFar text exact' (place + n) (place + n)
  run_taken true e same =
      subst (λ t. IsRewrittenSoFar text t (place + n) (place + n)) (sym same)
      (rewritten_run text exact copied place so_far n (replaced the_run the_rest) fits_lem
      (run_found text place n size))
  run_taken false e same = cc

  pub run_kept : (b : Bool) → b ≡ false
      → MatchBool b (exact' ≡ exact ++ (take (place - copied) (drop copied text) ++ replaced the_run
      the_rest)) ((exact' ≡ exact) × (replaced the_run the_rest ≡ the_run))
      → IsRewrittenSoFar text exact' copied (place + n)
  run_kept true e same = cc
  run_kept false e same =
      subst (λ t. IsRewrittenSoFar text t copied (place + n)) (sym same.0)
      (rewritten_kept text exact copied place so_far n fits_lem
      (run_found text place n size
      ∙ ap (λ t. t ++ onward (drop n (drop place text))) (same.1
      ∙ ap (λ k. take k (drop place text)) (count_lem place n))))
    where
      count_lem : (p n : ℕ) → p + n - p ≡ n
      count_lem p n = omega arith

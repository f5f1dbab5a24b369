-- Functions of the dual's variables by name: their terms are those of the coefficients that aren't
-- 0, each by the name of its variable.
use Rattle.std.specs.Prelude.{◌≡◌, ℕ, zero, suc, ◌+◌, ◌-◌, ◌<◌, ◌≤◌, Bool, true, false, cond, filter, not, List, [], ◌∷◌, ◌++◌, drop, length, map, replicate, slice_index_or, take, refl}
use Rattle.std.specs.List.{AllByRecursion, IsDistinct}
use Rattle.std.specs.Str.{bytes_eq}
use Rattle.std.proofs.Common.{sym, ◌∙◌, ap, ap₂, arith, get_or, subst}
use Rattle.std.proofs.lemmas.List.{append-nil, append_assoc, drop_more, length-append, length-replicate}
use Rattle.std.proofs.lemmas.Bool.{false_from_ne_true, false≢true}
use Rattle.std.proofs.lemmas.Map.Keys.{IsDistinct-cons, IsDistinct-head, IsDistinct-tail}
use Rattle.ratio_core.specs.Rational.{Rational, rational_eq, zero_ℚ}
use Rattle.ratio_core.specs.RationalLaws.{rational_eq_Decides}
use Rattle.named_aff.specs.declared.terms.NamedTerm.{NamedTerm}
use Rattle.named_aff.specs.Distinct.{HasDistinctNames, one_distinct}
use Rattle.aff_core.specs.Address.{Address, address_cmp}
use Rattle.std.specs.FinMap as finite
use Rattle.aff_core.specs.Function.{function_of, if_rising, terms_of}
use Rattle.aff_core.specs.FunctionLaws.{constant-function_of, same_function, terms-function_of}
use Rattle.aff_core.specs.Terms.{is_nonzero}
use Rattle.user_model.specs.Model.{variable_address}
use Rattle.group_numbering.specs.NewGroups.{terms_from}
use Rattle.group_numbering.specs.NumberLaws.{terms_rise}
use Rattle.dualization.specs.ByName.{named_terms, term_of}
use Rattle.dualization.specs.DualEdits.{affine_by_name, term_by_name}

-- ---- the names of terms are some of the names

abbrev names_of : List NamedTerm → List (List ℕ)
names_of ts = map (λ t. t.variable) ts

one_among : (P : List ℕ → Type 0) (name : List ℕ) (q : Rational) (ts : List NamedTerm) → P name
    → AllByRecursion P (names_of ts) → AllByRecursion P (names_of (term_of name q ++ ts))
one_among P name q ts h rest = by (rational_eq q zero_ℚ)
  where
    by : (b : Bool) → AllByRecursion P (names_of (cond b []
        (record { variable = name; coefficient = q } ∷ []) ++ ts))
    by true = rest
    by false = (h, rest)

-- of the first i coefficients, and the term behind them
abbrev with_next : List (List ℕ) → List Rational → ℕ → List ℕ → Rational → List NamedTerm
with_next names qs i name q =
    named_terms names (take i qs) ++ record { variable = name; coefficient = q } ∷ []

among : (P : List ℕ → Type 0) (names : List (List ℕ)) (qs : List Rational) (i : ℕ) (name : List ℕ)
    (q : Rational) → i < length names → i ≤ length qs → name ≡ get_or names i name
    → AllByRecursion P names → AllByRecursion P (names_of (with_next names qs i name q))
among P [] qs i name q lt le e h = absurd (omega (arith, lt))
among P (n ∷ names) qs zero name q lt le e h = (subst P (sym e) h.0, tt)
among P (n ∷ names) [] (suc i) name q lt le e h = absurd (omega (arith, le))
among P (n ∷ names) (p ∷ qs) (suc i) name q lt le e h =
    subst (λ ts. AllByRecursion P (names_of ts))
    (sym (append_assoc (term_of n p) (named_terms names (take i qs))
    (record { variable = name; coefficient = q } ∷ [])))
    (one_among P n p (with_next names qs i name q) h.0
    (among P names qs i name q (omega (arith, lt)) (omega (arith, le)) e h.1))

one_apart : (name : List ℕ) (q : Rational) (ts : List NamedTerm)
    → AllByRecursion (λ m. bytes_eq name m ≡ false) (names_of ts) → HasDistinctNames ts
    → HasDistinctNames (term_of name q ++ ts)
one_apart name q ts h rest = by (rational_eq q zero_ℚ)
  where
    by : (b : Bool) → HasDistinctNames (cond b []
        (record { variable = name; coefficient = q } ∷ []) ++ ts)
    by true = rest
    by false = IsDistinct-cons bytes_eq name (names_of ts) h rest

pub next_apart : (names : List (List ℕ)) (qs : List Rational) (i : ℕ) (name : List ℕ)
    (q : Rational) → i < length names → i ≤ length qs → name ≡ get_or names i name
    → IsDistinct bytes_eq names → HasDistinctNames (with_next names qs i name q)
next_apart [] qs i name q lt le e h = absurd (omega (arith, lt))
next_apart (n ∷ names) qs zero name q lt le e h =
    one_distinct (record { variable = name; coefficient = q })
next_apart (n ∷ names) [] (suc i) name q lt le e h = absurd (omega (arith, le))
next_apart (n ∷ names) (p ∷ qs) (suc i) name q lt le e h =
    subst HasDistinctNames
    (sym (append_assoc (term_of n p) (named_terms names (take i qs))
    (record { variable = name; coefficient = q } ∷ [])))
    (one_apart n p (with_next names qs i name q)
    (among (λ m. bytes_eq n m ≡ false) names qs i name q (omega (arith, lt)) (omega (arith, le)) e
    (IsDistinct-head bytes_eq n names h))
    (next_apart names qs i name q (omega (arith, lt)) (omega (arith, le)) e
    (IsDistinct-tail bytes_eq n names h)))

-- ---- one coefficient more

pub next_named : (names : List (List ℕ)) (qs : List Rational) (i : ℕ) (name : List ℕ)
    (q : Rational) → i < length names → i < length qs → name ≡ get_or names i name
    → q ≡ get_or qs i q
    → named_terms names (take (i + 1) qs) ≡ named_terms names (take i qs) ++ term_of name q
next_named [] qs i name q lt le e f = absurd (omega (arith, lt))
next_named (n ∷ names) [] i name q lt le e f = absurd (omega (arith, le))
next_named (n ∷ names) (p ∷ qs) zero name q lt le e f =
    append_none names (term_of n p) ∙ ap₂ term_of (sym e) (sym f)
  where
    append_none : (names : List (List ℕ)) (ts : List NamedTerm) → ts ++ named_terms names [] ≡ ts
    append_none [] ts = append-nil ts
    append_none (n ∷ names) ts = append-nil ts
next_named (n ∷ names) (p ∷ qs) (suc i) name q lt le e f =
    let more : suc i + 1 ≡ suc (i + 1) = omega arith in
    ap (λ k. named_terms (n ∷ names) (take k (p ∷ qs))) more
    ∙ ap (λ ts. term_of n p ++ ts)
    (next_named names qs i name q (omega (arith, lt)) (omega (arith, le)) e f)
    ∙ sym (append_assoc (term_of n p) (named_terms names (take i qs)) (term_of name q))

-- ---- functions by name

pub named_none : (names : List (List ℕ)) → named_terms names [] ≡ []
named_none [] = refl
named_none (n ∷ names) = refl

module _ (all : List (List ℕ)) where
  -- the terms of the variables from the n-th on
  terms_named : (n : ℕ) (qs : List Rational) → n + length qs ≤ length all
      → map (term_by_name all) (filter is_nonzero (terms_from n qs)) ≡ named_terms (drop n all) qs
  terms_named n [] h = sym (named_none (drop n all))
  terms_named n (q ∷ qs) h =
      by (rational_eq q zero_ℚ) (terms_named (suc n) qs (omega (arith, h)))
      ∙ ap (λ names. named_terms names (q ∷ qs)) (sym split)
    where
      split : drop n all ≡ slice_index_or all n [] ∷ drop (suc n) all
      split = let more : n + 1 ≡ suc n = omega arith in
          drop_more all n [] (omega (arith, h)) ∙ ap (λ k. slice_index_or all n [] ∷ drop k all) more

      by : (b : Bool)
          → map (term_by_name all) (filter is_nonzero (terms_from (suc n) qs))
          ≡ named_terms (drop (suc n) all) qs
          → map (term_by_name all) (cond (not b) ((variable_address n, q)
          ∷ filter is_nonzero (terms_from (suc n) qs)) (filter is_nonzero (terms_from (suc n) qs)))
          ≡ cond b [] (record { variable = slice_index_or all n []; coefficient = q } ∷ [])
          ++ named_terms (drop (suc n) all) qs
      by true rest = rest
      by false rest =
          ap (λ ts. record { variable = slice_index_or all n []; coefficient = q } ∷ ts) rest

  pub function_named : (qs : List Rational) (k : Rational) → length qs ≤ length all
      → affine_by_name all (function_of (terms_from 0 qs) k)
      ≡ record { terms = named_terms all qs; constant = k }
  function_named qs k h =
      λ i. record {
        terms = (ap (map (term_by_name all)) (terms-function_of (terms_from 0 qs) k (terms_rise 0 qs))
            ∙ terms_named 0 qs (omega (arith, h))) i;
        constant = constant-function_of address_cmp (terms_from 0 qs) k i;
      }

-- ---- coefficients, zeros and others behind them

terms_on : (n : ℕ) (ps qs : List Rational)
    → terms_from n (ps ++ qs) ≡ terms_from n ps ++ terms_from (n + length ps) qs
terms_on n [] qs = let none : n ≡ n + 0 = omega arith in ap (λ m. terms_from m qs) none
terms_on n (p ∷ ps) qs =
    let on : suc n + length ps ≡ n + suc (length ps) = omega arith in
    ap (λ ts. (variable_address n, p) ∷ ts) (terms_on (suc n) ps qs
    ∙ ap (λ m. terms_from (suc n) ps ++ terms_from m qs) on)

zeros_left_out : (n k : ℕ) → filter is_nonzero (terms_from n (replicate k zero_ℚ)) ≡ []
zeros_left_out n zero = refl
zeros_left_out n (suc k) =
    ap (λ b. cond (not b) ((variable_address n, zero_ℚ)
    ∷ filter is_nonzero (terms_from (suc n) (replicate k zero_ℚ)))
    (filter is_nonzero (terms_from (suc n) (replicate k zero_ℚ))))
    ((rational_eq_Decides zero_ℚ zero_ℚ).1 refl)
    ∙ zeros_left_out (suc n) k

filter-append : {X : Type 0} (p : X → Bool) (xs ys : List X)
    → filter p (xs ++ ys) ≡ filter p xs ++ filter p ys
filter-append p [] ys = refl
filter-append p (x ∷ xs) ys = by (p x) (filter-append p xs ys)
  where
    by : (b : Bool) → filter p (xs ++ ys) ≡ filter p xs ++ filter p ys
        → cond b (x ∷ filter p (xs ++ ys)) (filter p (xs ++ ys))
        ≡ cond b (x ∷ filter p xs) (filter p xs) ++ filter p ys
    by true rest = ap (λ zs. x ∷ zs) rest
    by false rest = rest

-- zeros up to the m-th variable make no difference
padded_terms : (qs ps : List Rational) (m : ℕ) → length qs ≤ m
    → filter is_nonzero (terms_from 0 ((qs ++ replicate (m - length qs) zero_ℚ) ++ ps))
    ≡ filter is_nonzero (terms_from 0 qs ++ terms_from m ps)
padded_terms qs ps m h =
    let zeros : List Rational = replicate (m - length qs) zero_ℚ in
    let long : length (qs ++ zeros) ≡ m = omega (
      arith,
      length-append qs zeros,
      length-replicate (m - length qs) zero_ℚ,
      h,
    ) in
    let first : 0 + length (qs ++ zeros) ≡ m = omega (arith, long) in
    ap (filter is_nonzero) (terms_on 0 (qs ++ zeros) ps
    ∙ ap (λ k. terms_from 0 (qs ++ zeros) ++ terms_from k ps) first)
    ∙ filter-append is_nonzero (terms_from 0 (qs ++ zeros)) (terms_from m ps)
    ∙ ap (λ ts. ts ++ filter is_nonzero (terms_from m ps))
    (ap (filter is_nonzero) (terms_on 0 qs zeros)
    ∙ filter-append is_nonzero (terms_from 0 qs) (terms_from (0 + length qs) zeros)
    ∙ ap (λ ts. filter is_nonzero (terms_from 0 qs) ++ ts)
    (zeros_left_out (0 + length qs) (m - length qs))
    ∙ append-nil (filter is_nonzero (terms_from 0 qs)))
    ∙ sym (filter-append is_nonzero (terms_from 0 qs) (terms_from m ps))

-- functions whose terms are the same but for zeros are the same by name
same_terms : (ts us : List (Address × Rational)) (k : Rational)
    → filter is_nonzero ts ≡ filter is_nonzero us
    → terms_of (function_of {R = address_cmp} ts k) ≡ terms_of (function_of {R = address_cmp} us k)
unfolding function_of
same_terms ts us k e =
    λ i. finite.entries (finite.from_sorted {R = address_cmp} (if_rising address_cmp (e i)))

abbrev pub padded : List Rational → ℕ → List Rational → List Rational
padded qs m ps = (qs ++ replicate (m - length qs) zero_ℚ) ++ ps

pub length-padded : (qs ps : List Rational) (m : ℕ) → length qs ≤ m
    → length (padded qs m ps) ≡ m + length ps
length-padded qs ps m h = omega (
  arith,
  length-append (qs ++ replicate (m - length qs) zero_ℚ) ps,
  length-append qs (replicate (m - length qs) zero_ℚ),
  length-replicate (m - length qs) zero_ℚ,
  h,
)

pub padded_function : (qs ps : List Rational) (m : ℕ) (k : Rational) → length qs ≤ m
    → function_of {R = address_cmp} (terms_from 0 qs ++ terms_from m ps) k
    ≡ function_of (terms_from 0 (padded qs m ps)) k
padded_function qs ps m k h =
    let ts : List (Address × Rational) = terms_from 0 qs ++ terms_from m ps in
    let us : List (Address × Rational) = terms_from 0 (padded qs m ps) in
    same_function (function_of ts k) (function_of us k)
    (same_terms ts us k (sym (padded_terms qs ps m h)))
    (constant-function_of address_cmp ts k ∙ sym (constant-function_of address_cmp us k))

pub padded_named : (all : List (List ℕ)) (qs ps : List Rational) (m : ℕ) (k : Rational)
    → length qs ≤ m → m + length ps ≤ length all
    → affine_by_name all (function_of (terms_from 0 qs ++ terms_from m ps) k)
    ≡ record { terms = named_terms all (padded qs m ps); constant = k }
padded_named all qs ps m k h size =
    ap (affine_by_name all) (padded_function qs ps m k h)
    ∙ function_named all (padded qs m ps) k (omega (arith, size, length-padded qs ps m h))

-- ---- a term put where it isn't 0

pub zero_kept : (ts : List NamedTerm) (name : List ℕ) (q : Rational) → q ≡ zero_ℚ
    → ts ≡ ts ++ term_of name q
zero_kept ts name q e =
    sym (append-nil ts)
    ∙ ap (λ b. ts ++ cond b [] (record { variable = name; coefficient = q } ∷ []))
    (sym ((rational_eq_Decides q zero_ℚ).1 e))

pub other_put : (ts new : List NamedTerm) (name : List ℕ) (q : Rational) (flag : Bool)
    → (q ≡ zero_ℚ → flag ≡ true) → flag ≡ false
    → new ≡ ts ++ record { variable = name; coefficient = q } ∷ [] → new ≡ ts ++ term_of name q
other_put ts new name q flag tests fails e =
    e ∙ ap (λ b. ts ++ cond b [] (record { variable = name; coefficient = q } ∷ []))
    (sym (false_from_ne_true (rational_eq q zero_ℚ)
    (λ t. false≢true (sym fails ∙ tests ((rational_eq_Decides q zero_ℚ).0 t)))))

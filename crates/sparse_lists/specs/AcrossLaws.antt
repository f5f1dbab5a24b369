-- Laws of lists that are written across.
use Rattle.std.specs.Prelude.{◌≡◌, ℕ, zero, suc, ◌+◌, ◌-◌, ◌<◌, ◌≤◌, ◌⊎◌, Bool, true, false, cond, List, [], ◌∷◌, ◌++◌, drop, length, replicate, slice_index_or, refl}
use Rattle.std.proofs.Common.{inl, inr, sym, ◌∙◌, ap, arith, subst}
use Rattle.std.proofs.Math.ListN.{drop_of_length-le}
use Rattle.std.proofs.lemmas.Bool.{cases_lt}
use Rattle.std.proofs.lemmas.List.{append-nil, append_assoc, drop_more, get_or_past, length-append, length-replicate, replicate-append-replicate}
use Rattle.ratio_core.specs.Rational.{Rational, neg_ℚ, zero_ℚ}
use Rattle.rational_laws.specs.Field.{neg_ℚ-zero}
use Rattle.sparse_ratios.specs.Terms.{AreTerms, number_at}
use Rattle.sparse_ratios.specs.TermLaws.{number_before, number_here, number_later}
use Rattle.sparse_lists.specs.Across.{ArePutAcross, IsPutIn, IsStartOf, PlacesRise, list_at, padded}

-- ---- starts

pub start_zero : (list all : List Rational) → IsStartOf list all
    → IsStartOf list (all ++ zero_ℚ ∷ [])
start_zero list all h = (
  h.0 + 1,
  ap (λ l. l ++ zero_ℚ ∷ []) h.1 ∙ append_assoc list (replicate h.0 zero_ℚ) (zero_ℚ ∷ [])
      ∙ ap (λ l. list ++ l) (replicate-append-replicate h.0 1 zero_ℚ),
)

start_long : (list all : List Rational) (h : IsStartOf list all) → length all ≡ length list + h.0
start_long list all h =
    ap length h.1 ∙ length-append list (replicate h.0 zero_ℚ)
    ∙ ap (λ n. length list + n) (length-replicate h.0 zero_ℚ)

pub start_padded : (n : ℕ) (list all : List Rational) → IsStartOf list all → length all ≡ n
    → all ≡ padded n list
start_padded n list all h e =
    h.1 ∙ ap (λ k. list ++ replicate k zero_ℚ)
    (rest_lem (length list) h.0 n (sym (start_long list all h) ∙ e))
  where
    rest_lem : (l k n : ℕ) → l + k ≡ n → k ≡ n - l
    rest_lem l k n e = omega (arith, e)

pub start_more : (n : ℕ) (list all next : List Rational) (x : Rational) → IsStartOf list all
    → length all ≡ n → next ≡ padded n list ++ x ∷ [] → IsStartOf next (all ++ x ∷ [])
start_more n list all next x h e f = (
  0,
  ap (λ l. l ++ x ∷ []) (start_padded n list all h e) ∙ sym f ∙ sym (append-nil next),
)

pub start_none : (list : List Rational) → list ≡ [] → IsStartOf list []
start_none list e = (0, sym e ∙ sym (append-nil list))

length-padded : (n : ℕ) (list : List Rational) → length list ≤ n → length (padded n list) ≡ n
length-padded n list b =
    length-append list (replicate (n - length list) zero_ℚ)
    ∙ ap (λ k. length list + k) (length-replicate (n - length list) zero_ℚ)
    ∙ back_lem (length list) n b
  where
    back_lem : (l n : ℕ) → l ≤ n → l + (n - l) ≡ n
    back_lem l n b = omega (arith, b)

-- ---- terms, one after the other

abbrev pub signed_at : Bool → List (ℕ × Rational) → ℕ → Rational
signed_at negated terms b = cond negated (neg_ℚ (number_at terms b)) (number_at terms b)

-- the lists before those that the terms that are left name have their numbers
pub record IsAcrossTo (place : ℕ) (number : ℕ → Rational) (all left : List (ℕ × Rational))
    (before after : List (List Rational)) : Type 0 where
  pub next : ℕ
  pub to : ℕ
  pub rest : AreTerms next to left
  pub same : (b : ℕ) → next ≤ b → number_at all b ≡ number_at left b
  pub long : length after ≡ length before
  pub done : (b : ℕ) (row : List Rational) → b < next → b < length before → length row ≡ place →
      IsStartOf (list_at before b) row → IsStartOf (list_at after b) (row ++ number b ∷ [])
  pub untouched : (b : ℕ) → next ≤ b → list_at after b ≡ list_at before b
  pub low : (b : ℕ) → length (list_at after b) ≤ place + 1

pub across_none : (place : ℕ) (number : ℕ → Rational) (all : List (ℕ × Rational))
    (lists : List (List Rational)) → PlacesRise all → ((b : ℕ) → length (list_at lists b) ≤ place)
    → IsAcrossTo place number all all lists lists
across_none place number all lists h low = record {
  next = 0;
  to = h.0;
  rest = h.1;
  same = λ b c. refl;
  long = refl;
  done = λ b row c. absurd (omega (arith, c));
  untouched = λ b c. refl;
  low = λ b. omega (arith, low b);
}

module _ (place : ℕ) (sign : Rational → Rational) (none : sign zero_ℚ ≡ zero_ℚ)
    (all : List (ℕ × Rational)) (before now : List (List Rational))
    (low : (b : ℕ) → length (list_at before b) ≤ place) where
  abbrev number : ℕ → Rational
  number b = sign (number_at all b)

  pub across_at : (i : ℕ) (t : ℕ × Rational) → i < length all → t ≡ slice_index_or all i t
      → IsAcrossTo place number all (drop i all) before now
      → IsAcrossTo place number all (t ∷ drop (i + 1) all) before now
  across_at i t b e = subst (λ left. IsAcrossTo place number all left before now)
      (drop_more all i t b ∙ ap (λ x. x ∷ drop (i + 1) all) (sym e))

  -- the list that the next term names is as it was
  pub across_low : (t : ℕ × Rational) (left : List (ℕ × Rational))
      → IsAcrossTo place number all (t ∷ left) before now → length (list_at now t.0) ≤ place
  across_low t left h = subst (λ l. length l ≤ place) (sym (h.untouched t.0 h.rest.0)) (low t.0)

  pub across_more : (t : ℕ × Rational) (left : List (ℕ × Rational))
      → IsAcrossTo place number all (t ∷ left) before now → (x : Rational) → x ≡ sign t.1
      → (after : List (List Rational)) → IsPutIn t.0 place x now after
      → IsAcrossTo place number all left before after
  across_more t left h x is after put = record {
    next = t.0 + 1;
    to = h.to;
    rest = h.rest.2;
    same = λ b c. h.same b (omega (arith, c, h.rest.0))
        ∙ number_later t left b (λ e. omega (arith, c, e));
    long = put.long ∙ h.long;
    done = λ b row c d e s. by_place b row c d e s (cases_lt b t.0);
    untouched = λ b c. put.others b (λ e. omega (arith, c, e))
        ∙ h.untouched b (omega (arith, c, h.rest.0));
    low = λ b. by_end b (cases_lt t.0 (length now)) (cases_lt b t.0) (cases_lt t.0 b);
  }
    where
      skipped : (b : ℕ) (row : List Rational) → b < t.0 → h.next ≤ b
          → IsStartOf (list_at before b) row → IsStartOf (list_at after b) (row ++ number b ∷ [])
      skipped b row c d s =
          subst (λ l. IsStartOf l (row ++ number b ∷ []))
          (sym (put.others b (λ e. omega (arith, c, e)) ∙ h.untouched b d))
          (subst (λ q. IsStartOf (list_at before b) (row ++ q ∷ []))
          (sym (ap sign (h.same b d ∙ number_later t left b (λ e. omega (arith, c, e))
          ∙ number_before (t.0 + 1) h.to left b h.rest.2 (omega (arith, c))) ∙ none))
          (start_zero (list_at before b) row s))

      by_next : (b : ℕ) (row : List Rational) → b < t.0 → b < length before → length row ≡ place
          → IsStartOf (list_at before b) row → (b < h.next) ⊎ (h.next ≤ b)
          → IsStartOf (list_at after b) (row ++ number b ∷ [])
      by_next b row c d e s (inl f) =
          subst (λ l. IsStartOf l (row ++ number b ∷ []))
          (sym (put.others b (λ g. omega (arith, c, g)))) (h.done b row f d e s)
      by_next b row c d e s (inr f) = skipped b row c f s

      here : (b : ℕ) (row : List Rational) → b ≡ t.0 → b < length before → length row ≡ place
          → IsStartOf (list_at before b) row → IsStartOf (list_at after b) (row ++ number b ∷ [])
      here b row c d e s =
          subst (λ q. IsStartOf (list_at after b) (row ++ q ∷ []))
          (is ∙ ap sign (sym (number_here t left b (sym c)) ∙ sym (h.same b
          (omega (arith, c, h.rest.0)))))
          (start_more place (list_at before b) row (list_at after b) x s e
          ((λ i. list_at after (c i))
          ∙ put.here (omega (arith, c, d, h.long))
          ∙ (λ i. padded place (list_at now (sym c i)) ++ x ∷ [])
          ∙ ap (λ l. padded place l ++ x ∷ []) (h.untouched b (omega (arith, c, h.rest.0)))))

      by_place : (b : ℕ) (row : List Rational) → b < t.0 + 1 → b < length before
          → length row ≡ place → IsStartOf (list_at before b) row → (b < t.0) ⊎ (t.0 ≤ b)
          → IsStartOf (list_at after b) (row ++ number b ∷ [])
      by_place b row c d e s (inl f) = by_next b row f d e s (cases_lt b h.next)
      by_place b row c d e s (inr f) = here b row (omega (arith, c, f)) d e s

      other_low : (b : ℕ) → ¬ (b ≡ t.0) → length (list_at after b) ≤ place + 1
      other_low b n = subst (λ l. length l ≤ place + 1) (sym (put.others b n)) (h.low b)

      put_low : t.0 < length now → length (list_at after t.0) ≤ place + 1
      put_low c =
          subst (λ l. length l ≤ place + 1) (sym (put.here c))
          (omega (
            arith,
            length-append (padded place (list_at now t.0)) (x ∷ []),
            length-padded place (list_at now t.0) (across_low t left h),
          ))

      past_low : length now ≤ t.0 → length (list_at after t.0) ≤ place + 1
      past_low c =
          subst (λ l. length l ≤ place + 1)
          (sym (get_or_past after t.0 [] (omega (arith, c, put.long)))) (omega arith)

      same_lem : (a b : ℕ) → a ≤ b → b ≤ a → a ≡ b
      same_lem a b d e = omega (arith, d, e)

      by_end : (b : ℕ) → (t.0 < length now) ⊎ (length now ≤ t.0) → (b < t.0) ⊎ (t.0 ≤ b)
          → (t.0 < b) ⊎ (b ≤ t.0) → length (list_at after b) ≤ place + 1
      by_end b c (inl d) e = other_low b (λ f. omega (arith, d, f))
      by_end b c (inr d) (inl e) = other_low b (λ f. omega (arith, e, f))
      by_end b (inl c) (inr d) (inr e) =
          subst (λ k. length (list_at after k) ≤ place + 1) (same_lem t.0 b d e) (put_low c)
      by_end b (inr c) (inr d) (inr e) =
          subst (λ k. length (list_at after k) ≤ place + 1) (same_lem t.0 b d e) (past_low c)

  pub across_all : (i : ℕ) → length all ≤ i
      → IsAcrossTo place number all (drop i all) before now → ArePutAcross place number before now
  across_all i c d = by_rest (subst (λ left. IsAcrossTo place number all left before now)
      (drop_of_length-le all c) d)
    where
      by_rest : IsAcrossTo place number all [] before now → ArePutAcross place number before now
      by_rest h = record {
        long = h.long;
        each = λ b row e f s. by_next b row e f s (cases_lt b h.next);
        low = h.low;
      }
        where
          by_next : (b : ℕ) (row : List Rational) → b < length before → length row ≡ place
              → IsStartOf (list_at before b) row → (b < h.next) ⊎ (h.next ≤ b)
              → IsStartOf (list_at now b) (row ++ number b ∷ [])
          by_next b row e f s (inl g) = h.done b row g e f s
          by_next b row e f s (inr g) =
              subst (λ l. IsStartOf l (row ++ number b ∷ [])) (sym (h.untouched b g))
              (subst (λ q. IsStartOf (list_at before b) (row ++ q ∷ []))
              (sym (ap sign (h.same b g) ∙ none)) (start_zero (list_at before b) row s))

-- ---- what a start has

zeros_cell : (n k : ℕ) → slice_index_or (replicate n zero_ℚ) k zero_ℚ ≡ zero_ℚ
zeros_cell zero k = refl
zeros_cell (suc n) zero = refl
zeros_cell (suc n) (suc k) = zeros_cell n k

pub behind : (list : List Rational) (n k : ℕ)
    → slice_index_or (list ++ replicate n zero_ℚ) k zero_ℚ ≡ slice_index_or list k zero_ℚ
behind [] n k = zeros_cell n k
behind (x ∷ list) n zero = refl
behind (x ∷ list) n (suc k) = behind list n k

pub start_cell : (list all : List Rational) → IsStartOf list all → (k : ℕ)
    → slice_index_or list k zero_ℚ ≡ slice_index_or all k zero_ℚ
start_cell list all h k =
    sym (behind list h.0 k) ∙ ap (λ l. slice_index_or l k zero_ℚ) (sym h.1)

pub signed_zero : (negated : Bool) → cond negated (neg_ℚ zero_ℚ) zero_ℚ ≡ zero_ℚ
signed_zero true = neg_ℚ-zero
signed_zero false = refl

pub empty_more : (lists : List (List Rational)) (list : List Rational)
    → ((b : ℕ) → list_at lists b ≡ []) → list ≡ [] → (b : ℕ) → list_at (lists ++ list ∷ []) b ≡ []
empty_more [] list h e zero = e
empty_more [] list h e (suc b) = refl
empty_more (x ∷ lists) list h e zero = h 0
empty_more (x ∷ lists) list h e (suc b) = empty_more lists list (λ k. h (suc k)) e b

-- A list of which one item is read or written, or to which one is pushed.
use Rattle.std.specs.Prelude.{◌≡◌, ℕ, zero, suc, ◌+◌, ◌<◌, ◌≤◌, ◌⊎◌, List, [], ◌∷◌, ◌++◌, length, Option, Some, slice_get, slice_index_or, slice_set, refl}
use Rattle.std.proofs.Common.{inl, inr, sym, ◌∙◌, ap, arith, subst}
use Rattle.std.proofs.lemmas.Bool.{cases_lt}
use Rattle.std.proofs.lemmas.List.{get_or-set_other, get_or-set_same, get_or_default, length-append, length-set}
use Rattle.std.proofs.lemmas.Option.{slice_get-get_or, slice_get_past}
use Rattle.ratio_core.specs.Rational.{Rational, zero_ℚ}
use Rattle.simplex_laws.specs.BoundedSumLaws.{same_or_other}
use Rattle.tableau_core.specs.Row.{cell}

-- ---- read

pub item_is : (row : List Rational) (j : ℕ) (item : Rational) → j < length row
    → item ≡ slice_index_or row j item → item ≡ cell row j
item_is row j item b e = e ∙ get_or_default row j item zero_ℚ b

pub read_at : {X : Type 0} (list : List X) (i : ℕ) (d : X) → i < length list
    → slice_get list i ≡ Some (slice_index_or list i d)
read_at list i d b = slice_get-get_or list i d b

-- ---- written

pub written_at : {X : Type 0} (list : List X) (i : ℕ) (item : X) → i < length list
    → slice_get (slice_set list i item) i ≡ Some item
written_at list i item b =
    slice_get-get_or (slice_set list i item) i item
    (subst (λ n. i < n) (sym (length-set list i item)) b)
    ∙ ap Some (get_or-set_same list i item item b)

pub written_off : {X : Type 0} (list : List X) (i k : ℕ) (item : X) → ¬ (k ≡ i)
    → slice_get (slice_set list i item) k ≡ slice_get list k
written_off list i k item n = by_end (cases_lt k (length list))
  where
    by_end : (k < length list) ⊎ (length list ≤ k) → slice_get (slice_set list i item) k
        ≡ slice_get list k
    by_end (inl b) =
        slice_get-get_or (slice_set list i item) k item
        (subst (λ m. k < m) (sym (length-set list i item)) b)
        ∙ ap Some (get_or-set_other list i k item item n) ∙ sym (slice_get-get_or list k item b)
    by_end (inr h) =
        slice_get_past (slice_set list i item) k (subst (λ m. m ≤ k) (sym (length-set list i item))
        h) ∙ sym (slice_get_past list k h)

-- a fact of each item, from one of the item written and one of each other
pub each_written : {X : Type 0} (P : ℕ → Option X → Type 0) (list : List X) (i : ℕ) (item : X)
    → i < length list → P i (Some item) → ((k : ℕ) → ¬ (k ≡ i) → P k (slice_get list k)) → (k : ℕ)
    → P k (slice_get (slice_set list i item) k)
each_written P list i item b here others k =
    same_or_other (P k (slice_get (slice_set list i item) k)) k i
    (λ e. subst (λ j. P j (slice_get (slice_set list i item) j)) (sym e)
    (subst (P i) (sym (written_at list i item b)) here))
    (λ n. subst (P k) (sym (written_off list i k item n)) (others k n))

-- ---- pushed

pub pushed_long : {X : Type 0} (n : ℕ) (list next : List X) (item : X) → length list ≡ n
    → next ≡ list ++ item ∷ [] → length next ≡ n + 1
pushed_long n list next item long e =
    ap length e ∙ length-append list (item ∷ []) ∙ ap (λ k. k + 1) long

pushed_off : {X : Type 0} (list : List X) (item : X) (k : ℕ) → k < length list
    → slice_get (list ++ item ∷ []) k ≡ slice_get list k
pushed_off [] item k b = absurd (omega (arith, b))
pushed_off (x ∷ list) item zero b = refl
pushed_off (x ∷ list) item (suc k) b = pushed_off list item k (omega (arith, b))

pushed_last : {X : Type 0} (list : List X) (item : X)
    → slice_get (list ++ item ∷ []) (length list) ≡ Some item
pushed_last [] item = refl
pushed_last (x ∷ list) item = pushed_last list item

-- a fact of each of n items, and of one that is pushed
pub each_pushed : {X : Type 0} (P : ℕ → Option X → Type 0) (n : ℕ) (list next : List X) (item : X)
    → length list ≡ n → ((k : ℕ) → k < n → P k (slice_get list k)) → P n (Some item)
    → next ≡ list ++ item ∷ [] → (k : ℕ) → k < n + 1 → P k (slice_get next k)
each_pushed P n list next item long h last e k b =
    same_or_other (P k (slice_get next k)) k n
    (λ q. subst (λ j. P j (slice_get next j)) (sym q)
    (subst (P n)
    (sym (ap (λ l. slice_get l n) e ∙ ap (slice_get (list ++ item ∷ [])) (sym long)
    ∙ pushed_last list item)) last))
    (λ m. subst (P k)
    (sym (ap (λ l. slice_get l k) e
    ∙ pushed_off list item k (subst (λ j. k < j) (sym long) (omega (arith, b, m)))))
    (h k (omega (arith, b, m))))

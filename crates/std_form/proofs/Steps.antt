-- Steps of loops over equations.
use Rattle.std.specs.Prelude.{◌≡◌, ℕ, suc, ◌+◌, ◌<◌, Bool, List, [], ◌∷◌, ◌++◌, All, length, map, slice_index_or, take}
use Rattle.std.proofs.Common.{sym, ◌∙◌, ap, ap₂, arith, is_lt, subst}
use Rattle.std.proofs.lemmas.List.{append-nil, append_assoc, get_or-map, length-map, length-take-le, map-append, map_more}
use Rattle.std.proofs.lemmas.List.Elements.{All-push}
use Rattle.aff_core.specs.Function.{coefficient}
use Rattle.ratio_core.specs.Rational.{Rational, rational_cmp, zero_ℚ}
use Rattle.equality_form.specs.Columns.{slack_at, slacks_from}
use Rattle.equality_form.specs.EqualityForm.{cells_from, numbers_at, row_cells, unit_at}
use Rattle.equality_form.specs.Equations.{RightFits, flipped, is_flipped, right_of, slack_of}
use Rattle.std_form.specs.Indexed.{SolverEquation}

-- ---- lists of equations that grow

counted : (k n : ℕ) → suc k + n ≡ k + suc n
counted k n = omega arith

from_k : (k : ℕ) → k ≡ k + 0
from_k k = omega arith

slacks_push : (k : ℕ) (es : List SolverEquation) (e : SolverEquation)
    → slacks_from k (es ++ e ∷ []) ≡ slacks_from k es ++ slack_at (k + length es) (slack_of e.set)
slacks_push k [] e =
    append-nil (slack_at k (slack_of e.set)) ∙ ap (λ n. slack_at n (slack_of e.set)) (from_k k)
slacks_push k (x ∷ es) e =
    ap (λ ss. slack_at k (slack_of x.set) ++ ss) (slacks_push (suc k) es e
    ∙ ap (λ n. slacks_from (suc k) es ++ slack_at n (slack_of e.set)) (counted k (length es)))
    ∙ sym (append_assoc (slack_at k (slack_of x.set)) (slacks_from (suc k) es)
    (slack_at (k + suc (length es)) (slack_of e.set)))

module _ (parts : List (ℕ × Bool)) (ss : List (ℕ × Bool)) where
  cells_push : (k : ℕ) (es : List SolverEquation) (e : SolverEquation)
      → cells_from parts ss k (es ++ e ∷ [])
      ≡ cells_from parts ss k es ++ row_cells parts ss (k + length es) e
  cells_push k [] e =
      append-nil (row_cells parts ss k e) ∙ ap (λ n. row_cells parts ss n e) (from_k k)
  cells_push k (x ∷ es) e =
      ap (λ cs. row_cells parts ss k x ++ cs) (cells_push (suc k) es e
      ∙ ap (λ n. cells_from parts ss (suc k) es ++ row_cells parts ss n e)
      (counted k (length es)))
      ∙ sym (append_assoc (row_cells parts ss k x) (cells_from parts ss (suc k) es)
      (row_cells parts ss (k + suc (length es)) e))

module _ {E : Type 0} (f : E → SolverEquation) (xs : List E) (i : ℕ) (d : E)
    (h : i < length xs) where
  so_long : 0 + length (map f (take i xs)) ≡ i
  so_long =
      plain (length (map f (take i xs))) ∙ length-map (take i xs) f
      ∙ length-take-le i xs (omega (arith, h))
    where
      plain : (n : ℕ) → 0 + n ≡ n
      plain n = omega arith

  pub slacks_step : (old new : List (ℕ × Bool)) → old ≡ slacks_from 0 (map f (take i xs))
      → new ≡ old ++ slack_at i (slack_of (f (slice_index_or xs i d)).set)
      → new ≡ slacks_from 0 (map f (take (i + 1) xs))
  slacks_step old new so_far pushed =
      pushed ∙ ap (λ ss. ss ++ slack_at i (slack_of (f (slice_index_or xs i d)).set)) so_far
      ∙ ap (λ n. slacks_from 0 (map f (take i xs)) ++ slack_at n
      (slack_of (f (slice_index_or xs i d)).set)) (sym so_long)
      ∙ sym (slacks_push 0 (map f (take i xs)) (f (slice_index_or xs i d)))
      ∙ ap (slacks_from 0) (sym (map_more f xs i d h))

  pub matrix_step : (parts : List (ℕ × Bool)) (ss : List (ℕ × Bool)) (b : Bool)
      (old mid new : List Rational) → b ≡ is_flipped (f (slice_index_or xs i d))
      → old ≡ cells_from parts ss 0 (map f (take i xs))
      → mid ≡ old ++ map (flipped b)
      (numbers_at parts (coefficient (f (slice_index_or xs i d)).function))
      → new ≡ mid ++ map (flipped b) (unit_at ss i)
      → new ≡ cells_from parts ss 0 (map f (take (i + 1) xs))
  matrix_step parts ss b old mid new is so_far first second =
      second ∙ ap (λ cs. cs ++ map (flipped b) (unit_at ss i)) (first
      ∙ ap (λ cs. cs ++ numbers) so_far)
      ∙ append_assoc (cells_from parts ss 0 (map f (take i xs))) numbers
      (map (flipped b) (unit_at ss i))
      ∙ ap (λ cs. cells_from parts ss 0 (map f (take i xs)) ++ cs)
      (sym (map-append (flipped b) (numbers_at parts
      (coefficient (f (slice_index_or xs i d)).function)) (unit_at ss i))
      ∙ ap (λ c. map (flipped c) (numbers_at parts
      (coefficient (f (slice_index_or xs i d)).function) ++ unit_at ss i)) is)
      ∙ ap (λ n. cells_from parts ss 0 (map f (take i xs)) ++ row_cells parts ss n
      (f (slice_index_or xs i d))) (sym so_long)
      ∙ sym (cells_push parts ss 0 (map f (take i xs)) (f (slice_index_or xs i d)))
      ∙ ap (cells_from parts ss 0) (sym (map_more f xs i d h))
    where
      numbers : List Rational
      numbers =
          map (flipped b) (numbers_at parts (coefficient (f (slice_index_or xs i d)).function))

  pub mapped_step : {Y : Type 0} (g : SolverEquation → Y) (old new : List Y) (y : Y)
      → old ≡ map g (map f (take i xs)) → y ≡ g (f (slice_index_or xs i d)) → new ≡ old ++ y ∷ []
      → new ≡ map g (map f (take (i + 1) xs))
  mapped_step g old new y so_far is pushed =
      pushed ∙ ap₂ (λ ys z. ys ++ z ∷ []) so_far is
      ∙ sym (map-append g (map f (take i xs)) (f (slice_index_or xs i d) ∷ []))
      ∙ ap (map g) (sym (map_more f xs i d h))

  pub fits_step : All RightFits (map f (take i xs)) → RightFits (f (slice_index_or xs i d))
      → All RightFits (map f (take (i + 1) xs))
  fits_step so_far fits =
      subst (All RightFits) (sym (map_more f xs i d h)) (All-push RightFits (map f (take i xs))
      (f (slice_index_or xs i d)) so_far fits)

  -- a right side and its flip
  pub side_is : (side q : Rational) (b : Bool) → side ≡ right_of (f (slice_index_or xs i d))
      → b ≡ is_lt (rational_cmp side zero_ℚ) → q ≡ flipped b side
      → (q ≡ flipped (is_flipped (f (slice_index_or xs i d)))
      (right_of (f (slice_index_or xs i d)))) × (b ≡ is_flipped (f (slice_index_or xs i d)))
  side_is side q b is test number =
      let flip : b ≡ is_flipped (f (slice_index_or xs i d)) =
      test ∙ ap (λ q. is_lt (rational_cmp q zero_ℚ)) is in
      (number ∙ ap₂ flipped flip is, flip)

  -- one that doesn't fit is among all
  pub fits_fail : ¬ RightFits (f (slice_index_or xs i d)) → ¬ All RightFits (map f xs)
  fits_fail fails all =
      fails (subst RightFits (get_or-map f xs i d (f d) h)
      (all i (f d) (subst (λ n. i < n) (sym (length-map xs f)) h)))

  pub flip_at : (flips : List Bool) (b : Bool) → flips ≡ map is_flipped (map f xs)
      → slice_index_or flips i b ≡ is_flipped (f (slice_index_or xs i d))
  flip_at flips b is =
      ap (λ bs. slice_index_or bs i b) is
      ∙ get_or-map is_flipped (map f xs) i (f d) b (subst (λ n. i < n) (sym (length-map xs f)) h)
      ∙ ap is_flipped (get_or-map f xs i d (f d) h)

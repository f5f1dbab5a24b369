-- The laws of matrices that a map rests on: the transpose is the adjoint, a product applies one matrix
-- after the other, and the unit matrix changes nothing. So the transposes of inverse matrices undo each
-- other.
use Rattle.std.specs.Prelude.{◌≡◌, ℕ, zero, suc, ◌+◌, List, [], ◌∷◌, All, length, map, replicate, slice_index_or, refl}
use Rattle.std.specs.List.{range_with_len}
use Rattle.std.proofs.Common.{sym, ◌∙◌, ap, ap₂, arith, subst}
use Rattle.std.proofs.lemmas.List.{length-map, length-replicate}
use Rattle.std.proofs.lemmas.List.Elements.{All-head, All-tail}
use Rattle.std.proofs.lemmas.List.FromFn.{length-map-range_with_len}
use mathlib.Core.List.{map-map}
use Rattle.ratio_core.specs.Rational.{Rational, one_ℚ, zero_ℚ, ◌*ℚ◌, ◌+ℚ◌}
use Rattle.rational_laws.specs.Dot.{dot}
use Rattle.rational_laws.specs.DotLaws.{dot_behind, dot_comm, dot_front, dot_map-*ℚ, dot_map-+ℚ, dot_map_same, dot_map_zero}
use Rattle.rational_laws.specs.Field.{*ℚ_comm, *ℚ-one, one-*ℚ, zero-*ℚ, +ℚ-zero, zero-+ℚ}
use Rattle.set_map.specs.Matrices.{IsSquare, Matrix, applied, column, product, transposed, unit, unit_row}

-- ---- numbers by place

abbrev at : List Rational → ℕ → Rational
at v i = slice_index_or v i zero_ℚ

-- the numbers at the places from the first on are the list
shifted : {X : Type 0} (f : ℕ → X) (a n : ℕ)
    → map f (range_with_len (a + 1) n) ≡ map (λ i. f (i + 1)) (range_with_len a n)
shifted f a zero = refl
shifted f a (suc n) = ap (λ xs. f (a + 1) ∷ xs) (shifted f (a + 1) n)

same_at_suc : (q : Rational) (v : List Rational) (i : ℕ) → at (q ∷ v) (i + 1) ≡ at v i
same_at_suc q v i = ap (at (q ∷ v)) (one_lem i)
  where
    one_lem : (i : ℕ) → i + 1 ≡ suc i
    one_lem i = omega arith

pub listed : (v : List Rational) → map (at v) (range_with_len 0 (length v)) ≡ v
listed [] = refl
listed (q ∷ v) =
    ap (λ xs. q ∷ xs)
    (shifted (at (q ∷ v)) 0 (length v) ∙ (λ k. map (λ i. same_at_suc q v i k)
    (range_with_len 0 (length v))) ∙ listed v)

-- ---- the transpose is the adjoint

abbrev HasWidth : ℕ → Matrix → Type 0
HasWidth n m = All (λ row. length row ≡ n) m

-- the columns, weighed, weigh as the rows do
columns_weigh : (n : ℕ) (m : Matrix) (y u : List Rational) → HasWidth n m → length y ≡ length m
    → dot (map (λ i. dot (column m i) y) (range_with_len 0 n)) u ≡ dot y (applied m u)
columns_weigh n [] [] u wide e =
    dot_comm (map (λ i. zero_ℚ) (range_with_len 0 n)) u ∙ dot_map_zero u (range_with_len 0 n)
columns_weigh n [] (q ∷ y) u wide e = absurd (omega (arith, e))
columns_weigh n (row ∷ m) [] u wide e = absurd (omega (arith, e))
columns_weigh n (row ∷ m) (q ∷ y) u wide e =
    dot_comm (map (λ i. at row i *ℚ q +ℚ rest i) places) u
    ∙ dot_map-+ℚ u (λ i. at row i *ℚ q) rest places
    ∙ ap₂ ◌+ℚ◌ first
    (dot_comm u (map rest places)
    ∙ columns_weigh n m y u (All-tail (λ r. length r ≡ n) row m wide) (omega (arith, e)))
  where
    places : List ℕ
    places = range_with_len 0 n

    rest : ℕ → Rational
    rest i = dot (column m i) y

    whole : map (at row) places ≡ row
    whole = ap (λ k. map (at row) (range_with_len 0 k))
        (sym (All-head (λ r. length r ≡ n) row m wide)) ∙ listed row

    first : dot u (map (λ i. at row i *ℚ q) places) ≡ q *ℚ dot row u
    first =
        dot_map_same u (λ i. at row i *ℚ q) (λ i. q *ℚ at row i) places (λ i. *ℚ_comm (at row i) q)
        ∙ dot_map-*ℚ u q (at row) places
        ∙ ap (λ v. q *ℚ v) (ap (dot u) whole ∙ dot_comm u row)

pub transpose_adjoint : (n : ℕ) (m : Matrix) (y u : List Rational) → IsSquare n m → length y ≡ n
    → dot (applied (transposed m) y) u ≡ dot y (applied m u)
transpose_adjoint n m y u s e =
    ap (λ v. dot v u) (map-map (λ c. dot c y) (column m) (range_with_len 0 (length m)))
    ∙ columns_weigh (length m) m y u
    (subst (λ k. HasWidth k m) (sym s.rows) s.numbers) (e ∙ sym s.rows)

pub length-transposed : (m : Matrix) (y : List Rational)
    → length (applied (transposed m) y) ≡ length m
length-transposed m y =
    length-map (transposed m) (λ c. dot c y)
    ∙ length-map-range_with_len (column m) 0 (length m)

-- ---- a product applies one after the other

pub applied-product : (n : ℕ) (a b : Matrix) (u : List Rational) → IsSquare n a → IsSquare n b
    → applied a (applied b u) ≡ applied (product a b) u
applied-product n a b u s t =
    each a s.numbers ∙ sym (map-map (λ row. dot row u) (applied (transposed b)) a)
  where
    each : (rows : Matrix) → HasWidth n rows
        → applied rows (applied b u) ≡ map (λ row. dot (applied (transposed b) row) u) rows
    each [] wide = refl
    each (row ∷ rows) wide =
        ap₂ (λ x xs. x ∷ xs)
        (sym (transpose_adjoint n b row u t (All-head (λ r. length r ≡ n) row rows wide)))
        (each rows (All-tail (λ r. length r ≡ n) row rows wide))

-- ---- the unit matrix changes nothing

zeros_weigh : (n : ℕ) (u : List Rational) → dot (replicate n zero_ℚ) u ≡ zero_ℚ
zeros_weigh zero u = refl
zeros_weigh (suc n) [] = refl
zeros_weigh (suc n) (q ∷ u) =
    ap₂ ◌+ℚ◌ (zero-*ℚ q) (zeros_weigh n u) ∙ +ℚ-zero zero_ℚ

unit_picks : (n i : ℕ) (u : List Rational) → length u ≡ n → dot (unit_row n i) u ≡ at u i
unit_picks zero i [] e = refl
unit_picks zero i (q ∷ u) e = absurd (omega (arith, e))
unit_picks (suc n) i [] e = absurd (omega (arith, e))
unit_picks (suc n) zero (q ∷ u) e =
    ap₂ ◌+ℚ◌ (one-*ℚ q) (zeros_weigh n u) ∙ +ℚ-zero q
unit_picks (suc n) (suc i) (q ∷ u) e =
    ap (λ s. s +ℚ dot (unit_row n i) u) (zero-*ℚ q)
    ∙ zero-+ℚ (dot (unit_row n i) u) ∙ unit_picks n i u (omega (arith, e))

pub applied-unit : (n : ℕ) (u : List Rational) → length u ≡ n → applied (unit n) u ≡ u
applied-unit n u e =
    map-map (λ row. dot row u) (unit_row n) (range_with_len 0 n)
    ∙ (λ k. map (λ i. unit_picks n i u e k) (range_with_len 0 n))
    ∙ ap (λ k. map (at u) (range_with_len 0 k)) (sym e) ∙ listed u

-- ---- lists that weigh alike are equal

pub weigh_alike : (n : ℕ) (v w : List Rational) → length v ≡ n → length w ≡ n
    → ((u : List Rational) → length u ≡ n → dot v u ≡ dot w u) → v ≡ w
weigh_alike zero [] [] e k alike = refl
weigh_alike zero [] (q ∷ w) e k alike = absurd (omega (arith, k))
weigh_alike zero (p ∷ v) w e k alike = absurd (omega (arith, e))
weigh_alike (suc n) [] w e k alike = absurd (omega (arith, e))
weigh_alike (suc n) (p ∷ v) [] e k alike = absurd (omega (arith, k))
weigh_alike (suc n) (p ∷ v) (q ∷ w) e k alike =
    ap₂ (λ x xs. x ∷ xs) heads
    (weigh_alike n v w (omega (arith, e)) (omega (arith, k)) tails)
  where
    heads : p ≡ q
    heads =
        sym (dot_front p one_ℚ v n ∙ *ℚ-one p)
        ∙ alike (one_ℚ ∷ replicate n zero_ℚ) (ap suc (length-replicate n zero_ℚ))
        ∙ (dot_front q one_ℚ w n ∙ *ℚ-one q)

    tails : (u : List Rational) → length u ≡ n → dot v u ≡ dot w u
    tails u d =
        sym (dot_behind p v u) ∙ alike (zero_ℚ ∷ u) (ap suc d) ∙ dot_behind q w u

-- ---- a matrix undoes its inverse, and the transpose of the inverse the transpose

pub undoes : (n : ℕ) (m inverse : Matrix) (u : List Rational) → IsSquare n m → IsSquare n inverse
    → product m inverse ≡ unit n → length u ≡ n → applied m (applied inverse u) ≡ u
undoes n m inverse u s t is e =
    applied-product n m inverse u s t ∙ ap (λ p. applied p u) is ∙ applied-unit n u e

pub undone : (n : ℕ) (m inverse : Matrix) (y : List Rational) → IsSquare n m → IsSquare n inverse
    → product m inverse ≡ unit n → length y ≡ n
    → applied (transposed inverse) (applied (transposed m) y) ≡ y
undone n m inverse y s t is e =
    weigh_alike n (applied (transposed inverse) w) y
    (length-transposed inverse w ∙ t.rows) e
    (λ u d.
    transpose_adjoint n inverse w u t long
    ∙ transpose_adjoint n m y (applied inverse u) s e
    ∙ ap (dot y) (undoes n m inverse u s t is d))
  where
    w : List Rational
    w = applied (transposed m) y

    long : length w ≡ n
    long = length-transposed m y ∙ s.rows

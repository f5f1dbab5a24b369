-- A group's components with their expressions, one after another.
use Rattle.std.specs.Prelude.{◌≡◌, ℕ, zero, suc, ◌+◌, ◌≤◌, List, [], ◌∷◌, ◌++◌, length, map, Some, None, slice_get, refl}
use Rattle.std.proofs.Common.{ap, arith, sym, ◌∙◌, append_assoc, drop}
use Rattle.std.proofs.lemmas.List.{append-nil, drop_all}
use Rattle.std.specs.List.{zip}
use Rattle.aff_core.specs.Address.{Address}
use Rattle.item_core.specs.declared.image.Expression.{Expression}
use Rattle.fresh_bridging.specs.Entries.{Entry, put_into}
use Rattle.map_laws.specs.PlaceLaws.{drop_at}

abbrev pub outer : List Entry → List Address → List Expression → List Entry
outer inner vars exprs =
    map (λ p. record { component = p.0; expression = put_into inner p.1 }) (zip vars exprs)

ends_by : {X : Type 0} (xs : List X) (i : ℕ) → slice_get xs i ≡ None → length xs ≤ i
ends_by [] i e = omega arith
ends_by (x ∷ xs) zero e = cc
ends_by (x ∷ xs) (suc i) e = omega (arith, ends_by xs i e)

module _ (inner : List Entry) (vars : List Address) (exprs : List Expression)
    (before all : List Entry) (i : ℕ) (x : Expression) (rest : List Expression)
    (so_far : before ++ outer inner (drop i vars) (drop i exprs) ≡ all)
    (next : drop i exprs ≡ x ∷ rest) where
  pub with_component : (v : Address) (made : Expression) (after : List Entry)
      → slice_get vars i ≡ Some v → made ≡ put_into inner x
      → after ≡ before ++ record { component = v; expression = made } ∷ []
      → after ++ outer inner (drop (i + 1) vars) rest ≡ all
  with_component v made after at is pushed =
      ap (λ l. l ++ outer inner (drop (i + 1) vars) rest)
      (pushed ∙ ap (λ e. before ++ record { component = v; expression = e } ∷ []) is)
      ∙ append_assoc before (record { component = v; expression = put_into inner x } ∷ [])
      (outer inner (drop (i + 1) vars) rest)
      ∙ sym (ap (λ l. before ++ outer inner l (drop i exprs)) (drop_at i v vars at)
      ∙ ap (λ l. before ++ outer inner (v ∷ drop (i + 1) vars) l) next)
      ∙ so_far

  pub without_component : slice_get vars i ≡ None
      → before ++ outer inner (drop (i + 1) vars) rest ≡ all
  without_component none =
      ap (λ l. before ++ outer inner l rest)
      (drop_all (i + 1) vars (omega (arith, ends_by vars i none)))
      ∙ sym (ap (λ l. before ++ outer inner l (drop i exprs))
      (drop_all i vars (ends_by vars i none)))
      ∙ so_far

pub all_outer : (inner : List Entry) (vars : List Address) (exprs : List Expression) (i : ℕ)
    (made all : List Entry) → made ++ outer inner (drop i vars) (drop i exprs) ≡ all
    → drop i exprs ≡ [] → made ≡ all
all_outer inner vars exprs i made all so_far none =
    sym (append-nil made)
    ∙ sym (ap (λ l. made ++ l) (no_pairs (drop i vars))
    ∙ refl)
    ∙ sym (ap (λ l. made ++ outer inner (drop i vars) l) none) ∙ so_far
  where
    no_pairs : (vs : List Address) → outer inner vs [] ≡ []
    no_pairs [] = refl
    no_pairs (v ∷ vs) = refl

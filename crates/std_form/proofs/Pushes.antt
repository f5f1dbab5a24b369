-- What loops push for each item of a list.
use Rattle.std.specs.Prelude.{◌≡◌, ℕ, ◌+◌, ◌<◌, ◌≤◌, Bool, true, false, cond, List, [], ◌∷◌, ◌++◌, Option, flat_map, length, map, slice_index_or, take, refl}
use Rattle.std.proofs.Common.{sym, ◌∙◌, ap, ap₂}
use Rattle.std.proofs.lemmas.List.{append_assoc, map-id, map_more, take_all}
use Rattle.ratio_core.specs.Rational.{Rational, neg_ℚ}
use Rattle.aff_core.specs.Function.{coefficient, negated}
use Rattle.aff_core.specs.FunctionLaws.{coefficient-negated}
use Rattle.equality_form.specs.Columns.{parts_among, signs}
use Rattle.equality_form.specs.EqualityForm.{numbers_at}
use Rattle.equality_form.specs.Equations.{flipped}
use Rattle.solver_store.specs.SolverFunction.{SolverFunction}
use Rattle.solver_store.specs.declared.leaf.LeafObjective.{LeafObjective}
use Rattle.solver_store.specs.declared.leaf.LeafVar.{LeafVar}
use Rattle.solver_store.specs.declared.leaf.LeafVar.TheVariants.{Free, Nonneg}
use Rattle.std_form.specs.Indexed.{cost_in, is_greatest, objective_in}
use Rattle.std_form.specs.NameLaws.{index_order}

module _ {X Y : Type 0} (f : X → List Y) where
  pub pushed_all : (xs : List X) (i : ℕ) (start old : List Y) → length xs ≤ i
      → old ≡ start ++ flat_map f (take i xs) → old ≡ start ++ flat_map f xs
  pushed_all xs i start old h so_far = so_far ∙ ap (λ ys. start ++ flat_map f ys) (take_all i xs h)

-- ---- numbers at columns

twice : (b c : Bool) (q : Rational) → flipped b (flipped c q) ≡ flipped c (flipped b q)
twice true true q = refl
twice true false q = refl
twice false true q = refl
twice false false q = refl

-- a variable's numbers, negated or not
abbrev pub chunk : Bool → (ℕ → Rational) → ℕ × LeafVar → List Rational
chunk negated g var = map (λ b. flipped b (flipped negated (g var.0))) (signs var.1)

pub chunks : (negated : Bool) (g : ℕ → Rational) (vars : List (ℕ × LeafVar))
    → flat_map (chunk negated g) vars ≡ map (flipped negated) (numbers_at (parts_among vars) g)
chunks negated g [] = refl
chunks negated g ((i, Free) ∷ vars) =
    λ k. twice false negated (g i) k ∷ twice true negated (g i) k ∷ chunks negated g vars k
chunks negated g ((i, Nonneg) ∷ vars) = λ k. twice false negated (g i) k ∷ chunks negated g vars k

-- ---- one for each item

module _ {X Y : Type 0} (f : X → Y) where
  pub mapped_more : (xs : List X) (i : ℕ) (d : X) (start old new : List Y) (y : Y) → i < length xs
      → old ≡ start ++ map f (take i xs) → y ≡ f (slice_index_or xs i d) → new ≡ old ++ y ∷ []
      → new ≡ start ++ map f (take (i + 1) xs)
  mapped_more xs i d start old new y h so_far is pushed =
      pushed ∙ ap₂ (λ ys z. ys ++ z ∷ []) so_far is ∙ append_assoc start (map f (take i xs))
      (f (slice_index_or xs i d) ∷ [])
      ∙ ap (λ ys. start ++ ys) (sym (map_more f xs i d h))

  pub mapped_all : (xs : List X) (i : ℕ) (start old : List Y) → length xs ≤ i
      → old ≡ start ++ map f (take i xs) → old ≡ start ++ map f xs
  mapped_all xs i start old h so_far = so_far ∙ ap (λ ys. start ++ map f ys) (take_all i xs h)

-- ---- costs

negated_numbers : (f : SolverFunction) (parts : List (ℕ × Bool))
    → map neg_ℚ (numbers_at parts (coefficient f)) ≡ numbers_at parts (coefficient (negated f))
negated_numbers f [] = refl
negated_numbers f (part ∷ parts) =
    ap₂ ◌∷◌ (twice true part.1 (coefficient f part.0)
    ∙ ap (flipped part.1) (sym (coefficient-negated index_order f part.0)))
    (negated_numbers f parts)

by_sense : (b : Bool) (f : SolverFunction) (parts : List (ℕ × Bool))
    → map (flipped b) (numbers_at parts (coefficient f))
    ≡ numbers_at parts (coefficient (cond b (negated f) f))
by_sense true f parts = negated_numbers f parts
by_sense false f parts = map-id (numbers_at parts (coefficient f))

pub cost_numbers : (o : Option LeafObjective) (parts : List (ℕ × Bool))
    → map (flipped (is_greatest o)) (numbers_at parts (coefficient (objective_in o)))
    ≡ numbers_at parts (coefficient (cost_in o))
cost_numbers o parts = by_sense (is_greatest o) (objective_in o) parts

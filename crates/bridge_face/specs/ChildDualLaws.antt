-- The adjoint law of an image of known parts: it is asked of one list of numbers for each child.
use Rattle.std.specs.Prelude.{ℕ, zero, suc, List, [], ◌∷◌, length, ◌≡◌}
use Rattle.std.proofs.Common.{arith}
use Rattle.ratio_core.specs.Rational.{Rational}
use Rattle.item_core.specs.declared.edge.Edge.{Edge}
use Rattle.item_core.specs.declared.item.Item.{Item}
use Rattle.item_core.specs.declared.image.Image.{Image}
use Rattle.bridge_face.specs.Law.{Balances, CarriesDuals, ChildDuals, IsCovered, listed}

-- what is said of lists with n elements, element by element
abbrev pub OfCount : {A : Type 0} → ℕ → (List A → Type 0) → Type 0
OfCount zero P = P []
OfCount {A} (suc n) P = (y : A) → OfCount n (λ ys. P (y ∷ ys))

-- is true of each list of that length
pub of_count : {A : Type 0} (n : ℕ) (P : List A → Type 0) → OfCount n P → (ys : List A)
    → length ys ≡ n → P ys
of_count zero P h [] e = h
of_count zero P h (y ∷ ys) e = absurd (omega (arith, e))
of_count (suc n) P h [] e = absurd (omega (arith, e))
of_count (suc n) P h (y ∷ ys) e = of_count n (λ ys. P (y ∷ ys)) (h y) ys (omega (arith, e))

module _ (edge : Edge) (item : Item) (image : Image) where
  -- duals of the groups, of the rows and of the objective, from which the item is covered
  abbrev Covers : Rational → List Rational → ChildDuals → Type 0
  Covers bound w duals =
      Balances bound edge item image duals w → IsCovered bound item image duals w

  abbrev OfObjective : (ChildDuals → Type 0) → List (List Rational) → List (List Rational) → Type 0
  OfObjective P gs ys =
      OfCount (length (listed image.objective))
      (λ os. P (record { groups = gs; rows = ys; objective = os }))

  abbrev OfRows : (ChildDuals → Type 0) → List (List Rational) → Type 0
  OfRows P gs = OfCount (length image.rows) (OfObjective P gs)

  -- where the numbers of children are known, this asks for one list for each
  pub carries_duals :
      ((bound : Rational) (w : List Rational)
      → OfCount (length image.groups) (OfRows (Covers bound w)))
      → CarriesDuals edge item image
  carries_duals h bound duals w b =
      let P = Covers bound w in
      let of_groups = of_count (length image.groups) (OfRows P) (h bound w) duals.groups
      b.each.groups in
      let of_rows = of_count (length image.rows) (OfObjective P duals.groups) of_groups duals.rows
      b.each.rows in
      of_count (length (listed image.objective))
      (λ os. P (record { groups = duals.groups; rows = duals.rows; objective = os })) of_rows
      duals.objective b.each.objective b

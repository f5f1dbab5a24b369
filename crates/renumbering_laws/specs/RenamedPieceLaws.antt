-- What images are made of, under other addresses in the same order.
use Rattle.std.specs.Prelude.{◌≡◌, ℕ, ◌+◌, Bool, true, false, cond, List, [], ◌∷◌, None, fold, map, refl}
use Rattle.std.proofs.Common.{ap, ap₂, sym, ◌∙◌}
use Rattle.std.specs.List.{range_with_len}
use Rattle.ratio_core.specs.Rational.{Rational, zero_ℚ, ◌+ℚ◌}
use Rattle.set_core.specs.Shapes.{is_scalar}
use Rattle.set_core.specs.declared.set.Set.{Set}
use Rattle.aff_core.specs.Address.{Address, child_of}
use Rattle.aff_core.specs.Arithmetic.{sum_of}
use Rattle.aff_core.specs.Function.{Function, negated, variable}
use Rattle.aff_core.specs.KeyOrder.{address_order}
use Rattle.bridge_face.specs.ImageOf.{bridged, differences, free_at, group_at, inner, inner_functions, sense_of, sums}
use Rattle.bridge_face.specs.Images.{affine, child_at, children_from, components, difference, each_component, first_in, function_of_body, plain, raised, rest_of, row_at, rows_at, with_set}
use Rattle.item_core.specs.declared.image.Expression.TheVariants.{Kept, Bridged}
use Rattle.item_core.specs.declared.item.Body.{Body}
use Rattle.item_core.specs.declared.item.Body.TheVariants.{Group, Free, Plain, Affine, PlainVec, AffineVec, PlainObj}
use Rattle.item_core.specs.declared.item.Item.{Item}
use Rattle.item_core.specs.Item.{functions_of}
use Rattle.renumbering_laws.specs.RenamedFunctions.{constant-renamed, constant_function-renamed, is_renamed, negated-renamed, sum-renamed, terms-renamed}
use Rattle.renumbering_laws.specs.RenamedItems.{IsRenaming, functions-renamed, map_either, renamed, renamed_body, renamed_expression, renamed_image, renamed_item, variables_listed}

module _ (σ : Address → Address) where
  pub rest-renamed : (fs : List Function)
      → rest_of (map (renamed σ) fs) ≡ map (renamed σ) (rest_of fs)
  rest-renamed [] = refl
  rest-renamed (f ∷ fs) = refl

  pub with_set-renamed : (b : Body) (set : Set)
      → with_set (renamed_body σ b) set ≡ renamed_body σ (with_set b set)
  with_set-renamed (Plain var s) set = refl
  with_set-renamed _ set = refl

  pub plain-renamed : (vars : List Address) (set : Set)
      → plain (map σ vars) set ≡ renamed_body σ (plain vars set)
  plain-renamed [] set = refl
  plain-renamed (v ∷ vs) set = by (is_scalar set)
    where
      by : (b : Bool) → cond b (Plain (σ v) set) (PlainVec (σ v ∷ map σ vs) set)
          ≡ renamed_body σ (cond b (Plain v set) (PlainVec (v ∷ vs) set))
      by true = refl
      by false = refl

  pub each_component-renamed : (b : Body) (set : Set)
      → each_component (renamed_body σ b) set ≡ map (renamed_body σ) (each_component b set)
  each_component-renamed (PlainVec vars s) set =
      map_either σ (λ v. Plain v set) (λ v. Plain v set) (renamed_body σ) (λ v. refl) vars
  each_component-renamed (AffineVec funcs s) set =
      map_either (renamed σ) (λ f. Affine f set) (λ f. Affine f set) (renamed_body σ)
      (λ f. refl) funcs
  each_component-renamed _ set = refl

  pub sense-renamed : (b : Body) → sense_of (renamed_body σ b) ≡ sense_of b
  sense-renamed (PlainObj sense var) = refl
  sense-renamed _ = refl

  pub bridged-renamed : (fs : List Function)
      → bridged (map (renamed σ) fs) ≡ map (renamed_expression σ) (bridged fs)
  bridged-renamed fs = map_either (renamed σ) Bridged Bridged (renamed_expression σ) (λ f. refl) fs

  pub kept-renamed : (vars : List Address)
      → map Kept (map σ vars) ≡ map (renamed_expression σ) (map Kept vars)
  kept-renamed vars = map_either σ Kept Kept (renamed_expression σ) (λ v. refl) vars

module _ (σ : Address → Address) (r : IsRenaming σ) where
  -- ---- functions

  pub first-renamed : (fs : List Function) → first_in (map (renamed σ) fs) ≡ renamed σ (first_in fs)
  first-renamed [] = constant_function-renamed σ r.order zero_ℚ
  first-renamed (f ∷ fs) = refl

  pub function-renamed : (b : Body)
      → function_of_body (renamed_body σ b) ≡ renamed σ (function_of_body b)
  function-renamed b = ap first_in (functions-renamed σ r b) ∙ first-renamed (functions_of b)

  pub raised-renamed : (f : Function) (q : Rational)
      → raised (renamed σ f) q ≡ renamed σ (raised f q)
  raised-renamed f q =
      is_renamed σ r.order (raised f q) (raised (renamed σ f) q) (terms-renamed σ r.order f)
      (ap (λ c. c +ℚ q) (constant-renamed σ r.order f))

  pub difference-renamed : (f g : Function)
      → difference (renamed σ f) (renamed σ g) ≡ renamed σ (difference f g)
  difference-renamed f g =
      ap (sum_of (renamed σ f)) (negated-renamed σ r.order g)
      ∙ sum-renamed address_order σ r.order f (negated g)

  pub differences-renamed : (fs gs : List Function)
      → differences (map (renamed σ) fs) (map (renamed σ) gs) ≡ map (renamed σ) (differences fs gs)
  differences-renamed [] gs = refl
  differences-renamed (f ∷ fs) [] = refl
  differences-renamed (f ∷ fs) (g ∷ gs) =
      ap₂ (λ h hs. h ∷ hs) (difference-renamed f g) (differences-renamed fs gs)

  pub sums-renamed : (fs gs : List Function)
      → sums (map (renamed σ) fs) (map (renamed σ) gs) ≡ map (renamed σ) (sums fs gs)
  sums-renamed [] gs = refl
  sums-renamed (f ∷ fs) [] = refl
  sums-renamed (f ∷ fs) (g ∷ gs) =
      ap₂ (λ h hs. h ∷ hs) (sum-renamed address_order σ r.order f g) (sums-renamed fs gs)

  pub less-renamed : (t : Function) (ss : List Function)
      → fold difference (renamed σ t) (map (renamed σ) ss) ≡ renamed σ (fold difference t ss)
  less-renamed t [] = refl
  less-renamed t (s ∷ ss) =
      ap (λ u. fold difference u (map (renamed σ) ss)) (difference-renamed t s)
      ∙ less-renamed (difference t s) ss

  pub negations-renamed : (fs : List Function)
      → map negated (map (renamed σ) fs) ≡ map (renamed σ) (map negated fs)
  negations-renamed fs =
      map_either (renamed σ) negated negated (renamed σ) (negated-renamed σ r.order) fs

  -- ---- bodies and children

  pub affine-renamed : (fs : List Function) (set : Set)
      → affine (map (renamed σ) fs) set ≡ renamed_body σ (affine fs set)
  affine-renamed fs set = by (is_scalar set)
    where
      by : (b : Bool)
          → cond b (Affine (first_in (map (renamed σ) fs)) set) (AffineVec (map (renamed σ) fs) set)
          ≡ renamed_body σ (cond b (Affine (first_in fs) set) (AffineVec fs set))
      by true = ap (λ f. Affine f set) (first-renamed fs)
      by false = refl

  pub child-renamed : (item : Item) (n : ℕ) (b : Body)
      → child_at (renamed_item σ item) n (renamed_body σ b) ≡ renamed_item σ (child_at item n b)
  child-renamed item n b =
      ap (λ at. record { at = at; body = renamed_body σ b }) (sym (r.child item.at n))

  children-renamed : (item : Item) (first : ℕ) (bs : List Body)
      → children_from (renamed_item σ item) first (map (renamed_body σ) bs)
      ≡ map (renamed_item σ) (children_from item first bs)
  children-renamed item first [] = refl
  children-renamed item first (b ∷ bs) =
      ap₂ (λ c cs. c ∷ cs) (child-renamed item first b) (children-renamed item (first + 1) bs)

  pub rows-renamed : (item : Item) (bs : List Body)
      → rows_at (renamed_item σ item) (map (renamed_body σ) bs) ≡ renamed_image σ (rows_at item bs)
  rows-renamed item bs =
      ap (λ rows. record { groups = []; exprs = []; rows = rows; objective = None })
      (children-renamed item 0 bs)

  pub row-renamed : (item : Item) (b : Body)
      → row_at (renamed_item σ item) (renamed_body σ b) ≡ renamed_image σ (row_at item b)
  row-renamed item b =
      ap (λ row. record { groups = []; exprs = []; rows = row ∷ []; objective = None })
      (child-renamed item 0 b)

  -- ---- the child group

  components-renamed : (at : Address) (ns : List ℕ)
      → map (child_of (σ at)) ns ≡ map σ (map (child_of at) ns)
  components-renamed at [] = refl
  components-renamed at (n ∷ ns) =
      ap₂ (λ v vs. v ∷ vs) (sym (r.child at n)) (components-renamed at ns)

  pub inner-renamed : (item : Item) (n : ℕ) → inner (renamed_item σ item) n ≡ map σ (inner item n)
  inner-renamed item n =
      ap (λ at. components at n) (sym (r.child item.at 0))
      ∙ components-renamed (child_of item.at 0) (range_with_len 0 n)

  pub inner_functions-renamed : (item : Item) (n : ℕ)
      → inner_functions (renamed_item σ item) n ≡ map (renamed σ) (inner_functions item n)
  inner_functions-renamed item n =
      ap (map variable) (inner-renamed item n) ∙ variables_listed σ r (inner item n)

  pub group_at-renamed : (item : Item) (set : Set) (n : ℕ)
      → group_at (renamed_item σ item) set n ≡ renamed_item σ (group_at item set n)
  group_at-renamed item set n =
      ap (λ vars. child_at (renamed_item σ item) 0 (Group set vars)) (inner-renamed item n)
      ∙ child-renamed item 0 (Group set (inner item n))

  pub free_at-renamed : (item : Item) (n : ℕ)
      → free_at (renamed_item σ item) n ≡ renamed_item σ (free_at item n)
  free_at-renamed item n =
      ap (λ vars. child_at (renamed_item σ item) 0 (Free vars)) (inner-renamed item n)
      ∙ child-renamed item 0 (Free (inner item n))

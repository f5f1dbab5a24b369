-- Items under other addresses in the same order: their functions are renamed, their sets and kinds
-- stay.
use Rattle.std.specs.Prelude.{◌≡◌, ℕ, List, [], ◌∷◌, length, map, refl}
use Rattle.std.proofs.Common.{ap, sym, ◌∙◌}
use Rattle.std.proofs.lemmas.List.{length-map}
use Rattle.std.specs.Option.{option_map}
use mathlib.Core.List.{map-map}
use Rattle.set_core.specs.declared.set.Set.TheVariants.{Reals}
use Rattle.aff_core.specs.Address.{Address, address_cmp, child_of}
use Rattle.aff_core.specs.Function.{Function, variable}
use Rattle.aff_core.specs.declared.sense.Sense.TheVariants.{Min}
use Rattle.item_core.specs.declared.image.Expression.{Expression}
use Rattle.item_core.specs.declared.image.Expression.TheVariants.{Kept, Bridged}
use Rattle.item_core.specs.declared.image.Image.{Image}
use Rattle.item_core.specs.declared.item.Body.{Body}
use Rattle.item_core.specs.declared.item.Body.TheVariants.{Group, Free, Plain, Affine, PlainVec, AffineVec, PlainObj, AffineObj}
use Rattle.item_core.specs.declared.item.Item.{Item}
use Rattle.item_core.specs.Item.{functions_of, is_group, set_of, variables_of}
use Rattle.item_core.specs.KindOf.{kind_of_body}
use Rattle.renumbering_laws.specs.RenamedFunctions.{renamed_function, variable-renamed}
use Rattle.renumbering_laws.specs.RenamedMaps.{KeepsOrder}

-- the addresses keep their order, and a child stays a child
pub record IsRenaming (σ : Address → Address) : Type 0 where
  pub order : KeepsOrder address_cmp σ
  pub child : (at : Address) (position : ℕ)
      → σ (child_of at position) ≡ child_of (σ at) position

module _ (σ : Address → Address) where
  abbrev pub renamed : Function → Function
  renamed f = renamed_function σ f

  abbrev pub renamed_body : Body → Body
  renamed_body (Group set vars) = Group set (map σ vars)
  renamed_body (Free vars) = Free (map σ vars)
  renamed_body (Plain var set) = Plain (σ var) set
  renamed_body (Affine func set) = Affine (renamed func) set
  renamed_body (PlainVec vars set) = PlainVec (map σ vars) set
  renamed_body (AffineVec funcs set) = AffineVec (map renamed funcs) set
  renamed_body (PlainObj sense var) = PlainObj sense (σ var)
  renamed_body (AffineObj sense func) = AffineObj sense (renamed func)

  abbrev pub renamed_item : Item → Item
  renamed_item item = record { at = σ item.at; body = renamed_body item.body }

  abbrev pub renamed_expression : Expression → Expression
  renamed_expression (Kept var) = Kept (σ var)
  renamed_expression (Bridged func) = Bridged (renamed func)

  abbrev pub renamed_image : Image → Image
  renamed_image image = record {
    groups = map renamed_item image.groups;
    exprs = map renamed_expression image.exprs;
    rows = map renamed_item image.rows;
    objective = option_map renamed_item image.objective;
  }

-- two maps of a list in either order
pub map_either : {A B C D : Type 0} (f : A → B) (g : B → D) (h : A → C) (k : C → D)
    → ((x : A) → g (f x) ≡ k (h x)) → (xs : List A) → map g (map f xs) ≡ map k (map h xs)
map_either f g h k same xs =
    map-map g f xs ∙ (λ i. map (λ x. same x i) xs) ∙ sym (map-map k h xs)

module _ (σ : Address → Address) (r : IsRenaming σ) where
  pub variables_listed : (vars : List Address)
      → map (variable {R = address_cmp}) (map σ vars) ≡ map (renamed σ) (map variable vars)
  variables_listed vars =
      map_either σ variable variable (renamed σ) (variable-renamed σ r.order) vars

  pub functions-renamed : (b : Body)
      → functions_of (renamed_body σ b) ≡ map (renamed σ) (functions_of b)
  functions-renamed (Group set vars) = variables_listed vars
  functions-renamed (Free vars) = variables_listed vars
  functions-renamed (Plain var set) = ap (λ f. f ∷ []) (variable-renamed σ r.order var)
  functions-renamed (PlainVec vars set) = variables_listed vars
  functions-renamed (PlainObj sense var) = ap (λ f. f ∷ []) (variable-renamed σ r.order var)
  functions-renamed _ = refl

  pub size-renamed : (b : Body)
      → length (functions_of (renamed_body σ b)) ≡ length (functions_of b)
  size-renamed b = ap length (functions-renamed b) ∙ length-map (functions_of b) (renamed σ)

module _ (σ : Address → Address) where
  pub variables-renamed : (b : Body) → variables_of (renamed_body σ b) ≡ map σ (variables_of b)
  variables-renamed (Group set vars) = refl
  variables-renamed _ = refl

  pub set-renamed : (b : Body) → set_of (renamed_body σ b) ≡ set_of b
  set-renamed (Free vars) = ap Reals (length-map vars σ)
  set-renamed _ = refl

  pub is_group-renamed : (b : Body) → is_group (renamed_body σ b) ≡ is_group b
  is_group-renamed (Group set vars) = refl
  is_group-renamed _ = refl

  pub kind-renamed : (b : Body) → kind_of_body (renamed_body σ b) ≡ kind_of_body b
  unfolding kind_of_body
  kind-renamed (PlainObj Min var) = refl
  kind-renamed (AffineObj Min func) = refl
  kind-renamed _ = refl

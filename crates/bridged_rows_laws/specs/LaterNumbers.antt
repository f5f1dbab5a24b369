-- A row under a later number is bridged where it is under its own: all that changes are the
-- addresses of what stands below it, and these keep their order.
use Rattle.std.specs.Prelude.{◌≡◌, ◌+◌, ℕ, List, [], ◌∷◌, All, map, refl}
use Rattle.std.proofs.Common.{ap, ap₂, arith, subst, sym, ◌∙◌}
use Rattle.std.proofs.lemmas.List.Elements.{All-head, All-tail}
use mathlib.Core.List.{map-map}
use Rattle.aff_core.specs.Address.{Address, root_address}
use Rattle.aff_core.specs.Function.{Function, terms_of}
use Rattle.aff_core.specs.declared.root.Root.TheVariants as root
use Rattle.bridged_rows_laws.specs.EachAlone.{MadeIn}
use Rattle.bridge_graph.specs.declared.Choice.{Choice}
use Rattle.expansion.specs.Bridged.{EachBridged}
use Rattle.expansion.specs.GrownLaws.{held_each_once}
use Rattle.expansion.specs.Rules.{Rules}
use Rattle.fresh_bridging.specs.Entries.{Entry}
use Rattle.fresh_bridging.specs.ModelImage.{group_item, row_body, row_item}
use Rattle.fresh_bridging.specs.TheRules.{rules_by}
use Rattle.item_core.specs.declared.item.Body.TheVariants as body
use Rattle.item_core.specs.declared.item.Item.{Item}
use Rattle.ratio_core.specs.Rational.{Rational}
use Rattle.renumbering_laws.specs.RenamedEntries.{renamed_entry}
use Rattle.renumbering_laws.specs.RenamedFunctions.{is_renamed}
use Rattle.renumbering_laws.specs.RenamedItems.{renamed, renamed_body, renamed_item}
use Rattle.renumbering_laws.specs.RenamedRuleLaws.{rules-renamed}
use Rattle.renumbering_laws.specs.RenamedTrees.{IsRewriting, each_entries_alike, each_moved, in_fits_alike, in_moved}
use Rattle.renumbering_laws.specs.RenumberedModel.{IsRising, Renumbering, renumbered, renumbers}
use Rattle.set_core.specs.declared.set.Set.{Set}
use Rattle.user_model.specs.Model.{variable_address}
use Rattle.user_model.specs.declared.function.UserFunc.{UserFunc}
use Rattle.user_model.specs.declared.function.UserFunc.TheVariants.{Affine, AffineVec, Plain, PlainVec}
use Rattle.user_model.specs.declared.group.Group.{Group}
use Rattle.user_model.specs.declared.group.GroupVar.{GroupVar}
use Rattle.user_model.specs.declared.row.Row.{Row}

-- items that a function leaves
kept_all : {X : Type 0} (f : X → X) (P : X → Type 0) → ((x : X) → P x → f x ≡ x) → (xs : List X)
    → All P xs → map f xs ≡ xs
kept_all f P same [] h = refl
kept_all f P same (x ∷ xs) h =
    ap₂ (λ y ys. y ∷ ys) (same x (All-head P x xs h)) (kept_all f P same xs (All-tail P x xs h))

-- ---- functions of variables

abbrev pub IsVariableAddress : Address → Type 0
IsVariableAddress at = (n : ℕ) × (variable_address n ≡ at)

abbrev pub IsTerm : Address × Rational → Type 0
IsTerm t = IsVariableAddress t.0

abbrev pub HasVariableTerms : Function → Type 0
HasVariableTerms f = All IsTerm (terms_of f)

-- each component and each term is of a variable
abbrev pub IsOfVariables : UserFunc → Type 0
IsOfVariables (Plain var) = IsVariableAddress var
IsOfVariables (Affine f) = HasVariableTerms f
IsOfVariables (PlainVec vars) = All IsVariableAddress vars
IsOfVariables (AffineVec fs) = All {X = Function} HasVariableTerms fs

-- ---- later numbers

-- so much is added to each row's number
abbrev pub later : ℕ → Renumbering
later k = record { variable = λ n. n; group = λ n. n; row = λ n. n + k }

later_rises : (k : ℕ) → IsRising (later k)
later_rises k =
    record { variable = λ m n h. h; group = λ m n h. h; row = λ m n h. omega (arith, h) }

abbrev pub later_row : ℕ → Row → Row
later_row k r = record r { id = r.id + k }

module _ (k : ℕ) where
  abbrev σ : Address → Address
  σ = renumbered (later k)

  -- ---- groups stay

  addresses_stay : (vars : List GroupVar)
      → map σ (map (λ v. variable_address v.number) vars)
      ≡ map (λ v. variable_address v.number) vars
  addresses_stay vars = map-map σ (λ v. variable_address v.number) vars

  groups_stay : (gs : List Group) → map (renamed_item σ) (map group_item gs) ≡ map group_item gs
  groups_stay [] = refl
  groups_stay (g ∷ gs) =
      ap₂ (λ vars items. record {
        at = root_address root.Group g.id;
        body = body.Group g.set vars;
      } ∷ items) (addresses_stay g.vars) (groups_stay gs)

  -- ---- functions stay

  address_stays : (at : Address) → IsVariableAddress at → σ at ≡ at
  address_stays at h = subst (λ a. σ a ≡ a) h.1 refl

  affine_stays : (f : Function) → HasVariableTerms f → renamed σ f ≡ f
  affine_stays f h =
      sym (is_renamed σ (renumbers (later k) (later_rises k)).order f f
      (sym (kept_all (λ t. (σ t.0, t.1)) IsTerm
      (λ t there. ap (λ a. (a, t.1)) (address_stays t.0 there)) (terms_of f) h)) refl)

  body_stays : (func : UserFunc) (set : Set) → IsOfVariables func
      → renamed_body σ (row_body func set) ≡ row_body func set
  body_stays (Plain var) set h = ap (λ v. body.Plain v set) (address_stays var h)
  body_stays (Affine f) set h = ap (λ g. body.Affine g set) (affine_stays f h)
  body_stays (PlainVec vars) set h =
      ap (λ vs. body.PlainVec vs set) (kept_all σ IsVariableAddress address_stays vars h)
  body_stays (AffineVec fs) set h =
      ap (λ gs. body.AffineVec gs set) (kept_all (renamed σ) HasVariableTerms affine_stays fs h)

  row_moves : (r : Row) → IsOfVariables r.func
      → renamed_item σ (row_item r) ≡ row_item (later_row k r)
  row_moves r h =
      ap (λ b. record { at = root_address root.Row (r.id + k); body = b })
      (body_stays r.func r.set h)

  -- ---- expressions stay

  module _ (choice : ℕ → Choice) where
    abbrev rules : Rules Item Entry
    rules = rules_by choice

    abbrev law : IsRewriting rules (renamed_item σ) (renamed_entry σ)
    law = rules-renamed σ (renumbers (later k) (later_rises k)) choice

    module _ (gs : List Group) (entries : List Entry)
        (trees : EachBridged rules (map group_item gs) entries) where
      entries_stay : map (renamed_entry σ) entries ≡ entries
      entries_stay =
          let moved = each_moved rules (renamed_item σ) (renamed_entry σ) law trees in
          sym (each_entries_alike rules (renamed_item σ) (renamed_entry σ) law moved.2)
          ∙ ap (λ h. h.entries)
          (held_each_once (subst (λ items. EachBridged rules items moved.0) (groups_stay gs) moved.1)
          trees)

      -- ---- so a row is bridged under the later number

      pub made_later : (r : Row) → IsOfVariables r.func
          → MadeIn rules entries (row_item r ∷ [])
          → MadeIn rules entries (row_item (later_row k r) ∷ [])
      made_later r placed m =
          let moved = in_moved rules (renamed_item σ) (renamed_entry σ) law m.trees entries
          (sym entries_stay) in
          subst (λ item. MadeIn rules entries (item ∷ [])) (row_moves r placed) record {
            trees = moved.0;
            made = in_fits_alike rules (renamed_item σ) (renamed_entry σ) law moved.1 ∙ m.made;
          }

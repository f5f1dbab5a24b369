-- The kinds of rows and of the objective depend on plain functions' variables alone.
use Rattle.std.specs.Prelude.{◌≡◌, ℕ, Bool, ◌&&◌, ◌++◌, cond, List, [], ◌∷◌, All, Option, Some, None, map, refl}
use Rattle.std.proofs.Common.{ap, ap₂, sym, ◌∙◌}
use Rattle.std.specs.List.{list_all, list_any}
use Rattle.std.specs.Option.{option_map_or}
use Rattle.std.proofs.lemmas.List.Elements.{All-head, All-tail}
use Rattle.std.proofs.lemmas.List.{map-append}
use Rattle.aff_core.specs.Address.{Address, address_eq}
use Rattle.bridge_graph.specs.declared.Choice.{Choice}
use Rattle.bridge_plan.specs.KeptGroups.{keeps}
use Rattle.fresh_bridging.specs.ModelImage.{objective_items, row_item}
use Rattle.item_core.specs.declared.item.Item.{Item}
use Rattle.item_core.specs.Item.{variables_of}
use Rattle.item_core.specs.KindOf.{affine_kind_of, kind_of_body, plain_kind_of}
use Rattle.map_laws.specs.EachLaws.{all_first, all_second}
use Rattle.model_bridging.specs.Found.{found_others, kept_over}
use Rattle.model_bridging.specs.Kinds.{kind_by, objective_kind_by}
use Rattle.user_model.specs.declared.function.UserFunc.{UserFunc}
use Rattle.user_model.specs.declared.function.UserFunc.TheVariants.{Plain, Affine, PlainVec, AffineVec}
use Rattle.user_model.specs.declared.objective.Objective.{Objective}
use Rattle.user_model.specs.declared.objective.Objective.TheVariants as objective
use Rattle.user_model.specs.declared.row.Row.{Row}
use Rattle.found_plan.specs.Marked.{plain_in, plain_in_objective, plain_in_row}

module _ (k l : Address → Bool) where
  abbrev pub AgreeAtAddresses : List Address → Type 0
  AgreeAtAddresses vs = All (λ v. k v ≡ l v) vs

  all_alike : (vs : List Address) → AgreeAtAddresses vs → list_all k vs ≡ list_all l vs
  all_alike [] h = refl
  all_alike (v ∷ vs) h =
      ap₂ ◌&&◌ (All-head (λ v. k v ≡ l v) v vs h)
      (all_alike vs (All-tail (λ v. k v ≡ l v) v vs h))

  row_alike : (r : Row) → AgreeAtAddresses (plain_in_row r.func)
      → kind_by k (row_item r).body ≡ kind_by l (row_item r).body
  row_alike r = by r.func
    where
      by : (f : UserFunc) → AgreeAtAddresses (plain_in_row f)
          → kind_by k (row_item (record r { func = f })).body
          ≡ kind_by l (row_item (record r { func = f })).body
      by (Plain var) h =
          ap (λ b. cond b (plain_kind_of r.set) (affine_kind_of r.set))
          (All-head (λ v. k v ≡ l v) var [] h)
      by (Affine f) h = refl
      by (PlainVec vars) h =
          ap (λ b. cond b (plain_kind_of r.set) (affine_kind_of r.set)) (all_alike vars h)
      by (AffineVec fs) h = refl

  rows_alike : (rows : List Row) → AgreeAtAddresses (plain_in rows)
      → map (λ i. kind_by k i.body) (map row_item rows)
      ≡ map (λ i. kind_by l i.body) (map row_item rows)
  rows_alike [] h = refl
  rows_alike (r ∷ rows) h =
      ap₂ (λ x xs. x ∷ xs)
      (row_alike r (all_first (λ v. k v ≡ l v) (plain_in_row r.func) (plain_in rows) h))
      (rows_alike rows (all_second (λ v. k v ≡ l v) (plain_in_row r.func) (plain_in rows) h))

  objective_alike : (o : Objective) → AgreeAtAddresses (plain_in_objective o)
      → map (λ i. kind_by k i.body) (objective_items o)
      ≡ map (λ i. kind_by l i.body) (objective_items o)
  objective_alike objective.Feasibility h = refl
  objective_alike (objective.Plain sense var) h =
      ap (λ b. objective_kind_by sense b ∷ []) (All-head (λ v. k v ≡ l v) var [] h)
  objective_alike (objective.Affine sense f) h = refl

  pub others_alike : (rows : List Row) (o : Option Objective) → AgreeAtAddresses (plain_in rows)
      → AgreeAtAddresses (option_map_or plain_in_objective o [])
      → map (λ i. kind_by k i.body) (found_others rows o)
      ≡ map (λ i. kind_by l i.body) (found_others rows o)
  others_alike rows o h g =
      map-append (λ i. kind_by k i.body) (map row_item rows) (option_map_or objective_items o [])
      ∙ ap₂ ◌++◌ (rows_alike rows h) (of_some o g)
      ∙ sym (map-append (λ i. kind_by l i.body) (map row_item rows)
      (option_map_or objective_items o []))
    where
      of_some : (o : Option Objective) → AgreeAtAddresses (option_map_or plain_in_objective o [])
          → map (λ i. kind_by k i.body) (option_map_or objective_items o [])
          ≡ map (λ i. kind_by l i.body) (option_map_or objective_items o [])
      of_some None g = refl
      of_some (Some x) g = objective_alike x g

-- ---- what groups tell

pub over_alike : (choice : ℕ → Choice) (k l : Address → Bool) (groups : List Item) (v : Address)
    → k v ≡ l v → kept_over choice k groups v ≡ kept_over choice l groups v
unfolding kept_over
over_alike choice k l [] v e = e
over_alike choice k l (g ∷ gs) v e =
    ap (cond (list_any (λ u. address_eq u v) (variables_of g.body))
    (keeps choice (kind_of_body g.body))) (over_alike choice k l gs v e)

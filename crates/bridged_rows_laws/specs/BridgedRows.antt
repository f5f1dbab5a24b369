-- A bridged model without an objective is bridged without its first row too, and with that row
-- again, last and under a later number. A model that is bridged is refused for no kind and for no
-- number.
use Rattle.std.specs.Prelude.{◌≡◌, ◌≤◌, ◌+◌, ◌-◌, ℕ, true, List, [], ◌∷◌, ◌++◌, Some, None, map}
use Rattle.std.specs.Option.{option_map, option_or}
use Rattle.std.proofs.Common.{ap, ap₂, append-nil, arith, subst, sym, ◌∙◌}
use Rattle.std.proofs.lemmas.Bool.{and_from}
use Rattle.fresh_bridging.specs.TableLaws.{and_first, and_second}
use Rattle.std.proofs.lemmas.List.{map-append}
use Rattle.std.proofs.lemmas.Option.{none-some}
use Rattle.aff_core.specs.Address.{Address}
use Rattle.bridge_graph.specs.Hypergraph.{IsCostly}
use Rattle.bridge_graph.specs.declared.Choice.{Choice}
use Rattle.bridged_rows_laws.specs.EachAlone.{MadeIn, made_first, made_joined, made_others, none_unfit, none_unfit_in}
use Rattle.bridged_rows_laws.specs.LaterNumbers.{IsOfVariables, later_row, made_later}
use Rattle.expansion.specs.Bridged.{EachBridged}
use Rattle.expansion.specs.Read.{fits_each, fits_in}
use Rattle.fresh_bridging.specs.CanLaws.{AreLawful}
use Rattle.fresh_bridging.specs.EitherLaws.{never_both}
use Rattle.fresh_bridging.specs.Entries.{Entry}
use Rattle.fresh_bridging.specs.FreshBridging.{FreshBridging, IsUnsupported, is_made, unfit_at}
use Rattle.fresh_bridging.specs.ModelImage.{group_item, objective_items, row_item}
use Rattle.fresh_bridging.specs.OnceLaws.{one_bridging}
use Rattle.fresh_bridging.specs.TheRules.{AreChoices, Setting, graph_of, rules_by}
use Rattle.item_core.specs.declared.kind.Kind.{Kind}
use Rattle.user_model.specs.Model.{ModelValue}
use Rattle.user_model.specs.Valid.{IsValid}
use Rattle.user_model.specs.declared.group.Group.{Group}
use Rattle.user_model.specs.declared.objective.Objective.TheVariants as objective
use Rattle.user_model.specs.declared.row.Row.{Row}

-- the model has a fresh bridging, in which every number fits
pub record HasFittingBridging (setting : Setting) (model : ModelValue) : Type 0 where
  pub bridging : FreshBridging setting model
  pub made : is_made bridging ≡ true

-- ---- groups with rows

-- groups and rows that are bridged, with no objective beside them
record BridgedWith (setting : Setting) (groups : List Group) (rows : List Row) : Type 0 where
  choice : ℕ → Choice
  chosen : AreChoices setting choice
  entries : List Entry
  trees : EachBridged (rules_by choice) (map group_item groups) entries
  made : fits_each trees ≡ true
  others : MadeIn (rules_by choice) entries (map row_item rows)

module _ (setting : Setting) (model : ModelValue)
    (bare : model.objective ≡ objective.Feasibility) where
  parts_of : HasFittingBridging setting model → BridgedWith setting model.groups model.rows
  parts_of b =
      let made = b.bridging.made in
      let rules = rules_by b.bridging.choice in
      let all : MadeIn rules made.entries
      (map row_item model.rows ++ objective_items model.objective) = record {
        trees = made.others;
        made = and_second (fits_each made.groups) (fits_in made.others) b.made;
      } in
      record {
        choice = b.bridging.choice;
        chosen = b.bridging.chosen;
        entries = made.entries;
        trees = made.groups;
        made = and_first (fits_each made.groups) (fits_in made.others) b.made;
        others = subst (MadeIn rules made.entries) (append-nil (map row_item model.rows))
            (subst (λ o. MadeIn rules made.entries (map row_item model.rows ++ objective_items o))
            bare all);
      }

  bridged_of : BridgedWith setting model.groups model.rows → HasFittingBridging setting model
  bridged_of p =
      let rules = rules_by p.choice in
      let all : MadeIn rules p.entries
      (map row_item model.rows ++ objective_items model.objective) =
      subst (λ o. MadeIn rules p.entries (map row_item model.rows ++ objective_items o)) (sym bare)
      (subst (MadeIn rules p.entries) (sym (append-nil (map row_item model.rows))) p.others) in
      record {
        bridging = record {
          choice = p.choice;
          chosen = p.chosen;
          made = record { entries = p.entries; groups = p.trees; others = all.trees };
        };
        made = and_from _ _ p.made all.made;
      }

module _ (setting : Setting) (groups : List Group) (r : Row) (rest : List Row)
    (p : BridgedWith setting groups (r ∷ rest)) where
  parts_without : BridgedWith setting groups rest
  parts_without = record {
    choice = p.choice;
    chosen = p.chosen;
    entries = p.entries;
    trees = p.trees;
    made = p.made;
    others = made_others (rules_by p.choice) p.entries (row_item r) (map row_item rest) p.others;
  }

  parts_again : IsOfVariables r.func → (k : ℕ)
      → BridgedWith setting groups (rest ++ later_row k r ∷ [])
  parts_again placed k = record {
    choice = p.choice;
    chosen = p.chosen;
    entries = p.entries;
    trees = p.trees;
    made = p.made;
    others = subst (MadeIn (rules_by p.choice) p.entries)
        (sym (map-append row_item rest (later_row k r ∷ [])))
        (made_joined (rules_by p.choice) p.entries (map row_item rest)
        (row_item (later_row k r) ∷ [])
        (made_others (rules_by p.choice) p.entries (row_item r) (map row_item rest) p.others)
        (made_later k p.choice groups p.entries p.trees r placed
        (made_first (rules_by p.choice) p.entries (row_item r) (map row_item rest) p.others)));
  }

-- ---- models

module _ (setting : Setting) (model : ModelValue) (bare : model.objective ≡ objective.Feasibility)
    (b : HasFittingBridging setting model) (r : Row) (rest : List Row) (whole : model.rows ≡ r ∷ rest)
    (new : ModelValue) (same : new.groups ≡ model.groups)
    (bare_too : new.objective ≡ objective.Feasibility) where
  parts_here : BridgedWith setting new.groups (r ∷ rest)
  parts_here =
      subst (λ gs. BridgedWith setting gs (r ∷ rest)) (sym same)
      (subst (BridgedWith setting model.groups) whole (parts_of setting model bare b))

  -- without its first row
  pub bridged_without : new.rows ≡ rest → HasFittingBridging setting new
  bridged_without rows =
      bridged_of setting new bare_too
      (subst (BridgedWith setting new.groups) (sym rows)
      (parts_without setting new.groups r rest parts_here))

  -- and with it again, last
  pub bridged_again : (n : ℕ) → r.id ≤ n → IsOfVariables r.func
      → new.rows ≡ rest ++ record r { id = n } ∷ [] → HasFittingBridging setting new
  bridged_again n low placed rows =
      let later : r.id + (n - r.id) ≡ n = omega (arith, low) in
      bridged_of setting new bare_too
      (subst (BridgedWith setting new.groups)
      (ap (λ (i : ℕ). rest ++ record r { id = i } ∷ []) later ∙ sym rows)
      (parts_again setting new.groups r rest parts_here placed (n - r.id)))

-- ---- never refused

module _ (setting : Setting) (costly : IsCostly (graph_of setting)) (lawful : AreLawful setting)
    (model : ModelValue) (b : HasFittingBridging setting model) where
  pub never_unsupported : IsValid model → (kind : Kind) → IsUnsupported setting model kind → ⊥
  never_unsupported valid = never_both setting costly lawful model valid b.bridging

  all_fits : unfit_at b.bridging ≡ None
  all_fits =
      let made = b.bridging.made in
      ap₂ (λ x y. option_map (λ item. item.at) (option_or x y))
      (none_unfit made.groups (and_first (fits_each made.groups) (fits_in made.others) b.made))
      (none_unfit_in made.others
      (and_second (fits_each made.groups) (fits_in made.others) b.made))

  pub never_overflowing : (other : FreshBridging setting model) (at : Address)
      → unfit_at other ≡ Some at → ⊥
  never_overflowing other at e =
      none-some at (sym all_fits
      ∙ ap (λ h. option_map (λ item. item.at) h.unfit)
      (one_bridging setting model costly b.bridging other) ∙ e)

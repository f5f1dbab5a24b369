-- A user's model whose numbers are others in the same order, and its fresh bridging.
use Rattle.std.specs.Prelude.{◌≡◌, ◌<◌, ◌==◌, ◌&&◌, ℕ, List, ◌++◌, map, refl}
use Rattle.std.proofs.Common.{ap, ap₂, subst, sym, ◌∙◌}
use Rattle.std.proofs.lemmas.List.{map-append}
use Rattle.std.specs.Cmp.Lexicographic.{slice_cmp}
use Rattle.std.specs.Ordering.{nat_cmp, ordering_then}
use Rattle.aff_core.specs.Address.{Address, address_cmp}
use Rattle.aff_core.specs.declared.root.Root.{Root}
use Rattle.aff_core.specs.declared.root.Root.TheVariants.{Variable, Group, Row, Objective}
use Rattle.expansion.specs.Bridged.{Fresh}
use Rattle.expansion.specs.Read.{leaves_in, leaves_of_each, model_leaves}
use Rattle.expansion.specs.Rules.{ItemChildren as Children}
use Rattle.fresh_bridging.specs.FreshBridging.{FreshBridging, is_made, leaves_of}
use Rattle.fresh_bridging.specs.Leaves.{leaf_model_of}
use Rattle.fresh_bridging.specs.ModelImage.{group_item, model_image, objective_items, row_body, row_item}
use Rattle.fresh_bridging.specs.TheRules.{Setting, rules_by}
use Rattle.item_core.specs.declared.item.Body.TheVariants as body
use Rattle.item_core.specs.declared.item.Item.{Item}
use Rattle.set_core.specs.declared.set.Set.{Set}
use Rattle.user_model.specs.Model.{ModelValue, empty_model, variable_address}
use Rattle.user_model.specs.declared.function.UserFunc.{UserFunc}
use Rattle.user_model.specs.declared.function.UserFunc.TheVariants as func
use Rattle.user_model.specs.declared.group.Group as groups
use Rattle.user_model.specs.declared.group.GroupVar.{GroupVar}
use Rattle.user_model.specs.PositionLaws.{cmp_alike, test_alike}
use Rattle.user_model.specs.declared.objective.Objective as objectives
use Rattle.user_model.specs.declared.objective.Objective.TheVariants as objective
use Rattle.user_model.specs.declared.row.Row as rows
use Rattle.renumbering_laws.specs.RenamedEntries.{renamed_children, renamed_entry}
use Rattle.renumbering_laws.specs.RenamedItems.{IsRenaming, map_either, renamed, renamed_body, renamed_item}
use Rattle.renumbering_laws.specs.RenamedLeaves.{AreRenamedLeaves, leaves-renamed}
use Rattle.renumbering_laws.specs.RenamedRuleLaws.{rules-renamed}
use Rattle.renumbering_laws.specs.RenamedTrees.{EachAlike, InAlike, IsRewriting, each_entries_alike, each_fits_alike, each_leaves_alike, each_moved, in_fits_alike, in_leaves_alike, in_moved}

-- ---- numbers

abbrev pub Rising : (ℕ → ℕ) → Type 0
Rising f = (m n : ℕ) → m < n → f m < f n

-- other numbers for variables, groups and rows, in the same order
pub record Renumbering : Type 0 where
  pub variable : ℕ → ℕ
  pub group : ℕ → ℕ
  pub row : ℕ → ℕ

pub record IsRising (ν : Renumbering) : Type 0 where
  pub variable : Rising ν.variable
  pub group : Rising ν.group
  pub row : Rising ν.row

module _ (f : ℕ → ℕ) (rising : Rising f) where
  pub number_same : (m n : ℕ) → (f m == f n) ≡ (m == n)
  number_same m n = test_alike m n (f m) (f n) (rising m n) (rising n m) (ap f)

  number_order : (m n : ℕ) → nat_cmp (f m) (f n) ≡ nat_cmp m n
  number_order m n = cmp_alike m n (f m) (f n) (rising m n) (rising n m) (ap f)

-- ---- addresses

module _ (ν : Renumbering) where
  abbrev pub number_by : Root → ℕ → ℕ
  number_by Variable n = ν.variable n
  number_by Group n = ν.group n
  number_by Row n = ν.row n
  number_by Objective n = n

  -- the root's number alone is another
  abbrev pub renumbered : Address → Address
  renumbered at = record at { number = number_by at.root at.number }

module _ (ν : Renumbering) (rising : IsRising ν) where
  roots_order : (r s : Root) (m n : ℕ) (p q : List ℕ)
      → address_cmp (record { root = r; number = number_by ν r m; positions = p })
      (record { root = s; number = number_by ν s n; positions = q })
      ≡ address_cmp (record { root = r; number = m; positions = p })
      (record { root = s; number = n; positions = q })
  unfolding address_cmp
  roots_order Variable Variable m n p q =
      ap (λ c. ordering_then c (slice_cmp nat_cmp p q))
      (number_order ν.variable rising.variable m n)
  roots_order Group Group m n p q =
      ap (λ c. ordering_then c (slice_cmp nat_cmp p q)) (number_order ν.group rising.group m n)
  roots_order Row Row m n p q =
      ap (λ c. ordering_then c (slice_cmp nat_cmp p q)) (number_order ν.row rising.row m n)
  roots_order Objective Objective m n p q = refl
  roots_order _ _ m n p q = refl

  pub renumbers : IsRenaming (renumbered ν)
  renumbers = record {
    order = λ a b. roots_order a.root b.root a.number b.number a.positions b.positions;
    child = λ at position. refl;
  }

-- ---- the user's model

module _ (ν : Renumbering) where
  abbrev pub renumbered_variable : GroupVar → GroupVar
  renumbered_variable var = record var { number = ν.variable var.number }

  abbrev pub renumbered_group : groups.Group → groups.Group
  renumbered_group g =
      record g { id = ν.group g.id; vars = map renumbered_variable g.vars }

  abbrev pub renumbered_function : UserFunc → UserFunc
  renumbered_function (func.Plain var) = func.Plain (renumbered ν var)
  renumbered_function (func.Affine f) = func.Affine (renamed (renumbered ν) f)
  renumbered_function (func.PlainVec vars) = func.PlainVec (map (renumbered ν) vars)
  renumbered_function (func.AffineVec fs) = func.AffineVec (map (renamed (renumbered ν)) fs)

  abbrev pub renumbered_row : rows.Row → rows.Row
  renumbered_row r = record r { id = ν.row r.id; func = renumbered_function r.func }

  abbrev pub renumbered_objective : objectives.Objective → objectives.Objective
  renumbered_objective objective.Feasibility = objective.Feasibility
  renumbered_objective (objective.Plain sense var) = objective.Plain sense (renumbered ν var)
  renumbered_objective (objective.Affine sense f) =
      objective.Affine sense (renamed (renumbered ν) f)

  -- all but the next numbers, which nothing asks for here
  abbrev pub renumbered_model : ModelValue → ModelValue
  renumbered_model model = record {
    groups = map renumbered_group model.groups;
    rows = map renumbered_row model.rows;
    objective = renumbered_objective model.objective;
    next = empty_model.next;
  }

  -- ---- its items

  group_item-renumbered : (g : groups.Group)
      → group_item (renumbered_group g) ≡ renamed_item (renumbered ν) (group_item g)
  group_item-renumbered g =
      ap (λ vars. record { at = renumbered ν (group_item g).at; body = body.Group g.set vars })
      (map_either renumbered_variable (λ v. variable_address v.number)
      (λ v. variable_address v.number) (renumbered ν) (λ v. refl) g.vars)

  row_item-renumbered : (r : rows.Row)
      → row_item (renumbered_row r) ≡ renamed_item (renumbered ν) (row_item r)
  row_item-renumbered r =
      ap (λ b. record { at = renumbered ν (row_item r).at; body = b }) (by r.func r.set)
    where
      by : (f : UserFunc) (set : Set)
          → row_body (renumbered_function f) set ≡ renamed_body (renumbered ν) (row_body f set)
      by (func.Plain var) set = refl
      by (func.Affine f) set = refl
      by (func.PlainVec vars) set = refl
      by (func.AffineVec fs) set = refl

  objective_items-renumbered : (o : objectives.Objective)
      → objective_items (renumbered_objective o)
      ≡ map (renamed_item (renumbered ν)) (objective_items o)
  objective_items-renumbered objective.Feasibility = refl
  objective_items-renumbered (objective.Plain sense var) = refl
  objective_items-renumbered (objective.Affine sense f) = refl

  pub image-renumbered : (model : ModelValue)
      → model_image (renumbered_model model) ≡ renamed_children (renumbered ν) (model_image model)
  image-renumbered model =
      let item = renamed_item (renumbered ν) in
      (λ i. record {
        groups = map_either renumbered_group group_item group_item item group_item-renumbered
            model.groups i;
        others = map_either renumbered_row row_item row_item item row_item-renumbered model.rows i
            ++ objective_items-renumbered model.objective i;
      })
      ∙ ap (λ l. record { groups = map item (map group_item model.groups); others = l })
      (sym (map-append item (map row_item model.rows) (objective_items model.objective)))

-- ---- its fresh bridging

module _ (ν : Renumbering) (rising : IsRising ν) {setting : Setting} {model : ModelValue}
    (b : FreshBridging setting model) where
  -- a bridging of the renumbered model, of one shape with that of the model
  pub record Renumbered : Type 0 where
    pub made : Fresh (rules_by b.choice) (model_image (renumbered_model ν model))
    pub groups : EachAlike (rules_by b.choice) (renamed_item (renumbered ν))
        (renamed_entry (renumbered ν)) (model_image model).groups
        (model_image (renumbered_model ν model)).groups b.made.entries made.entries b.made.groups
        made.groups
    pub others : InAlike (rules_by b.choice) (renamed_item (renumbered ν))
        (renamed_entry (renumbered ν)) b.made.entries made.entries (model_image model).others
        (model_image (renumbered_model ν model)).others b.made.others made.others

  abbrev FreshOver : Children Item → Type 0
  FreshOver image =
      (made : Fresh (rules_by b.choice) image)
      × EachAlike (rules_by b.choice) (renamed_item (renumbered ν)) (renamed_entry (renumbered ν))
      (model_image model).groups image.groups b.made.entries made.entries b.made.groups made.groups
      × InAlike (rules_by b.choice) (renamed_item (renumbered ν)) (renamed_entry (renumbered ν))
      b.made.entries made.entries (model_image model).others image.others b.made.others made.others

  fresh_over : FreshOver (renamed_children (renumbered ν) (model_image model))
  fresh_over =
      let rules = rules_by b.choice in
      let item = renamed_item (renumbered ν) in
      let entry = renamed_entry (renumbered ν) in
      let law = rules-renamed (renumbered ν) (renumbers ν rising) b.choice in
      let gs = each_moved rules item entry law b.made.groups in
      let os = in_moved rules item entry law b.made.others gs.0
      (each_entries_alike rules item entry law gs.2) in
      (record { entries = gs.0; groups = gs.1; others = os.0 }, gs.2, os.1)

  pub renumbered_bridging : Renumbered
  renumbered_bridging =
      let made = subst FreshOver (sym (image-renumbered ν model)) fresh_over in
      record { made = made.0; groups = made.1; others = made.2 }

  module _ (m : Renumbered) where
    abbrev pub over : FreshBridging setting (renumbered_model ν model)
    over = record { choice = b.choice; chosen = b.chosen; made = m.made }

    abbrev law : IsRewriting (rules_by b.choice) (renamed_item (renumbered ν))
        (renamed_entry (renumbered ν))
    law = rules-renamed (renumbered ν) (renumbers ν rising) b.choice

    pub made-renumbered : is_made over ≡ is_made b
    made-renumbered =
        ap₂ (λ x y. x && y)
        (each_fits_alike (rules_by b.choice) (renamed_item (renumbered ν))
        (renamed_entry (renumbered ν)) law m.groups)
        (in_fits_alike (rules_by b.choice) (renamed_item (renumbered ν))
        (renamed_entry (renumbered ν)) law m.others)

    pub entries-renumbered : m.made.entries ≡ map (renamed_entry (renumbered ν)) b.made.entries
    entries-renumbered =
        each_entries_alike (rules_by b.choice) (renamed_item (renumbered ν))
        (renamed_entry (renumbered ν)) law m.groups

    pub leaves-renumbered : AreRenamedLeaves (renumbered ν) (leaves_of b) (leaves_of over)
    unfolding model_leaves
    leaves-renumbered =
        let item = renamed_item (renumbered ν) in
        let entry = renamed_entry (renumbered ν) in
        let listed : model_leaves m.made ≡ map item (model_leaves b.made) =
        ap₂ (λ x y. x ++ y)
        (each_leaves_alike (rules_by b.choice) item entry law m.groups)
        (in_leaves_alike (rules_by b.choice) item entry law m.others)
        ∙ sym (map-append item (leaves_of_each b.made.groups) (leaves_in b.made.others)) in
        subst (λ l. AreRenamedLeaves (renumbered ν) (leaves_of b) (leaf_model_of l)) (sym listed)
        (leaves-renamed (renumbered ν) (renumbers ν rising) (model_leaves b.made))

-- The certificate that an answer is carried to says the same of the renumbered model.
use Rattle.std.specs.Prelude.{◌≡◌, List, [], ◌∷◌, ◌++◌, cond, flat_map, map, take, refl}
use Rattle.std.proofs.Common.{ap, ap₂, sym, ◌∙◌}
use Rattle.std.proofs.lemmas.List.{length-map, map-append}
use Rattle.std.specs.Ordering.{is_eq}
use Rattle.ratio_core.specs.Rational.{Rational, neg_ℚ, zero_ℚ, ◌+ℚ◌, ◌-ℚ◌}
use Rattle.rational_laws.specs.Dot.{dot}
use Rattle.aff_core.specs.Address.{Address}
use Rattle.aff_core.specs.Function.{Function, coefficient, slope, value_of}
use Rattle.aff_core.specs.FunctionLists.{coefficients, constants}
use Rattle.aff_core.specs.Points.{spread}
use Rattle.certificates.specs.Duals.{adjoint_of_rows, dual_gap, group_with, groups_with, reduced_cost, rows_with}
use Rattle.certificates.specs.Points.{address_of, addresses_of, at_point, functions_of, objective_coefficient, objective_function, objective_value, sense_of, variables_at}
use Rattle.certificates.specs.declared.certificate.Certificate.TheVariants.{Infeasible, Optimal, Unbounded}
use Rattle.dual_laws.specs.Held.{DualRow, adjoint, gap}
use Rattle.equality_form.specs.ReadBack.{AnswerByAddress, infeasible, optimal, unbounded}
use Rattle.fresh_bridging.specs.Entries.{function_in}
use Rattle.fresh_bridging.specs.FreshBridging.{FreshBridging}
use Rattle.fresh_bridging.specs.TheRules.{Setting, rules_by}
use Rattle.set_core.specs.Membership.{low_of}
use Rattle.tree_laws.specs.Carried.{LeafAnswerDuals}
use Rattle.tree_laws.specs.Certificate.{cancelling, certificate_of, infeasible_duals, optimal_duals, point_of, ray_of, reduced_costs, rows_of}
use Rattle.user_model.specs.Model.{ModelValue, variables}
use Rattle.user_model.specs.declared.function.UserFunc.{UserFunc}
use Rattle.user_model.specs.declared.function.UserFunc.TheVariants.{Plain, Affine, PlainVec, AffineVec}
use Rattle.user_model.specs.declared.group.Group.{Group}
use Rattle.user_model.specs.declared.group.GroupVar.{GroupVar}
use Rattle.user_model.specs.declared.objective.Objective.{Objective}
use Rattle.user_model.specs.declared.objective.Objective.TheVariants as objective
use Rattle.user_model.specs.declared.row.Row.{Row}
use Rattle.renumbering_laws.specs.RenamedDuals.{DualsAgree, backs_alike}
use Rattle.renumbering_laws.specs.RenamedEntries.{function_in-renamed, renamed_entry}
use Rattle.renumbering_laws.specs.RenamedForm.{AgreeRenamed, AnswersAgree, map_kept}
use Rattle.renumbering_laws.specs.RenamedFunctions.{coefficient-renamed, constant-renamed, constant_function-renamed, slope-renamed, value-renamed, variable-renamed}
use Rattle.renumbering_laws.specs.RenamedItems.{IsRenaming, map_either, renamed, variables_listed}
use Rattle.renumbering_laws.specs.RenamedLeaves.{flat_map_either}
use Rattle.renumbering_laws.specs.RenumberedModel.{IsRising, Renumbered, Renumbering, entries-renumbered, over, renumbered, renumbered_function, renumbered_group, renumbered_model, renumbered_objective, renumbered_row, renumbered_variable, renumbers}

-- ---- rows with duals

module _ (σ : Address → Address) where
  abbrev pub renamed_held : DualRow → DualRow
  renamed_held h = record h { functions = map (renamed σ) h.functions }

module _ (σ : Address → Address) (r : IsRenaming σ) where
  pub coefficients-renamed : (fs : List Function) (v : Address)
      → coefficients (map (renamed σ) fs) (σ v) ≡ coefficients fs v
  coefficients-renamed fs v =
      map_kept (renamed σ) (λ f. coefficient f (σ v)) (λ f. coefficient f v)
      (λ f. coefficient-renamed σ r.order f v) fs

  pub constants-renamed : (fs : List Function) → constants (map (renamed σ) fs) ≡ constants fs
  constants-renamed fs =
      map_kept (renamed σ) (λ f. f.constant) (λ f. f.constant) (constant-renamed σ r.order) fs

  pub adjoint-renamed : (hs : List DualRow) (v : Address)
      → adjoint (map (renamed_held σ) hs) (σ v) ≡ adjoint hs v
  adjoint-renamed [] v = refl
  adjoint-renamed (h ∷ hs) v =
      ap₂ (λ a b. dot h.duals a +ℚ b) (coefficients-renamed h.functions v) (adjoint-renamed hs v)

  pub gap-renamed : (hs : List DualRow) → gap (map (renamed_held σ) hs) ≡ gap hs
  gap-renamed [] = refl
  gap-renamed (h ∷ hs) =
      ap₂ (λ a b. (low_of h.set h.duals -ℚ dot h.duals a) +ℚ b) (constants-renamed h.functions)
      (gap-renamed hs)

  pub spread-renamed : (us : List Address) (x : List Rational)
      → AgreeRenamed σ (spread us x) (spread (map σ us) x)
  spread-renamed [] x v = refl
  spread-renamed (u ∷ us) [] v = refl
  spread-renamed (u ∷ us) (q ∷ x) v =
      ap₂ (λ c y. cond (is_eq c) q y) (r.order v u) (spread-renamed us x v)

-- ---- of the user's model

module _ (ν : Renumbering) where
  pub addresses-renumbered : (vars : List GroupVar)
      → addresses_of (map (renumbered_variable ν) vars) ≡ map (renumbered ν) (addresses_of vars)
  addresses-renumbered vars =
      map_either (renumbered_variable ν) address_of address_of (renumbered ν) (λ v. refl) vars

  pub variables-renumbered : (groups : List Group)
      → flat_map (λ g. g.vars) (map (renumbered_group ν) groups)
      ≡ map (renumbered_variable ν) (flat_map (λ g. g.vars) groups)
  variables-renumbered groups =
      flat_map_either (λ g. g.vars) (λ g. g.vars) (renumbered_group ν) (renumbered_variable ν)
      (λ g. refl) groups

  pub user_addresses : (model : ModelValue)
      → addresses_of (variables (renumbered_model ν model))
      ≡ map (renumbered ν) (addresses_of (variables model))
  user_addresses model =
      ap addresses_of (variables-renumbered model.groups)
      ∙ addresses-renumbered (variables model)

  pub sense-renumbered : (o : Objective) → sense_of (renumbered_objective ν o) ≡ sense_of o
  sense-renumbered objective.Feasibility = refl
  sense-renumbered (objective.Plain sense var) = refl
  sense-renumbered (objective.Affine sense f) = refl

module _ (ν : Renumbering) (rising : IsRising ν) where
  abbrev renaming : IsRenaming (renumbered ν)
  renaming = renumbers ν rising

  pub functions-renumbered : (f : UserFunc)
      → functions_of (renumbered_function ν f) ≡ map (renamed (renumbered ν)) (functions_of f)
  functions-renumbered (Plain var) =
      ap (λ f. f ∷ []) (variable-renamed (renumbered ν) renaming.order var)
  functions-renumbered (Affine f) = refl
  functions-renumbered (PlainVec vars) = variables_listed (renumbered ν) renaming vars
  functions-renumbered (AffineVec fs) = refl

  pub rows_with-renumbered : (ys : List (List Rational)) (rows : List Row)
      → rows_with ys (map (renumbered_row ν) rows)
      ≡ map (renamed_held (renumbered ν)) (rows_with ys rows)
  rows_with-renumbered [] rows = refl
  rows_with-renumbered (y ∷ ys) [] = refl
  rows_with-renumbered (y ∷ ys) (row ∷ rows) =
      ap₂ (λ fs hs. record { duals = y; functions = fs; set = row.set } ∷ hs)
      (functions-renumbered row.func) (rows_with-renumbered ys rows)

  module _ (w u : Address → Rational) (same : AgreeRenamed (renumbered ν) w u) where
    numbers-renumbered : (vars : List GroupVar)
        → map u (addresses_of (map (renumbered_variable ν) vars)) ≡ map w (addresses_of vars)
    numbers-renumbered vars =
        ap (map u) (addresses-renumbered ν vars)
        ∙ map_kept (renumbered ν) u w same (addresses_of vars)

    group_with-renumbered : (g : Group)
        → group_with u (renumbered_group ν g) ≡ renamed_held (renumbered ν) (group_with w g)
    group_with-renumbered g =
        ap₂ (λ ys fs. record { duals = ys; functions = fs; set = g.set })
        (numbers-renumbered g.vars)
        (ap variables_at (addresses-renumbered ν g.vars)
        ∙ variables_listed (renumbered ν) renaming (addresses_of g.vars))

    pub groups_with-renumbered : (groups : List Group)
        → groups_with u (map (renumbered_group ν) groups)
        ≡ map (renamed_held (renumbered ν)) (groups_with w groups)
    groups_with-renumbered groups =
        map_either (renumbered_group ν) (group_with u) (group_with w) (renamed_held (renumbered ν))
        group_with-renumbered groups

  pub objective_function-renumbered : (o : Objective)
      → objective_function (renumbered_objective ν o)
      ≡ renamed (renumbered ν) (objective_function o)
  objective_function-renumbered objective.Feasibility =
      constant_function-renamed (renumbered ν) renaming.order zero_ℚ
  objective_function-renumbered (objective.Plain sense var) =
      variable-renamed (renumbered ν) renaming.order var
  objective_function-renumbered (objective.Affine sense f) = refl

  module _ (model : ModelValue) where
    abbrev renewed : ModelValue
    renewed = renumbered_model ν model

    pub at_point-renumbered : (x : List Rational)
        → AgreeRenamed (renumbered ν) (at_point model x) (at_point renewed x)
    at_point-renumbered x v =
        ap (λ us. spread us x (renumbered ν v)) (user_addresses ν model)
        ∙ spread-renamed (renumbered ν) renaming (addresses_of (variables model)) x v

    pub objective_value-renumbered : (x : List Rational)
        → objective_value renewed x ≡ objective_value model x
    objective_value-renumbered x =
        ap (λ f. value_of f (at_point renewed x)) (objective_function-renumbered model.objective)
        ∙ value-renamed (renumbered ν) renaming.order (objective_function model.objective)
        (at_point model x) (at_point renewed x) (at_point-renumbered x)

    pub objective_coefficient-renumbered : (v : Address)
        → objective_coefficient renewed (renumbered ν v) ≡ objective_coefficient model v
    objective_coefficient-renumbered v =
        ap (λ f. coefficient f (renumbered ν v)) (objective_function-renumbered model.objective)
        ∙ coefficient-renamed (renumbered ν) renaming.order (objective_function model.objective) v

    module _ (rows : List (List Rational)) where
      pub adjoint_of_rows-renumbered : (v : Address)
          → adjoint_of_rows renewed rows (renumbered ν v) ≡ adjoint_of_rows model rows v
      adjoint_of_rows-renumbered v =
          ap (λ hs. adjoint hs (renumbered ν v)) (rows_with-renumbered rows model.rows)
          ∙ adjoint-renamed (renumbered ν) renaming (rows_with rows model.rows) v

      pub held-renumbered : (x : List Rational)
          → rows_with rows renewed.rows ++ groups_with (at_point renewed x) renewed.groups
          ≡ map (renamed_held (renumbered ν))
          (rows_with rows model.rows ++ groups_with (at_point model x) model.groups)
      held-renumbered x =
          ap₂ (λ a b. a ++ b) (rows_with-renumbered rows model.rows)
          (groups_with-renumbered (at_point model x) (at_point renewed x) (at_point-renumbered x)
          model.groups)
          ∙ sym (map-append (renamed_held (renumbered ν)) (rows_with rows model.rows)
          (groups_with (at_point model x) model.groups))

      pub dual_gap-renumbered : (x : List Rational)
          → dual_gap renewed rows x ≡ dual_gap model rows x
      dual_gap-renumbered x =
          ap gap (held-renumbered x)
          ∙ gap-renamed (renumbered ν) renaming
          (rows_with rows model.rows ++ groups_with (at_point model x) model.groups)

  -- ---- what is carried back

  module _ {setting : Setting} {model : ModelValue} (b : FreshBridging setting model)
      (m : Renumbered ν rising b) where
    abbrev second : FreshBridging setting (renumbered_model ν model)
    second = over ν rising b m

    pub expression-renumbered : (v : Address)
        → function_in m.made.entries (renumbered ν v)
        ≡ renamed (renumbered ν) (function_in b.made.entries v)
    expression-renumbered v =
        ap (λ es. function_in es (renumbered ν v)) (entries-renumbered ν rising b m)
        ∙ function_in-renamed (renumbered ν) renaming b.made.entries v

    -- numbers of the user's variables
    pub each_variable : {X : Type 0} (f h : Address → X) → AgreeRenamed (renumbered ν) f h
        → map h (addresses_of (variables (renumbered_model ν model)))
        ≡ map f (addresses_of (variables model))
    each_variable f h same =
        ap (map h) (user_addresses ν model)
        ∙ map_kept (renumbered ν) h f same (addresses_of (variables model))

    module _ (x y : Address → Rational) (same : AgreeRenamed (renumbered ν) x y) where
      pub point-renumbered : point_of second y ≡ point_of b x
      point-renumbered =
          each_variable (λ v. value_of (function_in b.made.entries v) x)
          (λ v. value_of (function_in m.made.entries v) y)
          (λ v. ap (λ f. value_of f y) (expression-renumbered v)
          ∙ value-renamed (renumbered ν) renaming.order (function_in b.made.entries v) x y same)

      pub ray-renumbered : ray_of second y ≡ ray_of b x
      ray-renumbered =
          each_variable (λ v. slope (function_in b.made.entries v) x)
          (λ v. slope (function_in m.made.entries v) y)
          (λ v. ap (λ f. slope f y) (expression-renumbered v)
          ∙ slope-renamed (renumbered ν) renaming.order (function_in b.made.entries v) x y same)

    pub rows-renumbered : (d e : LeafAnswerDuals) → DualsAgree (renumbered ν) d e
        → rows_of second e ≡ rows_of b d
    rows-renumbered d e same =
        ap₂ take (length-map model.rows (renumbered_row ν))
        (backs_alike (renumbered ν) renaming (rules_by b.choice) (renamed_entry (renumbered ν)) d e
        same m.others)

    pub reduced-renumbered : (rows : List (List Rational))
        → reduced_costs second rows ≡ reduced_costs b rows
    reduced-renumbered rows =
        each_variable
        (λ v. reduced_cost (sense_of model.objective) (objective_coefficient model v)
        (adjoint_of_rows model rows v))
        (λ v. reduced_cost (sense_of (renumbered_objective ν model.objective))
        (objective_coefficient (renumbered_model ν model) v)
        (adjoint_of_rows (renumbered_model ν model) rows v))
        (λ v i. reduced_cost (sense-renumbered ν model.objective i)
        (objective_coefficient-renumbered model v i) (adjoint_of_rows-renumbered model rows v i))

    pub cancelling-renumbered : (rows : List (List Rational))
        → cancelling second rows ≡ cancelling b rows
    cancelling-renumbered rows =
        each_variable (λ v. neg_ℚ (adjoint_of_rows model rows v))
        (λ v. neg_ℚ (adjoint_of_rows (renumbered_model ν model) rows v))
        (λ v. ap neg_ℚ (adjoint_of_rows-renumbered model rows v))

    -- the certificate is the same
    pub certificate-renumbered : (one other : AnswerByAddress)
        → AnswersAgree (renumbered ν) one other
        → certificate_of second other ≡ certificate_of b one
    certificate-renumbered (optimal x y) (optimal u w) same =
        let rows = rows-renumbered (optimal_duals b y) (optimal_duals second w)
        (record { objective = refl; duals = same.1 }) in
        let point = point-renumbered x u same.0 in
        (λ i. Optimal (objective_value (renumbered_model ν model) (point i)) (point i) (rows i)
        (reduced_costs second (rows i)))
        ∙ (λ i. Optimal (objective_value-renumbered model (point_of b x) i) (point_of b x)
        (rows_of b (optimal_duals b y)) (reduced-renumbered (rows_of b (optimal_duals b y)) i))
    certificate-renumbered (infeasible y) (infeasible w) same =
        let rows = rows-renumbered (infeasible_duals b y) (infeasible_duals second w)
        (record { objective = refl; duals = same }) in
        let all = rows_of b (infeasible_duals b y) in
        (λ i. Infeasible (dual_gap (renumbered_model ν model) (rows i)
        (cancelling second (rows i))) (rows i) (cancelling second (rows i)))
        ∙ (λ i. Infeasible (dual_gap (renumbered_model ν model) all (cancelling-renumbered all i))
        all (cancelling-renumbered all i))
        ∙ (λ i. Infeasible (dual_gap-renumbered model all (cancelling b all) i) all
        (cancelling b all))
    certificate-renumbered (unbounded x d) (unbounded u e) same =
        ap₂ Unbounded (point-renumbered x u same.0) (ray-renumbered d e same.1)
    certificate-renumbered _ _ same = absurd same

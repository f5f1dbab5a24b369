-- Models that are the same up to their numbers can be given the same numbers, in the same order.
use Rattle.std.specs.Prelude.{◌≡◌, ◌⊎◌, ◌||◌, ◌==◌, ℕ, Bool, true, false, cond, T, List, [], ◌∷◌, ◌++◌, IsSome, Some, find, flat_map, length, map, refl}
use Rattle.std.proofs.Common.{ap, ap₂, arith, inl, inr, subst, sym, ◌∙◌}
use Rattle.std.proofs.lemmas.Bool.Decides.{nat_tests}
use Rattle.std.proofs.lemmas.List.{length-map, map-append}
use Rattle.std.specs.FinMap as finite
use Rattle.std.specs.FinMap.{is_sorted}
use Rattle.std.specs.FinMap.Entries.{below_all}
use Rattle.std.specs.List.{list_any}
use Rattle.std.specs.Ordering.{eq_by_cmp, is_lt, nat_cmp, ordering_then}
use Rattle.std.specs.declared.cmp.Ordering.{Ordering}
use Rattle.std.specs.declared.cmp.Ordering.TheVariants.{Less, Equal, Greater}
use mathlib.Core.List.{map-map}
use Rattle.map_laws.specs.TestLaws.{both, first, is_less, less_number, less_than, second}
use Rattle.ratio_core.specs.Rational.{Rational}
use Rattle.aff_core.specs.Address.{Address, address_cmp, address_eq}
use Rattle.aff_core.specs.Function.{Function, function_of, terms_of}
use Rattle.aff_core.specs.FunctionLaws.{constant-function_of, rises, terms_kept, terms_rise, tested}
use Rattle.aff_core.specs.KeyOrder.{address_order, same_key}
use Rattle.aff_core.specs.Rising.{RiseBy}
use Rattle.user_model.specs.Consistent.{variable_number}
use Rattle.user_model.specs.Edited.{group_number, row_number}
use Rattle.user_model.specs.Functions.{func_mentions, has_term}
use Rattle.user_model.specs.Model.{ModelValue, empty_model, has_variable, objective_mentions, variable_address, variables}
use Rattle.user_model.specs.PositionLaws.{position_less}
use Rattle.user_model.specs.SameUpToNumbers.{SameUpToNumbers, address_by_position, affine_by_position, function_by_position, group_by_position, groups_by_position, objective_by_position, position, row_by_position, rows_by_position, variable_by_position, variable_numbers}
use Rattle.user_model.specs.Valid.{IsValid, IsValidRow, Stands}
use Rattle.user_model.specs.declared.function.UserFunc.{UserFunc}
use Rattle.user_model.specs.declared.function.UserFunc.TheVariants.{Plain, Affine, PlainVec, AffineVec}
use Rattle.user_model.specs.declared.group.Group.{Group}
use Rattle.user_model.specs.declared.group.GroupVar.{GroupVar}
use Rattle.user_model.specs.declared.objective.Objective.{Objective}
use Rattle.user_model.specs.declared.objective.Objective.TheVariants as objective
use Rattle.user_model.specs.declared.row.Row.{Row}
use Rattle.renumbering_laws.specs.CommonNumbers.{Climbs, OccursIn, all_in, climbs, contained, in_flat, in_left, in_map, in_right, lifted, lifted_is, lifted_rises, map_in, place_of, sums, sums_either}
use Rattle.renumbering_laws.specs.RenamedFunctions.{nonzero-renamed}
use Rattle.renumbering_laws.specs.RenamedItems.{renamed}
use Rattle.renumbering_laws.specs.RenamedLeaves.{flat_map_either}
use Rattle.renumbering_laws.specs.RenamedMaps.{renamed_entries}
use Rattle.renumbering_laws.specs.RenumberedModel.{IsRising, Renumbering, renumbered, renumbered_function, renumbered_group, renumbered_model, renumbered_objective, renumbered_row, renumbered_variable}

-- ---- tests of lists

test_same : (a b : ℕ) → (a == b) ≡ true → a ≡ b
test_same a b e = grind (arith, nat_tests)

any_of : {X : Type 0} (p : X → Bool) (x : X) (xs : List X) → OccursIn x xs → p x ≡ true
    → list_any p xs ≡ true
any_of p x [] i h = absurd i
any_of p x (y ∷ ys) (inl e) h = ap (λ b. b || list_any p ys) (ap p (sym e) ∙ h)
any_of p x (y ∷ ys) (inr i) h = ap (λ b. p y || b) (any_of p x ys i h) ∙ over (p y)
  where
    over : (b : Bool) → (b || true) ≡ true
    over true = refl
    over false = refl

any_in : (n : ℕ) (vars : List GroupVar) → list_any (λ v. v.number == n) vars ≡ true
    → OccursIn n (map variable_number vars)
any_in n [] h = absurd (subst T (sym h) tt)
any_in n (v ∷ vs) h = by (any_in n vs) (v.number == n) refl h
  where
    by : (list_any (λ w. w.number == n) vs ≡ true → OccursIn n (map variable_number vs))
        → (b : Bool)
        → (v.number == n) ≡ b → (b || list_any (λ w. w.number == n) vs) ≡ true
        → (n ≡ v.number) ⊎ OccursIn n (map variable_number vs)
    by rest true e k = inl (sym (test_same v.number n e))
    by rest false e k = inr (rest k)

-- the variable of a number that stands
number_in : (n : ℕ) (groups : List Group) → IsSome (find (has_variable n) groups)
    → OccursIn n (map variable_number (flat_map (λ g. g.vars) groups))
number_in n [] h = absurd (subst T (sym h) tt)
number_in n (g ∷ gs) h =
    subst (OccursIn n) (sym (map-append variable_number g.vars (flat_map (λ g. g.vars) gs)))
    (by (number_in n gs) (has_variable n g) refl h)
  where
    by : (IsSome (find (has_variable n) gs)
        → OccursIn n (map variable_number (flat_map (λ g. g.vars) gs))) → (b : Bool)
        → has_variable n g ≡ b → IsSome (cond b (Some g) (find (has_variable n) gs))
        → OccursIn n (map variable_number g.vars ++ map variable_number (flat_map (λ g. g.vars) gs))
    by rest true e k = in_left n (map variable_number g.vars) _ (any_in n g.vars e)
    by rest false e k = in_right n (map variable_number g.vars) _ (rest k)

-- ---- the order of variables

then_equal : (o : Ordering) → ordering_then o Equal ≡ o
then_equal Less = refl
then_equal Equal = refl
then_equal Greater = refl

variables_order : (m n : ℕ)
    → address_cmp (variable_address m) (variable_address n) ≡ nat_cmp m n
unfolding address_cmp
variables_order m n = then_equal (nat_cmp m n)

-- ---- one model, and the numbers of another

module _ (model : ModelValue) (valid : IsValid model) (vs gs rs : List ℕ) where
  abbrev own : List ℕ
  own = variable_numbers model

  abbrev own_groups : List ℕ
  own_groups = map group_number model.groups

  abbrev own_rows : List ℕ
  own_rows = map row_number model.rows

  -- its numbers with the other's added
  abbrev pub added : Renumbering
  added = record {
    variable = lifted own vs;
    group = lifted own_groups gs;
    row = lifted own_rows rs;
  }

  -- the numbers in common by position
  abbrev pub in_common : Renumbering
  in_common = record {
    variable = place_of (sums own vs);
    group = place_of (sums own_groups gs);
    row = place_of (sums own_rows rs);
  }

  abbrev pub by_position : ModelValue
  by_position = record {
    groups = groups_by_position model;
    rows = rows_by_position model;
    objective = objective_by_position own model.objective;
    next = empty_model.next;
  }

  -- ---- where the lists are as long

  module _ (vs_climb : Climbs vs) (gs_climb : Climbs gs) (rs_climb : Climbs rs)
      (vs_long : length own ≡ length vs) (gs_long : length own_groups ≡ length gs)
      (rs_long : length own_rows ≡ length rs) where
    own_climb : Climbs own
    own_climb = climbs variable_number (variables model) valid.consistent.variables_rise

    number_same : (n : ℕ) → OccursIn n own → added.variable n ≡ in_common.variable (position own n)
    number_same n i = lifted_is own vs own_climb vs_climb vs_long n i

    group_number_same : (g : Group) → OccursIn g model.groups
        → added.group g.id ≡ in_common.group (position own_groups g.id)
    group_number_same g i =
        lifted_is own_groups gs
        (climbs group_number model.groups valid.consistent.groups_rise) gs_climb gs_long g.id
        (in_map group_number g model.groups i)

    row_number_same : (r : Row) → OccursIn r model.rows
        → added.row r.id ≡ in_common.row (position own_rows r.id)
    row_number_same r i =
        lifted_is own_rows rs
        (climbs row_number model.rows valid.consistent.rows_rise) rs_climb rs_long r.id
        (in_map row_number r model.rows i)

    -- ---- groups

    group_same : (g : Group) → OccursIn g model.groups
        → renumbered_group added g ≡ renumbered_group in_common (group_by_position model g)
    group_same g i =
        ap₂ (λ n vars. record g { id = n; vars = vars }) (group_number_same g i)
        (map_in (renumbered_variable added)
        (λ v. renumbered_variable in_common (variable_by_position own v)) g.vars
        (λ v j. ap (λ n. record v { number = n })
        (number_same v.number (in_map variable_number v (variables model)
        (in_flat (λ g. g.vars) v g model.groups j i))))
        ∙ sym (map-map (renumbered_variable in_common) (variable_by_position own) g.vars))

    -- ---- functions

    abbrev place : Address → Address
    place = address_by_position own

    abbrev AllStand : (Address → Bool) → Type 0
    AllStand mentions = (at : Address) → mentions at ≡ true → Stands model.groups at

    standing : (at : Address) → Stands model.groups at
        → (n : ℕ) × (at ≡ variable_address n) × OccursIn n own
    standing at h = (h.number, h.address, number_in h.number model.groups h.group)

    address_same : (at : Address) → Stands model.groups at
        → renumbered added at ≡ renumbered in_common (place at)
    address_same at h =
        let is = standing at h in
        subst (λ a. renumbered added a ≡ renumbered in_common (place a)) (sym is.1)
        (ap variable_address (number_same is.0 is.2))

    place_less : (k e : Address) → Stands model.groups k → Stands model.groups e
        → address_cmp k e ≡ Less → address_cmp (place k) (place e) ≡ Less
    place_less k e h j less =
        let one = standing k h in
        let two = standing e j in
        let below = less_than one.0 two.0 (sym (variables_order one.0 two.0)
        ∙ sym (ap₂ address_cmp one.1 two.1) ∙ less) in
        ap₂ (λ a b. address_cmp (place a) (place b)) one.1 two.1
        ∙ variables_order (position own one.0) (position own two.0)
        ∙ less_number (position own one.0) (position own two.0)
        (position_less own one.0 two.0 (contained one.0 own one.2) below)

    abbrev EachStands : List (Address × Rational) → Type 0
    EachStands ts = (t : Address × Rational) → OccursIn t ts → Stands model.groups t.0

    below_placed : (k : Address) → Stands model.groups k → (ts : List (Address × Rational))
        → EachStands ts → T (below_all address_cmp k ts)
        → T (below_all address_cmp (place k) (renamed_entries place ts))
    below_placed k h [] each below = tt
    below_placed k h (t ∷ ts) each below =
        both _ _
        (subst (λ o. T (is_lt o))
        (sym (place_less k t.0 h (each t (inl refl)) (is_less _ (first _ _ below)))) tt)
        (below_placed k h ts (λ u i. each u (inr i)) (second _ _ below))

    sorted_placed : (ts : List (Address × Rational)) → EachStands ts → T (is_sorted address_cmp ts)
        → T (is_sorted address_cmp (renamed_entries place ts))
    sorted_placed [] each sorted = tt
    sorted_placed (t ∷ ts) each sorted =
        both _ _
        (below_placed t.0 (each t (inl refl)) ts (λ u i. each u (inr i)) (first _ _ sorted))
        (sorted_placed ts (λ u i. each u (inr i)) (second _ _ sorted))

    terms_stand : (f : Function) → AllStand (λ at. has_term at f) → EachStands (terms_of f)
    terms_stand f stand t i =
        stand t.0 (finite.contains_key-keys f.terms t.0
        ∙ any_of (eq_by_cmp address_cmp t.0) t.0 (finite.keys f.terms)
        (in_map (λ e. e.0) t (terms_of f) i) (same_key address_order t.0))

    affine_same : (f : Function) → AllStand (λ at. has_term at f)
        → renamed (renumbered added) f ≡ renamed (renumbered in_common) (affine_by_position own f)
    affine_same f stand =
        let ts = terms_of f in
        let each = terms_stand f stand in
        let rise : RiseBy address_cmp (renamed_entries place ts) = record {
          rising = tested _ (sorted_placed ts each (rises ts (terms_rise f)));
        } in
        let kept : terms_of (affine_by_position own f) ≡ renamed_entries place ts =
        terms_kept (renamed_entries place ts) f.constant rise
        (nonzero-renamed place ts ∙ f.nonzero) in
        ap (λ us. function_of us f.constant)
        (map_in (λ t. (renumbered added t.0, t.1)) (λ t. (renumbered in_common (place t.0), t.1)) ts
        (λ t i. ap (λ a. (a, t.1)) (address_same t.0 (each t i)))
        ∙ sym (map-map (λ t. (renumbered in_common t.0, t.1)) (λ t. (place t.0, t.1)) ts))
        ∙ sym (ap₂ (λ us c. function_of (renamed_entries (renumbered in_common) us) c) kept
        (constant-function_of address_cmp (renamed_entries place ts) f.constant))

    function_same : (f : UserFunc) → AllStand (λ at. func_mentions at f)
        → renumbered_function added f
        ≡ renumbered_function in_common (function_by_position own f)
    function_same (Plain var) stand =
        ap Plain (address_same var (stand var (same_key address_order var)))
    function_same (Affine f) stand = ap Affine (affine_same f stand)
    function_same (PlainVec vars) stand =
        ap PlainVec
        (map_in (renumbered added) (λ v. renumbered in_common (place v)) vars
        (λ v i. address_same v
        (stand v (any_of (address_eq v) v vars i (same_key address_order v))))
        ∙ sym (map-map (renumbered in_common) place vars))
    function_same (AffineVec fs) stand =
        ap AffineVec
        (map_in (renamed (renumbered added))
        (λ f. renamed (renumbered in_common) (affine_by_position own f)) fs
        (λ f i. affine_same f (λ at h. stand at (any_of (has_term at) f fs i h)))
        ∙ sym (map-map (renamed (renumbered in_common)) (affine_by_position own) fs))

    objective_same : (o : Objective) → AllStand (λ at. objective_mentions at o)
        → renumbered_objective added o
        ≡ renumbered_objective in_common (objective_by_position own o)
    objective_same objective.Feasibility stand = refl
    objective_same (objective.Plain sense var) stand =
        ap (objective.Plain sense) (address_same var (stand var (same_key address_order var)))
    objective_same (objective.Affine sense f) stand =
        ap (objective.Affine sense) (affine_same f stand)

    row_same : (r : Row) → OccursIn r model.rows
        → renumbered_row added r ≡ renumbered_row in_common (row_by_position model r)
    row_same r i =
        ap₂ (λ n f. record r { id = n; func = f }) (row_number_same r i)
        (function_same r.func
        (all_in (IsValidRow model.groups) model.rows valid.parts.valid_rows r i).stand)

    -- ---- the model

    pub model_same : renumbered_model added model ≡ renumbered_model in_common by_position
    model_same =
        let groups = map_in (renumbered_group added)
        (λ g. renumbered_group in_common (group_by_position model g)) model.groups group_same
        ∙ sym (map-map (renumbered_group in_common) (group_by_position model) model.groups) in
        let rows = map_in (renumbered_row added)
        (λ r. renumbered_row in_common (row_by_position model r)) model.rows row_same
        ∙ sym (map-map (renumbered_row in_common) (row_by_position model) model.rows) in
        let goal = objective_same model.objective valid.parts.valid_objective.stand in
        λ i. record {
          groups = groups i;
          rows = rows i;
          objective = goal i;
          next = empty_model.next;
        }

-- ---- two models

-- renumbered they are one
pub record AreRenumbered (one other : ModelValue) : Type 0 where
  pub first : Renumbering
  pub second : Renumbering
  pub first_rises : IsRising first
  pub second_rises : IsRising second
  pub same : renumbered_model first one ≡ renumbered_model second other

variables_placed : (model : ModelValue)
    → length (variable_numbers model)
    ≡ length (flat_map (λ g. g.vars) (groups_by_position model))
variables_placed model =
    length-map (variables model) variable_number
    ∙ sym (length-map (variables model) (variable_by_position (variable_numbers model)))
    ∙ sym (ap length (flat_map_either (λ g. g.vars) (λ g. g.vars) (group_by_position model)
    (variable_by_position (variable_numbers model)) (λ g. refl) model.groups))

groups_placed : (model : ModelValue)
    → length (map group_number model.groups) ≡ length (groups_by_position model)
groups_placed model =
    length-map model.groups group_number ∙ sym (length-map model.groups (group_by_position model))

rows_placed : (model : ModelValue)
    → length (map row_number model.rows) ≡ length (rows_by_position model)
rows_placed model =
    length-map model.rows row_number ∙ sym (length-map model.rows (row_by_position model))

pub renumbered_alike : (one other : ModelValue) → IsValid one → IsValid other
    → SameUpToNumbers one other → AreRenumbered one other
renumbered_alike one other valid sound same =
    let vs = variable_numbers one in
    let gs = map group_number one.groups in
    let rs = map row_number one.rows in
    let ws = variable_numbers other in
    let hs = map group_number other.groups in
    let qs = map row_number other.rows in
    let variable_count : length vs ≡ length ws = variables_placed one
    ∙ ap (λ l. length (flat_map (λ g. g.vars) l)) same.groups ∙ sym (variables_placed other) in
    let group_count : length gs ≡ length hs =
    groups_placed one ∙ ap length same.groups ∙ sym (groups_placed other) in
    let row_count : length rs ≡ length qs =
    rows_placed one ∙ ap length same.rows ∙ sym (rows_placed other) in
    let vs_climb = climbs variable_number (variables one) valid.consistent.variables_rise in
    let gs_climb = climbs group_number one.groups valid.consistent.groups_rise in
    let rs_climb = climbs row_number one.rows valid.consistent.rows_rise in
    let ws_climb = climbs variable_number (variables other) sound.consistent.variables_rise in
    let hs_climb = climbs group_number other.groups sound.consistent.groups_rise in
    let qs_climb = climbs row_number other.rows sound.consistent.rows_rise in
    record {
      first = added one valid ws hs qs;
      second = added other sound vs gs rs;
      first_rises = record {
        variable = lifted_rises vs ws;
        group = lifted_rises gs hs;
        row = lifted_rises rs qs;
      };
      second_rises = record {
        variable = lifted_rises ws vs;
        group = lifted_rises hs gs;
        row = lifted_rises qs rs;
      };
      same = model_same one valid ws hs qs ws_climb hs_climb qs_climb variable_count group_count
          row_count
          ∙ (λ i. renumbered_model (record {
            variable = place_of (sums_either vs ws i);
            group = place_of (sums_either gs hs i);
            row = place_of (sums_either rs qs i);
          }) (record {
            groups = same.groups i;
            rows = same.rows i;
            objective = same.objective i;
            next = empty_model.next;
          }))
          ∙ sym (model_same other sound vs gs rs vs_climb gs_climb rs_climb (sym variable_count)
          (sym group_count) (sym row_count));
    }

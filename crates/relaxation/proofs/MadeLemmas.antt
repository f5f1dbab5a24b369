-- The edits lead to the relaxation of a model whose slacks have names that are new and apart: groups,
-- rows and the objective one after another.
use Rattle.std.specs.Prelude.{◌≡◌, ◌≢◌, ℕ, suc, ◌+◌, ◌^◌, ◌<◌, ◌≤◌, true, false, cond, List, [], ◌∷◌, ◌++◌, All, AllPairs, Some, Ok, bytes_eq, find, is_some, length, map, not, replicate, slice_index_or, unwrap_or, refl}
use Rattle.std.specs.List.{IsDistinct}
use Rattle.std.specs.Option.{option_map}
use Rattle.std.proofs.Common.{ap, ap₂, arith, subst, sym, ◌∙◌}
use Rattle.std.proofs.lemmas.List.{append-nil, append_assoc}
use Rattle.std.proofs.lemmas.List.Concat.{flat_map-append}
use Rattle.std.proofs.lemmas.List.Elements.{All-append, All-cons, All-head, All-nil, All-tail, All-weaker}
use Rattle.std.proofs.lemmas.Bool.{or_from}
use Rattle.std.proofs.lemmas.List.Kept.{AllPairs-cons}
use Rattle.std.proofs.lemmas.Slice.Eq.{bytes_eq-Decides}
use Rattle.limit_laws.specs.Leads.{Leads}
use Rattle.limit_laws.specs.LeadsLaws.{leads_both, leads_first, leads_none, limits_alone, made_after}
use Rattle.limit_laws.specs.Limits.{LimitsAlone}
use Rattle.limit_laws.specs.NewNames.{IsNewIn, group_passes, is_one_named, named_first, none_passes, other_name}
use Rattle.map_laws.specs.EachLaws.{cons_head, cons_tail}
use Rattle.map_laws.specs.PairLaws.{AllPairs-head, AllPairs-nil, AllPairs-tail}
use Rattle.set_core.specs.Shapes.{IsSetOf}
use Rattle.ratio_core.specs.Rational.{Rational, one_ℚ, zero_ℚ}
use Rattle.aff_core.specs.Address.{Address, address_cmp}
use Rattle.aff_core.specs.Function.{Function, function_of, gathered}
use Rattle.aff_core.specs.FunctionLaws.{coefficient-function_of, coefficient-gathered, constant-function_of, same_coefficients}
use Rattle.aff_core.specs.KeyOrder.{address_order}
use Rattle.aff_core.specs.Rising.{RiseStrictly}
use Rattle.aff_core.specs.declared.sense.Sense.TheVariants.{Min}
use Rattle.named_aff.specs.declared.terms.NamedTerm.{NamedTerm}
use Rattle.model_laws.specs.Located.{free_variable}
use Rattle.user_model.specs.declared.group.Group.{Group}
use Rattle.user_model.specs.declared.group.GroupVar.{GroupVar}
use Rattle.user_model.specs.declared.objective.Objective.TheVariants as objective
use Rattle.user_model.specs.declared.row.Row.{Row}
use Rattle.user_model.specs.Edited.{edited, numbered_from}
use Rattle.user_model.specs.Model.{ModelValue, address_named, variable_address, variables}
use Rattle.user_model.specs.Refusals.{has_variable_named}
use Rattle.user_model.specs.Valid.{IsValid}
use Rattle.certificates.specs.Points.{variables_of}
use Rattle.group_numbering.specs.NewGroups.{numbered_groups, terms_from}
use Rattle.group_numbering.specs.NumberLaws.{terms_rise}
use Rattle.group_numbering.specs.PlaceLaws.{addresses_from}
use Rattle.model_load.specs.Loads.{after_edits}
use Rattle.relaxed_model.specs.NameLaws.{IsNameFree, names_apart, names_distinct, names_free}
use Rattle.relaxed_model.specs.PlacedLaws.{length-free_names}
use Rattle.relaxed_model.specs.Relaxed.{free_names, relaxed_model, relaxed_rows, slack_count, slack_group, slack_names, sum_from}
use Rattle.relaxation.proofs.RowLemmas.{few_slacks}
use Rattle.relaxation.specs.RelaxedEdits.{edit_of_slack, edit_of_sum, edits_of_rows, relaxed_edits, slack_term}
use Rattle.relaxation.proofs.RowsMade.{AreBehind, AreKnown, rows_lead, with_rows}

-- ---- new names

-- a name more, and the others are new still
later_new : (name : List ℕ) (n : ℕ) (vars : List GroupVar) (names : List (List ℕ))
    → AllPairs {X = List ℕ} (λ a b. a ≢ b) (name ∷ names) → All (IsNewIn vars) (name ∷ names)
    → All (IsNewIn (vars ++ record { number = n; name = name } ∷ [])) names
later_new name n vars names apart new =
    let first : GroupVar = record { number = n; name = name } in
    All-weaker (λ other. (name ≢ other) × IsNewIn vars other) (IsNewIn (vars ++ first ∷ []))
    (λ other both. All-append (λ (v : GroupVar). v.name ≢ other) vars (first ∷ []) both.1
    (All-cons (λ (v : GroupVar). v.name ≢ other) first [] both.0
    (All-nil (λ (v : GroupVar). v.name ≢ other)))) names
    (λ k d end. (
      AllPairs-head (λ a b. a ≢ b) name names apart k d end,
      All-tail (IsNewIn vars) name names new k d end,
    ))

-- ---- groups

abbrev with_groups : ModelValue → List Group → ℕ → ℕ → ModelValue
with_groups model groups id n =
    record model { groups = groups; next = record model.next { group = id; variable = n } }

stay : (n : ℕ) → n ≡ n + 0
stay n = omega arith

one_on : (n : ℕ) → n + 1 ≡ suc n
one_on n = omega arith

-- slacks with names that are new and apart
slacks_lead : (model : ModelValue) (names : List (List ℕ)) (groups : List Group) (id n : ℕ)
    → AllPairs {X = List ℕ} (λ a b. a ≢ b) names → All (IsNewIn (variables_of groups)) names
    → Leads (with_groups model groups id n) (map edit_of_slack names)
    (with_groups model (groups ++ numbered_groups id n (map slack_group names))
    (id + length names) (n + length names))
unfolding edited
slacks_lead model [] groups id n apart new = record {
  passes = tt;
  is = λ i. with_groups model (sym (append-nil groups) i) (stay id i) (stay n i);
}
slacks_lead model (name ∷ names) groups id n apart new =
    let first : Group = record {
      id = id;
      vars = record { number = n; name = name } ∷ [];
      set = (slack_group name).set;
    } in
    let more : (k : ℕ) → (k + 1) + length names ≡ k + suc (length names) = λ k. omega arith in
    let one_set : IsSetOf 1 (slack_group name).set =
    record { dimension = refl; enough = omega arith; uncrossed = refl } in
    let later : All (IsNewIn (variables_of (groups ++ first ∷ []))) names =
    subst (λ vs. All (IsNewIn vs) names)
    (sym (flat_map-append (λ (g : Group). g.vars) groups (first ∷ [])))
    (later_new name n (variables_of groups) names apart new) in
    leads_first (edit_of_slack name) (map edit_of_slack names) (with_groups model groups id n)
    (with_groups model (groups ++ first ∷ []) (id + 1) (n + 1)) _
    (group_passes (with_groups model groups id n) (name ∷ []) (slack_group name).set one_set
    (All-cons (IsNewIn (variables_of groups)) name []
    (All-head (IsNewIn (variables_of groups)) name names new)
    (All-nil (IsNewIn (variables_of groups))))
    (AllPairs-cons (λ a b. a ≢ b) name [] (All-nil (λ b. name ≢ b))
    (AllPairs-nil (λ a b. a ≢ b))))
    refl
    (subst (Leads (with_groups model (groups ++ first ∷ []) (id + 1) (n + 1))
    (map edit_of_slack names))
    (λ i. with_groups model
    ((append_assoc groups (first ∷ []) (numbered_groups (id + 1) (n + 1) (map slack_group names))
    ∙ ap (λ k. groups ++ first ∷ numbered_groups k (n + 1) (map slack_group names)) (one_on id)) i)
    (more id i) (more n i))
    (slacks_lead model names (groups ++ first ∷ []) (id + 1) (n + 1)
    (AllPairs-tail (λ a b. a ≢ b) name names apart) later))

-- ---- variables found by name

abbrev address_in : List GroupVar → List ℕ → Address
address_in vars name =
    variable_address (unwrap_or (option_map (λ (v : GroupVar). v.number)
    (find (λ (v : GroupVar). bytes_eq v.name name) vars)) 0)

found_behind : (vars : List GroupVar) (n : ℕ) (name : List ℕ) (others : List GroupVar)
    → IsNewIn vars name → address_in (vars ++ record { number = n; name = name } ∷ others) name
    ≡ variable_address n
found_behind [] n name others free =
    ap (λ b. variable_address (unwrap_or (option_map (λ (v : GroupVar). v.number)
    (cond b (Some (record { number = n; name = name }))
    (find (λ (v : GroupVar). bytes_eq v.name name) others))) 0))
    ((bytes_eq-Decides name name).1 refl)
found_behind (v ∷ vars) n name others free =
    ap (λ b. variable_address (unwrap_or (option_map (λ (v : GroupVar). v.number)
    (cond b (Some v) (find (λ (v : GroupVar). bytes_eq v.name name)
    (vars ++ record { number = n; name = name } ∷ others)))) 0))
    (other_name v.name name (All-head (λ (v : GroupVar). v.name ≢ name) v vars free))
    ∙ found_behind vars n name others (All-tail (λ (v : GroupVar). v.name ≢ name) v vars free)

-- names that are new and apart are found where they are put
found_each : (names : List (List ℕ)) (n : ℕ) (vars : List GroupVar)
    → AllPairs {X = List ℕ} (λ a b. a ≢ b) names → All (IsNewIn vars) names
    → map (address_in (vars ++ numbered_from n names)) names ≡ addresses_from n (length names)
found_each [] n vars apart new = refl
found_each (name ∷ names) n vars apart new =
    let first : GroupVar = record { number = n; name = name } in
    ap₂ (λ a others. a ∷ others)
    (found_behind vars n name (numbered_from (suc n) names) (All-head (IsNewIn vars) name names new))
    (ap (λ vs. map (address_in vs) names)
    (sym (append_assoc vars (first ∷ []) (numbered_from (suc n) names)))
    ∙ found_each names (suc n) (vars ++ first ∷ [])
    (AllPairs-tail (λ a b. a ≢ b) name names apart) (later_new name n vars names apart new))

-- a variable of the name is there
there_behind : (vars : List GroupVar) (n : ℕ) (name : List ℕ) (others : List GroupVar)
    → is_one_named (vars ++ record { number = n; name = name } ∷ others) name ≡ true
there_behind [] n name others =
    ap (λ b. is_some (option_map (λ (v : GroupVar). v.number)
    (cond b (Some (record { number = n; name = name }))
    (find (λ (v : GroupVar). bytes_eq v.name name) others))))
    ((bytes_eq-Decides name name).1 refl)
there_behind (v ∷ vars) n name others =
    named_first (bytes_eq v.name name) v
    (find (λ (v : GroupVar). bytes_eq v.name name)
    (vars ++ record { number = n; name = name } ∷ others))
    (there_behind vars n name others)

there_each : (names : List (List ℕ)) (n : ℕ) (vars : List GroupVar)
    → All (λ name. is_one_named (vars ++ numbered_from n names) name ≡ true) names
there_each [] n vars = All-nil (λ name. is_one_named (vars ++ numbered_from n []) name ≡ true)
there_each (name ∷ names) n vars =
    let first : GroupVar = record { number = n; name = name } in
    All-cons (λ other. is_one_named (vars ++ first ∷ numbered_from (suc n) names) other ≡ true) name
    names (there_behind vars n name (numbered_from (suc n) names))
    (subst (λ vs. All (λ other. is_one_named vs other ≡ true) names)
    (append_assoc vars (first ∷ []) (numbered_from (suc n) names))
    (there_each names (suc n) (vars ++ first ∷ [])))

variables_in : (id n : ℕ) (names : List (List ℕ))
    → variables_of (numbered_groups id n (map slack_group names)) ≡ numbered_from n names
variables_in id n [] = refl
variables_in id n (name ∷ names) =
    ap (λ vs. record { number = n; name = name } ∷ vs)
    (variables_in (suc id) (n + 1) names ∙ ap (λ m. numbered_from m names) (one_on n))

-- ---- the objective

-- where the keys rise it makes no difference that the first of each key counts
gathered_is : (ts : List (Address × Rational)) (k : Rational) → RiseStrictly ts
    → gathered {R = address_cmp} ts k ≡ function_of ts k
unfolding gathered
gathered_is ts k rise =
    same_coefficients address_order (gathered ts k) (function_of ts k)
    (λ v. coefficient-gathered address_order ts k v
    ∙ sym (coefficient-function_of address_order ts k v rise))
    (constant-function_of address_cmp _ k ∙ sym (constant-function_of address_cmp ts k))

sum_terms : (model : ModelValue) (n : ℕ) (names : List (List ℕ))
    → map (address_named model) names ≡ addresses_from n (length names)
    → map (λ (t : NamedTerm). (address_named model t.variable, t.coefficient))
    (map slack_term names) ≡ terms_from n (replicate (length names) one_ℚ)
sum_terms model n [] located = refl
sum_terms model n (name ∷ names) located =
    ap₂ (λ (at : Address) ts. (at, one_ℚ) ∷ ts)
    (cons_head (address_named model name) (variable_address n) (map (address_named model) names)
    (addresses_from (suc n) (length names)) located)
    (sum_terms model (suc n) names
    (cons_tail (address_named model name) (variable_address n) (map (address_named model) names)
    (addresses_from (suc n) (length names)) located))

sum_made : (model : ModelValue) (n : ℕ) (names : List (List ℕ))
    → map (address_named model) names ≡ addresses_from n (length names)
    → edited model (edit_of_sum names)
    ≡ record model { objective = objective.Affine Min (sum_from n (length names)) }
unfolding edited
sum_made model n names located =
    ap (λ (f : Function). record model { objective = objective.Affine Min f })
    (ap (λ ts. gathered ts zero_ℚ) (sum_terms model n names located)
    ∙ gathered_is (terms_from n (replicate (length names) one_ℚ)) zero_ℚ
    (terms_rise n (replicate (length names) one_ℚ)))

sum_names : (names : List (List ℕ)) → map (λ (t : NamedTerm). t.variable) (map slack_term names) ≡ names
sum_names [] = refl
sum_names (name ∷ names) = ap (λ ns. name ∷ ns) (sum_names names)

sum_leads : (model : ModelValue) (n : ℕ) (names : List (List ℕ)) → AreKnown model names
    → map (address_named model) names ≡ addresses_from n (length names)
    → Leads model (edit_of_sum names ∷ [])
    (record model { objective = objective.Affine Min (sum_from n (length names)) })
sum_leads model n names known located =
    leads_first (edit_of_sum names) [] model
    (record model { objective = objective.Affine Min (sum_from n (length names)) }) _
    (record {
      known = or_from _ _
          (none_passes (λ name. not (has_variable_named model name))
          (map (λ (t : NamedTerm). t.variable) (map slack_term names))
          (subst (All (λ name. not (has_variable_named model name) ≡ false))
          (sym (sum_names names))
          (All-weaker (λ name. has_variable_named model name ≡ true)
          (λ name. not (has_variable_named model name) ≡ false) (λ name e. ap not e) names known)))
          refl;
      free = refl;
      shaped = refl;
      dimension = refl;
      output = refl;
      interval = refl;
      lower = refl;
      upper = refl;
      of_type = refl;
      deletable = refl;
    })
    (sum_made model n names located)
    (leads_none (record model { objective = objective.Affine Min (sum_from n (length names)) }))

-- ---- the model

module _ (model : ModelValue) (valid : IsValid model) where
  abbrev names : List (List ℕ)
  names = slack_names model

  abbrev first : ℕ
  first = model.next.variable

  abbrev slacks : List Group
  slacks = numbered_groups model.next.group first (map slack_group names)

  abbrev base : ModelValue
  base = with_groups model (model.groups ++ slacks) (model.next.group + length names)
      (first + length names)

  small : slack_count model.rows < 2 ^ 64
  small = omega (arith, few_slacks model.rows, valid.within.rows)

  few : length (variables model) < 2 ^ 64
  few = omega (arith, valid.within.variables)

  pub names_are_distinct : IsDistinct bytes_eq (slack_names model)
  names_are_distinct = names_distinct model (slack_count model.rows) few small

  apart : AllPairs {X = List ℕ} (λ a b. a ≢ b) names
  apart = names_apart model (slack_count model.rows) few small

  new : All (IsNewIn (variables model)) names
  new =
      All-weaker (IsNameFree model) (IsNewIn (variables model)) (λ name. free_variable model name) names
      (names_free model (slack_count model.rows) few small)

  variables_are : variables base ≡ variables model ++ numbered_from first names
  variables_are =
      flat_map-append (λ (g : Group). g.vars) model.groups slacks
      ∙ ap (λ vs. variables model ++ vs) (variables_in model.next.group first names)

  located : map (address_named base) names ≡ addresses_from first (length names)
  located =
      ap (λ vs. map (address_in vs) names) variables_are
      ∙ found_each names first (variables model) apart new

  known : AreKnown base names
  known =
      subst (λ vs. All (λ name. is_one_named vs name ≡ true) names) (sym variables_are)
      (there_each names first (variables model))

  behind : AreBehind [] model.rows
  behind = record {
    rise = valid.consistent.rows_rise;
    low = λ k d end. All-nil (λ (s : Row). s.id < (slice_index_or model.rows k d).id);
    apart = valid.consistent.row_names;
    other = λ k d end. All-nil (λ (s : Row). s.name ≢ (slice_index_or model.rows k d).name);
  }

  all_lead : Leads model (relaxed_edits model) (relaxed_model model)
  all_lead =
      let count : length names ≡ slack_count model.rows =
      length-free_names model (slack_count model.rows) 1 (slack_count model.rows) in
      let rows : ModelValue = with_rows base (relaxed_rows first model.rows) in
      leads_both (map edit_of_slack names) (edits_of_rows model.rows names ++ edit_of_sum names ∷ [])
      model base (relaxed_model model)
      (slacks_lead model names model.groups model.next.group first apart new)
      (leads_both (edits_of_rows model.rows names) (edit_of_sum names ∷ []) base rows
      (relaxed_model model)
      (rows_lead base model.rows [] first names behind count known located)
      (subst (Leads rows (edit_of_sum names ∷ []))
      (ap (λ k. record {
        groups = model.groups ++ slacks;
        rows = relaxed_rows first model.rows;
        objective = objective.Affine Min (sum_from first k);
        next = record model.next { group = model.next.group + k; variable = first + k };
      }) count)
      (sum_leads rows first names known located)))

  -- what the edits lead to, where none is refused
  pub leads_to_relaxed : (m : ModelValue) → after_edits model (relaxed_edits model) ≡ Ok m
      → m ≡ relaxed_model model
  leads_to_relaxed m e = made_after (relaxed_edits model) model m e ∙ all_lead.is

  -- and where one is, a limit is passed
  pub limits_of_relaxed : LimitsAlone model (relaxed_edits model)
  limits_of_relaxed = limits_alone (relaxed_edits model) model all_lead.passes

  -- the names that the code finds
  pub names_are : (rows : List Row) (count : ℕ) (found : List (List ℕ)) → rows ≡ model.rows
      → count ≡ slack_count rows → found ≡ free_names model count 1 count
      → found ≡ slack_names model
  names_are rows count found same counted is =
      is ∙ ap (λ k. free_names model k 1 k) (counted ∙ ap slack_count same)

  pub count_is_small : (rows : List Row) → rows ≡ model.rows → slack_count rows ≤ 131070
  count_is_small rows same =
      omega (arith, few_slacks rows, ap length same, valid.within.rows)

  pub names_count : length (slack_names model) ≡ slack_count model.rows
  names_count = length-free_names model (slack_count model.rows) 1 (slack_count model.rows)

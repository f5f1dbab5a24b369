-- Which addresses a function mentions: those of its names, those that a change leaves, and those of
-- variables that stand.
use Rattle.std.specs.Prelude.{◌≡◌, ◌≢◌, ◌⊎◌, ℕ, zero, suc, ◌-◌, Bool, true, false, ◌||◌, not, cond, List, [], ◌∷◌, Some, None, IsSome, filter, find, is_some, map, unwrap_or, refl}
use Rattle.std.specs.List.{list_any}
use Rattle.std.specs.FinMap as finite
use Rattle.std.specs.FinMap.{FinMap}
use Rattle.std.proofs.Common.{sym, ap, subst, inl, inr, ◌∙◌}
use Rattle.std.proofs.lemmas.Bool.{both_ways, cases_Bool, not-false, or_parts, or_right}
use Rattle.std.proofs.lemmas.List.Folds.{list_any-append}
use Rattle.ratio_core.specs.Rational.{Rational, rational_eq, zero_ℚ}
use Rattle.aff_core.specs.Address.{Address, address_cmp, address_eq, address_eq-Decides, address_total}
use Rattle.aff_core.specs.Function.{Function, gathered, with_coefficient}
use Rattle.aff_core.specs.FunctionLaws.{entries_rise, terms-function_of, terms-with_coefficient}
use Rattle.aff_core.specs.KeyOrder.{address_order}
use Rattle.aff_core.specs.Terms.{is_nonzero}
use Rattle.named_aff.specs.declared.aff.NamedAff.{NamedAff}
use Rattle.named_aff.specs.declared.terms.NamedTerm.{NamedTerm}
use Rattle.user_model.specs.declared.edit.NamedFunc.{NamedFunc}
use Rattle.user_model.specs.declared.edit.NamedFunc.TheVariants as named
use Rattle.user_model.specs.declared.function.UserFunc.{UserFunc}
use Rattle.user_model.specs.declared.function.UserFunc.TheVariants.{Affine, AffineVec}
use Rattle.user_model.specs.declared.group.Group.{Group}
use Rattle.user_model.specs.declared.objective.Objective.{Objective}
use Rattle.user_model.specs.declared.objective.Objective.TheVariants as objective
use Rattle.aff_core.specs.declared.sense.Sense.{Sense}
use Rattle.user_model.specs.Functions.{func_mentions, has_term, mentioned, names_of}
use Rattle.user_model.specs.Model.{ModelValue, address_named, has_variable, objective_mentions, variable_address, variable_named}
use Rattle.user_model.specs.Deletion.{without_address, without_term}
use Rattle.user_model.specs.Edited.{affine, changed_at, located, objective_of, on_affine, on_objective, on_output}
use Rattle.user_model.specs.Valid.{Stands}
use Rattle.model_laws.specs.Found.{something}
use Rattle.model_laws.specs.Located.{named_stands}
use Rattle.model_laws.specs.Needed.{unknown}
use Rattle.model_laws.specs.Mentions.{without_mentions_none}

-- ---- terms

-- what is found among the entries that pass a test is found among all
found_before : (p : Address × Rational → Bool) (q : Address) (es : List (Address × Rational))
    → is_some (finite.find address_cmp q (filter p es)) ≡ true
    → is_some (finite.find address_cmp q es) ≡ true
found_before p q [] e = e
found_before p q (t ∷ ts) e =
    elim (cases_Bool (address_eq q t.0)) [
      | inl here ↦ ap (λ b. is_some (cond b (Some t.1) (finite.find address_cmp q ts))) here
      | inr other ↦
          ap (λ b. is_some (cond b (Some t.1) (finite.find address_cmp q ts))) other
          ∙ found_before p q ts (later other (p t) e)
    ]
  where
    later : address_eq q t.0 ≡ false → (b : Bool)
        → is_some (finite.find address_cmp q (cond b (t ∷ filter p ts) (filter p ts))) ≡ true
        → is_some (finite.find address_cmp q (filter p ts)) ≡ true
    later other true e = sym (ap (λ b. is_some (cond b (Some t.1)
        (finite.find address_cmp q (filter p ts)))) other) ∙ e
    later other false e = e

-- a term of a function that is gathered is of one of the addresses
gathered_term : (q : Address) (ts : List (Address × Rational)) (constant : Rational)
    → has_term q (gathered ts constant) ≡ true → is_some (finite.find address_cmp q ts) ≡ true
unfolding gathered
gathered_term q ts constant e =
    let all : FinMap address_cmp Rational = finite.from_entries ts in
    let is : finite.entries (gathered ts constant).terms ≡ filter is_nonzero (finite.entries all) =
    terms-function_of (finite.entries all) constant (entries_rise all) in
    let found = sym (ap is_some (finite.get-entries (gathered ts constant).terms q
    ∙ ap (finite.find address_cmp q) is)) ∙ e in
    ap is_some (sym (finite.get-from_entries address_total ts q) ∙ finite.get-entries all q)
    ∙ found_before is_nonzero q (finite.entries all) found

-- a term of a function with a coefficient set is of that address, or was there
pub with_term : (f : Function) (at : Address) (value : Rational) (q : Address)
    → has_term q (with_coefficient f at value) ≡ true → (q ≡ at) ⊎ (has_term q f ≡ true)
with_term f at value q e =
    elim (cases_Bool (address_eq q at)) [
      | inl same ↦ inl ((address_eq-Decides q at).0 same)
      | inr other ↦ inr (by_value (rational_eq value zero_ℚ) other
          (subst (λ m. is_some (finite.get m q) ≡ true)
          (terms-with_coefficient address_order f at value) e))
    ]
  where
    by_value : (b : Bool) → address_eq q at ≡ false
        → is_some (finite.get (cond b (finite.remove f.terms at) (finite.insert f.terms at value))
        q) ≡ true → is_some (finite.get f.terms q) ≡ true
    by_value true other e = sym (ap is_some (finite.get-remove address_total f.terms at q
        ∙ ap (λ b. cond b None (finite.get f.terms q)) other)) ∙ e
    by_value false other e = sym (ap is_some (finite.get-insert address_total f.terms at value q
        ∙ ap (λ b. cond b (Some value) (finite.get f.terms q)) other)) ∙ e

-- ---- changes of functions that mention nothing new but what is allowed

-- each address that the function mentions after the change is allowed, or was mentioned
pub record MentionsOnly (allowed : Address → Type 0) (h : Function → Function) : Type 0 where
  pub only : (f : Function) (q : Address) → has_term q (h f) ≡ true
      → allowed q ⊎ (has_term q f ≡ true)

pub constant_only : (allowed : Address → Type 0) (value : Rational)
    → MentionsOnly allowed (λ f. record f { constant = value })
constant_only allowed value = record { only = λ f q e. inr e }

module _ (allowed : Address → Type 0) (h : Function → Function)
    (only : MentionsOnly allowed h) where
  changed_terms_only : (i : ℕ) (fs : List Function) (q : Address)
      → list_any (has_term q) (changed_at i h fs) ≡ true
      → allowed q ⊎ (list_any (has_term q) fs ≡ true)
  changed_terms_only i [] q e = inr e
  changed_terms_only zero (f ∷ fs) q e =
      elim (cases_Bool (has_term q (h f))) [
        | inl has ↦ elim (only.only f q has) [
          | inl may ↦ inl may
          | inr was ↦ inr (ap (λ b. b || list_any (has_term q) fs) was)
        ]
        | inr lacks ↦ inr (or_right (has_term q f) (list_any (has_term q) fs)
            (sym (ap (λ b. b || list_any (has_term q) fs) lacks) ∙ e))
      ]
  changed_terms_only (suc i) (f ∷ fs) q e =
      elim (cases_Bool (has_term q f)) [
        | inl has ↦ inr (ap (λ b. b || list_any (has_term q) fs) has)
        | inr lacks ↦
            elim (changed_terms_only i fs q
            (sym (ap (λ b. b || list_any (has_term q) (changed_at i h fs)) lacks) ∙ e)) [
              | inl may ↦ inl may
              | inr was ↦ inr (ap (λ b. b || list_any (has_term q) fs) lacks ∙ was)
            ]
      ]

  pub affine_only : (func : UserFunc) (q : Address) → func_mentions q (on_affine h func) ≡ true
      → allowed q ⊎ (func_mentions q func ≡ true)
  affine_only (Affine f) q e = only.only f q e
  affine_only _ q e = inr e

  pub output_only : (output : ℕ) (func : UserFunc) (q : Address)
      → func_mentions q (on_output output h func) ≡ true → allowed q ⊎ (func_mentions q func ≡ true)
  output_only output (AffineVec fs) q e = changed_terms_only (output - 1) fs q e
  output_only output _ q e = inr e

  pub objective_only : (o : Objective) (q : Address)
      → objective_mentions q (on_objective h o) ≡ true → allowed q ⊎ (objective_mentions q o ≡ true)
  objective_only objective.Feasibility q e = inr e
  objective_only (objective.Plain sense var) q e = inr e
  objective_only (objective.Affine sense f) q e = only.only f q e

-- ---- variables that stand

module _ (groups others : List Group) where
  -- where each variable of the groups stands among others, so does each address
  pub stands_along : ((n : ℕ) → IsSome (find (has_variable n) groups)
      → IsSome (find (has_variable n) others)) → (at : Address) → Stands groups at
      → Stands others at
  stands_along along at s =
      record { number = s.number; address = s.address; group = along s.number s.group }

module _ (model : ModelValue) where
  -- each name is of a variable that stands
  pub name_stands : (name : List ℕ) → unknown model name ≡ false
      → Stands model.groups (address_named model name)
  name_stands name known =
      let at = something (variable_named model name)
      (not-false (is_some (variable_named model name)) known) in
      record {
        number = at.0;
        address = ap (λ o. variable_address (unwrap_or o 0)) at.1;
        group = named_stands model name at.0 at.1;
      }

  term_stands : (ts : List NamedTerm) → list_any (unknown model) (map (λ t. t.variable) ts) ≡ false
      → (q : Address)
      → is_some (finite.find address_cmp q (map (λ t.
      (address_named model t.variable, t.coefficient)) ts)) ≡ true → Stands model.groups q
  term_stands [] known q e = absurd (both_ways false refl e)
  term_stands (t ∷ ts) known q e =
      let parts = or_parts (unknown model t.variable)
      (list_any (unknown model) (map (λ t. t.variable) ts)) known in
      elim (cases_Bool (address_eq q (address_named model t.variable))) [
        | inl here ↦ subst (Stands model.groups) (sym
            ((address_eq-Decides q (address_named model t.variable)).0 here))
            (name_stands t.variable parts.0)
        | inr other ↦
            term_stands ts parts.1 q (sym (ap (λ b. is_some
            (cond b (Some t.coefficient) (finite.find address_cmp q
            (map (λ t. (address_named model t.variable, t.coefficient)) ts)))) other) ∙ e)
      ]

  affine_stands : (f : NamedAff) → list_any (unknown model) (names_of f) ≡ false → (q : Address)
      → has_term q (affine model f) ≡ true → Stands model.groups q
  affine_stands f known q e =
      term_stands f.terms known q (gathered_term q (map
      (λ t. (address_named model t.variable, t.coefficient)) f.terms) f.constant e)

  plain_stands : (name : List ℕ) → unknown model name ≡ false → (q : Address)
      → address_eq q (address_named model name) ≡ true → Stands model.groups q
  plain_stands name known q e = subst (Stands model.groups)
      (sym ((address_eq-Decides q (address_named model name)).0 e)) (name_stands name known)

  vars_stand : (names : List (List ℕ)) → list_any (unknown model) names ≡ false → (q : Address)
      → list_any (address_eq q) (map (address_named model) names) ≡ true → Stands model.groups q
  vars_stand [] known q e = absurd (both_ways false refl e)
  vars_stand (name ∷ names) known q e =
      let parts = or_parts (unknown model name) (list_any (unknown model) names) known in
      elim (cases_Bool (address_eq q (address_named model name))) [
        | inl here ↦ plain_stands name parts.0 q here
        | inr other ↦ vars_stand names parts.1 q (sym
            (ap (λ b. b || list_any (address_eq q) (map (address_named model) names)) other) ∙ e)
      ]

  affines_stand : (fs : List NamedAff)
      → list_any (unknown model) (mentioned (named.AffineVec fs)) ≡ false → (q : Address)
      → list_any (has_term q) (map (affine model) fs) ≡ true → Stands model.groups q
  affines_stand [] known q e = absurd (both_ways false refl e)
  affines_stand (f ∷ fs) known q e =
      let parts = or_parts (list_any (unknown model) (names_of f))
      (list_any (unknown model) (mentioned (named.AffineVec fs)))
      (sym (list_any-append (unknown model) (names_of f) (mentioned (named.AffineVec fs)))
      ∙ known) in
      elim (cases_Bool (has_term q (affine model f))) [
        | inl here ↦ affine_stands f parts.0 q here
        | inr other ↦ affines_stand fs parts.1 q (sym
            (ap (λ b. b || list_any (has_term q) (map (affine model) fs)) other) ∙ e)
      ]

  -- a function by name mentions variables that stand
  pub function_stands : (func : NamedFunc) → list_any (unknown model) (mentioned func) ≡ false
      → (q : Address) → func_mentions q (located model func) ≡ true → Stands model.groups q
  function_stands (named.Plain var) known q e =
      plain_stands var (or_parts (unknown model var) false known).0 q e
  function_stands (named.Affine f) known q e = affine_stands f known q e
  function_stands (named.PlainVec vars) known q e = vars_stand vars known q e
  function_stands (named.AffineVec fs) known q e = affines_stand fs known q e

  pub objective_stands : (sense : Sense) (func : NamedFunc)
      → list_any (unknown model) (mentioned func) ≡ false → (q : Address)
      → objective_mentions q (objective_of model sense func) ≡ true → Stands model.groups q
  objective_stands sense (named.Plain var) known q e =
      plain_stands var (or_parts (unknown model var) false known).0 q e
  objective_stands sense (named.Affine f) known q e = affine_stands f known q e
  objective_stands sense (named.PlainVec vars) known q e = absurd (both_ways false refl e)
  objective_stands sense (named.AffineVec fs) known q e = absurd (both_ways false refl e)

-- ---- functions without a variable

pub without_term_mentions : (at : Address) (f : Function) (q : Address)
    → has_term q (without_term at f) ≡ true → (q ≢ at) × (has_term q f ≡ true)
without_term_mentions at f q e = (off, was)
  where
    off : q ≢ at
    off same = both_ways (has_term q (without_term at f))
        (subst (λ a. has_term a (without_term at f) ≡ false) (sym same)
        (without_mentions_none at f)) e

    was : has_term q f ≡ true
    was = elim (with_term f at zero_ℚ q e) [ inl same ↦ absurd (off same) | inr there ↦ there ]

pub without_terms_mention : (at : Address) (fs : List Function) (q : Address)
    → list_any (has_term q) (map (without_term at) fs) ≡ true
    → (q ≢ at) × (list_any (has_term q) fs ≡ true)
without_terms_mention at [] q e = absurd (both_ways false refl e)
without_terms_mention at (f ∷ fs) q e =
    elim (cases_Bool (has_term q (without_term at f))) [
      | inl here ↦
          let is = without_term_mentions at f q here in
          (is.0, ap (λ b. b || list_any (has_term q) fs) is.1)
      | inr other ↦
          let is = without_terms_mention at fs q (sym (ap
          (λ b. b || list_any (has_term q) (map (without_term at) fs)) other) ∙ e) in
          (is.0, or_right (has_term q f) (list_any (has_term q) fs) is.1)
    ]

pub without_vars_mention : (at : Address) (vars : List Address) (q : Address)
    → list_any (address_eq q) (without_address at vars) ≡ true
    → (q ≢ at) × (list_any (address_eq q) vars ≡ true)
without_vars_mention at [] q e = absurd (both_ways false refl e)
without_vars_mention at (var ∷ vars) q e =
    by_kept (λ e. let is = without_vars_mention at vars q e in
    (is.0, or_right (address_eq q var) (list_any (address_eq q) vars) is.1)) (address_eq at var)
    refl e
  where
    by_kept : (list_any (address_eq q) (without_address at vars) ≡ true
        → (q ≢ at) × ((address_eq q var || list_any (address_eq q) vars) ≡ true)) → (b : Bool)
        → address_eq at var ≡ b
        → list_any (address_eq q) (cond (not b) (var ∷ without_address at vars)
        (without_address at vars)) ≡ true
        → (q ≢ at) × ((address_eq q var || list_any (address_eq q) vars) ≡ true)
    by_kept later true same e = later e
    by_kept later false other e =
        elim (cases_Bool (address_eq q var)) [
          | inl here ↦ (
            λ is. both_ways (address_eq at var) other ((address_eq-Decides at var).1
                (sym is ∙ (address_eq-Decides q var).0 here)),
            ap (λ b. b || list_any (address_eq q) vars) here,
          )
          | inr off ↦ later (sym (ap (λ b. b || list_any (address_eq q) (without_address at vars))
              off) ∙ e)
        ]

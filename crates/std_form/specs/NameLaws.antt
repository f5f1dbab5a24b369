-- Addresses in place of indices, of which no two addresses have one: the address of an index, and
-- functions with their coefficients.
use Rattle.std.specs.Prelude.{◌≡◌, ℕ, zero, suc, ◌==◌, Bool, true, false, T, cond, List, [], ◌∷◌, All, Option, Some, None, map, slice_get, unwrap_or, refl}
use Rattle.std.specs.FinMap as finite
use Rattle.std.specs.FinMap.{is_sorted, nat_cmp-IsAntisymmetric}
use Rattle.std.specs.FinMap.Entries.{below_all, find}
use Rattle.std.specs.List as list
use Rattle.std.specs.Cmp.{nat_cmp_total}
use Rattle.std.specs.Option.{option_map}
use Rattle.std.specs.Ordering.{eq_by_cmp, nat_cmp}
use Rattle.std.proofs.Common.{sym, ◌∙◌, ap, ap₂, subst, true≢false}
use Rattle.std.proofs.lemmas.Bool.{eq-eqb, eqb-true}
use Rattle.std.proofs.lemmas.List.Elements.{All-cons, All-head, All-nil, All-tail, All-weaker}
use Rattle.std.proofs.lemmas.Option.{none-some, same_Some}
use Rattle.ratio_core.specs.Rational.{Rational, one_ℚ, zero_ℚ}
use Rattle.address_map.specs.Places.{AreIndicesOneToOne, Indices}
use Rattle.aff_core.specs.Address.{Address, address_cmp, address_eq, address_eq-Decides, root_address}
use Rattle.aff_core.specs.declared.root.Root.TheVariants.{Variable}
use Rattle.aff_core.specs.Function.{coefficient, gathered, terms_of, variable}
use Rattle.aff_core.specs.FunctionLaws.{coefficient-function_of, coefficient-gathered, coefficient_in-terms_of, constant-function_of, constant-variable, same_coefficients, terms-variable}
use Rattle.aff_core.specs.KeyOrder.{IsKeyOrder, address_order, key_eq-Decides, same_key}
use Rattle.leaf_model.specs.ReadThrough.{address_in, named}
use Rattle.map_laws.specs.EntryLaws.{find_below}
use Rattle.map_laws.specs.PlaceLaws.{none_passes, place_of_found}
use Rattle.map_laws.specs.TestLaws.{first, second}
use Rattle.solver_store.specs.SolverFunction.{SolverFunction}

pub index_order : IsKeyOrder nat_cmp
index_order = record { total = nat_cmp_total; exact = nat_cmp-IsAntisymmetric }

-- ---- variables and constant functions

gathered_one : (a : Address) → gathered {R = address_cmp} ((a, one_ℚ) ∷ []) zero_ℚ ≡ variable a
unfolding gathered variable
gathered_one a =
    same_coefficients address_order (gathered {R = address_cmp} ((a, one_ℚ) ∷ []) zero_ℚ)
    (variable a)
    (λ v. coefficient-gathered address_order ((a, one_ℚ) ∷ []) zero_ℚ v
    ∙ sym (coefficient-function_of address_order ((a, one_ℚ) ∷ []) zero_ℚ v
    (record { rising = refl })))
    (constant-function_of address_cmp _ zero_ℚ
    ∙ sym (constant-function_of address_cmp ((a, one_ℚ) ∷ []) zero_ℚ))

-- ---- entries and what is found at their keys

module _ {X : Type 0} where
  abbrev pub IsFoundIn : List (Address × X) → Address × X → Type 0
  IsFoundIn es e = find address_cmp e.0 es ≡ Some e.1

  later_found : (e : Address × X) (es : List (Address × X)) → T (below_all address_cmp e.0 es)
      → (f : Address × X) → IsFoundIn es f → IsFoundIn (e ∷ es) f
  later_found e es h f found = by_test (address_eq f.0 e.0) refl
    where
      by_test : (b : Bool) → address_eq f.0 e.0 ≡ b
          → cond b (Some e.1) (find address_cmp f.0 es) ≡ Some f.1
      by_test true t =
          absurd (none-some f.1 (sym (find_below address_cmp f.0 es
          (subst (λ a. T (below_all address_cmp a es)) (sym ((address_eq-Decides f.0 e.0).0 t))
          h)) ∙ found))
      by_test false t = found

  pub all_found : (es : List (Address × X)) → T (is_sorted address_cmp es) → All (IsFoundIn es) es
  all_found [] h = All-nil (IsFoundIn [])
  all_found (e ∷ es) h =
      All-cons (IsFoundIn (e ∷ es)) e es (ap (λ b. cond b (Some e.1) (find address_cmp e.0 es))
      (same_key address_order e.0))
      (All-weaker (IsFoundIn es) (IsFoundIn (e ∷ es)) (later_found e es (first _ _ h)) es
      (all_found es (second _ _ h)))

  -- what is found stands at a place
  pub found_place : (es : List (Address × X)) (a : Address) (x : X) → find address_cmp a es ≡ Some x
      → (k : ℕ) × (slice_get es k ≡ Some (a, x))
  found_place [] a x h = absurd (none-some x h)
  found_place (e ∷ es) a x h = by_test (found_place es a x) (address_eq a e.0) refl h
    where
      by_test : (find address_cmp a es ≡ Some x → (k : ℕ) × (slice_get es k ≡ Some (a, x)))
          → (b : Bool) → address_eq a e.0 ≡ b → cond b (Some e.1) (find address_cmp a es) ≡ Some x
          → (k : ℕ) × (slice_get (e ∷ es) k ≡ Some (a, x))
      by_test rest true t is =
          (0, λ i. Some (sym ((address_eq-Decides a e.0).0 t) i, same_Some e.1 x is i))
      by_test rest false t is = let later = rest is in (suc later.0, later.1)

  pub at_place : (P : Address × X → Type 0) (es : List (Address × X)) (k : ℕ) (e : Address × X)
      → All P es → slice_get es k ≡ Some e → P e
  at_place P [] k e h at = absurd (none-some e at)
  at_place P (f ∷ es) zero e h at = subst P (same_Some f e at) (All-head P f es h)
  at_place P (f ∷ es) (suc k) e h at = at_place P es k e (All-tail P f es h) at

-- ---- addresses of indices

module _ (indices : Indices) where
  abbrev pub IsEntry : Address × ℕ → Type 0
  IsEntry e = finite.get indices e.0 ≡ Some e.1

  -- each entry is found at its address
  pub entries_found : All IsEntry (finite.entries indices)
  entries_found =
      All-weaker (IsFoundIn (finite.entries indices)) IsEntry
      (λ e h. finite.get-entries indices e.0 ∙ h) (finite.entries indices)
      (all_found (finite.entries indices) (finite.entries_sorted indices))

  -- the address of an index
  pub address_in_is : AreIndicesOneToOne indices → (at : Address) (i : ℕ)
      → finite.get indices at ≡ Some i
      → address_in indices i ≡ at
  address_in_is one at i h = by_found (list.find (λ e. e.1 == i) (finite.entries indices)) refl
    where
      by_found : (o : Option (Address × ℕ)) → list.find (λ e. e.1 == i) (finite.entries indices) ≡ o
          → unwrap_or (option_map (λ e. e.0) o) (root_address Variable i) ≡ at
      by_found (Some e) is =
          let place = place_of_found (λ e. e.1 == i) (finite.entries indices) e is in
          one e.0 at i (at_place IsEntry (finite.entries indices) place.1.0 e entries_found
          place.1.1 ∙ ap Some (eqb-true e.1 i place.0)) h
      by_found None is =
          let place = found_place (finite.entries indices) at i
          (sym (finite.get-entries indices at) ∙ h) in
          absurd (true≢false (sym (eq-eqb i i refl)
          ∙ none_passes (λ e. e.1 == i) (finite.entries indices) place.0 (at, i) is place.1))

  -- some address has the index
  abbrev pub IsIndexNamed : ℕ → Type 0
  IsIndexNamed i = (at : Address) × (finite.get indices at ≡ Some i)

  abbrev pub IsTermIndexNamed : ℕ × Rational → Type 0
  IsTermIndexNamed t = IsIndexNamed t.0

  abbrev pub NamesNamed : SolverFunction → Type 0
  NamesNamed f = All IsTermIndexNamed (terms_of f)

  -- ---- functions

  module _ (one : AreIndicesOneToOne indices) where
    same_test : (at : Address) (i j : ℕ) → finite.get indices at ≡ Some i → IsIndexNamed j
        → address_eq at (address_in indices j) ≡ eq_by_cmp nat_cmp i j
    same_test at i j h n =
        by_test (eq_by_cmp nat_cmp i j) (address_eq at (address_in indices j)) refl refl
      where
        by_test : (b c : Bool) → eq_by_cmp nat_cmp i j ≡ b
            → address_eq at (address_in indices j) ≡ c → c ≡ b
        by_test true true e k = refl
        by_test false false e k = refl
        by_test true false e k =
            absurd (true≢false (sym ((address_eq-Decides at (address_in indices j)).1
            (sym (address_in_is one at j (h ∙ ap Some ((key_eq-Decides index_order i j).0 e)))))
            ∙ k))
        by_test false true e k =
            absurd (true≢false (sym ((key_eq-Decides index_order i j).1
            (same_Some i j (sym h
            ∙ ap (finite.get indices) ((address_eq-Decides at (address_in indices j)).0 k
            ∙ address_in_is one n.0 j n.1) ∙ n.1))) ∙ e))

    named_find : (at : Address) (i : ℕ) → finite.get indices at ≡ Some i
        → (ts : List (ℕ × Rational)) → All IsTermIndexNamed ts
        → find address_cmp at (map (λ t. (address_in indices t.0, t.1)) ts) ≡ find nat_cmp i ts
    named_find at i h [] n = refl
    named_find at i h (t ∷ ts) n =
        ap₂ (λ b o. cond b (Some t.1) o) (same_test at i t.0 h (All-head IsTermIndexNamed t ts n))
        (named_find at i h ts (All-tail IsTermIndexNamed t ts n))

    pub coefficient_named : (f : SolverFunction) (at : Address) (i : ℕ)
        → finite.get indices at ≡ Some i → NamesNamed f
        → coefficient (named indices f) at ≡ coefficient f i
    coefficient_named f at i h n =
        coefficient-gathered address_order (map (λ t. (address_in indices t.0, t.1)) (terms_of f))
        f.constant at
        ∙ ap (λ o. unwrap_or o zero_ℚ) (named_find at i h (terms_of f) n)
        ∙ coefficient_in-terms_of f i

  pub constant_named : (f : SolverFunction) → (named indices f).constant ≡ f.constant
  unfolding gathered
  constant_named f = constant-function_of address_cmp _ f.constant

  pub variable_named : (var : ℕ) → named indices (variable var) ≡ variable (address_in indices var)
  variable_named var =
      ap₂ (λ ts k. gathered {R = address_cmp} (map (λ t. (address_in indices t.0, t.1)) ts) k)
      (terms-variable nat_cmp var) (constant-variable nat_cmp var)
      ∙ gathered_one (address_in indices var)

-- Numbers added to the sums of all variables, step by step.
use Rattle.std.specs.Prelude.{◌≡◌, ℕ, ◌+◌, ◌<◌, ◌≤◌, T, Bool, true, false, cond, List, [], ◌∷◌, ◌++◌, map, length, All, Contains, Some, Result, Ok, Err, IsErrAnd, slice_get, unwrap_or, refl}
use Rattle.std.specs.FinMap.{find, get-entries, is_sorted}
use Rattle.std.proofs.Common.{sym, ◌∙◌, ap, ap₂, drop, get_or, set, subst}
use Rattle.std.proofs.Math.ListN.{drop_of_length-le}
use Rattle.std.proofs.lemmas.List.{get_or_default, length-map}
use Rattle.std.proofs.lemmas.List.Elements.{All-contains, All-contains_itself}
use Rattle.std.proofs.lemmas.Option.{slice_get_within}
use Rattle.ratio_core.specs.Folds.{sum_from}
use Rattle.ratio_core.specs.Rational.{Fits, Rational, SumFits, one_ℚ, zero_ℚ, ◌*ℚ◌, ◌+ℚ◌}
use Rattle.ratio_core.specs.declared.fault.NumberFault.{NumberFault}
use Rattle.ratio_core.specs.declared.fault.NumberFault.TheVariants.{Overflow, Memory}
use Rattle.ratio_core.specs.Answers.{ExactWhere}
use Rattle.ratio_core.specs.AnsweredLaws.{exact_as}
use Rattle.rational_laws.specs.Field.{*ℚ-zero, +ℚ-zero}
use Rattle.rational_laws.specs.Fitting.{Fits_zero}
use Rattle.map_laws.specs.EntryLaws.{find_below}
use Rattle.map_laws.specs.TestLaws.{first}
use Rattle.map_laws.specs.EachLaws.{map_same_on}
use Rattle.aff_core.specs.Address.{Address, address_cmp, address_eq, address_eq-Decides}
use Rattle.aff_core.specs.Function.{Function, coefficient, terms_of, variable}
use Rattle.aff_core.specs.FunctionLists.{coefficients}
use Rattle.aff_core.specs.KeyOrder.{address_order, same_key}
use Rattle.aff_core.specs.Terms.{StepFits}
use Rattle.cert_core.specs.Adding.{AddsAt, coefficient_among}
use Rattle.cert_core.specs.Folds.{AddUp, products}
use Rattle.certificates.specs.Points.{variables_at}
use Rattle.aff_core.specs.FunctionLaws.{terms-variable}
use Rattle.cert_core.specs.Variables.{Ascend}
use Rattle.cert_core.proofs.Parts.{no_products}
use Rattle.cert_core.proofs.Places.{distinct, set_at_place, stands, stands_there}
use Rattle.map_laws.specs.LoopLaws.{next_item}
use Rattle.cert_core.proofs.Steps.{made_there}
use Rattle.rational_laws.specs.ZeroSums.{SumFits-zero_right}
use Rattle.cert_core.proofs.Summed.{AddUp_one, Fits_sum, Fits_sum_from, SummedAsAll, step_of_one, summed_end, summed_refused, summed_step}

-- ---- parts of each variable, one after the other

-- the sums so far, from which what is left is as all
pub record AddedFrom (us : List Address) (sums : List Rational) (x : Address → Rational)
    (parts left : Address → List Rational) : Type 0 where
  pub now : Address → Rational
  pub is : sums ≡ map now us
  pub fit : All (λ v. Fits (now v)) us
  pub each : All (λ v. SummedAsAll (x v) (now v) (parts v) (left v)) us

abbrev pub AddsAsAll : List Address → List Rational → List Rational
    → (Address → List Rational) → (Address → List Rational) → Type 0
AddsAsAll us before sums parts left =
    (x : Address → Rational) → before ≡ map x us → All (λ v. Fits (x v)) us
    → AddedFrom us sums x parts left

module _ (us : List Address) (before : List Rational) (parts : Address → List Rational) where
  pub adds_end : (sums : List Rational) (left : Address → List Rational)
      → AddsAsAll us before sums parts left → ((v : Address) → left v ≡ [])
      → AddsAt (Ok tt) us before sums parts
  adds_end sums left h end = λ x is fit.
      let from = h x is fit in
      let ends : All (λ v. AddUp (x v) (parts v) × (from.now v ≡ sum_from (x v) (parts v))) us =
      λ k d lt. summed_end (x _) (from.now _) (parts _) (left _) (from.each k d lt) (end _) in (
        λ k d lt. (ends k d lt).0,
        from.is ∙ map_same_on from.now (λ v. sum_from (x v) (parts v)) us
            (λ k d lt. (ends k d lt).1),
      )

  module _ (sums : List Rational) (left now rest : Address → List Rational)
      (h : AddsAsAll us before sums parts left) (next : (v : Address)
      → left v ≡ now v ++ rest v) where
    pub adds_step : (done : List Rational) → AddsAt (Ok tt) us sums done now
        → AddsAsAll us before done parts rest
    adds_step done said = λ x is fit.
        let from = h x is fit in
        let added = said from.now from.is from.fit in
        record {
          now = λ v. sum_from (from.now v) (now v);
          is = added.1;
          fit = λ k d lt. Fits_sum_from (from.now _) (now _) (from.fit k d lt) (added.0 k d lt);
          each = λ k d lt. summed_step (x _) (from.now _) (parts _) (left _) (from.each k d lt)
              (now _) (rest _) (next _) (added.0 k d lt);
        }

    pub adds_refused : (e : NumberFault) (done after : List Rational)
        → AddsAt (Err e) us sums done now → AddsAt (Err e) us before after parts
    adds_refused Overflow done after said = λ x is fit all.
        let from = h x is fit in
        said from.now from.is from.fit (λ k d lt. summed_refused (x _) (from.now _) (parts _)
        (left _) (from.each k d lt) (now _) (rest _) (next _) (all k d lt))
    adds_refused Memory done after said = λ x is fit. tt

-- ---- the terms of one function, one after the other

-- the terms left of one variable are as all
pub record TermAsAll (start now by all left : Rational) : Type 0 where
  pub fit : Fits now
  pub value : now +ℚ by *ℚ left ≡ start +ℚ by *ℚ all
  pub settles : StepFits now by left → StepFits start by all
  pub only : StepFits start by all → StepFits now by left

no_step : (now by : Rational) → Fits now → StepFits now by zero_ℚ
no_step now by fit = record {
  product = subst Fits (sym (*ℚ-zero by)) Fits_zero;
  total = subst (SumFits now) (sym (*ℚ-zero by)) (SumFits-zero_right now fit);
}

term_taken : (start now by all left : Rational) → TermAsAll start now by all left
    → StepFits now by left → TermAsAll start (now +ℚ by *ℚ left) by all zero_ℚ
term_taken start now by all left h step = record {
  fit = Fits_sum now (by *ℚ left) step.total;
  value = ap (λ q. now +ℚ by *ℚ left +ℚ q) (*ℚ-zero by) ∙ +ℚ-zero (now +ℚ by *ℚ left) ∙ h.value;
  settles = λ _. h.settles step;
  only = λ _. no_step (now +ℚ by *ℚ left) by (Fits_sum now (by *ℚ left) step.total);
}

term_end : (start now by all : Rational) → TermAsAll start now by all zero_ℚ
    → StepFits start by all × (now ≡ start +ℚ by *ℚ all)
term_end start now by all h = (
  h.settles (no_step now by h.fit),
  sym (ap (λ q. now +ℚ q) (*ℚ-zero by) ∙ +ℚ-zero now) ∙ h.value,
)

pub record TermsFrom (us : List Address) (sums : List Rational) (x : Address → Rational)
    (by : Rational) (ts left : List (Address × Rational)) : Type 0 where
  pub now : Address → Rational
  pub is : sums ≡ map now us
  pub each :
      All (λ v. TermAsAll (x v) (now v) by (coefficient_among ts v) (coefficient_among left v)) us

abbrev pub TermsAsAll : List Address → List Rational → List Rational → Rational
    → List (Address × Rational) → List (Address × Rational) → Type 0
TermsAsAll us before sums by ts left =
    (x : Address → Rational) → before ≡ map x us → All (λ v. Fits (x v)) us
    → TermsFrom us sums x by ts left

-- of terms that rise the first is no more among the others
lacks_first : (t : Address × Rational) (ts : List (Address × Rational))
    → T (is_sorted address_cmp (t ∷ ts)) → coefficient_among ts t.0 ≡ zero_ℚ
lacks_first t ts s =
    ap (λ o. unwrap_or o zero_ℚ) (find_below address_cmp t.0 ts (first _ _ s))

first_coefficient : (t : Address × Rational) (ts : List (Address × Rational))
    → coefficient_among (t ∷ ts) t.0 ≡ t.1
first_coefficient t ts =
    ap (λ b. unwrap_or (cond b (Some t.1) (find address_cmp t.0 ts)) zero_ℚ)
    (same_key address_order t.0)

other_coefficient : (t : Address × Rational) (ts : List (Address × Rational)) (v : Address)
    → address_eq v t.0 ≡ false → coefficient_among (t ∷ ts) v ≡ coefficient_among ts v
other_coefficient t ts v e =
    ap (λ b. unwrap_or (cond b (Some t.1) (find address_cmp v ts)) zero_ℚ) e

module _ (us : List Address) (before : List Rational) (by : Rational)
    (ts : List (Address × Rational)) where
  pub terms_end : (sums : List Rational) → TermsAsAll us before sums by ts []
      → AddsAt (Ok tt) us before sums (λ v. by *ℚ coefficient_among ts v ∷ [])
  terms_end sums h = λ x is fit.
      let from = h x is fit in
      let ends : All (λ v. StepFits (x v) by (coefficient_among ts v)
      × (from.now v ≡ x v +ℚ by *ℚ coefficient_among ts v)) us =
      λ k d lt. term_end (x _) (from.now _) by (coefficient_among ts _) (from.each k d lt) in (
        λ k d lt. AddUp_one (x _) by (coefficient_among ts _) (ends k d lt).0,
        from.is ∙ map_same_on from.now (λ v. x v +ℚ by *ℚ coefficient_among ts v) us
            (λ k d lt. (ends k d lt).1),
      )

  module _ (sums : List Rational) (left rest : List (Address × Rational)) (t : Address × Rational)
      (h : TermsAsAll us before sums by ts left) (next : left ≡ t ∷ rest)
      (sorted : T (is_sorted address_cmp left)) where
    taken : (x now : Address → Rational) (v : Address)
        → TermAsAll (x v) (now v) by (coefficient_among ts v) (coefficient_among left v)
        → (Contains us t.0 → StepFits (now t.0) by t.1) → Contains us v
        → TermAsAll (x v) (cond (address_eq v t.0) (now t.0 +ℚ by *ℚ t.1) (now v)) by
        (coefficient_among ts v) (coefficient_among rest v)
    taken x now v so_far steps stands = by_test (address_eq v t.0) refl
      where
        by_test : (b : Bool) → address_eq v t.0 ≡ b
            → TermAsAll (x v) (cond b (now t.0 +ℚ by *ℚ t.1) (now v)) by
            (coefficient_among ts v) (coefficient_among rest v)
        by_test true e =
            let same : v ≡ t.0 = (address_eq-Decides v t.0).0 e in
            let coefficient : coefficient_among left v ≡ t.1 =
            ap (coefficient_among left) same ∙ ap (λ l. coefficient_among l t.0) next
            ∙ first_coefficient t rest in
            let nothing : coefficient_among rest v ≡ zero_ℚ =
            ap (coefficient_among rest) same
            ∙ lacks_first t rest (subst (λ l. T (is_sorted address_cmp l)) next sorted) in
            let now_steps : StepFits (now v) by t.1 =
            subst (λ u. StepFits (now u) by t.1) (sym same)
            (steps (subst (Contains us) same stands)) in
            subst (λ u. TermAsAll (x v) (now u +ℚ by *ℚ t.1) by (coefficient_among ts v)
            (coefficient_among rest v)) same
            (subst (TermAsAll (x v) (now v +ℚ by *ℚ t.1) by (coefficient_among ts v)) (sym nothing)
            (term_taken (x v) (now v) by (coefficient_among ts v) t.1
            (subst (TermAsAll (x v) (now v) by (coefficient_among ts v)) coefficient so_far)
            now_steps))
        by_test false e =
            subst (TermAsAll (x v) (now v) by (coefficient_among ts v))
            (ap (λ l. coefficient_among l v) next ∙ other_coefficient t rest v e) so_far

    pub terms_step : (done : List Rational)
        → ((y : Address → Rational) → sums ≡ map y us
        → (Contains us t.0 → StepFits (y t.0) by t.1)
        × (done ≡ map (λ v. cond (address_eq v t.0) (y t.0 +ℚ by *ℚ t.1) (y v)) us))
        → TermsAsAll us before done by ts rest
    terms_step done said = λ x is fit.
        let from = h x is fit in
        let made = said from.now from.is in
        record {
          now = λ v. cond (address_eq v t.0) (from.now t.0 +ℚ by *ℚ t.1) (from.now v);
          is = made.1;
          each = λ k d lt. taken x from.now _ (from.each k d lt) made.0
              (All-contains_itself us k d lt);
        }

    -- what must fit at a term
    pub terms_fit : (x : Address → Rational) (is : before ≡ map x us)
        (fit : All (λ v. Fits (x v)) us)
        → All (λ v. AddUp (x v) (by *ℚ coefficient_among ts v ∷ [])) us → Contains us t.0
        → StepFits ((h x is fit).now t.0) by t.1
    terms_fit x is fit all stands =
        let from = h x is fit in
        let so_far : TermAsAll (x t.0) (from.now t.0) by (coefficient_among ts t.0)
        (coefficient_among left t.0) =
        All-contains (λ v. TermAsAll (x v) (from.now v) by (coefficient_among ts v)
        (coefficient_among left v)) us t.0 from.each stands in
        let step : StepFits (from.now t.0) by (coefficient_among left t.0) =
        so_far.only (step_of_one (x t.0) by (coefficient_among ts t.0)
        (All-contains (λ v. AddUp (x v) (by *ℚ coefficient_among ts v ∷ [])) us t.0 all stands)) in
        subst (StepFits (from.now t.0) by) (ap (λ l. coefficient_among l t.0) next
        ∙ first_coefficient t rest) step

-- a term added where its variable stands
pub term_added : (r : Result (Unit {0}) NumberFault) (us : List Address) (sums done : List Rational)
    (i : ℕ) (at : Address) (by k : Rational) → Ascend us → slice_get us i ≡ Some at
    → ExactWhere r (StepFits (get_or sums i zero_ℚ) by k)
    (λ _. done ≡ set sums i (get_or sums i zero_ℚ +ℚ by *ℚ k))
    → (x : Address → Rational) → sums ≡ map x us
    → ExactWhere r (Contains us at → StepFits (x at) by k)
    (λ _. done ≡ map (λ v. cond (address_eq v at) (x at +ℚ by *ℚ k) (x v)) us)
term_added r us sums done i at by k up found said x is =
    exact_as r (StepFits (get_or sums i zero_ℚ) by k)
    (Contains us at → StepFits (x at) by k)
    (λ _. done ≡ set sums i (get_or sums i zero_ℚ +ℚ by *ℚ k))
    (λ _. done ≡ map (λ v. cond (address_eq v at) (x at +ℚ by *ℚ k) (x v)) us)
    (λ step _. subst (λ q. StepFits q by k) here step)
    (λ steps. subst (λ q. StepFits q by k) (sym here) (steps (stands us i at found)))
    (λ _ e. e ∙ ap₂ (λ l q. set l i (q +ℚ by *ℚ k)) is here
    ∙ set_at_place us x i at (x at +ℚ by *ℚ k) (distinct us up) found)
    said
  where
    below : i < length sums
    below = subst (λ l. i < length l) (sym is) (subst (λ n. i < n) (sym (length-map us x))
        (slice_get_within us i at found))

    here : get_or sums i zero_ℚ ≡ x at
    here = made_there x us sums i at (get_or sums i zero_ℚ) (sym is) (stands_there us i at found)
        (slice_get_within us i at found)
        (get_or_default sums i zero_ℚ (get_or sums i zero_ℚ) below)

-- ---- components, one after the other

coefficient_is : (f : Function) (v : Address) → coefficient f v ≡ coefficient_among (terms_of f) v
coefficient_is f v = ap (λ o. unwrap_or o zero_ℚ) (get-entries f.terms v)

pub next_function : (w : List Rational) (fs : List Function) (i : ℕ) (p : Rational) (f : Function)
    (ts : List (Address × Rational)) → length w ≡ length fs → p ≡ get_or w i p
    → f ≡ get_or fs i f → i < length fs → ts ≡ terms_of f → (v : Address)
    → products (drop i w) (coefficients (drop i fs) v)
    ≡ (p *ℚ coefficient_among ts v ∷ [])
    ++ products (drop (i + 1) w) (coefficients (drop (i + 1) fs) v)
next_function w fs i p f ts e p_is f_is lt ts_is v =
    ap₂ (λ ys gs. products ys (coefficients gs v))
    (next_item w w i p refl p_is (subst (λ n. i < n) (sym e) lt)) (next_item fs fs i f refl f_is lt)
    ∙ ap (λ q. p *ℚ q ∷ products (drop (i + 1) w) (coefficients (drop (i + 1) fs) v))
    (coefficient_is f v ∙ ap (λ l. coefficient_among l v) (sym ts_is))

pub next_variable : (w : List Rational) (us : List Address) (i : ℕ) (p : Rational) (u : Address)
    (one : Rational) → one ≡ one_ℚ → length w ≡ length us → p ≡ get_or w i p → u ≡ get_or us i u
    → i < length us → (v : Address)
    → products (drop i w) (coefficients (variables_at (drop i us)) v)
    ≡ (p *ℚ coefficient_among ((u, one) ∷ []) v ∷ [])
    ++ products (drop (i + 1) w) (coefficients (variables_at (drop (i + 1) us)) v)
next_variable w us i p u one one_is e p_is u_is lt v =
    ap₂ (λ ys vs. products ys (coefficients (variables_at vs) v))
    (next_item w w i p refl p_is (subst (λ n. i < n) (sym e) lt)) (next_item us us i u refl u_is lt)
    ∙ ap (λ q. p *ℚ q ∷ products (drop (i + 1) w) (coefficients (variables_at (drop (i + 1) us)) v))
    (coefficient_is (variable u) v ∙ ap (λ l. coefficient_among l v) (terms-variable address_cmp u)
    ∙ ap (λ k. coefficient_among ((u, k) ∷ []) v) (sym one_is))

-- past the last component
pub no_function : (w : List Rational) (fs : List Function) (i : ℕ) → length fs ≤ i
    → (v : Address) → products (drop i w) (coefficients (drop i fs) v) ≡ []
no_function w fs i le v =
    ap (λ gs. products (drop i w) (coefficients gs v)) (drop_of_length-le fs le)
    ∙ no_products (drop i w)

pub no_variable : (w : List Rational) (us : List Address) (i : ℕ) → length us ≤ i
    → (v : Address) → products (drop i w) (coefficients (variables_at (drop i us)) v) ≡ []
no_variable w us i le v =
    ap (λ vs. products (drop i w) (coefficients (variables_at vs) v)) (drop_of_length-le us le)
    ∙ no_products (drop i w)

-- the fault of a step is that of the whole
pub adds_passed : (r : Result (Unit {0}) NumberFault) (e : NumberFault) (us : List Address)
    (before after : List Rational) (parts : Address → List Rational) → IsErrAnd r (λ x. x ≡ e)
    → AddsAt (Err e) us before after parts → AddsAt r us before after parts
adds_passed (Ok u) e us before after parts is said = absurd is
adds_passed (Err x) e us before after parts is said =
    subst (λ y. AddsAt (Err y) us before after parts) (sym is) said

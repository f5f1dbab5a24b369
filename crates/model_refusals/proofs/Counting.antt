-- Going over counts of terms: those that are left are as all are.
use Rattle.std.specs.Prelude.{◌≡◌, ◌≢◌, ℕ, ◌+◌, ◌≤◌, ◌<◌, nat_lt, true, false, List, [], ◌∷◌, drop, length, map, slice_get, sum, Some, None, Result, Ok, Err, MatchResult, IsErrAnd}
use Rattle.std.specs.Option.{option_map}
use Rattle.std.proofs.Common.{arith, ltb-false, ltb-true, sym, ap, subst, inl, inr, ◌∙◌}
use Rattle.std.proofs.Math.Seq.{drop-length}
use Rattle.std.proofs.lemmas.Bool.{cases_Bool}
use Rattle.std.proofs.lemmas.Option.{slice_get-map}
use Rattle.std.proofs.lemmas.List.Sums.{sum_by-cons}
use Rattle.aff_core.specs.Function.{Function}
use Rattle.named_aff.specs.declared.aff.NamedAff.{NamedAff}
use Rattle.user_model.specs.declared.refusal.Refusal.{Refusal}
use Rattle.user_model.specs.declared.refusal.Refusal.TheVariants.{Full}
use Rattle.user_model.specs.Edited.{affine, changed_at}
use Rattle.user_model.specs.Functions.{term_count}
use Rattle.user_model.specs.Limits.{TERMS}
use Rattle.user_model.specs.Model.{ModelValue}
use Rattle.user_model.specs.Refusals.{IsKnown, within}
use Rattle.user_model.specs.declared.edit.NamedFunc.TheVariants as named
use Rattle.map_laws.specs.PlaceLaws.{drop_at}
use Rattle.model_laws.specs.Needed.{known_component}
use Rattle.model_refusals.proofs.ChangedTerms.{changed_elsewhere, changed_here}
use Rattle.model_refusals.proofs.Firsts.{first_above, first_found, first_full, first_within}

pub not_above : (limit n : ℕ) → n ≤ limit → nat_lt limit n ≡ false
not_above limit n le =
    elim (cases_Bool (nat_lt limit n)) [
      | inl e ↦ let lt = ltb-true limit n e in absurd (omega arith)
      | inr e ↦ e
    ]

pub is_above : (limit n : ℕ) → limit < n → nat_lt limit n ≡ true
is_above limit n lt =
    elim (cases_Bool (nat_lt limit n)) [
      | inl e ↦ e
      | inr e ↦ let le = ltb-false limit n e in absurd (omega arith)
    ]

module _ (counts : List ℕ) (i n : ℕ) (here : slice_get counts i ≡ Some n) where
  left : drop i counts ≡ n ∷ drop (i + 1) counts
  left = drop_at i n counts here

  module _ (so_far : first_full (within TERMS (drop i counts)) ≡ first_full
      (within TERMS counts)) where
    from_here : first_full ((n, TERMS) ∷ within TERMS (drop (i + 1) counts))
        ≡ first_full (within TERMS counts)
    from_here = sym (ap (λ cs. first_full (within TERMS cs)) left) ∙ so_far

    pub within_more : n ≤ TERMS → first_full (within TERMS (drop (i + 1) counts))
        ≡ first_full (within TERMS counts)
    within_more le =
        sym (first_within n TERMS (within TERMS (drop (i + 1) counts)) (not_above TERMS n le))
        ∙ from_here

    pub within_above : TERMS < n → Some (Full n TERMS) ≡ first_full (within TERMS counts)
    within_above lt =
        sym (first_above n TERMS (within TERMS (drop (i + 1) counts)) (is_above TERMS n lt))
        ∙ from_here

    pub within_refused : (r : Refusal) → first_full ((n, TERMS) ∷ []) ≡ Some r
        → first_full (within TERMS counts) ≡ Some r
    within_refused r e =
        sym from_here ∙ first_found ((n, TERMS) ∷ []) (within TERMS (drop (i + 1) counts)) r e

  pub sum_left : sum (drop i counts) ≡ n + sum (drop (i + 1) counts)
  sum_left = ap sum left ∙ sum_by-cons (λ x. x) n (drop (i + 1) counts)

-- none is left
pub within_all : (counts : List ℕ) (i : ℕ) → i ≡ length counts
    → first_full (within TERMS (drop i counts)) ≡ first_full (within TERMS counts)
    → None ≡ first_full (within TERMS counts)
within_all counts i end so_far =
    sym (ap (λ cs. first_full (within TERMS cs)) (ap (λ k. drop k counts) end ∙ drop-length counts))
    ∙ so_far

-- the number of terms of a component by name
named_count_at : (model : ModelValue) (i : ℕ) (fs : List NamedAff) (f : NamedAff)
    → slice_get fs i ≡ Some f → slice_get (map term_count (map (affine model) fs)) i
    ≡ Some (term_count (affine model f))
named_count_at model i fs f here =
    slice_get-map term_count (map (affine model) fs) i
    ∙ ap (option_map term_count) (slice_get-map (affine model) fs i
    ∙ ap (option_map (affine model)) here)

pub known_count_at : (model : ModelValue) (i : ℕ) (fs : List NamedAff) (f : NamedAff) (n : ℕ)
    → slice_get fs i ≡ Some f → IsKnown model (named.AffineVec fs)
    → (IsKnown model (named.Affine f) → n ≡ term_count (affine model f))
    → slice_get (map term_count (map (affine model) fs)) i ≡ Some n
known_count_at model i fs f n here known value =
    named_count_at model i fs f here
    ∙ ap Some (sym (value (known_component model fs i f known here)))

-- a refused step refuses all
pub refused_by : (r : Result ℕ Refusal) (e : Refusal) (P : ℕ → Type 0) (Q : Refusal → Type 0)
    → IsErrAnd r (λ x. x ≡ e) → Q e → MatchResult r P Q
refused_by (Ok x) e P Q is q = absurd is
refused_by (Err x) e P Q is q = subst Q (sym is) q

-- the number of terms of a component, of which one is changed
module _ (h : Function → Function) (place : ℕ) (fs : List Function) (i : ℕ) (f : Function)
    (here : slice_get fs i ≡ Some f) where
  pub changed_count_here : i ≡ place → slice_get (map term_count (changed_at place h fs)) i
      ≡ Some (term_count (h f))
  changed_count_here e =
      slice_get-map term_count (changed_at place h fs) i
      ∙ ap (option_map term_count) (subst (λ k. slice_get (changed_at place h fs) k ≡ Some (h f))
      (sym e) (changed_here h place fs f (subst (λ k. slice_get fs k ≡ Some f) e here)))

  pub changed_count_elsewhere : i ≢ place → slice_get (map term_count (changed_at place h fs)) i
      ≡ Some (term_count f)
  changed_count_elsewhere ne =
      slice_get-map term_count (changed_at place h fs) i
      ∙ ap (option_map term_count) (changed_elsewhere h place i fs ne ∙ here)

-- Products of terms added one after another, step by step.
use Rattle.std.specs.Prelude.{◌≡◌, List, [], ◌∷◌, All, refl}
use Rattle.std.proofs.Common.{sym, ap, subst, ◌∙◌}
use Rattle.std.proofs.lemmas.List.Elements.{All-cons, All-head, All-tail, All-nil}
use Rattle.std.specs.FinMap.{FinMap, get}
use Rattle.std.specs.declared.cmp.Ordering.{Ordering}
use Rattle.ratio_core.specs.Rational.{Rational, ◌*ℚ◌, Fits}
use Rattle.aff_core.specs.Arithmetic.{TermsFit, MeetsFit, added_terms, added_at, substituted}
use Rattle.aff_core.specs.ArithmeticLaws.{added_terms-append}
use Rattle.aff_core.specs.Function.{FunctionOver, terms_of}
use Rattle.aff_core.specs.Terms.{TimesFit, times}
use Rattle.aff_core.proofs.Summing.{TermsFit-append, TermsFit-parts}

-- the products with c of what is left, added to the sums so far, are as those of all
pub record AddsAsAll {K : Type 0} {R : K → K → Ordering} (c : Rational)
    (start sums : FinMap R Rational) (ts rest : List (K × Rational)) : Type 0 where
  pub value : added_terms sums (times c rest) ≡ added_terms start (times c ts)
  pub fits : TimesFit c rest → TermsFit sums (times c rest)
      → TimesFit c ts × TermsFit start (times c ts)
  pub only : TimesFit c ts → TermsFit start (times c ts)
      → TimesFit c rest × TermsFit sums (times c rest)

module _ {K : Type 0} {R : K → K → Ordering} {c : Rational} {start sums : FinMap R Rational}
    {ts rest : List (K × Rational)} (so_far : AddsAsAll c start sums ts rest) where
  pub adds-end : rest ≡ [] → (TimesFit c ts × TermsFit start (times c ts))
      × (sums ≡ added_terms start (times c ts))
  unfolding added_terms TermsFit
  adds-end none =
      let all = subst (AddsAsAll c start sums ts) none so_far in
      (all.fits (All-nil (λ t. Fits (c *ℚ t.1))) tt, all.value)

  module _ {left : List (K × Rational)} {t : K × Rational} (next : rest ≡ t ∷ left) where
    pub adds-step : Fits (c *ℚ t.1) → MeetsFit (get sums t.0) (c *ℚ t.1)
        → AddsAsAll c start (added_at sums t.0 (c *ℚ t.1)) ts left
    unfolding added_terms TermsFit
    adds-step product meets = record {
      value = sym (ap (λ l. added_terms sums (times c l)) next) ∙ so_far.value;
      fits = λ h k. so_far.fits (subst (TimesFit c) (sym next)
          (All-cons (λ u. Fits (c *ℚ u.1)) t left product h))
          (subst (λ l. TermsFit sums (times c l)) (sym next) (meets, k));
      only = λ h k. (
        All-tail (λ u. Fits (c *ℚ u.1)) t left
            (subst (TimesFit c) next (so_far.only h k).0),
        (subst (λ l. TermsFit sums (times c l)) next (so_far.only h k).1).1,
      );
    }

    -- a step that doesn't fit
    pub adds-meets_fit : TimesFit c ts → TermsFit start (times c ts)
        → MeetsFit (get sums t.0) (c *ℚ t.1)
    unfolding TermsFit
    adds-meets_fit h k = (subst (λ l. TermsFit sums (times c l)) next (so_far.only h k).1).0

-- ---- substitution

-- each product fits, and each sum from some sums on
pub record SpreadFits {K J : Type 0} {S : J → J → Ordering} (e : K → FunctionOver S)
    (sums : FinMap S Rational) (ts : List (K × Rational)) : Type 0 where
  pub products : All (λ t. TimesFit t.1 (terms_of (e t.0))) ts
  pub sums_fit : TermsFit sums (substituted e ts)

-- what is left to substitute, from the sums so far, is as all of it is
pub record SubstitutesAsAll {K J : Type 0} {S : J → J → Ordering} (e : K → FunctionOver S)
    (start sums : FinMap S Rational) (ts rest : List (K × Rational)) : Type 0 where
  pub value : added_terms sums (substituted e rest) ≡ added_terms start (substituted e ts)
  pub fits : SpreadFits e sums rest → SpreadFits e start ts
  pub only : SpreadFits e start ts → SpreadFits e sums rest

module _ {K J : Type 0} {S : J → J → Ordering} where
  pub substitutes-start : (e : K → FunctionOver S) (start : FinMap S Rational)
      (ts : List (K × Rational)) → SubstitutesAsAll e start start ts ts
  substitutes-start e start ts = record { value = refl; fits = λ h. h; only = λ h. h }

module _ {K J : Type 0} {S : J → J → Ordering} {e : K → FunctionOver S}
    {start sums : FinMap S Rational} {ts rest : List (K × Rational)}
    (so_far : SubstitutesAsAll e start sums ts rest) where
  pub substitutes-end : rest ≡ [] → SpreadFits e start ts
      × (sums ≡ added_terms start (substituted e ts))
  unfolding substituted added_terms TermsFit
  substitutes-end none =
      let all = subst (SubstitutesAsAll e start sums ts) none so_far in (
        all.fits (record {
          products = All-nil (λ t. TimesFit t.1 (terms_of (e t.0)));
          sums_fit = tt;
        }),
        all.value,
      )

  module _ {left : List (K × Rational)} {t : K × Rational} (next : rest ≡ t ∷ left) where
    abbrev here : List (J × Rational)
    here = times t.1 (terms_of (e t.0))

    parted : SpreadFits e sums (t ∷ left) → TimesFit t.1 (terms_of (e t.0)) × TermsFit sums here
        × SpreadFits e (added_terms sums here) left
    unfolding substituted
    parted h =
        let sums_fit = TermsFit-parts sums here (substituted e left) h.sums_fit in (
          All-head (λ t. TimesFit t.1 (terms_of (e t.0))) t left h.products,
          sums_fit.0,
          record {
            products = All-tail (λ t. TimesFit t.1 (terms_of (e t.0))) t left h.products;
            sums_fit = sums_fit.1;
          },
        )

    pub substitutes-step : TimesFit t.1 (terms_of (e t.0)) → TermsFit sums here
        → SubstitutesAsAll e start (added_terms sums here) ts left
    unfolding substituted
    substitutes-step products sums_fit = record {
      value = sym (ap (λ l. added_terms sums (substituted e l)) next
          ∙ added_terms-append sums here (substituted e left)) ∙ so_far.value;
      fits = λ h. so_far.fits (subst (SpreadFits e sums) (sym next) (record {
        products = All-cons (λ t. TimesFit t.1 (terms_of (e t.0))) t left products h.products;
        sums_fit = TermsFit-append sums here (substituted e left) sums_fit h.sums_fit;
      }));
      only = λ h. (parted (subst (SpreadFits e sums) next (so_far.only h))).2;
    }

    -- a step that doesn't fit
    pub substitutes-fits : SpreadFits e start ts → TimesFit t.1 (terms_of (e t.0))
        × TermsFit sums here
    substitutes-fits h =
        let all = parted (subst (SpreadFits e sums) next (so_far.only h)) in (all.0, all.1)

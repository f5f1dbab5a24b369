-- Functions that were written read back, where each variable has a name of the file.
use Rattle.std.specs.Prelude.{◌≡◌, ℕ, All, ⊤, Bool, true, false, List, [], ◌∷◌, ◌++◌, map, Some, Ok, bytes_eq, codes, option_and_then, slice_index_or, refl}
use Rattle.std.specs.List.{list_any}
use Rattle.std.proofs.Common.{ap, ◌∙◌}
use Rattle.std.proofs.lemmas.Bool.{cond-false, cond-true, or_from, or_parts}
use Rattle.std.proofs.lemmas.List.Elements.{All-head, All-tail}
use Rattle.std.proofs.lemmas.List.Folds.{list_any-append}
use Rattle.ratio_core.specs.Rational.{Fits, Rational}
use Rattle.aff_core.specs.Address.{Address}
use Rattle.aff_core.specs.Function.{Function}
use Rattle.aff_core.specs.Function as aff
use Rattle.named_aff.specs.declared.aff.NamedAff.{NamedAff}
use Rattle.named_aff.specs.declared.terms.NamedTerm.{NamedTerm}
use Rattle.named_aff.specs.Sums.{with_term}
use Rattle.mof_values.specs.declared.fault.MofFault.TheVariants.{BadNumber}
use Rattle.mof_values.specs.Sets.{is}
use Rattle.mof_values.specs.Values.{a_number, a_text, an_array, an_object, field}
use Rattle.mof_values.specs.Walked.{◌>>=◌, at, here, or_fault}
use Rattle.mof_file.specs.Functions.{Known, add_term, affine_of, is_known, linear_term_of, term_of, terms_of, variable_of}
use Rattle.mof_write.specs.Values.{array_of, number_data}
use Rattle.mof_write.specs.Written.{Naming, address_data, affine_data, term_data}
use Rattle.mof_write.specs.Sayable.{FunctionFits, TermFits}
use Rattle.mof_laws.specs.ReadBack.{named_affine, named_term}
use Rattle.mof_laws.specs.ValueLaws.{number_back}
use Rattle.mof_laws.specs.WalkLaws.{AllGood, each_appends, field_back}

-- ---- lists whose items are apart

-- each item is apart from those behind it
abbrev pub ApartBy : {X : Type 0} → (X → X → Type 0) → List X → Type 0
ApartBy R [] = ⊤
ApartBy R (x ∷ xs) = All (R x) xs × ApartBy R xs

-- ---- terms

-- no term is of the variable with this name
abbrev pub is_absent : List ℕ → List NamedTerm → Bool
is_absent n terms = list_any (λ t. bytes_eq n t.variable) terms

pub with_term_new : (terms : List NamedTerm) (term : NamedTerm)
    → is_absent term.variable terms ≡ false
    → with_term terms term ≡ Some (terms ++ term ∷ [])
with_term_new [] term h = refl
with_term_new (t ∷ ts) term h =
    let parts = or_parts (bytes_eq term.variable t.variable) (is_absent term.variable ts) h in
    cond-false _ _ _ parts.0
    ∙ ap (λ o. option_and_then (λ others. Some (t ∷ others)) o) (with_term_new ts term parts.1)

abbrev term_with : List ℕ → Rational → NamedTerm
term_with n q = record { variable = n; coefficient = q }

abbrev affine_with : List NamedTerm → Rational → NamedAff
affine_with ts c = record { terms = ts; constant = c }

module _ (name : Naming) (known : Known) where
  -- the variable's name is one of the file's
  abbrev pub IsNameKnown : Address → Type 0
  IsNameKnown at = is_known known (name at) ≡ true

  abbrev pub IsTermNameKnown : Address × Rational → Type 0
  IsTermNameKnown t = IsNameKnown t.0

  -- a later term's variable has another name
  abbrev pub OtherTerm : Address × Rational → Address × Rational → Type 0
  OtherTerm t u = bytes_eq (name u.0) (name t.0) ≡ false

  -- no two of the addresses have one name
  abbrev pub AreNamedApart : Function → Type 0
  AreNamedApart f =
      ApartBy OtherTerm (aff.terms_of f)

  pub record IsFunctionReadable (f : Function) : Type 0 where
    pub fits : FunctionFits f
    pub named : All IsTermNameKnown (aff.terms_of f)
    pub apart : AreNamedApart f

  pub variable_back : (at : Address) → IsNameKnown at
      → variable_of known (address_data name at) ≡ Ok (name at)
  unfolding variable_of a_text
  variable_back at h = cond-true _ _ _ h

  pub term_back : (t : Address × Rational) → Fits t.1 → IsNameKnown t.0
      → term_of known (term_data name t) ≡ Ok (named_term name t)
  unfolding term_of linear_term_of an_object
  term_back t fits is =
      ap (λ w. w >>= (λ c. field (variable_of known) "variable" (term_data name t)
      >>= (λ v. Ok (term_with v c))))
      (field_back a_number (codes "coefficient") (term_data name t) (number_data t.1) t.1 refl
      (number_back t.1 fits))
      ∙ ap (λ w. w >>= (λ v. Ok (term_with v t.1)))
      (field_back (variable_of known) (codes "variable") (term_data name t) (address_data name t.0)
      (name t.0) refl
      (variable_back t.0 is))

  abbrev pub IsTermAbsent : List NamedTerm → Address × Rational → Type 0
  IsTermAbsent s t = is_absent (name t.0) s ≡ false

  -- a term behind others
  abbrev pub GoodTerm : List NamedTerm → Address × Rational → Type 0
  GoodTerm s t = TermFits t × IsTermNameKnown t × IsTermAbsent s t

  add_term_back : (s : List NamedTerm) (t : Address × Rational) → GoodTerm s t
      → add_term known s (term_data name t) ≡ Ok (s ++ named_term name t ∷ [])
  unfolding add_term
  add_term_back s t h =
      ap (λ w. w >>= (λ term. or_fault (BadNumber here) (with_term s term))) (term_back t h.0 h.1)
      ∙ ap (or_fault (BadNumber here)) (with_term_new s (named_term name t) h.2)

  good_terms : (s : List NamedTerm) (ts : List (Address × Rational)) → All TermFits ts
      → All IsTermNameKnown ts → All (IsTermAbsent s) ts
      → ApartBy OtherTerm ts
      → AllGood (named_term name) GoodTerm s ts
  good_terms s [] fits is absent apart = tt
  good_terms s (t ∷ ts) fits is absent apart = (
    (All-head TermFits t ts fits, All-head IsTermNameKnown t ts is, All-head (IsTermAbsent s) t ts absent),
    good_terms (s ++ named_term name t ∷ []) ts (All-tail TermFits t ts fits)
        (All-tail IsTermNameKnown t ts is)
        (λ k d within. still (slice_index_or ts k d) (All-tail (IsTermAbsent s) t ts absent k d within)
        (apart.0 k d within))
        apart.1,
  )
    where
      still : (u : Address × Rational) → is_absent (name u.0) s ≡ false
          → bytes_eq (name u.0) (name t.0) ≡ false
          → is_absent (name u.0) (s ++ named_term name t ∷ []) ≡ false
      still u before now =
          list_any-append (λ x. bytes_eq (name u.0) x.variable) s (named_term name t ∷ [])
          ∙ or_from _ _ before (or_from _ _ now refl)

  pub good_first : (f : Function) → IsFunctionReadable f
      → AllGood (named_term name) GoodTerm [] (aff.terms_of f)
  good_first f h =
      good_terms [] (aff.terms_of f) h.fits.1 h.named (λ k d within. refl) h.apart

  terms_back : (f : Function) → IsFunctionReadable f
      → terms_of known (array_of (term_data name) (aff.terms_of f))
      ≡ Ok (map (named_term name) (aff.terms_of f))
  unfolding terms_of an_array
  terms_back f h =
      each_appends (add_term known) (term_data name) (named_term name) GoodTerm add_term_back 0 []
      (aff.terms_of f) (good_first f h)

  pub affine_back : (f : Function) → IsFunctionReadable f
      → affine_of known (affine_data name f) ≡ Ok (named_affine name f)
  unfolding affine_of affine_data
  affine_back f h =
      ap (λ w. w >>= (λ ts. field a_number "constant" (affine_data name f)
      >>= (λ c. Ok (affine_with ts c))))
      (field_back (terms_of known) (codes "terms") (affine_data name f)
      (array_of (term_data name) (aff.terms_of f)) (map (named_term name) (aff.terms_of f)) refl
      (terms_back f h))
      ∙ ap (λ w. w >>= (λ c. Ok (affine_with (map (named_term name) (aff.terms_of f)) c)))
      (field_back a_number (codes "constant") (affine_data name f)
      (number_data f.constant) f.constant refl
      (number_back f.constant h.fits.0))

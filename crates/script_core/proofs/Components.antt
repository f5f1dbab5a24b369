-- The components of a vector function, token by token.
use Rattle.std.proofs.Common.{◌≡◌, ℕ, Bool, true, false, cond, Option, Some, None, List, [], ◌∷◌, ◌++◌, refl, sym, ap, ◌∙◌, append_assoc}
use Rattle.std.specs.List.{slice_split, onto_first}
use Rattle.std.specs.Option.{option_and_then}
use Rattle.std.proofs.lemmas.List.{append-nil}
use Rattle.script_core.specs.declared.terms.Term.{Term}
use Rattle.script_core.specs.Reading.{TokenList, is}
use Rattle.script_tokens.specs.Each.{each}
use Rattle.script_core.specs.Terms.{term_of, terms_of, components_of}

abbrev Components : Type 0
Components = List (List Term)

-- the components, when some are made, some terms of the next are read, and these tokens are left
abbrev pub components_after : Components → List Term → TokenList → Option Components
components_after made terms [] = Some (made ++ terms ∷ [])
components_after made terms (token ∷ tokens) =
    cond (is ";" token)
    (components_after (made ++ terms ∷ []) [] tokens)
    (option_and_then (λ t. components_after made (terms ++ t ∷ []) tokens) (term_of token))

-- the rest of a component and those after it, behind what is made
joined : Components → List Term → Option Components → Option Components
joined made terms None = None
joined made terms (Some []) = None
joined made terms (Some (ts ∷ more)) = Some (made ++ (terms ++ ts) ∷ more)

-- one run more before the others
with_first : Option (List Term) → Option Components → Option Components
with_first o rest = option_and_then (λ y. option_and_then (λ ys. Some (y ∷ ys)) rest) o

split_cases : {X : Type 0} (p : X → Bool) (xs : List X) → (run : List X) × (runs : List (List X))
    × (slice_split p xs ≡ run ∷ runs)
split_cases p [] = ([], [], refl)
split_cases {X = X} p (x ∷ xs) = at (p x) refl (split_cases p xs)
  where
    at : (b : Bool) → p x ≡ b
        → ((run : List X) × (runs : List (List X)) × (slice_split p xs ≡ run ∷ runs))
        → (run : List X) × (runs : List (List X)) × (slice_split p (x ∷ xs) ≡ run ∷ runs)
    at true e split = (
      [],
      slice_split p xs,
      ap (λ b. cond b ([] ∷ slice_split p xs)
          (onto_first x (slice_split p xs))) e,
    )
    at false e split = (
      x ∷ split.0,
      split.1,
      ap (λ b. cond b ([] ∷ slice_split p xs) (onto_first x (slice_split p xs))) e
          ∙ ap (onto_first x) split.2,
    )

-- after a separator
separated : (made : Components) (terms : List Term) (o : Option (List Term))
    (rest : Option Components)
    → joined (made ++ terms ∷ []) [] (with_first o rest)
    ≡ joined made terms (with_first (Some []) (with_first o rest))
unfolding joined with_first
separated made terms None rest = refl
separated made terms (Some ts) None = refl
separated made terms (Some ts) (Some more) =
    ap Some (append_assoc made (terms ∷ []) (ts ∷ more) ∙ ap (λ us. made ++ us ∷ ts ∷ more)
    (sym (append-nil terms)))

-- after a term
added : (made : Components) (terms : List Term) (t : Term) (o : Option (List Term))
    (rest : Option Components)
    → joined made (terms ++ t ∷ []) (with_first o rest)
    ≡ joined made terms (with_first (option_and_then (λ ts. Some (t ∷ ts)) o) rest)
unfolding joined with_first
added made terms t None rest = refl
added made terms t (Some ts) None = refl
added made terms t (Some ts) (Some more) =
    ap (λ us. Some (made ++ us ∷ more)) (append_assoc terms (t ∷ []) ts)

-- what runs say, the first of which goes on a component
abbrev Says : Components → List Term → List TokenList → Option Components → Type 0
Says made terms runs o = o ≡ joined made terms (each terms_of runs)

after_term : (made : Components) (terms : List Term) (token : List ℕ) (tokens run : TokenList)
    (runs : List TokenList) (o : Option Term)
    → ((t : Term) → Says made (terms ++ t ∷ []) (run ∷ runs)
    (components_after made (terms ++ t ∷ []) tokens))
    → option_and_then (λ t. components_after made (terms ++ t ∷ []) tokens) o
    ≡ joined made terms (with_first (option_and_then (λ t. option_and_then (λ ts. Some (t ∷ ts))
    (terms_of run)) o) (each terms_of runs))
unfolding joined with_first
after_term made terms token tokens run runs None rest = refl
after_term made terms token tokens run runs (Some t) rest =
    rest t ∙ added made terms t (terms_of run) (each terms_of runs)

components_after_is : (tokens : TokenList) (made : Components) (terms : List Term)
    → components_after made terms tokens
    ≡ joined made terms (each terms_of (slice_split (is ";") tokens))
unfolding joined with_first
components_after_is [] made terms = ap (λ us. Some (made ++ us ∷ [])) (sym (append-nil terms))
components_after_is (token ∷ tokens) made terms =
    at (is ";" token) refl (split_cases (is ";") tokens) (components_after_is tokens)
  where
    at : (b : Bool) → is ";" token ≡ b
        → ((run : TokenList) × (runs : List TokenList) × (slice_split (is ";") tokens ≡ run ∷ runs))
        → ((made : Components) (terms : List Term) → components_after made terms tokens ≡ joined
        made terms (each terms_of (slice_split (is ";") tokens)))
        → components_after made terms (token ∷ tokens)
        ≡ joined made terms (each terms_of (slice_split (is ";") (token ∷ tokens)))
    at true e split rest =
        rw e (rest (made ++ terms ∷ []) []
        ∙ ap (λ runs. joined (made ++ terms ∷ []) [] (each terms_of runs)) split.2
        ∙ separated made terms (terms_of split.0) (each terms_of split.1)
        ∙ sym (ap (λ runs. joined made terms (each terms_of ([] ∷ runs))) split.2))
    at false e split rest =
        rw e (after_term made terms token tokens split.0 split.1 (term_of token)
        (λ t. rest made (terms ++ t ∷ []) ∙ ap (λ runs. joined made (terms ++ t ∷ [])
        (each terms_of runs)) split.2)
        ∙ sym (ap (λ runs. joined made terms (each terms_of (onto_first token runs))) split.2))

pub components_after_start : (tokens : TokenList) → components_after [] [] tokens
    ≡ components_of tokens
unfolding joined with_first
components_after_start tokens =
    let split = split_cases (is ";") tokens in
    components_after_is tokens [] []
    ∙ ap (λ runs. joined [] [] (each terms_of runs)) split.2
    ∙ whole (terms_of split.0) (each terms_of split.1)
    ∙ sym (ap (each terms_of) split.2)
  where
    whole : (o : Option (List Term)) (rest : Option Components) → joined [] [] (with_first o rest)
        ≡ with_first o rest
    whole None rest = refl
    whole (Some ts) None = refl
    whole (Some ts) (Some more) = refl

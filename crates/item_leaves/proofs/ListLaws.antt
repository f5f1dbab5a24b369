-- The addresses of entries: pushed one after the other, and those that pass a test.
use Rattle.std.specs.Prelude.{◌≡◌, ◌++◌, ℕ, Bool, true, false, cond, List, [], ◌∷◌, filter, map, refl}
use Rattle.std.proofs.Common.{sym, ap, ◌∙◌}
use Rattle.std.proofs.lemmas.List.{append-nil, append_assoc}
use Rattle.aff_core.specs.Address.{Address}

abbrev pub keys : List (Address × ℕ) → List Address
keys es = map (λ e. e.0) es

pub keys_those : (p : Address → Bool) (es : List (Address × ℕ))
    → keys (filter (λ e. p e.0) es) ≡ filter p (keys es)
keys_those p [] = refl
keys_those p (e ∷ es) =
    elim (p e.0) as (λ b. keys (cond b (e ∷ filter (λ d. p d.0) es) (filter (λ d. p d.0) es))
    ≡ cond b (e.0 ∷ filter p (keys es)) (filter p (keys es)))
    [ true ↦ ap (λ ks. e.0 ∷ ks) (keys_those p es) | false ↦ keys_those p es ]

pub one_more : (left rest : List (Address × ℕ)) (e : Address × ℕ) (old new all : List Address)
    → left ≡ e ∷ rest → old ++ keys left ≡ all → new ≡ old ++ e.0 ∷ [] → new ++ keys rest ≡ all
one_more left rest e old new all next so_far is =
    ap (λ l. l ++ keys rest) is
    ∙ append_assoc old (e.0 ∷ []) (keys rest)
    ∙ ap (λ es. old ++ keys es) (sym next)
    ∙ so_far

pub no_more : (left : List (Address × ℕ)) (old all : List Address) → left ≡ []
    → old ++ keys left ≡ all → old ≡ all
no_more left old all none so_far =
    sym (append-nil old) ∙ ap (λ es. old ++ keys es) (sym none) ∙ so_far

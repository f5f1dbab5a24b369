-- The variables that are kept for a list of variables, one after another.
use Rattle.std.specs.Prelude.{◌≡◌, ℕ, ◌+◌, Bool, true, false, List, [], ◌∷◌, ◌++◌, map, Option, Some, None, refl}
use Rattle.std.proofs.Common.{ap, sym, ◌∙◌, append_assoc, drop}
use Rattle.std.specs.List.{list_all}
use Rattle.std.specs.Option.{MatchOption}
use Rattle.std.proofs.lemmas.List.{append-nil}
use Rattle.aff_core.specs.Address.{Address}
use Rattle.item_core.specs.declared.image.Expression.{Expression}
use Rattle.item_core.specs.declared.image.Expression.TheVariants.{Kept}
use Rattle.fresh_bridging.specs.Entries.{is_kept, kept_in, vector_by}
use Rattle.item_core.specs.declared.item.Body.TheVariants.{AffineVec}
use Rattle.bridge_face.specs.Law.{expressed}
use Rattle.set_core.specs.declared.set.Set.{Set}

module _ (e : Address → Expression) (vars : List Address) (i : ℕ) where
  abbrev pub IsSoFar : List Address → List Address → Type 0
  IsSoFar made left =
      (list_all is_kept (map e left) ≡ list_all is_kept (map e vars))
      × (made ++ kept_in (map e left) ≡ kept_in (map e vars))

  first_kept : (x : Expression) (w : Address) (es : List Expression) → x ≡ Kept w
      → (list_all is_kept (x ∷ es) ≡ list_all is_kept es) × (kept_in (x ∷ es) ≡ w ∷ kept_in es)
  unfolding kept_in
  first_kept x w es is =
      (ap (λ y. list_all is_kept (y ∷ es)) is, ap (λ y. kept_in (y ∷ es)) is)

  pub kept_more : (v : Address) → drop i vars ≡ v ∷ drop (i + 1) vars → (w : Address)
      → (made after : List Address) → IsSoFar made (drop i vars) → e v ≡ Kept w
      → after ≡ made ++ w ∷ [] → IsSoFar after (drop (i + 1) vars)
  kept_more v next w made after so_far is pushed =
      let rest = map e (drop (i + 1) vars) in
      let one = first_kept (e v) w rest is in (
        sym one.0 ∙ sym (ap (λ l. list_all is_kept (map e l)) next) ∙ so_far.0,
        ap (λ l. l ++ kept_in rest) pushed ∙ append_assoc made (w ∷ []) (kept_in rest)
            ∙ ap (λ l. made ++ l) (sym one.1)
            ∙ sym (ap (λ l. made ++ kept_in (map e l)) next) ∙ so_far.1,
      )

  pub none_left : (made result : List Address) → IsSoFar made (drop i vars) → drop i vars ≡ []
      → result ≡ made
      → (list_all is_kept (map e vars) ≡ true) × (result ≡ kept_in (map e vars))
  unfolding kept_in
  none_left made result so_far none is = (
    sym so_far.0 ∙ ap (λ l. list_all is_kept (map e l)) none,
    is ∙ sym (append-nil made) ∙ sym (ap (λ l. made ++ kept_in (map e l)) none) ∙ so_far.1,
  )

pub not_all_kept : (b : Bool) (e : Address → Expression) (vars : List Address) (set : Set)
    → b ≡ false
    → vector_by b (map e vars) set ≡ AffineVec (map (λ v. expressed (e v)) vars) set
unfolding vector_by
not_all_kept b e vars set is =
    ap (λ x. vector_by x (map e vars) set) is ∙ ap (λ fs. AffineVec fs set) (each vars)
  where
    each : (vs : List Address) → map expressed (map e vs) ≡ map (λ v. expressed (e v)) vs
    each [] = refl
    each (v ∷ vs) = ap (λ l. expressed (e v) ∷ l) (each vs)

pub none_given : (o : Option (List Address)) (e : Address → Expression) (vars : List Address)
    → MatchOption o (list_all is_kept (map e vars) ≡ false)
    (λ ws. (list_all is_kept (map e vars) ≡ true) × (ws ≡ kept_in (map e vars)))
    → o ≡ None → list_all is_kept (map e vars) ≡ false
none_given None e vars h n = h
none_given (Some ws) e vars h n = cc

-- Where no row is mapped, a certificate is good for the rows as they are seen exactly where it is good for
-- the model.
use Rattle.std.specs.Prelude.{◌≡◌, ◌↔◌, List, [], ◌∷◌, None, filter, map, not, refl}
use Rattle.std.proofs.Common.{sym, ◌∙◌, ap, append-nil, subst}
use Rattle.map_laws.specs.PlaceLaws.{filter_all}
use Rattle.ratio_core.specs.Rational.{Rational}
use Rattle.user_model.specs.declared.row.Row.{Row}
use Rattle.user_model.specs.Model.{ModelValue}
use Rattle.certificates.specs.declared.certificate.Certificate.{Certificate}
use Rattle.certificates.specs.declared.certificate.Certificate.TheVariants.{Optimal, Infeasible, Unbounded}
use Rattle.certificates.specs.Good.{Good}
use Rattle.mapped_certificates.specs.GoodSeen.{GoodMapped, GoodSeen, is_used, rows_seen}
use Rattle.mapped_certificates.specs.SeenRow.{SeenRow}
use Rattle.mapped_certificates.specs.ShowsSeenLaws.{all_brought, brought_forward, good_own}
use Rattle.mapped_certificates.specs.TakenBack.{StandForSeen, all_taken, taken_back}
use Rattle.mapped_certificates.specs.TakenBackLaws.{good_seen}

abbrev themselves : List Row → List SeenRow
themselves rows = map (λ r. record { row = r; seen = None }) rows

stand_themselves : (rows : List Row) → StandForSeen rows (themselves rows)
stand_themselves [] = tt
stand_themselves (r ∷ rows) = (refl, stand_themselves rows)

none_used : (rows : List Row) → rows_seen rows [] ≡ themselves rows
none_used rows =
    append-nil (themselves (filter (λ r. not (is_used [] r)) rows))
    ∙ ap themselves (filter_all (λ r. not (is_used [] r)) rows (λ k d within. refl))

same_brought : (rows : List Row) (ws : List (List Rational))
    → all_brought (themselves rows) ws ≡ ws
same_brought rows [] = refl
same_brought [] (w ∷ ws) = refl
same_brought (r ∷ rows) (w ∷ ws) = ap (λ xs. w ∷ xs) (same_brought rows ws)

same_taken : (rows : List Row) (ys : List (List Rational)) → all_taken (themselves rows) ys ≡ ys
same_taken rows [] = refl
same_taken [] (y ∷ ys) = refl
same_taken (r ∷ rows) (y ∷ ys) = ap (λ xs. y ∷ xs) (same_taken rows ys)

brought_same : (rows : List Row) (c : Certificate) → brought_forward (themselves rows) c ≡ c
brought_same rows (Optimal value x ws vars) =
    ap (λ us. Optimal value x us vars) (same_brought rows ws)
brought_same rows (Infeasible gap ws vars) =
    ap (λ us. Infeasible gap us vars) (same_brought rows ws)
brought_same rows (Unbounded x d) = refl

taken_same : (rows : List Row) (c : Certificate) → taken_back (themselves rows) c ≡ c
taken_same rows (Optimal value x ys vars) =
    ap (λ us. Optimal value x us vars) (same_taken rows ys)
taken_same rows (Infeasible gap ys vars) = ap (λ us. Infeasible gap us vars) (same_taken rows ys)
taken_same rows (Unbounded x d) = refl

module _ (model : ModelValue) (c : Certificate) where
  abbrev stand : StandForSeen model.rows (themselves model.rows)
  stand = stand_themselves model.rows

  abbrev GoodBy : List SeenRow → Certificate → Type 0
  GoodBy rows d = GoodSeen model.groups rows model.objective d

  pub good_without_uses : GoodMapped model [] c ↔ Good model c
  good_without_uses = (
    λ good. subst (Good model) (brought_same model.rows c)
        (good_own model (themselves model.rows) stand c
        (subst (λ rows. GoodBy rows c) (none_used model.rows) good)),
    λ good. subst (λ rows. GoodBy rows c) (sym (none_used model.rows))
        (subst (GoodBy (themselves model.rows)) (taken_same model.rows c)
        (good_seen model (themselves model.rows) stand c good)),
  )

-- A point meets rows as they are seen exactly where it meets the rows that stand for them, and so does a
-- ray.
use Rattle.std.specs.Prelude.{◌≡◌, List, [], ◌∷◌, Option, Some, None, All}
use Rattle.std.proofs.Common.{sym, ◌∙◌, ap, subst}
use Rattle.std.proofs.lemmas.List.Elements.{All-cons, All-head, All-nil, All-tail}
use Rattle.ratio_core.specs.Rational.{Rational}
use Rattle.aff_core.specs.Address.{Address}
use Rattle.aff_core.specs.FunctionLists.{slopes, values}
use Rattle.set_core.specs.declared.set.Set.{Set}
use Rattle.set_core.specs.Membership.{In, recession}
use Rattle.set_map.specs.CombinationLaws.{slopes-mapped, values-mapped}
use Rattle.set_map.specs.MappedSet.{MappedSet}
use Rattle.set_map.specs.Matrices.{applied}
use Rattle.user_model.specs.declared.row.Row.{Row}
use Rattle.user_model.specs.Model.{ModelValue}
use Rattle.certificates.specs.Feasible.{IsFeasible, IsRay}
use Rattle.certificates.specs.Points.{at_point, functions_of}
use Rattle.mapped_certificates.specs.Seen.{IsFeasibleSeen, IsRaySeen}
use Rattle.mapped_certificates.specs.SeenRow.{InBy, InSeen, RecBy, RecSeen, SeenRow}
use Rattle.mapped_certificates.specs.TakenBack.{IsMappedRow, StandForSeen, StandsForSeen}

-- ---- one row

same_in : (s t : Set) (v w : List Rational) → s ≡ t → v ≡ w → In s v → In t w
same_in s t v w e k h = subst (λ u. In u w) e (subst (In s) k h)

module _ (x : Address → Rational) where
  abbrev OwnIn : Row → Type 0
  OwnIn r = In r.set (values (functions_of r.func) x)

  abbrev OwnStays : Row → Type 0
  OwnStays r = In (recession r.set) (slopes (functions_of r.func) x)

  abbrev SeenIn : SeenRow → Type 0
  SeenIn r = InSeen r (values (functions_of r.row.func) x)

  abbrev SeenStays : SeenRow → Type 0
  SeenStays r = RecSeen r (slopes (functions_of r.row.func) x)

  module _ (own row : Row) where
    values_are : (s : MappedSet) → IsMappedRow s own row
        → values (functions_of own.func) x ≡ applied s.matrix (values (functions_of row.func) x)
    values_are s is =
        ap (λ hs. values hs x) is.functions ∙ values-mapped s.matrix (functions_of row.func) x

    slopes_are : (s : MappedSet) → IsMappedRow s own row
        → slopes (functions_of own.func) x ≡ applied s.matrix (slopes (functions_of row.func) x)
    slopes_are s is =
        ap (λ hs. slopes hs x) is.functions ∙ slopes-mapped s.matrix (functions_of row.func) x

    in_seen : (seen : Option MappedSet) → StandsForSeen seen own row → OwnIn own
        → InBy row.set seen (values (functions_of row.func) x)
    in_seen None same h = subst OwnIn same h
    in_seen (Some s) is h = same_in own.set s.cone _ _ is.set (values_are s is) h

    in_own : (seen : Option MappedSet) → StandsForSeen seen own row
        → InBy row.set seen (values (functions_of row.func) x) → OwnIn own
    in_own None same h = subst OwnIn (sym same) h
    in_own (Some s) is h = same_in s.cone own.set _ _ (sym is.set) (sym (values_are s is)) h

    stays_seen : (seen : Option MappedSet) → StandsForSeen seen own row → OwnStays own
        → RecBy row.set seen (slopes (functions_of row.func) x)
    stays_seen None same h = subst OwnStays same h
    stays_seen (Some s) is h =
        same_in (recession own.set) (recession s.cone) _ _ (ap recession is.set) (slopes_are s is) h

    stays_own : (seen : Option MappedSet) → StandsForSeen seen own row
        → RecBy row.set seen (slopes (functions_of row.func) x) → OwnStays own
    stays_own None same h = subst OwnStays (sym same) h
    stays_own (Some s) is h =
        same_in (recession s.cone) (recession own.set) _ _ (sym (ap recession is.set))
        (sym (slopes_are s is)) h

-- ---- all rows

module _ (P : Row → Type 0) (Q : SeenRow → Type 0) where
  each_seen : ((own : Row) (r : SeenRow) → StandsForSeen r.seen own r.row → P own → Q r)
      → (owns : List Row) (rows : List SeenRow) → StandForSeen owns rows → All P owns → All Q rows
  each_seen step [] [] stand h = All-nil Q
  each_seen step [] (r ∷ rows) stand h = absurd stand
  each_seen step (own ∷ owns) [] stand h = absurd stand
  each_seen step (own ∷ owns) (r ∷ rows) stand h =
      All-cons Q r rows (step own r stand.0 (All-head P own owns h))
      (each_seen step owns rows stand.1 (All-tail P own owns h))

  each_own : ((own : Row) (r : SeenRow) → StandsForSeen r.seen own r.row → Q r → P own)
      → (owns : List Row) (rows : List SeenRow) → StandForSeen owns rows → All Q rows → All P owns
  each_own step [] [] stand h = All-nil P
  each_own step [] (r ∷ rows) stand h = absurd stand
  each_own step (own ∷ owns) [] stand h = absurd stand
  each_own step (own ∷ owns) (r ∷ rows) stand h =
      All-cons P own owns (step own r stand.0 (All-head Q r rows h))
      (each_own step owns rows stand.1 (All-tail Q r rows h))

-- ---- points and rays

module _ (model : ModelValue) (rows : List SeenRow) (stand : StandForSeen model.rows rows)
    (x : List Rational) where
  abbrev at : Address → Rational
  at = at_point model x

  pub feasible_seen : IsFeasible model x → IsFeasibleSeen model.groups rows x
  feasible_seen h = record {
    size = h.size;
    of_groups = h.groups;
    of_rows = each_seen (OwnIn at) (SeenIn at) (λ own r s. in_seen at own r.row r.seen s) model.rows
        rows stand h.rows;
  }

  pub feasible_own : IsFeasibleSeen model.groups rows x → IsFeasible model x
  feasible_own h = record {
    size = h.size;
    groups = h.of_groups;
    rows = each_own (OwnIn at) (SeenIn at) (λ own r s. in_own at own r.row r.seen s) model.rows rows
        stand h.of_rows;
  }

  pub ray_seen : IsRay model x → IsRaySeen model.groups rows x
  ray_seen h = record {
    size = h.size;
    of_groups = h.groups;
    of_rows = each_seen (OwnStays at) (SeenStays at) (λ own r s. stays_seen at own r.row r.seen s)
        model.rows rows stand h.rows;
  }

  pub ray_own : IsRaySeen model.groups rows x → IsRay model x
  ray_own h = record {
    size = h.size;
    groups = h.of_groups;
    rows = each_own (OwnStays at) (SeenStays at) (λ own r s. stays_own at own r.row r.seen s)
        model.rows rows stand h.of_rows;
  }

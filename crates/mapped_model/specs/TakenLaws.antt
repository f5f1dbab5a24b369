-- A good certificate of the model with the mapped rows, with the duals of the uses taken back, is good for
-- the rows as they are seen, and shows what it says.
use Rattle.std.specs.Prelude.{◌≡◌, suc, ◌+◌, ◌-◌, List, [], ◌∷◌, ◌++◌, Some, None, All, drop, filter, length, map, not, take, refl}
use Rattle.std.proofs.Common.{ap, ap₂, arith, subst, ◌∙◌}
use Rattle.std.proofs.lemmas.List.{length-append, length-map}
use Rattle.std.proofs.lemmas.List.Elements.{All-head, All-tail}
use Rattle.map_laws.specs.EachLaws.{all_first}
use Rattle.certificates.specs.declared.certificate.Certificate.{Certificate}
use Rattle.certificates.specs.declared.certificate.Certificate.TheVariants.{Infeasible, Optimal, Unbounded}
use Rattle.certificates.specs.Duals.{AreDuals, groups_with, row_with, rows_with}
use Rattle.dual_laws.specs.Held.{HasDuals}
use Rattle.certificates.specs.Good.{Good}
use Rattle.certificates.specs.Points.{at_point}
use Rattle.map_file.specs.declared.file.MapFile.{MapFile}
use Rattle.map_file.specs.declared.map_text.MapText.{MapText}
use Rattle.map_file.specs.declared.use_text.UseText.{UseText}
use Rattle.mapped_certificates.specs.GoodSeen.{GoodMapped, GoodSeen, Use, is_used, rows_seen}
use Rattle.mapped_certificates.specs.SeenRow.{SeenRow}
use Rattle.mapped_certificates.specs.ShowsSeen.{ShowsMapped, ShowsSeen}
use Rattle.mapped_certificates.specs.ShowsSeenLaws.{good_shows_seen}
use Rattle.mapped_certificates.specs.TakenBack.{StandForSeen, all_taken, taken_back}
use Rattle.mapped_certificates.specs.TakenBackLaws.{good_seen}
use Rattle.mapped_model.specs.Stands.{StandsFor}
use Rattle.mapped_model.specs.Tells.{AreDualsFor, HasDualsFor, matrix_in, taken_each, taken_from, taken_in}
use Rattle.mapped_model.specs.Uses.{used, uses_in}
use Rattle.ratio_core.specs.Rational.{Rational}
use Rattle.user_model.specs.declared.row.Row.{Row}
use Rattle.user_model.specs.Model.{ModelValue}
use Rattle.user_model.specs.Valid.{IsValid}

abbrev by_themselves : List Row → List SeenRow
by_themselves rows = map (λ r. record { row = r; seen = None }) rows

abbrev as_used : List Use → List SeenRow
as_used uses = map (λ u. record { row = u.row; seen = Some u.set }) uses

stand_length : (owns : List Row) (rows : List SeenRow) → StandForSeen owns rows
    → length owns ≡ length rows
stand_length [] [] h = refl
stand_length [] (r ∷ rows) h = absurd h
stand_length (own ∷ owns) [] h = absurd h
stand_length (own ∷ owns) (r ∷ rows) h = ap suc (stand_length owns rows h.1)

module _ (model : ModelValue) (maps : List MapText) where
  abbrev uses_of : List UseText → List Use
  uses_of uses = map (used model maps) uses

  -- those of the uses alone
  taken_used : (uses : List UseText) (ys : List (List Rational)) → length ys ≡ length uses
      → all_taken (as_used (uses_of uses)) ys ≡ taken_each maps uses ys
  taken_used [] [] e = refl
  taken_used [] (y ∷ ys) e = absurd (omega (arith, e))
  taken_used (u ∷ uses) [] e = refl
  taken_used (u ∷ uses) (y ∷ ys) e = ap₂ ◌∷◌ refl (taken_used uses ys (omega (arith, e)))

  -- behind those of the other rows
  taken_behind : (rows : List Row) (uses : List UseText) (ys : List (List Rational))
      → length ys ≡ length rows + length uses
      → all_taken (by_themselves rows ++ as_used (uses_of uses)) ys
      ≡ take (length rows) ys ++ taken_each maps uses (drop (length rows) ys)
  taken_behind [] uses ys e = taken_used uses ys (omega (arith, e))
  taken_behind (r ∷ rows) uses [] e = absurd (omega (arith, e))
  taken_behind (r ∷ rows) uses (y ∷ ys) e =
      ap (λ zs. y ∷ zs) (taken_behind rows uses ys (omega (arith, e)))

  sizes_used : (uses : List UseText) (owns : List Row) (ys : List (List Rational))
      → StandForSeen owns (as_used (uses_of uses)) → length ys ≡ length owns
      → All HasDuals (rows_with ys owns)
      → map (λ y. length y) ys ≡ map (λ u. length (matrix_in maps u)) uses
  sizes_used [] [] [] h e all = refl
  sizes_used [] [] (y ∷ ys) h e all = absurd (omega (arith, e))
  sizes_used [] (own ∷ owns) ys h e all = absurd h
  sizes_used (u ∷ uses) [] ys h e all = absurd h
  sizes_used (u ∷ uses) (own ∷ owns) [] h e all = absurd (omega (arith, e))
  sizes_used (u ∷ uses) (own ∷ owns) (y ∷ ys) h e all =
      ap₂ ◌∷◌
      ((All-head HasDuals (row_with y own) (rows_with ys owns) all).size
      ∙ ap length h.0.functions ∙ length-map (matrix_in maps u) _)
      (sizes_used uses owns ys h.1 (omega (arith, e))
      (All-tail HasDuals (row_with y own) (rows_with ys owns) all))

  sizes_behind : (rows : List Row) (uses : List UseText) (owns : List Row)
      (ys : List (List Rational)) → StandForSeen owns (by_themselves rows ++ as_used (uses_of uses))
      → length ys ≡ length owns → All HasDuals (rows_with ys owns)
      → map (λ y. length y) (drop (length rows) ys)
      ≡ map (λ u. length (matrix_in maps u)) uses
  sizes_behind [] uses owns ys h e all = sizes_used uses owns ys h e all
  sizes_behind (r ∷ rows) uses [] ys h e all = absurd h
  sizes_behind (r ∷ rows) uses (own ∷ owns) [] h e all = absurd (omega (arith, e))
  sizes_behind (r ∷ rows) uses (own ∷ owns) (y ∷ ys) h e all =
      sizes_behind rows uses owns ys h.1 (omega (arith, e))
      (All-tail HasDuals (row_with y own) (rows_with ys owns) all)

module _ (model : ModelValue) (file : MapFile) (new : ModelValue)
    (stands : StandsFor model (uses_in model file) new) where
  abbrev as_seen : List SeenRow
  as_seen = rows_seen model.rows (uses_in model file)

  abbrev rest : List Row
  rest = filter (λ r. not (is_used (uses_in model file) r)) model.rows

  count : length new.rows ≡ length rest + length file.uses
  count =
      stand_length new.rows as_seen stands.rows
      ∙ length-append (by_themselves rest) (as_used (uses_in model file))
      ∙ ap₂ ◌+◌ (length-map rest _)
      (length-map (uses_in model file) _ ∙ length-map file.uses (used model file.maps))

  module _ (ys : List (List Rational)) (vars : List Rational) (duals : AreDuals new ys vars) where
    many : length ys ≡ length rest + length file.uses
    many = duals.each_row ∙ count

    at : length rest ≡ length ys - length file.uses
    at = omega (arith, many)

    duals_for : AreDualsFor file ys
    duals_for = record {
      many = omega (arith, many);
      sizes = subst (λ n. map (λ y. length y) (drop n ys)
          ≡ map (λ u. length (matrix_in file.maps u)) file.uses) at
          (sizes_behind model file.maps rest file.uses new.rows ys stands.rows duals.each_row
          (all_first HasDuals (rows_with ys new.rows)
          (groups_with (at_point new vars) new.groups) duals.duals));
    }

    same : all_taken as_seen ys ≡ taken_in file ys
    same =
        taken_behind model file.maps rest file.uses ys many
        ∙ ap (λ n. take n ys ++ taken_each file.maps file.uses (drop n ys)) at

  pub has_duals_for : (c : Certificate) → Good new c → HasDualsFor file c
  has_duals_for (Optimal value x ys vars) good = duals_for ys vars good.duals
  has_duals_for (Infeasible gap ys vars) good = duals_for ys vars good.duals
  has_duals_for (Unbounded x d) good = tt

  taken_so : (c : Certificate) → Good new c
      → taken_back as_seen c ≡ taken_from file c
  taken_so (Optimal value x ys vars) good =
      ap (λ zs. Optimal value x zs vars) (same ys vars good.duals)
  taken_so (Infeasible gap ys vars) good =
      ap (λ zs. Infeasible gap zs vars) (same ys vars good.duals)
  taken_so (Unbounded x d) good = refl

  pub good_mapped : (c : Certificate) → Good new c
      → GoodMapped model (uses_in model file) (taken_from file c)
  good_mapped c good =
      subst (GoodMapped model (uses_in model file)) (taken_so c good)
      (subst (λ gs. GoodSeen gs as_seen model.objective (taken_back as_seen c)) stands.groups
      (subst (λ o. GoodSeen new.groups as_seen o (taken_back as_seen c)) stands.objective
      (good_seen new as_seen stands.rows c good)))

  pub good_shows : IsValid new → (c : Certificate) → GoodMapped model (uses_in model file) c
      → ShowsMapped model (uses_in model file) c
  good_shows valid c =
      subst (λ gs. GoodSeen gs as_seen model.objective c → ShowsSeen gs as_seen model.objective c)
      stands.groups
      (subst (λ o. GoodSeen new.groups as_seen o c → ShowsSeen new.groups as_seen o c) stands.objective
      (good_shows_seen new as_seen stands.rows valid c))

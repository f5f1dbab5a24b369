-- Lines so far, and what is left; and a conflict in the names of its rows alone.
use Rattle.std.proofs.Common.{◌≡◌, ℕ, List, [], ◌∷◌, ◌++◌, append-nil, append_assoc, ap, ap₂, codes, flat_map, map, refl, sym, ◌∙◌, Ok}
use Rattle.std.specs.List.{zip}
use Rattle.cert_text.specs.Text.{certificate_text, number_line, numbers_text, row_lines, text_of_lines, variable_lines}
use Rattle.certificates.specs.Points.{variables_of}
use Rattle.certificates.specs.declared.certificate.Certificate.{Certificate}
use Rattle.certificates.specs.declared.certificate.Certificate.TheVariants.{Infeasible, Optimal, Unbounded}
use Rattle.conflict_command.specs.Says.{SaysFound}
use Rattle.conflict_command.specs.Text.{conflict_text, feasible_text, found_text, rows_text, without_text}
use Rattle.model_conflict.specs.Conflict.{ShowsFound, rows_of}
use Rattle.model_conflict.specs.Walk.{NamesRows}
use Rattle.model_conflict.specs.declared.found.Found.{Found}
use Rattle.model_conflict.specs.declared.found.Found.TheVariants.{Conflict, Feasible}
use Rattle.name_index.specs.Escape.{escaped}
use Rattle.ratio_core.specs.Rational.{Rational}
use Rattle.report_core.specs.declared.answer.Answer.{Answer}
use Rattle.report_core.specs.declared.answer.Answer.TheVariants.{Printed}
use Rattle.user_model.specs.Model.{ModelValue}
use Rattle.user_model.specs.declared.group.GroupVar.{GroupVar}
use Rattle.user_model.specs.declared.row.Row.{Row}

-- ---- lines

module _ {X : Type 0} (line : X → List ℕ) where
  pub lines_more : (left rest : List X) (x : X) (text new whole : List ℕ)
      → text ++ flat_map line left ≡ whole → left ≡ x ∷ rest → new ≡ text ++ line x
      → new ++ flat_map line rest ≡ whole
  lines_more left rest x text new whole h l e =
      ap (λ t. t ++ flat_map line rest) e ∙ append_assoc text (line x) (flat_map line rest)
      ∙ sym (ap (λ xs. text ++ flat_map line xs) l) ∙ h

  pub lines_all : (left : List X) (text whole : List ℕ) → text ++ flat_map line left ≡ whole
      → left ≡ [] → text ≡ whole
  lines_all left text whole h e =
      sym (append-nil text) ∙ sym (ap (λ xs. text ++ flat_map line xs) e) ∙ h

pub zipped_more : {X Y : Type 0} (xs : List X) (ys : List Y) (x : X) (y : Y) (xs' : List X)
    (ys' : List Y) → xs ≡ x ∷ xs' → ys ≡ y ∷ ys' → zip xs ys ≡ (x, y) ∷ zip xs' ys'
zipped_more xs ys x y xs' ys' l n = ap (λ vs. zip vs ys) l ∙ ap (zip (x ∷ xs')) n

pub none_zipped : {X Y : Type 0} (xs : List X) (ys : List Y) → xs ≡ [] → zip xs ys ≡ []
none_zipped xs ys e = ap (λ vs. zip vs ys) e

pub zipped_with_none : {X Y : Type 0} (xs : List X) (ys : List Y) → ys ≡ [] → zip xs ys ≡ []
zipped_with_none xs ys e = ap (zip xs) e ∙ none xs
  where
    none : {X Y : Type 0} (xs : List X) → zip {K = X} {X = Y} xs [] ≡ []
    none [] = refl
    none (x ∷ xs) = refl

-- ---- a certificate prints rows by their names

abbrev name_of : Row → List ℕ
name_of r = r.name

same_lines : (rows others : List Row) (duals : List (List Rational))
    → map name_of rows ≡ map name_of others → row_lines rows duals ≡ row_lines others duals
same_lines [] [] duals e = refl
same_lines [] (o ∷ others) duals e = cc
same_lines (r ∷ rows) [] duals e = cc
same_lines (r ∷ rows) (o ∷ others) [] e = refl
same_lines (r ∷ rows) (o ∷ others) (ys ∷ duals) e =
    let names : r.name ≡ o.name = cc in
    let rest : map name_of rows ≡ map name_of others = cc in
    ap₂ (λ name lines. ((codes "dual row " ++ escaped name) ++ numbers_text ys) ∷ lines) names
    (same_lines rows others duals rest)

same_text : (variables : List GroupVar) (rows others : List Row) (certificate : Certificate)
    → map name_of rows ≡ map name_of others
    → certificate_text variables rows certificate ≡ certificate_text variables others certificate
unfolding certificate_text
same_text variables rows others (Optimal value x duals vars) e =
    ap (λ lines. text_of_lines (number_line (codes "optimal ") value
    ∷ variable_lines (codes "primal ") variables x
    ++ (lines ++ variable_lines (codes "dual var ") variables vars)))
    (same_lines rows others duals e)
same_text variables rows others (Infeasible gap duals vars) e =
    ap (λ lines. text_of_lines (number_line (codes "infeasible ") gap
    ∷ (lines ++ variable_lines (codes "dual var ") variables vars)))
    (same_lines rows others duals e)
same_text variables rows others (Unbounded x d) e = refl

same_rows : (variables : List GroupVar) (rows others : List Row) (names : List (List ℕ))
    (certificate : Certificate) (points : List (List Rational))
    → map name_of rows ≡ map name_of others
    → conflict_text variables rows names certificate points
    ≡ conflict_text variables others names certificate points
same_rows variables rows others names certificate points e =
    ap (λ text. rows_text names ++ text ++ flat_map (without_text variables) (zip names points))
    (same_text variables rows others certificate e)

-- ---- what is found, in the names of a model that has the rows of a conflict alone

same_names : (names others : List (List ℕ)) (c d : Certificate)
    (points others_points : List (List Rational))
    → Conflict names c points ≡ Conflict others d others_points → names ≡ others
same_names names others c d points others_points e = cc

pub says_found : (old new : ModelValue) (found : Found) (answer : Answer) → ShowsFound old found
    → new.groups ≡ old.groups → NamesRows new found
    → answer ≡ Printed (found_text (variables_of new.groups) new.rows found)
    → SaysFound old (Ok found) answer
says_found old new (Feasible x) answer shows groups names told = (
  shows,
  told ∙ ap (λ gs. Printed (feasible_text (variables_of gs) x)) groups,
)
says_found old new (Conflict rows certificate points) answer shows groups names told = (
  shows.0,
  shows.1,
  shows.2,
  told
      ∙ ap (λ gs. Printed (conflict_text (variables_of gs) new.rows rows certificate points)) groups
      ∙ ap Printed (same_rows (variables_of old.groups) new.rows (rows_of shows.0) rows certificate
      points
      (sym names ∙ same_names rows (map name_of (rows_of shows.0)) certificate certificate points
      _ shows.2)),
)

-- The text of what is said by the relaxation's rows and variables is that by the model's own.
use Rattle.std.proofs.Common.{◌≡◌, ℕ, ◌+◌, Bool, true, false, List, [], ◌∷◌, ◌++◌, arith, ap, ap₂, codes, cond, length, map, refl, sym, ◌∙◌}
use Rattle.std.specs.List.{zip}
use Rattle.std.specs.Prelude.{not}
use Rattle.std.proofs.lemmas.List.Concat.{flat_map-append}
use Rattle.cert_text.specs.Text.{certificate_text, number_line, row_lines, text_of_lines, variable_line, variable_lines}
use Rattle.certificates.specs.Points.{variables_of}
use Rattle.group_numbering.specs.NewGroups.{numbered_groups}
use Rattle.ratio_core.specs.Rational.{Rational}
use Rattle.relax_command.specs.Text.{violation_line, violation_lines, relaxation_text}
use Rattle.relaxation.specs.Answers.{IsRelaxedFrom, ShowsRelaxation}
use Rattle.relaxation.specs.declared.reading.Relaxation.{Relaxation}
use Rattle.relaxation.specs.declared.reading.Relaxation.TheVariants.{Hopeless, Least}
use Rattle.relaxation.specs.KeptLaws.{soft_kept}
use Rattle.relaxed_model.specs.SoftDuals.{hard_row_kept}
use Rattle.relaxed_model.specs.Relaxed.{hard_rows, is_soft, relaxed_row, relaxed_rows, row_signs, slack_group, slack_names, soft_rows}
use Rattle.user_model.specs.Model.{ModelValue, variables}
use Rattle.user_model.specs.declared.group.Group.{Group}
use Rattle.user_model.specs.declared.row.Row.{Row}

-- of variables that have no numbers nothing is printed
cut_off : {X Y : Type 0} (xs ys : List X) (zs : List Y) → length zs ≡ length xs
    → zip (xs ++ ys) zs ≡ zip xs zs
cut_off [] ys [] e = none ys
  where
    none : {X Y : Type 0} (ys : List X) → zip {K = X} {X = Y} ys [] ≡ []
    none [] = refl
    none (y ∷ ys) = refl
cut_off [] ys (z ∷ zs) e = absurd (omega (arith, e))
cut_off (x ∷ xs) ys [] e = absurd (omega (arith, e))
cut_off (x ∷ xs) ys (z ∷ zs) e = ap (λ ps. (x, z) ∷ ps) (cut_off xs ys zs (omega (arith, e)))

one_hard : (n : ℕ) (r : Row) (rows : List Row) (b : Bool) → is_soft r ≡ b
    → cond (not b) (relaxed_row n r ∷ rows) rows ≡ cond (not b) (r ∷ rows) rows
one_hard n r rows true e = refl
one_hard n r rows false e = ap (λ q. q ∷ rows) (hard_row_kept n r e)

hard_kept : (n : ℕ) (rows : List Row) → hard_rows (relaxed_rows n rows) ≡ hard_rows rows
hard_kept n [] = refl
hard_kept n (r ∷ rows) =
    ap₂ (λ b rest. cond (not b) (relaxed_row n r ∷ rest) rest) (soft_kept n r)
    (hard_kept (n + length (row_signs r)) rows)
    ∙ one_hard n r (hard_rows rows) (is_soft r) refl

-- the soft rows keep their names
lines_kept : (n : ℕ) (rows : List Row) (violations : List Rational)
    → violation_lines (soft_rows (relaxed_rows n rows)) violations
    ≡ violation_lines (soft_rows rows) violations
lines_kept n [] violations = refl
lines_kept n (r ∷ rows) [] =
    none (soft_rows (relaxed_rows n (r ∷ rows))) ∙ sym (none (soft_rows (r ∷ rows)))
  where
    none : (rs : List Row) → violation_lines rs [] ≡ []
    none [] = refl
    none (r ∷ rs) = refl
lines_kept n (r ∷ rows) (q ∷ violations) =
    let later : List Row = relaxed_rows (n + length (row_signs r)) rows in
    ap (λ b. violation_lines (cond b (relaxed_row n r ∷ soft_rows later) (soft_rows later))
    (q ∷ violations)) (soft_kept n r)
    ∙ one_soft n r (soft_rows later) (soft_rows rows) q violations (is_soft r)
    (lines_kept (n + length (row_signs r)) rows violations)
    (lines_kept (n + length (row_signs r)) rows (q ∷ violations))
  where
    one_soft : (n : ℕ) (r : Row) (later rows : List Row) (q : Rational) (violations : List Rational)
        (b : Bool) → violation_lines later violations ≡ violation_lines rows violations
        → violation_lines later (q ∷ violations) ≡ violation_lines rows (q ∷ violations)
        → violation_lines (cond b (relaxed_row n r ∷ later) later) (q ∷ violations)
        ≡ violation_lines (cond b (r ∷ rows) rows) (q ∷ violations)
    one_soft n r later rows q violations true rest same =
        ap (λ ls. violation_line (r, q) ∷ ls) rest
    one_soft n r later rows q violations false rest same = same

module _ (model relaxed : ModelValue) (from : IsRelaxedFrom model relaxed) where
  abbrev slacks : List Group
  slacks =
      numbered_groups model.next.group model.next.variable (map slack_group (slack_names model))

  variables_are : variables_of relaxed.groups ≡ variables model ++ variables_of slacks
  variables_are =
      ap (λ (m : ModelValue). variables_of m.groups) from.is
      ∙ flat_map-append (λ (g : Group). g.vars) model.groups slacks

  numbers_kept : (word : List ℕ) (x : List Rational) → length x ≡ length (variables model)
      → variable_lines word (variables_of relaxed.groups) x
      ≡ variable_lines word (variables_of model.groups) x
  numbers_kept word x e =
      ap (λ vs. variable_lines word vs x) variables_are
      ∙ ap (map (variable_line word)) (cut_off (variables model) (variables_of slacks) x e)

  pub text_kept : (answer : Relaxation) → ShowsRelaxation model answer
      → relaxation_text relaxed answer ≡ relaxation_text model answer
  unfolding certificate_text
  text_kept (Least total x violations) shows =
      ap₂ (λ ls ms. text_of_lines (number_line (codes "relaxed ") total ∷ ls ++ ms))
      (numbers_kept (codes "primal ") x shows.feasible.size)
      (ap (λ (m : ModelValue). violation_lines (soft_rows m.rows) violations) from.is
      ∙ lines_kept model.next.variable model.rows violations)
  text_kept (Hopeless gap rows vars) shows =
      ap₂ (λ rs ls. text_of_lines (number_line (codes "infeasible ") gap ∷ row_lines rs rows ++ ls))
      (ap (λ (m : ModelValue). hard_rows m.rows) from.is
      ∙ hard_kept model.next.variable model.rows)
      (numbers_kept (codes "dual var ") vars shows.duals.each_variable)

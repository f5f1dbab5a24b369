-- A certificate that is read has the right numbers of entries.
use Rattle.std.proofs.Common.{◌≡◌, ℕ, suc, Bool, true, false, cond, eqb, Option, Some, None, List, [], ◌∷◌, codes, length, refl, sym, ap, subst, eqb-true, Result, Ok, Err}
use Rattle.std.specs.Option.{IfSome, option_and_then}
use Rattle.std.specs.Result.{IfOk}
use Rattle.std.proofs.lemmas.List.Elements.{All-cons, All-nil}
use Rattle.ratio_core.specs.Rational.{Rational}
use Rattle.user_model.specs.declared.group.Group.{Group}
use Rattle.user_model.specs.declared.group.GroupVar.{GroupVar}
use Rattle.user_model.specs.declared.row.Row.{Row}
use Rattle.certificates.specs.declared.certificate.Certificate.{Certificate}
use Rattle.certificates.specs.declared.certificate.Certificate.TheVariants as certificate
use Rattle.certificates.specs.Duals.{row_with, rows_with}
use Rattle.certificates.specs.Points.{functions_of, variables_of}
use Rattle.cert_core.specs.Checked.{HasEachDual, HasRowDuals}
use Rattle.cert_text.specs.declared.heading.Heading.{Heading}
use Rattle.cert_text.specs.declared.heading.Heading.TheVariants.{Optimal, Infeasible, Unbounded}
use Rattle.cert_text.specs.Reading.{Lines, after, at_end, body_of, certificate_in, duals_of, each_line, heading_of, infeasible_of, numbers_of, optimal_of, point_of, row_duals_of, unbounded_of, variable_number}
use Rattle.cert_text.specs.ReadsBack.{HasItsEntries}
use Rattle.cert_text.specs.Text.{Line, row_head}

-- ---- what is read step by step

step : {A D : Type 0} (o : Option A) (k : A → Option D) (P : A → Type 0) (Q : D → Type 0)
    → IfSome o P → ((a : A) → P a → IfSome (k a) Q) → IfSome (option_and_then k o) Q
step None k P Q h f = tt
step (Some a) k P Q h f = f a h

any : {A : Type 0} (o : Option A) → IfSome o (λ _. Unit {0})
any None = tt
any (Some a) = tt

ended : {A : Type 0} (Q : A → Type 0) (a : A) (lines : Lines) → Q a → IfSome (at_end a lines) Q
ended Q a [] h = tt
ended Q a ([] ∷ []) h = h
ended Q a ([] ∷ (line ∷ lines)) h = tt
ended Q a ((b ∷ bs) ∷ []) h = tt
ended Q a ((b ∷ bs) ∷ (line ∷ lines)) h = tt

-- ---- lines

each_sized : {X Y : Type 0} (f : X → Line → Option Y) (xs : List X) (lines : Lines)
    → IfSome (each_line f xs lines) (λ p. length p.0 ≡ length xs)
unfolding each_line
each_sized f [] lines = refl
each_sized f (x ∷ xs) [] = tt
each_sized f (x ∷ xs) (line ∷ lines) =
    step (f x line) (λ y. option_and_then (λ p. Some (y ∷ p.0, p.1)) (each_line f xs lines))
    (λ _. Unit {0}) (λ p. length p.0 ≡ suc (length xs)) (any (f x line))
    (λ y _. step (each_line f xs lines) _ (λ p. length p.0 ≡ length xs)
    (λ p. length p.0 ≡ suc (length xs)) (each_sized f xs lines) (λ p h. ap suc h))

duals_sized : (row : Row) (line : Line)
    → IfSome (duals_of row line) (λ qs. length qs ≡ length (functions_of row.func))
unfolding duals_of
duals_sized row line =
    step (after (row_head row) line) _ (λ _. Unit {0})
    (λ qs. length qs ≡ length (functions_of row.func)) (any (after (row_head row) line))
    (λ rest _. step (numbers_of rest) _ (λ _. Unit {0})
    (λ qs. length qs ≡ length (functions_of row.func)) (any (numbers_of rest))
    (λ qs _. kept (eqb (length qs) (length (functions_of row.func))) qs refl))
  where
    kept : (t : Bool) (qs : List Rational) → eqb (length qs) (length (functions_of row.func)) ≡ t
        → IfSome (cond t (Some qs) None) (λ qs. length qs ≡ length (functions_of row.func))
    kept true qs e = eqb-true _ _ e
    kept false qs e = tt

rows_sized : (rows : List Row) (lines : Lines)
    → IfSome (row_duals_of rows lines) (λ p. HasRowDuals rows p.0)
unfolding each_line
rows_sized [] lines = record { each = refl; components = All-nil HasEachDual }
rows_sized (r ∷ rows) [] = tt
rows_sized (r ∷ rows) (line ∷ lines) =
    step (duals_of r line) _ (λ qs. length qs ≡ length (functions_of r.func))
    (λ p. HasRowDuals (r ∷ rows) p.0) (duals_sized r line)
    (λ qs e. step (row_duals_of rows lines) _ (λ p. HasRowDuals rows p.0)
    (λ p. HasRowDuals (r ∷ rows) p.0) (rows_sized rows lines)
    (λ p h. record {
      each = ap suc h.each;
      components = All-cons HasEachDual (row_with qs r)
          (rows_with p.0 rows) e h.components;
    }))

-- ---- certificates

module _ (groups : List Group) (rows : List Row) where
  abbrev variables : List GroupVar
  variables = variables_of groups

  abbrev Sized : List Rational × Lines → Type 0
  Sized p = length p.0 ≡ length variables

  point_sized : (word : List ℕ) (lines : Lines) → IfSome (point_of variables word lines) Sized
  point_sized word lines = each_sized (variable_number word) variables lines

  abbrev RowsSized : List (List Rational) × Lines → Type 0
  RowsSized p = HasRowDuals rows p.0

  -- what is done with each number that is read, and with the lines after it
  abbrev optimal_after : Rational → List Rational → List (List Rational)
      → List Rational × Lines → Option Certificate
  optimal_after value x duals vars = at_end (certificate.Optimal value x duals vars.0) vars.1

  abbrev infeasible_after : Rational → List (List Rational) → List Rational × Lines
      → Option Certificate
  infeasible_after gap duals vars = at_end (certificate.Infeasible gap duals vars.0) vars.1

  abbrev unbounded_after : List Rational → List Rational × Lines → Option Certificate
  unbounded_after x d = at_end (certificate.Unbounded x d.0) d.1

  abbrev Told : Certificate → Type 0
  Told = HasItsEntries groups rows

  optimal_sized : (value : Rational) (lines : Lines)
      → IfSome (optimal_of variables rows value lines) Told
  unfolding optimal_of
  optimal_sized value lines =
      step (point_of variables (codes "primal ") lines)
      (λ x. option_and_then (λ duals. option_and_then (optimal_after value x.0 duals.0)
      (point_of variables (codes "dual var ") duals.1)) (row_duals_of rows x.1))
      Sized Told (point_sized (codes "primal ") lines)
      (λ x of_x. step (row_duals_of rows x.1)
      (λ duals. option_and_then (optimal_after value x.0 duals.0)
      (point_of variables (codes "dual var ") duals.1))
      RowsSized Told (rows_sized rows x.1)
      (λ duals of_rows. step (point_of variables (codes "dual var ") duals.1)
      (optimal_after value x.0 duals.0)
      Sized Told (point_sized (codes "dual var ") duals.1)
      (λ vars of_vars. ended Told (certificate.Optimal value x.0 duals.0 vars.0) vars.1
      (λ objective next. (of_x, of_rows, of_vars)))))

  infeasible_sized : (gap : Rational) (lines : Lines)
      → IfSome (infeasible_of variables rows gap lines) Told
  unfolding infeasible_of
  infeasible_sized gap lines =
      step (row_duals_of rows lines)
      (λ duals. option_and_then (infeasible_after gap duals.0)
      (point_of variables (codes "dual var ") duals.1))
      RowsSized Told (rows_sized rows lines)
      (λ duals of_rows. step (point_of variables (codes "dual var ") duals.1)
      (infeasible_after gap duals.0)
      Sized Told (point_sized (codes "dual var ") duals.1)
      (λ vars of_vars. ended Told (certificate.Infeasible gap duals.0 vars.0) vars.1
      (λ objective next. (of_rows, of_vars))))

  unbounded_sized : (lines : Lines) → IfSome (unbounded_of variables lines) Told
  unfolding unbounded_of
  unbounded_sized lines =
      step (point_of variables (codes "primal ") lines)
      (λ x. option_and_then (unbounded_after x.0) (point_of variables (codes "ray ") x.1))
      Sized Told (point_sized (codes "primal ") lines)
      (λ x of_x. step (point_of variables (codes "ray ") x.1) (unbounded_after x.0)
      Sized Told (point_sized (codes "ray ") x.1)
      (λ d of_d. ended Told (certificate.Unbounded x.0 d.0) d.1 (λ objective next. (of_x, of_d))))

  body_sized : (heading : Heading) (lines : Lines)
      → IfSome (body_of variables rows heading lines) Told
  unfolding body_of
  body_sized (Optimal value) lines = optimal_sized value lines
  body_sized (Infeasible gap) lines = infeasible_sized gap lines
  body_sized Unbounded lines = unbounded_sized lines

  lines_sized : (lines : Lines) → IfSome (certificate_in variables rows lines) Told
  unfolding certificate_in
  lines_sized [] = tt
  lines_sized (first ∷ lines) =
      step (heading_of first) (λ heading. body_of variables rows heading lines) (λ _. Unit {0}) Told
      (any (heading_of first)) (λ heading _. body_sized heading lines)

  pub entries_told : {E : Type 0} (r : Result (Option Certificate) E) (lines : Lines)
      → IfOk r (λ found. found ≡ certificate_in variables rows lines)
      → IfOk r (λ found. IfSome found Told)
  entries_told (Ok found) lines h = subst (λ o. IfSome o Told) (sym h) (lines_sized lines)
  entries_told (Err e) lines h = tt

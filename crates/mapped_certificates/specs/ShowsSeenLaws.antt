-- A certificate that is good for rows as they are seen shows what it says.
--
-- With the duals of the mapped rows brought forward, by the transpose of the inverse N of M, it is a good
-- certificate of each model whose rows stand for these; and a point meets both alike.
use Rattle.std.specs.Prelude.{◌≡◌, suc, List, [], ◌∷◌, Option, Some, None, All, length, refl}
use Rattle.std.proofs.Common.{sym, ◌∙◌, ap, ap₂, arith, subst}
use Rattle.std.proofs.lemmas.List.{length-map}
use Rattle.std.proofs.lemmas.List.Elements.{All-append, All-cons, All-head, All-nil, All-tail, All-weaker}
use Rattle.ratio_core.specs.Rational.{Rational, ◌+ℚ◌}
use Rattle.aff_core.specs.Address.{Address}
use Rattle.set_core.specs.Membership.{Dual}
use Rattle.set_map.specs.MappedSet.{MappedSet}
use Rattle.set_map.specs.MatrixLaws.{length-transposed, undone}
use Rattle.set_map.specs.Matrices.{applied, transposed}
use Rattle.user_model.specs.declared.row.Row.{Row}
use Rattle.user_model.specs.Model.{ModelValue}
use Rattle.user_model.specs.Valid.{IsValid}
use Rattle.certificates.specs.declared.certificate.Certificate.{Certificate}
use Rattle.certificates.specs.declared.certificate.Certificate.TheVariants.{Optimal, Infeasible, Unbounded}
use Rattle.certificates.specs.Duals.{AreDuals, adjoint_of_rows, dual_gap, dual_value, groups_with, reduced_cost, row_with, rows_with}
use Rattle.dual_laws.specs.Held.{HasDuals}
use Rattle.certificates.specs.Good.{Cancels, Good, HasReducedCost}
use Rattle.certificates.specs.GoodLaws.{BetterPoint, none_is_better, none_is_feasible, some_is_better}
use Rattle.certificates.specs.Points.{all_addresses, at_point, functions_of, objective_coefficient, objective_constant, sense_of}
use Rattle.mapped_certificates.specs.GoodSeen.{CancelsSeen, GoodSeen, HasSeenCost}
use Rattle.mapped_certificates.specs.Seen.{AreDualsSeen, HasSeenDuals, adjoint_seen, gap_seen, with_seen}
use Rattle.mapped_certificates.specs.SeenRow.{DualBy, SeenRow}
use Rattle.mapped_certificates.specs.ShowsSeen.{HasBetterSeen, ShowsSeen}
use Rattle.mapped_certificates.specs.StandLaws.{feasible_own, feasible_seen, ray_own}
use Rattle.mapped_certificates.specs.TakenBack.{StandForSeen, StandsForSeen, all_taken, taken_by}
use Rattle.mapped_certificates.specs.TakenBackLaws.{adjoints_agree, gaps_agree}

-- ---- duals brought forward

abbrev brought_by : Option MappedSet → List Rational → List Rational
brought_by None w = w
brought_by (Some s) w = applied (transposed s.inverse) w

abbrev pub all_brought : List SeenRow → List (List Rational) → List (List Rational)
all_brought rows [] = []
all_brought [] (w ∷ ws) = w ∷ ws
all_brought (r ∷ rows) (w ∷ ws) = brought_by r.seen w ∷ all_brought rows ws

abbrev pub brought_forward : List SeenRow → Certificate → Certificate
brought_forward rows (Optimal value x duals vars) = Optimal value x (all_brought rows duals) vars
brought_forward rows (Infeasible gap duals vars) = Infeasible gap (all_brought rows duals) vars
brought_forward rows (Unbounded x d) = Unbounded x d

-- a row's duals brought forward are duals of the row that stands for it, and taken back they are the same
record BringsForward (own : Row) (seen : Option MappedSet) (w : List Rational) : Type 0 where
  size : length (brought_by seen w) ≡ length (functions_of own.func)
  dual : Dual own.set (brought_by seen w)
  same : taken_by seen (brought_by seen w) ≡ w

brings_forward : (own row : Row) (seen : Option MappedSet) → StandsForSeen seen own row
    → (w : List Rational) → length w ≡ length (functions_of row.func) → DualBy row.set seen w
    → BringsForward own seen w
brings_forward own row None same w e d = record {
  size = e ∙ ap (λ (r : Row). length (functions_of r.func)) (sym same);
  dual = subst (λ (r : Row). Dual r.set w) (sym same) d;
  same = refl;
}
brings_forward own row (Some s) is w e d = record {
  size = length-transposed s.inverse w ∙ is.pair.second.rows
      ∙ sym (ap length is.functions ∙ length-map s.matrix _);
  dual = subst (λ c. Dual c (applied (transposed s.inverse) w)) (sym is.set) d;
  same = undone (length s.matrix) s.inverse s.matrix w is.pair.second is.pair.first is.inverse.left
      (e ∙ is.size);
}

record AllBrought (owns : List Row) (rows : List SeenRow) (ws : List (List Rational)) : Type 0 where
  each : length (all_brought rows ws) ≡ length owns
  hold : All HasDuals (rows_with (all_brought rows ws) owns)
  same : all_taken rows (all_brought rows ws) ≡ ws

all_brought_forward : (owns : List Row) (rows : List SeenRow) (ws : List (List Rational))
    → StandForSeen owns rows → length ws ≡ length rows → All HasSeenDuals (with_seen ws rows)
    → AllBrought owns rows ws
all_brought_forward [] [] [] stand e h = record {
  each = refl;
  hold = All-nil HasDuals;
  same = refl;
}
all_brought_forward [] [] (w ∷ ws) stand e h = absurd (omega (arith, e))
all_brought_forward [] (r ∷ rows) ws stand e h = absurd stand
all_brought_forward (own ∷ owns) [] ws stand e h = absurd stand
all_brought_forward (own ∷ owns) (r ∷ rows) [] stand e h = absurd (omega (arith, e))
all_brought_forward (own ∷ owns) (r ∷ rows) (w ∷ ws) stand e h =
    let mine : HasSeenDuals (record { duals = w; row = r }) =
    All-head HasSeenDuals (record { duals = w; row = r }) (with_seen ws rows) h in
    let one : BringsForward own r.seen w =
    brings_forward own r.row r.seen stand.0 w mine.size mine.dual in
    let others : AllBrought owns rows ws =
    all_brought_forward owns rows ws stand.1 (omega (arith, e))
    (All-tail HasSeenDuals (record { duals = w; row = r }) (with_seen ws rows) h) in record {
      each = ap (λ k. suc k) others.each;
      hold = All-cons HasDuals (row_with (brought_by r.seen w) own)
          (rows_with (all_brought rows ws) owns)
          (record { size = one.size; dual = one.dual }) others.hold;
      same = ap₂ (λ x xs. x ∷ xs) one.same others.same;
    }

-- ---- the three kinds

module _ (model : ModelValue) (rows : List SeenRow) (stand : StandForSeen model.rows rows) where
  module _ (ws : List (List Rational)) (vars : List Rational)
      (duals : AreDualsSeen model.groups rows ws vars) where
    forward : AllBrought model.rows rows ws
    forward = all_brought_forward model.rows rows ws stand duals.each_row duals.of_rows

    duals_own : AreDuals model (all_brought rows ws) vars
    duals_own = record {
      each_row = forward.each;
      each_variable = duals.each_variable;
      duals = All-append HasDuals (rows_with (all_brought rows ws) model.rows)
          (groups_with (at_point model vars) model.groups) forward.hold duals.of_groups;
    }

    adjoint_own : (v : Address)
        → adjoint_seen model.groups rows ws v ≡ adjoint_of_rows model (all_brought rows ws) v
    adjoint_own v =
        ap (λ us. adjoint_seen model.groups rows us v) (sym forward.same)
        ∙ sym (adjoints_agree model rows stand (all_brought rows ws) vars duals_own v)

    gap_own : gap_seen model.groups rows ws vars ≡ dual_gap model (all_brought rows ws) vars
    gap_own =
        ap (λ us. gap_seen model.groups rows us vars) (sym forward.same)
        ∙ sym (gaps_agree model rows stand (all_brought rows ws) vars duals_own)

  pub good_own : (c : Certificate) → GoodSeen model.groups rows model.objective c
      → Good model (brought_forward rows c)
  good_own (Optimal value x ws vars) good = record {
    feasible = feasible_own model rows stand x good.feasible;
    duals = duals_own ws vars good.are_duals;
    equations = All-weaker (HasSeenCost model.groups rows model.objective ws vars)
        (HasReducedCost model (all_brought rows ws) vars)
        (λ v e. e
        ∙ ap (λ a. reduced_cost (sense_of model.objective) (objective_coefficient model v) a)
        (adjoint_own ws vars good.are_duals v))
        (all_addresses model.groups) good.equations;
    primal = good.primal;
    dual = good.dual
        ∙ ap (λ g. dual_value (sense_of model.objective) (objective_constant model) g)
        (gap_own ws vars good.are_duals);
  }
  good_own (Infeasible gap ws vars) good = record {
    duals = duals_own ws vars good.are_duals;
    equations = All-weaker (CancelsSeen model.groups rows model.objective ws vars)
        (Cancels model (all_brought rows ws) vars)
        (λ v e. ap (λ a. a +ℚ at_point model vars v) (sym (adjoint_own ws vars good.are_duals v))
        ∙ e)
        (all_addresses model.groups) good.equations;
    is_gap = good.is_gap ∙ gap_own ws vars good.are_duals;
    positive = good.positive;
  }
  good_own (Unbounded x d) good = record {
    feasible = feasible_own model rows stand x good.feasible;
    ray = ray_own model rows stand d good.ray;
    improves = good.improves;
  }

  -- ---- what they show

  module _ (valid : IsValid model) where
    better_seen : (b : Rational) → BetterPoint model b
        → HasBetterSeen model.groups rows model.objective b
    better_seen b p = record {
      point = p.point;
      feasible = feasible_seen model rows stand p.point p.feasible;
      better = p.better;
    }

    shows : (c : Certificate) → Good model c → ShowsSeen model.groups rows model.objective c
    shows (Optimal value x ys vars) good = record {
      feasible = feasible_seen model rows stand x good.feasible;
      reached = good.primal;
      best = λ y there. none_is_better model valid value x ys vars good y
          (feasible_own model rows stand y there);
    }
    shows (Infeasible gap ys vars) good = λ y there.
        none_is_feasible model valid gap ys vars good y (feasible_own model rows stand y there)
    shows (Unbounded x d) good = λ b. better_seen b (some_is_better model x d good b)

    pub good_shows_seen : (c : Certificate) → GoodSeen model.groups rows model.objective c
        → ShowsSeen model.groups rows model.objective c
    good_shows_seen (Optimal value x ws vars) good =
        shows (Optimal value x (all_brought rows ws) vars) (good_own (Optimal value x ws vars) good)
    good_shows_seen (Infeasible gap ws vars) good =
        shows (Infeasible gap (all_brought rows ws) vars) (good_own (Infeasible gap ws vars) good)
    good_shows_seen (Unbounded x d) good =
        shows (Unbounded x d) (good_own (Unbounded x d) good)

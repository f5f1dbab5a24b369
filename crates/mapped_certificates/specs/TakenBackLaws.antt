-- A good certificate of the model with mapped rows is good when the duals are taken back.
use Rattle.std.specs.Prelude.{◌≡◌, suc, false, List, [], ◌∷◌, Option, Some, None, All, length, refl}
use Rattle.std.proofs.Common.{sym, ◌∙◌, ap, ap₂, arith, subst, true≢false}
use Rattle.std.proofs.lemmas.List.Elements.{All-cons, All-head, All-nil, All-tail, All-weaker}
use Rattle.map_laws.specs.EachLaws.{all_first, all_second}
use Rattle.ratio_core.specs.Rational.{Rational, zero_ℚ, ◌+ℚ◌, ◌-ℚ◌}
use Rattle.rational_laws.specs.Dot.{dot}
use Rattle.rational_laws.specs.Sums.{sum_by_ℚ, sum_by_ℚ-append}
use Rattle.aff_core.specs.Address.{Address}
use Rattle.aff_core.specs.Function.{Function}
use Rattle.aff_core.specs.FunctionLists.{coefficients, constants}
use Rattle.dual_laws.specs.Held.{HasDuals, adjoint, gap, gap_of}
use Rattle.set_core.specs.declared.set.Set.{Set}
use Rattle.set_core.specs.declared.set.Set.TheVariants.{LessThan, GreaterThan, EqualTo, Interval}
use Rattle.set_core.specs.Membership.{Dual, low_of}
use Rattle.set_core.specs.Shapes.{is_scalar}
use Rattle.set_map.specs.Combinations.{mapped}
use Rattle.set_map.specs.MappedSet.{CarriesBack, MappedSet}
use Rattle.set_map.specs.MappedSetLaws.{carries_back}
use Rattle.set_map.specs.Matrices.{applied, transposed}
use Rattle.user_model.specs.declared.row.Row.{Row}
use Rattle.user_model.specs.Model.{ModelValue}
use Rattle.certificates.specs.declared.certificate.Certificate.{Certificate}
use Rattle.certificates.specs.declared.certificate.Certificate.TheVariants.{Optimal, Infeasible, Unbounded}
use Rattle.certificates.specs.Duals.{AreDuals, adjoint_of_rows, dual_gap, dual_value, groups_with, reduced_cost, row_with, rows_with}
use Rattle.certificates.specs.Good.{Cancels, Good, HasReducedCost}
use Rattle.certificates.specs.Points.{all_addresses, at_point, functions_of, objective_coefficient, objective_constant, sense_of}
use Rattle.mapped_certificates.specs.GoodSeen.{CancelsSeen, GoodSeen, HasSeenCost}
use Rattle.mapped_certificates.specs.Seen.{AreDualsSeen, HasSeenDuals, adjoint_of_seen, adjoint_seen, gap_of_seen, gap_seen, with_seen}
use Rattle.mapped_certificates.specs.SeenRow.{DualBy, SeenRow, low_by}
use Rattle.mapped_certificates.specs.StandLaws.{feasible_seen, ray_seen}
use Rattle.mapped_certificates.specs.TakenBack.{StandForSeen, StandsForSeen, all_taken, taken_back, taken_by}

cone_low : (set : Set) (w : List Rational) → is_scalar set ≡ false → low_of set w ≡ zero_ℚ
cone_low (LessThan u) w c = absurd (true≢false c)
cone_low (GreaterThan l) w c = absurd (true≢false c)
cone_low (EqualTo x) w c = absurd (true≢false c)
cone_low (Interval l u) w c = absurd (true≢false c)
cone_low _ w c = refl

-- ---- one row

module _ (own row : Row) where
  abbrev fs : List Function
  fs = functions_of row.func

  abbrev gs : List Function
  gs = functions_of own.func

  -- what a row's duals, taken back, say of it
  record TakesBack (seen : Option MappedSet) (y : List Rational) : Type 0 where
    size : length (taken_by seen y) ≡ length fs
    dual : DualBy row.set seen (taken_by seen y)
    adjoint : (v : Address)
        → dot (taken_by seen y) (coefficients fs v) ≡ dot y (coefficients gs v)
    gap :
        low_by row.set seen (taken_by seen y) -ℚ dot (taken_by seen y) (constants fs)
        ≡ low_of own.set y -ℚ dot y (constants gs)

  takes_back : (seen : Option MappedSet) → StandsForSeen seen own row → (y : List Rational)
      → length y ≡ length gs → Dual own.set y → TakesBack seen y
  takes_back None same y e d = record {
    size = e ∙ ap (λ (r : Row). length (functions_of r.func)) same;
    dual = subst (λ (r : Row). Dual r.set y) same d;
    adjoint = λ v.
        ap (λ (r : Row). dot y (coefficients (functions_of r.func) v)) (sym same);
    gap = ap (λ (r : Row). low_of r.set y -ℚ dot y (constants (functions_of r.func))) (sym same);
  }
  takes_back (Some s) is y e d =
      let long : length y ≡ length s.matrix =
      e ∙ ap length is.functions ∙ rows_lem s.matrix in
      let back : CarriesBack s fs y (applied (transposed s.matrix) y) =
      carries_back s.matrix s.inverse s.cone fs y (applied (transposed s.matrix) y) is.pair.first
      is.pair.second is.inverse is.size long refl in record {
        size = back.size;
        dual = back.dual (subst (λ c. Dual c y) is.set d);
        adjoint = λ v. back.adjoint v ∙ ap (λ hs. dot y (coefficients hs v)) (sym is.functions);
        gap = ap₂ ◌-ℚ◌
            (sym (cone_low own.set y (ap is_scalar is.set ∙ is.cone)))
            (back.constants ∙ ap (λ hs. dot y (constants hs)) (sym is.functions));
      }
    where
      rows_lem : (m : List (List Rational)) → length (mapped m fs) ≡ length m
      rows_lem [] = refl
      rows_lem (r ∷ m) = ap (λ k. suc k) (rows_lem m)

-- ---- all rows

-- what the duals of rows, taken back, say of them
record AllTakeBack (owns : List Row) (rows : List SeenRow) (ys : List (List Rational)) : Type 0 where
  each : length (all_taken rows ys) ≡ length rows
  hold : All HasSeenDuals (with_seen (all_taken rows ys) rows)
  adjoint : (v : Address)
      → sum_by_ℚ (λ h. adjoint_of_seen h v) (with_seen (all_taken rows ys) rows)
      ≡ adjoint (rows_with ys owns) v
  gap : sum_by_ℚ gap_of_seen (with_seen (all_taken rows ys) rows) ≡ gap (rows_with ys owns)

all_take_back : (owns : List Row) (rows : List SeenRow) (ys : List (List Rational))
    → StandForSeen owns rows → length ys ≡ length owns → All HasDuals (rows_with ys owns)
    → AllTakeBack owns rows ys
all_take_back [] [] [] stand e h = record {
  each = refl;
  hold = All-nil HasSeenDuals;
  adjoint = λ v. refl;
  gap = refl;
}
all_take_back [] [] (y ∷ ys) stand e h = absurd (omega (arith, e))
all_take_back [] (r ∷ rows) ys stand e h = absurd stand
all_take_back (own ∷ owns) [] ys stand e h = absurd stand
all_take_back (own ∷ owns) (r ∷ rows) [] stand e h = absurd (omega (arith, e))
all_take_back (own ∷ owns) (r ∷ rows) (y ∷ ys) stand e h =
    let mine : HasDuals (row_with y own) =
    All-head HasDuals (row_with y own) (rows_with ys owns) h in
    let one : TakesBack own r.row r.seen y =
    takes_back own r.row r.seen stand.0 y mine.size mine.dual in
    let others : AllTakeBack owns rows ys =
    all_take_back owns rows ys stand.1 (omega (arith, e))
    (All-tail HasDuals (row_with y own) (rows_with ys owns) h) in record {
      each = ap (λ k. suc k) others.each;
      hold = All-cons HasSeenDuals (record { duals = taken_by r.seen y; row = r })
          (with_seen (all_taken rows ys) rows) (record { size = one.size; dual = one.dual })
          others.hold;
      adjoint = λ v. ap₂ ◌+ℚ◌ (one.adjoint v) (others.adjoint v);
      gap = ap₂ ◌+ℚ◌ one.gap others.gap;
    }

-- ---- the three kinds

module _ (model : ModelValue) (rows : List SeenRow) (stand : StandForSeen model.rows rows) where
  module _ (ys : List (List Rational)) (vars : List Rational) (duals : AreDuals model ys vars) where
    abbrev of_model : List Rational → Address → Rational
    of_model = at_point model

    back : AllTakeBack model.rows rows ys
    back = all_take_back model.rows rows ys stand duals.each_row
        (all_first HasDuals (rows_with ys model.rows)
        (groups_with (of_model vars) model.groups) duals.duals)

    duals_seen : AreDualsSeen model.groups rows (all_taken rows ys) vars
    duals_seen = record {
      each_row = back.each;
      each_variable = duals.each_variable;
      of_rows = back.hold;
      of_groups = all_second HasDuals (rows_with ys model.rows)
          (groups_with (of_model vars) model.groups) duals.duals;
    }

    pub adjoints_agree : (v : Address)
        → adjoint_of_rows model ys v ≡ adjoint_seen model.groups rows (all_taken rows ys) v
    adjoints_agree v = sym (back.adjoint v)

    pub gaps_agree : dual_gap model ys vars ≡ gap_seen model.groups rows (all_taken rows ys) vars
    gaps_agree =
        sum_by_ℚ-append gap_of (rows_with ys model.rows)
        (groups_with (of_model vars) model.groups)
        ∙ ap (λ q. q +ℚ gap (groups_with (of_model vars) model.groups)) (sym back.gap)

  -- a good certificate of the model is good for the rows as they are seen
  pub good_seen : (c : Certificate) → Good model c
      → GoodSeen model.groups rows model.objective (taken_back rows c)
  good_seen (Optimal value x ys vars) good = record {
    feasible = feasible_seen model rows stand x good.feasible;
    are_duals = duals_seen ys vars good.duals;
    equations = All-weaker (HasReducedCost model ys vars)
        (HasSeenCost model.groups rows model.objective (all_taken rows ys) vars)
        (λ v e. e
        ∙ ap (λ a. reduced_cost (sense_of model.objective) (objective_coefficient model v) a)
        (adjoints_agree ys vars good.duals v))
        (all_addresses model.groups) good.equations;
    primal = good.primal;
    dual = good.dual
        ∙ ap (λ g. dual_value (sense_of model.objective) (objective_constant model) g)
        (gaps_agree ys vars good.duals);
  }
  good_seen (Infeasible value ys vars) good = record {
    are_duals = duals_seen ys vars good.duals;
    equations = All-weaker (Cancels model ys vars)
        (CancelsSeen model.groups rows model.objective (all_taken rows ys) vars)
        (λ v e. ap (λ a. a +ℚ at_point model vars v) (sym (adjoints_agree ys vars good.duals v))
        ∙ e)
        (all_addresses model.groups) good.equations;
    is_gap = good.is_gap ∙ gaps_agree ys vars good.duals;
    positive = good.positive;
  }
  good_seen (Unbounded x d) good = record {
    feasible = feasible_seen model rows stand x good.feasible;
    ray = ray_seen model rows stand d good.ray;
    improves = good.improves;
  }

-- What the sums of the objective come to, as the variables are moved: the bounds of the rows less
-- their values at the bounds of the model, and the objective's value there.
use Rattle.std.specs.Prelude.{◌≡◌, List, [], ◌∷◌, ◌++◌, All, flat_map, length, map, refl}
use Rattle.std.specs.List.{IsDistinct}
use Rattle.std.specs.Option.{option_map_or}
use Rattle.std.proofs.Common.{sym, ◌∙◌, ap, ap₂, arith}
use Rattle.std.proofs.lemmas.List.{length-map, map-append}
use Rattle.std.proofs.lemmas.List.Elements.{All-head, All-tail}
use Rattle.ratio_core.specs.Rational.{Rational, neg_ℚ, zero_ℚ, ◌*ℚ◌, ◌+ℚ◌}
use Rattle.rational_laws.specs.Dot.{dot, minus, times}
use Rattle.rational_laws.specs.DotLaws.{dot-append, dot-zeros}
use Rattle.rational_laws.specs.Field.{+ℚ-zero, +ℚ_assoc}
use Rattle.rational_laws.specs.Ring.{as_expression, by_ring, ring₄}
use Rattle.rational_laws.specs.Sums.{sum_by_ℚ, sum_by_ℚ-append}
use Rattle.aff_core.specs.Address.{Address, address_eq}
use Rattle.aff_core.specs.Function.{Function, coefficient, slope, value_of}
use Rattle.aff_core.specs.FunctionLists.{values}
use Rattle.set_core.specs.declared.set.Set.{Set}
use Rattle.set_core.specs.declared.set.Set.TheVariants.{EqualTo, GreaterThan, Interval, LessThan}
use Rattle.set_core.specs.Shapes.{IsSetOf}
use Rattle.user_model.specs.declared.group.Group.{Group}
use Rattle.user_model.specs.declared.group.GroupVar.{GroupVar}
use Rattle.user_model.specs.declared.objective.Objective.{Objective}
use Rattle.user_model.specs.declared.row.Row.{Row}
use Rattle.user_model.specs.Model.{ModelValue}
use Rattle.certificates.specs.Points.{address_of, addresses_of, all_addresses, functions_of, objective_function}
use Rattle.certificates.specs.PointLaws.{split_addresses}
use Rattle.dual_parts.specs.GroupPartLaws.{length-shifts_on}
use Rattle.dual_parts.specs.PartLaws.{length-bounds_on, length-on_parts}
use Rattle.dual_parts.specs.Parts.{on_parts, shifts_on}
use Rattle.dual_model.specs.DualOf.{at_bounds, bound_numbers, row_size}
use Rattle.dual_model.specs.GroupRowLaws.{HasGroupSetOf}
use Rattle.dual_model.specs.PlaceLaws.{length-bound_numbers}
use Rattle.dual_model.specs.RowPartLaws.{HasSetOf}
use Rattle.dualization.specs.declared.sums.Sums.{Sums}
use Rattle.dualization.specs.Fitting.{after_move, after_moves, lone_bound, moves, moves_to, own_moves, row_bounds, start_sums}
use Rattle.dualization.specs.Rows.{IsObjectiveOf}
use Rattle.dualization.proofs.AlongLemmas.{slope_along}

-- ---- functions, one for each variable of the rows' duals

abbrev functions_on : Set → List Function → List Function
functions_on (Interval l u) fs = fs ++ fs
functions_on set fs = fs

abbrev part_functions : List Row → List Function
part_functions rows = flat_map (λ r. functions_on r.set (functions_of r.func)) rows

abbrev part_bounds : List Row → List Rational
part_bounds rows = flat_map row_bounds rows

on_parts_map : (h : Function → Rational) (set : Set) (fs : List Function)
    → on_parts set (map h fs) ≡ map h (functions_on set fs)
on_parts_map h (Interval l u) fs = sym (map-append h fs fs)
on_parts_map h set fs = refl

-- what they have, part by part
each_part : (h : Function → Rational) (rows : List Row)
    → flat_map (λ r. on_parts r.set (map h (functions_of r.func))) rows ≡ map h (part_functions rows)
each_part h [] = refl
each_part h (r ∷ rows) =
    ap₂ ◌++◌ (on_parts_map h r.set (functions_of r.func)) (each_part h rows)
    ∙ sym (map-append h (functions_on r.set (functions_of r.func)) (part_functions rows))

minus-append : (u v y z : List Rational) → length u ≡ length y
    → minus (u ++ v) (y ++ z) ≡ minus u y ++ minus v z
minus-append [] v [] z e = refl
minus-append [] v (q ∷ y) z e = absurd (omega (arith, e))
minus-append (p ∷ u) v [] z e = absurd (omega (arith, e))
minus-append (p ∷ u) v (q ∷ y) z e =
    ap (λ s. (p +ℚ neg_ℚ q) ∷ s) (minus-append u v y z (omega (arith, e)))

same_size : (h : Function → Rational) (r : Row) → HasSetOf r
    → length (row_bounds r) ≡ length (on_parts r.set (map h (functions_of r.func)))
same_size h r s =
    length-bounds_on (row_size r) r.set s
    ∙ sym (length-on_parts (row_size r) r.set (map h (functions_of r.func)) s
    (length-map (functions_of r.func) h))

-- row by row the bounds less what the functions have
rows_less : (h : Function → Rational) (rows : List Row) → All HasSetOf rows
    → flat_map (λ r. minus (row_bounds r) (on_parts r.set (map h (functions_of r.func)))) rows
    ≡ minus (part_bounds rows) (map h (part_functions rows))
rows_less h [] sets = refl
rows_less h (r ∷ rows) sets =
    let own : List Rational = on_parts r.set (map h (functions_of r.func)) in
    let rest : List Rational =
    flat_map (λ r. on_parts r.set (map h (functions_of r.func))) rows in
    ap (λ s. minus (row_bounds r) own ++ s)
    (rows_less h rows (All-tail HasSetOf r rows sets)
    ∙ ap (minus (part_bounds rows)) (sym (each_part h rows)))
    ∙ sym (minus-append (row_bounds r) (part_bounds rows) own rest
    (same_size h r (All-head HasSetOf r rows sets)))
    ∙ ap (minus (part_bounds (r ∷ rows))) (each_part h (r ∷ rows))

-- ---- moves

abbrev gain : Function → GroupVar × Rational → Rational
gain f m = coefficient f (address_of m.0) *ℚ m.1

abbrev gains : Function → List (GroupVar × Rational) → Rational
gains f ms = sum_by_ℚ (gain f) ms

one_off : (b h c u : Rational) → (b +ℚ neg_ℚ h) +ℚ neg_ℚ (u *ℚ c) ≡ b +ℚ neg_ℚ (h +ℚ c *ℚ u)
one_off = ring₄ _ (λ ρ. simp as_expression (by_ring ρ _ _ refl))

less_more : (bs : List Rational) (h : Function → Rational) (m : GroupVar × Rational)
    (fs : List Function)
    → minus (minus bs (map h fs)) (times m.1 (map (λ f. coefficient f (address_of m.0)) fs))
    ≡ minus bs (map (λ f. h f +ℚ gain f m) fs)
less_more [] h m fs = refl
less_more (b ∷ bs) h m [] = refl
less_more (b ∷ bs) h m (f ∷ fs) =
    ap₂ (λ p ps. p ∷ ps) (one_off b (h f) (coefficient f (address_of m.0)) m.1)
    (less_more bs h m fs)

module _ (rows : List Row) (objective : Objective) where
  parts_moved : (ms : List (GroupVar × Rational)) (s : Sums) (h : Function → Rational)
      → s.parts ≡ minus (part_bounds rows) (map h (part_functions rows))
      → (after_moves rows objective ms s).parts
      ≡ minus (part_bounds rows) (map (λ f. h f +ℚ gains f ms) (part_functions rows))
  parts_moved [] s h e =
      e ∙ ap (minus (part_bounds rows)) (each (part_functions rows))
    where
      each : (fs : List Function) → map h fs ≡ map (λ f. h f +ℚ zero_ℚ) fs
      each [] = refl
      each (f ∷ fs) = ap₂ (λ p ps. p ∷ ps) (sym (+ℚ-zero (h f))) (each fs)
  parts_moved (m ∷ ms) s h e =
      parts_moved ms (after_move rows objective m s) (λ f. h f +ℚ gain f m)
      (ap₂ (λ p c. minus p (times m.1 c)) e
      (each_part (λ f. coefficient f (address_of m.0)) rows)
      ∙ less_more (part_bounds rows) h m (part_functions rows))
      ∙ ap (minus (part_bounds rows)) (each (part_functions rows))
    where
      each : (fs : List Function)
          → map (λ f. (h f +ℚ gain f m) +ℚ gains f ms) fs ≡ map (λ f. h f +ℚ gains f (m ∷ ms)) fs
      each [] = refl
      each (f ∷ fs) = ap₂ (λ p ps. p ∷ ps) (+ℚ_assoc (h f) (gain f m) (gains f ms)) (each fs)

  constant_moved : (ms : List (GroupVar × Rational)) (s : Sums)
      → (after_moves rows objective ms s).constant
      ≡ s.constant +ℚ gains (objective_function objective) ms
  constant_moved [] s = sym (+ℚ-zero s.constant)
  constant_moved (m ∷ ms) s =
      constant_moved ms (after_move rows objective m s)
      ∙ +ℚ_assoc s.constant (gain (objective_function objective) m)
      (gains (objective_function objective) ms)

-- ---- all moves lead to the bounds

-- a list of one variable, as a set of numbers has it
only : (P : List GroupVar → Type 0) → ((v : GroupVar) → P (v ∷ [])) → (vars : List GroupVar)
    → 1 ≡ length (addresses_of vars) → P vars
only P h [] e = absurd (omega (arith, e))
only P h (v ∷ []) e = h v
only P h (v ∷ w ∷ vars) e = absurd (omega (arith, e))

abbrev weighed : Function → Group → Rational
weighed f g =
    dot (map (coefficient f) (addresses_of g.vars)) (shifts_on g.set (length g.vars))

module _ (f : Function) where
  moved_alone : (u : Rational) (vars : List GroupVar) → 1 ≡ length (addresses_of vars)
      → dot (map (coefficient f) (addresses_of vars)) (u ∷ []) ≡ gains f (moves_to vars u)
  moved_alone u vars e =
      only (λ vars. dot (map (coefficient f) (addresses_of vars)) (u ∷ [])
      ≡ gains f (moves_to vars u)) (λ v. refl) vars e

  own_gains : (vars : List GroupVar) (set : Set) → IsSetOf (length (addresses_of vars)) set
      → dot (map (coefficient f) (addresses_of vars)) (shifts_on set (length vars))
      ≡ gains f (option_map_or (moves_to vars) (lone_bound set) [])
  own_gains vars (LessThan u) s = moved_alone u vars s.dimension
  own_gains vars (GreaterThan l) s = moved_alone l vars s.dimension
  own_gains vars (EqualTo a) s = moved_alone a vars s.dimension
  own_gains vars (Interval l u) s = dot-zeros (map (coefficient f) (addresses_of vars)) 1
  own_gains vars set s = dot-zeros (map (coefficient f) (addresses_of vars)) (length vars)

  all_gains : (groups : List Group) → All HasGroupSetOf groups
      → dot (map (coefficient f) (all_addresses groups)) (bound_numbers groups)
      ≡ gains f (moves groups)
  all_gains [] sets = refl
  all_gains (g ∷ groups) sets =
      let vs : List Address = addresses_of g.vars in
      let own = All-head HasGroupSetOf g groups sets in
      ap (λ us. dot (map (coefficient f) us) (bound_numbers (g ∷ groups)))
      (split_addresses g groups)
      ∙ ap (λ qs. dot qs (bound_numbers (g ∷ groups)))
      (map-append (coefficient f) vs (all_addresses groups))
      ∙ dot-append (map (coefficient f) vs) (shifts_on g.set (length g.vars))
      (map (coefficient f) (all_addresses groups)) (bound_numbers groups)
      (length-map vs (coefficient f) ∙ sym (size g own))
      ∙ ap₂ ◌+ℚ◌ (own_gains g.vars g.set own)
      (all_gains groups (All-tail HasGroupSetOf g groups sets))
      ∙ sym (sum_by_ℚ-append (gain f) (own_moves g) (moves groups))
    where
      size : (g : Group) → HasGroupSetOf g
          → length (shifts_on g.set (length g.vars)) ≡ length (addresses_of g.vars)
      size g own =
          ap (λ n. length (shifts_on g.set n)) (sym (length-map g.vars address_of))
          ∙ length-shifts_on (length (addresses_of g.vars)) g.set own

  -- the gains are the slope at the bounds
  slope_at_bounds : (model : ModelValue) → IsDistinct address_eq (all_addresses model.groups)
      → All HasGroupSetOf model.groups → gains f (moves model.groups) ≡ slope f (at_bounds model)
  slope_at_bounds model apart sets =
      sym (slope_along f (all_addresses model.groups) (bound_numbers model.groups) apart
      (sym (length-bound_numbers model.groups sets))
      ∙ all_gains model.groups sets)

-- so the sums are those of the dual's objective
module _ (model : ModelValue) (rows_sets : All HasSetOf model.rows)
    (groups_sets : All HasGroupSetOf model.groups)
    (apart : IsDistinct address_eq (all_addresses model.groups)) where
  value_is : (f : Function) → f.constant +ℚ gains f (moves model.groups) ≡ value_of f (at_bounds model)
  unfolding value_of
  value_is f = ap (λ s. f.constant +ℚ s) (slope_at_bounds f model apart groups_sets)

  each_value : (fs : List Function)
      → map (λ f. f.constant +ℚ gains f (moves model.groups)) fs ≡ values fs (at_bounds model)
  each_value [] = refl
  each_value (f ∷ fs) = ap₂ (λ p ps. p ∷ ps) (value_is f) (each_value fs)

  pub all_moved : IsObjectiveOf model (after_moves model.rows model.objective (moves model.groups)
      (start_sums model.rows model.objective))
  all_moved = record {
    constant =
        constant_moved model.rows model.objective (moves model.groups)
        (start_sums model.rows model.objective)
        ∙ value_is (objective_function model.objective);
    parts =
        parts_moved model.rows model.objective (moves model.groups)
        (start_sums model.rows model.objective) (λ f. f.constant)
        (rows_less (λ f. f.constant) model.rows rows_sets)
        ∙ ap (minus (part_bounds model.rows)) (each_value (part_functions model.rows))
        ∙ sym (rows_less (λ f. value_of f (at_bounds model)) model.rows rows_sets);
  }

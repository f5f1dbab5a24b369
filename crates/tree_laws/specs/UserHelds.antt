-- The user's rows and groups with their duals, as items have them.
use Rattle.std.specs.Prelude.{◌≡◌, List, [], ◌∷◌, All, Contains, map, refl}
use Rattle.std.proofs.Common.{sym, ap, ap₂, subst}
use Rattle.std.proofs.lemmas.List.Elements.{All-cons, All-contains_itself, All-head, All-nil, All-tail, All-weaker, Contains-append_left, Contains-append_right}
use Rattle.ratio_core.specs.Rational.{Rational, zero_ℚ}
use Rattle.set_core.specs.Membership.{In}
use Rattle.set_core.specs.Mirrored.{multiplied}
use Rattle.aff_core.specs.Address.{Address}
use Rattle.aff_core.specs.FunctionLists.{evaluations}
use Rattle.dual_laws.specs.Held.{AllHold, DualsHold, DualRow, Holds, IsHeld, HasDuals}
use Rattle.certificates.specs.Duals.{groups_with, row_with, rows_with}
use Rattle.certificates.specs.Points.{addresses_of, all_addresses, functions_of, functions_of_group}
use Rattle.bridge_face.specs.Law.{held}
use Rattle.fresh_bridging.specs.ModelImage.{group_item, row_item}
use Rattle.user_model.specs.declared.group.Group.{Group}
use Rattle.user_model.specs.declared.row.Row.{Row}
use Rattle.tree_laws.specs.Carried.{group_helds}
use Rattle.tree_laws.specs.TreeLaws.{same_numbers}
use Rattle.tree_laws.specs.UserLaws.{row_functions_are, row_sets_are}
use Rattle.certificates.specs.PointLaws.{split_addresses}

-- ---- rows with duals, and groups with the variables'

pub rows_are : (bound : Rational) (rows : List Row) (zs : List (List Rational))
    → held bound (map row_item rows) zs ≡ rows_with zs rows
rows_are bound [] [] = refl
rows_are bound [] (z ∷ zs) = refl
rows_are bound (r ∷ rows) [] = refl
rows_are bound (r ∷ rows) (z ∷ zs) =
    ap₂ ◌∷◌
    (ap₂ (λ fs s. record { duals = z; functions = fs; set = s }) (row_functions_are r.func r.set)
    (row_sets_are bound r.func r.set))
    (rows_are bound rows zs)

pub groups_are : (w z : Address → Rational) (groups : List Group)
    → ((v : Address) → Contains (all_addresses groups) v → w v ≡ z v)
    → groups_with w groups ≡ group_helds zero_ℚ z (map group_item groups)
groups_are w z [] h = refl
groups_are w z (g ∷ gs) h =
    ap₂ ◌∷◌
    (ap (λ y. record { duals = y; functions = functions_of_group g; set = g.set })
    (same_numbers w z (addresses_of g.vars)
    (All-weaker (Contains (addresses_of g.vars)) (λ v. w v ≡ z v)
    (λ v c. h v (subst (λ l. Contains l v) (sym (split_addresses g gs))
    (Contains-append_left (addresses_of g.vars) (all_addresses gs) v c)))
    (addresses_of g.vars) (All-contains_itself (addresses_of g.vars)))))
    (groups_are w z gs
    (λ v c. h v (subst (λ l. Contains l v) (sym (split_addresses g gs))
    (Contains-append_right (addresses_of g.vars) (all_addresses gs) v c))))

pub held_duals : (hs : List DualRow) → DualsHold hs → All HasDuals hs
held_duals hs h =
    All-weaker IsHeld HasDuals (λ k i. record { size = i.size; dual = i.dual }) hs h

pub rows_in : (one : Rational) (x : Address → Rational) (zs : List (List Rational))
    (rows : List Row)
    → All (λ r. In (multiplied one r.set) (evaluations one (functions_of r.func) x)) rows
    → AllHold one (rows_with zs rows) x
rows_in one x [] rows h = All-nil (λ k. Holds one k x)
rows_in one x (z ∷ zs) [] h = All-nil (λ k. Holds one k x)
rows_in one x (z ∷ zs) (r ∷ rows) h =
    All-cons (λ k. Holds one k x) (row_with z r) (rows_with zs rows)
    (All-head (λ s. In (multiplied one s.set) (evaluations one (functions_of s.func) x)) r rows h)
    (rows_in one x zs rows
    (All-tail (λ s. In (multiplied one s.set) (evaluations one (functions_of s.func) x)) r rows h))

-- What an edge makes of an item, by families: rows, and of an objective one objective beside them;
-- and what it makes of a group names the variables of the child groups alone.
use Rattle.std.specs.Prelude.{◌≡◌, ◌+◌, ℕ, Bool, true, false, ◌&&◌, not, cond, List, [], ◌∷◌, ◌++◌, All, Contains, map, refl, Option, Some, None}
use Rattle.std.proofs.Common.{sym, ap, ap₂, subst, ◌∙◌, true≢false}
use Rattle.std.specs.List.{list_all, enumerate_from}
use Rattle.std.proofs.lemmas.List.{append-nil}
use Rattle.std.proofs.lemmas.List.Elements.{All-append, All-cons, All-head, All-nil, All-tail, All-weaker}
use Rattle.std.proofs.lemmas.List.Sums.{AllPass-from_list_all}
use Rattle.std.proofs.lemmas.Bool.{not-true}
use Rattle.bridge_graph.specs.Hypergraph.{IsCostly}
use Rattle.bridge_graph.specs.declared.Choice.{Choice}
use Rattle.bridge_graph.specs.declared.Choice.TheVariants.{By}
use Rattle.ratio_core.specs.Rational.{zero_ℚ}
use Rattle.set_core.specs.Shapes.{is_scalar}
use Rattle.set_core.specs.declared.set.Set.{Set}
use Rattle.set_core.specs.declared.set.Set.TheVariants.{Reals}
use Rattle.aff_core.specs.Address.{Address, address_cmp}
use Rattle.aff_core.specs.Function.{Function, coefficient, constant_function, variable}
use Rattle.aff_core.specs.FunctionLaws.{coefficient-variable_other}
use Rattle.aff_core.specs.KeyOrder.{address_order}
use Rattle.aff_core.specs.Points.{unit}
use Rattle.linear_laws.specs.ListLaws.{slope_constant_function}
use Rattle.linear_laws.specs.SlopeLaws.{coefficient_by_unit}
use Rattle.item_core.specs.declared.edge.Edge.{Edge}
use Rattle.item_core.specs.declared.family.Family.{Family}
use Rattle.item_core.specs.declared.family.Family.TheVariants as family
use Rattle.item_core.specs.declared.item.Body.{Body}
use Rattle.item_core.specs.declared.item.Body.TheVariants.{Group, Free, Plain, Affine, PlainVec, AffineVec, PlainObj, AffineObj}
use Rattle.item_core.specs.declared.image.Image.{Image}
use Rattle.item_core.specs.declared.item.Item.{Item}
use Rattle.item_core.specs.Edge.{children_of, family_of}
use Rattle.item_core.specs.Item.{functions_of, is_group, set_of, variables_of}
use Rattle.item_core.specs.Kind.{kind_number}
use Rattle.item_core.specs.KindOf.{kind_of_body}
use Rattle.bridge_face.specs.BackOf.{size}
use Rattle.bridge_face.specs.ImageOf.{begins_free, free_at, group_at, image_by, image_of, inner, inner_functions}
use Rattle.bridge_face.specs.Images.{affine, child_at, component_of, each_component, first_in, lower_part, plain, upper_part, with_set}
use Rattle.bridge_face.specs.Law.{Miss, inner_of, listed, is_objective}
use Rattle.bridge_face.specs.ObjectiveLaws.{objective_no_group}
use Rattle.fresh_bridging.specs.CanLaws.{AreLawful, Can}
use Rattle.fresh_bridging.specs.TableLaws.{and_first, and_second}
use Rattle.fresh_bridging.specs.TheRules.{AreChoices, Setting, edge_at, graph_of}
use Rattle.address_laws.specs.Apart.{Avoids, avoids}
use Rattle.address_laws.specs.ClassLaws.{class_of_family, item_class}
use Rattle.address_laws.specs.PutLaws.{class_of}

-- ---- rows

-- neither a group nor an objective
abbrev pub is_row : Body → Bool
is_row b = not (is_group b) && not (is_objective b)

abbrev IsRow : Body → Type 0
IsRow b = is_row b ≡ true

affine_row : (fs : List Function) (set : Set) → IsRow (affine fs set)
affine_row fs set = by (is_scalar set)
  where
    by : (b : Bool) → IsRow (cond b (Affine (first_in fs) set) (AffineVec fs set))
    by true = refl
    by false = refl

plain_row : (vs : List Address) (set : Set) → IsRow (plain vs set)
plain_row [] set = refl
plain_row (v ∷ vs) set = by (is_scalar set)
  where
    by : (b : Bool) → IsRow (cond b (Plain v set) (PlainVec (v ∷ vs) set))
    by true = refl
    by false = refl

with_set_row : (b : Body) (set : Set) → class_of b ≡ (false, false) → IsRow (with_set b set)
with_set_row (Group s vars) set h = absurd (true≢false (ap (λ p. p.0) h))
with_set_row (Free vars) set h = absurd (true≢false (ap (λ p. p.0) h))
with_set_row (PlainObj sense var) set h = absurd (true≢false (ap (λ p. p.1) h))
with_set_row (AffineObj sense func) set h = absurd (true≢false (ap (λ p. p.1) h))
with_set_row _ set h = refl

abbrev are_rows : List Item → Bool
are_rows items = list_all (λ c. is_row c.body) items

-- one after another, at their positions
from_rows : (item : Item) (first : ℕ) (bodies : List Body) → All IsRow bodies
    → are_rows (map (λ p. child_at item p.0 p.1) (enumerate_from first bodies)) ≡ true
from_rows item first [] h = refl
from_rows item first (b ∷ bs) h =
    ap₂ ◌&&◌ (All-head IsRow b bs h) (from_rows item (first + 1) bs (All-tail IsRow b bs h))

components_rows : (b : Body) (set : Set) → All IsRow (each_component b set)
components_rows (PlainVec vars s) set = each_plain vars
  where
    each_plain : (vs : List Address) → All IsRow (map (λ v. Plain v set) vs)
    each_plain [] = All-nil IsRow
    each_plain (v ∷ vs) = All-cons IsRow (Plain v set) (map (λ u. Plain u set) vs) refl
        (each_plain vs)
components_rows (AffineVec funcs s) set = each_affine funcs
  where
    each_affine : (fs : List Function) → All IsRow (map (λ f. Affine f set) fs)
    each_affine [] = All-nil IsRow
    each_affine (f ∷ fs) =
        All-cons IsRow (Affine f set) (map (λ g. Affine g set) fs) refl (each_affine fs)
components_rows _ set = All-nil IsRow

rows_by : (f : Family) (edge : Edge) (item : Item)
    → (class_of_family f ≡ (false, false) → class_of item.body ≡ (false, false))
    → are_rows (image_by f edge item).rows ≡ true
unfolding image_by
rows_by family.Scalarize edge item h =
    from_rows item 0 (each_component item.body (component_of (set_of item.body)))
    (components_rows item.body (component_of (set_of item.body)))
rows_by family.ScalarFunctionize edge item h =
    ap (λ b. b && true) (affine_row (functions_of item.body) (set_of item.body))
rows_by family.VectorFunctionize edge item h =
    ap (λ b. b && true) (affine_row (functions_of item.body) (set_of item.body))
rows_by family.SplitSet edge item h =
    ap₂ (λ a b. a && (b && true))
    (with_set_row item.body (lower_part (set_of item.body)) (h refl))
    (with_set_row item.body (upper_part (set_of item.body)) (h refl))
rows_by family.Later edge item h = ap (λ b. b && true) (either (begins_free (children_of edge)))
  where
    either : (b : Bool)
        → IsRow (cond b (plain (inner item (size item)) (set_of item.body))
        (affine (inner_functions item (size item)) (set_of item.body)))
    either true = plain_row (inner item (size item)) (set_of item.body)
    either false = affine_row (inner_functions item (size item)) (set_of item.body)
rows_by _ edge item h = refl

-- ---- objectives

-- a child objective
pub record HasObjective (o : Option Item) : Type 0 where
  pub child : Item
  pub is : o ≡ Some child
  pub objective : is_objective child.body ≡ true

-- one where the family leads from objectives, and else none
IsListedBy : Bool → Option Item → Type 0
IsListedBy true o = HasObjective o
IsListedBy false o = o ≡ None

objective_by : (f : Family) (edge : Edge) (item : Item)
    → IsListedBy (class_of_family f).1 (image_by f edge item).objective
unfolding image_by IsListedBy
objective_by family.ObjFlip edge item = record { child = _; is = refl; objective = refl }
objective_by family.ObjFunctionize edge item = record { child = _; is = refl; objective = refl }
objective_by family.ObjSlack edge item = record { child = _; is = refl; objective = refl }
objective_by _ edge item = refl

-- ---- rows of a group name the variables of its child groups alone

pub variables_miss : (vars : List Address) (v : Address) → Avoids vars v
    → Miss (map (variable {R = address_cmp}) vars) v
variables_miss [] v h = All-nil (λ f. coefficient f v ≡ zero_ℚ)
variables_miss (u ∷ us) v h =
    All-cons (λ f. coefficient f v ≡ zero_ℚ) (variable u) (map (variable {R = address_cmp}) us)
    (coefficient-variable_other address_order u v
    (λ same. All-head (λ w. ¬ (w ≡ v)) u us h (sym same)))
    (variables_miss us v (All-tail (λ w. ¬ (w ≡ v)) u us h))

pub constant_misses : (v : Address)
    → coefficient (constant_function {R = address_cmp} zero_ℚ) v ≡ zero_ℚ
constant_misses v =
    sym (coefficient_by_unit (constant_function zero_ℚ) v) ∙ slope_constant_function zero_ℚ (unit v)

plain_misses : (vars : List Address) (set : Set) (v : Address) → Avoids vars v
    → Miss (functions_of (plain vars set)) v
plain_misses [] set v h = All-nil (λ f. coefficient f v ≡ zero_ℚ)
plain_misses (u ∷ us) set v h = by (is_scalar set)
  where
    by : (b : Bool) → Miss (functions_of (cond b (Plain u set) (PlainVec (u ∷ us) set))) v
    by true =
        All-cons (λ f. coefficient f v ≡ zero_ℚ) (variable u) []
        (All-head (λ f. coefficient f v ≡ zero_ℚ) (variable u) (map (variable {R = address_cmp}) us)
        (variables_miss (u ∷ us) v h)) (All-nil (λ f. coefficient f v ≡ zero_ℚ))
    by false = variables_miss (u ∷ us) v h

affine_misses : (fs : List Function) (set : Set) (v : Address) → Miss fs v
    → Miss (functions_of (affine fs set)) v
affine_misses fs set v h = by (is_scalar set)
  where
    first : (gs : List Function) → Miss gs v → coefficient (first_in gs) v ≡ zero_ℚ
    first [] k = constant_misses v
    first (g ∷ gs) k = All-head (λ f. coefficient f v ≡ zero_ℚ) g gs k

    by : (b : Bool) → Miss (functions_of (cond b (Affine (first_in fs) set) (AffineVec fs set))) v
    by true =
        All-cons (λ f. coefficient f v ≡ zero_ℚ) (first_in fs) [] (first fs h)
        (All-nil (λ f. coefficient f v ≡ zero_ℚ))
    by false = h

abbrev pub Misses : Address → Item → Type 0
Misses v c = Miss (functions_of c.body) v

later_misses : (item : Item) (set : Set) (d : ℕ) (v : Address) (b : Bool)
    → ¬ (Contains (variables_of (cond b (free_at item d) (group_at item (Reals d) d)).body ++ []) v)
    → All (Misses v)
    (child_at item 1 (cond b (plain (inner item d) set) (affine (inner_functions item d) set)) ∷ [])
later_misses item set d v true h =
    All-cons (Misses v) (child_at item 1 (plain (inner item d) set)) []
    (plain_misses (inner item d) set v (avoids (inner item d) v
    (subst (λ vs. ¬ (Contains vs v)) (append-nil (inner item d)) h)))
    (All-nil (Misses v))
later_misses item set d v false h =
    All-cons (Misses v) (child_at item 1 (affine (inner_functions item d) set)) []
    (affine_misses (inner_functions item d) set v (variables_miss (inner item d) v
    (avoids (inner item d) v (subst (λ vs. ¬ (Contains vs v)) (append-nil (inner item d)) h))))
    (All-nil (Misses v))

named_by : (f : Family) (edge : Edge) (item : Item) (v : Address) → (class_of_family f).0 ≡ true
    → ¬ (Contains (inner_of (image_by f edge item).groups) v)
    → All (Misses v) ((image_by f edge item).rows ++ listed (image_by f edge item).objective)
unfolding image_by
named_by family.NonposVar edge item v g h = All-nil (Misses v)
named_by family.VectorizeVar edge item v g h = All-nil (Misses v)
named_by family.ZerosVar edge item v g h = All-nil (Misses v)
named_by family.FreeVar edge item v g h = All-nil (Misses v)
named_by family.Later edge item v g h =
    later_misses item (set_of item.body) (size item) v (begins_free (children_of edge)) h
named_by _ edge item v g h = absurd (true≢false (sym g))

-- ---- by the edge that is chosen

module _ (setting : Setting) (costly : IsCostly (graph_of setting)) (choice : ℕ → Choice)
    (chosen : AreChoices setting choice) (lawful : AreLawful setting) (item : Item)
    (can : Can setting costly choice chosen item) (n : ℕ)
    (e : choice (kind_number (kind_of_body item.body)) ≡ By n) where
  abbrev image : Image
  image = image_of (edge_at n) item

  its_class : class_of item.body ≡ class_of_family (family_of (edge_at n))
  its_class = item_class setting costly choice chosen lawful item can n e

  rows_are : All (λ c. IsRow c.body) image.rows
  rows_are =
      AllPass-from_list_all (λ c. is_row c.body) image.rows
      (rows_by (family_of (edge_at n)) (edge_at n) item (λ h. its_class ∙ h))

  pub rows_alone : All (λ c. is_objective c.body ≡ false) image.rows
  rows_alone =
      All-weaker (λ c. IsRow c.body) (λ c. is_objective c.body ≡ false)
      (λ c h. not-true (is_objective c.body)
      (and_second (not (is_group c.body)) (not (is_objective c.body)) h))
      image.rows rows_are

  pub child_objective : is_objective item.body ≡ true → HasObjective image.objective
  unfolding IsListedBy
  child_objective h =
      subst (λ b. IsListedBy b image.objective) (sym (ap (λ p. p.1) its_class) ∙ h)
      (objective_by (family_of (edge_at n)) (edge_at n) item)

  pub no_child_objective : is_objective item.body ≡ false → image.objective ≡ None
  unfolding IsListedBy
  no_child_objective h =
      subst (λ b. IsListedBy b image.objective) (sym (ap (λ p. p.1) its_class) ∙ h)
      (objective_by (family_of (edge_at n)) (edge_at n) item)

  -- beside the child groups there is no group
  pub others_alone : All (λ c. is_group c.body ≡ false) (image.rows ++ listed image.objective)
  others_alone =
      All-append (λ c. is_group c.body ≡ false) image.rows (listed image.objective)
      (All-weaker (λ c. IsRow c.body) (λ c. is_group c.body ≡ false)
      (λ c h. not-true (is_group c.body)
      (and_first (not (is_group c.body)) (not (is_objective c.body)) h))
      image.rows rows_are)
      (by (is_objective item.body) refl)
    where
      by : (b : Bool) → is_objective item.body ≡ b
          → All (λ c. is_group c.body ≡ false) (listed image.objective)
      by true o =
          let has = child_objective o in
          subst (λ x. All (λ c. is_group c.body ≡ false) (listed x)) (sym has.is)
          (All-cons (λ c. is_group c.body ≡ false) has.child []
          (objective_no_group has.child.body has.objective)
          (All-nil (λ c. is_group c.body ≡ false)))
      by false o =
          subst (λ x. All (λ c. is_group c.body ≡ false) (listed x)) (sym (no_child_objective o))
          (All-nil (λ c. is_group c.body ≡ false))

  pub named_in_groups : is_group item.body ≡ true → (v : Address)
      → ¬ (Contains (inner_of image.groups) v)
      → All (Misses v) (image.rows ++ listed image.objective)
  named_in_groups g v h =
      named_by (family_of (edge_at n)) (edge_at n) item v
      (sym (ap (λ p. p.0) its_class) ∙ g) h

-- The law of an edge that makes rows of a row, from what is said of numbers alone.
use Rattle.std.specs.Prelude.{◌≡◌, ◌*◌, ◌+◌, ◌≤◌, ◌<◌, ℕ, List, [], ◌∷◌, map, All, length, refl, None}
use Rattle.std.specs.List.{enumerate_from, range_with_len, zip}
use Rattle.std.proofs.Common.{sym, ap, ap₂, subst, ◌∙◌, arith, true≢false}
use Rattle.std.proofs.lemmas.List.{append-nil, length-append, length-map}
use Rattle.std.proofs.lemmas.List.Elements.{All-cons, All-head, All-nil, All-tail, All-weaker}
use Rattle.std.proofs.lemmas.List.FromFn.{length-enumerate_from}
use Rattle.ratio_core.specs.Rational.{Rational, zero_ℚ, ◌≤ℚ◌}
use Rattle.aff_core.specs.Address.{Address, child_of}
use Rattle.aff_core.specs.Function.{coefficient}
use Rattle.dual_laws.specs.Held.{DualsHold, DualRow, Holds, IsHeld, adjoint, adjoint_of, gap, gap_of}
use Rattle.set_core.specs.Shapes.{IsSetOf}
use Rattle.item_core.specs.declared.edge.Edge.{Edge}
use Rattle.item_core.specs.declared.item.Body.{Body}
use Rattle.item_core.specs.declared.item.Item.{Item}
use Rattle.item_core.specs.declared.image.Image.{Image}
use Rattle.item_core.specs.Edge.{family_of}
use Rattle.item_core.specs.Item.{functions_of, set_of}
use Rattle.item_core.specs.Valid.{FitsItsFunction, NamesNothingBelow}
use Rattle.bridge_face.specs.BackOf.{back_of}
use Rattle.bridge_face.specs.ComponentLaws.{all_unnamed_below}
use Rattle.bridge_face.specs.Images.{child_at, children_from, rows_at}
use Rattle.bridge_face.specs.Law.{Balances, CarriesValues, ChildDuals, EdgeLaw, GrowsBy, HasComponents, HoldsAt, IsCovered, IsValidWithin, LeadsToKind, MentionsKnown, Miss, StandsInOrder, children, growth, held, held_children, held_item}
use Rattle.bridge_face.specs.OneRowLaws.{IsRowBody, held_row, row_held, row_stands, row_values}

-- rows with their duals
abbrev pub rows_held : List Body → List (List Rational) → List DualRow
rows_held bodies ys = map (λ p. row_held p.0 p.1) (zip bodies ys)

-- a row that is made of the item
pub record IsRowOf (edge : Edge) (item : Item) (child : Body) : Type 0 where
  pub made : IsRowBody child
  pub shaped : FitsItsFunction child
  pub some : 1 ≤ length (functions_of child)
  pub fits : IsSetOf (length (functions_of child)) (set_of child)
  pub unnamed : All (NamesNothingBelow item.at) (functions_of child)
  pub grows : length (functions_of child)
      ≤ growth (family_of edge) * length (functions_of item.body)
  pub leads : LeadsToKind edge child
  pub mentioned : (v : Address) → Miss (functions_of item.body) v → Miss (functions_of child) v

-- what an edge owes that makes these rows of the item
pub record MadeOfRows (edge : Edge) (item : Item) (bodies : List Body) : Type 0 where
  pub source : IsRowBody item.body
  pub each : All (IsRowOf edge item) bodies
  pub values :
      (one : Rational) (x : Address → Rational) → zero_ℚ ≤ℚ one
      → All (λ b. Holds one (row_held b []) x) bodies → Holds one (row_held item.body []) x
  pub holds :
      (ys : List (List Rational)) → length ys ≡ length bodies → DualsHold (rows_held bodies ys)
      → IsHeld (row_held item.body (back_of edge item ys))
  pub same :
      (ys : List (List Rational)) → length ys ≡ length bodies → DualsHold (rows_held bodies ys)
      → (v : Address)
      → adjoint_of (row_held item.body (back_of edge item ys)) v ≡ adjoint (rows_held bodies ys) v
  pub gaps :
      (ys : List (List Rational)) → length ys ≡ length bodies → DualsHold (rows_held bodies ys)
      → gap (rows_held bodies ys) ≤ℚ gap_of (row_held item.body (back_of edge item ys))

-- an image of rows alone
abbrev pub rows_alone : List Item → Image
rows_alone rows = record { groups = []; exprs = []; rows = rows; objective = None }

-- ---- bodies at the positions from one on

module _ (item : Item) where
  pub all_children : (P : Body → Type 0) (Q : Item → Type 0)
      → ((k : ℕ) (b : Body) → P b → Q (child_at item k b))
      → (k : ℕ) (bodies : List Body) → All P bodies → All Q (children_from item k bodies)
  all_children P Q h k [] all = All-nil Q
  all_children P Q h k (b ∷ bodies) all =
      All-cons Q (child_at item k b) (children_from item (k + 1) bodies)
      (h k b (All-head P b bodies all)) (all_children P Q h (k + 1) bodies
      (All-tail P b bodies all))

  stand_from : (k : ℕ) (bodies : List Body)
      → map (λ child. child.at) (children_from item k bodies)
      ≡ map (child_of item.at) (range_with_len k (length bodies))
  stand_from k [] = refl
  stand_from k (b ∷ bodies) = ap (λ us. child_of item.at k ∷ us) (stand_from (k + 1) bodies)

  pub length-children_from : (k : ℕ) (bodies : List Body)
      → length (children_from item k bodies) ≡ length bodies
  length-children_from k bodies =
      length-map (enumerate_from k bodies) (λ p. child_at item p.0 p.1)
      ∙ length-enumerate_from k bodies

  held_from : (bound : Rational) (k : ℕ) (bodies : List Body) (ys : List (List Rational))
      → All IsRowBody bodies
      → held bound (children_from item k bodies) ys ≡ rows_held bodies ys
  held_from bound k [] ys made = refl
  held_from bound k (b ∷ bodies) [] made = refl
  held_from bound k (b ∷ bodies) (y ∷ ys) made =
      ap₂ ◌∷◌ (held_row bound b y (All-head IsRowBody b bodies made))
      (held_from bound (k + 1) bodies ys (All-tail IsRowBody b bodies made))

  hold_from : (one : Rational) (x : Address → Rational) (k : ℕ) (bodies : List Body)
      → All IsRowBody bodies
      → All (HoldsAt one x) (children_from item k bodies)
      → All (λ b. Holds one (row_held b []) x) bodies
  hold_from one x k [] made h = All-nil (λ b. Holds one (row_held b []) x)
  hold_from one x k (b ∷ bodies) made h =
      All-cons (λ b. Holds one (row_held b []) x) b bodies
      (subst (λ k. Holds one k x) (held_row zero_ℚ b [] (All-head IsRowBody b bodies made))
      (All-head (HoldsAt one x) (child_at item k b) (children_from item (k + 1) bodies) h))
      (hold_from one x (k + 1) bodies (All-tail IsRowBody b bodies made)
      (All-tail (HoldsAt one x) (child_at item k b) (children_from item (k + 1) bodies) h))

-- ---- the law

child_row_valid : (edge : Edge) (item : Item) (k : ℕ) (child : Body) → length item.at.positions < 38
    → IsRowOf edge item child → IsValidWithin (child_at item k child)
child_row_valid edge item k child room r few = record {
  function = r.shaped;
  some = r.some;
  at_most = few;
  set = r.fits;
  depth =
      subst (λ m. m ≤ 38) (sym (length-append item.at.positions (k ∷ []))) (omega (arith, room));
  others = λ _. all_unnamed_below item.at k (functions_of child) r.unnamed;
}

module _ (edge : Edge) (item : Item) (bodies : List Body) (o : MadeOfRows edge item bodies) where
  abbrev image : Image
  image = rows_at item bodies

  abbrev rows : List Item
  rows = children_from item 0 bodies

  made : All IsRowBody bodies
  made = All-weaker (IsRowOf edge item) IsRowBody (λ b r. r.made) bodies o.each

  values : CarriesValues item image
  values = row_values item image o.source refl
      (λ one x h below. o.values one x h (hold_from item one x 0 bodies made below))

  abbrev duals_of : List (List Rational) → ChildDuals
  duals_of ys = record { groups = []; rows = ys; objective = [] }

  held_are : (bound : Rational) (ys : List (List Rational))
      → held_children bound image (duals_of ys) ≡ rows_held bodies ys
  held_are bound ys = append-nil (held bound rows ys) ∙ held_from item bound 0 bodies ys made

  covered_by : (bound : Rational) (ys : List (List Rational)) (w : List Rational)
      → Balances bound edge item image (duals_of ys) w → IsCovered bound item image (duals_of ys) w
  covered_by bound ys w b =
      let w_is : held_item bound item image w ≡ row_held item.body (back_of edge item ys) =
      row_stands bound item image w o.source ∙ ap (row_held item.body)
      (b.carries.by_rule o.source.no_group o.source.no_objective) in
      let size : length ys ≡ length bodies = b.each.rows ∙ length-children_from item 0 bodies in
      let hold : DualsHold (rows_held bodies ys) = subst DualsHold (held_are bound ys) b.hold in
      record {
        holds = subst IsHeld (sym w_is) (o.holds ys size hold);
        same = λ v. ap (λ k. adjoint_of k v) w_is ∙ o.same ys size hold v
            ∙ sym (ap (λ hs. adjoint hs v) (held_are bound ys));
        gaps =
            subst (λ q. q ≤ℚ gap_of (held_item bound item image w))
            (sym (ap gap (held_are bound ys)))
            (subst (λ k. gap (rows_held bodies ys) ≤ℚ gap_of k) (sym w_is) (o.gaps ys size hold));
      }

  covered : (bound : Rational) (gs ys os : List (List Rational)) (w : List Rational)
      → Balances bound edge item image (record { groups = gs; rows = ys; objective = os }) w
      → IsCovered bound item image (record { groups = gs; rows = ys; objective = os }) w
  covered bound (g ∷ gs) ys os w b = absurd (omega (arith, b.each.groups))
  covered bound [] ys (u ∷ us) w b = absurd (omega (arith, b.each.objective))
  covered bound [] ys [] w b = covered_by bound ys w b

  -- what is said of the rows is said of all children
  of_all : (P : Item → Type 0) → ((k : ℕ) (b : Body) → IsRowOf edge item b → P (child_at item k b))
      → All P (children image)
  of_all P h =
      subst (All P) (sym (append-nil rows)) (all_children item (IsRowOf edge item) P h 0 bodies
      o.each)

  in_order : StandsInOrder item image
  in_order =
      ap (map (λ child. child.at)) (append-nil rows) ∙ stand_from item 0 bodies
      ∙ sym (ap (λ m. map (child_of item.at) (range_with_len 0 m))
      (ap length (append-nil rows) ∙ length-children_from item 0 bodies))

  pub rows_law : EdgeLaw edge item image
  rows_law = record {
    values = values;
    duals = λ bound duals w b. covered bound duals.groups duals.rows duals.objective w b;
    positions = in_order;
    valid = λ room. of_all IsValidWithin (λ k b r. child_row_valid edge item k b room r);
    sizes = of_all (GrowsBy (growth (family_of edge)) item) (λ k b r. r.grows);
    kinds = of_all (λ child. LeadsToKind edge child.body) (λ k b r. r.leads);
    components = All-nil HasComponents;
    mentioned = of_all (MentionsKnown item image) (λ k b r v m n. r.mentioned v m);
    exprs = λ group. absurd (true≢false (sym group ∙ o.source.no_group));
    expressed = λ v n. All-nil (λ f. coefficient f v ≡ zero_ℚ);
  }

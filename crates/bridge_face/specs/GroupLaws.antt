-- The law of an edge that makes a group of one child group, from what is said of numbers alone.
use Rattle.std.specs.Prelude.{◌≡◌, ◌*◌, ◌≤◌, ◌<◌, ℕ, false, true, Contains, List, [], ◌∷◌, map, All, cond, length, refl, slice_index_or}
use Rattle.std.specs.List.{range_with_len}
use Rattle.std.proofs.Common.{sym, ap, subst, ◌∙◌, arith, true≢false}
use Rattle.std.proofs.lemmas.List.{append-nil, length-append, length-map}
use Rattle.std.proofs.lemmas.List.Elements.{All-contains, All-cons, All-head, All-nil, All-weaker}
use Rattle.map_laws.specs.EachLaws.{map_same_on}
use Rattle.ratio_core.specs.Rational.{Rational, zero_ℚ, ◌≤ℚ◌, ◌+ℚ◌, ◌-ℚ◌}
use Rattle.rational_laws.specs.Dot.{dot}
use Rattle.rational_laws.specs.DotLaws.{dot_zeros}
use Rattle.rational_laws.specs.Field.{+ℚ-zero, neg_ℚ-zero}
use Rattle.rational_laws.specs.Order.{≤ℚ_from_≡}
use Rattle.aff_core.specs.Address.{Address, child_of}
use Rattle.aff_core.specs.Function.{Function, variable}
use Rattle.aff_core.specs.FunctionLists.{coefficients, constants, evaluations}
use Rattle.linear_laws.specs.ListLaws.{evaluations_variables}
use Rattle.dual_laws.specs.Held.{DualRow, Holds, IsHeld, adjoint, adjoint_of, gap_of}
use Rattle.set_core.specs.Membership.{Dual, In, low_of}
use Rattle.set_core.specs.Mirrored.{multiplied}
use Rattle.set_core.specs.Shapes.{IsSetOf}
use Rattle.set_core.specs.declared.set.Set.{Set}
use Rattle.set_core.specs.declared.set.Set.TheVariants.{Nonnegatives}
use Rattle.item_core.specs.declared.edge.Edge.{Edge}
use Rattle.item_core.specs.declared.family.Family.{Family}
use Rattle.item_core.specs.declared.item.Body.{Body}
use Rattle.item_core.specs.declared.item.Body.TheVariants as body
use Rattle.item_core.specs.declared.item.Body.TheVariants.{Group}
use Rattle.item_core.specs.declared.item.Item.{Item}
use Rattle.item_core.specs.declared.image.Expression.TheVariants as expression
use Rattle.item_core.specs.declared.image.Image.{Image}
use Rattle.item_core.specs.Edge.{family_of}
use Rattle.item_core.specs.Item.{functions_of, is_group, set_of}
use Rattle.item_core.specs.Valid.{IsValidItem}
use Rattle.bridge_face.specs.ComponentLaws.{constants-variables, contained_or_not, dot_missed, length-components, not_contained, variables, variables_missed, weighed, weighed_components}
use Rattle.bridge_face.specs.BackOf.{back_of, first_of}
use Rattle.bridge_face.specs.FamilyLaws.{Rule, back_is, back_one, child_rows_are, dual_count, image_is, kept_by, lawful_by, record_of, source_is, sums_in_images, sums_of_duals}
use Rattle.bridge_face.specs.ImageOf.{bridged, group_at, inner}
use Rattle.bridge_face.specs.Images.{group_by}
use Rattle.bridge_face.specs.ChildDualLaws.{carries_duals}
use Rattle.bridge_face.specs.Law.{Balances, CarriesValues, ChildDuals, EdgeLaw, GrowsBy, HasComponents, HoldsAt, IsCovered, IsItemFor, IsLawful, IsValidWithin, LeadsToKind, MentionsKnown, Miss, expressed, growth, held_children, held_item, inner_of, row_functions, row_set}
use Rattle.bridge_face.specs.BridgeState.{TakesDuals, child_rows_of}
use Rattle.bridge_face.specs.declared.child_rows.ChildRows.{ChildRows}

-- a group in a set of such a shape, from which the edge makes one of numbers at least 0
pub record GroupSourced (shape : ℕ → Set) (edge : Edge) (b : Body) : Type 0 where
  pub count : ℕ
  pub set : set_of b ≡ shape count
  pub group : is_group b ≡ true
  pub leads : (n : ℕ) (vars : List Address) → LeadsToKind edge (Group (Nonnegatives n) vars)

-- ---- of groups

abbrev pub held_of : List Rational → List Function → Set → DualRow
held_of w fs set = record { duals = w; functions = fs; set = set }

-- a group stands as its expressions
pub group_held : (bound : Rational) (b : Body) (w : List Rational) (fs : List Function)
    → is_group b ≡ true
    → held_of w (cond (is_group b) fs (row_functions b)) (row_set bound b) ≡ held_of w fs (set_of b)
group_held bound (body.Group set vars) w fs g = refl
group_held bound (body.Free vars) w fs g = refl
group_held bound (body.Plain var set) w fs g = absurd (true≢false (sym g))
group_held bound (body.Affine func set) w fs g = absurd (true≢false (sym g))
group_held bound (body.PlainVec vars set) w fs g = absurd (true≢false (sym g))
group_held bound (body.AffineVec funcs set) w fs g = absurd (true≢false (sym g))
group_held bound (body.PlainObj sense var) w fs g = absurd (true≢false (sym g))
group_held bound (body.AffineObj sense func) w fs g = absurd (true≢false (sym g))

pub expressed-bridged : (fs : List Function) → map expressed (bridged fs) ≡ fs
expressed-bridged [] = refl
expressed-bridged (f ∷ fs) = ap (λ gs. f ∷ gs) (expressed-bridged fs)

-- a child group of this set and number of components
pub child_group_valid : (item : Item) (set : Set) (n : ℕ) → 1 ≤ n → IsSetOf n set
    → length item.at.positions < 38 → IsValidWithin (group_at item set n)
child_group_valid item set n some fits room few =
    let size = length-map (inner item n) variable ∙ length-components (child_of item.at 0) n in
    record {
      function = tt;
      some = subst (λ m. 1 ≤ m) (sym size) some;
      at_most = few;
      set = subst (λ m. IsSetOf m set) (sym size) fits;
      depth = subst (λ m. m ≤ 38) (sym (length-append item.at.positions (0 ∷ [])))
          (omega (arith, room));
      others = λ no. absurd (true≢false no);
    }

pub has_components : (item : Item) (set : Set) (n : ℕ) → HasComponents (group_at item set n)
has_components item set n =
    sym (ap (λ m. map (child_of (child_of item.at 0)) (range_with_len 0 m))
    (length-components (child_of item.at 0) n))

-- its numbers are the sums at its variables
pub group_numbers : (item : Item) (set : Set) (n : ℕ) (g : List Rational)
    → IsHeld (held_of g (variables (inner item n)) set)
    → weighed g (variables (inner item n)) (inner item n) ≡ g
group_numbers item set n g h =
    weighed_components (child_of item.at 0) n g
    (h.size ∙ length-map (inner item n) variable ∙ length-components (child_of item.at 0) n)

-- the constants of its functions count nothing
pub group_gap : (set : Set) (vs : List Address) (g : List Rational)
    → gap_of (held_of g (variables vs) set) ≡ low_of set g
group_gap set vs g =
    ap (λ q. low_of set g -ℚ q) (dot_zeros g (constants (variables vs)) (constants-variables vs))
    ∙ ap (λ q. low_of set g +ℚ q) neg_ℚ-zero ∙ +ℚ-zero (low_of set g)

-- ---- one child group

-- what an edge owes that makes this group of the item, with these expressions
pub record OneGroup
    (edge : Edge) (item : Item) (set : Set) (n : ℕ) (fs : List Function) : Type 0 where
  pub item_valid : IsValidItem item
  pub source : is_group item.body ≡ true
  pub size : length fs ≡ length (functions_of item.body)
  pub named : (v : Address) → ¬ (Contains (inner item n) v) → Miss fs v
  pub values :
      (one : Rational) (x : Address → Rational) → zero_ℚ ≤ℚ one
      → In (multiplied one set) (map x (inner item n))
      → In (multiplied one (set_of item.body)) (evaluations one fs x)
  pub dual :
      (w : List Rational) → length w ≡ length fs → Dual set (weighed w fs (inner item n))
      → Dual (set_of item.body) w
  pub gaps :
      (w : List Rational) → length w ≡ length fs → Dual set (weighed w fs (inner item n))
      → low_of set (weighed w fs (inner item n))
      ≡ low_of (set_of item.body) w -ℚ dot w (constants fs)
  pub some : 1 ≤ n
  pub fits : IsSetOf n set
  pub grows : n ≤ growth (family_of edge) * length (functions_of item.body)
  pub leads : LeadsToKind edge (Group set (inner item n))

module _
    (edge : Edge) (item : Item) (set : Set) (n : ℕ) (fs : List Function)
    (o : OneGroup edge item set n fs) where
  abbrev ss : List Address
  ss = inner item n

  abbrev group : Item
  group = group_at item set n

  abbrev image : Image
  image = group_by (group ∷ []) (bridged fs)

  item_is : (bound : Rational) (w : List Rational)
      → held_item bound item image w ≡ held_of w fs (set_of item.body)
  item_is bound w =
      group_held bound item.body w (map expressed image.exprs) o.source
      ∙ ap (λ gs. held_of w gs (set_of item.body)) (expressed-bridged fs)

  values : CarriesValues item image
  values = record {
    holds = λ no one x h below.
        subst (λ k. Holds one k x) (sym (item_is zero_ℚ []))
        (o.values one x h (subst (In (multiplied one set)) (evaluations_variables one ss x)
        (All-head (HoldsAt one x) group [] below)));
    costs = λ one x h below. All-nil _;
  }

  abbrev duals_of : List Rational → ChildDuals
  duals_of g = record { groups = g ∷ []; rows = []; objective = [] }

  module _
      (bound : Rational) (g w : List Rational)
      (b : Balances bound edge item image (duals_of g) w) where
    group_held_by : IsHeld (held_of g (variables ss) set)
    group_held_by = All-head IsHeld (held_of g (variables ss) set) [] b.hold

    w_size : length w ≡ length fs
    w_size = b.carries.by_component o.source ∙ sym o.size

    -- at the components the sums agree
    given : weighed w fs ss ≡ g
    given =
        map_same_on (λ v. dot w (coefficients fs v)) (λ v. dot g (coefficients (variables ss) v)) ss
        (All-weaker (λ v. adjoint_of (held_item bound item image w) v
        ≡ adjoint (held_children bound image (duals_of g)) v)
        (λ v. dot w (coefficients fs v) ≡ dot g (coefficients (variables ss) v))
        (λ v e. sym (ap (λ k. adjoint_of k v) (item_is bound w)) ∙ e
        ∙ +ℚ-zero (dot g (coefficients (variables ss) v))) ss
        (subst (All (λ v. adjoint_of (held_item bound item image w) v
        ≡ adjoint (held_children bound image (duals_of g)) v)) (append-nil ss) b.inner))
        ∙ group_numbers item set n g group_held_by

    dual_there : Dual set (weighed w fs ss)
    dual_there = subst (Dual set) (sym given) group_held_by.dual

    same_at : (v : Address)
        → adjoint_of (held_item bound item image w) v
        ≡ adjoint (held_children bound image (duals_of g)) v
    same_at v =
        contained_or_not (adjoint_of (held_item bound item image w) v
        ≡ adjoint (held_children bound image (duals_of g)) v) ss v
        (λ there. All-contains (λ v. adjoint_of (held_item bound item image w) v
        ≡ adjoint (held_children bound image (duals_of g)) v) (inner_of image.groups) v b.inner
        (subst (λ us. Contains us v) (sym (append-nil ss)) there))
        (λ absent.
        ap (λ k. adjoint_of k v) (item_is bound w) ∙ dot_missed w fs v (o.named v absent)
        ∙ sym (+ℚ-zero (dot g (coefficients (variables ss) v))
        ∙ dot_missed g (variables ss) v (variables_missed ss v (not_contained ss v absent))))

    covered_by : IsCovered bound item image (duals_of g) w
    covered_by = record {
      holds = subst IsHeld (sym (item_is bound w)) (record {
        set = subst (λ m. IsSetOf m (set_of item.body)) (sym o.size) o.item_valid.set;
        size = w_size;
        dual = o.dual w w_size dual_there;
      });
      same = same_at;
      gaps = ≤ℚ_from_≡ _ _
          (+ℚ-zero (gap_of (held_of g (variables ss) set)) ∙ group_gap set ss g
          ∙ ap (low_of set) (sym given)
          ∙ o.gaps w w_size dual_there ∙ sym (ap gap_of (item_is bound w)));
    }

  pub one_group_law : EdgeLaw edge item image
  one_group_law = record {
    values = values;
    duals = carries_duals edge item image (λ bound w g b. covered_by bound g w b);
    positions = refl;
    valid = λ room. All-cons IsValidWithin group []
        (child_group_valid item set n o.some o.fits room) (All-nil IsValidWithin);
    sizes = All-cons (GrowsBy (growth (family_of edge)) item) group []
        (subst (λ m. m ≤ growth (family_of edge) * length (functions_of item.body))
        (sym (length-map ss variable ∙ length-components (child_of item.at 0) n)) o.grows)
        (All-nil (GrowsBy (growth (family_of edge)) item));
    kinds = All-cons (λ child. LeadsToKind edge child.body) group [] o.leads
        (All-nil (λ child. LeadsToKind edge child.body));
    components =
        All-cons HasComponents group [] (has_components item set n) (All-nil HasComponents);
    mentioned = All-nil (MentionsKnown item image);
    exprs = λ _. length-map fs expression.Bridged ∙ o.size;
    expressed = λ v absent. subst (λ gs. Miss gs v) (sym (expressed-bridged fs))
        (o.named v (λ there. absent (subst (λ us. Contains us v) (sym (append-nil ss)) there)));
  }

-- ---- families whose edges make one group, and a row or none

-- there is one row, whose dual is carried back
abbrev pub IsOfFirst : ℕ → (List (List Rational) → List Rational) → Type 0
IsOfFirst rows carry = (rows ≡ 1) × ((ys : List (List Rational)) → carry ys ≡ first_of ys)

pub record IsGroupRule (f : Family) (Source : Edge → Body → Type 0) (made : Edge → Item → Image)
    (rows : ℕ) : Type 0 where
  pub carry : Item → List (List Rational) → List Rational
  pub rule : Rule f Source made carry
  pub no_sum : sums_in_images f ≡ false
  pub no_dual_sum : sums_of_duals f ≡ false
  pub children :
      (edge : Edge) (item : Item)
      → record_of (length (made edge item).groups) (length (made edge item).rows)
      ≡ record_of 1 rows
  pub dual :
      (edge : Edge) (item : Item) → Source edge item.body → is_group item.body ≡ false
      → IsOfFirst rows (carry item)
  pub law :
      (edge : Edge) → family_of edge ≡ f → (item : Item) → IsValidItem item
      → Source edge item.body → EdgeLaw edge item (made edge item)

module _ {f : Family} {Source : Edge → Body → Type 0} {made : Edge → Item → Image} {rows : ℕ}
    (r : IsGroupRule f Source made rows) where
  pub group_lawful : IsLawful f
  group_lawful = lawful_by r.rule r.law

  module _ (edge : Edge) (own : family_of edge ≡ f) (item : Item) where
    pub group_rows : record_of 1 rows ≡ child_rows_of edge item
    group_rows =
        sym (r.children edge item)
        ∙ child_rows_are edge item (made edge item) (image_is r.rule edge own item)

    -- the duals of a row's child rows
    module _ (suits : IsItemFor edge item) (ys : List (List Rational))
        (takes : TakesDuals (kept_by edge item) ys) where
      of_first : IsOfFirst rows (r.carry item)
      of_first = r.dual edge item (source_is r.rule edge own item suits) takes.no_group

      pub group_one_dual : length ys ≡ 1
      group_one_dual =
          dual_count edge item (made edge item) (image_is r.rule edge own item) ys takes
          ∙ ap (λ (k : ChildRows). k.count) (r.children edge item) ∙ of_first.0

      pub group_dual : (y : List Rational) → y ≡ slice_index_or ys 0 y → y ≡ back_of edge item ys
      group_dual y first =
          back_one edge item (λ y. y)
          (λ y. back_is r.rule edge own item (y ∷ []) ∙ of_first.1 (y ∷ [])) ys y group_one_dual
          first

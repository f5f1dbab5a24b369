-- The law of Scalarize: a row for each component, f_i = 0, f_i ≥ 0 or f_i ≤ 0.
use Rattle.std.specs.Prelude.{◌≡◌, ◌≤◌, ◌*◌, ◌+◌, ◌<◌, ℕ, suc, true, List, [], ◌∷◌, ◌++◌, All, length, map, slice_index_or, take, refl}
use Rattle.std.proofs.Common.{arith, sym, ap, ap₂, subst, ◌∙◌}
use Rattle.std.proofs.lemmas.List.{append-nil, append_assoc, length-map, length-take, map-append, take_more}
use Rattle.std.proofs.lemmas.List.Elements.{All-cons, All-head, All-nil, All-tail}
use Rattle.ratio_core.specs.Rational.{Rational, zero_ℚ, ◌*ℚ◌, ◌+ℚ◌, ◌-ℚ◌, ◌≤ℚ◌}
use Rattle.rational_laws.specs.Dot.{dot}
use Rattle.rational_laws.specs.Field.{*ℚ-zero, zero-*ℚ}
use Rattle.rational_laws.specs.Order.{≤ℚ_from_≡}
use Rattle.rational_laws.specs.Ring.{as_expression, by_ring, ring₂, zero_as}
use Rattle.aff_core.specs.Address.{Address, address_cmp}
use Rattle.aff_core.specs.Function.{Function, coefficient, evaluated, variable}
use Rattle.aff_core.specs.FunctionLists.{coefficients, constants, evaluations}
use Rattle.dual_laws.specs.Held.{DualsHold, DualRow, Holds, IsHeld, adjoint, adjoint_of, gap, gap_of}
use Rattle.set_core.specs.Membership.{Dual, In, low_of}
use Rattle.set_core.specs.Mirrored.{multiplied}
use Rattle.set_core.specs.Shapes.{IsSetOf, is_scalar}
use Rattle.set_core.specs.Vectors.{first_of}
use Rattle.set_core.specs.declared.set.Set.{Set}
use Rattle.set_core.specs.declared.set.Set.TheVariants.{LessThan, GreaterThan, EqualTo, Zeros, Nonnegatives, Nonpositives}
use Rattle.item_core.specs.declared.edge.Edge.{Edge}
use Rattle.item_core.specs.declared.edge.Edge.TheVariants.{E15, E16, E17, E18, E19, E20}
use Rattle.item_core.specs.declared.family.Family.TheVariants.{Scalarize}
use Rattle.item_core.specs.declared.item.Body.{Body}
use Rattle.item_core.specs.declared.item.Body.TheVariants.{Plain, Affine, PlainVec, AffineVec}
use Rattle.item_core.specs.declared.item.Item.{Item}
use Rattle.item_core.specs.Edge.{edge_entry, family_of, source_of}
use Rattle.item_core.specs.Item.{functions_of, item_of, set_of}
use Rattle.item_core.specs.KindOf.{kind_of_body}
use Rattle.item_core.specs.Valid.{FitsItsFunction, IsValidItem, NamesNothingBelow}
use Rattle.bridge_face.specs.BackOf.{back_by, back_of, joined}
use Rattle.bridge_face.specs.ComponentLaws.{each_at}
use Rattle.bridge_face.specs.FamilyLaws.{Rule, back_is, lawful_by, of_another}
use Rattle.bridge_face.specs.ImageOf.{image_by}
use Rattle.bridge_face.specs.Images.{child_at, children_from, component_of, each_component, rows_at}
use Rattle.bridge_face.specs.Law.{IsLawful, LeadsToKind, Miss, growth}
use Rattle.bridge_face.specs.OneRowLaws.{IsRowBody, row, row_held}
use Rattle.bridge_face.specs.RowsLaws.{IsRowOf, MadeOfRows, length-children_from, rows_held, rows_law}
use Rattle.bridge_face.specs.Sources.{OfKind, vaffine_nonnegatives, vaffine_nonpositives, vaffine_zeros, vplain_nonnegatives, vplain_nonpositives, vplain_zeros}

-- a cone, and the set of numbers that a component may be
pub data HasComponentSet : Set → Set → Type 0 where
  of_zeros : {n : ℕ} → HasComponentSet (Zeros n) (EqualTo zero_ℚ)
  of_nonnegatives : {n : ℕ} → HasComponentSet (Nonnegatives n) (GreaterThan zero_ℚ)
  of_nonpositives : {n : ℕ} → HasComponentSet (Nonpositives n) (LessThan zero_ℚ)

-- rows of one function each, in the same set of numbers
pub data AreComponentRows (c : Set) : List Function → List Body → Type 0 where
  no_parts : AreComponentRows c [] []
  part : {f : Function} {b : Body} {fs : List Function} {bodies : List Body} → IsRowBody b
      → functions_of b ≡ f ∷ [] → set_of b ≡ c → AreComponentRows c fs bodies
      → AreComponentRows c (f ∷ fs) (b ∷ bodies)

abbrev held_as : List Rational → List Function → Set → DualRow
held_as w fs set = record { duals = w; functions = fs; set = set }

part_held : {c : Set} (b : Body) (f : Function) (w : List Rational) → functions_of b ≡ f ∷ []
    → set_of b ≡ c
    → row_held b w ≡ held_as w (f ∷ []) c
part_held b f w fs set = λ i. record { duals = w; functions = fs i; set = set i }

-- ---- values

value_in : {S c : Set} → HasComponentSet S c → (one q : Rational) (v : List Rational)
    → In (multiplied one c) (q ∷ []) → In (multiplied one S) v → In (multiplied one S) (q ∷ v)
value_in of_zeros one q v h rest = All-cons (λ r. r ≡ zero_ℚ) q v (h ∙ *ℚ-zero one) rest
value_in of_nonnegatives one q v h rest =
    All-cons (λ r. zero_ℚ ≤ℚ r) q v (subst (λ z. z ≤ℚ q) (*ℚ-zero one) h) rest
value_in of_nonpositives one q v h rest =
    All-cons (λ r. r ≤ℚ zero_ℚ) q v (subst (λ z. q ≤ℚ z) (*ℚ-zero one) h) rest

none_in : {S c : Set} → HasComponentSet S c → (one : Rational) → In (multiplied one S) []
none_in of_zeros one = All-nil (λ r. r ≡ zero_ℚ)
none_in of_nonnegatives one = All-nil (λ r. zero_ℚ ≤ℚ r)
none_in of_nonpositives one = All-nil (λ r. r ≤ℚ zero_ℚ)

pub values_in : {S c : Set} → HasComponentSet S c → {fs : List Function} {bodies : List Body}
    → AreComponentRows c fs bodies
    → (one : Rational) (x : Address → Rational) → All (λ b. Holds one (row_held b []) x) bodies
    → In (multiplied one S) (evaluations one fs x)
values_in has no_parts one x h = none_in has one
values_in {S} {c} has (part {f} {b} {fs} {bodies} row functions set rest) one x h =
    value_in has one (evaluated one f x) (evaluations one fs x)
    (subst (λ k. Holds one k x) (part_held b f [] functions set)
    (All-head (λ b. Holds one (row_held b []) x) b bodies h))
    (values_in has rest one x (All-tail (λ b. Holds one (row_held b []) x) b bodies h))

-- ---- duals

dual_in : {S c : Set} → HasComponentSet S c → (q : Rational) (v : List Rational) → Dual c (q ∷ [])
    → Dual S v
    → Dual S (q ∷ v)
dual_in of_zeros q v h rest = tt
dual_in of_nonnegatives q v h rest = All-cons (λ r. zero_ℚ ≤ℚ r) q v h rest
dual_in of_nonpositives q v h rest = All-cons (λ r. r ≤ℚ zero_ℚ) q v h rest

none_dual : {S c : Set} → HasComponentSet S c → Dual S []
none_dual of_zeros = tt
none_dual of_nonnegatives = All-nil (λ r. zero_ℚ ≤ℚ r)
none_dual of_nonpositives = All-nil (λ r. r ≤ℚ zero_ℚ)

low_parts : {S c : Set} → HasComponentSet S c → (w y : List Rational)
    → (low_of S w ≡ zero_ℚ) × (low_of c y ≡ zero_ℚ)
low_parts of_zeros w y = (refl, zero-*ℚ (first_of y))
low_parts of_nonnegatives w y = (refl, zero-*ℚ (first_of y))
low_parts of_nonpositives w y = (refl, zero-*ℚ (first_of y))

-- each of the duals is one number, and together they are the cone's
pub record Joined (S : Set) (fs : List Function) (ys : List (List Rational)) : Type 0 where
  pub size : length (joined ys) ≡ length fs
  pub dual : Dual S (joined ys)

the_number : {c : Set} (y : List Rational) (f : Function) → IsHeld (held_as y (f ∷ []) c)
    → (q : Rational) × (y ≡ q ∷ [])
the_number [] f h = absurd (omega (arith, h.size))
the_number (q ∷ []) f h = (q, refl)
the_number (q ∷ (r ∷ y)) f h = absurd (omega (arith, h.size))

data HaveNumbers (c : Set) : List Function → List Body → List (List Rational) → Type 0 where
  no_numbers : HaveNumbers c [] [] []
  one_number : {f : Function} {b : Body} {fs : List Function} {bodies : List Body}
      {ys : List (List Rational)} {q : Rational}
      → row_held b (q ∷ []) ≡ held_as (q ∷ []) (f ∷ []) c → Dual c (q ∷ [])
      → HaveNumbers c fs bodies ys
      → HaveNumbers c (f ∷ fs) (b ∷ bodies) ((q ∷ []) ∷ ys)

have_numbers : {c : Set} {fs : List Function} {bodies : List Body} → AreComponentRows c fs bodies
    → (ys : List (List Rational)) → length ys ≡ length bodies → DualsHold (rows_held bodies ys)
    → HaveNumbers c fs bodies ys
have_numbers no_parts [] e h = no_numbers
have_numbers no_parts (y ∷ ys) e h = absurd (omega (arith, e))
have_numbers (part row functions set rest) [] e h = absurd (omega (arith, e))
have_numbers {c} (part {f} {b} {fs} {bodies} row functions set rest) (y ∷ ys) e h =
    let first = subst IsHeld (part_held b f y functions set)
    (All-head IsHeld (row_held b y) (rows_held bodies ys) h) in
    let one = the_number y f first in
    subst (λ w. HaveNumbers c (f ∷ fs) (b ∷ bodies) (w ∷ ys)) (sym one.1)
    (one_number (part_held b f (one.0 ∷ []) functions set) (subst (Dual c) one.1 first.dual)
    (have_numbers rest ys (omega (arith, e))
    (All-tail IsHeld (row_held b y) (rows_held bodies ys) h)))

module _ {S c : Set} (has : HasComponentSet S c) where
  joined_held : {fs : List Function} {bodies : List Body} {ys : List (List Rational)}
      → HaveNumbers c fs bodies ys → Joined S fs ys
  joined_held no_numbers = record { size = refl; dual = none_dual has }
  joined_held (one_number {f} {b} {fs} {bodies} {ys} {q} is dual rest) =
      let more = joined_held rest in
      record {
        size = omega (arith, more.size);
        dual = dual_in has q (joined ys) dual more.dual;
      }

  -- the sums of duals times coefficients
  joined_adjoint : {fs : List Function} {bodies : List Body} {ys : List (List Rational)}
      → HaveNumbers c fs bodies ys → (v : Address)
      → dot (joined ys) (coefficients fs v) ≡ adjoint (rows_held bodies ys) v
  joined_adjoint no_numbers v = refl
  joined_adjoint (one_number {f} {b} {fs} {bodies} {ys} {q} is dual rest) v =
      spread (q *ℚ coefficient f v) (dot (joined ys) (coefficients fs v))
      (adjoint (rows_held bodies ys) v) (joined_adjoint rest v)
      ∙ ap (λ k. adjoint_of k v +ℚ adjoint (rows_held bodies ys) v) (sym is)
    where
      spread : (p d k : Rational) → d ≡ k → p +ℚ d ≡ (p +ℚ zero_ℚ) +ℚ k
      spread p d k e = ap (λ z. p +ℚ z) e ∙ padded p k
        where
          padded : (p k : Rational) → p +ℚ k ≡ (p +ℚ zero_ℚ) +ℚ k
          padded = ring₂ _ (λ ρ. simp (as_expression, zero_as ρ) (by_ring ρ _ _ refl))

  -- the gaps of the rows
  joined_gap : {fs : List Function} {bodies : List Body} {ys : List (List Rational)}
      → HaveNumbers c fs bodies ys
      → gap (rows_held bodies ys) ≡ zero_ℚ -ℚ dot (joined ys) (constants fs)
  joined_gap no_numbers = nothing
    where
      nothing : zero_ℚ ≡ zero_ℚ -ℚ zero_ℚ
      nothing = ring₂ (λ p q. zero_ℚ ≡ zero_ℚ -ℚ zero_ℚ)
          (λ ρ. simp (as_expression, zero_as ρ) (by_ring ρ _ _ refl)) zero_ℚ zero_ℚ
  joined_gap (one_number {f} {b} {fs} {bodies} {ys} {q} is dual rest) =
      ap₂ ◌+ℚ◌
      (ap gap_of is
      ∙ ap (λ l. l -ℚ (q *ℚ f.constant +ℚ zero_ℚ)) (low_parts has [] (q ∷ [])).1)
      (joined_gap rest)
      ∙ gathered (q *ℚ f.constant) (dot (joined ys) (constants fs))
    where
      gathered : (p d : Rational) → (zero_ℚ -ℚ (p +ℚ zero_ℚ)) +ℚ (zero_ℚ -ℚ d) ≡ zero_ℚ -ℚ (p +ℚ d)
      gathered = ring₂ _ (λ ρ. simp (as_expression, zero_as ρ) (by_ring ρ _ _ refl))

-- ---- what an edge of the family leads from

-- a row of functions or of variables in such a cone
pub data IsConeRow : Body → Type 0 where
  affine : {funcs : List Function} {set : Set} → HasComponentSet set (component_of set)
      → IsConeRow (AffineVec funcs set)
  plain : {vars : List Address} {set : Set} → HasComponentSet set (component_of set)
      → IsConeRow (PlainVec vars set)

-- what the edges make of it
abbrev pub made : Body → List Body
made b = each_component b (component_of (set_of b))

-- one of its rows is of the kind that the edge leads to
pub data LeadsToEach (edge : Edge) : Body → Type 0 where
  affine_each : {funcs : List Function} {set : Set}
      → ((f : Function) → LeadsToKind edge (Affine f (component_of set)))
      → LeadsToEach edge (AffineVec funcs set)
  plain_each : {vars : List Address} {set : Set}
      → ((v : Address) → LeadsToKind edge (Plain v (component_of set)))
      → LeadsToEach edge (PlainVec vars set)

pub record ScalarizeSourced (edge : Edge) (b : Body) : Type 0 where
  pub row : IsConeRow b
  pub leads : LeadsToEach edge b

sourced : (edge : Edge) → family_of edge ≡ Scalarize → {b : Body} → OfKind (source_of edge) b
    → ScalarizeSourced edge b
unfolding edge_entry kind_of_body
sourced E15 own vaffine_zeros = record { row = affine of_zeros; leads = affine_each (λ f. refl) }
sourced E16 own vaffine_nonnegatives =
    record { row = affine of_nonnegatives; leads = affine_each (λ f. refl) }
sourced E17 own vaffine_nonpositives =
    record { row = affine of_nonpositives; leads = affine_each (λ f. refl) }
sourced E18 own vplain_zeros = record { row = plain of_zeros; leads = plain_each (λ v. refl) }
sourced E19 own vplain_nonnegatives =
    record { row = plain of_nonnegatives; leads = plain_each (λ v. refl) }
sourced E20 own vplain_nonpositives =
    record { row = plain of_nonpositives; leads = plain_each (λ v. refl) }
sourced _ own k = of_another own refl

pub rule : Rule Scalarize ScalarizeSourced (λ edge item. rows_at item (made item.body)) (λ item. joined)
unfolding image_by back_by
rule = record { image = λ edge item. refl; back = λ item ys. refl; sourced = sourced }

-- ---- the parts

part_scalar : {S c : Set} → HasComponentSet S c → is_scalar c ≡ true
part_scalar of_zeros = refl
part_scalar of_nonnegatives = refl
part_scalar of_nonpositives = refl

part_of_one : {S c : Set} → HasComponentSet S c → IsSetOf 1 c
part_of_one of_zeros = record { dimension = refl; enough = omega arith; uncrossed = refl }
part_of_one of_nonnegatives = record { dimension = refl; enough = omega arith; uncrossed = refl }
part_of_one of_nonpositives = record { dimension = refl; enough = omega arith; uncrossed = refl }

affine_parts : (c : Set) (fs : List Function) → AreComponentRows c fs (map (λ f. Affine f c) fs)
affine_parts c [] = no_parts
affine_parts c (f ∷ fs) =
    part (row refl refl) refl refl (affine_parts c fs)

plain_parts : (c : Set) (vars : List Address)
    → AreComponentRows c (map (variable {R = address_cmp}) vars) (map (λ v. Plain v c) vars)
plain_parts c [] = no_parts
plain_parts c (v ∷ vars) =
    part (row refl refl) refl refl (plain_parts c vars)

-- what is read of the row
record Read (b : Body) : Type 0 where
  source : IsRowBody b
  has : HasComponentSet (set_of b) (component_of (set_of b))
  parts : AreComponentRows (component_of (set_of b)) (functions_of b) (made b)

read : {b : Body} → IsConeRow b → Read b
read (affine {funcs} {set} has) =
    record { source = row refl refl; has = has; parts = affine_parts (component_of set) funcs }
read (plain {vars} {set} has) =
    record { source = row refl refl; has = has; parts = plain_parts (component_of set) vars }

-- ---- the law

module _ (edge : Edge) (own : family_of edge ≡ Scalarize) where
  module _ (item : Item) (valid : IsValidItem item) (r : Read item.body) where
    -- an address that none of the item's functions names
    abbrev Missed : Type 0
    Missed = (v : Address) × Miss (functions_of item.body) v

    -- a component of the item
    abbrev IsComponent : Function → Type 0
    IsComponent f = NamesNothingBelow item.at f × ((m : Missed) → coefficient f m.0 ≡ zero_ℚ)

    row_of : (b : Body) (f : Function) → IsRowBody b → FitsItsFunction b → functions_of b ≡ f ∷ []
        → set_of b ≡ component_of (set_of item.body) → LeadsToKind edge b → IsComponent f
        → IsRowOf edge item b
    row_of b f row shaped functions set leads component = record {
      made = row;
      shaped = shaped;
      some = subst (λ fs. 1 ≤ length fs) (sym functions) (omega arith);
      fits = subst (λ fs. IsSetOf (length fs) (set_of b)) (sym functions)
          (subst (IsSetOf 1) (sym set) (part_of_one r.has));
      unnamed = subst (All (NamesNothingBelow item.at)) (sym functions)
          (All-cons (NamesNothingBelow item.at) f [] component.0
          (All-nil (NamesNothingBelow item.at)));
      grows = subst (λ fs. length fs ≤ growth (family_of edge) * length (functions_of item.body))
          (sym functions)
          (subst (λ n. 1 ≤ n * length (functions_of item.body)) (sym (ap growth own))
          (omega (arith, valid.some)));
      leads = leads;
      mentioned = λ v m. subst (λ fs. Miss fs v) (sym functions)
          (All-cons (λ g. coefficient g v ≡ zero_ℚ) f [] (component.1 (v, m))
          (All-nil (λ g. coefficient g v ≡ zero_ℚ)));
    }

    components : All IsComponent (functions_of item.body)
    components =
        both (functions_of item.body) (valid.others r.source.no_group)
        (each_at (λ m f. coefficient f m.0 ≡ zero_ℚ) (functions_of item.body) (λ m. m.1))
      where
        both : (fs : List Function) → All (NamesNothingBelow item.at) fs
            → All (λ f. (m : Missed) → coefficient f m.0 ≡ zero_ℚ) fs → All IsComponent fs
        both [] h k = All-nil IsComponent
        both (f ∷ fs) h k =
            All-cons IsComponent f fs (
              All-head (NamesNothingBelow item.at) f fs h,
              All-head (λ g. (m : Missed) → coefficient g m.0 ≡ zero_ℚ) f fs k,
            )
            (both fs (All-tail (NamesNothingBelow item.at) f fs h)
            (All-tail (λ g. (m : Missed) → coefficient g m.0 ≡ zero_ℚ) f fs k))

    affine_rows : (c : Set) → is_scalar c ≡ true → c ≡ component_of (set_of item.body)
        → ((f : Function) → LeadsToKind edge (Affine f c)) → (fs : List Function)
        → All IsComponent fs
        → All (IsRowOf edge item) (map (λ f. Affine f c) fs)
    affine_rows c scalar set leads [] h = All-nil (IsRowOf edge item)
    affine_rows c scalar set leads (f ∷ fs) h =
        All-cons (IsRowOf edge item) (Affine f c) (map (λ f. Affine f c) fs)
        (row_of (Affine f c) f (row refl refl) scalar refl set (leads f)
        (All-head IsComponent f fs h))
        (affine_rows c scalar set leads fs (All-tail IsComponent f fs h))

    plain_rows : (c : Set) → is_scalar c ≡ true → c ≡ component_of (set_of item.body)
        → ((v : Address) → LeadsToKind edge (Plain v c)) → (vars : List Address)
        → All IsComponent (map (variable {R = address_cmp}) vars)
        → All (IsRowOf edge item) (map (λ v. Plain v c) vars)
    plain_rows c scalar set leads [] h = All-nil (IsRowOf edge item)
    plain_rows c scalar set leads (v ∷ vars) h =
        All-cons (IsRowOf edge item) (Plain v c) (map (λ v. Plain v c) vars)
        (row_of (Plain v c) (variable v) (row refl refl) scalar refl set (leads v)
        (All-head IsComponent (variable v) (map (variable {R = address_cmp}) vars) h))
        (plain_rows c scalar set leads vars (All-tail IsComponent (variable v)
        (map (variable {R = address_cmp}) vars) h))

    rows_by : {b : Body} → LeadsToEach edge b → set_of b ≡ set_of item.body
        → All IsComponent (functions_of b)
        → All (IsRowOf edge item) (made b)
    rows_by (affine_each {funcs} {set} leads) same h =
        affine_rows (component_of set) (subst (λ s. is_scalar (component_of s) ≡ true) (sym same)
        (part_scalar r.has)) (ap component_of same) leads funcs h
    rows_by (plain_each {vars} {set} leads) same h =
        plain_rows (component_of set) (subst (λ s. is_scalar (component_of s) ≡ true) (sym same)
        (part_scalar r.has)) (ap component_of same) leads vars h

    back_held : (ys : List (List Rational))
        → row_held item.body (back_of edge item ys) ≡ row_held item.body (joined ys)
    back_held ys = ap (row_held item.body) (back_is rule edge own item ys)

    scalarize_rows : LeadsToEach edge item.body → MadeOfRows edge item (made item.body)
    scalarize_rows leads = record {
      source = r.source;
      each = rows_by leads refl components;
      values = λ one x h below. values_in r.has r.parts one x below;
      holds = λ ys e h.
          let all = joined_held r.has (have_numbers r.parts ys e h) in
          subst IsHeld (sym (back_held ys)) (record {
            set = valid.set;
            size = all.size;
            dual = all.dual;
          });
      same = λ ys e h v. ap (λ k. adjoint_of k v) (back_held ys)
          ∙ joined_adjoint r.has (have_numbers r.parts ys e h) v;
      gaps = λ ys e h.
          ≤ℚ_from_≡ _ _ (joined_gap r.has (have_numbers r.parts ys e h)
          ∙ ap (λ l. l -ℚ dot (joined ys) (constants (functions_of item.body)))
          (sym (low_parts r.has (joined ys) []).0)
          ∙ sym (ap gap_of (back_held ys)));
    }

pub scalarize_lawful : IsLawful Scalarize
scalarize_lawful =
    lawful_by rule (λ edge own item valid source. rows_law edge item (made item.body)
    (scalarize_rows edge own item valid (read source.row) source.leads))

-- ---- one more

pub children_more : (item : Item) (k : ℕ) (bodies : List Body) (b : Body)
    → children_from item k (bodies ++ b ∷ [])
    ≡ children_from item k bodies ++ child_at item (k + length bodies) b ∷ []
children_more item k [] b =
    let same : k ≡ k + 0 = omega arith in ap (λ n. child_at item n b ∷ []) same
children_more item k (c ∷ bodies) b =
    let later : (k + 1) + length bodies ≡ k + length (c ∷ bodies) = omega arith in
    ap (λ l. child_at item k c ∷ l)
    (children_more item (k + 1) bodies b
    ∙ ap (λ n. children_from item (k + 1) bodies ++ child_at item n b ∷ []) later)

pub joined_more : (ys : List (List Rational)) (y : List Rational)
    → joined (ys ++ y ∷ []) ≡ joined ys ++ y
joined_more [] y = append-nil y
joined_more (z ∷ ys) y = ap (λ l. z ++ l) (joined_more ys y) ∙ sym (append_assoc z (joined ys) y)

pub rows_step : {X : Type 0} (item : Item) (mk : X → Body) (xs : List X) (n : ℕ) (x : X)
    (rows : List Item)
    → n < length xs → x ≡ slice_index_or xs n x → rows ≡ children_from item 0 (map mk (take n xs))
    → rows ++ child_at item n (mk x) ∷ [] ≡ children_from item 0 (map mk (take (n + 1) xs))
rows_step item mk xs n x rows h is made_so_far =
    let count : n ≡ 0 + length (map mk (take n xs)) =
    omega (arith, length-map (take n xs) mk, length-take n xs, h) in
    ap₂ (λ r k. r ++ child_at item k (mk x) ∷ []) made_so_far count
    ∙ sym (children_more item 0 (map mk (take n xs)) (mk x))
    ∙ ap (children_from item 0) (sym (ap (map mk)
    (take_more xs n x h ∙ ap (λ y. take n xs ++ y ∷ []) (sym is))
    ∙ map-append mk (take n xs) (x ∷ [])))

pub joined_step : (ys : List (List Rational)) (n : ℕ) (y : List Rational) (all : List Rational)
    → n < length ys → y ≡ slice_index_or ys n y → all ≡ joined (take n ys)
    → all ++ y ≡ joined (take (n + 1) ys)
joined_step ys n y all h is so_far =
    ap (λ l. l ++ y) so_far ∙ sym (joined_more (take n ys) y)
    ∙ ap joined (sym (take_more ys n y h ∙ ap (λ z. take n ys ++ z ∷ []) (sym is)))

parts_length : {c : Set} {fs : List Function} {bodies : List Body} → AreComponentRows c fs bodies
    → length bodies ≡ length fs
parts_length no_parts = refl
parts_length (part row functions set rest) = ap suc (parts_length rest)

-- as many rows as components
pub row_count : (b : Body) (item : Item) → IsConeRow b
    → length (functions_of b) ≡ length (children_from item 0 (made b))
row_count b item cone =
    sym (length-children_from item 0 (made b) ∙ parts_length (read cone).parts)

pub row_made : {at place : Address} {b body : Body} → at ≡ place → b ≡ body
    → item_of at b ≡ item_of place body
row_made at_is body_is = ap₂ item_of at_is body_is

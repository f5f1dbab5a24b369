-- The law of SplitSet: l ≤ f ≤ u is f ≥ l and f ≤ u, and so for f = v and vectors f = 0.
use Rattle.std.specs.Prelude.{All, Bool, List, [], cond, false, length, map, refl, true, ℕ, ◌*◌, ◌∷◌, ◌≡◌, ◌≤◌, Result}
use Rattle.std.proofs.lemmas.List.Elements.{All-cons, All-head, All-nil, All-tail}
use Rattle.std.proofs.Common.{ap, ap₂, arith, subst, sym, ◌∙◌}
use Rattle.std.specs.Ordering.{is_le}
use Rattle.std.proofs.Math.ListN.{set}
use Rattle.rational_laws.specs.Field.{*ℚ-+ℚ, +ℚ-zero, +ℚ_inner_comm, neg_ℚ-sum}
use Rattle.aff_core.specs.Address.{Address}
use Rattle.item_core.specs.declared.item.Body.TheVariants.{Affine, AffineVec, Plain}
use Rattle.bridge_face.specs.BackOf.{BackFits, BackFitsBy, SumsFit, back_by, back_of}
use Rattle.item_core.specs.declared.item.Body.{Body}
use Rattle.set_core.specs.Membership.{Dual, In, low_of}
use Rattle.dual_laws.specs.Held.{DualsHold, DualRow, Holds, IsHeld, adjoint, adjoint_of, gap, gap_of}
use Rattle.item_core.specs.declared.edge.Edge.TheVariants.{E11, E12, E13, E14}
use Rattle.item_core.specs.declared.edge.Edge.{Edge}
use Rattle.bridge_face.specs.Law.{IsLawful, LeadsToKind, Miss, growth, IsItemFor}
use Rattle.set_core.specs.declared.set.Set.TheVariants.{EqualTo, GreaterThan, Interval, LessThan, Nonnegatives, Nonpositives, Zeros}
use Rattle.bridge_face.specs.ImageOf.{image_by}
use Rattle.item_core.specs.Valid.{FitsItsFunction, IsValidItem, NamesNothingBelow}
use Rattle.aff_core.specs.Function.{Function, coefficient}
use Rattle.bridge_face.specs.OneRowLaws.{IsRowBody, row, row_held}
use Rattle.bridge_face.specs.RowsLaws.{IsRowOf, MadeOfRows, rows_held, rows_law}
use Rattle.set_core.specs.Shapes.{IsSetOf}
use Rattle.item_core.specs.declared.item.Item.{Item}
use Rattle.bridge_face.specs.FamilyLaws.{Rule, back_is, dual_sizes, image_is, kept_by, lawful_by, of_another, source_is}
use Rattle.bridge_face.specs.BackOf as backs
use Rattle.bridge_face.specs.Sources.{OfKind, affine_equal_to, vaffine_zeros}
use Rattle.ratio_core.specs.Rational.{Rational, fits, neg_ℚ, rational_cmp, zero_ℚ, ◌*ℚ◌, ◌+ℚ◌, ◌-ℚ◌, ◌≤ℚ◌}
use Rattle.ratio_core.specs.declared.fault.NumberFault.{NumberFault}
use Rattle.ratio_core.specs.Answers.{ExactWhere}
use Rattle.ratio_core.specs.AnsweredLaws.{exact_as}
use Rattle.set_core.specs.declared.set.Set.{Set}
use Rattle.item_core.specs.declared.family.Family.TheVariants.{SplitSet}
use Rattle.aff_core.specs.FunctionLists.{constants, evaluations}
use Rattle.rational_laws.specs.Dot.{dot, plus}
use Rattle.item_core.specs.Edge.{edge_entry, family_of, source_of}
use Rattle.set_core.specs.Vectors.{first_of}
use Rattle.item_core.specs.Item.{functions_of, set_of}
use Rattle.item_core.specs.KindOf.{kind_of_body}
use Rattle.rational_laws.specs.DotLaws.{length-plus, plus-dot}
use Rattle.bridge_face.specs.Images.{lower_part, rows_at, upper_part, with_set}
use Rattle.set_core.specs.Mirrored.{multiplied}
use Rattle.set_core.specs.ShapeLaws.{in_order}
use Rattle.set_laws.specs.Least.{single₂}
use Rattle.rational_laws.specs.Order.{≤ℚ-*ℚ, ≤ℚ-*ℚ_nonpos, ≤ℚ-+ℚ_left, ≤ℚ-+ℚ_right, ≤ℚ_antisymm, ≤ℚ_from_≡}
use Rattle.bridge_face.specs.BridgeState.{TakesDuals}
use Rattle.bridge_face.specs.Sources as kinds

-- a row in a set that two others have in common
pub data IsSplitRow : Body → Type 0 where
  affine_interval : {f : Function} {l u : Rational} → IsSplitRow (Affine f (Interval l u))
  plain_interval : {v : Address} {l u : Rational} → IsSplitRow (Plain v (Interval l u))
  affine_equal : {f : Function} {a : Rational} → IsSplitRow (Affine f (EqualTo a))
  affine_zeros : {fs : List Function} {n : ℕ} → IsSplitRow (AffineVec fs (Zeros n))

-- such a set
pub data IsSplitSet : Set → Type 0 where
  an_interval : {l u : Rational} → IsSplitSet (Interval l u)
  an_equal : {a : Rational} → IsSplitSet (EqualTo a)
  some_zeros : {n : ℕ} → IsSplitSet (Zeros n)

pub is_split_set : {b : Body} → IsSplitRow b → IsSplitSet (set_of b)
is_split_set affine_interval = an_interval
is_split_set plain_interval = an_interval
is_split_set affine_equal = an_equal
is_split_set affine_zeros = some_zeros

-- the two rows
abbrev pub lower : Body → Body
lower b = with_set b (lower_part (set_of b))

abbrev pub upper : Body → Body
upper b = with_set b (upper_part (set_of b))

pub record SplitSetSourced (edge : Edge) (b : Body) : Type 0 where
  pub split : IsSplitRow b
  pub lower_leads : LeadsToKind edge (lower b)
  pub upper_leads : LeadsToKind edge (upper b)

sourced : (edge : Edge) → family_of edge ≡ SplitSet → {b : Body} → OfKind (source_of edge) b
    → SplitSetSourced edge b
unfolding edge_entry kind_of_body
sourced E11 own kinds.affine_interval =
    record { split = affine_interval; lower_leads = refl; upper_leads = refl }
sourced E12 own kinds.plain_interval =
    record { split = plain_interval; lower_leads = refl; upper_leads = refl }
sourced E13 own affine_equal_to =
    record { split = affine_equal; lower_leads = refl; upper_leads = refl }
sourced E14 own vaffine_zeros =
    record { split = affine_zeros; lower_leads = refl; upper_leads = refl }
sourced _ own k = of_another own refl

pub rule : Rule SplitSet SplitSetSourced
    (λ edge item. rows_at item (lower item.body ∷ upper item.body ∷ []))
    (λ item ys. plus (backs.first_of ys) (backs.second_of ys))
unfolding image_by back_by
rule = record { image = λ edge item. refl; back = λ item ys. refl; sourced = sourced }

-- ---- a set and the two that have its vectors in common

record Splits (n : ℕ) (s low high : Set) : Type 0 where
  values :
      (one : Rational) (v : List Rational) → In (multiplied one low) v → In (multiplied one high) v
      → In (multiplied one s) v
  duals : (p q : List Rational) → Dual low p → Dual high q → Dual s (plus p q)
  lows :
      (p q : List Rational) → length p ≡ n → length q ≡ n → Dual low p → Dual high q
      → (low_of low p +ℚ low_of high q) ≤ℚ low_of s (plus p q)
  lower_fits : IsSetOf n low
  upper_fits : IsSetOf n high

-- where l ≤ u, p ≥ 0 and q ≤ 0
interval_low : (l u p q : Rational) → l ≤ℚ u → zero_ℚ ≤ℚ p → q ≤ℚ zero_ℚ
    → ((l *ℚ p) +ℚ (u *ℚ q)) ≤ℚ low_of (Interval l u) ((p +ℚ q) ∷ [])
interval_low l u p q order above beneath = by (is_le (rational_cmp zero_ℚ (p +ℚ q)))
  where
    by : (b : Bool) → ((l *ℚ p) +ℚ (u *ℚ q)) ≤ℚ (cond b l u *ℚ (p +ℚ q))
    by true =
        subst (λ r. ((l *ℚ p) +ℚ (u *ℚ q)) ≤ℚ r) (sym (*ℚ-+ℚ l p q))
        (≤ℚ-+ℚ_left (u *ℚ q) (l *ℚ q) (l *ℚ p) (≤ℚ-*ℚ_nonpos l u q order beneath))
    by false =
        subst (λ r. ((l *ℚ p) +ℚ (u *ℚ q)) ≤ℚ r) (sym (*ℚ-+ℚ u p q))
        (≤ℚ-+ℚ_right (l *ℚ p) (u *ℚ p) (u *ℚ q) (≤ℚ-*ℚ l u p order above))

interval_splits : (l u : Rational) → IsSetOf 1 (Interval l u)
    → Splits 1 (Interval l u) (GreaterThan l) (LessThan u)
interval_splits l u fits = record {
  values = λ one v low high. (low, high);
  duals = λ p q low high. tt;
  lows = λ p q long same_long.
      single₂ (λ p q. Dual (GreaterThan l) p → Dual (LessThan u) q
      → (low_of (GreaterThan l) p +ℚ low_of (LessThan u) q) ≤ℚ low_of (Interval l u) (plus p q))
      (λ p q above beneath. interval_low l u p q (in_order l u fits.uncrossed) above beneath)
      p q long same_long;
  lower_fits = record { dimension = refl; enough = omega arith; uncrossed = refl };
  upper_fits = record { dimension = refl; enough = omega arith; uncrossed = refl };
}

equal_splits : (a : Rational) → Splits 1 (EqualTo a) (GreaterThan a) (LessThan a)
equal_splits a = record {
  values = λ one v low high. ≤ℚ_antisymm (first_of v) (one *ℚ a) high low;
  duals = λ p q low high. tt;
  lows = λ p q long same_long.
      single₂ (λ p q. Dual (GreaterThan a) p → Dual (LessThan a) q
      → (low_of (GreaterThan a) p +ℚ low_of (LessThan a) q) ≤ℚ low_of (EqualTo a) (plus p q))
      (λ p q above beneath. ≤ℚ_from_≡ _ _ (sym (*ℚ-+ℚ a p q))) p q long same_long;
  lower_fits = record { dimension = refl; enough = omega arith; uncrossed = refl };
  upper_fits = record { dimension = refl; enough = omega arith; uncrossed = refl };
}

neither_sign : (v : List Rational) → All (λ q. zero_ℚ ≤ℚ q) v → All (λ q. q ≤ℚ zero_ℚ) v
    → All (λ q. q ≡ zero_ℚ) v
neither_sign [] low high = All-nil (λ q. q ≡ zero_ℚ)
neither_sign (p ∷ v) low high =
    All-cons (λ q. q
    ≡ zero_ℚ) p v (≤ℚ_antisymm p zero_ℚ (All-head (λ q. q ≤ℚ zero_ℚ) p v high)
    (All-head (λ q. zero_ℚ ≤ℚ q) p v low))
    (neither_sign v (All-tail (λ q. zero_ℚ ≤ℚ q) p v low) (All-tail (λ q. q ≤ℚ zero_ℚ) p v high))

zeros_split : (n m : ℕ) → IsSetOf m (Zeros n) → Splits m (Zeros n) (Nonnegatives n) (Nonpositives n)
zeros_split n m fits = record {
  values = λ one v low high. neither_sign v low high;
  duals = λ p q low high. tt;
  lows = λ p q long same_long low high. ≤ℚ_from_≡ _ _ (+ℚ-zero zero_ℚ);
  lower_fits = record { dimension = fits.dimension; enough = fits.enough; uncrossed = refl };
  upper_fits = record { dimension = fits.dimension; enough = fits.enough; uncrossed = refl };
}

-- ---- what is read of the row and its two

-- the row in one of the two sets
record IsPart (b : Body) (part : Set) : Type 0 where
  row : IsRowBody (with_set b part)
  shaped : FitsItsFunction (with_set b part)
  same : functions_of (with_set b part) ≡ functions_of b
  set : set_of (with_set b part) ≡ part

record Parted (b : Body) : Type 0 where
  source : IsRowBody b
  lower : IsPart b (lower_part (set_of b))
  upper : IsPart b (upper_part (set_of b))
  splits : Splits (length (functions_of b)) (set_of b) (lower_part (set_of b))
      (upper_part (set_of b))

part : {b : Body} {part : Set} → IsRowBody (with_set b part) → FitsItsFunction (with_set b part)
    → functions_of (with_set b part) ≡ functions_of b → set_of (with_set b part) ≡ part
    → IsPart b part
part row shaped same set = record { row = row; shaped = shaped; same = same; set = set }

parted : {b : Body} → IsSplitRow b → IsSetOf (length (functions_of b)) (set_of b) → Parted b
parted (affine_interval {f} {l} {u}) fits = record {
  source = row refl refl;
  lower = part (row refl refl) refl refl refl;
  upper = part (row refl refl) refl refl refl;
  splits = interval_splits l u fits;
}
parted (plain_interval {v} {l} {u}) fits = record {
  source = row refl refl;
  lower = part (row refl refl) refl refl refl;
  upper = part (row refl refl) refl refl refl;
  splits = interval_splits l u fits;
}
parted (affine_equal {f} {a}) fits = record {
  source = row refl refl;
  lower = part (row refl refl) refl refl refl;
  upper = part (row refl refl) refl refl refl;
  splits = equal_splits a;
}
parted (affine_zeros {fs} {n}) fits = record {
  source = row refl refl;
  lower = part (row refl refl) refl refl refl;
  upper = part (row refl refl) refl refl refl;
  splits = zeros_split n (length fs) fits;
}

first_size : List ℕ → ℕ
first_size [] = 0
first_size (n ∷ ns) = n

second_size : List ℕ → ℕ
second_size [] = 0
second_size (n ∷ []) = 0
second_size (n ∷ (m ∷ ms)) = m

-- ---- the law

module _ (edge : Edge) (own : family_of edge ≡ SplitSet) where
  pub back_fits : (item : Item) (p q : List Rational)
      → BackFits edge item (p ∷ q ∷ []) ≡ SumsFit p q
  unfolding BackFitsBy
  back_fits item p q = ap (λ f. BackFitsBy f item (p ∷ q ∷ [])) own

  -- what is carried back of the two duals, by their sums
  pub back_two : (item : Item) (ys : List (List Rational)) (a b p q : List Rational)
      (r : Result (List Rational) NumberFault)
      → ys ≡ p ∷ q ∷ [] → a ≡ p → b ≡ q → ExactWhere r (SumsFit a b) (λ x. x ≡ plus a b)
      → ExactWhere r (BackFits edge item ys) (λ x. x ≡ back_of edge item ys)
  back_two item ys a b p q r ys_are a_is b_is said =
      subst (λ zs. ExactWhere r (BackFits edge item zs) (λ x. x ≡ back_of edge item zs))
      (sym ys_are)
      (subst (λ v. ExactWhere r (BackFits edge item (p ∷ q ∷ [])) (λ x. x ≡ v))
      (sym (back_is rule edge own item (p ∷ q ∷ [])))
      (exact_as r (SumsFit p q) (BackFits edge item (p ∷ q ∷ [])) (λ x. x ≡ plus p q)
      (λ x. x ≡ plus p q)
      (subst (λ T. T) (sym (back_fits item p q))) (subst (λ T. T) (back_fits item p q)) (λ x e. e)
      (subst (λ u. ExactWhere r (SumsFit u q) (λ x. x ≡ plus u q)) a_is
      (subst (λ v. ExactWhere r (SumsFit a v) (λ x. x ≡ plus a v)) b_is said))))

  module _ (item : Item) (valid : IsValidItem item) (p : Parted item.body) where
    abbrev fs : List Function
    fs = functions_of item.body

    abbrev s : Set
    s = set_of item.body

    -- one of the two rows
    row_of : (part : Set) → IsPart item.body part → IsSetOf (length fs) part
        → LeadsToKind edge (with_set item.body part) → IsRowOf edge item (with_set item.body part)
    row_of part is fits leads = record {
      made = is.row;
      shaped = is.shaped;
      some = subst (λ gs. 1 ≤ length gs) (sym is.same) valid.some;
      fits = subst (λ gs. IsSetOf (length gs) (set_of (with_set item.body part))) (sym is.same)
          (subst (IsSetOf (length fs)) (sym is.set) fits);
      unnamed = subst (All (NamesNothingBelow item.at)) (sym is.same)
          (valid.others p.source.no_group);
      grows = subst (λ n. length (functions_of (with_set item.body part)) ≤ n * length fs)
          (sym (ap growth own))
          (let e : length (functions_of (with_set item.body part)) ≡ length fs = ap length is.same
          in omega (arith, e));
      leads = leads;
      mentioned = λ v m. subst (λ gs. Miss gs v) (sym is.same) m;
    }

    abbrev held_by : List Rational → Set → DualRow
    held_by w part = record { duals = w; functions = fs; set = part }

    part_is : (part : Set) → IsPart item.body part → (w : List Rational)
        → row_held (with_set item.body part) w ≡ held_by w part
    part_is part is w = λ i. record { duals = w; functions = is.same i; set = is.set i }

    lower_is : (w : List Rational) → row_held (lower item.body) w ≡ held_by w (lower_part s)
    lower_is = part_is (lower_part s) p.lower

    upper_is : (w : List Rational) → row_held (upper item.body) w ≡ held_by w (upper_part s)
    upper_is = part_is (upper_part s) p.upper

    abbrev bodies : List Body
    bodies = lower item.body ∷ upper item.body ∷ []

    module _ (u w : List Rational) (hold : DualsHold (rows_held bodies (u ∷ w ∷ []))) where
      first : IsHeld (held_by u (lower_part s))
      first = subst IsHeld (lower_is u) (All-head IsHeld (row_held (lower item.body) u)
          (row_held (upper item.body) w ∷ []) hold)

      second : IsHeld (held_by w (upper_part s))
      second =
          subst IsHeld (upper_is w)
          (All-head IsHeld (row_held (upper item.body) w) []
          (All-tail IsHeld (row_held (lower item.body) u) (row_held (upper item.body) w ∷ [])
          hold))

      same_size : length u ≡ length w
      same_size = first.size ∙ sym second.size

      two_hold : IsHeld (row_held item.body (plus u w))
      two_hold = record {
        set = valid.set;
        size = length-plus u w same_size ∙ second.size;
        dual = p.splits.duals u w first.dual second.dual;
      }

      products : (g : Function → Rational)
          → dot (plus u w) (map g fs) ≡ dot u (map g fs) +ℚ dot w (map g fs)
      products g = plus-dot u w (map g fs) same_size

      two_same : (v : Address)
          → adjoint_of (row_held item.body (plus u w)) v ≡ adjoint (rows_held bodies (u ∷ w ∷ [])) v
      two_same v =
          products (λ f. coefficient f v)
          ∙ sym (ap₂ ◌+ℚ◌ (ap (λ k. adjoint_of k v) (lower_is u))
          (+ℚ-zero (adjoint_of (row_held (upper item.body) w) v)
          ∙ ap (λ k. adjoint_of k v) (upper_is w)))

      gaps_sum : gap (rows_held bodies (u ∷ w ∷ []))
          ≡ (low_of (lower_part s) u +ℚ low_of (upper_part s) w) -ℚ dot (plus u w) (constants fs)
      gaps_sum =
          ap₂ ◌+ℚ◌ (ap gap_of (lower_is u)) (+ℚ-zero (gap_of (row_held (upper item.body) w))
          ∙ ap gap_of (upper_is w))
          ∙ +ℚ_inner_comm (low_of (lower_part s) u) (neg_ℚ (dot u (constants fs)))
          (low_of (upper_part s) w) (neg_ℚ (dot w (constants fs)))
          ∙ ap (λ q. (low_of (lower_part s) u +ℚ low_of (upper_part s) w) +ℚ q)
          (sym (neg_ℚ-sum (dot u (constants fs)) (dot w (constants fs)))
          ∙ ap neg_ℚ (sym (products (λ f. f.constant))))

      two_gaps : gap (rows_held bodies (u ∷ w ∷ [])) ≤ℚ gap_of (row_held item.body (plus u w))
      two_gaps =
          subst (λ q. q ≤ℚ gap_of (row_held item.body (plus u w))) (sym gaps_sum)
          (≤ℚ-+ℚ_right (low_of (lower_part s) u +ℚ low_of (upper_part s) w) (low_of s (plus u w))
          (neg_ℚ (dot (plus u w) (constants fs)))
          (p.splits.lows u w first.size second.size first.dual second.dual))

    back_of_two : (u w : List Rational) → back_of edge item (u ∷ w ∷ []) ≡ plus u w
    back_of_two u w = back_is rule edge own item (u ∷ w ∷ [])

    -- what is said of the only two duals
    of_two : (P : List (List Rational) → Type 0)
        → ((u w : List Rational) → P (u ∷ w ∷ [])) → (ys : List (List Rational)) → length ys ≡ 2
        → P ys
    of_two P h [] e = absurd (omega (arith, e))
    of_two P h (u ∷ []) e = absurd (omega (arith, e))
    of_two P h (u ∷ (w ∷ [])) e = h u w
    of_two P h (u ∷ (w ∷ (z ∷ zs))) e = absurd (omega (arith, e))

    two_rows : LeadsToKind edge (lower item.body) → LeadsToKind edge (upper item.body)
        → MadeOfRows edge item bodies
    two_rows lower_leads upper_leads = record {
      source = p.source;
      each =
          All-cons (IsRowOf edge item) (lower item.body) (upper item.body ∷ [])
          (row_of (lower_part s) p.lower p.splits.lower_fits lower_leads)
          (All-cons (IsRowOf edge item) (upper item.body) []
          (row_of (upper_part s) p.upper p.splits.upper_fits upper_leads)
          (All-nil (IsRowOf edge item)));
      values = λ one x h below.
          p.splits.values one (evaluations one fs x)
          (subst (λ k. Holds one k x) (lower_is []) (All-head (λ b. Holds one (row_held b []) x)
          (lower item.body) (upper item.body ∷ []) below))
          (subst (λ k. Holds one k x) (upper_is []) (All-head (λ b. Holds one (row_held b []) x)
          (upper item.body) [] (All-tail (λ b. Holds one (row_held b []) x) (lower item.body)
          (upper item.body ∷ []) below)));
      holds = of_two (λ ys. DualsHold (rows_held bodies ys)
          → IsHeld (row_held item.body (back_of edge item ys)))
          (λ u w hold. subst (λ z. IsHeld (row_held item.body z)) (sym (back_of_two u w))
          (two_hold u w hold));
      same = of_two (λ ys. DualsHold (rows_held bodies ys) → (v : Address)
          → adjoint_of (row_held item.body (back_of edge item ys)) v
          ≡ adjoint (rows_held bodies ys) v)
          (λ u w hold v. ap (λ z. adjoint_of (row_held item.body z) v) (back_of_two u w)
          ∙ two_same u w hold v);
      gaps = of_two (λ ys. DualsHold (rows_held bodies ys)
          → gap (rows_held bodies ys) ≤ℚ gap_of (row_held item.body (back_of edge item ys)))
          (λ u w hold. subst (λ z. gap (rows_held bodies (u ∷ w ∷ [])) ≤ℚ gap_of
          (row_held item.body z)) (sym (back_of_two u w)) (two_gaps u w hold));
    }

  -- the two duals are of one length
  pub same_sizes : (item : Item) → IsItemFor edge item
      → (ys : List (List Rational)) (p q : List Rational)
      → TakesDuals (kept_by edge item) ys → ys ≡ p ∷ q ∷ [] → length p ≡ length q
  unfolding first_size second_size
  same_sizes item suits ys p q takes ys_are =
      let parts = parted (source_is rule edge own item suits).split suits.valid.set in
      let low = lower item.body in
      let high = upper item.body in
      let sizes : map length (p ∷ q ∷ []) ≡ map (λ b. length (functions_of b)) (low ∷ high ∷ []) =
      ap (map length) (sym ys_are)
      ∙ dual_sizes edge item (rows_at item (low ∷ high ∷ [])) (image_is rule edge own item) ys
      takes in
      ap first_size sizes ∙ ap length (parts.lower.same ∙ sym parts.upper.same)
      ∙ sym (ap second_size sizes)

pub split_set_lawful : IsLawful SplitSet
split_set_lawful =
    lawful_by rule (λ edge own item valid source.
    rows_law edge item (lower item.body ∷ upper item.body ∷ [])
    (two_rows edge own item valid (parted source.split valid.set) source.lower_leads
    source.upper_leads))

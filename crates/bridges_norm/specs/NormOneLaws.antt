-- The law of NormOne: t ≥ Σ |x_i| is t - Σ s_i ≥ 0, s_i - x_i ≥ 0 and s_i + x_i ≥ 0.
use Rattle.std.specs.Prelude.{All, List, [], drop, fold, length, map, refl, replicate, suc, take, ℕ, ◌*◌, ◌++◌, ◌+◌, ◌-◌, ◌∷◌, ◌≡◌, ◌≤◌, Result}
use Rattle.std.proofs.lemmas.List.Elements.{All-append, All-cons, All-head, All-map, All-tail}
use Rattle.std.proofs.Common.{ap, ap₂, arith, subst, sym, ◌∙◌}
use Rattle.std.proofs.lemmas.List.{length-append, length-map, length-replicate, map-append}
use Rattle.rational_laws.specs.Field.{*ℚ--ℚ, +ℚ-zero, zero-+ℚ}
use Rattle.bridge_face.specs.BackOf.{AcrossFits, BackFits, BackFitsBy, across, back_by, back_of, head_of, size, tail_of}
use Rattle.aff_core.specs.Address.{Address, child_of}
use Rattle.bridge_face.specs.DifferenceLaws.{IsAdditive, Subtracts, all_paired, coefficient-difference, constant-difference, dot-differences, evaluated-difference, evaluated-sum, length-differences, length-sums, less, missed-difference, missed-sum, numbers-differences, numbers-sums, unnamed-difference, unnamed-sum}
use Rattle.item_core.specs.declared.item.Body.TheVariants.{AffineVec, Group}
use Rattle.item_core.specs.declared.item.Body.{Body}
use Rattle.bridge_face.specs.ImageOf.{DifferencesFit, EachSumFits, FitsBy, ImageFits, differences, image_by, image_of, inner, inner_functions, negations, norm_one, sums}
use Rattle.set_core.specs.Vectors.{DominatesSum}
use Rattle.item_core.specs.declared.edge.Edge.TheVariants.{E42}
use Rattle.item_core.specs.declared.edge.Edge.{Edge}
use Rattle.bridge_face.specs.Law.{IsLawful, LeadsToKind, Miss, growth, IsItemFor}
use Rattle.item_core.specs.Valid.{IsValidItem, NamesNothingBelow}
use Rattle.aff_core.specs.Function.{Function, coefficient, evaluated, variable}
use Rattle.bridge_face.specs.GroupAndRowLaws.{GroupAndRow, group_and_row_law, left_over, group_and_row_made}
use Rattle.dual_laws.specs.Held.{Holds, IsHeld, adjoint_of, gap_of}
use Rattle.bridge_face.specs.OneRowLaws.{IsRowBody, row_held}
use Rattle.item_core.specs.declared.item.Item.{Item}
use Rattle.bridge_face.specs.FamilyLaws.{Rule, back_is, dual_sizes, first_size, image_is, kept_by, lawful_by, length-tail, of_another, source_is}
use Rattle.bridge_face.specs.BackOf as backs
use Rattle.set_core.specs.declared.set.Set.TheVariants.{Nonnegatives, NormOneCone, Reals}
use Rattle.item_core.specs.declared.family.Family.TheVariants.{NormOne}
use Rattle.bridge_face.specs.Sources.{OfKind, vaffine_norm_one_cone}
use Rattle.ratio_core.specs.Rational.{Rational, zero_ℚ, ◌*ℚ◌, ◌+ℚ◌, ◌-ℚ◌, ◌≤ℚ◌}
use Rattle.ratio_core.specs.declared.fault.NumberFault.{NumberFault}
use Rattle.ratio_core.specs.Answers.{ExactWhere}
use Rattle.ratio_core.specs.AnsweredLaws.{exact_as}
use Rattle.aff_core.specs.KeyOrder.{address_order}
use Rattle.map_laws.specs.EachLaws.{all_first, all_second}
use Rattle.bridges_norm.specs.BothLaws.{ConeRow, Halves, all_fold, cone_row, each_across, halves, none_left, norm_below, number-fold, others_of}
use Rattle.bridge_face.specs.ComponentLaws.{all_unnamed_below, components_apart, constants-variables, dot_missed, length-components, misses_inner, not_contained, variables, variables_missed, weighed, weighed_components}
use Rattle.rational_laws.specs.Ring.{as_expression, by_ring, ring₆}
use Rattle.aff_core.specs.ArithmeticLaws.{coefficient-sum_of, constant-sum_of}
use Rattle.aff_core.specs.FunctionLists.{coefficients, evaluations}
use Rattle.bridge_face.specs.Images.{difference, function_of_body, rest_of, child_at, first_in}
use Rattle.rational_laws.specs.Dot.{dot, minus, plus}
use Rattle.rational_laws.specs.DotLaws.{dot-append, dot-plus, dot-replicate, dot_comm, dot_zeros, length-minus, length-plus, minus-dot, plus-dot}
use Rattle.item_core.specs.Edge.{edge_entry, family_of, source_of}
use Rattle.item_core.specs.Item.{functions_of, set_of}
use Rattle.bridge_face.specs.GroupLaws.{held_of}
use Rattle.item_core.specs.KindOf.{kind_of_body}
use Rattle.set_laws.specs.Norms.{norm, norm_dominated}
use Rattle.aff_core.specs.Arithmetic.{sum_of}
use Rattle.rational_laws.specs.Sums.{sum_ℚ}
use Rattle.rational_laws.specs.Order.{≤ℚ_from_nonneg, ≤ℚ_from_≡, ≤ℚ_trans}
use Rattle.item_core.specs.declared.image.Expression.{Expression}
use Rattle.item_core.specs.declared.image.Image.{Image}
use Rattle.set_core.specs.declared.set.Set.{Set}
use Rattle.bridge_face.specs.BridgeState.{TakesDuals}
use Rattle.bridge_face.specs.GroupAndRowLaws as images
use Rattle.rational_laws.specs.Dot as numbers

-- a row in the cone
pub data InNormOne : Body → Type 0 where
  in_norm_one : {fs : List Function} {n : ℕ} → InNormOne (AffineVec fs (NormOneCone n))

-- the bounds of the others, and the row that the edge makes
abbrev pub bounds : Item → List Function
bounds item = inner_functions item (length (others_of item.body))

abbrev pub made_functions : Item → List Function
made_functions item =
    fold difference (function_of_body item.body) (bounds item)
    ∷ (differences (bounds item) (others_of item.body) ++ sums (bounds item) (others_of item.body))

abbrev pub made : Item → Body
made item =
    AffineVec (made_functions item) (Nonnegatives
    (length (others_of item.body) + length (others_of item.body) + 1))

-- the row, of any bounds, and what must fit for it
abbrev pub bounded_row : Function → List Function → List Address → ℕ → Body
bounded_row t xs vs n =
    AffineVec (fold difference t (variables vs)
    ∷ (differences (variables vs) xs ++ sums (variables vs) xs)) (Nonnegatives (n + n + 1))

abbrev pub NormOneRowsFit : Function → List Function → List Function → Type 0
NormOneRowsFit t xs ss = DifferencesFit t ss × EachSumFits ss (negations xs) × EachSumFits ss xs

-- so they are of the row's functions
pub fits_of : (b : Body) (s : Set) (fs others : List Function) (first : Function)
    (vs : List Address)
    → b ≡ AffineVec fs s → first ≡ first_in fs → others ≡ rest_of fs
    → NormOneRowsFit first others (variables vs)
    ≡ NormOneRowsFit (function_of_body b) (others_of b) (variables vs)
fits_of b s fs others first vs b_is first_is others_is =
    ap₂ (λ f gs. NormOneRowsFit f gs (variables vs)) (first_is ∙ ap function_of_body (sym b_is))
    (others_is ∙ ap others_of (sym b_is))

pub row_of : (b : Body) (s : Set) (fs others less both : List Function) (first rest : Function)
    (vs : List Address) (n : ℕ)
    → b ≡ AffineVec fs s → first ≡ first_in fs → others ≡ rest_of fs
    → rest ≡ fold difference first (variables vs) → less ≡ rest ∷ differences (variables vs) others
    → both ≡ less ++ sums (variables vs) others
    → AffineVec both (Nonnegatives (n + n + 1))
    ≡ bounded_row (function_of_body b) (others_of b) vs n
row_of b s fs others less both first rest vs n b_is first_is others_is rest_is less_is both_is =
    ap (λ gs. AffineVec gs (Nonnegatives (n + n + 1)))
    (both_is ∙ ap (λ gs. gs ++ sums (variables vs) others)
    (less_is ∙ ap (λ f. f ∷ differences (variables vs) others) rest_is))
    ∙ ap₂ (λ f gs. bounded_row f gs vs n) (first_is ∙ ap function_of_body (sym b_is))
    (others_is ∙ ap others_of (sym b_is))

-- what is read of it, and what the edge leads to
pub record NormOneSourced (edge : Edge) (b : Body) : Type 0 where
  pub cone : InNormOne b
  pub row : IsRowBody b
  pub count : ℕ
  pub set : set_of b ≡ NormOneCone count
  pub leads : (n : ℕ) (fs : List Function) → LeadsToKind edge (AffineVec fs (Nonnegatives n))
  pub group_leads : (n : ℕ) (vars : List Address) → LeadsToKind edge (Group (Reals n) vars)

sourced : (edge : Edge) → family_of edge ≡ NormOne → {b : Body} → OfKind (source_of edge) b
    → NormOneSourced edge b
unfolding edge_entry kind_of_body
sourced E42 own (vaffine_norm_one_cone {n}) = record {
  cone = in_norm_one;
  row = record { no_group = refl; no_objective = refl };
  count = n;
  set = refl;
  leads = λ n fs. refl;
  group_leads = λ n vars. refl;
}
sourced _ own k = of_another own refl

pub rule : Rule NormOne NormOneSourced (λ edge. norm_one)
    (λ item ys. head_of (backs.first_of ys) ∷ across (size item - 1) (tail_of (backs.first_of ys)))
unfolding image_by back_by
rule = record { image = λ edge item. refl; back = λ item ys. refl; sourced = sourced }

-- a list of several numbers
starts : (y : List Rational) → 1 ≤ length y → y ≡ head_of y ∷ tail_of y
starts [] h = absurd (omega (arith, h))
starts (r ∷ y) h = refl

parted_sums : (r k s a x b z : Rational)
    → r *ℚ (k -ℚ s) +ℚ ((a -ℚ x) +ℚ (b +ℚ z)) ≡ (r *ℚ k +ℚ (z -ℚ x)) +ℚ ((a +ℚ b) -ℚ r *ℚ s)
parted_sums r k s a x b z =
    ap (λ u. u +ℚ ((a -ℚ x) +ℚ (b +ℚ z))) (*ℚ--ℚ r k s) ∙ turned (r *ℚ k) (r *ℚ s) a x b z
  where
    turned : (k s a x b z : Rational)
        → (k -ℚ s) +ℚ ((a -ℚ x) +ℚ (b +ℚ z)) ≡ (k +ℚ (z -ℚ x)) +ℚ ((a +ℚ b) -ℚ s)
    turned = ring₆ _ (λ ρ. simp as_expression (by_ring ρ _ _ refl))

-- an image of a child group and a child row
abbrev pub group_and_row_of : Item → Item → List Expression → Body → Image
group_and_row_of item group exprs row = images.group_and_row item group exprs row

-- ---- the law

module _ (edge : Edge) (own : family_of edge ≡ NormOne) where
  pub image_fits : (item : Item)
      → ImageFits edge item
      ≡ NormOneRowsFit (function_of_body item.body) (others_of item.body) (bounds item)
  unfolding FitsBy
  image_fits item = ap (λ f. FitsBy f item) own

  pub back_fits : (item : Item) (y : List Rational)
      → BackFits edge item (y ∷ []) ≡ AcrossFits (size item - 1) (tail_of y)
  unfolding BackFitsBy
  back_fits item y = ap (λ f. BackFitsBy f item (y ∷ [])) own

  module _ (item : Item) (valid : IsValidItem item) (r : NormOneSourced edge item.body) where
    abbrev fs : List Function
    fs = functions_of item.body

    abbrev t : Function
    t = function_of_body item.body

    abbrev xs : List Function
    xs = others_of item.body

    abbrev n : ℕ
    n = length xs

    abbrev vs : List Address
    vs = inner item n

    abbrev ss : List Function
    ss = variables vs

    abbrev rows : List Function
    rows = made_functions item

    cone : ConeRow item (NormOneCone r.count)
    cone = cone_row item valid (NormOneCone r.count) r.set (omega arith)

    s_long : length ss ≡ n
    s_long = length-map vs variable ∙ length-components (child_of item.at 0) n

    long : length rows ≡ suc (n + n)
    long =
        ap suc
        (length-append (differences ss xs) (sums ss xs)
        ∙ ap₂ ◌+◌ (length-differences ss xs s_long ∙ s_long) (length-sums ss xs s_long ∙ s_long))

    unnamed : All (NamesNothingBelow item.at) (t ∷ xs)
    unnamed = subst (All (NamesNothingBelow item.at)) cone.parts (valid.others r.row.no_group)

    misses : All (λ v. Miss (t ∷ xs) v) vs
    misses = misses_inner item.at n (t ∷ xs) unnamed

    -- ---- values

    values : (one : Rational) (x : Address → Rational)
        → All (λ q. zero_ℚ ≤ℚ q) (evaluations one rows x)
        → DominatesSum (evaluated one t x ∷ evaluations one xs x)
    values one x below =
        let g : Function → Rational = λ f. evaluated one f x in
        let es = map g ss in
        let us = map g xs in
        let first : zero_ℚ ≤ℚ (g t -ℚ sum_ℚ es) = subst (λ q. zero_ℚ ≤ℚ q)
        (number-fold g (λ f h. evaluated-difference one f h x) t ss)
        (All-head (λ q. zero_ℚ ≤ℚ q) (g (fold difference t ss))
        (map g (differences ss xs ++ sums ss xs)) below) in
        let others : All (λ q. zero_ℚ ≤ℚ q) (minus es us ++ plus es us) = subst
        (All (λ q. zero_ℚ ≤ℚ q)) (map-append g (differences ss xs) (sums ss xs)
        ∙ ap₂ ◌++◌ (numbers-differences g (λ f h. evaluated-difference one f h x) ss xs)
        (numbers-sums g (λ f h. evaluated-sum one f h x) ss xs))
        (All-tail (λ q. zero_ℚ ≤ℚ q) (g (fold difference t ss))
        (map g (differences ss xs ++ sums ss xs)) below) in
        norm_dominated (g t) us
        (≤ℚ_trans (norm us) (sum_ℚ es) (g t)
        (norm_below es us (length-map ss g ∙ s_long ∙ sym (length-map xs g))
        (all_first (λ q. zero_ℚ ≤ℚ q) (minus es us) (plus es us) others)
        (all_second (λ q. zero_ℚ ≤ℚ q) (minus es us) (plus es us) others))
        (≤ℚ_from_nonneg (sum_ℚ es) (g t) first))

    -- ---- duals

    module _ (y : List Rational) (h : IsHeld (row_held (made item) y)) where
      abbrev a : Rational
      a = head_of y

      abbrev rest : List Rational
      rest = tail_of y

      abbrev p : List Rational
      p = take n rest

      abbrev q : List Rational
      q = drop n rest

      y_long : length y ≡ suc (n + n)
      y_long = h.size ∙ long

      y_is : y ≡ a ∷ rest
      y_is = starts y (omega (arith, y_long))

      two : Halves n rest
      two = halves n rest (length-tail y (n + n) y_long)

      y_parts : y ≡ a ∷ (p ++ q)
      y_parts = y_is ∙ ap (λ z. a ∷ z) (sym two.whole)

      abbrev w : List Rational
      w = a ∷ minus q p

      back_parts : back_of edge item (y ∷ []) ≡ w
      back_parts = back_is rule edge own item (y ∷ []) ∙ ap (λ m. a ∷ across m rest) cone.counted

      carried : row_held item.body (back_of edge item (y ∷ []))
          ≡ held_of w (t ∷ xs) (NormOneCone r.count)
      carried = ap (row_held item.body) back_parts ∙ cone.is w

      -- what is left for the bounds: p + q less the first number
      abbrev z : List Rational
      z = minus (plus p q) (replicate n a)

      plus_long : length (plus p q) ≡ n
      plus_long = length-plus p q (two.first ∙ sym two.second) ∙ two.second

      z_long : length z ≡ n
      z_long = length-minus (plus p q) (replicate n a) (plus_long ∙ sym (length-replicate n a))
          ∙ length-replicate n a

      left_product : (v : List Rational) → length v ≡ n
          → (dot p v +ℚ dot q v) -ℚ a *ℚ sum_ℚ v ≡ dot z v
      left_product v e =
          ap₂ ◌-ℚ◌ (sym (plus-dot p q v (two.first ∙ sym two.second)))
          (sym (dot-replicate v a) ∙ ap (λ m. dot v (replicate m a)) e ∙ dot_comm v (replicate n a))
          ∙ sym (minus-dot (plus p q) (replicate n a) v (plus_long ∙ sym (length-replicate n a)))

      products : (g : Function → Rational) → Subtracts g → IsAdditive g
          → dot y (map g rows) ≡ dot w (map g (t ∷ xs)) +ℚ dot z (map g ss)
      products g s d =
          let gs = map g ss in
          let gx = map g xs in
          ap (λ u. dot u (map g rows)) y_parts
          ∙ ap₂ (λ u v. a *ℚ u +ℚ v) (number-fold g s t ss)
          (ap (dot (p ++ q)) (map-append g (differences ss xs) (sums ss xs))
          ∙ dot-append p (map g (differences ss xs)) q (map g (sums ss xs))
          (two.first ∙ sym (length-map (differences ss xs) g ∙ length-differences ss xs s_long
          ∙ s_long))
          ∙ ap₂ ◌+ℚ◌ (dot-differences p ss xs s_long g s)
          (ap (dot q) (numbers-sums g d ss xs)
          ∙ dot-plus q gs gx (length-map ss g ∙ s_long ∙ sym (length-map xs g))))
          ∙ parted_sums a (g t) (sum_ℚ gs) (dot p gs) (dot p gx) (dot q gs) (dot q gx)
          ∙ ap₂ ◌+ℚ◌ (ap (λ u. a *ℚ g t +ℚ u) (sym (minus-dot q p gx (two.second ∙ sym two.first))))
          (left_product gs (length-map ss g ∙ s_long))

      -- where the bounds have no numbers
      products_bare : (g : Function → Rational) → Subtracts g → IsAdditive g
          → All (λ u. u ≡ zero_ℚ) (map g ss)
          → dot w (map g (t ∷ xs)) ≡ dot y (map g rows)
      products_bare g s d none =
          sym (products g s d ∙ ap (λ u. dot w (map g (t ∷ xs)) +ℚ u) (dot_zeros z (map g ss) none)
          ∙ +ℚ-zero (dot w (map g (t ∷ xs))))

      -- at the bounds' variables
      at_bounds : (us : List Address) → All (λ v. Miss (t ∷ xs) v) us
          → weighed y rows us ≡ weighed z ss us
      at_bounds [] m = refl
      at_bounds (v ∷ us) m =
          ap₂ ◌∷◌
          (products (λ f. coefficient f v) (λ f g. coefficient-difference f g v)
          (λ f g. coefficient-sum_of address_order f g v)
          ∙ ap (λ u. u
          +ℚ dot z (coefficients ss v)) (dot_missed w (t ∷ xs) v
          (All-head (λ v. Miss (t ∷ xs) v) v us m))
          ∙ zero-+ℚ (dot z (coefficients ss v)))
          (at_bounds us (All-tail (λ v. Miss (t ∷ xs) v) v us m))

      left_is : left_over y rows vs ≡ numbers.negated z
      left_is =
          ap numbers.negated (at_bounds vs misses
          ∙ weighed_components (child_of item.at 0) n z z_long)

      nonneg : All (λ u. zero_ℚ ≤ℚ u) (p ++ q)
      nonneg =
          All-tail (λ u. zero_ℚ ≤ℚ u) a (p ++ q) (subst (All (λ u. zero_ℚ ≤ℚ u)) y_parts h.dual)

      holds : All (λ u. u ≡ zero_ℚ) (left_over y rows vs)
          → IsHeld (held_of w (t ∷ xs) (NormOneCone r.count))
      holds there =
          cone.held a p q two.first two.second
          (each_across n a p q two.first two.second
          (all_first (λ u. zero_ℚ ≤ℚ u) p q nonneg) (all_second (λ u. zero_ℚ ≤ℚ u) p q nonneg)
          (none_left z (subst (All (λ u. u ≡ zero_ℚ)) left_is there)))

      gap_same : zero_ℚ +ℚ gap_of (row_held (made item) y)
          ≡ gap_of (held_of w (t ∷ xs) (NormOneCone r.count))
      gap_same =
          zero-+ℚ (gap_of (row_held (made item) y))
          ∙ ap (λ u. zero_ℚ
          -ℚ u) (sym (products_bare (λ f. f.constant) constant-difference
          (constant-sum_of address_order) (constants-variables vs)))

    all_made : (P : Function → Type 0) → ((f g : Function) → P f → P g → P (difference f g))
        → ((f g : Function) → P f → P g → P (sum_of f g)) → All P (t ∷ xs) → All P ss → All P rows
    all_made P less more all bounds =
        All-cons P (fold difference t ss) (differences ss xs ++ sums ss xs)
        (all_fold P less t ss (All-head P t xs all) bounds)
        (All-append P (differences ss xs) (sums ss xs)
        (all_paired difference P less ss xs bounds (All-tail P t xs all))
        (all_paired sum_of P more ss xs bounds (All-tail P t xs all)))

    group_and_row : GroupAndRow edge item (Reals n) n (made item)
    group_and_row = record {
      item_valid = valid;
      source = r.row;
      made = record { no_group = refl; no_objective = refl };
      values = λ one x h inside below. subst (λ k. Holds one k x) (sym (cone.is []))
          (values one x below);
      holds = λ y h there. subst IsHeld (sym (carried y h)) (holds y h there);
      same = λ y h v absent.
          ap (λ k. adjoint_of k v) (carried y h)
          ∙ products_bare y h (λ f. coefficient f v) (λ f g. coefficient-difference f g v)
          (λ f g. coefficient-sum_of address_order f g v)
          (All-map (λ u. u ≡ zero_ℚ) (λ f. coefficient f v) ss
          (variables_missed vs v (not_contained vs v absent)));
      gaps = λ y h there. ≤ℚ_from_≡ _ _ (gap_same y h ∙ sym (ap gap_of (carried y h)));
      some = cone.some;
      fits = record { dimension = refl; enough = cone.some; uncrossed = refl };
      grows = subst (λ m. n ≤ m * length fs) (sym (ap growth own))
          (let e : length fs ≡ suc n = ap length cone.parts in omega (arith, e));
      leads = r.group_leads n vs;
      row_shaped = refl;
      row_some = omega (arith, long);
      row_fits = record {
        dimension = let e : length rows ≡ suc (n + n) = long in omega (arith, e);
        enough = omega (arith, long);
        uncrossed = refl;
      };
      row_apart =
          all_made (NamesNothingBelow (child_of item.at 1))
          (unnamed-difference (child_of item.at 1)) (unnamed-sum (child_of item.at 1))
          (all_unnamed_below item.at 1 (t ∷ xs) unnamed)
          (components_apart item.at 1 n (omega arith));
      row_grows = subst (λ m. length rows ≤ m * length fs) (sym (ap growth own))
          (let e : length fs ≡ suc n = ap length cone.parts in omega (arith, long, e));
      row_leads = r.leads (n + n + 1) rows;
      mentioned = λ v m absent.
          all_made (λ f. coefficient f v ≡ zero_ℚ) (missed-difference v) (missed-sum v)
          (subst (λ gs. Miss gs v) cone.parts m)
          (variables_missed vs v (not_contained vs v absent));
    }

  -- how many other functions there are
  pub others_count : (item : Item) → IsItemFor edge item → (k : ℕ) → k ≡ size item
      → k - 1 ≡ length (others_of item.body)
  others_count item suits k e =
      ap (λ m. m - 1) e
      ∙ (cone item suits.valid (source_is rule edge own item suits)).counted

  -- the dual has one number, and two for each other function
  pub dual_long : (item : Item) → IsItemFor edge item
      → (ys : List (List Rational)) (y : List Rational)
      → TakesDuals (kept_by edge item) ys → ys ≡ y ∷ []
      → length y ≡ suc ((size item - 1) + (size item - 1))
  dual_long item suits ys y takes ys_are =
      let r = source_is rule edge own item suits in
      let sizes : length y ∷ [] ≡ length (made_functions item) ∷ [] = ap (map length) (sym ys_are)
      ∙ dual_sizes edge item (norm_one item) (image_is rule edge own item) ys takes in
      ap first_size sizes ∙ long item suits.valid r
      ∙ ap suc
      (ap₂ ◌+◌ (sym (cone item suits.valid r).counted) (sym (cone item suits.valid r).counted))

  -- what is carried back by the first number and the differences of the halves of the others
  pub back_made : (item : Item) (ys : List (List Rational)) (y now rest : List Rational) (half : ℕ)
      (head : Rational) (r : Result (List Rational) NumberFault)
      → ys ≡ y ∷ [] → now ≡ y → head ≡ head_of now → rest ≡ tail_of now → half ≡ size item - 1
      → ExactWhere r (AcrossFits half rest) (λ d. d ≡ head ∷ across half rest)
      → ExactWhere r (BackFits edge item ys) (λ d. d ≡ back_of edge item ys)
  back_made item ys y now rest half head r ys_are now_is head_is rest_is half_is said =
      let fits : BackFits edge item ys ≡ AcrossFits (size item - 1) (tail_of y) =
      ap (BackFits edge item) ys_are ∙ back_fits item y in
      let rest_of_y : rest ≡ tail_of y = rest_is ∙ ap tail_of now_is in
      let across_is : AcrossFits half rest ≡ AcrossFits (size item - 1) (tail_of y) =
      ap₂ AcrossFits half_is rest_of_y in
      exact_as r (AcrossFits half rest) (BackFits edge item ys) (λ d. d ≡ head ∷ across half rest)
      (λ d. d ≡ back_of edge item ys)
      (λ h. subst (λ T. T) (sym fits) (subst (λ T. T) across_is h))
      (λ h. subst (λ T. T) (sym across_is) (subst (λ T. T) fits h))
      (λ d e. e ∙ ap₂ (λ s ds. s ∷ ds) (head_is ∙ ap head_of now_is) (ap₂ across half_is rest_of_y)
      ∙ sym (ap (back_of edge item) ys_are ∙ back_is rule edge own item (y ∷ [])))
      said

  -- so is an image that is made of these parts
  pub image_made : (item : Item) → IsItemFor edge item
      → (count : ℕ) (vars : List Address) (part : Set) (group : Item) (exprs : List Expression)
      (row : Body) (image : Image)
      → count ≡ size item - 1 → vars ≡ inner item count → part ≡ Reals count → exprs ≡ []
      → group ≡ child_at item 0 (Group part vars)
      → row ≡ bounded_row (function_of_body item.body) (others_of item.body) vars count
      → image ≡ group_and_row_of item group exprs row
      → image ≡ image_of edge item
  image_made item suits count vars part group exprs row image count_is vars_are part_is exprs_are
      group_is row_is image_of_parts =
      let t = function_of_body item.body in
      let xs = others_of item.body in
      let same_count : count ≡ length xs = count_is
      ∙ (cone item suits.valid (source_is rule edge own item suits)).counted in
      group_and_row_made item part (Reals count) vars (inner item count) group exprs [] row
      (bounded_row t xs (inner item count) count) image
      part_is vars_are exprs_are (row_is ∙ ap (λ vs. bounded_row t xs vs count) vars_are) group_is
      image_of_parts
      ∙ ap (λ n. group_and_row_of item (child_at item 0 (Group (Reals n) (inner item n))) []
      (bounded_row t xs (inner item n) n)) same_count
      ∙ sym (image_is rule edge own item)

  -- and so it fits
  pub fits_made : (item : Item) → IsItemFor edge item → (count : ℕ) (vars : List Address)
      → count ≡ size item - 1 → vars ≡ inner item count
      → NormOneRowsFit (function_of_body item.body) (others_of item.body) (variables vars)
      ≡ ImageFits edge item
  fits_made item suits count vars count_is vars_are =
      ap (λ vs. NormOneRowsFit (function_of_body item.body) (others_of item.body) (variables vs))
      (vars_are ∙ ap (inner item) (count_is
      ∙ (cone item suits.valid (source_is rule edge own item suits)).counted))
      ∙ sym (image_fits item)

pub norm_one_lawful : IsLawful NormOne
norm_one_lawful =
    lawful_by rule (λ edge own item valid r.
    group_and_row_law edge item (Reals (length (others_of item.body)))
    (length (others_of item.body)) (made item) (group_and_row edge own item valid r))

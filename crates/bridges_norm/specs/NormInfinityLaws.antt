-- The law of NormInfinity: t ≥ |x_i| for each i is t - x_i ≥ 0 and t + x_i ≥ 0.
use Rattle.std.specs.Prelude.{All, List, [], drop, length, map, refl, suc, take, ℕ, ◌*◌, ◌++◌, ◌+◌, ◌-◌, ◌∷◌, ◌≡◌, ◌≤◌, Result}
use Rattle.std.proofs.lemmas.List.Elements.{All-append, All-head, All-map, All-tail, All-weaker}
use Rattle.std.proofs.Common.{ap, ap₂, arith, subst, sym, ◌∙◌}
use Rattle.std.proofs.lemmas.List.{length-append, length-map, map-append}
use Rattle.bridge_face.specs.BackOf.{AcrossFits, BackFitsBy, across, back_by, back_of}
use Rattle.aff_core.specs.Address.{Address, child_of}
use Rattle.bridge_face.specs.DifferenceLaws.{IsAdditive, Subtracts, coefficient-difference, constant-difference, evaluated-difference, evaluated-sum, less, missed-difference, missed-sum, unnamed-difference, unnamed-sum}
use Rattle.item_core.specs.declared.item.Body.TheVariants.{AffineVec}
use Rattle.item_core.specs.declared.item.Body.{Body}
use Rattle.set_core.specs.Vectors.{DominatesEach, DominatesSum}
use Rattle.item_core.specs.declared.edge.Edge.TheVariants.{E41}
use Rattle.item_core.specs.declared.edge.Edge.{Edge}
use Rattle.bridge_face.specs.Law.{LeadsToKind, Miss, growth}
use Rattle.bridge_face.specs.ImageOf.{FitsBy, image_by}
use Rattle.item_core.specs.Valid.{IsValidItem, NamesNothingBelow}
use Rattle.ratio_core.specs.Folds.{FoldFits, sum_from}
use Rattle.aff_core.specs.Function.{Function, coefficient, evaluated, negated}
use Rattle.dual_laws.specs.Held.{Holds, IsHeld, adjoint_of, gap_of}
use Rattle.bridge_face.specs.OneRowLaws.{IsRowBody, IsRowRule, OneRow, RowRule, row_held}
use Rattle.item_core.specs.declared.item.Item.{Item}
use Rattle.bridge_face.specs.FamilyLaws.{Sourced, back_is, of_another}
use Rattle.set_core.specs.declared.set.Set.TheVariants.{Nonnegatives, NormInfinityCone}
use Rattle.item_core.specs.declared.family.Family.TheVariants.{NormInfinity}
use Rattle.bridge_face.specs.Sources.{OfKind, vaffine_norm_infinity_cone}
use Rattle.ratio_core.specs.Answers.{ExactWhere}
use Rattle.aff_core.specs.Arithmetic.{PlusFits, sum_of}
use Rattle.ratio_core.specs.Rational.{Rational, zero_ℚ, ◌+ℚ◌, ◌-ℚ◌, ◌≤ℚ◌}
use Rattle.aff_core.specs.KeyOrder.{address_order}
use Rattle.bridge_face.specs.ComponentLaws.{all_unnamed_below}
use Rattle.map_laws.specs.EachLaws.{all_first, all_second}
use Rattle.bridges_norm.specs.BothLaws.{ConeRow, Halves, cone_row, dot_both, each_below, halves, less_each, more_each, norm_across, others_counted, others_of}
use Rattle.aff_core.specs.ArithmeticLaws.{coefficient-sum_of, constant-sum_of}
use Rattle.bridge_face.specs.Images.{difference, first_in, function_of_body, rest_of}
use Rattle.rational_laws.specs.Dot.{dot, minus}
use Rattle.item_core.specs.Edge.{edge_entry, family_of, source_of}
use Rattle.aff_core.specs.FunctionLists.{evaluations}
use Rattle.rational_laws.specs.Sums.{fold_ℚ, sum_ℚ, sum_ℚ-append}
use Rattle.item_core.specs.Item.{functions_of, set_of}
use Rattle.bridge_face.specs.GroupLaws.{held_of}
use Rattle.item_core.specs.KindOf.{kind_of_body}
use Rattle.set_laws.specs.Norms.{norm_dominated}
use Rattle.rational_laws.specs.Field.{zero-+ℚ}
use Rattle.rational_laws.specs.Order.{≤ℚ_from_≡}
use Rattle.ratio_core.specs.declared.fault.NumberFault.{NumberFault}
use Rattle.ratio_core.specs.AnsweredLaws.{exact_as}
use Rattle.set_core.specs.declared.set.Set.{Set}

-- a row in the cone
pub data InNormInfinity : Body → Type 0 where
  in_norm_infinity : {fs : List Function} {n : ℕ}
      → InNormInfinity (AffineVec fs (NormInfinityCone n))

-- what the edge makes of it
abbrev pub made : Body → Body
made b =
    AffineVec (less_each (function_of_body b) (others_of b)
    ++ more_each (function_of_body b) (others_of b))
    (Nonnegatives (length (others_of b) + length (others_of b)))

-- what must fit for it
abbrev pub DifferencesAndSumsFit : Function → List Function → Type 0
DifferencesAndSumsFit first others =
    All (λ x. PlusFits first (negated x)) others × All (λ x. PlusFits first x) others

-- so it is of the row's functions
pub fits_of : (b : Body) (s : Set) (fs others : List Function) (first : Function)
    → b ≡ AffineVec fs s → first ≡ first_in fs → others ≡ rest_of fs
    → DifferencesAndSumsFit first others ≡ DifferencesAndSumsFit (function_of_body b) (others_of b)
fits_of b s fs others first b_is first_is others_is =
    ap₂ DifferencesAndSumsFit (first_is ∙ ap function_of_body (sym b_is))
    (others_is ∙ ap others_of (sym b_is))

pub made_of : (b : Body) (s : Set) (fs others both : List Function) (first : Function) (n : ℕ)
    → b ≡ AffineVec fs s → first ≡ first_in fs → others ≡ rest_of fs
    → both ≡ less_each first others ++ more_each first others → n ≡ length others
    → AffineVec both (Nonnegatives (n + n)) ≡ made b
made_of b s fs others both first n b_is first_is others_is both_is n_is =
    let there : others ≡ others_of b = others_is ∙ ap others_of (sym b_is) in
    ap₂ (λ gs m. AffineVec gs (Nonnegatives (m + m)))
    (both_is ∙ ap₂ (λ f gs. less_each f gs ++ more_each f gs)
    (first_is ∙ ap function_of_body (sym b_is)) there)
    (n_is ∙ ap length there)

abbrev pub MadeFits : Body → Type 0
MadeFits b = DifferencesAndSumsFit (function_of_body b) (others_of b)

-- what is carried back of the dual, and what must fit for it
abbrev pub carried : Body → List Rational → List Rational
carried b y = sum_from zero_ℚ y ∷ across (length (functions_of b) - 1) y

abbrev pub CarriedFits : Body → List Rational → Type 0
CarriedFits b y = FoldFits zero_ℚ y × AcrossFits (length (functions_of b) - 1) y

-- what is read of it
record Read (b : Body) : Type 0 where
  row : IsRowBody b
  count : ℕ
  set : set_of b ≡ NormInfinityCone count

read : {b : Body} → InNormInfinity b → Read b
read (in_norm_infinity {n}) =
    record { row = record { no_group = refl; no_objective = refl }; count = n; set = refl }

sourced : (edge : Edge) → family_of edge ≡ NormInfinity → {b : Body} → OfKind (source_of edge) b
    → Sourced InNormInfinity made edge b
unfolding edge_entry kind_of_body
sourced E41 own vaffine_norm_infinity_cone = record { source = in_norm_infinity; leads = refl }
sourced _ own k = of_another own refl

row_rule : RowRule NormInfinity InNormInfinity made carried
unfolding image_by back_by
row_rule = record { image = λ edge item. refl; back = λ item ys. refl; sourced = sourced }

-- ---- the law

both_long : (b : Body)
    → length (functions_of (made b)) ≡ length (others_of b) + length (others_of b)
both_long b =
    length-append (less_each (function_of_body b) (others_of b))
    (more_each (function_of_body b) (others_of b))
    ∙ ap₂ ◌+◌ (length-map (others_of b) (difference (function_of_body b)))
    (length-map (others_of b) (sum_of (function_of_body b)))

module _ (edge : Edge) (own : family_of edge ≡ NormInfinity) where
  module _ (item : Item) (valid : IsValidItem item) (r : Read item.body)
      (leads : LeadsToKind edge (made item.body)) where
    abbrev fs : List Function
    fs = functions_of item.body

    abbrev t : Function
    t = function_of_body item.body

    abbrev xs : List Function
    xs = others_of item.body

    abbrev n : ℕ
    n = length xs

    abbrev both : List Function
    both = less_each t xs ++ more_each t xs

    cone : ConeRow item (NormInfinityCone r.count)
    cone = cone_row item valid (NormInfinityCone r.count) r.set (omega arith)

    long : length both ≡ n + n
    long = both_long item.body

    unnamed : All (NamesNothingBelow item.at) (t ∷ xs)
    unnamed = subst (All (NamesNothingBelow item.at)) cone.parts (valid.others r.row.no_group)

    evaluations-less : (one : Rational) (x : Address → Rational) (gs : List Function)
        → evaluations one (less_each t gs) x
        ≡ map (λ v. evaluated one t x -ℚ v) (evaluations one gs x)
    evaluations-less one x [] = refl
    evaluations-less one x (f ∷ gs) =
        ap₂ ◌∷◌ (evaluated-difference one t f x) (evaluations-less one x gs)

    evaluations-more : (one : Rational) (x : Address → Rational) (gs : List Function)
        → evaluations one (more_each t gs) x
        ≡ map (λ v. evaluated one t x +ℚ v) (evaluations one gs x)
    evaluations-more one x [] = refl
    evaluations-more one x (f ∷ gs) = ap₂ ◌∷◌ (evaluated-sum one t f x) (evaluations-more one x gs)

    values : (one : Rational) (x : Address → Rational)
        → All (λ q. zero_ℚ ≤ℚ q) (evaluations one both x)
        → DominatesEach (evaluated one t x ∷ evaluations one xs x)
    values one x below =
        let e = evaluated one t x in
        let vs = evaluations one xs x in
        let parted : All (λ q. zero_ℚ ≤ℚ q) (map (λ v. e -ℚ v) vs ++ map (λ v. e +ℚ v) vs) = subst
        (All (λ q. zero_ℚ ≤ℚ q)) (map-append (λ f. evaluated one f x) (less_each t xs)
        (more_each t xs) ∙ ap₂ ◌++◌ (evaluations-less one x xs) (evaluations-more one x xs))
        below in
        each_below e vs
        (all_first (λ q. zero_ℚ ≤ℚ q) (map (λ v. e -ℚ v) vs) (map (λ v. e +ℚ v) vs) parted)
        (all_second (λ q. zero_ℚ ≤ℚ q) (map (λ v. e -ℚ v) vs) (map (λ v. e +ℚ v) vs) parted)

    -- the dual's two halves
    module _ (y : List Rational) (h : IsHeld (row_held (made item.body) y)) where
      abbrev p : List Rational
      p = take n y

      abbrev q : List Rational
      q = drop n y

      two : Halves n y
      two = halves n y (h.size ∙ long)

      abbrev w : List Rational
      w = (sum_ℚ p +ℚ sum_ℚ q) ∷ minus q p

      back_parts : back_of edge item (y ∷ []) ≡ w
      back_parts =
          back_is row_rule edge own item (y ∷ [])
          ∙ ap₂ (λ s d. s ∷ d)
          (fold_ℚ zero_ℚ y ∙ zero-+ℚ (sum_ℚ y) ∙ ap sum_ℚ (sym two.whole) ∙ sum_ℚ-append p q)
          (ap (λ m. across m y) cone.counted)

      back_held : row_held item.body (back_of edge item (y ∷ []))
          ≡ held_of w (t ∷ xs) (NormInfinityCone r.count)
      back_held = ap (row_held item.body) back_parts ∙ cone.is w

      products : (g : Function → Rational) → Subtracts g → IsAdditive g
          → dot w (map g (t ∷ xs)) ≡ dot y (map g both)
      products g s a =
          sym (ap (λ z. dot z (map g both)) (sym two.whole)
          ∙ dot_both g s a t p q xs two.first two.second)

      nonneg : All (λ q. zero_ℚ ≤ℚ q) (p ++ q)
      nonneg = subst (All (λ q. zero_ℚ ≤ℚ q)) (sym two.whole) h.dual

      dominated : DominatesSum w
      dominated =
          norm_dominated (sum_ℚ p +ℚ sum_ℚ q) (minus q p)
          (norm_across p q (two.first ∙ sym two.second) (all_first (λ q. zero_ℚ ≤ℚ q) p q nonneg)
          (all_second (λ q. zero_ℚ ≤ℚ q) p q nonneg))

      holds : IsHeld (held_of w (t ∷ xs) (NormInfinityCone r.count))
      holds = cone.held (sum_ℚ p +ℚ sum_ℚ q) p q two.first two.second dominated

      gap_same : gap_of (row_held (made item.body) y)
          ≡ gap_of (held_of w (t ∷ xs) (NormInfinityCone r.count))
      gap_same = ap (λ z. zero_ℚ
          -ℚ z) (sym (products (λ f. f.constant) constant-difference
          (constant-sum_of address_order)))

    all_both : (P : Function → Type 0) → ((f g : Function) → P f → P g → P (difference f g))
        → ((f g : Function) → P f → P g → P (sum_of f g)) → All P (t ∷ xs) → All P both
    all_both P less more all =
        let first : P t = All-head P t xs all in
        let others : All P xs = All-tail P t xs all in
        All-append P (less_each t xs) (more_each t xs)
        (All-map P (difference t) xs (All-weaker P (λ f. P (difference t f))
        (λ f k. less t f first k) xs others))
        (All-map P (sum_of t) xs (All-weaker P (λ f. P (sum_of t f)) (λ f k. more t f first k) xs
        others))

    one_row : OneRow edge item (made item.body)
    one_row = record {
      source = r.row;
      made = record { no_group = refl; no_objective = refl };
      values = λ one x h below. subst (λ k. Holds one k x) (sym (cone.is [])) (values one x below);
      holds = λ y h. subst IsHeld (sym (back_held y h)) (holds y h);
      same = λ y h v.
          ap (λ k. adjoint_of k v) (back_held y h)
          ∙ products y h (λ f. coefficient f v) (λ f g. coefficient-difference f g v)
          (λ f g. coefficient-sum_of address_order f g v);
      gaps = λ y h. ≤ℚ_from_≡ _ _ (gap_same y h ∙ sym (ap gap_of (back_held y h)));
      valid = λ room few. record {
        function = refl;
        some = omega (arith, long, cone.some);
        at_most = few;
        set = record {
          dimension = sym long;
          enough = omega (arith, long, cone.some);
          uncrossed = refl;
        };
        depth = subst (λ m. m ≤ 38) (sym (length-append item.at.positions (0 ∷ [])))
            (omega (arith, room));
        others = λ _.
            all_both (NamesNothingBelow (child_of item.at 0))
            (unnamed-difference (child_of item.at 0)) (unnamed-sum (child_of item.at 0))
            (all_unnamed_below item.at 0 (t ∷ xs) unnamed);
      };
      sizes = subst (λ m. length both ≤ m * length fs) (sym (ap growth own))
          (let e : length fs ≡ suc n = ap length cone.parts in omega (arith, long, e));
      leads = leads;
      mentioned = λ v m.
          all_both (λ f. coefficient f v ≡ zero_ℚ) (missed-difference v) (missed-sum v)
          (subst (λ gs. Miss gs v) cone.parts m);
    }

-- the dual has two numbers for each other function
pub dual_long : (b : Body) (y : List Rational) → 1 ≤ length (functions_of b)
    → length y ≡ length (functions_of (made b))
    → length y ≡ (length (functions_of b) - 1) + (length (functions_of b) - 1)
dual_long b y some size =
    let counted = others_counted (functions_of b) some in
    size ∙ both_long b ∙ ap₂ ◌+◌ (sym counted) (sym counted)

-- what is carried back by the sum of the dual and the differences of its halves
pub back_made : (b : Body) (y now : List Rational) (half : ℕ) (sum : Rational)
    (r : Result (List Rational) NumberFault)
    → now ≡ y → half ≡ length (functions_of b) - 1 → FoldFits zero_ℚ now
    → sum ≡ sum_from zero_ℚ now
    → ExactWhere r (AcrossFits half now) (λ d. d ≡ sum ∷ across half now)
    → ExactWhere r (CarriedFits b y) (λ d. d ≡ carried b y)
back_made b y now half sum r now_is half_is fold_fits sum_is said =
    let across_is : AcrossFits half now ≡ AcrossFits (length (functions_of b) - 1) y =
    ap₂ AcrossFits half_is now_is in
    exact_as r (AcrossFits half now) (CarriedFits b y) (λ d. d ≡ sum ∷ across half now)
    (λ d. d ≡ carried b y)
    (λ h. (subst (FoldFits zero_ℚ) now_is fold_fits, subst (λ T. T) across_is h))
    (λ h. subst (λ T. T) (sym across_is) h.1)
    (λ d e. e ∙ ap₂ (λ s ds. s ∷ ds) (sum_is ∙ ap (sum_from zero_ℚ) now_is)
    (ap₂ across half_is now_is))
    said

pub rule : IsRowRule NormInfinity InNormInfinity made MadeFits carried CarriedFits
unfolding FitsBy BackFitsBy
rule = record {
  rule = row_rule;
  fits = λ item. ((λ h. h), (λ h. h));
  back_fits = λ item y. ((λ h. h), (λ h. h));
  one_row = λ edge own item valid source.
      one_row edge own item valid (read source.source) source.leads;
}

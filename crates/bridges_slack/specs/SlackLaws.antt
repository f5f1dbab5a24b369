-- The law of a slack: f in S is s in S and f - s = 0, and the dual is the row's.
use Rattle.std.specs.Prelude.{All, List, None, [], length, map, refl, ℕ, ◌*◌, ◌∷◌, ◌≡◌, ◌≤◌}
use Rattle.std.proofs.lemmas.List.Elements.{All-head, All-tail}
use Rattle.std.proofs.Common.{ap, ap₂, arith, subst, sym, ◌∙◌}
use Rattle.std.proofs.lemmas.List.{length-map}
use Rattle.rational_laws.specs.Field.{+ℚ-zero, neg_ℚ-zero, same_from_difference, zero-+ℚ}
use Rattle.aff_core.specs.Address.{Address, child_of}
use Rattle.item_core.specs.declared.item.Body.{Body}
use Rattle.set_core.specs.Membership.{Dual, In, low_of}
use Rattle.item_core.specs.declared.edge.Edge.{Edge}
use Rattle.bridge_face.specs.Law.{EdgeLaw, LeadsToKind, Miss, growth}
use Rattle.item_core.specs.Valid.{FitsItsFunction, IsValidItem, NamesNothingBelow}
use Rattle.aff_core.specs.Function.{Function, coefficient, evaluated, variable}
use Rattle.item_core.specs.declared.item.Body.TheVariants.{Group}
use Rattle.bridge_face.specs.GroupAndRowLaws.{GroupAndRow, group_and_row_law, left_over}
use Rattle.dual_laws.specs.Held.{Holds, IsHeld, adjoint_of, gap_of}
use Rattle.bridge_face.specs.OneRowLaws.{IsRowBody, row_held}
use Rattle.set_core.specs.Shapes.{IsSetOf}
use Rattle.item_core.specs.declared.item.Item.{Item}
use Rattle.ratio_core.specs.Rational.{Rational, neg_ℚ, zero_ℚ, ◌+ℚ◌, ◌-ℚ◌}
use Rattle.set_core.specs.declared.set.Set.{Set}
use Rattle.bridge_face.specs.DifferenceLaws.{all_paired, constant-difference, dot-differences, dot-differences_missed, evaluated-difference, length-differences, missed-difference, numbers-differences, unnamed-difference, weighed-differences}
use Rattle.bridge_face.specs.ComponentLaws.{all_unnamed_below, components_apart, constants-variables, length-components, misses_inner, not_contained, variables, variables_missed, weighed, weighed_components}
use Rattle.bridge_face.specs.BackOf.{back_of, size}
use Rattle.bridge_face.specs.Images.{child_at, difference}
use Rattle.aff_core.specs.FunctionLists.{constants, evaluations}
use Rattle.bridge_face.specs.ImageOf.{differences, group_at, inner}
use Rattle.rational_laws.specs.Dot.{dot, minus}
use Rattle.rational_laws.specs.DotLaws.{dot_zeros}
use Rattle.linear_laws.specs.ListLaws.{evaluations_variables}
use Rattle.item_core.specs.Edge.{family_of}
use Rattle.item_core.specs.Item.{functions_of, set_of}
use Rattle.bridge_face.specs.GroupLaws.{held_of}
use Rattle.set_core.specs.Mirrored.{multiplied}
use Rattle.set_laws.specs.Mirrors.{negated-negated}
use Rattle.rational_laws.specs.Order.{≤ℚ_from_≡}
use Rattle.rational_laws.specs.Dot as numbers

-- a row that stands for f - s = 0
pub record IsSlack (edge : Edge) (item : Item) (child : Body) : Type 0 where
  pub item_valid : IsValidItem item
  pub source : IsRowBody item.body
  pub made : IsRowBody child
  pub functions :
      functions_of child
      ≡ differences (functions_of item.body) (variables (inner item (size item)))
  pub equal :
      (one : Rational) (v : List Rational) → length v ≡ size item
      → In (multiplied one (set_of child)) v → All (λ q. q ≡ zero_ℚ) v
  pub low : (y : List Rational) → low_of (set_of child) y ≡ zero_ℚ
  pub shaped : FitsItsFunction child
  pub fits : IsSetOf (size item) (set_of child)
  pub back : (y : List Rational) → back_of edge item (y ∷ []) ≡ y
  pub no_growth : growth (family_of edge) ≡ 1
  pub group_leads : LeadsToKind edge (Group (set_of item.body) (inner item (size item)))
  pub row_leads : LeadsToKind edge child

-- lists whose differences are all 0
same_from_differences : (u v : List Rational) → length u ≡ length v
    → All (λ q. q ≡ zero_ℚ) (minus u v) → u ≡ v
same_from_differences [] [] e h = refl
same_from_differences [] (q ∷ v) e h = absurd (omega (arith, e))
same_from_differences (p ∷ u) [] e h = absurd (omega (arith, e))
same_from_differences (p ∷ u) (q ∷ v) e h =
    ap₂ ◌∷◌ (same_from_difference p q (All-head (λ q. q ≡ zero_ℚ) (p -ℚ q) (minus u v) h))
    (same_from_differences u v (omega (arith, e))
    (All-tail (λ q. q ≡ zero_ℚ) (p -ℚ q) (minus u v) h))

module _ (edge : Edge) (item : Item) (child : Body) (s : IsSlack edge item child) where
  abbrev fs : List Function
  fs = functions_of item.body

  abbrev n : ℕ
  n = size item

  abbrev ss : List Address
  ss = inner item n

  abbrev rest : List Function
  rest = differences fs (variables ss)

  abbrev set : Set
  set = set_of item.body

  long : length (variables ss) ≡ n
  long = length-map ss variable ∙ length-components (child_of item.at 0) n

  same_length : length fs ≡ length (variables ss)
  same_length = sym long

  row_length : length (functions_of child) ≡ n
  row_length = ap length s.functions ∙ length-differences fs (variables ss) same_length

  child_is : (y : List Rational) → row_held child y ≡ held_of y rest (set_of child)
  child_is y = ap (λ gs. held_of y gs (set_of child)) s.functions

  misses : All (λ v. Miss fs v) ss
  misses = misses_inner item.at n fs (s.item_valid.others s.source.no_group)

  -- the components' values are the functions'
  values : (one : Rational) (x : Address → Rational) → In (multiplied one set) (map x ss)
      → Holds one (row_held child []) x → Holds one (row_held item.body []) x
  values one x inside below =
      let row : In (multiplied one (set_of child)) (evaluations one rest x) =
      subst (λ k. Holds one k x) (child_is []) below in
      let zeros : All (λ q. q ≡ zero_ℚ) (evaluations one rest x) = s.equal one
      (evaluations one rest x) (length-map rest (λ f. evaluated one f x)
      ∙ length-differences fs (variables ss) same_length) row in
      let apart : All (λ q. q ≡ zero_ℚ)
      (minus (evaluations one fs x) (evaluations one (variables ss) x)) =
      subst (All (λ q. q ≡ zero_ℚ))
      (numbers-differences (λ f. evaluated one f x) (λ f g. evaluated-difference one f g x) fs
      (variables ss)) zeros in
      let alike : evaluations one fs x ≡ evaluations one (variables ss) x = same_from_differences
      (evaluations one fs x) (evaluations one (variables ss) x)
      (length-map fs (λ f. evaluated one f x) ∙ same_length
      ∙ sym (length-map (variables ss) (λ f. evaluated one f x))) apart in
      subst (In (multiplied one set)) (sym (alike ∙ evaluations_variables one ss x)) inside

  -- the components get the row's numbers
  left_is : (y : List Rational) → length y ≡ n → left_over y (functions_of child) ss ≡ y
  left_is y e =
      ap (λ gs. left_over y gs ss) s.functions
      ∙ ap numbers.negated (weighed-differences y fs (variables ss) same_length ss misses)
      ∙ negated-negated (weighed y (variables ss) ss)
      ∙ weighed_components (child_of item.at 0) n y e

  gap_is : (y : List Rational)
      → low_of set y +ℚ gap_of (row_held child y) ≡ gap_of (row_held item.body y)
  gap_is y =
      ap (λ q. low_of set y +ℚ q)
      (ap gap_of (child_is y)
      ∙ ap₂ ◌-ℚ◌ (s.low y) (dot-differences y fs (variables ss) same_length (λ f. f.constant)
      constant-difference
      ∙ ap (λ q. dot y (constants fs)
      -ℚ q) (dot_zeros y (constants (variables ss)) (constants-variables ss))
      ∙ ap (λ q. dot y (constants fs) +ℚ q) neg_ℚ-zero ∙ +ℚ-zero (dot y (constants fs)))
      ∙ zero-+ℚ (neg_ℚ (dot y (constants fs))))

  group_and_row : GroupAndRow edge item set n child
  group_and_row = record {
    item_valid = s.item_valid;
    source = s.source;
    made = s.made;
    values = λ one x h inside below. values one x inside below;
    holds = λ y h there.
        subst (λ w. IsHeld (row_held item.body w)) (sym (s.back y)) (record {
          set = s.item_valid.set;
          size = h.size ∙ row_length;
          dual = subst (Dual set) (left_is y (h.size ∙ row_length)) there;
        });
    same = λ y h v absent.
        ap (λ w. adjoint_of (row_held item.body w) v) (s.back y)
        ∙ sym (ap (λ k. adjoint_of k v) (child_is y)
        ∙ dot-differences_missed y fs (variables ss) same_length v
        (variables_missed ss v (not_contained ss v absent)));
    gaps = λ y h there.
        ≤ℚ_from_≡ _ _
        (ap (λ z. low_of set z +ℚ gap_of (row_held child y)) (left_is y (h.size ∙ row_length))
        ∙ gap_is y
        ∙ sym (ap (λ w. gap_of (row_held item.body w)) (s.back y)));
    some = s.item_valid.some;
    fits = s.item_valid.set;
    grows = subst (λ m. n ≤ m * n) (sym s.no_growth) (omega arith);
    leads = s.group_leads;
    row_shaped = s.shaped;
    row_some = subst (λ m. 1 ≤ m) (sym row_length) s.item_valid.some;
    row_fits = subst (λ m. IsSetOf m (set_of child)) (sym row_length) s.fits;
    row_apart =
        subst (All (NamesNothingBelow (child_of item.at 1))) (sym s.functions)
        (all_paired difference (NamesNothingBelow (child_of item.at 1))
        (unnamed-difference (child_of item.at 1)) fs (variables ss)
        (all_unnamed_below item.at 1 fs (s.item_valid.others s.source.no_group))
        (components_apart item.at 1 n (omega arith)));
    row_grows = subst (λ m. length (functions_of child) ≤ m * n) (sym s.no_growth)
        (omega (arith, row_length));
    row_leads = s.row_leads;
    mentioned = λ v m absent.
        subst (λ gs. Miss gs v) (sym s.functions)
        (all_paired difference (λ f. coefficient f v ≡ zero_ℚ) (missed-difference v) fs
        (variables ss) m
        (variables_missed ss v (not_contained ss v absent)));
  }

  pub slack_law : EdgeLaw edge item (record {
    groups = group_at item set n ∷ [];
    exprs = [];
    rows = child_at item 1 child ∷ [];
    objective = None;
  })
  slack_law = group_and_row_law edge item set n child group_and_row

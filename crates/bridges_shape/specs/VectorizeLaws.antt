-- The law of Vectorize: f ≤ u is f - u ≤ 0 with one component, and so for ≥ and =.
use Rattle.std.specs.Prelude.{◌≡◌, ◌≤◌, ◌*◌, List, [], ◌∷◌, All, length, refl}
use Rattle.std.proofs.Common.{arith, sym, ap, subst, ◌∙◌}
use Rattle.std.proofs.lemmas.List.{length-append}
use Rattle.std.proofs.lemmas.List.Elements.{All-cons, All-head, All-nil}
use Rattle.ratio_core.specs.Rational.{Rational, SumFits, neg_ℚ, zero_ℚ, ◌*ℚ◌, ◌+ℚ◌, ◌-ℚ◌}
use Rattle.rational_laws.specs.Dot.{dot}
use Rattle.rational_laws.specs.Order.{≤ℚ_from_≡}
use Rattle.rational_laws.specs.Ring.{as_expression, by_ring, ring₁, ring₄, zero_as}
use Rattle.aff_core.specs.Address.{Address, child_of}
use Rattle.aff_core.specs.Function.{Function, coefficient, evaluated}
use Rattle.dual_laws.specs.Held.{DualRow, Holds, IsHeld, adjoint_of, gap_of}
use Rattle.set_core.specs.Membership.{In}
use Rattle.set_core.specs.Mirrored.{multiplied}
use Rattle.set_core.specs.declared.set.Set.{Set}
use Rattle.item_core.specs.declared.edge.Edge.{Edge}
use Rattle.item_core.specs.declared.edge.Edge.TheVariants.{E5, E6, E7, E8, E9, E10}
use Rattle.item_core.specs.declared.family.Family.TheVariants.{Vectorize}
use Rattle.item_core.specs.declared.item.Body.{Body}
use Rattle.item_core.specs.declared.item.Body.TheVariants.{Plain, Affine, AffineVec}
use Rattle.item_core.specs.declared.item.Item.{Item}
use Rattle.item_core.specs.Edge.{edge_entry, family_of, source_of}
use Rattle.item_core.specs.Item.{functions_of, set_of}
use Rattle.item_core.specs.KindOf.{kind_of_body}
use Rattle.item_core.specs.Valid.{IsValidItem, NamesNothingBelow}
use Rattle.bridge_face.specs.BackOf.{BackFitsBy, back_by, back_of}
use Rattle.bridge_face.specs.ComponentLaws.{all_unnamed_below}
use Rattle.bridge_face.specs.FamilyLaws.{Sourced, back_is, of_another}
use Rattle.bridge_face.specs.ImageOf.{FitsBy, image_by}
use Rattle.bridge_face.specs.Images.{cone_of, function_of_body, number_in, raised}
use Rattle.bridge_face.specs.Law.{LeadsToKind, Miss, growth}
use Rattle.bridge_face.specs.OneRowLaws.{IsRowBody, IsRowRule, OneRow, RowRule, row_held, same_dual}
use Rattle.bridge_face.specs.Sources.{OfKind, affine_equal_to, affine_greater_than, affine_less_than, plain_equal_to, plain_greater_than, plain_less_than}
use Rattle.bridges_shape.specs.RaisedLaws.{HasDifferenceCone, at_least, at_most, cone_of_one, cone_of_vectors, equal, evaluated-lowered, in_dual, in_set, low_cone, low_first, low_none, set_of_one}

-- a plain or an affine row in a set with one number
pub data IsNumberRow : Body → Type 0 where
  plain : {var : Address} {set : Set} → HasDifferenceCone set (number_in set) (cone_of set)
      → IsNumberRow (Plain var set)
  affine : {func : Function} {set : Set} → HasDifferenceCone set (number_in set) (cone_of set)
      → IsNumberRow (Affine func set)

-- the function less the number
abbrev pub lowered : Body → Function
lowered b = raised (function_of_body b) (neg_ℚ (number_in (set_of b)))

-- what the edges make of it
abbrev pub made : Body → Body
made b = AffineVec (lowered b ∷ []) (cone_of (set_of b))

-- the difference of its constant and the number fits
abbrev pub FitsLowered : Body → Type 0
FitsLowered b = SumFits (function_of_body b).constant (neg_ℚ (number_in (set_of b)))

-- what is read of it
record Read (b : Body) : Type 0 where
  source : IsRowBody b
  functions : functions_of b ≡ function_of_body b ∷ []
  has : HasDifferenceCone (set_of b) (number_in (set_of b)) (cone_of (set_of b))

read : {b : Body} → IsNumberRow b → Read b
read (plain has) =
    record { source = record { no_group = refl; no_objective = refl }; functions = refl; has = has }
read (affine has) =
    record { source = record { no_group = refl; no_objective = refl }; functions = refl; has = has }

sourced : (edge : Edge) → family_of edge ≡ Vectorize → {b : Body} → OfKind (source_of edge) b
    → Sourced IsNumberRow made edge b
unfolding edge_entry kind_of_body
sourced E5 own affine_less_than = record { source = affine at_most; leads = refl }
sourced E6 own affine_greater_than = record { source = affine at_least; leads = refl }
sourced E7 own affine_equal_to = record { source = affine equal; leads = refl }
sourced E8 own plain_less_than = record { source = plain at_most; leads = refl }
sourced E9 own plain_greater_than = record { source = plain at_least; leads = refl }
sourced E10 own plain_equal_to = record { source = plain equal; leads = refl }
sourced _ own k = of_another own refl

row_rule : RowRule Vectorize IsNumberRow made same_dual
unfolding image_by back_by
row_rule = record { image = λ edge item. refl; back = λ item ys. refl; sourced = sourced }

-- ---- on numbers

gap_number : (a c q d : Rational) → zero_ℚ -ℚ (q *ℚ (c +ℚ neg_ℚ a) +ℚ d) ≡ a *ℚ q -ℚ (q *ℚ c +ℚ d)
gap_number = ring₄ _ (λ ρ. simp (as_expression, zero_as ρ) (by_ring ρ _ _ refl))

gap_none : (a : Rational) → zero_ℚ -ℚ zero_ℚ ≡ a *ℚ zero_ℚ -ℚ zero_ℚ
gap_none = ring₁ _ (λ ρ. simp (as_expression, zero_as ρ) (by_ring ρ _ _ refl))

abbrev one_held : List Rational → Function → Set → DualRow
one_held w f set = record { duals = w; functions = f ∷ []; set = set }

module _ (f : Function) {S C : Set} {a : Rational} (has : HasDifferenceCone S a C) where
  same_gap : (y : List Rational)
      → gap_of (one_held y (raised f (neg_ℚ a)) C) ≡ gap_of (one_held y f S)
  same_gap [] =
      ap (λ q. q -ℚ zero_ℚ) (low_cone has []) ∙ gap_none a
      ∙ ap (λ q. q -ℚ zero_ℚ) (sym (low_none has))
  same_gap (q ∷ y) =
      ap (λ r. r -ℚ (q *ℚ (f.constant +ℚ neg_ℚ a) +ℚ dot y [])) (low_cone has (q ∷ y))
      ∙ gap_number a f.constant q (dot y [])
      ∙ ap (λ r. r -ℚ (q *ℚ f.constant +ℚ dot y [])) (sym (low_first has q y))

  held_up : (y : List Rational) → IsHeld (one_held y (raised f (neg_ℚ a)) C)
      → IsHeld (one_held y f S)
  held_up [] h = absurd (omega (arith, h.size))
  held_up (q ∷ []) h = record { set = set_of_one has; size = refl; dual = in_dual has q h.dual }
  held_up (q ∷ (r ∷ y)) h = absurd (omega (arith, h.size))

  holds_up : (one : Rational) (x : Address → Rational)
      → Holds one (one_held [] (raised f (neg_ℚ a)) C) x
      → Holds one (one_held [] f S) x
  holds_up one x h = in_set has one (evaluated one f x)
      (subst (λ q. In (multiplied one C) (q ∷ [])) (evaluated-lowered one f a x) h)

-- ---- the law

module _ (edge : Edge) (own : family_of edge ≡ Vectorize) where
  module _ (item : Item) (valid : IsValidItem item) (r : Read item.body)
      (leads : LeadsToKind edge (made item.body)) where
    f : Function
    f = function_of_body item.body

    -- the item with duals, its function alone
    item_is : (y : List Rational)
        → row_held item.body y ≡ one_held y (function_of_body item.body) (set_of item.body)
    item_is y = ap (λ fs. record { duals = y; functions = fs; set = set_of item.body }) r.functions

    back_held : (y : List Rational)
        → row_held item.body (back_of edge item (y ∷ []))
        ≡ one_held y (function_of_body item.body) (set_of item.body)
    back_held y = ap (row_held item.body) (back_is row_rule edge own item (y ∷ [])) ∙ item_is y

    is_one_row : OneRow edge item (made item.body)
    is_one_row = record {
      source = r.source;
      made = record { no_group = refl; no_objective = refl };
      values = λ one x h below. subst (λ k. Holds one k x) (sym (item_is []))
          (holds_up (function_of_body item.body) r.has one x below);
      holds =
          λ y h. subst IsHeld (sym (back_held y)) (held_up (function_of_body item.body) r.has y h);
      same = λ y h v. ap (λ k. adjoint_of k v) (back_held y);
      gaps = λ y h. ≤ℚ_from_≡ _ _ (same_gap (function_of_body item.body) r.has y
          ∙ sym (ap gap_of (back_held y)));
      valid = λ room few. record {
        function = cone_of_vectors r.has;
        some = omega arith;
        at_most = few;
        set = cone_of_one r.has;
        depth = subst (λ n. n ≤ 38) (sym (length-append item.at.positions (0 ∷ [])))
            (omega (arith, room));
        others = λ _.
            let unnamed = subst (All (NamesNothingBelow (child_of item.at 0))) r.functions
            (all_unnamed_below item.at 0 (functions_of item.body)
            (valid.others r.source.no_group)) in
            All-cons (NamesNothingBelow (child_of item.at 0)) (lowered item.body) []
            (All-head (NamesNothingBelow (child_of item.at 0)) (function_of_body item.body) []
            unnamed) (All-nil (NamesNothingBelow (child_of item.at 0)));
      };
      sizes = subst (λ n. 1 ≤ n * length (functions_of item.body)) (sym (ap growth own))
          (omega (arith, ap length r.functions));
      leads = leads;
      mentioned = λ v m.
          All-cons (λ g. coefficient g v ≡ zero_ℚ) (lowered item.body) []
          (All-head (λ g. coefficient g v ≡ zero_ℚ) (function_of_body item.body) []
          (subst (λ fs. Miss fs v) r.functions m))
          (All-nil (λ g. coefficient g v ≡ zero_ℚ));
    }

pub rule : IsRowRule Vectorize IsNumberRow made FitsLowered same_dual (λ row dual. Unit {0})
unfolding FitsBy BackFitsBy
rule = record {
  rule = row_rule;
  fits = λ item. ((λ h. h), (λ h. h));
  back_fits = λ item y. ((λ h. tt), (λ h. tt));
  one_row = λ edge own item valid source.
      is_one_row edge own item valid (read source.source) source.leads;
}

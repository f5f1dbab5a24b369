-- The law of FreeVar: x is s - s' with both at least 0.
use Rattle.std.specs.Prelude.{All, List, [], drop, length, map, refl, suc, take, zero, ℕ, ◌*◌, ◌++◌, ◌+◌, ◌∷◌, ◌≡◌, ◌≢◌, ◌≤◌}
use Rattle.std.proofs.lemmas.List.Elements.{All-cons, All-drop, All-head, All-map, All-nil, All-tail, All-take, All-weaker}
use Rattle.std.proofs.Math.Seq.{take-append_seam, drop-append_seam}
use Rattle.std.proofs.Common.{ap, ap₂, arith, subst, sym, true≢false, ◌∙◌}
use Rattle.std.proofs.lemmas.List.{length-map, map-append}
use Rattle.std.proofs.lemmas.List.FromFn.{length-map-range_with_len}
use Rattle.std.specs.List.{range_with_len}
use Rattle.map_laws.specs.EachLaws.{map_same_on}
use Rattle.rational_laws.specs.Field.{+ℚ-zero, neg_ℚ-zero, zero-+ℚ, -ℚ-itself}
use Rattle.aff_core.specs.Address.{Address, address_cmp, child_of}
use Rattle.item_core.specs.declared.item.Body.{Body}
use Rattle.item_core.specs.declared.image.Expression.TheVariants.{Bridged}
use Rattle.set_core.specs.Membership.{Dual, In, low_of}
use Rattle.item_core.specs.declared.edge.Edge.TheVariants.{E43}
use Rattle.item_core.specs.declared.edge.Edge.{Edge}
use Rattle.bridge_face.specs.Law.{EdgeLaw, Miss, growth}
use Rattle.item_core.specs.declared.image.Expression.{Expression}
use Rattle.bridge_face.specs.ImageOf.{bridged, differences, free_var, group_at, image_by, inner}
use Rattle.item_core.specs.Valid.{IsValidItem}
use Rattle.item_core.specs.declared.family.Family.TheVariants.{FreeVar}
use Rattle.aff_core.specs.Function.{Function, coefficient, variable}
use Rattle.item_core.specs.declared.item.Body.TheVariants.{Group}
use Rattle.item_core.specs.declared.item.Item.{Item}
use Rattle.bridge_face.specs.FamilyLaws.{of_another}
use Rattle.set_core.specs.declared.set.Set.TheVariants.{Nonnegatives, Reals}
use Rattle.bridge_face.specs.Sources.{OfKind, group_reals}
use Rattle.bridge_face.specs.GroupLaws.{GroupSourced, IsGroupRule, OneGroup, one_group_law}
use Rattle.ratio_core.specs.Rational.{Rational, neg_ℚ, zero_ℚ, ◌+ℚ◌, ◌-ℚ◌, ◌≤ℚ◌}
use Rattle.bridge_face.specs.ComponentLaws.{all_components, all_components_within, components-append, components_from, dot_missed, not_contained, other_child, variables, variables_missed, weighed, weighed_from}
use Rattle.bridge_face.specs.DifferenceLaws.{all_paired, coefficient-difference, constant-difference, dot-differences, length-differences, missed-difference}
use Rattle.bridge_face.specs.Images.{child_at, components, difference, group_by}
use Rattle.aff_core.specs.FunctionLists.{coefficients, constants, evaluations}
use Rattle.aff_core.specs.FunctionLaws.{constant-variable}
use Rattle.rational_laws.specs.Dot.{dot}
use Rattle.rational_laws.specs.DotLaws.{dot_zeros}
use Rattle.item_core.specs.Edge.{edge_entry, family_of, source_of}
use Rattle.item_core.specs.KindOf.{kind_of_body}
use Rattle.set_core.specs.Mirrored.{multiplied}
use Rattle.bridge_face.specs.BackOf.{back_by, size}
use Rattle.rational_laws.specs.Order.{≤ℚ_antisymm, ≤ℚ_from_nonneg}
use Rattle.rational_laws.specs.Dot as numbers

-- a group of variables without bounds; the edge makes a group of its kind from it
abbrev pub FreeVarSourced : Edge → Body → Type 0
FreeVarSourced = GroupSourced Reals

sourced : (edge : Edge) → family_of edge ≡ FreeVar → {b : Body} → OfKind (source_of edge) b
    → FreeVarSourced edge b
unfolding edge_entry kind_of_body
sourced E43 own (group_reals {vars} {n}) =
    record { count = n; set = refl; group = refl; leads = λ n vars. refl }
sourced _ own k = of_another own refl

-- ---- two halves

-- the variables from the k-th on, and as many after them
abbrev pub plus_half : Address → ℕ → List Function
plus_half at d = variables (components_from at 0 d)

abbrev pub minus_half : Address → ℕ → List Function
minus_half at d = variables (components_from at d d)

-- the i-th component is s_i - s_(d+i)
abbrev pub halved : Address → ℕ → ℕ → Expression
halved at d i = Bridged (difference (variable (child_of at i)) (variable (child_of at (d + i))))

halved_from : (at : Address) (d k n : ℕ)
    → bridged (differences (variables (components_from at k n))
    (variables (components_from at (d + k) n)))
    ≡ map (halved at d) (range_with_len k n)
halved_from at d k zero = refl
halved_from at d k (suc n) =
    let next : (d + k) + 1 ≡ d + (k + 1) = omega arith in
    ap (λ es. halved at d k ∷ es)
    (ap (λ j. bridged (differences (variables (components_from at (k + 1) n))
    (variables (components_from at j n)))) next
    ∙ halved_from at d (k + 1) n)

halves_append : (at : Address) (d : ℕ)
    → variables (components at (d + d)) ≡ plus_half at d ++ minus_half at d
halves_append at d =
    let start : 0 + d ≡ d = omega arith in
    ap variables (components-append at 0 d d
    ∙ ap (λ j. components_from at 0 d ++ components_from at j d) start)
    ∙ map-append variable (components_from at 0 d) (components_from at d d)

length_plus : (at : Address) (d : ℕ) → length (plus_half at d) ≡ d
length_plus at d = length-map (components_from at 0 d) variable
    ∙ length-map-range_with_len (child_of at) 0 d

length_minus : (at : Address) (d : ℕ) → length (minus_half at d) ≡ d
length_minus at d = length-map (components_from at d d) variable
    ∙ length-map-range_with_len (child_of at) d d

first_half : (at : Address) (d : ℕ) → take d (variables (components at (d + d))) ≡ plus_half at d
first_half at d =
    ap (take d) (halves_append at d)
    ∙ ap (λ n. take n (plus_half at d ++ minus_half at d)) (sym (length_plus at d))
    ∙ take-append_seam (plus_half at d) (minus_half at d)

second_half : (at : Address) (d : ℕ) → drop d (variables (components at (d + d))) ≡ minus_half at d
second_half at d =
    ap (drop d) (halves_append at d)
    ∙ ap (λ n. drop n (plus_half at d ++ minus_half at d)) (sym (length_plus at d))
    ∙ drop-append_seam (plus_half at d) (minus_half at d)

-- the components
abbrev pub split : Address → ℕ → List Function
split at d = differences (plus_half at d) (minus_half at d)

split_is : (at : Address) (d : ℕ)
    → differences (take d (variables (components at (d + d))))
    (drop d (variables (components at (d + d)))) ≡ split at d
split_is at d = ap₂ differences (first_half at d) (second_half at d)

pub halved_are : (at : Address) (d : ℕ)
    → bridged (differences (take d (variables (components at (d + d))))
    (drop d (variables (components at (d + d)))))
    ≡ map (halved at d) (range_with_len 0 d)
halved_are at d =
    let start : d ≡ d + 0 = omega arith in
    ap bridged (split_is at d)
    ∙ ap (λ j. bridged (differences (plus_half at d) (variables (components_from at j d)))) start
    ∙ halved_from at d 0 d

-- the second half's variables aren't in the first, nor the other way round
plus_misses : (at : Address) (d : ℕ) → All (λ v. Miss (plus_half at d) v) (components_from at d d)
plus_misses at d =
    all_components_within (λ v. Miss (plus_half at d) v) at d d
    (λ i low high. variables_missed (components_from at 0 d) (child_of at i)
    (all_components_within (λ u. child_of at i ≢ u) at 0 d
    (λ j _ below. other_child at i j (λ e. absurd (omega (arith, e, low, below))))))

minus_misses : (at : Address) (d : ℕ) → All (λ v. Miss (minus_half at d) v) (components_from at 0 d)
minus_misses at d =
    all_components_within (λ v. Miss (minus_half at d) v) at 0 d
    (λ i _ high. variables_missed (components_from at d d) (child_of at i)
    (all_components_within (λ u. child_of at i ≢ u) at d d
    (λ j above _. other_child at i j (λ e. absurd (omega (arith, e, high, above))))))

module _ (at : Address) (d : ℕ) (w : List Rational) (long : length w ≡ d) where
  dot-split : (v : Address)
      → dot w (coefficients (split at d) v)
      ≡ dot w (coefficients (plus_half at d) v) -ℚ dot w (coefficients (minus_half at d) v)
  dot-split v =
      dot-differences w (plus_half at d) (minus_half at d)
      (length_plus at d ∙ sym (length_minus at d)) (λ f. coefficient f v)
      (λ f g. coefficient-difference f g v)

  on_plus : weighed w (split at d) (components_from at 0 d) ≡ w
  on_plus =
      map_same_on (λ v. dot w (coefficients (split at d) v))
      (λ v. dot w (coefficients (plus_half at d) v)) (components_from at 0 d)
      (All-weaker (λ v. Miss (minus_half at d) v) (λ v. dot w (coefficients (split at d) v)
      ≡ dot w (coefficients (plus_half at d) v))
      (λ v m. dot-split v
      ∙ ap (λ q. dot w (coefficients (plus_half at d) v) -ℚ q)
      (dot_missed w (minus_half at d) v m)
      ∙ ap (λ q. dot w (coefficients (plus_half at d) v) +ℚ q) neg_ℚ-zero
      ∙ +ℚ-zero (dot w (coefficients (plus_half at d) v)))
      (components_from at 0 d) (minus_misses at d))
      ∙ weighed_from at 0 d w long

  negated_each : (vs : List Address) → All (λ v. Miss (plus_half at d) v) vs
      → weighed w (split at d) vs ≡ numbers.negated (weighed w (minus_half at d) vs)
  negated_each [] m = refl
  negated_each (v ∷ vs) m =
      ap₂ ◌∷◌
      (dot-split v
      ∙ ap (λ q. q -ℚ dot w (coefficients (minus_half at d) v))
      (dot_missed w (plus_half at d) v (All-head (λ v. Miss (plus_half at d) v) v vs m))
      ∙ zero-+ℚ (neg_ℚ (dot w (coefficients (minus_half at d) v))))
      (negated_each vs (All-tail (λ v. Miss (plus_half at d) v) v vs m))

  on_minus : weighed w (split at d) (components_from at d d) ≡ numbers.negated w
  on_minus =
      negated_each (components_from at d d) (plus_misses at d)
      ∙ ap numbers.negated (weighed_from at d d w long)

  -- so the variables get the numbers and then their negations
  weighed-split : weighed w (split at d) (components at (d + d)) ≡ w ++ numbers.negated w
  weighed-split =
      let start : 0 + d ≡ d = omega arith in
      ap (weighed w (split at d)) (components-append at 0 d d
      ∙ ap (λ j. components_from at 0 d ++ components_from at j d) start)
      ∙ map-append (λ v. dot w (coefficients (split at d) v)) (components_from at 0 d)
      (components_from at d d)
      ∙ ap₂ ◌++◌ on_plus on_minus

-- numbers of both signs are 0
both_signs : (w : List Rational) → All (λ q. zero_ℚ ≤ℚ q) w
    → All (λ q. zero_ℚ ≤ℚ q) (numbers.negated w) → All (λ q. q ≡ zero_ℚ) w
both_signs [] h k = All-nil (λ q. q ≡ zero_ℚ)
both_signs (p ∷ w) h k =
    All-cons (λ q. q ≡ zero_ℚ) p w
    (≤ℚ_antisymm p zero_ℚ
    (≤ℚ_from_nonneg p zero_ℚ (subst (λ q. zero_ℚ ≤ℚ q) (sym (zero-+ℚ (neg_ℚ p)))
    (All-head (λ q. zero_ℚ ≤ℚ q) (neg_ℚ p) (numbers.negated w) k)))
    (All-head (λ q. zero_ℚ ≤ℚ q) p w h))
    (both_signs w (All-tail (λ q. zero_ℚ ≤ℚ q) p w h)
    (All-tail (λ q. zero_ℚ ≤ℚ q) (neg_ℚ p) (numbers.negated w) k))

all_zero : (w : List Rational) → All (λ q. zero_ℚ ≤ℚ q) (w ++ numbers.negated w)
    → All (λ q. q ≡ zero_ℚ) w
all_zero w h =
    both_signs w
    (subst (All (λ q. zero_ℚ ≤ℚ q)) (take-append_seam w (numbers.negated w))
    (All-take (λ q. zero_ℚ ≤ℚ q) (length w) (w ++ numbers.negated w) h))
    (subst (All (λ q. zero_ℚ ≤ℚ q)) (drop-append_seam w (numbers.negated w))
    (All-drop (λ q. zero_ℚ ≤ℚ q) (length w) (w ++ numbers.negated w) h))

constants_split : (at : Address) (d : ℕ) → All (λ q. q ≡ zero_ℚ) (constants (split at d))
constants_split at d =
    All-map (λ q. q ≡ zero_ℚ) (λ f. f.constant) (split at d)
    (all_paired difference (λ f. f.constant ≡ zero_ℚ) (λ f g p q. constant-difference f g
    ∙ ap₂ ◌-ℚ◌ p q
    ∙ -ℚ-itself zero_ℚ) (plus_half at d) (minus_half at d)
    (All-map (λ f. f.constant ≡ zero_ℚ) variable (components_from at 0 d)
    (all_components (λ v. (variable {R = address_cmp} v).constant ≡ zero_ℚ) at 0 d
    (λ i. constant-variable address_cmp (child_of at i))))
    (All-map (λ f. f.constant ≡ zero_ℚ) variable (components_from at d d)
    (all_components (λ v. (variable {R = address_cmp} v).constant ≡ zero_ℚ) at d d
    (λ i. constant-variable address_cmp (child_of at i)))))

-- ---- the law

-- so an image that is made of these parts is the item's
pub image_made : (item : Item) (d both : ℕ) (vars : List Address) (exprs : List Expression)
    (group : Item)
    → d ≡ size item → both ≡ d + d → vars ≡ inner item both
    → exprs ≡ map (halved (child_of item.at 0) d) (range_with_len 0 d)
    → group ≡ child_at item 0 (Group (Nonnegatives both) vars)
    → group_by (group ∷ []) exprs ≡ free_var item
image_made item d both vars exprs group d_is both_is vars_are exprs_are group_is =
    ap₂ (λ g es. group_by (g ∷ []) es) group_is exprs_are
    ∙ ap (λ vs. group_by (child_at item 0 (Group (Nonnegatives both) vs) ∷ [])
    (map (halved (child_of item.at 0) d) (range_with_len 0 d))) vars_are
    ∙ ap (λ n. group_by (group_at item (Nonnegatives n) n ∷ [])
    (map (halved (child_of item.at 0) d) (range_with_len 0 d))) both_is
    ∙ ap (λ n. group_by (group_at item (Nonnegatives (n + n)) (n + n) ∷ [])
    (map (halved (child_of item.at 0) n) (range_with_len 0 n))) d_is
    ∙ ap (λ es. group_by (group_at item (Nonnegatives (size item + size item))
    (size item + size item) ∷ []) es) (sym (halved_are (child_of item.at 0) (size item)))

module _ (edge : Edge) (own : family_of edge ≡ FreeVar) where
  module _ (item : Item) (valid : IsValidItem item) (free : FreeVarSourced edge item.body) where
    abbrev d : ℕ
    d = size item

    abbrev at : Address
    at = child_of item.at 0

    long : length (split at d) ≡ d
    long = length-differences (plus_half at d) (minus_half at d)
        (length_plus at d ∙ sym (length_minus at d)) ∙ length_plus at d

    missed : (v : Address) → Miss (variables (components at (d + d))) v → Miss (split at d) v
    missed v m =
        all_paired difference (λ f. coefficient f v ≡ zero_ℚ) (missed-difference v) (plus_half at d)
        (minus_half at d)
        (subst (λ fs. Miss fs v) (first_half at d) (All-take (λ f. coefficient f v ≡ zero_ℚ) d
        (variables (components at (d + d))) m))
        (subst (λ fs. Miss fs v) (second_half at d) (All-drop (λ f. coefficient f v ≡ zero_ℚ) d
        (variables (components at (d + d))) m))

    one_group : OneGroup edge item (Nonnegatives (d + d)) (d + d) (split at d)
    one_group = record {
      item_valid = valid;
      source = free.group;
      size = long;
      named = λ v absent. missed v (variables_missed (components at (d + d)) v
          (not_contained (components at (d + d)) v absent));
      values = λ one x h below. subst (λ s. In (multiplied one s) (evaluations one (split at d) x))
          (sym free.set) tt;
      dual = λ w e there.
          subst (λ s. Dual s w) (sym free.set)
          (all_zero w (subst (All (λ q. zero_ℚ ≤ℚ q)) (weighed-split at d w (e ∙ long)) there));
      gaps = λ w e there.
          sym (ap₂ ◌-ℚ◌ (ap (λ s. low_of s w) free.set)
          (dot_zeros w (constants (split at d)) (constants_split at d))
          ∙ -ℚ-itself zero_ℚ);
      some = let some : 1 ≤ d = valid.some in omega (arith, some);
      fits = record {
        dimension = refl;
        enough = let some : 1 ≤ d = valid.some in omega (arith, some);
        uncrossed = refl;
      };
      grows = subst (λ n. d + d ≤ n * d) (sym (ap growth own)) (omega arith);
      leads = free.leads (d + d) (inner item (d + d));
    }

    free_law : EdgeLaw edge item (free_var item)
    free_law =
        subst (λ fs. EdgeLaw edge item (group_by (group_at item (Nonnegatives (d + d)) (d + d) ∷ [])
        (bridged fs))) (sym (split_is at d))
        (one_group_law edge item (Nonnegatives (d + d)) (d + d) (split at d) one_group)

pub rule : IsGroupRule FreeVar FreeVarSourced (λ edge. free_var) 0
unfolding image_by back_by
rule = record {
  carry = λ item ys. [];
  rule = record { image = λ edge item. refl; back = λ item ys. refl; sourced = sourced };
  no_sum = refl;
  no_dual_sum = refl;
  children = λ edge item. refl;
  dual = λ edge item free no_group. absurd (true≢false (sym free.group ∙ no_group));
  law = free_law;
}

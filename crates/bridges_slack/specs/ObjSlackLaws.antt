-- The law of ObjSlack: the least f is the least s with s - f ≥ 0, and the greatest f the greatest s
-- with s - f ≤ 0.
use Rattle.std.specs.Prelude.{All, Contains, List, Some, [], length, map, refl, true, ◌*◌, ◌<◌, ◌∷◌, ◌≡◌, ◌≤◌}
use Rattle.std.proofs.lemmas.List.Elements.{All-cons, All-head, All-nil}
use Rattle.std.proofs.Common.{ap, ap₂, arith, subst, sym, true≢false, ◌∙◌}
use Rattle.std.proofs.lemmas.List.{length-append}
use Rattle.rational_laws.specs.Field.{*ℚ-zero, +ℚ-zero, zero-*ℚ, zero-+ℚ, -ℚ-itself}
use Rattle.aff_core.specs.Address.{Address, child_of}
use Rattle.item_core.specs.declared.item.Body.TheVariants.{Affine, AffineObj, Free, PlainObj}
use Rattle.bridge_face.specs.ChildDualLaws.{carries_duals}
use Rattle.bridge_face.specs.Law.{Balances, CarriesValues, ChildDuals, EdgeLaw, GrowsBy, HasComponents, IsCovered, IsItemFor, IsLawful, IsValidWithin, LeadsToKind, MentionsKnown, Miss, cost_by, cost_of, expressed, growth, held_children, held_item, inner_of, is_objective, row_set}
use Rattle.item_core.specs.declared.item.Body.{Body}
use Rattle.item_core.specs.declared.edge.Edge.TheVariants.{E62, E63}
use Rattle.item_core.specs.declared.edge.Edge.{Edge}
use Rattle.bridge_face.specs.ImageOf.{beyond, differences, free_at, image_by, image_of, inner, inner_functions, obj_slack, sense_of}
use Rattle.item_core.specs.Valid.{IsValidItem, NamesNothingBelow}
use Rattle.aff_core.specs.Function.{Function, coefficient, evaluated, variable}
use Rattle.dual_laws.specs.Held.{DualRow, IsHeld, adjoint, adjoint_of, gap, gap_of}
use Rattle.item_core.specs.declared.image.Image.{Image}
use Rattle.set_core.specs.Membership.{In, low_of}
use Rattle.set_core.specs.Shapes.{IsSetOf, is_scalar}
use Rattle.item_core.specs.declared.item.Item.{Item}
use Rattle.bridge_face.specs.FamilyLaws.{Rule, image_is, lawful_by, of_another, source_is}
use Rattle.bridge_face.specs.BackOf.{back_by}
use Rattle.set_core.specs.declared.set.Set.TheVariants.{LessThan, Reals}
use Rattle.aff_core.specs.declared.sense.Sense.TheVariants.{Max, Min}
use Rattle.item_core.specs.declared.family.Family.TheVariants.{ObjSlack}
use Rattle.bridge_face.specs.Sources.{OfKind, max_affine, min_affine}
use Rattle.ratio_core.specs.Rational.{Rational, neg_ℚ, one_ℚ, zero_ℚ, ◌*ℚ◌, ◌+ℚ◌, ◌-ℚ◌, ◌≤ℚ◌}
use Rattle.aff_core.specs.declared.sense.Sense.{Sense}
use Rattle.aff_core.specs.KeyOrder.{address_order}
use Rattle.rational_laws.specs.Ring.{as_expression, by_ring, one_as, ring₁, ring₂, ring₃, ring₄, zero_as}
use Rattle.bridge_face.specs.Images.{child_at, difference, first_in, function_of_body}
use Rattle.bridge_face.specs.DifferenceLaws.{all_paired, coefficient-difference, constant-difference, evaluated-difference, evaluated-negated, missed-difference, unnamed-difference}
use Rattle.aff_core.specs.FunctionLaws.{coefficient-negated, coefficient-variable_same, constant-negated}
use Rattle.aff_core.specs.FunctionLists.{coefficients, constants}
use Rattle.bridge_face.specs.ComponentLaws.{component_apart, constants-variables, not_contained, unnamed_below, variables, variables_missed}
use Rattle.rational_laws.specs.DotLaws.{dot_zeros, zeros_dot}
use Rattle.item_core.specs.Edge.{edge_entry, family_of, source_of}
use Rattle.set_core.specs.Vectors.{first_of}
use Rattle.item_core.specs.Item.{functions_of, item_of}
use Rattle.bridge_face.specs.GroupLaws.{held_of}
use Rattle.item_core.specs.KindOf.{kind_of_body}
use Rattle.set_core.specs.Mirrored.{multiplied}
use Rattle.rational_laws.specs.Order.{neg_ℚ-≤ℚ, nonneg_neg, ≤ℚ_from_nonneg, ≤ℚ_from_≡}
use Rattle.bridge_face.specs.ObjectiveLaws.{affine_objective, objective_held, objective_no_group, objective_stands, objective_valid}
pub use Rattle.bridge_face.specs.ObjectiveLaws.{IsAffineObjective}
use Rattle.bridge_face.specs.GroupAndRowLaws.{second_row_valid}
use Rattle.set_laws.specs.Least.{single₂}
use Rattle.item_core.specs.declared.image.Expression.{Expression}

pub is_one : (b : Body) → IsAffineObjective b
    → ((sense : Sense) (func : Function) → b ≡ AffineObj sense func → ⊥) → ⊥
is_one b (affine_objective {sense} {func}) none = none sense func refl

-- the row and the objective that the edges make
abbrev pub row_of : Sense → Function → Address → Body
row_of sense f s = Affine (difference (variable s) f) (beyond sense)

pub record ObjSlackSourced (edge : Edge) (b : Body) : Type 0 where
  pub objective : IsAffineObjective b
  group_leads : (ss : List Address) → LeadsToKind edge (Free ss)
  row_leads : (f : Function) → LeadsToKind edge (Affine f (beyond (sense_of b)))
  objective_leads : (s : Address) → LeadsToKind edge (PlainObj (sense_of b) s)

sourced : (edge : Edge) → family_of edge ≡ ObjSlack → {b : Body} → OfKind (source_of edge) b
    → ObjSlackSourced edge b
unfolding edge_entry kind_of_body
sourced E62 own min_affine = record {
  objective = affine_objective;
  group_leads = λ ss. refl;
  row_leads = λ f. refl;
  objective_leads = λ s. refl;
}
sourced E63 own max_affine = record {
  objective = affine_objective;
  group_leads = λ ss. refl;
  row_leads = λ f. refl;
  objective_leads = λ s. refl;
}
sourced _ own k = of_another own refl

pub rule : Rule ObjSlack ObjSlackSourced (λ edge. obj_slack) (λ item ys. [])
unfolding image_by back_by
rule = record { image = λ edge item. refl; back = λ item ys. refl; sourced = sourced }

pub record Read (b : Body) : Type 0 where
  pub source : is_objective b ≡ true
  functions : functions_of b ≡ function_of_body b ∷ []
  cost : cost_of b ≡ cost_by (sense_of b) (function_of_body b)

pub read : {b : Body} → IsAffineObjective b → Read b
read affine_objective = record { source = refl; functions = refl; cost = refl }

-- ---- the numbers of a cost

abbrev signed : Sense → Rational → Rational
signed Min q = q
signed Max q = neg_ℚ q

coefficient-cost : (sense : Sense) (f : Function) (v : Address)
    → coefficient (cost_by sense f) v ≡ signed sense (coefficient f v)
coefficient-cost Min f v = refl
coefficient-cost Max f v = coefficient-negated address_order f v

constant-cost : (sense : Sense) (f : Function)
    → (cost_by sense f).constant ≡ signed sense f.constant
constant-cost Min f = refl
constant-cost Max f = constant-negated address_order f

-- the row's number is the objective's, negated for the least value
row_number : (sense : Sense) (y o : Rational)
    → o *ℚ signed sense zero_ℚ ≡ y *ℚ (one_ℚ -ℚ zero_ℚ) +ℚ o *ℚ signed sense one_ℚ
    → y ≡ neg_ℚ (signed sense o)
row_number sense y o e =
    kept y (o *ℚ signed sense one_ℚ) ∙ ap (λ q. q -ℚ o *ℚ signed sense one_ℚ) (sym e)
    ∙ rest sense o
  where
    kept : (y k : Rational) → y ≡ (y *ℚ (one_ℚ -ℚ zero_ℚ) +ℚ k) -ℚ k
    kept = ring₂ _ (λ ρ. simp (as_expression, zero_as ρ, one_as ρ) (by_ring ρ _ _ refl))

    rest : (sense : Sense) (o : Rational)
        → o *ℚ signed sense zero_ℚ -ℚ o *ℚ signed sense one_ℚ ≡ neg_ℚ (signed sense o)
    rest Min = ring₁ _ (λ ρ. simp (as_expression, zero_as ρ, one_as ρ) (by_ring ρ _ _ refl))
    rest Max = ring₁ _ (λ ρ. simp (as_expression, zero_as ρ, one_as ρ) (by_ring ρ _ _ refl))

-- then the sums agree at every variable
signed_sums : (sense : Sense) (o e k : Rational)
    → o *ℚ signed sense k ≡ neg_ℚ (signed sense o) *ℚ (e -ℚ k) +ℚ o *ℚ signed sense e
signed_sums Min = ring₃ _ (λ ρ. simp as_expression (by_ring ρ _ _ refl))
signed_sums Max = ring₃ _ (λ ρ. simp as_expression (by_ring ρ _ _ refl))

sums_agree : (sense : Sense) (o y e k : Rational) → y ≡ neg_ℚ (signed sense o)
    → o *ℚ signed sense k ≡ y *ℚ (e -ℚ k) +ℚ o *ℚ signed sense e
sums_agree sense o y e k is =
    signed_sums sense o e k ∙ ap (λ z. z *ℚ (e -ℚ k) +ℚ o *ℚ signed sense e) (sym is)

-- and the gaps do
signed_gaps : (sense : Sense) (b o z k : Rational)
    → neg_ℚ (neg_ℚ (signed sense o) *ℚ (z -ℚ k)) +ℚ (b *ℚ o -ℚ o *ℚ signed sense z)
    ≡ b *ℚ o -ℚ o *ℚ signed sense k
signed_gaps Min = ring₄ _ (λ ρ. simp as_expression (by_ring ρ _ _ refl))
signed_gaps Max = ring₄ _ (λ ρ. simp as_expression (by_ring ρ _ _ refl))

gaps_agree : (sense : Sense) (b o y z k : Rational) → y ≡ neg_ℚ (signed sense o)
    → neg_ℚ (y *ℚ (z -ℚ k)) +ℚ (b *ℚ o -ℚ o *ℚ signed sense z) ≡ b *ℚ o -ℚ o *ℚ signed sense k
gaps_agree sense b o y z k is =
    ap (λ u. neg_ℚ (u *ℚ (z -ℚ k)) +ℚ (b *ℚ o -ℚ o *ℚ signed sense z)) is
    ∙ signed_gaps sense b o z k

-- ---- sets

low_beyond : (sense : Sense) (y : List Rational) → low_of (beyond sense) y ≡ zero_ℚ
low_beyond Min y = zero-*ℚ (first_of y)
low_beyond Max y = zero-*ℚ (first_of y)

beyond_fits : (sense : Sense) → IsSetOf 1 (beyond sense)
beyond_fits Min = record { dimension = refl; enough = omega arith; uncrossed = refl }
beyond_fits Max = record { dimension = refl; enough = omega arith; uncrossed = refl }

beyond_scalar : (sense : Sense) → is_scalar (beyond sense) ≡ true
beyond_scalar Min = refl
beyond_scalar Max = refl

-- where the row holds, the cost of the variable is no less
costs_less : (sense : Sense) (one p q : Rational)
    → In (multiplied one (beyond sense)) ((q -ℚ p) ∷ [])
    → signed sense p ≤ℚ signed sense q
costs_less Min one p q h = ≤ℚ_from_nonneg p q (subst (λ z. z ≤ℚ (q -ℚ p)) (*ℚ-zero one) h)
costs_less Max one p q h =
    neg_ℚ-≤ℚ q p
    (≤ℚ_from_nonneg q p (subst (λ z. zero_ℚ ≤ℚ z) (turned q p)
    (nonneg_neg (q -ℚ p) (subst (λ z. (q -ℚ p) ≤ℚ z) (*ℚ-zero one) h))))
  where
    turned : (q p : Rational) → neg_ℚ (q -ℚ p) ≡ p -ℚ q
    turned = ring₂ _ (λ ρ. simp as_expression (by_ring ρ _ _ refl))

evaluated-cost : (sense : Sense) (one : Rational) (f : Function) (x : Address → Rational)
    → evaluated one (cost_by sense f) x ≡ signed sense (evaluated one f x)
evaluated-cost Min one f x = refl
evaluated-cost Max one f x = evaluated-negated one f x

-- ---- the law

record IsSlackObjective (edge : Edge) (item : Item) (sense : Sense) (f : Function) : Type 0 where
  item_valid : IsValidItem item
  source : is_objective item.body ≡ true
  functions : functions_of item.body ≡ f ∷ []
  cost : cost_of item.body ≡ cost_by sense f
  no_growth : growth (family_of edge) ≡ 1
  group_leads : LeadsToKind edge (Free (inner item 1))
  row_leads : LeadsToKind edge (row_of sense f (child_of (child_of item.at 0) 0))
  objective_leads : LeadsToKind edge (PlainObj sense (child_of (child_of item.at 0) 0))

module _ (edge : Edge) (item : Item) (sense : Sense) (f : Function)
    (l : IsSlackObjective edge item sense f) where
  abbrev s : Address
  s = child_of (child_of item.at 0) 0

  abbrev slack : Function
  slack = variable s

  abbrev group : Item
  group = free_at item 1

  abbrev row : Item
  row = child_at item 1 (row_of sense f s)

  abbrev objective : Item
  objective = child_at item 2 (PlainObj sense s)

  abbrev image : Image
  image = record { groups = group ∷ []; exprs = []; rows = row ∷ []; objective = Some objective }

  unnamed : NamesNothingBelow item.at f
  unnamed =
      All-head (NamesNothingBelow item.at) f []
      (subst (All (NamesNothingBelow item.at)) l.functions
      (l.item_valid.others (objective_no_group item.body l.source)))

  -- f names no component
  absent : coefficient f s ≡ zero_ℚ
  absent = unnamed_below item.at 0 f unnamed (0 ∷ [])

  item_is : (bound : Rational) (w : List Rational)
      → held_item bound item image w ≡ held_of w (cost_by sense f ∷ []) (LessThan bound)
  item_is bound w =
      ap (λ fs. held_of w fs (row_set bound item.body))
      (objective_stands item.body (map expressed image.exprs) l.source)
      ∙ objective_held bound item.body w l.source
      ∙ ap (λ c. held_of w (c ∷ []) (LessThan bound)) l.cost

  values : CarriesValues item image
  values = record {
    holds = λ none. absurd (true≢false (sym l.source ∙ none));
    costs = λ one x h below.
        All-cons (λ child. evaluated one (cost_of item.body) x ≤ℚ evaluated one (cost_of child.body)
        x) objective []
        (subst (λ q. q ≤ℚ evaluated one (cost_by sense slack) x)
        (sym (ap (λ c. evaluated one c x) l.cost ∙ evaluated-cost sense one f x))
        (subst (λ q. signed sense (evaluated one f x) ≤ℚ q) (sym (evaluated-cost sense one slack x))
        (costs_less sense one (evaluated one f x) (evaluated one slack x)
        (subst (λ q. In (multiplied one (beyond sense)) (q ∷ []))
        (evaluated-difference one slack f x)
        (below 1 group (omega arith))))))
        (All-nil (λ child. evaluated one (cost_of item.body) x ≤ℚ evaluated one (cost_of child.body)
        x));
  }

  abbrev duals_of : List Rational → List Rational → List Rational → ChildDuals
  duals_of g y o = record { groups = g ∷ []; rows = y ∷ []; objective = o ∷ [] }

  abbrev group_held : List Rational → DualRow
  group_held g = held_of g (variables (inner item 1)) (Reals 1)

  abbrev row_held_by : List Rational → DualRow
  row_held_by y = held_of y (difference slack f ∷ []) (beyond sense)

  abbrev objective_held_by : Rational → List Rational → DualRow
  objective_held_by bound o = held_of o (cost_by sense slack ∷ []) (LessThan bound)

  module _
      (bound : Rational) (g : List Rational) (y o : Rational) (w : List Rational)
      (b : Balances bound edge item image (duals_of g (y ∷ []) (o ∷ [])) w) where
    g_held : IsHeld (group_held g)
    g_held = b.hold 0 (group_held g) (omega arith)

    o_held : IsHeld (objective_held_by bound (o ∷ []))
    o_held = b.hold 2 (group_held g) (omega arith)

    same_held : held_item bound item image w
        ≡ held_of (o ∷ []) (cost_by sense f ∷ []) (LessThan bound)
    same_held = item_is bound w
        ∙ ap (λ u. held_of u (cost_by sense f ∷ []) (LessThan bound))
        (b.carries.by_objective l.source)

    item_at : (v : Address)
        → adjoint_of (held_item bound item image w) v ≡ o *ℚ signed sense (coefficient f v)
    item_at v =
        ap (λ k. adjoint_of k v) same_held ∙ +ℚ-zero (o *ℚ coefficient (cost_by sense f) v)
        ∙ ap (λ q. o *ℚ q) (coefficient-cost sense f v)

    children_at : (v : Address)
        → adjoint (held_children bound image (duals_of g (y ∷ []) (o ∷ []))) v
        ≡ y *ℚ (coefficient slack v -ℚ coefficient f v) +ℚ o *ℚ signed sense (coefficient slack v)
    children_at v =
        ap₂ ◌+ℚ◌ (zeros_dot g (coefficients (variables (inner item 1)) v) g_held.dual)
        (ap₂ ◌+ℚ◌
        (+ℚ-zero (y *ℚ coefficient (difference slack f) v)
        ∙ ap (λ q. y *ℚ q) (coefficient-difference slack f v))
        (+ℚ-zero (o *ℚ coefficient (cost_by sense slack) v +ℚ zero_ℚ)
        ∙ +ℚ-zero (o *ℚ coefficient (cost_by sense slack) v)
        ∙ ap (λ q. o *ℚ q) (coefficient-cost sense slack v)))
        ∙ zero-+ℚ (y *ℚ (coefficient slack v -ℚ coefficient f v)
        +ℚ o *ℚ signed sense (coefficient slack v))

    abbrev Agree : Address → Type 0
    Agree v = adjoint_of (held_item bound item image w) v
        ≡ adjoint (held_children bound image (duals_of g (y ∷ []) (o ∷ []))) v

    y_is : y ≡ neg_ℚ (signed sense o)
    y_is =
        row_number sense y o
        (sym (item_at s ∙ ap (λ q. o *ℚ signed sense q) absent)
        ∙ All-head Agree s [] b.inner
        ∙ children_at s
        ∙ ap₂ (λ e k. y *ℚ (e -ℚ k) +ℚ o *ℚ signed sense e)
        (coefficient-variable_same address_order s) absent)

    children_gap : gap (held_children bound image (duals_of g (y ∷ []) (o ∷ [])))
        ≡ neg_ℚ (y *ℚ (slack.constant -ℚ f.constant))
        +ℚ (bound *ℚ o -ℚ o *ℚ signed sense slack.constant)
    children_gap =
        ap₂ ◌+ℚ◌
        (ap (λ q. zero_ℚ
        -ℚ q) (dot_zeros g (constants (variables (inner item 1)))
        (constants-variables (inner item 1))) ∙ -ℚ-itself zero_ℚ)
        (ap₂ ◌+ℚ◌
        (ap₂ ◌-ℚ◌ (low_beyond sense (y ∷ [])) (+ℚ-zero (y *ℚ (difference slack f).constant)
        ∙ ap (λ q. y *ℚ q) (constant-difference slack f))
        ∙ zero-+ℚ (neg_ℚ (y *ℚ (slack.constant -ℚ f.constant))))
        (+ℚ-zero (gap_of (objective_held_by bound (o ∷ [])))
        ∙ ap (λ q. bound *ℚ o -ℚ q) (+ℚ-zero (o *ℚ (cost_by sense slack).constant)
        ∙ ap (λ q. o *ℚ q) (constant-cost sense slack))))
        ∙ zero-+ℚ (neg_ℚ (y *ℚ (slack.constant -ℚ f.constant))
        +ℚ (bound *ℚ o -ℚ o *ℚ signed sense slack.constant))

    item_gap : gap_of (held_item bound item image w) ≡ bound *ℚ o -ℚ o *ℚ signed sense f.constant
    item_gap =
        ap gap_of same_held
        ∙ ap (λ q. bound *ℚ o -ℚ q) (+ℚ-zero (o *ℚ (cost_by sense f).constant)
        ∙ ap (λ q. o *ℚ q) (constant-cost sense f))

    covered_by : IsCovered bound item image (duals_of g (y ∷ []) (o ∷ [])) w
    covered_by = record {
      holds = subst IsHeld (sym same_held) (record {
        set = record { dimension = refl; enough = omega arith; uncrossed = refl };
        size = refl;
        dual = o_held.dual;
      });
      same = λ v. item_at v ∙ sums_agree sense o y (coefficient slack v) (coefficient f v) y_is
          ∙ sym (children_at v);
      gaps = ≤ℚ_from_≡ _ _ (children_gap ∙ gaps_agree sense bound o y slack.constant f.constant y_is
          ∙ sym item_gap);
    }

  of_numbers : (bound : Rational) (g y o w : List Rational)
      → Balances bound edge item image (duals_of g y o) w
      → IsCovered bound item image (duals_of g y o) w
  of_numbers bound g y o w b =
      let y_one : length y ≡ 1 = (b.hold 1 (group_held g) (omega arith)).size in
      let o_one : length o ≡ 1 = (b.hold 2 (group_held g) (omega arith)).size in
      single₂ (λ y o. Balances bound edge item image (duals_of g y o) w
      → IsCovered bound item image (duals_of g y o) w)
      (λ p q c. covered_by bound g p q w c) y o y_one o_one b

  one_component : length (functions_of item.body) ≡ 1
  one_component = ap length l.functions

  group_valid : length item.at.positions < 38 → IsValidWithin group
  group_valid room few = record {
    function = tt;
    some = omega arith;
    at_most = few;
    set = record { dimension = refl; enough = omega arith; uncrossed = refl };
    depth =
        subst (λ m. m ≤ 38) (sym (length-append item.at.positions (0 ∷ []))) (omega (arith, room));
    others = λ none. absurd (true≢false none);
  }

  row_valid : length item.at.positions < 38 → IsValidWithin row
  row_valid room =
      second_row_valid item (row_of sense f s) (beyond_scalar sense) (omega arith)
      (beyond_fits sense)
      (All-cons (NamesNothingBelow (child_of item.at 1)) (difference slack f) []
      (unnamed-difference (child_of item.at 1) slack f (component_apart item.at 1 (omega arith) 0)
      (unnamed_below item.at 1 f unnamed))
      (All-nil (NamesNothingBelow (child_of item.at 1)))) room

  objective_is_valid : length item.at.positions < 38 → IsValidWithin objective
  objective_is_valid room =
      objective_valid item 2 (PlainObj sense s) refl
      (All-cons (NamesNothingBelow (child_of item.at 2)) slack []
      (component_apart item.at 2 (omega arith) 0) (All-nil
      (NamesNothingBelow (child_of item.at 2)))) room

  abbrev all_three : (P : Item → Type 0) → P group → P row → P objective
      → All P (group ∷ row ∷ objective ∷ [])
  all_three P p q r =
      All-cons P group (row ∷ objective
      ∷ []) p (All-cons P row (objective ∷ []) q (All-cons P objective [] r (All-nil P)))

  no_more : (child : Item) → length (functions_of child.body) ≡ 1
      → GrowsBy (growth (family_of edge)) item child
  no_more child e =
      subst (λ n. length (functions_of child.body) ≤ n * length (functions_of item.body))
      (sym l.no_growth) (omega (arith, e, one_component))

  -- what isn't among the child group's variables
  missed : (v : Address) → ¬ (Contains (inner_of image.groups) v) → Miss (slack ∷ []) v
  missed v there = variables_missed (s ∷ []) v (not_contained (s ∷ []) v there)

  slack_objective_law : EdgeLaw edge item image
  slack_objective_law = record {
    values = values;
    duals = carries_duals edge item image (λ bound w g y o b. of_numbers bound g y o w b);
    positions = refl;
    valid = λ room. all_three IsValidWithin (group_valid room) (row_valid room)
        (objective_is_valid room);
    sizes = all_three (GrowsBy (growth (family_of edge)) item) (no_more group refl)
        (no_more row refl) (no_more objective refl);
    kinds =
        all_three (λ child. LeadsToKind edge child.body) l.group_leads l.row_leads l.objective_leads;
    components = All-cons HasComponents group [] refl (All-nil HasComponents);
    mentioned =
        All-cons (MentionsKnown item image) row (objective ∷ [])
        (λ v m there. all_paired difference (λ f. coefficient f v ≡ zero_ℚ) (missed-difference v)
        (slack ∷ []) (f ∷ []) (missed v there) (subst (λ fs. Miss fs v) l.functions m))
        (All-cons (MentionsKnown item image) objective [] (λ v m there. missed v there)
        (All-nil (MentionsKnown item image)));
    exprs = λ group. absurd (true≢false (sym group ∙ objective_no_group item.body l.source));
    expressed = λ v n. All-nil (λ f. coefficient f v ≡ zero_ℚ);
  }

-- ---- the table

abbrev pub objective_parts : List Item → List Expression → List Item → Item → Image
objective_parts groups exprs rows objective =
    record { groups = groups; exprs = exprs; rows = rows; objective = Some objective }

abbrev pub slack_image : Item → Sense → Function → Image
slack_image item sense f =
    objective_parts (free_at item 1 ∷ []) []
    (child_at item 1 (row_of sense f (child_of (child_of item.at 0) 0)) ∷ [])
    (child_at item 2 (PlainObj sense (child_of (child_of item.at 0) 0)))

slack_image_is : (item : Item) → functions_of item.body ≡ function_of_body item.body ∷ []
    → obj_slack item ≡ slack_image item (sense_of item.body) (function_of_body item.body)
slack_image_is item alone =
    ap (λ fs. objective_parts (free_at item 1 ∷ []) [] (child_at item 1
    (Affine (first_in (differences (inner_functions item 1) fs)) (beyond (sense_of item.body)))
    ∷ []) (child_at item 2 (PlainObj (sense_of item.body) (child_of (child_of item.at 0) 0)))) alone

module _ (edge : Edge) (own : family_of edge ≡ ObjSlack) where
  -- f names no component
  pub unnamed_there : (item : Item) → IsItemFor edge item
      → coefficient (function_of_body item.body) (child_of (child_of item.at 0) 0) ≡ zero_ℚ
  unnamed_there item suits =
      let facts = read (source_is rule edge own item suits).objective in
      unnamed_below item.at 0 (function_of_body item.body)
      (All-head (NamesNothingBelow item.at) (function_of_body item.body) []
      (subst (All (NamesNothingBelow item.at)) facts.functions
      (suits.valid.others (objective_no_group item.body facts.source)))) (0 ∷ [])

  -- so is an image that is made of these parts
  pub parts_made : (item : Item) → IsItemFor edge item
      → (at var at_row at_objective : Address) (vars : List Address) (groups rows : List Item)
      (exprs : List Expression) (row objective : Body)
      → at ≡ child_of item.at 0 → var ≡ child_of at 0 → at_row ≡ child_of item.at 1
      → at_objective ≡ child_of item.at 2
      → vars ≡ inner item 1 → groups ≡ item_of at (Free vars) ∷ [] → rows ≡ item_of at_row row ∷ []
      → exprs ≡ []
      → row ≡ row_of (sense_of item.body) (function_of_body item.body) var
      → objective ≡ PlainObj (sense_of item.body) var
      → objective_parts groups exprs rows (item_of at_objective objective) ≡ image_of edge item
  parts_made item suits at var at_row at_objective vars groups rows exprs row objective at_is var_is
      at_row_is at_objective_is vars_are groups_are rows_are exprs_are row_is objective_is =
      let sense = sense_of item.body in
      let f = function_of_body item.body in
      let slack = child_of (child_of item.at 0) 0 in
      let slack_is : var ≡ slack = var_is ∙ ap (λ a. child_of a 0) at_is in
      let group : groups ≡ free_at item 1 ∷ [] =
      groups_are ∙ ap₂ (λ a vs. item_of a (Free vs) ∷ []) at_is vars_are in
      let lone : rows ≡ child_at item 1 (row_of sense f slack) ∷ [] =
      rows_are ∙ ap₂ (λ a b. item_of a b ∷ []) at_row_is (row_is ∙ ap (row_of sense f) slack_is) in
      let last : item_of at_objective objective ≡ child_at item 2 (PlainObj sense slack) =
      ap₂ item_of at_objective_is (objective_is ∙ ap (PlainObj sense) slack_is) in
      let parts : objective_parts groups exprs rows (item_of at_objective objective)
      ≡ slack_image item sense f = λ i. objective_parts (group i) (exprs_are i) (lone i) (last i) in
      parts ∙ sym (image_is rule edge own item
      ∙ slack_image_is item (read (source_is rule edge own item suits).objective).functions)

pub obj_slack_lawful : IsLawful ObjSlack
obj_slack_lawful =
    lawful_by rule (λ edge own item valid source.
    let facts = read source.objective in
    subst (EdgeLaw edge item) (sym (slack_image_is item facts.functions))
    (slack_objective_law edge item (sense_of item.body) (function_of_body item.body) (record {
      item_valid = valid;
      source = facts.source;
      functions = facts.functions;
      cost = facts.cost;
      no_growth = ap growth own;
      group_leads = source.group_leads (inner item 1);
      row_leads = source.row_leads (difference (variable (child_of (child_of item.at 0) 0))
          (function_of_body item.body));
      objective_leads = source.objective_leads (child_of (child_of item.at 0) 0);
    })))

-- The law of ZerosVar: variables that are 0 need no variables.
use Rattle.std.specs.Prelude.{All, List, [], length, map, refl, replicate, true, ℕ, ◌∷◌, ◌≡◌, None}
use Rattle.std.proofs.lemmas.List.Elements.{All-cons, All-map, All-nil}
use Rattle.std.proofs.Common.{ap, ap₂, subst, sym, ◌∙◌}
use Rattle.std.proofs.lemmas.List.{length-map}
use Rattle.rational_laws.specs.Field.{*ℚ-zero, -ℚ-itself}
use Rattle.aff_core.specs.Address.{Address, address_cmp}
use Rattle.bridge_face.specs.ChildDualLaws.{carries_duals}
use Rattle.bridge_face.specs.Law.{Balances, ChildDuals, EdgeLaw, GrowsBy, HasComponents, IsCovered, IsLawful, IsValidWithin, LeadsToKind, MentionsKnown, Miss, expressed, growth, held_item}
use Rattle.item_core.specs.declared.item.Body.{Body}
use Rattle.item_core.specs.declared.image.Expression.TheVariants.{Bridged}
use Rattle.item_core.specs.declared.edge.Edge.TheVariants.{E45}
use Rattle.item_core.specs.declared.edge.Edge.{Edge}
use Rattle.item_core.specs.declared.image.Expression.{Expression}
use Rattle.bridge_face.specs.ImageOf.{bridged, image_by, zeros_var}
use Rattle.item_core.specs.Valid.{IsValidItem}
use Rattle.aff_core.specs.Function.{Function, coefficient, constant_function, evaluated}
use Rattle.dual_laws.specs.Held.{Holds, IsHeld, adjoint_of, gap_of}
use Rattle.item_core.specs.declared.image.Image.{Image}
use Rattle.set_core.specs.Shapes.{IsSetOf}
use Rattle.item_core.specs.declared.item.Item.{Item}
use Rattle.bridge_face.specs.FamilyLaws.{Rule, lawful_by, of_another}
use Rattle.bridge_face.specs.Sources.{OfKind, group_zeros}
use Rattle.ratio_core.specs.Rational.{Rational, zero_ℚ, ◌-ℚ◌}
use Rattle.set_core.specs.declared.set.Set.TheVariants.{Zeros}
use Rattle.item_core.specs.declared.family.Family.TheVariants.{ZerosVar}
use Rattle.aff_core.specs.KeyOrder.{address_order}
use Rattle.aff_core.specs.FunctionLaws.{coefficient-constant_function, constant-function_of}
use Rattle.aff_core.specs.FunctionLists.{constants}
use Rattle.bridge_face.specs.ComponentLaws.{dot_missed}
use Rattle.rational_laws.specs.DotLaws.{dot_zeros}
use Rattle.item_core.specs.Edge.{edge_entry, family_of, source_of}
use Rattle.linear_laws.specs.ListLaws.{evaluated_constant_function}
use Rattle.bridge_face.specs.GroupLaws.{expressed-bridged, group_held, held_of}
use Rattle.item_core.specs.Item.{functions_of, is_group, set_of}
use Rattle.bridge_face.specs.BackOf.{back_by, size}
use Rattle.rational_laws.specs.Order.{≤ℚ_from_≡}

-- a group of variables that are 0
pub record AtZero (b : Body) : Type 0 where
  pub count : ℕ
  pub set : set_of b ≡ Zeros count
  pub group : is_group b ≡ true

sourced : (edge : Edge) → family_of edge ≡ ZerosVar → {b : Body} → OfKind (source_of edge) b
    → AtZero b
unfolding edge_entry
sourced E45 own (group_zeros {vars} {n}) = record { count = n; set = refl; group = refl }
sourced _ own k = of_another own refl

pub rule : Rule ZerosVar (λ edge. AtZero) (λ edge. zeros_var) (λ item ys. [])
unfolding image_by back_by
rule = record { image = λ edge item. refl; back = λ item ys. refl; sourced = sourced }

-- ---- functions that are 0

abbrev pub nothing : Function
nothing = constant_function zero_ℚ

abbrev pub nothings : List Function → List Function
nothings fs = map (λ _. nothing) fs

-- an expression that is 0
abbrev pub none_of : Expression
none_of = Bridged nothing

pub nothings_are : (fs : List Function) → bridged (nothings fs) ≡ replicate (length fs) none_of
nothings_are [] = refl
nothings_are (f ∷ fs) = ap (λ es. none_of ∷ es) (nothings_are fs)

all_nothing : (P : Function → Type 0) → P nothing → (fs : List Function) → All P (nothings fs)
all_nothing P h [] = All-nil P
all_nothing P h (f ∷ fs) = All-cons P nothing (nothings fs) h (all_nothing P h fs)

missed : (fs : List Function) (v : Address) → Miss (nothings fs) v
missed fs v =
    all_nothing (λ f. coefficient f v
    ≡ zero_ℚ) (coefficient-constant_function address_order zero_ℚ v) fs

constant-nothing : nothing.constant ≡ zero_ℚ
unfolding constant_function
constant-nothing = constant-function_of address_cmp [] zero_ℚ

abbrev pub image_of_parts : List Item → List Expression → List Item → Image
image_of_parts groups exprs rows =
    record { groups = groups; exprs = exprs; rows = rows; objective = None }

-- ---- the law

module _ (edge : Edge) (item : Item) (valid : IsValidItem item) (at_zero : AtZero item.body) where
  abbrev fs : List Function
  fs = nothings (functions_of item.body)

  abbrev image : Image
  image = zeros_var item

  item_is : (bound : Rational) (w : List Rational)
      → held_item bound item image w ≡ held_of w fs (Zeros at_zero.count)
  item_is bound w =
      group_held bound item.body w (map expressed image.exprs) at_zero.group
      ∙ ap₂ (held_of w) (expressed-bridged fs) at_zero.set

  long : length fs ≡ length (functions_of item.body)
  long = length-map (functions_of item.body) (λ _. nothing)

  abbrev no_duals : ChildDuals
  no_duals = record { groups = []; rows = []; objective = [] }

  covered_by : (bound : Rational) (w : List Rational) → Balances bound edge item image no_duals w
      → IsCovered bound item image no_duals w
  covered_by bound w b = record {
    holds = subst IsHeld (sym (item_is bound w)) (record {
      set = subst (λ m. IsSetOf m (Zeros at_zero.count)) (sym long)
          (subst (IsSetOf (size item)) at_zero.set valid.set);
      size = b.carries.by_component at_zero.group ∙ sym long;
      dual = tt;
    });
    same = λ v. ap (λ k. adjoint_of k v) (item_is bound w)
        ∙ dot_missed w fs v (missed (functions_of item.body) v);
    gaps = ≤ℚ_from_≡ _ _ (sym
        (ap gap_of (item_is bound w)
        ∙ ap (λ q. zero_ℚ
        -ℚ q) (dot_zeros w (constants fs) (All-map (λ q. q ≡ zero_ℚ) (λ f. f.constant) fs
        (all_nothing (λ f. f.constant ≡ zero_ℚ) constant-nothing (functions_of item.body))))
        ∙ -ℚ-itself zero_ℚ));
  }

  zeros_law : EdgeLaw edge item image
  zeros_law = record {
    values = record {
      holds = λ no_objective one x h below.
          subst (λ k. Holds one k x) (sym (item_is zero_ℚ []))
          (All-map (λ q. q ≡ zero_ℚ) (λ f. evaluated one f x) fs
          (all_nothing (λ f. evaluated one f x ≡ zero_ℚ)
          (evaluated_constant_function one zero_ℚ x ∙ *ℚ-zero one) (functions_of item.body)));
      costs = λ one x h below. All-nil _;
    };
    duals = carries_duals edge item image (λ bound w b. covered_by bound w b);
    positions = refl;
    valid = λ room. All-nil IsValidWithin;
    sizes = All-nil (GrowsBy (growth (family_of edge)) item);
    kinds = All-nil (λ child. LeadsToKind edge child.body);
    components = All-nil HasComponents;
    mentioned = All-nil (MentionsKnown item image);
    exprs = λ _. length-map fs Bridged ∙ long;
    expressed = λ v absent. subst (λ gs. Miss gs v) (sym (expressed-bridged fs))
        (missed (functions_of item.body) v);
  }

pub zeros_var_lawful : IsLawful ZerosVar
zeros_var_lawful = lawful_by rule (λ edge own item valid at_zero. zeros_law edge item valid at_zero)

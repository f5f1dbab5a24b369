-- The law of a flip: a row becomes the row of its negated functions in the mirrored set, and its
-- dual is the child's negated.
use Rattle.std.specs.Prelude.{◌≡◌, ◌*◌, ◌≤◌, ℕ, false, List, [], ◌∷◌, map, All, length, refl}
use Rattle.std.proofs.Common.{sym, ap, ap₂, subst, ◌∙◌, arith, append_assoc}
use Rattle.std.proofs.lemmas.List.{length-append, length-map}
use Rattle.std.proofs.lemmas.List.Elements.{All-map, All-weaker}
use Rattle.ratio_core.specs.Rational.{Rational, neg_ℚ, zero_ℚ, ◌-ℚ◌}
use Rattle.rational_laws.specs.Dot as numbers
use Rattle.rational_laws.specs.Dot.{dot}
use Rattle.rational_laws.specs.DotLaws.{dot-negated, length-negated, negated-dot}
use Rattle.rational_laws.specs.Field.{neg_ℚ-zero}
use Rattle.rational_laws.specs.Order.{≤ℚ_from_≡}
use Rattle.aff_core.specs.Address.{Address, child_of}
use Rattle.aff_core.specs.Function.{Function, coefficient, evaluated, negated}
use Rattle.aff_core.specs.FunctionLaws.{coefficient-negated, constant-negated, is_negated}
use Rattle.linear_laws.specs.ListLaws.{evaluated_negated}
use Rattle.set_core.specs.declared.set.Set.{Set}
use Rattle.set_core.specs.declared.set.Set.TheVariants.{EqualTo, GreaterThan, Interval, LessThan, Nonnegatives, Nonpositives, NormInfinityCone, NormOneCone, Reals, Zeros}
use Rattle.aff_core.specs.KeyOrder.{address_order}
use Rattle.set_core.specs.Membership.{Dual, In, low_of}
use Rattle.set_core.specs.Mirrored.{mirrored, multiplied}
use Rattle.set_core.specs.Shapes.{IsSetOf, is_norm_cone}
use Rattle.set_laws.specs.Mirrors.{mirrored-multiplied, mirrored_set, mirrors, negated-negated}
use Rattle.dual_laws.specs.Held.{DualRow, Holds, IsHeld, adjoint_of, gap_of}
use Rattle.item_core.specs.declared.edge.Edge.{Edge}
use Rattle.item_core.specs.declared.item.Body.{Body}
use Rattle.item_core.specs.declared.item.Item.{Item}
use Rattle.item_core.specs.declared.family.Family.{Family}
use Rattle.item_core.specs.Edge.{family_of}
use Rattle.item_core.specs.Item.{functions_of, set_of}
use Rattle.item_core.specs.Valid.{FitsItsFunction, IsValidItem, NamesNothingBelow, below}
use Rattle.bridge_face.specs.BackOf.{back_of}
use Rattle.bridge_face.specs.FamilyLaws.{back_is, sums_in_images, sums_of_duals}
use Rattle.bridge_face.specs.Law.{LeadsToKind, Miss, growth}
use Rattle.bridge_face.specs.OneRowLaws.{IsRowBody, OneRow, RowRule, UnsummedRule, row_held, unsummed}

-- two rows of which one is the other's flip
pub record FlipsTo (b child : Body) : Type 0 where
  pub source : IsRowBody b
  pub made : IsRowBody child
  pub shaped : FitsItsFunction child
  pub functions : functions_of child ≡ map negated (functions_of b)
  pub set : set_of child ≡ mirrored (set_of b)
  pub no_norm_cone : is_norm_cone (set_of b) ≡ false

pub flips_to : {b child : Body} → IsRowBody b → IsRowBody child → FitsItsFunction child
    → functions_of child ≡ map negated (functions_of b) → set_of child ≡ mirrored (set_of b)
    → is_norm_cone (set_of b) ≡ false → FlipsTo b child
flips_to source made shaped functions set no_norm_cone = record {
  source = source;
  made = made;
  shaped = shaped;
  functions = functions;
  set = set;
  no_norm_cone = no_norm_cone;
}

-- an edge that flips an item
pub record IsFlip (edge : Edge) (item : Item) (child : Body) : Type 0 where
  pub item_valid : IsValidItem item
  pub flips : FlipsTo item.body child
  pub back : (y : List Rational) → back_of edge item (y ∷ []) ≡ numbers.negated y
  pub no_growth : growth (family_of edge) ≡ 1
  pub leads : LeadsToKind edge child

-- ---- lists of negated functions

negated_numbers : (g : Function → Rational) → ((f : Function) → g (negated f) ≡ neg_ℚ (g f))
    → (fs : List Function)
    → map g (map negated fs) ≡ numbers.negated (map g fs)
negated_numbers g h [] = refl
negated_numbers g h (f ∷ fs) = ap₂ ◌∷◌ (h f) (negated_numbers g h fs)

cone_kept : (one : Rational) (s : Set) → is_norm_cone s ≡ false
    → is_norm_cone (multiplied one s) ≡ false
cone_kept one (LessThan u) c = refl
cone_kept one (GreaterThan l) c = refl
cone_kept one (EqualTo a) c = refl
cone_kept one (Interval l u) c = refl
cone_kept one (Reals n) c = refl
cone_kept one (Zeros n) c = refl
cone_kept one (Nonnegatives n) c = refl
cone_kept one (Nonpositives n) c = refl
cone_kept one (NormInfinityCone n) c = c
cone_kept one (NormOneCone n) c = c

module _ (fs : List Function) (s : Set) (no_norm_cone : is_norm_cone s ≡ false) where
  abbrev flipped : List Rational → DualRow
  flipped y = record { duals = y; functions = map negated fs; set = mirrored s }

  abbrev straight : List Rational → DualRow
  straight w = record { duals = w; functions = fs; set = s }

  same_products : (g : Function → Rational) → ((f : Function) → g (negated f) ≡ neg_ℚ (g f))
      → (y : List Rational)
      → dot (numbers.negated y) (map g fs) ≡ dot y (map g (map negated fs))
  same_products g h y =
      negated-dot y (map g fs) ∙ sym (dot-negated y (map g fs))
      ∙ ap (dot y) (sym (negated_numbers g h fs))

  values : (one : Rational) (x : Address → Rational) → Holds one (flipped []) x
      → Holds one (straight []) x
  values one x h =
      ((mirrors (multiplied one s) (cone_kept one s no_norm_cone)).values
      (map (λ f. evaluated one f x) fs)).1
      (subst (λ t. In t (numbers.negated (map (λ f. evaluated one f x) fs)))
      (sym (mirrored-multiplied one s))
      (subst (In (multiplied one (mirrored s))) (negated_numbers (λ f. evaluated one f x)
      (λ f. evaluated_negated one f (negated f) (is_negated address_order f (negated f) refl) x)
      fs) h))

  holds : (y : List Rational) → IsSetOf (length fs) s → IsHeld (flipped y)
      → IsHeld (straight (numbers.negated y))
  holds y set h = record {
    set = set;
    size = length-negated y ∙ h.size ∙ length-map fs negated;
    dual = ((mirrors s no_norm_cone).duals (numbers.negated y)).1
        (subst (Dual (mirrored s)) (sym (negated-negated y)) h.dual);
  }

  same : (y : List Rational) (v : Address)
      → adjoint_of (straight (numbers.negated y)) v ≡ adjoint_of (flipped y) v
  same y v = same_products (λ f. coefficient f v) (λ f. coefficient-negated address_order f v) y

  gaps : (y : List Rational) → gap_of (flipped y) ≡ gap_of (straight (numbers.negated y))
  gaps y =
      ap₂ ◌-ℚ◌
      (ap (low_of (mirrored s)) (sym (negated-negated y))
      ∙ sym ((mirrors s no_norm_cone).lows (numbers.negated y)))
      (sym (same_products (λ f. f.constant) (λ f. constant-negated address_order f) y))

-- ---- the law

miss_negated : (fs : List Function) (v : Address) → Miss fs v → Miss (map negated fs) v
miss_negated fs v m =
    All-map (λ f. coefficient f v ≡ zero_ℚ) negated fs
    (All-weaker (λ f. coefficient f v ≡ zero_ℚ) (λ f. coefficient (negated f) v ≡ zero_ℚ)
    (λ f e. coefficient-negated address_order f v ∙ ap neg_ℚ e ∙ neg_ℚ-zero) fs m)

-- what names nothing at or below an address names nothing at or below its child
nothing_below_child : (at : Address) (n : ℕ) (fs : List Function) → All (NamesNothingBelow at) fs
    → All (NamesNothingBelow (child_of at n)) (map negated fs)
nothing_below_child at n fs h =
    All-map (NamesNothingBelow (child_of at n)) negated fs
    (All-weaker (NamesNothingBelow at) (λ f. NamesNothingBelow (child_of at n) (negated f))
    (λ f k rest.
    coefficient-negated address_order f (below (child_of at n) rest)
    ∙ ap (λ ps. neg_ℚ (coefficient f (record at { positions = ps })))
    (append_assoc at.positions (n ∷ []) rest)
    ∙ ap neg_ℚ (k (n ∷ rest)) ∙ neg_ℚ-zero) fs h)

module _ (edge : Edge) (item : Item) (child : Body) (f : IsFlip edge item child) where
  abbrev fs : List Function
  fs = functions_of item.body

  abbrev s : Set
  s = set_of item.body

  child_is : (y : List Rational) → row_held child y ≡ flipped fs s f.flips.no_norm_cone y
  child_is y = λ i. record { duals = y; functions = f.flips.functions i; set = f.flips.set i }

  same_length : length (functions_of child) ≡ length fs
  same_length = ap length f.flips.functions ∙ length-map fs negated

  is_one_row : OneRow edge item child
  is_one_row = record {
    source = f.flips.source;
    made = f.flips.made;
    values = λ one x h below. values fs s f.flips.no_norm_cone one x
        (subst (λ k. Holds one k x) (child_is []) below);
    holds = λ y h.
        subst (λ w. IsHeld (row_held item.body w)) (sym (f.back y))
        (holds fs s f.flips.no_norm_cone y f.item_valid.set (subst IsHeld (child_is y) h));
    same = λ y h v.
        ap (λ w. adjoint_of (row_held item.body w) v) (f.back y)
        ∙ same fs s f.flips.no_norm_cone y v
        ∙ sym (ap (λ k. adjoint_of k v) (child_is y));
    gaps = λ y h.
        ≤ℚ_from_≡ _ _ (ap gap_of (child_is y) ∙ gaps fs s f.flips.no_norm_cone y
        ∙ sym (ap (λ w. gap_of (row_held item.body w)) (f.back y)));
    valid = λ room few. record {
      function = f.flips.shaped;
      some = subst (λ n. 1 ≤ n) (sym same_length) f.item_valid.some;
      at_most = few;
      set = subst (λ n. IsSetOf n (set_of child)) (sym same_length)
          (subst (IsSetOf (length fs)) (sym f.flips.set)
          (mirrored_set (length fs) s f.item_valid.set));
      depth = subst (λ n. n ≤ 38) (sym (length-append item.at.positions (0 ∷ [])))
          (omega (arith, room));
      others = λ g. subst (All (NamesNothingBelow (child_of item.at 0))) (sym f.flips.functions)
          (nothing_below_child item.at 0 fs (f.item_valid.others f.flips.source.no_group));
    };
    sizes = subst (λ n. length (functions_of child) ≤ n * length fs) (sym f.no_growth)
        (omega (arith, same_length));
    leads = f.leads;
    mentioned = λ v m. subst (λ gs. Miss gs v) (sym f.flips.functions) (miss_negated fs v m);
  }

-- ---- families

-- what is carried back by a flip
abbrev pub negated_dual : Body → List Rational → List Rational
negated_dual row y = numbers.negated y

-- a family that flips such rows
pub flip_rule : {f : Family} {Source : Body → Type 0} {made : Body → Body}
    → RowRule f Source made negated_dual → growth f ≡ 1
    → sums_in_images f ≡ false → sums_of_duals f ≡ false
    → ((b : Body) → Source b → FlipsTo b (made b)) → UnsummedRule f Source made negated_dual
flip_rule {f} {Source} {made} rule no_growth no_sum no_dual_sum flips =
    unsummed rule no_sum no_dual_sum (λ edge own item valid source.
    is_one_row edge item (made item.body) (record {
      item_valid = valid;
      flips = flips item.body source.source;
      back = λ y. back_is rule edge own item (y ∷ []);
      no_growth = ap growth own ∙ no_growth;
      leads = source.leads;
    }))

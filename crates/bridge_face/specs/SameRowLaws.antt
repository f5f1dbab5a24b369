-- The law of an edge that makes a row of the same functions in the same set.
use Rattle.std.specs.Prelude.{◌≡◌, ◌≤◌, ◌*◌, List, [], ◌∷◌, All, length}
use Rattle.std.proofs.Common.{sym, ap, subst, ◌∙◌, arith}
use Rattle.std.proofs.lemmas.List.{length-append}
use Rattle.ratio_core.specs.Rational.{Rational}
use Rattle.rational_laws.specs.Order.{≤ℚ_from_≡}
use Rattle.aff_core.specs.Address.{child_of}
use Rattle.dual_laws.specs.Held.{Holds, IsHeld, adjoint_of, gap_of}
use Rattle.set_core.specs.Shapes.{IsSetOf}
use Rattle.item_core.specs.declared.edge.Edge.{Edge}
use Rattle.item_core.specs.declared.item.Body.{Body}
use Rattle.item_core.specs.declared.item.Item.{Item}
use Rattle.item_core.specs.Edge.{family_of}
use Rattle.item_core.specs.Item.{functions_of, set_of}
use Rattle.item_core.specs.Valid.{FitsItsFunction, IsValidItem, NamesNothingBelow}
use Rattle.bridge_face.specs.BackOf.{back_of}
use Rattle.bridge_face.specs.ComponentLaws.{all_unnamed_below}
use Rattle.bridge_face.specs.Law.{LeadsToKind, Miss, growth}
use Rattle.bridge_face.specs.OneRowLaws.{IsRowBody, OneRow, row_held}

-- what an edge owes that makes this row of the item
pub record SameRow (edge : Edge) (item : Item) (child : Body) : Type 0 where
  pub item_valid : IsValidItem item
  pub source : IsRowBody item.body
  pub made : IsRowBody child
  pub shaped : FitsItsFunction child
  pub functions : functions_of child ≡ functions_of item.body
  pub set : set_of child ≡ set_of item.body
  pub back : (y : List Rational) → back_of edge item (y ∷ []) ≡ y
  pub no_growth : growth (family_of edge) ≡ 1
  pub leads : LeadsToKind edge child

module _ (edge : Edge) (item : Item) (child : Body) (s : SameRow edge item child) where
  child_is : (y : List Rational) → row_held child y ≡ row_held item.body y
  child_is y = λ i. record { duals = y; functions = s.functions i; set = s.set i }

  back_is : (y : List Rational) → row_held item.body (back_of edge item (y ∷ [])) ≡ row_held child y
  back_is y = ap (row_held item.body) (s.back y) ∙ sym (child_is y)

  same_length : length (functions_of child) ≡ length (functions_of item.body)
  same_length = ap length s.functions

  pub same_is_one_row : OneRow edge item child
  same_is_one_row = record {
    source = s.source;
    made = s.made;
    values = λ one x h below. subst (λ k. Holds one k x) (child_is []) below;
    holds = λ y h. subst IsHeld (sym (back_is y)) h;
    same = λ y h v. ap (λ k. adjoint_of k v) (back_is y);
    gaps = λ y h. ≤ℚ_from_≡ _ _ (ap gap_of (sym (back_is y)));
    valid = λ room few. record {
      function = s.shaped;
      some = subst (λ n. 1 ≤ n) (sym same_length) s.item_valid.some;
      at_most = few;
      set = subst (λ n. IsSetOf n (set_of child)) (sym same_length)
          (subst (IsSetOf (length (functions_of item.body))) (sym s.set) s.item_valid.set);
      depth = subst (λ n. n ≤ 38) (sym (length-append item.at.positions (0 ∷ [])))
          (omega (arith, room));
      others = λ _. subst (All (NamesNothingBelow (child_of item.at 0))) (sym s.functions)
          (all_unnamed_below item.at 0 (functions_of item.body)
          (s.item_valid.others s.source.no_group));
    };
    sizes = subst (λ n. length (functions_of child) ≤ n * length (functions_of item.body))
        (sym s.no_growth) (omega (arith, same_length));
    leads = s.leads;
    mentioned = λ v m. subst (λ fs. Miss fs v) (sym s.functions) m;
  }

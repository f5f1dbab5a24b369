-- Of what is carried back the first that doesn't fit stands at one address, and nothing is reported
-- where everything fits.
use Rattle.std.specs.Prelude.{◌≡◌, ℕ, zero, suc, List, [], ◌∷◌, All}
use Rattle.std.proofs.Common.{inl, inr, sym, ◌∙◌}
use Rattle.std.proofs.lemmas.List.Elements.{All-head, All-tail}
use Rattle.adjoint_core.specs.CarriedBack.{AllFits, GapFits, IsFirstUnfitAddress, RowFits, RowsFit, Then, UnfitGap, UnfitRow}
use Rattle.adjoint_core.specs.Told.{FirstNot}
use Rattle.aff_core.specs.Address.{Address}
use Rattle.cert_core.specs.Folds.{AddUp, gap_parts_of}
use Rattle.dual_laws.specs.Held.{DualRow}
use Rattle.equality_form.specs.ReadBack.{AnswerByAddress, infeasible, optimal, unbounded}
use Rattle.expansion.specs.Bridged.{EachBridgedIn, each_in, none_in}
use Rattle.expansion.specs.Rules.{Rules}
use Rattle.fresh_bridging.specs.Entries.{Entry}
use Rattle.fresh_bridging.specs.FreshBridging.{FreshBridging}
use Rattle.fresh_bridging.specs.TheRules.{Setting}
use Rattle.item_core.specs.declared.item.Item.{Item}
use Rattle.ratio_core.specs.Folds.{sum_from}
use Rattle.ratio_core.specs.Rational.{Rational}
use Rattle.tree_laws.specs.Carried.{LeafAnswerDuals}
use Rattle.user_model.specs.Model.{ModelValue}

-- one address at most is reported, and none where all fits
pub record IsTold (Fits : Type 0) (Told : Address → Type 0) : Type 0 where
  pub once : (at other : Address) → Told at → Told other → at ≡ other
  pub unfit : (at : Address) → Told at → Fits → ⊥

told_nowhere : {Fits : Type 0} → IsTold Fits (λ at. ⊥)
told_nowhere = record { once = λ at other h k. absurd h; unfit = λ at h fits. h }

told_at : (P : Type 0) (place : Address) → IsTold P (λ at. ¬ P × (place ≡ at))
told_at P place = record {
  once = λ at other h k. sym h.1 ∙ k.1;
  unfit = λ at h fits. h.0 fits;
}

told_less : {Fits More : Type 0} {Told : Address → Type 0} → (More → Fits) → IsTold Fits Told
    → IsTold More Told
told_less less told = record { once = told.once; unfit = λ at h more. told.unfit at h (less more) }

module _ {Now Later : Type 0} {NotNow NotLater : Address → Type 0} (now : IsTold Now NotNow)
    (later : IsTold Later NotLater) where
  abbrev ToldThen : Address → Type 0
  ToldThen at = Then (NotNow at) Now (NotLater at)

  then_once : (at other : Address) → ToldThen at → ToldThen other → at ≡ other
  then_once at other (inl h) (inl k) = now.once at other h k
  then_once at other (inl h) (inr k) = absurd (now.unfit at h k.0)
  then_once at other (inr h) (inl k) = absurd (now.unfit other k h.0)
  then_once at other (inr h) (inr k) = later.once at other h.1 k.1

  then_unfit : (at : Address) → ToldThen at → Now × Later → ⊥
  then_unfit at (inl h) fits = now.unfit at h fits.0
  then_unfit at (inr h) fits = later.unfit at h.1 fits.1

  told_then : IsTold (Now × Later) ToldThen
  told_then = record { once = then_once; unfit = then_unfit }

-- ---- lists, rows and the gap

first_not_told : {X : Type 0} (P : X → Type 0) (place : X → Address) (xs : List X)
    → IsTold (All P xs) (FirstNot P place xs)
unfolding FirstNot
first_not_told P place [] = told_nowhere
first_not_told P place (x ∷ xs) =
    told_less (λ h. (All-head P x xs h, All-tail P x xs h))
    (told_then (told_at (P x) (place x)) (first_not_told P place xs))

module _ {rules : Rules Item Entry} (d : LeafAnswerDuals) where
  unfit_row_told : (n : ℕ) {inner : List Entry} {items : List Item}
      (others : EachBridgedIn rules inner items)
      → IsTold (RowsFit d n others) (UnfitRow d n others)
  unfolding RowsFit UnfitRow
  unfit_row_told zero others = told_nowhere
  unfit_row_told (suc n) none_in = told_nowhere
  unfit_row_told (suc n) (each_in {item} first rest) =
      told_then (told_at (RowFits d first) item.at) (unfit_row_told n rest)

unfit_gap_told : (sum : Rational) (hs : List (Address × DualRow))
    → IsTold (GapFits sum hs) (UnfitGap sum hs)
unfolding GapFits UnfitGap
unfit_gap_told sum [] = told_nowhere
unfit_gap_told sum (h ∷ hs) =
    told_then (told_at (AddUp sum (gap_parts_of h.1)) h.0)
    (unfit_gap_told (sum_from sum (gap_parts_of h.1)) hs)

-- ---- answers

pub first_unfit_told : {setting : Setting} {model : ModelValue}
    (bridging : FreshBridging setting model) (answer : AnswerByAddress)
    → IsTold (AllFits bridging answer) (IsFirstUnfitAddress bridging answer)
first_unfit_told bridging (optimal x y) =
    told_then (first_not_told _ _ _) (told_then (unfit_row_told _ _ bridging.made.others)
    (told_then (first_not_told _ _ _) (told_at _ _)))
first_unfit_told bridging (infeasible y) =
    told_then (unfit_row_told _ _ bridging.made.others)
    (told_then (first_not_told _ _ _) (unfit_gap_told _ _))
first_unfit_told bridging (unbounded x d) = first_not_told _ _ _

-- Kinds, looked at one after another, up to the first without a tree.
use Rattle.std.specs.Prelude.{◌≡◌, ℕ, Bool, List, [], ◌∷◌, ◌++◌, None, Result, Ok, Err, IsErrAnd, map}
use Rattle.std.proofs.Common.{ap, sym, subst, ◌∙◌}
use Rattle.std.proofs.lemmas.List.{map-append}
use Rattle.bridge_graph.specs.declared.Choice.{Choice}
use Rattle.aff_core.specs.Address.{Address}
use Rattle.item_core.specs.declared.item.Item.{Item}
use Rattle.item_core.specs.declared.kind.Kind.{Kind}
use Rattle.item_core.specs.KindOf.{group_kind_of, kind_of_body}
use Rattle.user_model.specs.declared.group.Group.{Group}
use Rattle.user_model.specs.declared.row.Row.{Row}
use Rattle.fresh_bridging.specs.ModelImage.{group_item, row_item}
use Rattle.model_bridging.specs.Kinds.{first_missing, kind_by, kinds_as_they_stand}
use Rattle.model_bridging.specs.PlanOutcome.{KindsOutcome}
use Rattle.model_bridging.specs.Treeless.{missing_first, missing_past}
use Rattle.model_bridging.specs.declared.fault.PushFault.{PushFault}
use Rattle.model_bridging.specs.declared.fault.PushFault.TheVariants.{Memory, Overflow, Unsupported}

module _ (choice : ℕ → Choice) where
  -- a refusal among the first is one among all
  refused_among : (T U : Type 0) (f : PushFault) (xs ys : List Kind)
      → KindsOutcome {T = U} (Err f) (first_missing choice xs)
      → KindsOutcome {T = T} (Err f) (first_missing choice (xs ++ ys))
  refused_among T U (Unsupported kind) xs ys h = missing_first choice xs ys kind h
  refused_among T U (Overflow at) xs ys h = absurd h
  refused_among T U Memory xs ys h = tt

  pub handed_first : (T U : Type 0) (r : Result T PushFault) (f : PushFault) (xs ys : List Kind)
      → IsErrAnd r (λ x. x ≡ f) → KindsOutcome {T = U} (Err f) (first_missing choice xs)
      → KindsOutcome r (first_missing choice (xs ++ ys))
  handed_first T U (Ok x) f xs ys is h = absurd is
  handed_first T U (Err x) f xs ys is h =
      subst (λ y. KindsOutcome {T = T} (Err y) (first_missing choice (xs ++ ys))) (sym is)
      (refused_among T U f xs ys h)

  pub answered_next : {T : Type 0} (r : Result T PushFault) (xs ys : List Kind)
      → first_missing choice xs ≡ None → KindsOutcome r (first_missing choice ys)
      → KindsOutcome r (first_missing choice (xs ++ ys))
  answered_next r xs ys none h = subst (KindsOutcome r) (sym (missing_past choice xs ys none)) h

  -- ---- loops: the first of those that are left is the first of all

  module _ (all left rest : List Kind) (k : Kind)
      (so_far : first_missing choice left ≡ first_missing choice all) (next : left ≡ k ∷ rest)
    where
      pub kinds_more : first_missing choice (k ∷ []) ≡ None
          → first_missing choice rest ≡ first_missing choice all
      kinds_more none =
          sym (missing_past choice (k ∷ []) rest none)
          ∙ (sym (ap (first_missing choice) next) ∙ so_far)

      pub kinds_refused : (T U : Type 0) (r : Result T PushFault) (f : PushFault)
          → IsErrAnd r (λ x. x ≡ f) → KindsOutcome {T = U} (Err f) (first_missing choice (k ∷ []))
          → KindsOutcome r (first_missing choice all)
      kinds_refused T U r f is h =
          subst (KindsOutcome r) (sym (ap (first_missing choice) next) ∙ so_far)
          (handed_first T U r f (k ∷ []) rest is h)

-- ---- what is left of the groups, and of the rows

pub next_group : (left rest : List Group) (group : Group) (kind : Kind) → left ≡ group ∷ rest
    → kind ≡ group_kind_of group.set
    → kinds_as_they_stand (map group_item left)
    ≡ kind ∷ kinds_as_they_stand (map group_item rest)
unfolding kind_of_body
next_group left rest group kind next is =
    ap (λ gs. kinds_as_they_stand (map group_item gs)) next
    ∙ ap (λ k. k ∷ kinds_as_they_stand (map group_item rest)) (sym is)

abbrev pub row_kinds : (Address → Bool) → List Row → List Kind
row_kinds kept rows = map (λ i. kind_by kept i.body) (map row_item rows)

pub next_row : (kept : Address → Bool) (left rest : List Row) (row : Row) (kind : Kind)
    → left ≡ row ∷ rest → kind ≡ kind_by kept (row_item row).body
    → row_kinds kept left ≡ kind ∷ row_kinds kept rest
next_row kept left rest row kind next is =
    ap (row_kinds kept) next ∙ ap (λ k. k ∷ row_kinds kept rest) (sym is)

-- the kinds of the rows and of the objective, by what was told of the variables
pub further_kinds : (kept told : Address → Bool) → ((v : Address) → told v ≡ kept v)
    → (rows objective : List Item)
    → map (λ i. kind_by kept i.body) (rows ++ objective)
    ≡ map (λ i. kind_by told i.body) rows ++ map (λ i. kind_by told i.body) objective
further_kinds kept told same rows objective =
    ap (λ (k : Address → Bool). map (λ (i : Item). kind_by k i.body) (rows ++ objective))
    (λ j v. sym (same v) j)
    ∙ map-append (λ i. kind_by told i.body) rows objective

-- Lists compared in turn: where each item is as the other's at its place, all are. And notes stay
-- where the items that differ name the same variables.
use Rattle.std.specs.Prelude.{◌≡◌, ◌<◌, ◌≤◌, ◌+◌, ◌&&◌, ◌||◌, ℕ, Bool, true, false, not, List, [], ◌∷◌, length, map, take, get_or, refl}
use Rattle.std.specs.List.{list_all, list_any, zip}
use Rattle.std.proofs.Common.{arith, ap, sym, ◌∙◌, true≢false}
use Rattle.std.proofs.lemmas.List.{take_all}
use Rattle.std.proofs.lemmas.List.Folds.{list_any_more}
use Rattle.std.specs.Option.{option_copied, option_map_or}
use Rattle.aff_core.specs.Address.{Address, address_eq, address_eq-Decides, root_address}
use Rattle.aff_core.specs.declared.root.Root.TheVariants as root
use Rattle.lazy_bridge.specs.Mentioned.{contents_name, is_noted, other_names, row_names}
use Rattle.push_laws.specs.Edits.{AttachedEdit}
use Rattle.touched_items.specs.Differences.{rows_in}
use Rattle.touched_items.specs.declared.differing.ModelItems.{ModelItems}
use Rattle.user_model.specs.Model.{objective_mentions}

-- ---- two lists, from the first to the last

module _ {X K : Type 0} (names : X → K → Bool) (xs ys : List X) where
  -- the first i of each name the same
  abbrev pub AreAlike : ℕ → Type 0
  AreAlike i =
      (k : K) → list_any (λ x. names x k) (take i xs) ≡ list_any (λ y. names y k) (take i ys)

  pub none_alike : AreAlike 0
  none_alike k = refl

  pub alike_more : (i : ℕ) (x y : X) → i < length xs → i < length ys → x ≡ get_or xs i x
      → y ≡ get_or ys i y → ((k : K) → names x k ≡ names y k) → AreAlike i → AreAlike (i + 1)
  alike_more i x y in_xs in_ys at_x at_y here h k =
      list_any_more (λ z. names z k) xs i x in_xs
      ∙ (λ j. h k j || (ap (λ z. names z k) (sym at_x) ∙ here k ∙ ap (λ z. names z k) at_y) j)
      ∙ sym (list_any_more (λ z. names z k) ys i y in_ys)

  pub all_alike : (i : ℕ) → length xs ≤ i → length ys ≤ i → AreAlike i → (k : K)
      → list_any (λ x. names x k) xs ≡ list_any (λ y. names y k) ys
  all_alike i end_xs end_ys h k =
      ap (list_any (λ x. names x k)) (sym (take_all i xs end_xs))
      ∙ h k
      ∙ ap (list_any (λ y. names y k)) (take_all i ys end_ys)

pub any_lent : {X Y : Type 0} (p : Y → Bool) (f : X → Y) (xs : List X)
    → list_any p (map f xs) ≡ list_any (λ x. p (f x)) xs
any_lent p f [] = refl
any_lent p f (x ∷ xs) = ap (λ b. p (f x) || b) (any_lent p f xs)

-- ---- terms with the same keys

both : (a b : Bool) → (a && b) ≡ true → (a ≡ true) × (b ≡ true)
both true b e = (refl, e)
both false b e = absurd (true≢false (sym e))

pub keys_name : {X : Type 0} (ts us : List (Address × X)) → length ts ≡ length us
    → list_all (λ p. address_eq p.0.0 p.1.0) (zip ts us) ≡ true → (v : Address)
    → list_any (λ t. address_eq v t.0) ts ≡ list_any (λ u. address_eq v u.0) us
keys_name [] [] long e v = refl
keys_name [] (u ∷ us) long e v = absurd (omega (arith, long))
keys_name (t ∷ ts) [] long e v = absurd (omega (arith, long))
keys_name (t ∷ ts) (u ∷ us) long e v =
    let parts = both (address_eq t.0 u.0) (list_all (λ p. address_eq p.0.0 p.1.0) (zip ts us)) e in
    let rest = keys_name ts us (omega (arith, long)) parts.1 v in
    λ i. address_eq v ((address_eq-Decides t.0 u.0).0 parts.0 i) || rest i

-- ---- rows and an objective

pub contents_alike : (one other : ModelItems)
    → ((var at : Address) → list_any (λ row. row_names row var at) (rows_in one)
    ≡ list_any (λ row. row_names row var at) (rows_in other))
    → ((var : Address) → option_map_or (objective_mentions var) (option_copied one.objective) false
    ≡ option_map_or (objective_mentions var) (option_copied other.objective) false)
    → (var at : Address) → contents_name one var at ≡ contents_name other var at
contents_alike one other rows objective var at = λ i.
    rows var at i || (address_eq at (root_address root.Objective 0) && objective var i)

-- ---- the items that differ

-- what is named before and after was noted, and is
stays : (was before after : Bool) → (before ≡ true → was ≡ true) → before ≡ after
    → was ≡ ((was && not before) || after)
stays true true true h e = refl
stays true false false h e = refl
stays false true true h e = absurd (true≢false (sym (h refl)))
stays false false false h e = refl
stays was true false h e = absurd (true≢false e)
stays was false true h e = absurd (true≢false (sym e))

pub still_noted : (e : AttachedEdit) → ((var at : Address)
    → contents_name e.d.before var at ≡ contents_name e.d.after var at) → (var at : Address)
    → is_noted e.places.noted var at
    ≡ ((is_noted e.places.noted var at && not (contents_name e.d.before var at))
    || contents_name e.d.after var at)
still_noted e alike var at =
    let was = e.held.noted var at in
    was
    ∙ stays (other_names e.model var at) (contents_name e.d.before var at)
    (contents_name e.d.after var at) (e.separates.named var at) (alike var at)
    ∙ ap (λ b. (b && not (contents_name e.d.before var at)) || contents_name e.d.after var at)
    (sym was)

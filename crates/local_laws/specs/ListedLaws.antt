-- What undos list, as addresses of items: each other item is the same before and after.
use Rattle.std.specs.Prelude.{◌≡◌, ◌==◌, ℕ, Bool, true, false, cond, List, [], ◌∷◌, ◌++◌, All, find, map, Option, Some, None, refl}
use Rattle.std.proofs.Common.{sym, ap, ap₂, ◌∙◌, true≢false}
use Rattle.std.specs.Option.{option_map, option_or}
use Rattle.std.proofs.lemmas.Bool.Decides.{Decides-eqb, Decides-like, same_from_decides}
use Rattle.std.proofs.lemmas.List.Elements.{All-head, All-tail}
use Rattle.std.proofs.lemmas.List.Folds.{find-append}
use Rattle.aff_core.specs.Address.{Address, address_eq, address_eq-Decides, root_address}
use Rattle.aff_core.specs.declared.root.Root.{Root}
use Rattle.aff_core.specs.declared.root.Root.TheVariants as root
use Rattle.item_core.specs.declared.item.Body.TheVariants.{PlainObj, AffineObj}
use Rattle.item_core.specs.declared.item.Item.{Item}
use Rattle.numbered_list.specs.Numbered as numbered
use Rattle.user_model.specs.Edited.{group_number, row_number}
use Rattle.user_model.specs.Model.{ModelValue}
use Rattle.user_model.specs.Undone.{IsOldObjective, IsUndo}
use Rattle.user_model.specs.declared.objective.Objective.{Objective}
use Rattle.user_model.specs.declared.objective.Objective.TheVariants as objective
use Rattle.user_model.specs.declared.undo.Undo.{Undo}
use Rattle.fresh_bridging.specs.ModelImage.{group_item, objective_item, objective_items, row_item}
use Rattle.fresh_bridging.specs.Touched.{item_at}
use Rattle.local_laws.specs.Held.{is_there}
use Rattle.local_laws.specs.Unlisted.{IsUnlisted, LeadBackTo}

-- ---- an item of a list with numbers

module _ {X : Type 0} (R : Root) (f : X → Item) (number_of : X → ℕ)
    (each : (x : X) → (f x).at ≡ root_address R (number_of x)) (at : Address) where
  abbrev pub At : Bool
  At = address_eq (root_address R at.number) at

  here_test : At ≡ true → (x : X) → is_there at (f x) ≡ (number_of x == at.number)
  here_test e x =
      let whole : root_address R at.number ≡ at = (address_eq-Decides (root_address R at.number) at).0 e
      in
      same_from_decides (is_there at (f x)) (number_of x == at.number)
      (Decides-like (is_there at (f x))
      (λ k. ap (λ (a : Address). a.number) (sym (each x) ∙ k))
      (λ k. each x ∙ ap (root_address R) k ∙ whole)
      (address_eq-Decides (f x).at at))
      (Decides-eqb (number_of x) at.number)

  other_test : At ≡ false → (x : X) → is_there at (f x) ≡ false
  other_test e x = by (is_there at (f x)) refl
    where
      by : (b : Bool) → is_there at (f x) ≡ b → b ≡ false
      by false k = refl
      by true k =
          let same : root_address R (number_of x) ≡ at =
          sym (each x) ∙ (address_eq-Decides (f x).at at).0 k in
          absurd (true≢false (sym ((address_eq-Decides (root_address R at.number) at).1
          (ap (root_address R) (sym (ap (λ (a : Address). a.number) same)) ∙ same)) ∙ e))

  pub found_by_number : At ≡ true → (xs : List X)
      → find (is_there at) (map f xs) ≡ option_map f (numbered.find number_of at.number xs)
  found_by_number e [] = refl
  found_by_number e (x ∷ xs) =
      ap₂ (λ b o. cond b (Some (f x)) o) (here_test e x) (found_by_number e xs)
      ∙ by (number_of x == at.number)
    where
      by : (b : Bool)
          → cond b (Some (f x)) (option_map f (numbered.find number_of at.number xs))
          ≡ option_map f (cond b (Some x) (numbered.find number_of at.number xs))
      by true = refl
      by false = refl

  pub found_nowhere : At ≡ false → (xs : List X) → find (is_there at) (map f xs) ≡ None
  found_nowhere e [] = refl
  found_nowhere e (x ∷ xs) =
      ap₂ (λ b o. cond b (Some (f x)) o) (other_test e x) (found_nowhere e xs)

  -- where the lists have the same at the address's number, the same is found
  found_alike : (xs ys : List X)
      → (at.root ≡ R → numbered.find number_of at.number xs ≡ numbered.find number_of at.number ys)
      → find (is_there at) (map f xs) ≡ find (is_there at) (map f ys)
  found_alike xs ys h = by At refl
    where
      by : (b : Bool) → At ≡ b → find (is_there at) (map f xs) ≡ find (is_there at) (map f ys)
      by true e =
          found_by_number e xs
          ∙ ap (option_map f) (h (ap (λ (a : Address). a.root)
          (sym ((address_eq-Decides (root_address R at.number) at).0 e))))
          ∙ sym (found_by_number e ys)
      by false e = found_nowhere e xs ∙ sym (found_nowhere e ys)

objective_alike : (at : Address) (a b : Objective) → (at.root ≡ root.Objective → a ≡ b)
    → find (is_there at) (objective_items a) ≡ find (is_there at) (objective_items b)
objective_alike at a b h = by (address_eq (root_address root.Objective 0) at) refl
  where
    nowhere : address_eq (root_address root.Objective 0) at ≡ false → (o : Objective)
        → find (is_there at) (objective_items o) ≡ None
    nowhere e objective.Feasibility = refl
    nowhere e (objective.Plain sense var) =
        ap (λ b. cond b (Some (objective_item (PlainObj sense var))) None) e
    nowhere e (objective.Affine sense func) =
        ap (λ b. cond b (Some (objective_item (AffineObj sense func))) None) e

    by : (t : Bool) → address_eq (root_address root.Objective 0) at ≡ t
        → find (is_there at) (objective_items a) ≡ find (is_there at) (objective_items b)
    by true e =
        ap (λ o. find (is_there at) (objective_items o)) (h (ap (λ (a : Address). a.root)
        (sym ((address_eq-Decides (root_address root.Objective 0) at).0 e))))
    by false e = nowhere e a ∙ sym (nowhere e b)

abbrev pub three : Option Item → Option Item → Option Item → Option Item
three a b c = option_or a (option_or b c)

pub by_parts : (model : ModelValue) (at : Address)
    → item_at model at
    ≡ three (find (is_there at) (map group_item model.groups))
    (find (is_there at) (map row_item model.rows))
    (find (is_there at) (objective_items model.objective))
by_parts model at =
    find-append (is_there at) (map group_item model.groups)
    (map row_item model.rows ++ objective_items model.objective)
    ∙ ap (option_or (find (is_there at) (map group_item model.groups)))
    (find-append (is_there at) (map row_item model.rows) (objective_items model.objective))

-- an item that an undo doesn't list is the same
pub unlisted_same : (old new : ModelValue) (undo : Undo) → IsUndo old new undo → (at : Address)
    → IsUnlisted undo at → item_at old at ≡ item_at new at
unlisted_same old new undo is at unlisted =
    by_parts old at
    ∙ (λ i. three (groups i) (rows i) (objectives i))
    ∙ sym (by_parts new at)
  where
    groups : find (is_there at) (map group_item old.groups)
        ≡ find (is_there at) (map group_item new.groups)
    groups =
        found_alike root.Group group_item group_number (λ g. refl) at old.groups new.groups
        (λ e. is.groups.all at.number (unlisted.groups e))

    rows : find (is_there at) (map row_item old.rows) ≡ find (is_there at) (map row_item new.rows)
    rows =
        found_alike root.Row row_item row_number (λ r. refl) at old.rows new.rows
        (λ e. is.rows.all at.number (unlisted.rows e))

    same_objective : (o : Option Objective) → IsOldObjective old.objective new.objective o
        → o ≡ None → old.objective ≡ new.objective
    same_objective None h e = h
    same_objective (Some x) h e = cc

    objectives : find (is_there at) (objective_items old.objective)
        ≡ find (is_there at) (objective_items new.objective)
    objectives =
        objective_alike at old.objective new.objective
        (λ e. same_objective undo.objective is.objective (unlisted.objective e))

-- so is one that none of the undos lists
pub none_lists_same : (old : ModelValue) (undos : List Undo) (new : ModelValue)
    → LeadBackTo old undos new → (at : Address) → All (λ undo. IsUnlisted undo at) undos
    → item_at old at ≡ item_at new at
none_lists_same old [] new is at h = ap (λ m. item_at m at) is
none_lists_same old (undo ∷ undos) new is at h =
    unlisted_same old is.0 undo is.1 at (All-head (λ u. IsUnlisted u at) undo undos h)
    ∙ none_lists_same is.0 undos new is.2 at (All-tail (λ u. IsUnlisted u at) undo undos h)

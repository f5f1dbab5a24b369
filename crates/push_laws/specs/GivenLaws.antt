-- What is given of an edit: the groups to be bridged anew stand at its addresses, before and after, and a
-- search finds no other group.
use Rattle.std.specs.Prelude.{◌≡◌, Bool, true, false, cond, List, [], ◌∷◌, All, Contains, filter, find as first_passing, is_some, Option, Some, refl}
use Rattle.std.specs.FinMap as finite
use Rattle.std.proofs.Common.{ap, sym, subst, ◌∙◌, true≢false}
use Rattle.std.proofs.lemmas.List.Elements.{All-cons, All-filter, All-head, All-map, All-nil, All-tail, All-weaker, Contains-append_left, Contains-append_right}
use Rattle.address_map.specs.Noted.{noted_items}
use Rattle.aff_core.specs.Address.{Address, address_eq-Decides}
use Rattle.push_laws.specs.Edits.{AreGroupsAt, AttachedEdit, IsSearch, old_here}
use Rattle.fresh_bridging.specs.Entries.{is_kept}
use Rattle.fresh_bridging.specs.FreshBridging.{expression_of}
use Rattle.fresh_bridging.specs.ModelImage.{group_item, items_of, model_image}
use Rattle.fresh_bridging.specs.Touched.{item_at}
use Rattle.item_core.specs.Item.{is_group}
use Rattle.item_core.specs.declared.item.Item.{Item}
use Rattle.leaf_update.specs.LeavesLaws.{among_contained, contains_among}
use Rattle.local_laws.specs.FoundLaws.{in_groups, item_of_group}
use Rattle.local_laws.specs.Held.{HasOwn, is_there}
use Rattle.local_laws.specs.LookedLaws.{found_passes}
use Rattle.local_laws.specs.MentionLaws.{IsBesideGroups, NotesMentions}
use Rattle.map_laws.specs.EachLaws.{all_both, all_from_map}
use Rattle.push_laws.specs.AloneLaws.{groups_found}
use Rattle.push_laws.specs.NamingLaws.{group_own, numbered_flat}
use Rattle.push_laws.specs.HandedLaws.{all_differing, is_found, only_differing}
use Rattle.push_laws.specs.ListLaws.{kept_item}
use Rattle.push_laws.specs.MarkedLaws.{marked_where}
use Rattle.push_laws.specs.SortedLaws.{passing_contained}
use Rattle.touched_items.specs.Differences.{differing_addresses, groups_in, own_variables, variables_in}
use Rattle.touched_items.specs.ExpressionLaws.{HasExpressions}
use Rattle.touched_items.specs.IndexLaws.{notes_are_index}
use Rattle.user_model.specs.Model.{ModelValue}
use Rattle.user_model.specs.Valid.{IsValid}
use Rattle.user_model.specs.declared.group.Group.{Group}
use Rattle.user_model.specs.declared.objective.Objective.{Objective}
use Rattle.user_model.specs.declared.row.Row.{Row}

-- ---- lists

pub same_filter : {A : Type 0} (p q : A → Bool) (xs : List A) → All (λ x. p x ≡ q x) xs
    → filter p xs ≡ filter q xs
same_filter p q [] h = refl
same_filter p q (x ∷ xs) h =
    by (p x) (q x) (All-head (λ x. p x ≡ q x) x xs h)
    (same_filter p q xs (All-tail (λ x. p x ≡ q x) x xs h))
  where
    by : (a b : Bool) → a ≡ b → filter p xs ≡ filter q xs
        → cond a (x ∷ filter p xs) (filter p xs) ≡ cond b (x ∷ filter q xs) (filter q xs)
    by true true e later = ap (λ l. x ∷ l) later
    by true false e later = absurd (true≢false e)
    by false true e later = absurd (true≢false (sym e))
    by false false e later = later

pub each_kept : {A : Type 0} (p : A → Bool) (xs : List A) → All (λ x. p x ≡ true) (filter p xs)
each_kept p [] = All-nil (λ x. p x ≡ true)
each_kept p (x ∷ xs) = by (p x) refl (each_kept p xs)
  where
    by : (b : Bool) → p x ≡ b → All (λ x. p x ≡ true) (filter p xs)
        → All (λ x. p x ≡ true) (cond b (x ∷ filter p xs) (filter p xs))
    by true e later = All-cons (λ x. p x ≡ true) x (filter p xs) e later
    by false e later = later

-- ---- groups at addresses

-- the group stands there, at one of the addresses
abbrev pub IsGivenAt : ModelValue → List Address → Item → Type 0
IsGivenAt model ats g = (item_at model g.at ≡ Some g) × Contains ats g.at

pub groups_given : (model : ModelValue) → IsValid model → (ats : List Address) (given : List Group)
    → AreGroupsAt model ats given → All (λ g. IsGivenAt model ats (group_item g)) given
groups_given model valid ats given are =
    all_from_map (IsGivenAt model ats) group_item given
    (subst (All (IsGivenAt model ats)) are
    (All-weaker
    (λ g. (first_passing (is_there g.at) (model_image model).groups ≡ Some g)
    × (is_found ats g ≡ true))
    (IsGivenAt model ats)
    (λ g h. (item_of_group model g.at g h.0, contains_among g.at ats h.1))
    (filter (is_found ats) (model_image model).groups)
    (all_both (λ g. first_passing (is_there g.at) (model_image model).groups ≡ Some g)
    (λ g. is_found ats g ≡ true) (filter (is_found ats) (model_image model).groups)
    (All-filter (is_found ats)
    (λ g. first_passing (is_there g.at) (model_image model).groups ≡ Some g)
    (model_image model).groups (groups_found model valid))
    (each_kept (is_found ats) (model_image model).groups))))

-- a group at one of the addresses is one of them, so its variables are among theirs
pub given_own : (model : ModelValue) (ats : List Address) (given : List Group)
    → AreGroupsAt model ats given → (v at : Address) (item : Item) → Contains ats at
    → item_at model at ≡ Some item → is_group item.body ≡ true → HasOwn v item
    → Contains (variables_in given) v
given_own model ats given are v at item c is group own =
    subst (λ l. Contains l v) (numbered_flat given)
    (group_own v given item
    (subst (λ l. Contains l item) are
    (kept_item (is_found ats) (model_image model).groups item
    (passing_contained (is_there at) (model_image model).groups item
    (in_groups model at item is group))
    (among_contained item.at ats
    (subst (Contains ats)
    (sym ((address_eq-Decides item.at at).0
    (found_passes (is_there at) (items_of model) item is))) c))))
    own)

-- where no other groups are found, those that are found are the same
pub found_as_given : (model : ModelValue) (ats found : List Address) (given : List Group)
    → ((at : Address) → Contains ats at → Contains found at)
    → ((g : Group) → Contains found (group_item g).at → Contains ats (group_item g).at)
    → AreGroupsAt model ats given → AreGroupsAt model found given
found_as_given model ats found given all only are =
    same_filter (is_found found) (is_found ats) (model_image model).groups
    (All-map (λ i. is_found found i ≡ is_found ats i) group_item model.groups
    (each model.groups))
    ∙ are
  where
    by : (g : Group) (a b : Bool) → is_found found (group_item g) ≡ a
        → is_found ats (group_item g) ≡ b → a ≡ b
    by g true true e f = refl
    by g true false e f =
        sym (among_contained (group_item g).at ats
        (only g (contains_among (group_item g).at found e))) ∙ f
    by g false true e f =
        sym e ∙ among_contained (group_item g).at found
        (all (group_item g).at (contains_among (group_item g).at ats f))
    by g false false e f = refl

    each : (gs : List Group) → All (λ g. is_found found (group_item g) ≡ is_found ats (group_item g)) gs
    each [] = All-nil (λ g. is_found found (group_item g) ≡ is_found ats (group_item g))
    each (g ∷ gs) =
        All-cons (λ g. is_found found (group_item g) ≡ is_found ats (group_item g)) g gs
        (by g (is_found found (group_item g)) (is_found ats (group_item g)) refl refl) (each gs)

-- ---- of an edit

module _ (e : AttachedEdit) where
  abbrev pub given_here : List Address
  given_here = differing_addresses e.d

  pub has_here : HasExpressions e.places (old_here e)
  has_here = record {
    exprs = e.held.exprs;
    marks = λ v c.
        ap (λ m. is_some (finite.get m v)) e.held.marks
        ∙ marked_where (λ v. is_kept (expression_of (old_here e) v)) _ v c;
  }

  pub index_here : NotesMentions e.model (noted_items e.places.noted)
  index_here = notes_are_index e.model e.held.valid e.places.noted e.held.noted

  pub before_given : All (λ g. IsGivenAt e.model given_here (group_item g)) (groups_in e.d.before)
  before_given =
      groups_given e.model e.held.valid given_here (groups_in e.d.before) e.separates.before

  pub behind_given : All (λ g. IsGivenAt e.after given_here (group_item g)) (groups_in e.d.after)
  behind_given = groups_given e.after e.valid given_here (groups_in e.d.after) e.separates.behind

  -- a variable of no group that is given
  pub beside : (v : Address) → ¬ (Contains (own_variables e.d) v)
      → IsBesideGroups e.model e.after given_here v
  beside v out = record {
    before = λ at item c is group own.
        out (Contains-append_left (variables_in (groups_in e.d.before))
        (variables_in (groups_in e.d.after)) v
        (given_own e.model given_here (groups_in e.d.before) e.separates.before v at item c is group
        own));
    behind = λ at item c is group own.
        out (Contains-append_right (variables_in (groups_in e.d.before))
        (variables_in (groups_in e.d.after)) v
        (given_own e.after given_here (groups_in e.d.after) e.separates.behind v at item c is group
        own));
  }

  -- ---- the search

  module _ (changed addresses : List Address) (rows : List Row) (objective : Option Objective)
      (search : IsSearch e changed addresses rows objective) where
    -- what is given is found
    pub given_found : (at : Address) → Contains given_here at → Contains addresses at
    given_found =
        all_differing (noted_items e.places.noted) given_here changed addresses search.order

    only_given : (g : Group) → Contains addresses (group_item g).at
        → Contains given_here (group_item g).at
    only_given g c =
        only_differing e.model (noted_items e.places.noted) index_here given_here changed addresses
        search.order g.id c

    pub groups_had : AreGroupsAt e.model addresses (groups_in e.d.before)
    groups_had =
        found_as_given e.model given_here addresses (groups_in e.d.before) given_found only_given
        e.separates.before

    pub groups_handed : AreGroupsAt e.after addresses (groups_in e.d.after)
    groups_handed =
        found_as_given e.after given_here addresses (groups_in e.d.after) given_found only_given
        e.separates.behind

    pub unfound : (i : Item) → is_found addresses i ≡ false → ¬ (Contains given_here i.at)
    unfound i out c =
        true≢false (sym (among_contained i.at addresses (given_found i.at c)) ∙ out)

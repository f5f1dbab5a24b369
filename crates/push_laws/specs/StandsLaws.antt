-- What is planned of found items stands after the change, each entry at an address of its own, and
-- what goes stood before and is planned nowhere.
use Rattle.std.specs.Prelude.{◌≡◌, ◌≢◌, ◌⊎◌, true, not, List, [], ◌∷◌, All, AllPairs, Contains, IsSome, filter, is_some, Option, Some, None, refl}
use Rattle.std.specs.FinMap as finite
use Rattle.std.specs.Map.{keys_of}
use Rattle.std.proofs.Common.{inl, inr, sym, ap, subst, ◌∙◌}
use Rattle.std.proofs.lemmas.List.Elements.{All-contains_itself, All-weaker}
use Rattle.std.proofs.lemmas.List.Kept.{AllPairs-cons, AllPairs-filter}
use Rattle.std.proofs.lemmas.Option.{none-some}
use Rattle.address_laws.specs.Apart.{Distinct}
use Rattle.aff_core.specs.Address.{Address, address_cmp, address_total}
use Rattle.expansion.specs.Read.{model_leaves, model_nodes}
use Rattle.fresh_bridging.specs.FreshBridging.{FreshBridging}
use Rattle.fresh_bridging.specs.TheRules.{Setting}
use Rattle.leaf_update.specs.LeavesLaws.{looked_among}
use Rattle.leaf_update.specs.Others.{others}
use Rattle.leaf_update.specs.Splice.{ArePutBeside, HaveDistinctKeys}
use Rattle.local_laws.specs.ChangedLaws.{IsGone, is_now, planned, was}
use Rattle.local_laws.specs.GoneLaws.{AreHad, all_kept, gone_is, gone_of, now_elsewhere, now_planned}
use Rattle.local_laws.specs.Held.{held_by}
use Rattle.local_laws.specs.LookedLaws.{contains_or_not}
use Rattle.local_laws.specs.OnceLaws.{keys_once}
use Rattle.local_laws.specs.RootLaws.{missing}
use Rattle.local_laws.specs.Sound.{IsValidUnder}
use Rattle.local_laws.specs.Stays.{StaysAt}
use Rattle.local_laws.specs.Views.{IsView, Part, look}
use Rattle.map_laws.specs.EachLaws.{all_from_map}
use Rattle.map_laws.specs.MadeLaws.{get_made}
use Rattle.map_laws.specs.PairLaws.{AllPairs-nil}
use Rattle.user_model.specs.Model.{ModelValue}

pub distinct_apart : (ks : List Address) → Distinct ks → AllPairs (λ a b. ¬ (b ≡ a)) ks
distinct_apart [] d = AllPairs-nil (λ a b. ¬ (b ≡ a))
distinct_apart (k ∷ ks) d =
    AllPairs-cons (λ a b. ¬ (b ≡ a)) k ks d.0 (distinct_apart ks d.1)

pub keys_entries : {X : Type 0} (es : List (Address × X)) → Distinct (keys_of es)
    → AllPairs (λ d e. ¬ (e.0 ≡ d.0)) es
keys_entries [] d = AllPairs-nil (λ d e. ¬ (e.0 ≡ d.0))
keys_entries (e ∷ es) d =
    AllPairs-cons (λ d e. ¬ (e.0 ≡ d.0)) e es
    (all_from_map (λ k. ¬ (k ≡ e.0)) (λ f. f.0) es d.0) (keys_entries es d.1)

some_there : {X : Type 0} (o : Option X) → o ≢ None → IsSome o
some_there None n = absurd (n refl)
some_there (Some x) n = refl

module _ {setting next : Setting} {model after : ModelValue} (sound : IsValidUnder setting model)
    (sound_after : IsValidUnder next after)
    (old : FreshBridging setting model) (new : FreshBridging next after)
    (found : List Address) (apart : AllPairs (λ a b. ¬ (b ≡ a)) found)
    (others_stay : (at : Address) → ¬ (Contains found at) → StaysAt old new at)
    {X : Type 0} (part : Part X) (view : IsView part) where
  -- addresses of found items at which all that these held stood, and nothing else
  pub record IsHadBy (had : List Address) : Type 0 where
    pub are : AreHad sound sound_after old new found part view had
    pub stood :
        (v : Address) → Contains had v → was sound sound_after old new found part view v ≢ None
    pub once : AllPairs (λ a b. ¬ (b ≡ a)) had

  abbrev pub entries : List (Address × X)
  entries = held_by new part found

  pub entries_once : AllPairs (λ d e. ¬ (e.0 ≡ d.0)) entries
  entries_once = keys_entries entries (keys_once sound_after new part view found apart)

  pub entries_apart : HaveDistinctKeys entries
  entries_apart = distinct_apart (keys_of entries) (keys_once sound_after new part view found apart)

  module _ (had : List Address) (is : IsHadBy had) where
    abbrev pub goes : List Address
    goes = others (keys_of entries) had

    goes_as : gone_of sound sound_after old new found part view had ≡ goes
    goes_as = λ i. filter (λ v. not (looked_among v entries i)) had

    pub goes_is : IsGone sound sound_after old new found part view goes
    goes_is =
        subst (IsGone sound sound_after old new found part view) goes_as
        (gone_is sound sound_after old new found part view had is.are)

    pub goes_beside : ArePutBeside goes entries
    goes_beside =
        All-weaker (λ e. Contains (keys_of entries) e.0) (λ e. ¬ (Contains goes e.0))
        (λ e c g. missing e.0 entries (goes_is.from e.0 g).0 c) entries
        (all_from_map (Contains (keys_of entries)) (λ e. e.0) entries
        (All-contains_itself (keys_of entries)))

    pub goes_once : AllPairs (λ a b. ¬ (b ≡ a)) goes
    goes_once =
        subst (AllPairs (λ a b. ¬ (b ≡ a))) goes_as
        (AllPairs-filter (λ a b. ¬ (b ≡ a)) (λ v. not (is_some (look v entries))) had is.once)

    pub goes_stood : All (λ at. IsSome (finite.get (finite.from_entries {R = address_cmp}
        (part (model_leaves old.made) (model_nodes old.made))) at)) goes
    goes_stood =
        subst (All (λ at. IsSome (finite.get (finite.from_entries {R = address_cmp}
        (part (model_leaves old.made) (model_nodes old.made))) at))) goes_as
        (All-weaker
        (λ v. Contains had v × (not (is_some (look v entries)) ≡ true))
        (λ at. IsSome (finite.get (finite.from_entries {R = address_cmp}
        (part (model_leaves old.made) (model_nodes old.made))) at))
        (λ v h. ap is_some (get_made address_total
        (part (model_leaves old.made) (model_nodes old.made)) v)
        ∙ some_there (was sound sound_after old new found part view v) (is.stood v h.0))
        (gone_of sound sound_after old new found part view had)
        (all_kept (λ v. not (is_some (look v entries))) had))

    -- what is planned stands
    pub planned_stands : (v : Address) (x : X) → look v entries ≡ Some x
        → is_now sound sound_after old new found part view v ≡ Some x
    planned_stands v x e = by (contains_or_not had v)
      where
        by : Contains had v ⊎ (¬ (Contains had v))
            → is_now sound sound_after old new found part view v ≡ Some x
        by (inl c) =
            now_planned sound sound_after old new found part view had is.are others_stay v c ∙ e
        by (inr n) =
            among (now_elsewhere sound sound_after old new found part view had is.are others_stay v n)
          where
            among : ((planned sound sound_after old new found part view v ≡ None)
                × (is_now sound sound_after old new found part view v
                ≡ was sound sound_after old new found part view v))
                ⊎ ((was sound sound_after old new found part view v ≡ None)
                × (is_now sound sound_after old new found part view v
                ≡ planned sound sound_after old new found part view v))
                → is_now sound sound_after old new found part view v ≡ Some x
            among (inl h) = absurd (none-some x (sym h.0 ∙ e))
            among (inr h) = h.1 ∙ e

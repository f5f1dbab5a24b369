-- The whole after a change, by what was there: what is found anew comes from the items that were
-- found alone, what goes is what these had and have no more, and all else is as it was.
use Rattle.std.specs.Prelude.{◌≡◌, ◌≢◌, ◌⊎◌, List, [], ◌∷◌, All, Contains, Option, Some, None, refl}
use Rattle.std.proofs.Common.{inl, inr, sym, ap, ap₂, subst, ◌∙◌}
use Rattle.std.specs.Option.{option_or}
use Rattle.std.proofs.lemmas.List.Elements.{All-cons, All-nil}
use Rattle.map_laws.specs.EachLaws.{contains_here, contains_later}
use Rattle.aff_core.specs.Address.{Address}
use Rattle.user_model.specs.Model.{ModelValue}
use Rattle.fresh_bridging.specs.FreshBridging.{FreshBridging}
use Rattle.fresh_bridging.specs.TheRules.{Setting}
use Rattle.local_laws.specs.JoinedLaws.{joined_none, joined_of, joined_some, one_owner}
use Rattle.local_laws.specs.LookedLaws.{contains_or_not, looked, nobody_looks, owner_looks, owner_or_none}
use Rattle.local_laws.specs.Owner.{IsOwner}
use Rattle.local_laws.specs.Sound.{IsValidUnder}
use Rattle.local_laws.specs.Stays.{StaysAt}
use Rattle.local_laws.specs.StaysLaws.{holds_alike}
use Rattle.local_laws.specs.Views.{IsView, Part, look, look_in}

module _ {setting next : Setting} {model after : ModelValue} (sound : IsValidUnder setting model)
    (sound_after : IsValidUnder next after)
    (old : FreshBridging setting model) (new : FreshBridging next after)
    (found : List Address)
    {X : Type 0} (part : Part X) (view : IsView part) where
  abbrev pub was : Address → Option X
  was v = looked setting sound.costly sound.lawful model sound.valid old part view v

  abbrev pub is_now : Address → Option X
  is_now v =
      looked next sound_after.costly sound_after.lawful after sound_after.valid new part view v

  -- what is planned of the items that were found
  abbrev pub planned : Address → Option X
  planned v = look v (joined_of sound_after new v part view found)

  -- the addresses that items that were found had, and have no more
  pub record IsGone (gone : List Address) : Type 0 where
    pub from :
        (v : Address) → Contains gone v
        → (planned v ≡ None) × ((at : Address) × Contains found at × IsOwner model v at)
    pub all :
        (v at : Address) → Contains found at → IsOwner model v at → was v ≢ None
        → planned v ≡ None → Contains gone v

  module _ (others : (at : Address) → ¬ (Contains found at) → StaysAt old new at)
      (gone : List Address) (are : IsGone gone) (v : Address) where
    pub stays_before : (b : Address) → ¬ (Contains found b) → IsOwner after v b → IsOwner model v b
    stays_before b n o =
        record { item = o.item; is = (others b n).same ∙ o.is; mine = o.mine }

    pub stays_behind : (b : Address) → ¬ (Contains found b) → IsOwner model v b → IsOwner after v b
    stays_behind b n o =
        record { item = o.item; is = sym (others b n).same ∙ o.is; mine = o.mine }

    -- of an owner that stays all is as it was
    pub as_it_was : (b : Address) → ¬ (Contains found b) → IsOwner model v b → was v ≡ is_now v
    as_it_was b n o =
        owner_looks setting sound.costly sound.lawful model sound.valid old part view v b o
        ∙ ap (look_in v part) (holds_alike old new b (others b n))
        ∙ sym (owner_looks next sound_after.costly sound_after.lawful after sound_after.valid new
        part view v b (stays_behind b n o))

    pub no_owner : ((at : Address) → Contains found at → ¬ (IsOwner after v at)) → planned v ≡ None
    no_owner h =
        joined_none sound_after new v part view found (each found (λ at c. c))
      where
        each : (xs : List Address) → ((at : Address) → Contains xs at → Contains found at)
            → All (λ at. ¬ (IsOwner after v at)) xs
        each [] k = All-nil (λ at. ¬ (IsOwner after v at))
        each (x ∷ xs) k =
            All-cons (λ at. ¬ (IsOwner after v at)) x xs (h x (k x (contains_here x xs)))
            (each xs (λ at c. k at (contains_later x at xs c)))

    -- where nothing is planned and it doesn't go, what stood there had an owner that stays, or
    -- nothing stood there
    nothing_stood : ¬ (Contains gone v) → planned v ≡ None → is_now v ≡ None → was v ≡ None
    nothing_stood stays none now =
        by (owner_or_none setting sound.costly sound.lawful model sound.valid old v)
      where
        settled : (o : Option X) → was v ≡ o → ¬ (was v ≢ None) → o ≡ None
        settled None e n = refl
        settled (Some x) e n = absurd (n (λ f. some_none x (sym e ∙ f)))
          where
            some_none : (x : X) → Some x ≡ None → ⊥
            some_none x e = cc

        by : ((at : Address) × IsOwner model v at) ⊎ ((at : Address) → ¬ (IsOwner model v at))
            → was v ≡ None
        by (inr n) = nobody_looks setting sound.costly sound.lawful model sound.valid old part view v n
        by (inl (c, p)) = among (contains_or_not found c)
          where
            among : Contains found c ⊎ (¬ (Contains found c)) → was v ≡ None
            among (inl k) = settled (was v) refl (λ some. stays (are.all v c k p some none))
            among (inr k) = as_it_was c k p ∙ now

    pub gone_now : Contains gone v → is_now v ≡ None
    gone_now g =
        by (owner_or_none next sound_after.costly sound_after.lawful after sound_after.valid new v)
      where
        by : ((at : Address) × IsOwner after v at) ⊎ ((at : Address) → ¬ (IsOwner after v at))
            → is_now v ≡ None
        by (inr n) =
            nobody_looks next sound_after.costly sound_after.lawful after sound_after.valid new part
            view v n
        by (inl (b, o)) = among (contains_or_not found b)
          where
            among : Contains found b ⊎ (¬ (Contains found b)) → is_now v ≡ None
            among (inl k) =
                sym (joined_some sound_after new v part view b o found k) ∙ (are.from v g).0
            among (inr k) =
                let had = (are.from v g).1 in
                absurd (k (subst (Contains found)
                (one_owner sound old v had.0 b had.2 (stays_before b k o)) had.1))

    pub planned_now : ¬ (Contains gone v) → is_now v ≡ option_or (planned v) (was v)
    planned_now stays =
        by (owner_or_none next sound_after.costly sound_after.lawful after sound_after.valid new v)
      where
        or_was : (now : Option X) → is_now v ≡ now → planned v ≡ now
            → now ≡ option_or now (was v)
        or_was (Some x) e f = refl
        or_was None e f = sym (nothing_stood stays f e)

        by : ((at : Address) × IsOwner after v at) ⊎ ((at : Address) → ¬ (IsOwner after v at))
            → is_now v ≡ option_or (planned v) (was v)
        by (inr n) =
            let now = nobody_looks next sound_after.costly sound_after.lawful after
            sound_after.valid new part view v n in
            let none = no_owner (λ at c. n at) in
            now ∙ sym (ap₂ option_or none (nothing_stood stays none now))
        by (inl (b, o)) = among (contains_or_not found b)
          where
            among : Contains found b ⊎ (¬ (Contains found b))
                → is_now v ≡ option_or (planned v) (was v)
            among (inl k) =
                let same = joined_some sound_after new v part view b o found k in
                or_was (is_now v) refl same ∙ ap (λ p. option_or p (was v)) (sym same)
            among (inr k) =
                sym (as_it_was b k (stays_before b k o))
                ∙ sym (ap (λ p. option_or p (was v))
                (no_owner (λ at c p. k (subst (Contains found)
                (one_owner sound_after new v at b p o) c))))

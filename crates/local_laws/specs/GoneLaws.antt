-- What goes, as code finds it: of the addresses at which found items held something, those at which
-- nothing is planned.
use Rattle.std.specs.Prelude.{◌≡◌, ◌≢◌, ◌⊎◌, zero, suc, Bool, true, false, cond, not, List, [], ◌∷◌, All, Contains, filter, is_some, Option, Some, None, refl}
use Rattle.std.specs.Map.{keys_of}
use Rattle.std.proofs.Common.{inl, inr, arith, sym, ap, subst, ◌∙◌, true≢false}
use Rattle.std.proofs.lemmas.List.Elements.{All-cons, All-contains, All-nil, All-weaker, All-contains_itself}
use Rattle.std.proofs.lemmas.Option.{none-some}
use Rattle.map_laws.specs.EachLaws.{contains_here, contains_later}
use Rattle.aff_core.specs.Address.{Address, address_eq, address_eq-Decides}
use Rattle.user_model.specs.Model.{ModelValue}
use Rattle.fresh_bridging.specs.FreshBridging.{FreshBridging}
use Rattle.fresh_bridging.specs.TheRules.{Setting}
use Rattle.local_laws.specs.ChangedLaws.{IsGone, as_it_was, is_now, no_owner, planned, stays_before, stays_behind, was}
use Rattle.local_laws.specs.Held.{held_by}
use Rattle.local_laws.specs.JoinedLaws.{joined_some, one_owner}
use Rattle.local_laws.specs.LookedLaws.{contains_or_not, nobody_looks, owner_or_none}
use Rattle.local_laws.specs.OnceLaws.{owned_by}
use Rattle.local_laws.specs.Owner.{IsOwner}
use Rattle.local_laws.specs.Sound.{IsValidUnder}
use Rattle.local_laws.specs.Stays.{StaysAt}
use Rattle.local_laws.specs.Views.{IsView, Part, look}

-- ---- lists

pub key_found : {X : Type 0} (v : Address) (es : List (Address × X)) (x : X) → look v es ≡ Some x
    → Contains (keys_of es) v
key_found v [] x e = absurd (none-some x e)
key_found v (d ∷ es) x e = by (address_eq v d.0) refl e (λ g. key_found v es x g)
  where
    by : (b : Bool) → address_eq v d.0 ≡ b → cond b (Some d.1) (look v es) ≡ Some x
        → (look v es ≡ Some x → Contains (keys_of es) v) → Contains (keys_of (d ∷ es)) v
    by true same e later =
        subst (Contains (keys_of (d ∷ es))) (sym ((address_eq-Decides v d.0).0 same))
        (contains_here d.0 (keys_of es))
    by false other e later = contains_later d.0 v (keys_of es) (later e)

module _ (p : Address → Bool) where
  pub kept_in : (ks : List Address) (v : Address) → Contains ks v → p v ≡ true
      → Contains (filter p ks) v
  kept_in [] v c t = absurd (omega (arith, c.1))
  kept_in (k ∷ ks) v (zero, inside, is) t =
      subst (λ b. Contains (cond b (k ∷ filter p ks) (filter p ks)) v) (sym (ap p is ∙ t))
      (subst (Contains (k ∷ filter p ks)) is (contains_here k (filter p ks)))
  kept_in (k ∷ ks) v (suc i, inside, is) t =
      by (p k) (kept_in ks v (i, omega (arith, inside), is) t)
    where
      by : (b : Bool) → Contains (filter p ks) v
          → Contains (cond b (k ∷ filter p ks) (filter p ks)) v
      by true c = contains_later k v (filter p ks) c
      by false c = c

  pub all_kept : (ks : List Address) → All (λ v. Contains ks v × (p v ≡ true)) (filter p ks)
  all_kept [] = All-nil (λ v. Contains [] v × (p v ≡ true))
  all_kept (k ∷ ks) =
      by (p k) refl (All-weaker (λ v. Contains ks v × (p v ≡ true))
      (λ v. Contains (k ∷ ks) v × (p v ≡ true)) (λ v h. (contains_later k v ks h.0, h.1))
      (filter p ks) (all_kept ks))
    where
      by : (b : Bool) → p k ≡ b → All (λ v. Contains (k ∷ ks) v × (p v ≡ true)) (filter p ks)
          → All (λ v. Contains (k ∷ ks) v × (p v ≡ true)) (cond b (k ∷ filter p ks) (filter p ks))
      by true e h =
          All-cons (λ v. Contains (k ∷ ks) v × (p v ≡ true)) k (filter p ks)
          (contains_here k ks, e) h
      by false e h = h

pub all_at : {A : Type 0} (P : A → Type 0) (xs : List A) → ((x : A) → Contains xs x → P x) → All P xs
all_at {A} P xs h = All-weaker (Contains xs) P h xs (All-contains_itself xs)

nothing_there : {X : Type 0} (o : Option X) → not (is_some o) ≡ true → o ≡ None
nothing_there None e = refl
nothing_there (Some x) e = absurd (true≢false (sym e))

-- ---- what goes

module _ {setting next : Setting} {model after : ModelValue} (sound : IsValidUnder setting model)
    (sound_after : IsValidUnder next after)
    (old : FreshBridging setting model) (new : FreshBridging next after)
    (found : List Address)
    {X : Type 0} (part : Part X) (view : IsView part) where
  abbrev plan : Address → Option X
  plan v = planned sound sound_after old new found part view v

  -- a list of addresses of found items, with each at which these held something
  pub record AreHad (had : List Address) : Type 0 where
    pub owners :
        (v : Address) → Contains had v
        → (at : Address) × Contains found at × IsOwner model v at
    pub all :
        (v at : Address) → Contains found at → IsOwner model v at
        → was sound sound_after old new found part view v ≢ None → Contains had v

  -- such are the keys of what they held
  pub keys_had : AreHad (keys_of (held_by old part found))
  keys_had = record {
    owners = λ v c.
        All-contains (λ v. (at : Address) × Contains found at × IsOwner model v at)
        (keys_of (held_by old part found)) v each c;
    all = λ v at c o some. there v at c o some (look v (held_by old part found)) refl;
  }
    where
      each : All (λ v. (at : Address) × Contains found at × IsOwner model v at)
          (keys_of (held_by old part found))
      each =
          owned_by sound old part view
          (λ v. (at : Address) × Contains found at × IsOwner model v at) found
          (all_at (λ at. (k : Address) → IsOwner model k at
          → (at : Address) × Contains found at × IsOwner model k at) found
          (λ at c k o. (at, c, o)))

      there : (v at : Address) → Contains found at → IsOwner model v at
          → was sound sound_after old new found part view v ≢ None
          → (p : Option X) → look v (held_by old part found) ≡ p
          → Contains (keys_of (held_by old part found)) v
      there v at c o some None e =
          absurd (some (sym (joined_some sound old v part view at o found c) ∙ e))
      there v at c o some (Some x) e = key_found v (held_by old part found) x e

  -- of such a list what goes is that at which nothing is planned
  abbrev pub gone_of : List Address → List Address
  gone_of had = filter (λ v. not (is_some (look v (held_by new part found)))) had

  module _ (had : List Address) (are : AreHad had) where
    pub gone_is : IsGone sound sound_after old new found part view (gone_of had)
    gone_is = record {
      from = λ v c.
          let all = All-contains (λ v. Contains had v
          × (not (is_some (look v (held_by new part found))) ≡ true)) (gone_of had) v
          (all_kept (λ v. not (is_some (look v (held_by new part found)))) had) c in
          (nothing_there (plan v) all.1, are.owners v all.0);
      all = λ v at c o some none.
          kept_in (λ v. not (is_some (look v (held_by new part found)))) had v
          (are.all v at c o some) (ap (λ o. not (is_some o)) none);
    }

    module _ (others : (at : Address) → ¬ (Contains found at) → StaysAt old new at) where
      -- where a found item held something, what is there now is what is planned
      pub now_planned : (v : Address) → Contains had v
          → is_now sound sound_after old new found part view v ≡ plan v
      now_planned v c =
          let own = are.owners v c in
          by own (owner_or_none next sound_after.costly sound_after.lawful after sound_after.valid new
          v)
        where
          by : ((at : Address) × Contains found at × IsOwner model v at)
              → ((at : Address) × IsOwner after v at) ⊎ ((at : Address) → ¬ (IsOwner after v at))
              → is_now sound sound_after old new found part view v ≡ plan v
          by own (inl (b, o)) = among (contains_or_not found b)
            where
              among : Contains found b ⊎ (¬ (Contains found b))
                  → is_now sound sound_after old new found part view v ≡ plan v
              among (inl k) = sym (joined_some sound_after new v part view b o found k)
              among (inr k) =
                  absurd (k (subst (Contains found)
                  (one_owner sound old v own.0 b own.2
                  (stays_before sound sound_after old new found part view others (gone_of had) gone_is v b
                  k o)) own.1))
          by own (inr n) =
              nobody_looks next sound_after.costly sound_after.lawful after sound_after.valid new part
              view v n
              ∙ sym (no_owner sound sound_after old new found part view others (gone_of had) gone_is v
              (λ at m. n at))

      -- elsewhere it is what is planned, where nothing stood, or what was there, where nothing is
      -- planned
      pub now_elsewhere : (v : Address) → ¬ (Contains had v)
          → ((plan v ≡ None) × (is_now sound sound_after old new found part view v
          ≡ was sound sound_after old new found part view v))
          ⊎ ((was sound sound_after old new found part view v ≡ None)
          × (is_now sound sound_after old new found part view v ≡ plan v))
      now_elsewhere v out =
          by (owner_or_none next sound_after.costly sound_after.lawful after sound_after.valid new v)
        where
          settled : (o : Option X) → was sound sound_after old new found part view v ≡ o
              → ¬ (was sound sound_after old new found part view v ≢ None) → o ≡ None
          settled None e n = refl
          settled (Some x) e n = absurd (n (λ f. none-some x (sym f ∙ e)))

          -- nothing stood where each owner after the change was found, or there is none
          nothing_stood : ((b : Address) → IsOwner after v b → Contains found b)
              → was sound sound_after old new found part view v ≡ None
          nothing_stood h =
              before (owner_or_none setting sound.costly sound.lawful model sound.valid old v)
            where
              before : ((at : Address) × IsOwner model v at) ⊎ ((at : Address) → ¬ (IsOwner model v at))
                  → was sound sound_after old new found part view v ≡ None
              before (inr n) =
                  nobody_looks setting sound.costly sound.lawful model sound.valid old part view v n
              before (inl (a, p)) = among (contains_or_not found a)
                where
                  among : Contains found a ⊎ (¬ (Contains found a))
                      → was sound sound_after old new found part view v ≡ None
                  among (inl c) =
                      settled (was sound sound_after old new found part view v) refl
                      (λ some. out (are.all v a c p some))
                  among (inr k) =
                      absurd (k (h a (stays_behind sound sound_after old new found part view others
                      (gone_of had) gone_is v a k p)))

          by : ((at : Address) × IsOwner after v at) ⊎ ((at : Address) → ¬ (IsOwner after v at))
              → ((plan v ≡ None) × (is_now sound sound_after old new found part view v
              ≡ was sound sound_after old new found part view v))
              ⊎ ((was sound sound_after old new found part view v ≡ None)
              × (is_now sound sound_after old new found part view v ≡ plan v))
          by (inl (b, o)) = among (contains_or_not found b)
            where
              among : Contains found b ⊎ (¬ (Contains found b))
                  → ((plan v ≡ None) × (is_now sound sound_after old new found part view v
                  ≡ was sound sound_after old new found part view v))
                  ⊎ ((was sound sound_after old new found part view v ≡ None)
                  × (is_now sound sound_after old new found part view v ≡ plan v))
              among (inl k) =
                  inr (
                    nothing_stood (λ q p. subst (Contains found)
                        (one_owner sound_after new v b q o p) k),
                    sym (joined_some sound_after new v part view b o found k),
                  )
              among (inr k) =
                  inl (
                    no_owner sound sound_after old new found part view others (gone_of had) gone_is v
                        (λ at c p. k (subst (Contains found) (one_owner sound_after new v at b p o) c)),
                    sym (as_it_was sound sound_after old new found part view others (gone_of had) gone_is v b
                        k (stays_before sound sound_after old new found part view others (gone_of had) gone_is v
                        b k o)),
                  )
          by (inr n) =
              inr (
                nothing_stood (λ b p. absurd (n b p)),
                nobody_looks next sound_after.costly sound_after.lawful after sound_after.valid new part
                    view v n
                    ∙ sym (no_owner sound sound_after old new found part view others (gone_of had) gone_is v
                    (λ at m. n at)),
              )

-- Runs of a map's addresses, one item's after another: each stands once, and is of its item; and the
-- run of an objective, which stands at one address at most.
use Rattle.std.specs.Prelude.{◌≡◌, ◌||◌, Bool, true, false, cond, List, [], ◌∷◌, ◌++◌, All, AllPairs, Contains, flat_map, map, refl}
use Rattle.std.specs.FinMap as finite
use Rattle.std.specs.FinMap.{FinMap}
use Rattle.std.specs.declared.cmp.Ordering.TheVariants.{Equal, Less}
use Rattle.std.proofs.Common.{sym, ap, subst, ◌∙◌}
use Rattle.std.proofs.lemmas.Cmp.{tied_itself}
use Rattle.std.proofs.lemmas.List.Elements.{All-append, All-contains, All-nil, All-weaker}
use Rattle.std.proofs.lemmas.List.Kept.{AllPairs-filter}
use Rattle.aff_core.specs.Address.{Address, address_cmp, address_eq, address_eq-Decides, address_total}
use Rattle.item_leaves.specs.ItemLeaves.{is_of, item_of, those_of}
use Rattle.leaf_update.specs.LeavesLaws.{contains_among}
use Rattle.leaf_update.specs.Others.{among}
use Rattle.local_laws.specs.GoneLaws.{all_kept}
use Rattle.map_laws.specs.EachLaws.{contains_here, contains_later}
use Rattle.map_laws.specs.EntryLaws.{key_less}
use Rattle.map_laws.specs.PairLaws.{AllPairs-append, AllPairs-head, AllPairs-map, AllPairs-nil, AllPairs-tail}
use Rattle.user_model.specs.Model.{variable_address}
use Rattle.user_model.specs.declared.group.GroupVar.{GroupVar}

abbrev pub numbered : List GroupVar → List Address
numbered vars = map (λ v. variable_address v.number) vars

abbrev pub Apart : List Address → Type 0
Apart ks = AllPairs (λ a b. ¬ (b ≡ a)) ks

-- ---- addresses of a map, each once

pub less_apart : (a b : Address) → address_cmp a b ≡ Less → ¬ (b ≡ a)
less_apart a b less same =
    let e : Equal ≡ Less =
    sym (tied_itself address_total a) ∙ subst (λ c. address_cmp a c ≡ Less) same less in cc

pub keys_once : {X : Type 0} (m : FinMap address_cmp X) → Apart (finite.keys m)
keys_once {X} m =
    AllPairs-map (λ a b. ¬ (b ≡ a)) (λ (e : Address × X). e.0)
    (λ d e. address_cmp d.0 e.0 ≡ Less) (finite.entries m)
    (λ d e less. less_apart d.0 e.0 less)
    (λ i j d lt end. key_less address_total (finite.entries m) i j d (finite.entries_sorted m) lt end)

-- ---- runs

module _ (ats : List Address) where
  abbrev pub runs_of : List Address → List Address
  runs_of found = flat_map (λ at. those_of at ats) found

  pub here : (at : Address) → All (λ v. Contains ats v × (item_of v ≡ at)) (those_of at ats)
  here at =
      All-weaker (λ v. Contains ats v × (is_of at v ≡ true))
      (λ v. Contains ats v × (item_of v ≡ at))
      (λ v h. (h.0, (address_eq-Decides (item_of v) at).0 h.1)) (those_of at ats)
      (all_kept (is_of at) ats)

  pub each_stands : (found : List Address) → All (Contains ats) (runs_of found)
  each_stands [] = All-nil (Contains ats)
  each_stands (at ∷ found) =
      All-append (Contains ats) (those_of at ats) (runs_of found)
      (All-weaker (λ v. Contains ats v × (item_of v ≡ at)) (Contains ats) (λ v h. h.0)
      (those_of at ats) (here at)) (each_stands found)

  -- each is of one of the items
  pub each_of : (found : List Address) → All (λ v. Contains found (item_of v)) (runs_of found)
  each_of [] = All-nil (λ v. Contains [] (item_of v))
  each_of (at ∷ found) =
      All-append (λ v. Contains (at ∷ found) (item_of v)) (those_of at ats) (runs_of found)
      (All-weaker (λ v. Contains ats v × (item_of v ≡ at))
      (λ v. Contains (at ∷ found) (item_of v))
      (λ v h. subst (Contains (at ∷ found)) (sym h.1) (contains_here at found))
      (those_of at ats) (here at))
      (All-weaker (λ v. Contains found (item_of v)) (λ v. Contains (at ∷ found) (item_of v))
      (λ v c. contains_later at (item_of v) found c) (runs_of found) (each_of found))

  pub runs_once : (found : List Address) → Apart ats → Apart found → Apart (runs_of found)
  runs_once [] once apart = AllPairs-nil (λ a b. ¬ (b ≡ a))
  runs_once (at ∷ found) once apart =
      AllPairs-append (λ a b. ¬ (b ≡ a)) (those_of at ats) (runs_of found)
      (AllPairs-filter (λ a b. ¬ (b ≡ a)) (is_of at) ats once)
      (runs_once found once (AllPairs-tail (λ a b. ¬ (b ≡ a)) at found apart))
      (All-weaker (λ v. Contains ats v × (item_of v ≡ at))
      (λ v. All (λ w. ¬ (w ≡ v)) (runs_of found))
      (λ v h. All-weaker (λ w. Contains found (item_of w)) (λ w. ¬ (w ≡ v))
      (λ w c same. All-contains (λ b. ¬ (b ≡ at)) found (item_of w)
      (AllPairs-head (λ a b. ¬ (b ≡ a)) at found apart) c (ap item_of same ∙ h.1))
      (runs_of found) (each_of found)) (those_of at ats) (here at))

-- ---- of the objective, which stands at one address at most

pub only_run : (at : Address) (found : List Address) → Apart found
    → flat_map (λ a. those_of a (at ∷ [])) found ≡ cond (among found (item_of at)) (at ∷ []) []
only_run at [] apart = refl
only_run at (a ∷ found) apart =
    by (address_eq (item_of at) a) refl
    (only_run at found (AllPairs-tail (λ a b. ¬ (b ≡ a)) a found apart))
  where
    absent : item_of at ≡ a → (b : Bool) → among found (item_of at) ≡ b → b ≡ false
    absent same false e = refl
    absent same true e =
        absurd (All-contains (λ b. ¬ (b ≡ a)) found (item_of at)
        (AllPairs-head (λ a b. ¬ (b ≡ a)) a found apart)
        (contains_among (item_of at) found e) same)

    by : (b : Bool) → address_eq (item_of at) a ≡ b
        → flat_map (λ a. those_of a (at ∷ [])) found
        ≡ cond (among found (item_of at)) (at ∷ []) []
        → cond b (at ∷ []) [] ++ flat_map (λ a. those_of a (at ∷ [])) found
        ≡ cond (b || among found (item_of at)) (at ∷ []) []
    by false e later = later
    by true e later =
        ap (λ l. at ∷ l) (later ∙ ap (λ b. cond b (at ∷ []) [])
        (absent ((address_eq-Decides (item_of at) a).0 e) (among found (item_of at)) refl))

pub no_run : (found : List Address) → flat_map (λ a. those_of a []) found ≡ []
no_run [] = refl
no_run (a ∷ found) = no_run found

pub same_either : (b : Bool) → ◌≡◌ {A = List Address} [] (cond b [] [])
same_either true = refl
same_either false = refl

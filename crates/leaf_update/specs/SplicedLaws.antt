-- What stands at an address of a map from which some addresses go, and into which entries of
-- distinct addresses are put.
use Rattle.std.specs.Prelude.{◌≡◌, zero, suc, true, cond, List, [], ◌∷◌, All, AllPairs, Contains, Option, Some, None, refl}
use Rattle.std.specs.BTreeMap.{is_at}
use Rattle.std.specs.FinMap as finite
use Rattle.std.specs.FinMap.{FinMap}
use Rattle.std.specs.Map.{lookup}
use Rattle.std.specs.Option.{option_or}
use Rattle.std.proofs.Common.{arith, sym, ◌∙◌, ap, subst}
use Rattle.std.proofs.lemmas.List.Elements.{All-head, All-tail}
use Rattle.aff_core.specs.Address.{Address, address_cmp}
use Rattle.aff_core.specs.KeyOrder.{IsKeyOrder, address_order, other_key, same_key, same_or_other}
use Rattle.leaf_update.specs.Puts.{put_all}
use Rattle.map_laws.specs.EachLaws.{contains_here, contains_later}
use Rattle.map_laws.specs.PairLaws.{AllPairs-head, AllPairs-tail}
use Rattle.leaf_update.specs.Splice.{without_all}

-- ---- what stands at a key once one is put or removed

module _ {K X : Type 0} {R : K → K → _} (o : IsKeyOrder R) where
  pub get_put : (m : FinMap R X) (k : K) (v : X) → finite.get (finite.insert m k v) k ≡ Some v
  get_put m k v =
      finite.get-insert o.total m k v k ∙ ap (λ b. cond b (Some v) (finite.get m k)) (same_key o k)

  pub get_past : (m : FinMap R X) (k : K) (v : X) (q : K) → ¬ (q ≡ k)
      → finite.get (finite.insert m k v) q ≡ finite.get m q
  get_past m k v q n =
      finite.get-insert o.total m k v q ∙ ap (λ b. cond b (Some v) (finite.get m q))
      (other_key o q k n)

  pub get_gone : (m : FinMap R X) (k : K) → finite.get (finite.remove m k) k ≡ None
  get_gone m k =
      finite.get-remove o.total m k k ∙ ap (λ b. cond b None (finite.get m k)) (same_key o k)

  pub get_beside : (m : FinMap R X) (k q : K) → ¬ (q ≡ k)
      → finite.get (finite.remove m k) q ≡ finite.get m q
  get_beside m k q n =
      finite.get-remove o.total m k q ∙ ap (λ b. cond b None (finite.get m q)) (other_key o q k n)

-- ---- at an address

module _ {X : Type 0} (v : Address) where
  abbrev pub look : List (Address × X) → Option X
  look es = lookup (is_at (address_cmp v)) es

  pub none_without : (m : FinMap address_cmp X) (gone : List Address) → finite.get m v ≡ None
      → finite.get (without_all m gone) v ≡ None
  none_without m [] e = e
  none_without m (at ∷ gone) e =
      none_without (finite.remove m at) gone
      (same_or_other address_order _ v at
      (λ s. ap (finite.get (finite.remove m at)) s ∙ get_gone address_order m at)
      (λ n. get_beside address_order m at v n ∙ e))

  pub get_without : (m : FinMap address_cmp X) (gone : List Address) → Contains gone v
      → finite.get (without_all m gone) v ≡ None
  get_without m [] c = absurd (omega (arith, c.1))
  get_without m (at ∷ gone) (zero, inside, is) =
      none_without (finite.remove m at) gone
      (ap (finite.get (finite.remove m at)) (sym is) ∙ get_gone address_order m at)
  get_without m (at ∷ gone) (suc place, inside, is) =
      get_without (finite.remove m at) gone (place, omega (arith, inside), is)

  pub get_left : (m : FinMap address_cmp X) (gone : List Address) → ¬ (Contains gone v)
      → finite.get (without_all m gone) v ≡ finite.get m v
  get_left m [] n = refl
  get_left m (at ∷ gone) n =
      get_left (finite.remove m at) gone (λ c. n (contains_later at v gone c))
      ∙ get_beside address_order m at v
      (λ s. n (subst (Contains (at ∷ gone)) (sym s) (contains_here at gone)))

  no_key : (es : List (Address × X)) → All (λ e. ¬ (e.0 ≡ v)) es → look es ≡ None
  no_key [] h = refl
  no_key (e ∷ es) h =
      ap (λ b. cond b (Some e.1) (look es))
      (other_key address_order v e.0 (λ s. All-head (λ e. ¬ (e.0 ≡ v)) e es h (sym s)))
      ∙ no_key es (All-tail (λ e. ¬ (e.0 ≡ v)) e es h)

  pub get_put_all : (m : FinMap address_cmp X) (es : List (Address × X))
      → AllPairs (λ d e. ¬ (e.0 ≡ d.0)) es
      → finite.get (put_all m es) v ≡ option_or (look es) (finite.get m v)
  get_put_all m [] h = refl
  get_put_all m (e ∷ es) h =
      get_put_all (finite.insert m e.0 e.1) es (AllPairs-tail (λ d e. ¬ (e.0 ≡ d.0)) e es h)
      ∙ same_or_other address_order _ v e.0 here there
    where
      here : v ≡ e.0 → option_or (look es) (finite.get (finite.insert m e.0 e.1) v)
          ≡ option_or (look (e ∷ es)) (finite.get m v)
      here s =
          ap (λ o. option_or o (finite.get (finite.insert m e.0 e.1) v))
          (no_key es (subst (λ k. All (λ d. ¬ (d.0 ≡ k)) es) (sym s)
          (AllPairs-head (λ d e. ¬ (e.0 ≡ d.0)) e es h)))
          ∙ ap (finite.get (finite.insert m e.0 e.1)) s
          ∙ get_put address_order m e.0 e.1
          ∙ sym (ap (λ b. option_or (cond b (Some e.1) (look es)) (finite.get m v))
          (subst (λ k. is_at (address_cmp k) e.0 ≡ true) (sym s) (same_key address_order e.0)))

      there : ¬ (v ≡ e.0) → option_or (look es) (finite.get (finite.insert m e.0 e.1) v)
          ≡ option_or (look (e ∷ es)) (finite.get m v)
      there n =
          ap (option_or (look es)) (get_past address_order m e.0 e.1 v n)
          ∙ sym (ap (λ b. option_or (cond b (Some e.1) (look es)) (finite.get m v))
          (other_key address_order v e.0 n))

-- What lists of leaves that a solver's model can have are by address: each entry stands alone, and all
-- that rows and the objective name stands.
use Rattle.std.specs.Prelude.{◌≡◌, ◌≤◌, ◌||◌, Bool, true, false, cond, List, [], ◌∷◌, All, AllPairs, Contains, is_some, Some, None, flat_map, length, refl}
use Rattle.std.specs.BTreeMap.{is_at}
use Rattle.std.specs.Cmp.{eq_by_cmp_equiv}
use Rattle.std.specs.FinMap as finite
use Rattle.std.specs.List.{AllByRecursion}
use Rattle.std.specs.Map.{lookup}
use Rattle.std.proofs.Common.{arith, sym, ◌∙◌, subst, true≢false}
use Rattle.std.proofs.lemmas.List.Elements.{All-append, All-cons, All-head, All-nil, All-tail, All-weaker}
use Rattle.std.proofs.lemmas.List.Kept.{AllPairs-cons}
use Rattle.std.proofs.lemmas.Map.Keys.{IsDistinct-head, IsDistinct-tail}
use Rattle.std.proofs.lemmas.Map.Views.{list_any-from_Contains}
use Rattle.std.proofs.lemmas.Option.{none-some}
use Rattle.aff_core.specs.Address.{Address, address_cmp, address_eq, address_eq-Decides, address_total}
use Rattle.aff_core.specs.Rising.{HasDistinctKeys}
use Rattle.equality_form.specs.Native.{NamesVariables}
use Rattle.fresh_bridging.specs.Leaves.{leaf_model_of, leaf_objectives, leaf_rows}
use Rattle.item_core.specs.Item.{functions_of}
use Rattle.item_core.specs.declared.item.Body.{Body}
use Rattle.item_core.specs.declared.item.Body.TheVariants.{Group, Free, Plain, Affine, PlainVec, AffineVec, PlainObj, AffineObj}
use Rattle.item_core.specs.declared.item.Item.{Item}
use Rattle.leaf_update.specs.Leaves.{AreLeaves, NamesLeaves}
use Rattle.leaf_update.specs.Objective.{HasOneAddress}
use Rattle.leaf_update.specs.Others.{among}
use Rattle.leaf_update.specs.ReadableLaws.{found_passes}
use Rattle.leaf_update.specs.Splice.{HaveDistinctKeys, NamesOwn, keys_of}
use Rattle.leaf_model.specs.LeafModel.{LeafModel}
use Rattle.map_laws.specs.EachLaws.{contains_later}
use Rattle.map_laws.specs.PairLaws.{AllPairs-map, AllPairs-nil}

-- ---- keys

pub contains_among : (q : Address) (ks : List Address) → among ks q ≡ true → Contains ks q
contains_among q [] e = absurd (true≢false (sym e))
contains_among q (k ∷ ks) e = by (address_eq q k) refl e (contains_among q ks)
  where
    by : (b : Bool) → address_eq q k ≡ b → (b || among ks q) ≡ true
        → (among ks q ≡ true → Contains ks q) → Contains (k ∷ ks) q
    by true same h later = (0, omega arith, sym ((address_eq-Decides q k).0 same))
    by false other h later = contains_later k q ks (later h)

pub among_contained : (q : Address) (ks : List Address) → Contains ks q → among ks q ≡ true
among_contained q ks c = list_any-from_Contains (eq_by_cmp_equiv address_total) q ks c

module _ {X : Type 0} where
  -- entries of distinct keys are apart
  pub entries_apart : (es : List (Address × X)) → HasDistinctKeys address_cmp es
      → AllPairs (λ d e. ¬ (e.0 ≡ d.0)) es
  entries_apart [] h = AllPairs-nil (λ d e. ¬ (e.0 ≡ d.0))
  entries_apart (e ∷ es) h =
      AllPairs-cons (λ d e. ¬ (e.0 ≡ d.0)) e es
      (each es (IsDistinct-head address_eq e.0 (keys_of es) h))
      (entries_apart es (IsDistinct-tail address_eq e.0 (keys_of es) h))
    where
      each : (fs : List (Address × X))
          → AllByRecursion (λ y. address_eq e.0 y ≡ false) (keys_of fs)
          → All (λ f. ¬ (f.0 ≡ e.0)) fs
      each [] k = All-nil (λ f. ¬ (f.0 ≡ e.0))
      each (f ∷ fs) k =
          All-cons (λ f. ¬ (f.0 ≡ e.0)) f fs
          (λ s. true≢false (sym ((address_eq-Decides e.0 f.0).1 (sym s)) ∙ k.0)) (each fs k.1)

  pub keys_apart : (es : List (Address × X)) → HasDistinctKeys address_cmp es → HaveDistinctKeys es
  keys_apart es h =
      AllPairs-map (λ a b. ¬ (b ≡ a)) (λ (e : Address × X). e.0) (λ d e. ¬ (e.0 ≡ d.0)) es
      (λ d e n. n) (entries_apart es h)

  pub looked_among : (q : Address) (fs : List (Address × X))
      → is_some (lookup (is_at (address_cmp q)) fs) ≡ among (keys_of fs) q
  looked_among q [] = refl
  looked_among q (f ∷ fs) = by (address_eq q f.0) (looked_among q fs)
    where
      by : (b : Bool) → is_some (lookup (is_at (address_cmp q)) fs) ≡ among (keys_of fs) q
          → is_some (cond b (Some f.1) (lookup (is_at (address_cmp q)) fs))
          ≡ (b || among (keys_of fs) q)
      by true later = refl
      by false later = later

-- ---- what leaves name

module _ (model : LeafModel) where
  abbrev NamesIn : Address × Body → Type 0
  NamesIn e = All (NamesVariables model) (functions_of e.1)

  each_names : (f : Item → List (Address × Body))
      → ((i : Item) → All (λ (e : Address × Body). e.1 ≡ i.body) (f i)) → (leaves : List Item)
      → All (NamesLeaves model) leaves → All NamesIn (flat_map f leaves)
  each_names f own [] h = All-nil NamesIn
  each_names f own (i ∷ leaves) h =
      All-append NamesIn (f i) (flat_map f leaves)
      (All-weaker (λ (e : Address × Body). e.1 ≡ i.body) NamesIn
      (λ e s. subst (λ b. All (NamesVariables model) (functions_of b)) (sym s)
      (All-head (NamesLeaves model) i leaves h)) (f i) (own i))
      (each_names f own leaves (All-tail (NamesLeaves model) i leaves h))

  found_names : (es : List (Address × Body)) → All NamesIn es → (at : Address) (body : Body)
      → finite.get (finite.from_entries {R = address_cmp} es) at ≡ Some body
      → All (NamesVariables model) (functions_of body)
  found_names es h at body e =
      found_passes NamesIn es at body h (sym (finite.get-from_entries address_total es at) ∙ e)

abbrev IsBody : Body → Address × Body → Type 0
IsBody b e = e.1 ≡ b

alone : (at : Address) (b : Body) → All (IsBody b) ((at, b) ∷ [])
alone at b = All-cons (IsBody b) (at, b) [] refl (All-nil (IsBody b))

row_bodies : (i : Item) → All (IsBody i.body) (leaf_rows i)
row_bodies i = by i.body
  where
    by : (b : Body) → All (IsBody b) (leaf_rows (record { at = i.at; body = b }))
    by (Group set vars) = All-nil (IsBody (Group set vars))
    by (Free vars) = All-nil (IsBody (Free vars))
    by (PlainObj sense var) = All-nil (IsBody (PlainObj sense var))
    by (AffineObj sense func) = All-nil (IsBody (AffineObj sense func))
    by (Plain var set) = alone i.at (Plain var set)
    by (Affine func set) = alone i.at (Affine func set)
    by (PlainVec vars set) = alone i.at (PlainVec vars set)
    by (AffineVec func set) = alone i.at (AffineVec func set)

objective_bodies : (i : Item) → All (IsBody i.body) (leaf_objectives i)
objective_bodies i = by i.body
  where
    by : (b : Body) → All (IsBody b) (leaf_objectives (record { at = i.at; body = b }))
    by (Group set vars) = All-nil (IsBody (Group set vars))
    by (Free vars) = All-nil (IsBody (Free vars))
    by (Plain var set) = All-nil (IsBody (Plain var set))
    by (Affine func set) = All-nil (IsBody (Affine func set))
    by (PlainVec vars set) = All-nil (IsBody (PlainVec vars set))
    by (AffineVec func set) = All-nil (IsBody (AffineVec func set))
    by (PlainObj sense var) = alone i.at (PlainObj sense var)
    by (AffineObj sense func) = alone i.at (AffineObj sense func)

-- at most one objective stands at one address
pub one_at : (os : List (Address × Body)) → length os ≤ 1
    → HasOneAddress (finite.from_entries {R = address_cmp} os)
one_at [] h one other f g e k =
    absurd (none-some f (sym (finite.get-from_entries {R = address_cmp} address_total [] one) ∙ e))
one_at (o ∷ []) h one other f g e k = its one f e ∙ sym (its other g k)
  where
    its : (q : Address) (b : Body)
        → finite.get (finite.from_entries {R = address_cmp} (o ∷ [])) q ≡ Some b → q ≡ o.0
    its q b s = by (address_eq q o.0) refl
        (sym (finite.get-from_entries address_total (o ∷ []) q) ∙ s)
      where
        by : (t : Bool) → address_eq q o.0 ≡ t → cond t (Some o.1) None ≡ Some b → q ≡ o.0
        by true same d = (address_eq-Decides q o.0).0 same
        by false n d = absurd (none-some b d)
one_at (o ∷ p ∷ os) h one other f g e k = absurd (omega (arith, h))

-- of leaves that a solver's model can have
module _ (leaves : List Item) (are : AreLeaves leaves) where
  pub names_own : NamesOwn (leaf_model_of leaves)
  names_own = record {
    rows = found_names (leaf_model_of leaves) (flat_map leaf_rows leaves)
        (each_names (leaf_model_of leaves) leaf_rows row_bodies leaves are.names);
    objective = found_names (leaf_model_of leaves) (flat_map leaf_objectives leaves)
        (each_names (leaf_model_of leaves) leaf_objectives objective_bodies leaves are.names);
  }

  pub has_one : HasOneAddress (leaf_model_of leaves).objective
  has_one = one_at (flat_map leaf_objectives leaves) are.objective

-- Each refusal of an edit is right: the first item without a tree is of the kind that is answered, and
-- where each has one, the first item that doesn't fit stands at the address.
use Rattle.std.specs.Prelude.{◌≡◌, Bool, true, false, List, [], ◌∷◌, All, Contains, filter, is_some, map, refl}
use Rattle.std.specs.FinMap as finite
use Rattle.std.specs.Map.{keys_of}
use Rattle.std.proofs.Common.{ap, sym, ◌∙◌}
use Rattle.std.proofs.lemmas.List.Elements.{All-contains}
use Rattle.aff_core.specs.Address.{Address, address_cmp, address_total}
use Rattle.leaf_update.specs.LeavesLaws.{among_contained, contains_among, looked_among}
use Rattle.leaf_update.specs.Others.{among}
use Rattle.local_laws.specs.GoneLaws.{all_kept, kept_in}
use Rattle.map_laws.specs.MadeLaws.{get_made}

-- ---- marks

keys_marked : (vs : List Address) → keys_of (map {B = Address × Unit {0}} (λ v. (v, tt)) vs) ≡ vs
keys_marked [] = refl
keys_marked (v ∷ vs) = ap (λ l. v ∷ l) (keys_marked vs)

-- of some addresses those that pass are marked
pub marked_where : (f : Address → Bool) (vs : List Address) (v : Address) → Contains vs v
    → is_some (finite.get (finite.from_entries {R = address_cmp}
    (map {B = Address × Unit {0}} (λ v. (v, tt)) (filter f vs))) v) ≡ f v
marked_where f vs v c =
    ap is_some (get_made address_total (map {B = Address × Unit {0}} (λ v. (v, tt)) (filter f vs)) v)
    ∙ looked_among v (map {B = Address × Unit {0}} (λ v. (v, tt)) (filter f vs))
    ∙ ap (λ l. among l v) (keys_marked (filter f vs))
    ∙ by (f v) refl (among (filter f vs) v) refl
  where
    by : (b : Bool) → f v ≡ b → (k : Bool) → among (filter f vs) v ≡ k → k ≡ b
    by true e true g = refl
    by true e false g = sym g ∙ among_contained v (filter f vs) (kept_in f vs v c e)
    by false e true g =
        sym (All-contains (λ v. Contains vs v × (f v ≡ true)) (filter f vs) v (all_kept f vs)
        (contains_among v (filter f vs) g)).1 ∙ e
    by false e false g = refl

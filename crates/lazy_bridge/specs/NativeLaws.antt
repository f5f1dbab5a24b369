-- What tables that support nothing but what a solver takes say, and that the targets' tables are
-- such.
use Rattle.std.specs.Prelude.{◌≡◌, ◌||◌, ℕ, zero, suc, Bool, true, not, List, [], ◌∷◌, Some, slice_get, refl}
use Rattle.std.specs.List.{list_all, zip}
use Rattle.std.proofs.lemmas.Option.{none-some, same_Some}
use Rattle.map_laws.specs.EachLaws.{all_at}
use Rattle.fresh_bridging.specs.TableLaws.{and_first, kind_stands}
use Rattle.fresh_bridging.specs.TheRules.{Setting}
use Rattle.item_core.specs.declared.kind.Kind.{Kind}
use Rattle.item_core.specs.declared.kind.TheConstants.{KINDS}
use Rattle.item_core.specs.declared.table.Target.{Target}
use Rattle.item_core.specs.declared.table.Target.TheVariants.{Standard, Rows, Cone, All, Less}
use Rattle.item_core.specs.Kind.{is_native, kind_number}
use Rattle.item_core.specs.Table.{target_table}
use Rattle.lazy_bridge.specs.Native.{frees_alike, supports_native}
use Rattle.tree_laws.specs.LeafLaws.{SupportsNativeKinds, is_leaf_kind}

pub targets_native : (target : Target) → supports_native (target_table target) ≡ true
unfolding target_table is_native
targets_native Standard = refl
targets_native Rows = refl
targets_native Cone = refl
targets_native All = refl
targets_native Less = refl

both_at : {A B : Type 0} (xs : List A) (ys : List B) (n : ℕ) (x : A) (y : B)
    → slice_get xs n ≡ Some x → slice_get ys n ≡ Some y → slice_get (zip xs ys) n ≡ Some (x, y)
both_at [] ys n x y e k = absurd (none-some x e)
both_at (a ∷ xs) [] n x y e k = absurd (none-some y k)
both_at (a ∷ xs) (b ∷ ys) zero x y e k = λ i. Some (same_Some a x e i, same_Some b y k i)
both_at (a ∷ xs) (b ∷ ys) (suc n) x y e k = both_at xs ys n x y e k

pub supported : (setting : Setting) → supports_native setting.table ≡ true
    → SupportsNativeKinds setting
supported setting h kind e =
    let test = λ (p : Kind × Bool). not p.1 || is_leaf_kind p.0 in
    let pairs = zip KINDS.kinds setting.table.supported in
    all_at test pairs (kind_number kind) (kind, true)
    (and_first (list_all test pairs) (frees_alike setting.table) h)
    (both_at KINDS.kinds setting.table.supported (kind_number kind) kind true (kind_stands kind) e)

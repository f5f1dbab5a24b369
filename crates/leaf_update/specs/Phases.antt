-- Several leaves set or removed one after another.
--     ChangesAtKeys       nothing outside some addresses changes, and n of them differ more
--     SetsVariables SetsRows      leaves are set
--     DropsRows           leaf rows are removed
--     AreDroppable HasDropped      leaf variables are, which nobody names any more
use Rattle.std.specs.Prelude.{◌≡◌, ℕ, List, All, AllPairs, Contains, IsSome, Some}
use Rattle.std.specs.FinMap as finite
use Rattle.std.specs.FinMap.{FinMap}
use Rattle.address_map.specs.AddressMap.{AddressMap}
use Rattle.aff_core.specs.Address.{Address, address_cmp}
use Rattle.bridge_face.specs.Law.{Miss}
use Rattle.item_core.specs.Item.{functions_of}
use Rattle.item_core.specs.declared.item.Body.{Body}
use Rattle.leaf_update.specs.Puts.{objectives_in, put_all, rows_in, variables_in}
use Rattle.leaf_update.specs.Splice.{keys_of, without_all}
use Rattle.leaf_update.specs.Steps.{CallsAtMost, CountsMore, Extends, StaysBeside, StaysBesideRows}
use Rattle.solver_store.specs.SolverModel.{Leaves}
use Rattle.solver_store.specs.declared.leaf.LeafVar.{LeafVar}

-- whatever the start, if each of the addresses was there as it is
abbrev pub CountsAt : {X : Type 0} → FinMap address_cmp X → FinMap address_cmp X → List Address → ℕ
    → Type 0
CountsAt {X} m n keys c =
    (start : FinMap address_cmp X)
    → All (λ at. finite.get m at ≡ finite.get start at) keys → CountsMore start m n c

pub record ChangesAtKeys {X : Type 0} (m n : FinMap address_cmp X) (keys : List Address)
    (c : ℕ) : Type 0 where
  pub outside : (q : Address) → ¬ (Contains keys q) → finite.get n q ≡ finite.get m q
  pub counts : CountsAt m n keys c

-- ---- leaves are set

pub record SetsVariables (old : AddressMap) (leaves : Leaves) (es : List (Address × LeafVar))
    (n : ℕ) (new : AddressMap) (after : Leaves) : Type 0 where
  pub beside : StaysBeside old leaves new after
  pub set : variables_in new after ≡ put_all (variables_in old leaves) es
  pub extends : Extends old.vars.indices new.vars.indices
  pub calls : CallsAtMost leaves after n
  pub changes : ChangesAtKeys (variables_in old leaves) (variables_in new after) (keys_of es) n

pub record SetsRows (old : AddressMap) (leaves : Leaves) (es : List (Address × Body))
    (n : ℕ) (new : AddressMap) (after : Leaves) : Type 0 where
  pub beside : StaysBesideRows old leaves new after
  pub set : rows_in new after ≡ put_all (rows_in old leaves) es
  pub extends : Extends old.rows.indices new.rows.indices
  pub calls : CallsAtMost leaves after n
  pub changes : ChangesAtKeys (rows_in old leaves) (rows_in new after) (keys_of es) n

-- ---- leaves are removed

pub record DropsRows (old : AddressMap) (leaves : Leaves) (gone : List Address)
    (n : ℕ) (new : AddressMap) (after : Leaves) : Type 0 where
  pub beside : StaysBesideRows old leaves new after
  pub dropped : rows_in new after ≡ without_all (rows_in old leaves) gone
  pub extends : Extends new.rows.indices old.rows.indices
  pub calls : CallsAtMost leaves after n
  pub changes : ChangesAtKeys (rows_in old leaves) (rows_in new after) gone n

-- no row and no objective, as it is read, names the variable
pub record BodiesMiss (rows : FinMap address_cmp Body) (objectives : List Body)
    (at : Address) : Type 0 where
  pub row : (a : Address) (b : Body) → finite.get rows a ≡ Some b → Miss (functions_of b) at
  pub objective : All (λ b. Miss (functions_of b) at) objectives

-- leaf variables that stand there, each once, and that nobody names
pub record AreDroppable (map : AddressMap) (leaves : Leaves) (gone : List Address) : Type 0 where
  pub there : All (λ at. IsSome (finite.get map.vars.indices at)) gone
  pub apart : AllPairs (λ a b. ¬ (b ≡ a)) gone
  pub nobody : All (BodiesMiss (rows_in map leaves) (objectives_in map leaves)) gone

pub record HasDropped (old : AddressMap) (leaves : Leaves) (n : ℕ) (new : AddressMap)
    (after : Leaves) : Type 0 where
  pub beside : StaysBeside old leaves new after
  pub extends : Extends new.vars.indices old.vars.indices
  pub calls : CallsAtMost leaves after n

-- What holds of a table still does where one place of it is set.
use Rattle.std.specs.Prelude.{◌≡◌, ◌≢◌, ◌||◌, ℕ, zero, suc, Bool, true, false, not, List, [], ◌∷◌, Some, IsTrue, length, slice_get, slice_index_or, slice_set, refl}
use Rattle.std.specs.Bool.{beq}
use Rattle.std.specs.List.{list_all, zip}
use Rattle.std.proofs.Common.{◌&&◌, ap, ap₂, arith, length-set, sym, ◌∙◌, true≢false}
use Rattle.std.proofs.lemmas.List.{get_or-set_other, get_or-set_same}
use Rattle.std.proofs.lemmas.Option.{none-some, same_Some}
use Rattle.bridge_graph.specs.Hypergraph.{is_edge_cost}
use Rattle.fresh_bridging.specs.TableLaws.{and_first, and_second, kind_stands}
use Rattle.item_core.specs.Edge.{edge_number}
use Rattle.item_core.specs.Kind.{is_native, kind_count, kind_eq, kind_number}
use Rattle.item_core.specs.Table.{supported_by, target_table}
use Rattle.item_core.specs.declared.edge.Edge.{Edge}
use Rattle.item_core.specs.declared.kind.Kind.{Kind}
use Rattle.item_core.specs.declared.kind.Kind.TheVariants.{Free, GroupReals}
use Rattle.item_core.specs.declared.kind.TheConstants.{KINDS}
use Rattle.item_core.specs.declared.table.Table.{Table}
use Rattle.item_core.specs.declared.table.Target.{Target}
use Rattle.item_core.specs.declared.table.Target.TheVariants.{All, Cone, Less, Rows, Standard}
use Rattle.lazy_bridge.specs.Native.{frees_alike, supports_native}
use Rattle.tree_laws.specs.LeafLaws.{is_leaf_kind}
use Rattle.edit_engine.specs.Tables.{costing, free_with, supporting, targeted}

-- ---- a place of a list is set

pub set_all : {A : Type 0} (test : A → Bool) (xs : List A) (n : ℕ) (x : A) → test x ≡ true
    → list_all test xs ≡ true → list_all test (slice_set xs n x) ≡ true
set_all test [] n x t h = h
set_all test (y ∷ ys) zero x t h = ap₂ (λ a b. a && b) t (and_second (test y) (list_all test ys) h)
set_all test (y ∷ ys) (suc n) x t h =
    ap₂ (λ a b. a && b) (and_first (test y) (list_all test ys) h)
    (set_all test ys n x t (and_second (test y) (list_all test ys) h))

pub zip_set : {A B : Type 0} (xs : List A) (ys : List B) (n : ℕ) (x : A) (y : B)
    → slice_get xs n ≡ Some x → zip xs (slice_set ys n y) ≡ slice_set (zip xs ys) n (x, y)
zip_set [] ys n x y e = absurd (none-some x e)
zip_set (a ∷ xs) [] n x y e = refl
zip_set (a ∷ xs) (b ∷ ys) zero x y e = ap (λ a. (a, y) ∷ zip xs ys) (same_Some a x e)
zip_set (a ∷ xs) (b ∷ ys) (suc n) x y e = ap (λ ps. (a, b) ∷ ps) (zip_set xs ys n x y e)

-- ---- the tables of lines

pub still_costs : (edge : Edge) (cost : ℕ) (table : Table) → IsTrue (is_edge_cost cost)
    → IsTrue (list_all is_edge_cost table.cost)
    → IsTrue (list_all is_edge_cost (costing edge cost table).cost)
still_costs edge cost table within costs =
    set_all is_edge_cost table.cost (edge_number edge) cost within costs

may_support : (kind : Kind) (value : Bool) → is_leaf_kind kind ≡ true
    → (not value || is_leaf_kind kind) ≡ true
may_support kind false leaf = refl
may_support kind true leaf = leaf

-- the kinds that are supported are ones that a solver takes
abbrev IsTaken : List Bool → Type 0
IsTaken supported =
    list_all (λ p. not p.1 || is_leaf_kind p.0) (zip KINDS.kinds supported) ≡ true

still_taken : (kind : Kind) (value : Bool) (supported : List Bool) → is_leaf_kind kind ≡ true
    → IsTaken supported → IsTaken (slice_set supported (kind_number kind) value)
still_taken kind value supported leaf h =
    let test = λ (p : Kind × Bool). not p.1 || is_leaf_kind p.0 in
    ap (list_all test)
    (zip_set KINDS.kinds supported (kind_number kind) kind value (kind_stands kind))
    ∙ set_all test (zip KINDS.kinds supported) (kind_number kind) (kind, value)
    (may_support kind value leaf) h

free_leaf : is_leaf_kind Free ≡ true
unfolding is_native
free_leaf = refl

free_taken : (kind : Kind) (value : Bool) (supported : List Bool) → IsTaken supported
    → IsTaken (free_with kind value supported)
free_taken GroupReals value supported h = still_taken Free value supported free_leaf h
free_taken _ value supported h = h

-- free variables are supported where groups in Reals are
abbrev AreAlike : List Bool → Type 0
AreAlike supported =
    beq (slice_index_or supported (kind_number Free) false)
    (slice_index_or supported (kind_number GroupReals) false) ≡ true

beq_itself : (b : Bool) → beq b b ≡ true
beq_itself false = refl
beq_itself true = refl

-- neither of the two places is set
set_aside : (supported : List Bool) (n : ℕ) (value : Bool) → kind_number Free ≢ n
    → kind_number GroupReals ≢ n → AreAlike supported → AreAlike (slice_set supported n value)
set_aside supported n value f g h =
    ap₂ beq (get_or-set_other supported n (kind_number Free) value false f)
    (get_or-set_other supported n (kind_number GroupReals) value false g) ∙ h

-- both places are set
set_both : (supported : List Bool) (value : Bool) → length supported ≡ kind_count
    → AreAlike (slice_set (slice_set supported (kind_number GroupReals) value) (kind_number Free) value)
set_both supported value len =
    let reals = slice_set supported (kind_number GroupReals) value in
    ap₂ beq
    (get_or-set_same reals (kind_number Free) value false
    (omega (arith, length-set supported (kind_number GroupReals) value)))
    (get_or-set_other reals (kind_number Free) (kind_number GroupReals) value false (omega arith)
    ∙ get_or-set_same supported (kind_number GroupReals) value false (omega arith))
    ∙ beq_itself value

still_alike : (kind : Kind) (value : Bool) (supported : List Bool) → length supported ≡ kind_count
    → is_native kind ≡ true → AreAlike supported
    → AreAlike (free_with kind value (slice_set supported (kind_number kind) value))
unfolding is_native
still_alike GroupReals value supported len native h = set_both supported value len
still_alike Free value supported len native h = absurd (true≢false (sym native))
still_alike kind value supported len native h =
    set_aside supported (kind_number kind) value (omega arith) (omega arith) h

pub still_native : (kind : Kind) (value : Bool) (table : Table) → length table.supported ≡ kind_count
    → IsTrue (is_native kind) → IsTrue (supports_native table)
    → IsTrue (supports_native (supporting kind value table))
still_native kind value table len native h =
    let taken : IsTaken table.supported = and_first _ (frees_alike table) h in
    let alike : AreAlike table.supported = and_second _ (frees_alike table) h in
    ap₂ (λ a b. a && b)
    (free_taken kind value (slice_set table.supported (kind_number kind) value)
    (still_taken kind value table.supported (ap (λ b. b || kind_eq kind Free) native) taken))
    (still_alike kind value table.supported len native alike)

-- another kind leaves them
pub free_other : (kind : Kind) (value : Bool) (supported : List Bool) → (kind ≡ GroupReals → ⊥)
    → supported ≡ free_with kind value supported
free_other GroupReals value supported other = absurd (other refl)
free_other _ value supported other = refl

pub target_native : (target : Target) → IsTrue (supports_native (target_table target))
unfolding target_table is_native
target_native Standard = refl
target_native Rows = refl
target_native Cone = refl
target_native All = refl
target_native Less = refl

target_supports : (target : Target) → (target_table target).supported ≡ supported_by target
unfolding target_table
target_supports target = refl

pub targeted_is : (target : Target) (own table : Table) → own ≡ target_table target
    → record table { supported = own.supported } ≡ targeted target table
targeted_is target own table is =
    ap (λ (t : Table). record table { supported = t.supported }) is
    ∙ ap (λ bs. record table { supported = bs }) (target_supports target)

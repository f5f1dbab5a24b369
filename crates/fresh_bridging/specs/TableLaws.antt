-- What the table of edges says, read by their numbers in the graph.
use Rattle.std.specs.Prelude.{◌≡◌, ℕ, zero, suc, ◌==◌, Bool, true, false, ◌&&◌, ◌||◌, not, cond, List, [], ◌∷◌, map, filter, All, Option, Some, None, slice_get, refl}
use Rattle.std.proofs.Common.{sym, ap, subst, ◌∙◌, true≢false}
use Rattle.std.specs.List.{list_all, list_any}
use Rattle.std.specs.Option.{option_map}
use Rattle.std.proofs.lemmas.Bool.Decides.{Decides-eqb}
use Rattle.std.proofs.lemmas.List.Elements.{All-head, All-tail}
use Rattle.std.proofs.lemmas.Option.{get_or_from_slice_get, none-some, same_Some, slice_get-map}
use denote.Enum.Bare.{same_true}
use Rattle.item_core.specs.contracts.family.Family.{the_type}
use Rattle.map_laws.specs.EachLaws.{all_at}
use Rattle.bridge_graph.specs.Hypergraph.{children_of as children_in}
use Rattle.bridge_graph.specs.declared.EdgeRow.{EdgeRow}
use Rattle.item_core.specs.declared.edge.Edge.{Edge}
use Rattle.item_core.specs.declared.edge.EdgeEntry.{EdgeEntry}
use Rattle.item_core.specs.declared.edge.TheConstants.{EDGES, EDGE_ROWS}
use Rattle.item_core.specs.declared.edge.Edge.TheVariants.{E1}
use Rattle.item_core.specs.declared.family.Family.{Family}
use Rattle.item_core.specs.declared.kind.Kind.{Kind}
use Rattle.item_core.specs.declared.kind.Kind.TheVariants.{PlainLessThan, PlainGreaterThan, PlainEqualTo, PlainInterval, VplainReals, VplainZeros, VplainNonnegatives, VplainNonpositives, VplainNormInfinityCone, VplainNormOneCone, VaffineNormInfinityCone, VaffineNormOneCone, GroupLessThan, GroupGreaterThan, GroupEqualTo, GroupInterval, GroupReals, GroupZeros, GroupNonnegatives, GroupNonpositives, GroupNormInfinityCone, GroupNormOneCone, Free, MinPlain, MaxPlain}
use Rattle.item_core.specs.declared.kind.TheConstants.{KINDS}
use Rattle.item_core.specs.Edge.{edge_entry, edges_of, family_eq, kinds_in}
use Rattle.item_core.specs.Kind.{kind_eq, kind_number}
use Rattle.bridge_face.specs.Law.{growth}
use Rattle.fresh_bridging.specs.TheRules.{Setting, edge_at, edges_on, family_number, is_usable}

-- ---- kinds

-- each kind stands at its number
pub kind_stands : (kind : Kind) → slice_get KINDS.kinds (kind_number kind) ≡ Some kind
kind_stands PlainLessThan = refl
kind_stands _ = refl

pub same_kind : (a b : Kind) → kind_number a ≡ kind_number b → a ≡ b
same_kind a b e = same_Some a b (sym (kind_stands a) ∙ ap (slice_get KINDS.kinds) e ∙ kind_stands b)

pub equal_kinds : (a b : Kind) → kind_eq a b ≡ (kind_number a == kind_number b)
equal_kinds a b = refl

-- ---- the rows of the table

-- the row of an edge in the graph, and its entry
pub record IsEdgeEntry (n : ℕ) (row : EdgeRow) (entry : EdgeEntry) : Type 0 where
  pub here : slice_get EDGES n ≡ Some entry
  pub edge : edge_at n ≡ entry.edge
  pub entry_is : edge_entry entry.edge ≡ entry
  pub source : row.source ≡ kind_number entry.source
  pub children : children_in row ≡ map kind_number (kinds_in entry.children)

abbrev said : EdgeEntry → ℕ × List ℕ
said e = (kind_number e.source, map kind_number (kinds_in e.children))

abbrev told : EdgeRow → ℕ × List ℕ
told r = (r.source, children_in r)

rows_agree : map said EDGES ≡ map told EDGE_ROWS
rows_agree = refl

entries_agree : map (λ e. edge_entry e.edge) EDGES ≡ EDGES
unfolding edge_entry
entries_agree = refl

pub and_first : (a b : Bool) → (a && b) ≡ true → a ≡ true
and_first true b h = refl
and_first false b h = absurd (true≢false (sym h))

pub and_second : (a b : Bool) → (a && b) ≡ true → b ≡ true
and_second true b h = h
and_second false b h = absurd (true≢false (sym h))

-- the element at a place of a mapped list
mapped_at : {A B : Type 0} (f : A → B) (xs : List A) (n : ℕ) (x : A) → slice_get xs n ≡ Some x
    → slice_get (map f xs) n ≡ Some (f x)
mapped_at f xs n x e = slice_get-map f xs n ∙ ap (option_map f) e

-- what stands at a place of a mapped list comes from an element
from_mapped : {A B : Type 0} (f : A → B) (xs : List A) (n : ℕ) (y : B)
    → slice_get (map f xs) n ≡ Some y → (x : A) × (slice_get xs n ≡ Some x) × (f x ≡ y)
from_mapped f xs n y e = by (slice_get xs n) refl
  where
    by : (o : Option _) → slice_get xs n ≡ o → (x : _) × (slice_get xs n ≡ Some x) × (f x ≡ y)
    by None is = absurd (none-some y (sym (slice_get-map f xs n ∙ ap (option_map f) is) ∙ e))
    by (Some x) is = (x, is, same_Some (f x) y (sym (mapped_at f xs n x is) ∙ e))

pub entry_of : (n : ℕ) (row : EdgeRow) → slice_get EDGE_ROWS n ≡ Some row
    → (entry : EdgeEntry) × IsEdgeEntry n row entry
entry_of n row e =
    let found = from_mapped said EDGES n (told row)
    (ap (λ l. slice_get l n) rows_agree ∙ mapped_at told EDGE_ROWS n row e) in (
      found.0,
      record {
        here = found.1;
        edge = get_or_from_slice_get (map (λ r. r.edge) EDGES) n found.0.edge E1
            (mapped_at (λ r. r.edge) EDGES n found.0 found.1);
        entry_is = same_Some _ _ (sym (mapped_at (λ r. edge_entry r.edge) EDGES n found.0 found.1)
            ∙ ap (λ l. slice_get l n) entries_agree ∙ found.1);
        source = ap (λ p. p.0) (sym found.2);
        children = ap (λ p. p.1) (sym found.2);
      },
    )

-- an edge that is on is of a family that may be used
pub usable_family : (setting : Setting) (n : ℕ) (entry : EdgeEntry) → slice_get EDGES n ≡ Some entry
    → slice_get (edges_on setting) n ≡ Some true → is_usable setting entry.family ≡ true
usable_family setting n entry here is_on =
    same_Some _ _ (sym (mapped_at (λ r. is_usable setting r.family) EDGES n entry here) ∙ is_on)

-- ---- what holds of each edge of a family

of_filtered : {A B : Type 0} (P : B → Type 0) (g : A → B) (p : A → Bool) (xs : List A) (n : ℕ)
    (x : A)
    → slice_get xs n ≡ Some x → p x ≡ true → All P (map g (filter p xs)) → P (g x)
of_filtered P g p [] n x e passes h = absurd (none-some x e)
of_filtered P g p (y ∷ ys) zero x e passes h =
    let same : y ≡ x = same_Some y x e in
    let front : All P (map g (y ∷ filter p ys)) = subst
    (λ b. All P (map g (cond b (y ∷ filter p ys) (filter p ys)))) (ap p same ∙ passes) h in
    subst (λ z. P (g z)) same (All-head P (g y) (map g (filter p ys)) front)
of_filtered P g p (y ∷ ys) (suc n) x e passes h = of_filtered P g p ys n x e passes (rest (p y) h)
  where
    rest : (b : Bool) → All P (map g (cond b (y ∷ filter p ys) (filter p ys)))
        → All P (map g (filter p ys))
    rest true k = All-tail P (g y) (map g (filter p ys)) k
    rest false k = k

pub family_itself : (family : Family) → family_eq family family ≡ true
family_itself family = (Decides-eqb (family_number family) (family_number family)).1 refl

pub equal_family : (a b : Family) → family_eq a b ≡ true → a ≡ b
equal_family a b e = same_true the_type tt a b e

pub of_family : (P : Edge → Type 0) (n : ℕ) (entry : EdgeEntry) → slice_get EDGES n ≡ Some entry
    → All P (edges_of entry.family) → P entry.edge
unfolding edges_of
of_family P n entry here h =
    of_filtered P (λ r. r.edge) (λ r. family_eq r.family entry.family) EDGES n entry here
    (family_itself entry.family) h

-- ---- kinds of children

abbrev pub is_plain_kind : Kind → Bool
is_plain_kind kind =
    list_any (kind_eq kind)
    (PlainLessThan ∷ PlainGreaterThan ∷ PlainEqualTo ∷ PlainInterval ∷ VplainReals ∷ VplainZeros
    ∷ VplainNonnegatives ∷ VplainNonpositives ∷ VplainNormInfinityCone ∷ VplainNormOneCone
    ∷ MinPlain ∷ MaxPlain ∷ [])

abbrev pub is_group_kind : Kind → Bool
is_group_kind kind =
    list_any (kind_eq kind)
    (GroupLessThan ∷ GroupGreaterThan ∷ GroupEqualTo ∷ GroupInterval ∷ GroupReals ∷ GroupZeros
    ∷ GroupNonnegatives ∷ GroupNonpositives ∷ GroupNormInfinityCone ∷ GroupNormOneCone ∷ [])

abbrev pub is_norm_kind : Kind → Bool
is_norm_kind kind =
    list_any (kind_eq kind)
    (VplainNormInfinityCone ∷ VplainNormOneCone ∷ VaffineNormInfinityCone ∷ VaffineNormOneCone
    ∷ GroupNormInfinityCone ∷ GroupNormOneCone ∷ [])

-- plain children stand beside free variables alone, and no group
abbrev pub plain_beside_free : EdgeEntry → Bool
plain_beside_free e =
    not (list_any is_plain_kind (kinds_in e.children)
    && list_any is_group_kind (kinds_in e.children))

-- no edge leads from free variables
abbrev pub leads_from_others : EdgeEntry → Bool
leads_from_others e = not (kind_eq e.source Free)

-- norm cones come of norm cones alone
abbrev pub comes_of_norms : EdgeEntry → Bool
comes_of_norms e = is_norm_kind e.source || not (list_any is_norm_kind (kinds_in e.children))

-- no child is a norm cone
abbrev pub ends_norms : EdgeEntry → Bool
ends_norms e = is_norm_kind e.source && not (list_any is_norm_kind (kinds_in e.children))

abbrev pub splits_reals : EdgeEntry → Bool
splits_reals e = kind_eq e.source GroupReals && growth e.family == 2

-- components double where norm cones end, or where free variables are split
abbrev pub doubles_seldom : EdgeEntry → Bool
doubles_seldom e = growth e.family == 1 || (ends_norms e || splits_reals e)

abbrev pub grows_once : EdgeEntry → Bool
grows_once e = growth e.family == 1 || growth e.family == 2

abbrev pub grows_seldom : EdgeEntry → Bool
grows_seldom e = comes_of_norms e && (doubles_seldom e && grows_once e)

abbrev pub keeps_to_the_table : EdgeEntry → Bool
keeps_to_the_table e = plain_beside_free e && (leads_from_others e && grows_seldom e)

all_keep : list_all keeps_to_the_table EDGES ≡ true
all_keep = refl

pub all_keep_at : (n : ℕ) (entry : EdgeEntry) → slice_get EDGES n ≡ Some entry
    → keeps_to_the_table entry ≡ true
all_keep_at n entry e = all_at keeps_to_the_table EDGES n entry all_keep e

pub equal_kind : (a b : Kind) → kind_eq a b ≡ true → a ≡ b
equal_kind a b e =
    same_kind a b ((Decides-eqb (kind_number a) (kind_number b)).0 (sym (equal_kinds a b) ∙ e))

-- Kinds and families by what they are of: an edge leads from a group, a row or an objective as its
-- family does.
use Rattle.std.specs.Prelude.{◌≡◌, ℕ, Bool, true, false, ◌&&◌, not, refl}
use Rattle.std.proofs.Common.{sym, ap, ◌∙◌, true≢false}
use Rattle.std.specs.List.{list_all}
use Rattle.map_laws.specs.EachLaws.{all_at}
use Rattle.bridge_graph.specs.Hypergraph.{IsCostly}
use Rattle.bridge_graph.specs.declared.Choice.{Choice}
use Rattle.bridge_graph.specs.declared.Choice.TheVariants.{By}
use Rattle.set_core.specs.declared.set.Set.{Set}
use Rattle.item_core.specs.declared.edge.EdgeEntry.{EdgeEntry}
use Rattle.item_core.specs.declared.edge.TheConstants.{EDGES}
use Rattle.item_core.specs.declared.family.Family.{Family}
use Rattle.item_core.specs.declared.family.Family.TheVariants as family
use Rattle.item_core.specs.declared.item.Body.{Body}
use Rattle.item_core.specs.declared.item.Body.TheVariants.{Group, Plain, Affine, PlainVec, AffineVec, PlainObj, AffineObj}
use Rattle.item_core.specs.declared.item.Item.{Item}
use Rattle.item_core.specs.declared.kind.Kind.TheVariants as kind
use Rattle.item_core.specs.Edge.{family_of}
use Rattle.item_core.specs.Kind.{kind_number}
use Rattle.item_core.specs.KindOf.{kind_of_body, affine_kind_of, group_kind_of, plain_kind_of}
use Rattle.fresh_bridging.specs.CanLaws.{AreLawful, Can, down, same_entry}
use Rattle.fresh_bridging.specs.TableLaws.{and_first, and_second}
use Rattle.fresh_bridging.specs.TheRules.{AreChoices, Setting, edge_at, graph_of}
use Rattle.address_laws.specs.PutLaws.{class_of}
use Rattle.set_core.specs.declared.set.Set.TheVariants as set
use Rattle.item_core.specs.declared.kind.Kind.{Kind}
use Rattle.aff_core.specs.declared.sense.Sense.TheVariants.{Min}

abbrev pub class_of_kind : Kind → Bool × Bool
class_of_kind kind.GroupLessThan = (true, false)
class_of_kind kind.GroupGreaterThan = (true, false)
class_of_kind kind.GroupEqualTo = (true, false)
class_of_kind kind.GroupInterval = (true, false)
class_of_kind kind.GroupReals = (true, false)
class_of_kind kind.GroupZeros = (true, false)
class_of_kind kind.GroupNonnegatives = (true, false)
class_of_kind kind.GroupNonpositives = (true, false)
class_of_kind kind.GroupNormInfinityCone = (true, false)
class_of_kind kind.GroupNormOneCone = (true, false)
class_of_kind kind.Free = (true, false)
class_of_kind kind.MinPlain = (false, true)
class_of_kind kind.MinAffine = (false, true)
class_of_kind kind.MaxPlain = (false, true)
class_of_kind kind.MaxAffine = (false, true)
class_of_kind _ = (false, false)

-- of what the family's edges lead from
abbrev pub class_of_family : Family → Bool × Bool
class_of_family family.NonposVar = (true, false)
class_of_family family.VectorizeVar = (true, false)
class_of_family family.ZerosVar = (true, false)
class_of_family family.FreeVar = (true, false)
class_of_family family.Later = (true, false)
class_of_family family.ObjFlip = (false, true)
class_of_family family.ObjFunctionize = (false, true)
class_of_family family.ObjSlack = (false, true)
class_of_family _ = (false, false)

-- ---- by kind

record OfSet (s : Set) : Type 0 where
  pub group : class_of_kind (group_kind_of s) ≡ (true, false)
  pub plain : class_of_kind (plain_kind_of s) ≡ (false, false)
  pub affine : class_of_kind (affine_kind_of s) ≡ (false, false)

of_set : (s : Set) → OfSet s
of_set (set.LessThan u) = record { group = refl; plain = refl; affine = refl }
of_set _ = record { group = refl; plain = refl; affine = refl }

class_by_kind : (b : Body) → class_of_kind (kind_of_body b) ≡ class_of b
unfolding kind_of_body
class_by_kind (Group s vars) = (of_set s).group
class_by_kind (Plain var s) = (of_set s).plain
class_by_kind (Affine func s) = (of_set s).affine
class_by_kind (PlainVec vars s) = (of_set s).plain
class_by_kind (AffineVec funcs s) = (of_set s).affine
class_by_kind (PlainObj Min var) = refl
class_by_kind (AffineObj Min func) = refl
class_by_kind _ = refl

-- ---- by the table

same : Bool → Bool → Bool
same true b = b
same false b = not b

same_is : (a b : Bool) → same a b ≡ true → a ≡ b
unfolding same
same_is true true h = refl
same_is true false h = absurd (true≢false (sym h))
same_is false true h = absurd (true≢false (sym h))
same_is false false h = refl

same_class : Bool × Bool → Bool × Bool → Bool
same_class p q = same p.0 q.0 && same p.1 q.1

same_class_is : (p q : Bool × Bool) → same_class p q ≡ true → p ≡ q
unfolding same_class
same_class_is p q h =
    let first = same_is p.0 q.0 (and_first (same p.0 q.0) (same p.1 q.1) h) in
    let second = same_is p.1 q.1 (and_second (same p.0 q.0) (same p.1 q.1) h) in
    λ i. (first i, second i)

leads_from_its_own : EdgeEntry → Bool
leads_from_its_own e = same_class (class_of_kind e.source) (class_of_family e.family)

all_lead : list_all leads_from_its_own EDGES ≡ true
unfolding leads_from_its_own same_class same
all_lead = refl

module _ (setting : Setting) (costly : IsCostly (graph_of setting)) (choice : ℕ → Choice)
    (chosen : AreChoices setting choice) (lawful : AreLawful setting) (item : Item)
    (can : Can setting costly choice chosen item) (n : ℕ)
    (e : choice (kind_number (kind_of_body item.body)) ≡ By n) where
  abbrev entry : EdgeEntry
  entry = (down setting costly choice chosen lawful item can n e).entry

  -- an item that the edge leads from is what its family leads from
  pub item_class : class_of item.body ≡ class_of_family (family_of (edge_at n))
  unfolding leads_from_its_own
  item_class =
      sym (class_by_kind item.body)
      ∙ ap class_of_kind (down setting costly choice chosen lawful item can n e).source
      ∙ same_class_is (class_of_kind entry.source) (class_of_family entry.family)
      (all_at leads_from_its_own EDGES n entry all_lead
      (down setting costly choice chosen lawful item can n e).is_entry.here)
      ∙ sym (ap (λ x. class_of_family x.family)
      (same_entry setting costly choice chosen lawful item can n e))

-- Items planned one after another: what is planned so far, and with what is left, is all.
use Rattle.std.specs.Prelude.{◌≡◌, Bool, true, false, ◌&&◌, IsTrue, List, ◌++◌, map, refl}
use Rattle.std.proofs.Common.{ap, ap₂, sym, subst, ◌∙◌, append_assoc}
use Rattle.std.proofs.lemmas.List.{append-nil, map-append}
use Rattle.expansion.specs.Grown.{Held, joined, nothing_held}
use Rattle.item_core.specs.declared.item.Item.{Item}
use Rattle.fresh_bridging.specs.Entries.{Entry}
use Rattle.fresh_bridging.specs.TableLaws.{and_first, and_second}
use Rattle.bridge_plan.specs.AddsHeld.{AddsHeld, kept_of}
use Rattle.bridge_plan.specs.declared.plan.Plan.{Plan}

and_assoc : (a b c : Bool) → ((a && b) && c) ≡ (a && (b && c))
and_assoc true b c = refl
and_assoc false b c = refl

pub joined_assoc : (a b c : Held Item Entry) → joined (joined a b) c ≡ joined a (joined b c)
joined_assoc a b c = λ i. record {
  entries = append_assoc a.entries b.entries c.entries i;
  leaves = append_assoc a.leaves b.leaves c.leaves i;
  nodes = append_assoc a.nodes b.nodes c.nodes i;
  fits = and_assoc a.fits b.fits c.fits i;
}

and_true : (a : Bool) → (a && true) ≡ a
and_true true = refl
and_true false = refl

pub joined_nothing : (a : Held Item Entry) → joined a nothing_held ≡ a
joined_nothing a = λ i. record {
  entries = append-nil a.entries i;
  leaves = append-nil a.leaves i;
  nodes = append-nil a.nodes i;
  fits = and_true a.fits i;
}

-- what is added by two steps
pub adds_both : (plan now after : Plan) (es fs gs : List Entry) (a b : Held Item Entry)
    → AddsHeld plan now es fs a → AddsHeld now after fs gs b
    → AddsHeld plan after es gs (joined a b)
adds_both plan now after es fs gs a b h k = record {
  leaves = k.leaves ∙ ap (λ l. l ++ b.leaves) h.leaves
      ∙ append_assoc plan.leaves.items a.leaves b.leaves;
  nodes = k.nodes ∙ ap (λ l. l ++ map kept_of b.nodes) h.nodes
      ∙ append_assoc plan.nodes.items (map kept_of a.nodes) (map kept_of b.nodes)
      ∙ ap (λ l. plan.nodes.items ++ l) (sym (map-append kept_of a.nodes b.nodes));
  entries = k.entries ∙ ap (λ l. l ++ b.entries) h.entries ∙ append_assoc es a.entries b.entries;
}

pub record SoFar (all left : Held Item Entry) (plan now : Plan)
    (entries more : List Entry) : Type 0 where
  pub done : Held Item Entry
  pub good : done.fits ≡ true
  pub adds : AddsHeld plan now entries more done
  pub whole : all ≡ joined done left

pub none_yet : (all : Held Item Entry) (plan : Plan) (entries : List Entry)
    → SoFar all all plan plan entries entries
none_yet all plan entries = record {
  done = nothing_held;
  good = refl;
  adds = record {
    leaves = sym (append-nil plan.leaves.items);
    nodes = sym (append-nil plan.nodes.items);
    entries = sym (append-nil entries);
  };
  whole = refl;
}

module _ (all one left : Held Item Entry) (plan now : Plan) (entries more : List Entry)
    (so_far : SoFar all (joined one left) plan now entries more) where
  pub one_more : (after : Plan) (most : List Entry) → one.fits ≡ true
      → AddsHeld now after more most one → SoFar all left plan after entries most
  one_more after most fits adds = record {
    done = joined so_far.done one;
    good = ap₂ ◌&&◌ so_far.good fits;
    adds = adds_both plan now after entries more most so_far.done one so_far.adds adds;
    whole = so_far.whole ∙ sym (joined_assoc so_far.done one left);
  }

  -- all fit only where this one does
  pub needs_one : IsTrue all.fits → IsTrue one.fits
  needs_one t =
      and_first one.fits left.fits
      (and_second so_far.done.fits (one.fits && left.fits)
      (sym (ap (λ (h : Held Item Entry). h.fits) so_far.whole) ∙ t))

pub all_planned : (all : Held Item Entry) (plan now : Plan) (entries more : List Entry)
    → SoFar all nothing_held plan now entries more
    → IsTrue all.fits × AddsHeld plan now entries more all
all_planned all plan now entries more h =
    let same : h.done ≡ all = sym (h.whole ∙ joined_nothing h.done) in (
      sym (ap (λ (x : Held Item Entry). x.fits) same) ∙ h.good,
      subst (AddsHeld plan now entries more) same h.adds,
    )

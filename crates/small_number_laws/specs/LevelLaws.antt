-- How often numbers may still grow below an item: as often as kinds at which they grow rank no
-- higher than the item's. A chosen edge leads to kinds that rank lower, so it leaves one less where
-- its source is such a kind.
use Rattle.std.specs.Prelude.{◌≡◌, ℕ, zero, suc, ◌+◌, ◌*◌, ◌^◌, ◌<◌, ◌≤◌, nat_le, Bool, true, false, ◌&&◌, ◌||◌, not, List, [], ◌∷◌, count_by, Some, slice_get, refl}
use Rattle.std.proofs.Common.{sym, ap, ap₂, ◌∙◌, arith, true≢false}
use Rattle.std.specs.List.{list_all, list_any}
use Rattle.std.proofs.lemmas.Bool.Decides.{nat_tests}
use Rattle.std.proofs.lemmas.Bool.{not-true}
use Rattle.map_laws.specs.EachLaws.{all_at}
use Rattle.map_laws.specs.TestLaws.{implied}
use Rattle.bridge_graph.specs.Hypergraph.{IsCostly}
use Rattle.bridge_graph.specs.declared.Choice.{Choice}
use Rattle.fresh_bridging.specs.RankingLaws.{fewer_by_one, fewer_pass, rank}
use Rattle.fresh_bridging.specs.TableLaws.{and_first, and_second, equal_kind, kind_stands}
use Rattle.fresh_bridging.specs.TheRules.{AreChoices, Setting, graph_of}
use Rattle.item_core.specs.declared.edge.EdgeEntry.{EdgeEntry}
use Rattle.item_core.specs.declared.edge.TheConstants.{EDGES}
use Rattle.item_core.specs.declared.family.Family.{Family}
use Rattle.item_core.specs.declared.family.Family.TheVariants as family
use Rattle.item_core.specs.declared.kind.Kind.{Kind}
use Rattle.item_core.specs.declared.kind.Kind.TheVariants.{PlainLessThan, PlainGreaterThan, PlainEqualTo, AffineLessThan, AffineGreaterThan, AffineEqualTo, AffineInterval, VaffineNonnegatives, VaffineNonpositives, VaffineNormInfinityCone, VaffineNormOneCone, GroupReals, GroupLessThan, GroupGreaterThan, GroupEqualTo, MinAffine, MaxAffine}
use Rattle.item_core.specs.declared.kind.TheConstants.{KINDS}
use Rattle.item_core.specs.Edge.{kinds_in}
use Rattle.item_core.specs.Kind.{kind_eq, kind_number}
use Rattle.small_number_laws.specs.FamilyLaws.{Making, has_exprs, making_of, summed}

-- ---- kinds

-- an edge of this kind may make sums of functions
abbrev pub grows_at : Kind → Bool
grows_at kind =
    list_any (kind_eq kind)
    (PlainLessThan ∷ PlainGreaterThan ∷ PlainEqualTo ∷ AffineLessThan ∷ AffineGreaterThan
    ∷ AffineEqualTo ∷ AffineInterval ∷ VaffineNonnegatives ∷ VaffineNonpositives
    ∷ VaffineNormInfinityCone ∷ VaffineNormOneCone ∷ MinAffine ∷ MaxAffine ∷ [])

-- free variables are split at this kind
abbrev pub splits_at : Kind → Bool
splits_at kind = kind_eq kind GroupReals

-- groups whose components may have constants
abbrev pub lifts_at : Kind → Bool
lifts_at kind =
    list_any (kind_eq kind) (GroupLessThan ∷ GroupGreaterThan ∷ GroupEqualTo ∷ [])

pub thirteen_grow : count_by grows_at KINDS.kinds ≡ 13
thirteen_grow = refl

pub one_splits : count_by splits_at KINDS.kinds ≡ 1
one_splits = refl

-- ---- the table of edges

abbrev is_summed : Making → Bool
is_summed summed = true
is_summed _ = false

abbrev is_splitting : Family → Bool
is_splitting family.FreeVar = true
is_splitting _ = false

abbrev is_lifting : Family → Bool
is_lifting family.VectorizeVar = true
is_lifting _ = false

-- sums are made at those kinds alone, free variables are split at theirs, constants come at theirs,
-- and no edge of groups leads to those
abbrev pub keeps_levels : EdgeEntry → Bool
keeps_levels e =
    (not (is_summed (making_of e.family)) || grows_at e.source)
    && ((not (is_splitting e.family) || splits_at e.source)
    && ((not (is_lifting e.family) || lifts_at e.source)
    && (not (has_exprs e.family) || not (list_any lifts_at (kinds_in e.children)))))

all_levels : list_all keeps_levels EDGES ≡ true
all_levels = refl

-- the same of the edge at a number
pub record KeepsLevels (e : EdgeEntry) : Type 0 where
  pub grows : making_of e.family ≡ summed → grows_at e.source ≡ true
  pub splits : e.family ≡ family.FreeVar → splits_at e.source ≡ true
  pub lifts : e.family ≡ family.VectorizeVar → lifts_at e.source ≡ true
  pub unlifted : has_exprs e.family ≡ true → list_any lifts_at (kinds_in e.children) ≡ false

pub levels_kept : (n : ℕ) (e : EdgeEntry) → slice_get EDGES n ≡ Some e → KeepsLevels e
levels_kept n e here =
    let first = not (is_summed (making_of e.family)) || grows_at e.source in
    let second = not (is_splitting e.family) || splits_at e.source in
    let third = not (is_lifting e.family) || lifts_at e.source in
    let fourth = not (has_exprs e.family) || not (list_any lifts_at (kinds_in e.children)) in
    let all : (first && (second && (third && fourth))) ≡ true =
    all_at keeps_levels EDGES n e all_levels here in
    let others = and_second first (second && (third && fourth)) all in
    let last = and_second second (third && fourth) others in
    record {
      grows = λ is. implied (is_summed (making_of e.family)) (grows_at e.source)
          (and_first first (second && (third && fourth)) all) (ap is_summed is);
      splits = λ is. implied (is_splitting e.family) (splits_at e.source)
          (and_first second (third && fourth) others) (ap is_splitting is);
      lifts = λ is. implied (is_lifting e.family) (lifts_at e.source)
          (and_first third fourth last) (ap is_lifting is);
      unlifted = λ is. not-true (list_any lifts_at (kinds_in e.children))
          (implied (has_exprs e.family) (not (list_any lifts_at (kinds_in e.children)))
          (and_second third fourth last) is);
    }

-- a kind among those listed, none of which passes
pub passed_by : (p : Kind → Bool) (kinds : List Kind) (kind : Kind)
    → list_any p kinds ≡ false → list_any (kind_eq kind) kinds ≡ true → p kind ≡ false
passed_by p [] kind none listed = absurd (true≢false (sym listed))
passed_by p (k ∷ ks) kind none listed =
    by (p k) (kind_eq kind k) refl refl none listed (passed_by p ks kind)
  where
    by : (a b : Bool) → p k ≡ a → kind_eq kind k ≡ b → (a || list_any p ks) ≡ false
        → (b || list_any (kind_eq kind) ks) ≡ true
        → (list_any p ks ≡ false → list_any (kind_eq kind) ks ≡ true → p kind ≡ false)
        → p kind ≡ false
    by true b is same h e later = absurd (true≢false h)
    by false true is same h e later = ap p (equal_kind kind k same) ∙ is
    by false false is same h e later = later h e

-- ---- how many are left

wider : (b : Bool) (r s t : ℕ) → s < t → (b && nat_le r s) ≡ true → (b && nat_le r t) ≡ true
wider true r s t lt h = grind (arith, nat_tests, h, lt)
wider false r s t lt h = absurd (true≢false (sym h))

not_below : (r s : ℕ) → s < r → nat_le r s ≡ false
not_below r s lt = grind (arith, nat_tests, lt)

at_itself : (r : ℕ) → nat_le r r ≡ true
at_itself r = grind (arith, nat_tests)

none_left : (b : Bool) → (b && false) ≡ false
none_left true = refl
none_left false = refl

module _ (setting : Setting) (costly : IsCostly (graph_of setting)) (choice : ℕ → Choice)
    (chosen : AreChoices setting choice) where
  abbrev rank_at : Kind → ℕ
  rank_at kind = rank setting costly choice chosen (kind_number kind)

  -- how many of the kinds that a test passes rank no higher than a kind
  unfoldable pub left_of : (Kind → Bool) → Kind → ℕ
  left_of p kind = count_by (λ k. p k && nat_le (rank_at k) (rank_at kind)) KINDS.kinds

  pub fewer_left : (p : Kind → Bool) (child kind : Kind) → rank_at child < rank_at kind
      → left_of p child ≤ left_of p kind
  unfolding left_of
  fewer_left p child kind lt =
      fewer_pass (λ k. p k && nat_le (rank_at k) (rank_at child))
      (λ k. p k && nat_le (rank_at k) (rank_at kind)) KINDS.kinds
      (λ k h. wider (p k) (rank_at k) (rank_at child) (rank_at kind) lt h)

  pub one_less_left : (p : Kind → Bool) (child kind : Kind) → p kind ≡ true
      → rank_at child < rank_at kind → left_of p child + 1 ≤ left_of p kind
  unfolding left_of
  one_less_left p child kind is lt =
      fewer_by_one (λ k. p k && nat_le (rank_at k) (rank_at child))
      (λ k. p k && nat_le (rank_at k) (rank_at kind)) KINDS.kinds (kind_number kind) kind
      (λ k h. wider (p k) (rank_at k) (rank_at child) (rank_at kind) lt h) (kind_stands kind)
      (ap (λ b. p kind && b) (not_below (rank_at kind) (rank_at child) lt) ∙ none_left (p kind))
      (ap₂ ◌&&◌ is (at_itself (rank_at kind)))

  pub some_left : (p : Kind → Bool) (kind : Kind) → p kind ≡ true → 1 ≤ left_of p kind
  unfolding left_of
  some_left p kind is =
      omega (
        arith,
        fewer_by_one (λ _. false) (λ k. p k && nat_le (rank_at k) (rank_at kind)) KINDS.kinds
            (kind_number kind) kind (λ k h. absurd (true≢false (sym h))) (kind_stands kind) refl
            (ap₂ ◌&&◌ is (at_itself (rank_at kind))),
      )

  pub most_left : (p : Kind → Bool) (kind : Kind) → left_of p kind ≤ count_by p KINDS.kinds
  unfolding left_of
  most_left p kind =
      fewer_pass (λ k. p k && nat_le (rank_at k) (rank_at kind)) p KINDS.kinds
      (λ k h. and_first (p k) (nat_le (rank_at k) (rank_at kind)) h)

-- ---- growing by four

-- n times 4 for each level
abbrev pub quadrupled : ℕ → ℕ → ℕ
quadrupled zero n = n
quadrupled (suc k) n = 4 * quadrupled k n

within_itself : (k n : ℕ) → n ≤ quadrupled k n
within_itself zero n = omega arith
within_itself (suc k) n = omega (arith, within_itself k n)

pub quadrupled_within : (k n limit : ℕ) → quadrupled k n ≤ limit → n ≤ limit
quadrupled_within k n limit h = omega (arith, h, within_itself k n)

pub fewer_quadrupled : (k l n : ℕ) → k ≤ l → quadrupled k n ≤ quadrupled l n
fewer_quadrupled zero l n h = within_itself l n
fewer_quadrupled (suc k) zero n h = absurd (omega (arith, h))
fewer_quadrupled (suc k) (suc l) n h =
    omega (arith, fewer_quadrupled k l n (omega (arith, h)))

once_quadrupled : (k n : ℕ) → quadrupled k (4 * n) ≡ 4 * quadrupled k n
once_quadrupled zero n = refl
once_quadrupled (suc k) n = ap (λ x. 4 * x) (once_quadrupled k n)

-- one level less, four times as much
pub spent : (k l n : ℕ) → k + 1 ≤ l → quadrupled k (4 * n) ≤ quadrupled l n
spent k l n h =
    let more : quadrupled (suc k) n ≤ quadrupled l n =
    fewer_quadrupled (suc k) l n (omega (arith, h)) in
    omega (arith, more, once_quadrupled k n)

pub thirteen_levels : quadrupled 13 (2 ^ 53) ≡ 2 ^ 79
thirteen_levels = refl

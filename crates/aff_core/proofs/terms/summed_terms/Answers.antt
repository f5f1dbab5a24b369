use Rattle.std.specs.Prelude.{◌≡◌, ℕ, ◌<◌, List, ◌∷◌, [], ◌++◌, length, filter}
use Rattle.std.proofs.Common.{sym, ap, subst₂, ◌∙◌, drop, get_or, refl}
use Rattle.std.proofs.lemmas.List.{get_or_default}
use Rattle.map_laws.specs.LoopLaws.{next_item}
use Rattle.ratio_core.specs.Rational.{SumFits, ◌+ℚ◌}
use Rattle.ratio_core.specs.AnsweredLaws.{overflowed}
use Rattle.aff_core.specs.Terms.{is_nonzero}
use Rattle.aff_core.proofs.Changed.{rest_of}
use Rattle.aff_core.proofs.Summing.{IsTurn, first_kept, merged-start, merged-less, merged-equal, merged-greater, merged-refused, summed-more, summed-end_left, summed-end_right}
use Rattle.aff_core.proofs.terms.summed_terms.Goals as goal
use Rattle.aff_core.proofs.terms.summed_terms.Goals.{After-cmp}
use Rattle.aff_core.proofs.terms.summed_terms.Goals.{then-loop-i-test+else-j-right, else-loop-i-test}

-- one place read twice
read_again : {X : Type 0} (xs : List X) (i : ℕ) (a b : X) → a ≡ get_or xs i a → b ≡ get_or xs i b
    → i < length xs → b ≡ a
read_again xs i a b at_a at_b lt = at_b ∙ get_or_default xs i b a lt ∙ sym at_a

read_as : {X : Type 0} (xs : List X) (i : ℕ) (a b : X) → a ≡ get_or xs i a → i < length xs
    → get_or xs i b ≡ a
read_as xs i a b at_a lt = get_or_default xs i b a lt ∙ sym at_a

pub loop-i-init : goal.loop-i-init
loop-i-init g c = record {
  sums = [];
  merged = merged-start g.met.K.Ord.total c.args.left.now c.args.right.now c.requires.left;
  kept = c.new-summed.ensures.items;
}

turn : (g : _) (c : After-cmp g) → IsTurn g.met.K.Ord.total c.args.left.now c.args.right.now
    c.loop-i.i c.loop-i.j c.loop-i.invariant.sums c.index-left-i.result c.index-right-j.result
turn g c = record {
  left_rises = c.requires.left;
  right_rises = c.requires.right;
  so_far = c.loop-i.invariant.merged;
  i_in = c.loop-i-test.true;
  j_in = c.if-j-right.true;
  at_i = next_item c.args.left.now c.args.left.now c.loop-i.i c.index-left-i.result refl
      c.index-left-i.is c.loop-i-test.true;
  at_j = next_item c.args.right.now c.args.right.now c.loop-i.j c.index-right-j.result refl
      c.index-right-j.is c.if-j-right.true;
  g_is = sym c.index-right-j.is;
}

ranked : (g : _) (c : After-cmp g)
    → g.K.Ord.cmp c.index-left-i.result.0 c.index-right-j.result.0 ≡ c.cmp.result
ranked g c =
    (λ k. g.K.Ord.cmp (c.index-left-i.is k).0 (c.index-right-j.is k).0) ∙ sym c.cmp.ensures

pub loop-i-preserved-in-Less : goal.loop-i-preserved-in-Less
loop-i-preserved-in-Less g c =
    let at = (goal.at.loop-i-preserved-in-Less g c).After-cmp in
    let left = c.args.left.now in
    let f = c.index-left-i.result in
    summed-more g.met.K.Ord.total c.loop-i.invariant.sums f
    (merged-less g.met.K.Ord.total (turn g at) (ranked g at ∙ c.in-Less.is))
    c.loop-i.invariant.kept
    (first_kept c.loop-i.i left _ c.loop-i.summed.items c.requires.left_nonzero
    (turn g at).at_i c.in_ok-push-in-Less.ensures.items
    (read_again left c.loop-i.i f c.index-left-i-in-Less.result c.index-left-i.is
    c.index-left-i-in-Less.is c.loop-i-test.true))

pub returns-in_err-sum-in-Equal : goal.returns-in_err-sum-in-Equal
returns-in_err-sum-in-Equal g c =
    let at = (goal.at.returns-in_err-sum-in-Equal g c).After-cmp in
    let f = c.index-left-i.result in
    let h = c.index-right-j.result in
    let one : get_or c.args.left.now c.loop-i.i c.index-left-i-in-Equal.result ≡ f =
    read_as c.args.left.now c.loop-i.i f c.index-left-i-in-Equal.result c.index-left-i.is
    c.loop-i-test.true in
    let two : get_or c.args.right.now c.loop-i.j c.index-right-j-in-Equal.result ≡ h =
    read_as c.args.right.now c.loop-i.j h c.index-right-j-in-Equal.result c.index-right-j.is
    c.if-j-right.true in
    overflowed c.from_residual-in_err-sum-in-Equal.result _ _ _
    c.from_residual-in_err-sum-in-Equal.ensures.1 refl
    (λ fits. c.in_err-sum-in-Equal.ensures.exact
    (subst₂ (λ s t. SumFits s.1 t.1) (sym one) (sym two) (merged-refused g.met.K.Ord.total
    (turn g at) (ranked g at ∙ c.in-Equal.is) fits)))

pub loop-i-preserved-in-Equal : goal.loop-i-preserved-in-Equal
loop-i-preserved-in-Equal g c =
    let at = (goal.at.loop-i-preserved-in-Equal g c).After-cmp in
    let left = c.args.left.now in
    let right = c.args.right.now in
    let i = c.loop-i.i in
    let j = c.loop-i.j in
    let f = c.index-left-i.result in
    let h = c.index-right-j.result in
    let one : get_or left i c.index-left-i-in-Equal.result ≡ f =
    read_as left i f c.index-left-i-in-Equal.result c.index-left-i.is c.loop-i-test.true in
    let two : get_or right j c.index-right-j-in-Equal.result ≡ h =
    read_as right j h c.index-right-j-in-Equal.result c.index-right-j.is c.if-j-right.true in
    let three : get_or left i c.index-left-i-in-Equal-2.result ≡ f =
    read_as left i f c.index-left-i-in-Equal-2.result c.index-left-i.is c.loop-i-test.true in
    let fits : SumFits f.1 h.1 =
    subst₂ (λ s t. SumFits s.1 t.1) one two c.in_ok-sum-in-Equal.ensures.exact.0 in
    let sum : c.in_ok-sum-in-Equal.sum ≡ f.1 +ℚ h.1 =
    c.in_ok-sum-in-Equal.ensures.exact.1 ∙ (λ k. (one k).1 +ℚ (two k).1) in
    summed-more g.met.K.Ord.total c.loop-i.invariant.sums (f.0, f.1 +ℚ h.1)
    (merged-equal g.met.K.Ord.total (turn g at) (ranked g at ∙ c.in-Equal.is) fits)
    c.loop-i.invariant.kept (c.in_ok-push_nonzero-in-Equal.ensures
    ∙ (λ k. c.loop-i.summed.items ++ filter is_nonzero (((three k).0, sum k) ∷ [])))

pub loop-i-preserved : goal.loop-i-preserved
loop-i-preserved g c =
    let at = (goal.at.loop-i-preserved g c).After-cmp in
    let right = c.args.right.now in
    let h = c.index-right-j.result in
    summed-more g.met.K.Ord.total c.loop-i.invariant.sums h
    (merged-greater g.met.K.Ord.total (turn g at) (ranked g at ∙ c.in-Greater.is))
    c.loop-i.invariant.kept
    (first_kept c.loop-i.j right _ c.loop-i.summed.items c.requires.right_nonzero
    (turn g at).at_j c.in_ok-push-in-Greater.ensures.items
    (read_again right c.loop-i.j h c.index-right-j-in-Greater.result c.index-right-j.is
    c.index-right-j-in-Greater.is c.if-j-right.true))

pub returns : goal.returns
returns g c =
    let left = c.args.left.now in
    let right = c.args.right.now in
    let items : c.extend_from_slice-2.new.self.items
    ≡ (c.loop-i.summed.items ++ drop c.loop-i.i left) ++ drop c.loop-i.j
    right = c.in_ok-extend_from_slice-2.ensures.items
    ∙ (λ k. c.in_ok-extend_from_slice.ensures.items k ++ rest_of right c.loop-i.j k)
    ∙ ap (λ l. (c.loop-i.summed.items ++ l) ++ drop c.loop-i.j right) (rest_of left c.loop-i.i) in
    elim c.loop-i-test.branch [
      | then-loop-i-test+else-j-right w ↦
          let all = summed-end_right g.met.K.Ord.total c.loop-i.invariant c.requires.left_nonzero
          c.requires.right_nonzero w.if-j-right.false in
          (all.0, items ∙ all.1)
      | else-loop-i-test w ↦
          let all = summed-end_left g.met.K.Ord.total c.loop-i.invariant c.requires.left_nonzero
          c.requires.right_nonzero c.requires.right w.loop-i-test.false in
          (all.0, items ∙ all.1)
    ]

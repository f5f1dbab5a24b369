use Rattle.std.specs.Prelude.{◌≡◌, ℕ, ◌+◌, ◌-◌, List, [], ◌∷◌, ◌++◌, take, drop, filter, length, refl}
use Rattle.std.proofs.Common.{ap, ◌∙◌}
use Rattle.std.proofs.lemmas.Bool.{false≢true}
use Rattle.ratio_core.specs.Rational.{Rational}
use Rattle.std.specs.FinMap.{entries, insert}
use Rattle.aff_core.specs.Address.{Address}
use Rattle.aff_core.specs.Terms.{is_nonzero}
use Rattle.aff_core.proofs.Changed.{replaced_is, replaced_nonzero, replaced_rise, rest_of, with_given, with_removed}
use Rattle.aff_core.proofs.edits.Aff.replaced.Goals as goal
use Rattle.aff_core.proofs.edits.Aff.replaced.Goals.{After-constant, After-constant-2}

-- what is put together, said of the function's own terms
parts : (xs ts items between : List (Address × Rational)) (from to : ℕ) → xs ≡ ts
    → items ≡ take from xs ++ (between ++ take (length xs - to) (drop to xs))
    → items ≡ take from ts ++ (between ++ drop to ts)
parts xs ts items between from to same e =
    e ∙ ap (λ l. take from xs ++ (between ++ l)) (rest_of xs to)
    ∙ ap (λ l. take from l ++ (between ++ drop to l)) same

removed : (c : After-constant) → c.in_ok-joined.field-0.items
    ≡ filter is_nonzero (entries (insert c.args.self.now.terms c.args.at.now c.args.value))
removed c =
    with_removed c.args.self.now c.args.at.now c.args.from c.args.count c.requires c.args.value _
    (parts _ _ _ [] c.args.from (c.args.from + c.args.count) c.terms-terms.ensures.all
    c.in_ok-joined.ensures) (c.if-is_zero.ensures.0 refl)

pub of-requires-clause-rising : goal.of-requires-clause-rising
of-requires-clause-rising c =
    replaced_rise c.args.self.now c.args.at.now c.args.value (removed c)

pub of-requires-clause-nonzero : goal.of-requires-clause-nonzero
of-requires-clause-nonzero c =
    replaced_nonzero c.args.self.now c.args.at.now c.args.value (removed c)

pub returns-then-is_zero : goal.returns-then-is_zero
returns-then-is_zero c =
    replaced_is c.args.self.now c.args.at.now c.args.value
    (removed (goal.at.returns-then-is_zero c).After-constant) _ _ c.constant.ensures c.of.ensures

given : (c : After-constant-2) → c.in_ok-terms.terms.items
    ≡ filter is_nonzero (entries (insert c.args.self.now.terms c.args.at.now c.args.value))
given c =
    with_given c.args.self.now c.args.at.now c.args.from c.args.count c.requires c.args.value _
    (parts _ _ _ ((c.args.at.now, c.args.value) ∷ []) c.args.from (c.args.from + c.args.count)
    c.terms-terms.ensures.all c.in_ok-terms.ensures)
    (λ e. false≢true (c.if-is_zero.ensures.1 e))

pub of-requires-2-clause-rising : goal.of-requires-2-clause-rising
of-requires-2-clause-rising c =
    replaced_rise c.args.self.now c.args.at.now c.args.value (given c)

pub of-requires-2-clause-nonzero : goal.of-requires-2-clause-nonzero
of-requires-2-clause-nonzero c =
    replaced_nonzero c.args.self.now c.args.at.now c.args.value (given c)

pub returns : goal.returns
returns c =
    replaced_is c.args.self.now c.args.at.now c.args.value
    (given (goal.at.returns c).After-constant-2) _ _ c.constant-2.ensures c.of-2.ensures

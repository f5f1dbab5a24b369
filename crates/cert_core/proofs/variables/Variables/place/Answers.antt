use Rattle.std.specs.Prelude.{◌<◌, IfSome, length}
use Rattle.std.proofs.Common.{◌∙◌, subst, sym}
use Rattle.cert_core.specs.Variables.{Ascend, IsVariablePlace}
use Rattle.cert_core.proofs.Places.{places_below, searched}
use Rattle.cert_core.proofs.variables.Variables.place.Goals as goal

pub returns-clause-at : goal.returns-clause-at
returns-clause-at c =
    let found = searched c.deref.result.now c.args.at.now c.binary_search.result
    (subst Ascend (sym c.deref.ensures.value) c.self.invariant) c.binary_search.ensures.bound
    c.binary_search.ensures.position in
    subst (λ us. IsVariablePlace us c.args.at.now c.ok.result) c.self.view_is
    (subst (λ us. IsVariablePlace us c.args.at.now c.ok.result) c.deref.ensures.value
    (subst (IsVariablePlace c.deref.result.now c.args.at.now) (sym c.ok.ensures.value) found))

pub returns-clause-below : goal.returns-clause-below
returns-clause-below c =
    let found = searched c.deref.result.now c.args.at.now c.binary_search.result
    (subst Ascend (sym c.deref.ensures.value) c.self.invariant) c.binary_search.ensures.bound
    c.binary_search.ensures.position in
    subst (λ us. IfSome c.ok.result (λ i. i < length us)) (c.deref.ensures.value ∙ c.self.view_is)
    (places_below c.deref.result.now c.args.at.now c.ok.result
    (subst (IsVariablePlace c.deref.result.now c.args.at.now) (sym c.ok.ensures.value) found))

pub returns-clause-ascending : goal.returns-clause-ascending
returns-clause-ascending c = subst Ascend c.self.view_is c.self.invariant

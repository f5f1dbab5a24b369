use Rattle.std.proofs.Common.{subst, sym}
use Rattle.small_number_laws.specs.SmallNumbers.{HasSmallNumbers}
use Rattle.cache_layer.specs.Cached.{Cached, StandsAttached, model_in}
use Rattle.cache_layer.proofs.Editing.{attach_answer, attach_done, never_attached, still_in_step}
use Rattle.cache_layer.proofs.FewSteps.{attach_few}
use Rattle.cache_layer.specs.FewCalls.{AttachesFew}
use Rattle.lazy_bridge.specs.Few.{ChangesFew}
use Rattle.cache_layer.proofs.cache.Cache.attach.Goals as goal

pub fill-requires : goal.fill-requires
fill-requires g c =
    subst (λ b. StandsAttached b c.self.inside.lazy c.self.inside.user.model) c.if-self.false
    c.self.invariant.stands

pub invariant_of-self : goal.invariant_of-self
invariant_of-self g c =
    still_in_step c.self.inside.user c.self.inside.lazy c.fill.new.lazy c.self.inside.attached
    c.in_err-leaves.field-0.0 c.if-self.false c.self.invariant c.in_err-leaves.ensures.bridged

pub returns-in_err-leaves-clause-answer : goal.returns-in_err-leaves-clause-answer
returns-in_err-leaves-clause-answer g c =
    attach_answer c.args.self.now c.self.inside.user c.self.inside.lazy c.fill.new.lazy
    c.self.inside.attached c.in_err-leaves.field-0.0 c.from_residual.result c.self.view_is
    c.if-self.false c.in_err-leaves.ensures.bridged c.from_residual.ensures.1

pub returns-clause-answer : goal.returns-clause-answer
returns-clause-answer g c =
    attach_done c.args.self.now c.self.inside.user c.self.inside.lazy c.fill.new.lazy
    c.self.inside.attached c.in_ok-leaves.leaves c.self.view_is c.if-self.false c.self.invariant
    c.in_ok-leaves.ensures.bridged

pub returns-in_err-leaves-clause-small : goal.returns-in_err-leaves-clause-small
returns-in_err-leaves-clause-small g c = λ small.
    never_attached c.in_err-leaves.field-0.0 c.from_residual.result c.from_residual.ensures.1
    (c.in_err-leaves.ensures.small
    (subst (λ (h : Cached). HasSmallNumbers (model_in h)) (sym c.self.view_is) small))

pub returns-in_err-leaves-clause-few : goal.returns-in_err-leaves-clause-few
returns-in_err-leaves-clause-few g c =
    subst (λ (h : Cached). AttachesFew c.from_residual.result h.lazy c.fill.new.lazy)
    c.self.view_is
    (attach_few c.self.inside.lazy c.fill.new.lazy c.self.inside.lazy.bridges.table
    c.self.inside.user.model c.in_err-leaves.field-0.0 c.from_residual.result
    c.in_err-leaves.ensures.bridged c.from_residual.ensures.1)

pub returns-clause-few : goal.returns-clause-few
returns-clause-few g c =
    subst (λ (h : Cached). ChangesFew h.lazy c.in_ok-leaves.leaves c.fill.new.lazy)
    c.self.view_is c.in_ok-leaves.ensures.few

use Rattle.std.proofs.Common.{◌∙◌, sym, ap, length, rules}
use Rattle.script_tokens.proofs.Splits.{tokens_of_first, tokens_of_spaced, tokens_of_none}
use Rattle.script_tokens.proofs.tokens.TokensIterator.next.Goals as goal

pub returns-then-not-is_empty-clause-steps : goal.returns-then-not-is_empty-clause-steps
returns-then-not-is_empty-clause-steps c =
    sym c.self.view_is ∙ sym c.loop-self.invariant
    ∙ tokens_of_first _ _ _ c.parted_at.ensures.before c.parted_at.ensures.after
    (sym c.is_empty-in-loop-self.ensures ∙ c.if-not-is_empty.true)

pub returns-then-not-is_empty-clause-goes : goal.returns-then-not-is_empty-clause-goes
returns-then-not-is_empty-clause-goes c =
    let first = sym c.self.view_is ∙ sym c.loop-self.invariant
    ∙ tokens_of_first _ _ _ c.parted_at.ensures.before c.parted_at.ensures.after
    (sym c.is_empty-in-loop-self.ensures ∙ c.if-not-is_empty.true) in
    let fewer = ap length first in
    search rules

pub loop-self-preserved : goal.loop-self-preserved
loop-self-preserved c =
    sym (tokens_of_spaced _ _ _ c.parted_at.ensures.before c.parted_at.ensures.after
    (sym c.is_empty-in-loop-self.ensures ∙ c.if-not-is_empty.false)) ∙ c.loop-self.invariant

pub returns-clause-steps : goal.returns-clause-steps
returns-clause-steps c =
    let none = tokens_of_none c.loop-self.self-inside.rest.now (sym c.is_empty.ensures
    ∙ c.loop-self-test.false) in
    (sym c.self.view_is ∙ sym c.loop-self.invariant ∙ none, none)

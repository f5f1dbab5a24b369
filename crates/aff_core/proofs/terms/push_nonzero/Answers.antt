use Rattle.std.specs.Prelude.{[], ◌∷◌, ◌++◌, cond}
use Rattle.std.proofs.Common.{sym, ap, ◌∙◌, refl}
use Rattle.std.proofs.lemmas.Bool.{false≢true}
use Rattle.std.proofs.lemmas.List.{append-nil}
use Rattle.rational_laws.specs.Tests.{nonzero_test, zero_test}
use Rattle.aff_core.proofs.terms.push_nonzero.Goals as goal

pub returns-in_ok-push : goal.returns-in_ok-push
returns-in_ok-push g c =
    c.in_ok-push.ensures.items
    ∙ ap (λ b. c.args.terms.now.items ++ cond b ((c.args.key, c.args.coefficient) ∷ []) [])
    (sym (nonzero_test c.args.coefficient (λ e. false≢true (c.if-not-is_zero.ensures.1 e))))

pub returns-else-not-is_zero : goal.returns-else-not-is_zero
returns-else-not-is_zero g c =
    sym (append-nil c.args.terms.now.items)
    ∙ ap (λ b. c.args.terms.now.items ++ cond b ((c.args.key, c.args.coefficient) ∷ []) [])
    (sym (zero_test c.args.coefficient (c.if-not-is_zero.ensures.0 refl)))

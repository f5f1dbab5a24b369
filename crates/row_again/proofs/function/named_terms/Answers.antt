use Rattle.std.proofs.Common.{[], ◌∷◌, ◌++◌, ◌+◌, ℕ, List, ap, drop, map, refl}
use Rattle.mof_laws.specs.ReadBack.{named_term}
use Rattle.mof_write.specs.Written.{naming}
use Rattle.named_aff.specs.declared.terms.NamedTerm.{NamedTerm}
use Rattle.row_again.proofs.Naming.{front_distinct, one_made}
use Rattle.row_again.proofs.function.named_terms.Goals as goal

pub push-requires : goal.push-requires
push-requires c =
    let xs = c.args.terms.now in
    let i = c.loop-var.var-index in
    let x = c.loop-var-item.result in
    let f = named_term (naming c.args.model.now.model) in
    let term : NamedTerm =
    record { variable = c.in_ok-variable.variable; coefficient = c.loop-var-item.result.1 } in
    front_distinct (c.loop-var.named ++ term ∷ []) (map f (drop (i + 1) xs)) (map f xs)
    (one_made f xs i x c.loop-var.named (c.loop-var.named ++ term ∷ []) (map f xs) term
    c.loop-var-item.is c.loop-var-test.true refl
    (ap (λ (n : List ℕ). record { variable = n; coefficient = x.1 }) c.in_ok-variable.ensures)
    c.loop-var.invariant)
    c.requires.apart

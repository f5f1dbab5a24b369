use Rattle.std.proofs.Common.{◌≡◌, ◌-◌, ◌++◌, drop, length, subst, take}
use Rattle.std.proofs.lemmas.List.{take_rest}
use Rattle.mof_text.proofs.TextLaws.{onward, quoted_on, single_first, string_first}
use Rattle.mof_text.proofs.pieces.other_len.Goals as goal

pub returns-then-text-eq34-clause-kept : goal.returns-then-text-eq34-clause-kept
returns-then-text-eq34-clause-kept c =
    let rest : take (length c.args.text.now - 1) (drop 1 c.args.text.now) ≡ drop 1 c.args.text.now =
    take_rest c.args.text.now 1 in
    string_first c.args.text.now c.string_len.result c.requires.some c.requires.other
    c.if-text-eq34.true
    (subst (λ s. quoted_on s ≡ take c.string_len.result s ++ onward (drop c.string_len.result s))
    rest c.string_len.ensures.kept)

pub returns-else-text-eq34-clause-kept : goal.returns-else-text-eq34-clause-kept
returns-else-text-eq34-clause-kept c =
    single_first c.args.text.now c.requires.some c.requires.other c.if-text-eq34.false

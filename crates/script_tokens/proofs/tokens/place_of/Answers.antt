use Rattle.std.proofs.Common.{eqb, rules, tests, ◌∙◌}
use Rattle.std.proofs.lemmas.Iterator.{YieldsList-from_slice}
use Rattle.std.proofs.lemmas.Iterator.Search.{position_from_yields_List}
use Rattle.std.proofs.lemmas.List.Sums.{prefix_len-le-length}
use Rattle.map_laws.specs.OptionLaws.{place_or_length}
use Rattle.script_tokens.proofs.tokens.place_of.Goals as goal

pub returns-clause-value : goal.returns-clause-value
returns-clause-value c =
    let place = position_from_yields_List (λ b. eqb b c.args.byte) _ _ c.position.result
    c.position.ensures.ran (YieldsList-from_slice c.args.bytes.now cc)
    (λ x b q k. search (rules, tests)) in
    c.unwrap_or.ensures ∙ place_or_length _ _ _ place (prefix_len-le-length _ _)

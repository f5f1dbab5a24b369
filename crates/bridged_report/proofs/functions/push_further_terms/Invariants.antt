use Rattle.std.proofs.Common.{◌≡◌, ◌++◌, flat_map, drop}
use Rattle.report_core.specs.Words.{spaced}
use Rattle.bridged_report.specs.Functions.{term_text}
use Rattle.bridged_report.proofs.functions.push_further_terms.Given as goal

-- with those that are left it is all of them
abbrev pub invariant-loop-term : goal.invariant-loop-term
invariant-loop-term l =
    l.draft ++ flat_map (λ t. spaced (term_text l.model.model t)) (drop l.term-index l.terms)
    ≡ l.fn.draft ++ flat_map (λ t. spaced (term_text l.model.model t)) l.fn.terms

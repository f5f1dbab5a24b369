use Rattle.std.proofs.Common.{◌≡◌, ◌++◌, flat_map, drop}
use Rattle.bridged_report.specs.Functions.{parted}
use Rattle.bridged_report.specs.Indexed.{function_text_in}
use Rattle.bridged_report.proofs.functions.push_further_components.Given as goal

-- with those that are left it is all of them
abbrev pub invariant-loop-component : goal.invariant-loop-component
invariant-loop-component l =
    l.draft ++ flat_map (λ f. parted (function_text_in l.model.model l.places.vars.indices f))
    (drop l.component-index l.components) ≡ l.fn.draft ++ flat_map
    (λ f. parted (function_text_in l.model.model l.places.vars.indices f)) l.fn.components

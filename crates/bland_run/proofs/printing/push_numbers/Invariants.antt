use Rattle.std.proofs.Common.{◌≡◌, ◌∷◌, ◌++◌, drop, flat_map}
use Rattle.ratio_core.specs.Text.{text_of}
use Rattle.bland_run.proofs.printing.push_numbers.Given as goal

abbrev pub invariant-loop-number : goal.invariant-loop-number
invariant-loop-number l =
    l.text.items ++ flat_map (λ q. 32 ∷ text_of q) (drop l.number-index l.number-items)
    ≡ l.fn.text.items ++ (l.letter ∷ flat_map (λ q. 32 ∷ text_of q) l.fn.numbers)

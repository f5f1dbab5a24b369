-- The digits are text, and what is parsed of it is their value.
use Rattle.std.proofs.Common.{◌∙◌, subst, ℕ, List}
use Rattle.std.specs.Str.Parse.{ParsesUnsigned}
use Rattle.script_tokens.specs.DigitLaws.{IsUtf8-digits, parsed}
use Rattle.run_summary.proofs.calls.value.Goals as goal

pub returns-in-Ok : goal.returns-in-Ok
returns-in-Ok c =
    let P : List ℕ → Type 0 = λ t. ParsesUnsigned 64 10 t c.parse.result in
    c.ok.ensures.value
    ∙ parsed 64 c.args.digits.now c.parse.result c.requires
    (subst P c.in-Ok.ensures.cases.0 c.parse.ensures.value.0)

pub returns-in-Err : goal.returns-in-Err
returns-in-Err c = absurd (c.in-Err.ensures.cases.0 (IsUtf8-digits c.args.digits.now c.requires))

use Rattle.std.specs.Prelude.{◌≡◌, ℕ, is_ok, is_some, Result, Ok, Err, IfOk, OnErr}
use Rattle.std.proofs.Common.{sym, ap, ◌∙◌}
use Rattle.std.specs.FinMap.{contains_key}
use Rattle.ratio_core.specs.Rational.{zero_ℚ}
use Rattle.aff_core.specs.Address.{Address}
use Rattle.aff_core.specs.Function.{Function}
use Rattle.aff_core.specs.Kept.{IsTermPlace, IsAbsent}
use Rattle.aff_core.proofs.aff.Aff.mentions.Goals as goal

is_ok-place : (f : Function) (at : Address) (r : Result ℕ ℕ) → IfOk r (IsTermPlace f at)
    → OnErr r (IsAbsent f at) → is_ok r ≡ contains_key f.terms at
is_ok-place f at (Ok n) h k = sym (ap is_some (h.found (at, zero_ℚ)))
is_ok-place f at (Err n) h k = sym (ap is_some k.absent)

pub returns : goal.returns
returns c =
    c.is_ok.ensures.value ∙ is_ok-place c.args.self.now c.args.at.now c.place.result
    c.place.ensures.found c.place.ensures.absent

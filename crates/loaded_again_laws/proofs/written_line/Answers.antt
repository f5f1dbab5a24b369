use Rattle.std.proofs.Common.{◌≡◌, subst}
use Rattle.mof_laws.specs.SameTokens.{as_line}
use Rattle.mof_round_trip_laws.specs.RoundTrip.{MakesAgain}
use Rattle.loaded_again_laws.specs.LoadedAgain.{loaded_again}
use Rattle.loaded_again_laws.proofs.written_line.Goals as goal

-- the text with a newline behind it makes the model again
pub returns-clause-loaded : goal.returns-clause-loaded
returns-clause-loaded c =
    let is : as_line c.in_ok-write.field-0 ≡ c.from_vec.result =
    cc (c.into_vec-text.ensures, c.in_ok-push.ensures.items, c.from_vec.ensures) in
    loaded_again c.args.model.now.model c.from_vec.result
    (subst (MakesAgain c.args.model.now.model) is c.in_ok-write.ensures.line)

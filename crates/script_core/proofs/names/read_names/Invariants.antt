use Rattle.std.proofs.Common.{◌≡◌}
use Rattle.name_index.specs.Name.{name_of_token}
use Rattle.script_core.specs.Names.{names_of}
use Rattle.script_tokens.specs.Each.{each_after}
use Rattle.script_core.proofs.names.read_names.Given as goal

abbrev pub invariant-loop-token : goal.invariant-loop-token
invariant-loop-token l =
    each_after name_of_token l.names.items l.token-iterator ≡ names_of l.fn.tokens

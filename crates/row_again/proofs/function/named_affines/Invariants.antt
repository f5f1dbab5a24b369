use Rattle.std.proofs.Common.{◌≡◌, ◌++◌, drop, map}
use Rattle.mof_laws.specs.ReadBack.{named_affine}
use Rattle.mof_write.specs.Written.{naming}
use Rattle.row_again.proofs.function.named_affines.Given as goal

abbrev pub invariant-loop-func : goal.invariant-loop-func
invariant-loop-func l =
    l.named.items ++ map (named_affine (naming l.model.model)) (drop l.func-index l.funcs)
    ≡ map (named_affine (naming l.model.model)) l.funcs

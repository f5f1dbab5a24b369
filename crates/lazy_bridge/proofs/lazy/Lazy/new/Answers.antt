use Rattle.std.proofs.Common.{◌≡◌, subst, sym}
use Rattle.std.specs.Prelude.{All, IsTrue}
use Rattle.std.specs.FinMap as finite
use Rattle.bridge_face.specs.BridgeState.{BridgeState}
use Rattle.lazy_bridge.proofs.Empty.{names_none}
use Rattle.lazy_bridge.specs.Native.{supports_native}
use Rattle.lazy_bridge.proofs.lazy.Lazy.new.Goals as goal

pub invariant_of-result : goal.invariant_of-result
invariant_of-result g c = (
  subst (λ t. IsTrue (supports_native t)) (sym c.new.ensures.table) c.requires.native,
  names_none c.args.map c.args.solver.leaves c.requires.solver c.requires.vars c.requires.rows,
)

pub returns-clause-nothing : goal.returns-clause-nothing
returns-clause-nothing g c = record {
  leaves = c.requires.solver;
  vars = c.requires.vars;
  rows = c.requires.rows;
  exprs = c.requires.exprs;
  noted = c.requires.noted;
  marks = c.requires.marks;
  kept = subst (All (λ (s : BridgeState). s.kept ≡ finite.empty)) (sym c.new.ensures.states)
      c.requires.kept;
}

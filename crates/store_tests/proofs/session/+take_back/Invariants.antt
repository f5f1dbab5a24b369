use Rattle.std.proofs.Common.{length}
use Rattle.store_tests.proofs.session.+take_back.Given as goal

-- the edits that are left
abbrev pub decreases-take_back : goal.decreases-take_back
decreases-take_back l = length l.edits.now

use Rattle.std.proofs.Common.{IfOk, OnOk, subst, sym, ◌++◌, ◌∷◌, ◌≡◌, []}
use Rattle.edit_engine.specs.Script.{held}
use Rattle.edit_engine.proofs.groups.hold.Goals as goal
use Rattle.edit_engine.proofs.groups.hold.Goals.{in-Err, in-Ok}
use Rattle.file_answers.specs.AskingLaws.{on_ok}

pub returns-clause-answer : goal.returns-clause-answer
returns-clause-answer c =
    elim c.match-push.branch [
      | in-Ok w ↦ subst (λ r. IfOk r (λ answer. answer ≡ held)) (sym w.result-is) w.held.ensures
      | in-Err w ↦ subst (λ r. IfOk r (λ answer. answer ≡ held)) (sym w.result-is) tt
    ]

pub returns-clause-edits : goal.returns-clause-edits
returns-clause-edits c =
    let more = c.args.edits.now ++ c.args.edit ∷ [] in
    elim c.match-push.branch [
      | in-Ok w ↦ on_ok c.match-push.result _
          (subst (λ r. OnOk r (c.push.new.self ≡ more)) w.in-Ok.is c.push.ensures.ok)
      | in-Err w ↦ subst (λ r. OnOk r (c.push.new.self ≡ more)) (sym w.result-is) tt
    ]

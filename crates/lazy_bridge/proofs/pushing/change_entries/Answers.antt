use Rattle.std.proofs.Common.{None, Some, false, map, subst, ◌∙◌}
use Rattle.fresh_bridging.specs.Entries.{expression_in, function_in, is_kept}
use Rattle.lazy_bridge.specs.Expressed.{SetsAt, expr_at, is_marked}
use Rattle.lazy_bridge.specs.Mentioned.{NotesPairs, contents_name}
use Rattle.lazy_bridge.proofs.Mapping.{mapped_alike, mapped_anew}
use Rattle.lazy_bridge.proofs.Noting.{noted_if}
use Rattle.touched_items.specs.Differences.{variables_in}
use Rattle.lazy_bridge.proofs.pushing.change_entries.Goals as goal

pub returns-then-name_alike-clause-anew : goal.returns-then-name_alike-clause-anew
returns-then-name_alike-clause-anew c =
    let d = c.args.differing.now in
    mapped_alike c.args.map.now c.forget_groups.new.map c.express_groups.new.map d
    c.args.standing.now
    (subst (λ gs. SetsAt (λ _. None) (variables_in (map (λ g. g.now) gs)) (expr_at c.args.map.now)
    (expr_at c.forget_groups.new.map)) c.deref.ensures.value c.forget_groups.ensures.exprs)
    (subst (λ gs. SetsAt (λ _. false) (variables_in (map (λ g. g.now) gs))
    (is_marked c.args.map.now) (is_marked c.forget_groups.new.map)) c.deref.ensures.value
    c.forget_groups.ensures.marks)
    (subst (λ gs. SetsAt (λ v. Some (function_in c.args.standing.now v))
    (variables_in (map (λ g. g.now) gs)) (expr_at c.forget_groups.new.map)
    (expr_at c.express_groups.new.map)) c.deref-2.ensures.value
    c.in_ok-express_groups.ensures.exprs)
    (subst (λ gs. SetsAt (λ v. is_kept (expression_in c.args.standing.now v))
    (variables_in (map (λ g. g.now) gs)) (is_marked c.forget_groups.new.map)
    (is_marked c.express_groups.new.map)) c.deref-2.ensures.value
    c.in_ok-express_groups.ensures.marks)
    (c.express_groups.ensures.noted ∙ c.forget_groups.ensures.noted)
    (c.name_alike.ensures c.if-name_alike.true)

pub returns-clause-anew : goal.returns-clause-anew
returns-clause-anew c =
    let d = c.args.differing.now in
    let unnoted = c.note_contents.ensures in
    let noted = c.note_contents-2.ensures in
    noted_if c.note_contents-2.result
    (λ h. mapped_anew c.args.map.now c.forget_groups.new.map c.express_groups.new.map
    c.note_contents.new.map c.note_contents-2.new.map d c.args.standing.now
    (subst (λ gs. SetsAt (λ _. None) (variables_in (map (λ g. g.now) gs)) (expr_at c.args.map.now)
    (expr_at c.forget_groups.new.map)) c.deref.ensures.value c.forget_groups.ensures.exprs)
    (subst (λ gs. SetsAt (λ _. false) (variables_in (map (λ g. g.now) gs))
    (is_marked c.args.map.now) (is_marked c.forget_groups.new.map)) c.deref.ensures.value
    c.forget_groups.ensures.marks)
    (subst (λ gs. SetsAt (λ v. Some (function_in c.args.standing.now v))
    (variables_in (map (λ g. g.now) gs)) (expr_at c.forget_groups.new.map)
    (expr_at c.express_groups.new.map)) c.deref-2.ensures.value
    c.in_ok-express_groups.ensures.exprs)
    (subst (λ gs. SetsAt (λ v. is_kept (expression_in c.args.standing.now v))
    (variables_in (map (λ g. g.now) gs)) (is_marked c.forget_groups.new.map)
    (is_marked c.express_groups.new.map)) c.deref-2.ensures.value
    c.in_ok-express_groups.ensures.marks)
    (noted.exprs ∙ unnoted.exprs) (noted.kept ∙ unnoted.kept)
    (subst (λ n. NotesPairs (contents_name d.before) false n c.note_contents.new.map.noted)
    (c.express_groups.ensures.noted ∙ c.forget_groups.ensures.noted)
    c.in_ok-note_contents.ensures.noted) h)
    c.note_contents-2.ensures.noted

use Rattle.std.proofs.Common.{◌≡◌, [], ◌∷◌, ap, sym, ◌∙◌, append-nil, cond, map}
use Rattle.user_model.specs.Model.{variable_address}
use Rattle.user_model.specs.declared.group.GroupVar.{GroupVar}
use Rattle.map_laws.specs.LoopLaws.{taken_more}
use Rattle.bridge_plan.specs.KeptGroups.{keeps}
use Rattle.model_bridging.specs.Kinds.{told}
use Rattle.model_bridging.proofs.Telling.{group_more, is_among, none_told}
use Rattle.model_bridging.proofs.kinds.kept_variables.Goals as goal

pub loop-group-init : goal.loop-group-init
loop-group-init g c =
    let source : c.args.groups.now.items ≡ c.into_iter-group-iterator.result.iter =
    sym (ap (λ r. r.iter) c.into_iter-group-iterator.ensures.into_iter_gives
    ∙ (c.rev-group-items.ensures.source ∙ c.iter.ensures.items)) in (
      [],
      source ∙ sym (append-nil _),
      none_told (g.R.Rewriter.means c.args.rewriter.now).choice
          c.new-kept.result c.new-kept.ensures,
    )

pub loop-group-preserved : goal.loop-group-preserved
loop-group-preserved g c =
    let choice = (g.R.Rewriter.means c.args.rewriter.now).choice in
    let at = c.loop-group in
    let taken = at.invariant.0 in
    let group = c.in-Some.group.now in (
      group ∷ taken,
      taken_more c.next.new.self.iter group taken at.invariant.1 c.in-Some.ensures.steps,
      group_more choice group taken at.kept c.tell.new.kept c.keeps-stays.result
          (c.keeps-stays.ensures ∙ ap (keeps choice) c.group_kind.ensures) at.invariant.2
          (λ v. c.in_ok-tell.ensures v
          ∙ ap (λ vs. cond (is_among (map (λ (x : GroupVar). variable_address x.number) vs) v)
          c.keeps-stays.result (told at.kept v)) c.as_slice.ensures),
    )

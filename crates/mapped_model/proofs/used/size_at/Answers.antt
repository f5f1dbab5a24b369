use Rattle.std.proofs.Common.{ap, get_or, sym, ◌∙◌}
use Rattle.map_file.specs.declared.map_text.MapText.{MapText}
use Rattle.mapped_model.proofs.UsedSteps.{same_size}
use Rattle.mapped_model.proofs.used.size_at.Goals as goal

pub returns : goal.returns
returns c =
    ap (λ (m : MapText). m.size) (sym c.index-as_slice-place.is)
    ∙ same_size c.args.file.now.maps c.args.place c.index-as_slice-place.result
    (c.index-as_slice-place.is ∙ ap (λ ms. get_or ms c.args.place c.index-as_slice-place.result)
    c.as_slice.ensures) c.requires

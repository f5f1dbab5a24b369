use Rattle.std.proofs.Common.{◌∙◌, refl, sym}
use Rattle.std.proofs.lemmas.Bool.{eqb-true}
use Rattle.std.proofs.lemmas.Option.{slice_get_read}
use Rattle.numbered_list.specs.PlaceLaws.{found_at}
use Rattle.numbered_list.proofs.search.is_at.Goals as goal

pub returns : goal.returns
returns g c = λ is.
    found_at g.X.HasNumber.number_of c.args.number c.args.items.now c.args.place
    c.index-items-place.result c.requires c.if-place-items.false
    (slice_get_read c.args.items.now _ c.args.place c.index-items-place.result refl
    c.if-place-items.false c.index-items-place.is)
    (sym c.number.ensures ∙ eqb-true c.number.result c.args.number is)

use Rattle.std.specs.Prelude.{◌≡◌, T, Some}
use Rattle.std.proofs.Common.{sym, ap, subst, ◌∙◌}
use Rattle.std.specs.FinMap.{find, is_sorted}
use Rattle.aff_core.specs.Address.{address_cmp, address_total}
use Rattle.aff_core.specs.FunctionLaws.{rises, tested}
use Rattle.aff_core.specs.Rising.{RiseStrictly}
use Rattle.item_map.specs.Forks.{items_in, items_of}
use Rattle.item_map.proofs.AroundLaws.{find_after, find_before, find_here, rise_after, rise_before}
use Rattle.item_map.proofs.ranked.Ranked+tuple2+Address+V.+find.Goals as goal

pub returns-in-Less : goal.returns-in-Less
returns-in-Less g t c h =
    let fork = c.in-Some.fork.value in
    let is : c.args.self.now ≡ items_of fork =
    sym c.self.view_is ∙ ap items_in c.in-Some.is in
    let sorted = subst (λ es. T (is_sorted address_cmp es)) is (rises _ h) in
    let same = c.deref-in-Less.ensures in
    c.find.ensures (subst (λ f. RiseStrictly f.before) (sym same)
    (record { rising = tested _ (rise_before address_total fork.before fork.item fork.after sorted) }))
    ∙ ap (λ f. find address_cmp c.args.at.now f.before) same
    ∙ find_before address_total c.args.at.now fork.before fork.item fork.after sorted
    (ap (λ f. address_cmp c.args.at.now f.item.0) (sym c.deref.ensures) ∙ sym c.in-Less.ensures)
    ∙ ap (find address_cmp c.args.at.now) (sym is)

pub returns-in-Equal : goal.returns-in-Equal
returns-in-Equal g t c h =
    let fork = c.in-Some.fork.value in
    let is : c.args.self.now ≡ items_of fork =
    sym c.self.view_is ∙ ap items_in c.in-Some.is in
    let sorted = subst (λ es. T (is_sorted address_cmp es)) is (rises _ h) in
    ap (λ f. Some f.item.1) c.deref-in-Equal.ensures
    ∙ find_here address_total c.args.at.now fork.before fork.item fork.after sorted
    (ap (λ f. address_cmp c.args.at.now f.item.0) (sym c.deref.ensures) ∙ sym c.in-Equal.ensures)
    ∙ ap (find address_cmp c.args.at.now) (sym is)

pub returns-in-Greater : goal.returns-in-Greater
returns-in-Greater g t c h =
    let fork = c.in-Some.fork.value in
    let is : c.args.self.now ≡ items_of fork =
    sym c.self.view_is ∙ ap items_in c.in-Some.is in
    let sorted = subst (λ es. T (is_sorted address_cmp es)) is (rises _ h) in
    let same = c.deref-in-Greater.ensures in
    c.find-in-Greater.ensures (subst (λ f. RiseStrictly f.after) (sym same)
    (record { rising = tested _ (rise_after address_total fork.before fork.item fork.after sorted) }))
    ∙ ap (λ f. find address_cmp c.args.at.now f.after) same
    ∙ find_after address_total c.args.at.now fork.before fork.item fork.after sorted
    (ap (λ f. address_cmp c.args.at.now f.item.0) (sym c.deref.ensures) ∙ sym c.in-Greater.ensures)
    ∙ ap (find address_cmp c.args.at.now) (sym is)

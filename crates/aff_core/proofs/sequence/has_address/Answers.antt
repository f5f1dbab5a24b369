use Rattle.std.specs.Prelude.{◌≡◌, List, [], ◌∷◌, ◌||◌, Contains, refl}
use Rattle.std.proofs.Common.{ap, subst, ◌∙◌}
use Rattle.std.specs.Bool.{Decides}
use Rattle.std.specs.Cmp.{eq_by_cmp_equiv}
use Rattle.std.specs.List.{list_any}
use Rattle.std.specs.Ordering.{eq_by_cmp}
use Rattle.std.proofs.lemmas.List.Elements.{contains_decides, Decides-contains}
use Rattle.aff_core.specs.Address.{Address, address_cmp, address_total, address_eq, address_eq-Decides}
use Rattle.aff_core.proofs.sequence.has_address.Goals as goal

other_side : (xs : List Address) (at : Address) → list_any (λ x. eq_by_cmp address_cmp x at) xs
    ≡ list_any (address_eq at) xs
other_side [] at = refl
other_side (x ∷ xs) at = λ i. (eq_by_cmp_equiv address_total).symm x at i || other_side xs at i

pub returns-clause-value : goal.returns-clause-value
returns-clause-value c =
    c.contains.ensures.value ∙ other_side _ c.args.at.now ∙ ap (list_any (address_eq c.args.at.now))
    c.as_slice.ensures

pub returns-clause-member : goal.returns-clause-member
returns-clause-member c =
    let answer : Decides c.contains.result (Contains c.as_slice.result.now c.args.at.now) =
    Decides-contains _ _ _ (contains_decides (eq_by_cmp address_cmp) address_eq-Decides _ _ _
    c.contains.ensures.cases) in
    subst (λ xs. Decides c.contains.result (Contains xs c.args.at.now)) c.as_slice.ensures answer

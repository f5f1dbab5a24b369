use Rattle.std.proofs.Common.{List, Result, Ok, Err, length, flat_map, arith, ap, ◌∙◌}
use Rattle.std.specs.Prelude.{OnOk}
use Rattle.user_model.specs.declared.group.Group.{Group}
use Rattle.model_catalog.specs.Kept.{model_of}
use Rattle.model_catalog.proofs.Models.{kept_length}
use Rattle.model_catalog.proofs.Exchanges.{kept_alike}
use Rattle.model_catalog.proofs.catalog.Catalog.reserve.Goals as goal

on_ok : {T E P Q : Type 0} (r : Result T E) → OnOk r P → (P → Q) → OnOk r Q
on_ok (Ok x) h f = f h
on_ok (Err e) h f = h

pub invariant_of-self-2 : goal.invariant_of-self-2
invariant_of-self-2 c =
    let a = c.self.inside in
    kept_alike (model_of a) _ a.kept.items _ a.variable_names.numbers _
    a.row_names.numbers _ a.terms
    (λ i. record {
      groups = c.reserve.ensures.items i;
      rows = c.reserve-2.ensures.items i;
      objective = a.objective;
      next = a.next;
    })
    c.reserve-3.ensures.items c.reserve-4.ensures.numbers c.reserve-5.ensures.numbers
    c.self.invariant

pub returns-clause-ok : goal.returns-clause-ok
returns-clause-ok c =
    let a = c.self.inside in
    let long = kept_length c.self.invariant.consistent
    c.self.invariant.index in
    let same = ap (λ (gs : List Group). length (flat_map (λ g. g.vars) gs))
    c.reserve.ensures.items in
    on_ok c.reserve-5.result c.reserve-5.ensures.ok (λ fits. record {
      groups = c.in_ok-reserve.ensures.ok;
      rows = c.in_ok-reserve-2.ensures.ok;
      variables = omega (
        arith,
        long,
        same,
        c.in_ok-reserve-3.ensures.ok,
        ap length c.reserve-3.ensures.items,
      );
      variable_names = c.in_ok-reserve-4.ensures.ok;
      row_names = fits;
    })

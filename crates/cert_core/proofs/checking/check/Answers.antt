use mathlib.Core.Path.{transport}
use Rattle.std.specs.Prelude.{length}
use Rattle.std.proofs.Common.{◌∙◌, ap, subst, sym, true≢false}
use Rattle.user_model.specs.declared.undo.NextNumbers.{NextNumbers}
use Rattle.certificates.specs.declared.certificate.Certificate.TheVariants.{Optimal, Infeasible, Unbounded}
use Rattle.certificates.specs.Good.{IsInfeasible, IsOptimal, IsUnbounded}
use Rattle.cert_core.specs.Answers.{TellsWhereFits}
use Rattle.cert_core.specs.Checked.{Checks, HasEntries, HasRowDuals, model_of}
use Rattle.cert_core.specs.Folds.{InfeasibleFits, OptimalFits, UnboundedFits}
use Rattle.cert_core.proofs.Assembled.{ready, variable_count}
use Rattle.cert_core.proofs.Judged.{checks_told, good_entries}
use Rattle.cert_core.proofs.checking.check.Goals as goal

-- whatever numbers are next
none : NextNumbers
none = record { group = 0; variable = 0; row = 0 }

pub returns-then-not-has_entries : goal.returns-then-not-has_entries
returns-then-not-has_entries c = λ next.
    let model = model_of c.args.groups.now.items c.args.rows.now.items c.args.objective.now next in
    let lacks = λ (h : HasEntries model c.args.certificate.now). true≢false
    (sym ((c.has_entries.ensures next).1 h) ∙ c.if-not-has_entries.true) in (
      (
        λ t. absurd (true≢false (sym t)),
        λ good. absurd (lacks (good_entries model c.args.certificate.now good)),
      ),
      λ h. absurd (lacks h),
    )

pub is_optimal-requires-clause-ready : goal.is_optimal-requires-clause-ready
is_optimal-requires-clause-ready c =
    ready c.args.groups.now.items c.args.rows.now.items c.args.objective.now c.in_ok-of.field-0 c.requires.valid
    c.requires.numbers c.in_ok-of.ensures

pub is_optimal-requires-clause-size : goal.is_optimal-requires-clause-size
is_optimal-requires-clause-size c =
    let entries = subst (HasEntries (model_of c.args.groups.now.items c.args.rows.now.items
    c.args.objective.now none))
    c.in-Optimal.is ((c.has_entries.ensures none).0 c.if-not-has_entries.false) in
    ap length c.as_slice-in-Optimal-2.ensures ∙ entries.0
    ∙ sym (variable_count c.args.groups.now.items c.in_ok-of.field-0 c.in_ok-of.ensures)

pub is_optimal-requires-clause-rows : goal.is_optimal-requires-clause-rows
is_optimal-requires-clause-rows c =
    let entries = subst (HasEntries (model_of c.args.groups.now.items c.args.rows.now.items
    c.args.objective.now none))
    c.in-Optimal.is ((c.has_entries.ensures none).0 c.if-not-has_entries.false) in
    subst (HasRowDuals c.args.rows.now.items) (sym c.as_slice.ensures) entries.1

pub is_optimal-requires-clause-vars : goal.is_optimal-requires-clause-vars
is_optimal-requires-clause-vars c =
    let entries = subst (HasEntries (model_of c.args.groups.now.items c.args.rows.now.items
    c.args.objective.now none))
    c.in-Optimal.is ((c.has_entries.ensures none).0 c.if-not-has_entries.false) in
    ap length c.as_slice-in-Optimal.ensures ∙ entries.2
    ∙ sym (variable_count c.args.groups.now.items c.in_ok-of.field-0 c.in_ok-of.ensures)

pub returns-in-Optimal : goal.returns-in-Optimal
returns-in-Optimal c = λ next.
    let model = model_of c.args.groups.now.items c.args.rows.now.items c.args.objective.now next in
    let r = c.is_optimal.result in
    let x = c.as_slice-in-Optimal-2.ensures in
    let ys = c.as_slice.ensures in
    let vs = c.as_slice-in-Optimal.ensures in
    let entries = (c.has_entries.ensures next).0 c.if-not-has_entries.false in
    subst (Checks model r) (sym c.in-Optimal.is)
    (checks_told model r
    (Optimal c.in-Optimal.value c.in-Optimal.x c.in-Optimal.rows c.in-Optimal.vars)
    (subst (HasEntries model) c.in-Optimal.is entries)
    (transport (λ i. TellsWhereFits r (OptimalFits model (x i) (ys i) (vs i))
    (IsOptimal model c.in-Optimal.value (x i) (ys i) (vs i))) (c.is_optimal.ensures next)))

pub is_infeasible-requires-clause-ready : goal.is_infeasible-requires-clause-ready
is_infeasible-requires-clause-ready c =
    ready c.args.groups.now.items c.args.rows.now.items c.args.objective.now c.in_ok-of.field-0 c.requires.valid
    c.requires.numbers c.in_ok-of.ensures

pub is_infeasible-requires-clause-rows : goal.is_infeasible-requires-clause-rows
is_infeasible-requires-clause-rows c =
    let entries = subst (HasEntries (model_of c.args.groups.now.items c.args.rows.now.items
    c.args.objective.now none))
    c.in-Infeasible.is ((c.has_entries.ensures none).0 c.if-not-has_entries.false) in
    subst (HasRowDuals c.args.rows.now.items) (sym c.as_slice-in-Infeasible.ensures) entries.0

pub is_infeasible-requires-clause-vars : goal.is_infeasible-requires-clause-vars
is_infeasible-requires-clause-vars c =
    let entries = subst (HasEntries (model_of c.args.groups.now.items c.args.rows.now.items
    c.args.objective.now none))
    c.in-Infeasible.is ((c.has_entries.ensures none).0 c.if-not-has_entries.false) in
    ap length c.as_slice-in-Infeasible-2.ensures ∙ entries.1
    ∙ sym (variable_count c.args.groups.now.items c.in_ok-of.field-0 c.in_ok-of.ensures)

pub returns-in-Infeasible : goal.returns-in-Infeasible
returns-in-Infeasible c = λ next.
    let model = model_of c.args.groups.now.items c.args.rows.now.items c.args.objective.now next in
    let r = c.is_infeasible.result in
    let ys = c.as_slice-in-Infeasible.ensures in
    let vs = c.as_slice-in-Infeasible-2.ensures in
    let entries = (c.has_entries.ensures next).0 c.if-not-has_entries.false in
    subst (Checks model r) (sym c.in-Infeasible.is)
    (checks_told model r (Infeasible c.in-Infeasible.gap c.in-Infeasible.rows c.in-Infeasible.vars)
    (subst (HasEntries model) c.in-Infeasible.is entries)
    (transport (λ i. TellsWhereFits r (InfeasibleFits model (ys i) (vs i))
    (IsInfeasible model c.in-Infeasible.gap (ys i) (vs i))) (c.is_infeasible.ensures next)))

pub is_unbounded-requires-clause-ready : goal.is_unbounded-requires-clause-ready
is_unbounded-requires-clause-ready c =
    ready c.args.groups.now.items c.args.rows.now.items c.args.objective.now c.in_ok-of.field-0 c.requires.valid
    c.requires.numbers c.in_ok-of.ensures

pub is_unbounded-requires-clause-point : goal.is_unbounded-requires-clause-point
is_unbounded-requires-clause-point c =
    let entries = subst (HasEntries (model_of c.args.groups.now.items c.args.rows.now.items
    c.args.objective.now none))
    c.in-Unbounded.is ((c.has_entries.ensures none).0 c.if-not-has_entries.false) in
    ap length c.as_slice-in-Unbounded.ensures ∙ entries.0
    ∙ sym (variable_count c.args.groups.now.items c.in_ok-of.field-0 c.in_ok-of.ensures)

pub is_unbounded-requires-clause-ray : goal.is_unbounded-requires-clause-ray
is_unbounded-requires-clause-ray c =
    let entries = subst (HasEntries (model_of c.args.groups.now.items c.args.rows.now.items
    c.args.objective.now none))
    c.in-Unbounded.is ((c.has_entries.ensures none).0 c.if-not-has_entries.false) in
    ap length c.as_slice-in-Unbounded-2.ensures ∙ entries.1
    ∙ sym (variable_count c.args.groups.now.items c.in_ok-of.field-0 c.in_ok-of.ensures)

pub returns : goal.returns
returns c = λ next.
    let model = model_of c.args.groups.now.items c.args.rows.now.items c.args.objective.now next in
    let r = c.is_unbounded.result in
    let x = c.as_slice-in-Unbounded.ensures in
    let d = c.as_slice-in-Unbounded-2.ensures in
    let entries = (c.has_entries.ensures next).0 c.if-not-has_entries.false in
    subst (Checks model r) (sym c.in-Unbounded.is)
    (checks_told model r (Unbounded c.in-Unbounded.x c.in-Unbounded.d)
    (subst (HasEntries model) c.in-Unbounded.is entries)
    (transport (λ i. TellsWhereFits r (UnboundedFits model (x i) (d i)) (IsUnbounded model (x i) (d i)))
    (c.is_unbounded.ensures next)))

use Rattle.std.proofs.Common.{ap, ◌∙◌}
use Rattle.std.proofs.lemmas.List.{get_or-set_other, get_or-set_same, get_or_default}
use Rattle.ratio_core.specs.Rational.{Fits, sum_fits, zero_ℚ, ◌+ℚ◌}
use Rattle.std.proofs.Common.{subst, sym}
use Rattle.tableau_core.specs.TermSteps.{on_ok}
use Rattle.tableau_core.proofs.RowSteps.{set_fits}
use Rattle.tableau_core.proofs.start.add_at.Goals as goal

pub returns-clause-fits : goal.returns-clause-fits
returns-clause-fits c =
    c.add_entry.ensures.fits
    ∙ ap (λ x. sum_fits x c.args.entry.now) (get_or_default c.args.sums.now c.args.j c.index-sums-j.result zero_ℚ
    c.requires.within)

pub returns-clause-here : goal.returns-clause-here
returns-clause-here c =
    on_ok _ _ c.add_entry.result
    (λ e. get_or-set_same c.args.sums.now c.args.j c.add_entry.new.sum zero_ℚ c.requires.within
    ∙ e ∙ ap (λ x. x +ℚ c.args.entry.now) (get_or_default c.args.sums.now c.args.j c.index-sums-j.result zero_ℚ
    c.requires.within)) c.add_entry.ensures.ok

pub returns-clause-others : goal.returns-clause-others
returns-clause-others c = λ k n.
    get_or-set_other c.args.sums.now c.args.j k c.add_entry.new.sum zero_ℚ n

pub returns-clause-all_fit : goal.returns-clause-all_fit
returns-clause-all_fit c =
    set_fits c.args.sums.now c.args.j c.add_entry.new.sum c.requires.all_fit c.requires.within
    (c.add_entry.ensures.all_fit (subst Fits (sym (get_or_default c.args.sums.now c.args.j c.index-sums-j.result zero_ℚ
    c.requires.within)) (c.requires.all_fit c.args.j)))

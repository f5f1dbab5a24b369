use Rattle.std.specs.Prelude.{OnOk}
use Rattle.std.proofs.Common.{ap, subst, sym, [], ◌∷◌, ◌≡◌, ◌∙◌}
use Rattle.ratio_core.specs.Rational.{zero_ℚ}
use Rattle.sparse_ratios.specs.Terms.{number_at}
use Rattle.sparse_lists.specs.Across.{ArePutAcross, PlacesRise}
use Rattle.sparse_lists.specs.GrowthLaws.{put_same}
use Rattle.aff_core.specs.Function.{coefficient, terms_of}
use Rattle.equality_form.specs.Equations.{flipped}
use Rattle.tableau_core.specs.TermSteps.{on_ok}
use Rattle.std_form.specs.Borrowed.{function_in}
use Rattle.std_form.specs.declared.equation.Function.{Function}
use Rattle.std_form.proofs.Gathering.{number_of_terms, number_of_variable, number_of_zero, terms_rise}
use Rattle.std_form.proofs.terms.put_function.Goals as goal

pub put_across-requires-in-Affine-clause-rise : goal.put_across-requires-in-Affine-clause-rise
put_across-requires-in-Affine-clause-rise c =
    subst PlacesRise (sym c.terms.ensures.all)
    (terms_rise (terms_of c.in-Affine.f.now) c.terms.ensures.rising)

pub returns-in-Zero : goal.returns-in-Zero
returns-in-Zero c =
    subst (λ (f : Function). OnOk c.put_across.result (ArePutAcross c.args.place
    (λ b. flipped c.args.negated (coefficient (function_in f) b)) c.args.columns.now
    c.put_across.new.lists)) (sym c.in-Zero.is)
    (on_ok _ _ c.put_across.result (put_same c.args.place
    (λ b. flipped c.args.negated (number_at [] b)) _ c.args.columns.now c.put_across.new.lists
    (λ b. ap (flipped c.args.negated) (number_of_zero b))) c.put_across.ensures)

pub returns-in-Variable : goal.returns-in-Variable
returns-in-Variable c =
    subst (λ (f : Function). OnOk c.put_across-in-Variable.result (ArePutAcross c.args.place
    (λ b. flipped c.args.negated (coefficient (function_in f) b)) c.args.columns.now
    c.put_across-in-Variable.new.lists)) (sym c.in-Variable.is)
    (on_ok _ _ c.put_across-in-Variable.result (put_same c.args.place
    (λ b. flipped c.args.negated (number_at ((c.in-Variable.var, c.one.result) ∷ []) b)) _
    c.args.columns.now c.put_across-in-Variable.new.lists
    (λ b. ap (flipped c.args.negated) (number_of_variable c.in-Variable.var b c.one.result
    c.one.ensures))) c.put_across-in-Variable.ensures)

pub returns-in-Affine : goal.returns-in-Affine
returns-in-Affine c =
    subst (λ (f : Function). OnOk c.put_across-in-Affine.result (ArePutAcross c.args.place
    (λ b. flipped c.args.negated (coefficient (function_in f) b)) c.args.columns.now
    c.put_across-in-Affine.new.lists)) (sym c.in-Affine.is)
    (on_ok _ _ c.put_across-in-Affine.result (put_same c.args.place
    (λ b. flipped c.args.negated (number_at c.terms.result.now b)) _ c.args.columns.now
    c.put_across-in-Affine.new.lists
    (λ b. ap (flipped c.args.negated) (ap (λ ts. number_at ts b) c.terms.ensures.all
    ∙ number_of_terms c.in-Affine.f.now b))) c.put_across-in-Affine.ensures)

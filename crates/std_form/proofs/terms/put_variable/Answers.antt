use Rattle.std.proofs.Common.{map, subst, sym, ◌+◌, ◌≡◌}
use Rattle.std.proofs.lemmas.Result.{IfOk-weaker}
use Rattle.sparse_ratios.specs.Terms.{number_at}
use Rattle.sparse_lists.specs.Across.{GrowBy}
use Rattle.equality_form.specs.Columns.{signs}
use Rattle.equality_form.specs.Equations.{flipped}
use Rattle.std_form.proofs.Gathering.{free_grows, nonneg_grows}
use Rattle.std_form.proofs.terms.put_variable.Goals as goal

pub returns-in-Nonneg : goal.returns-in-Nonneg
returns-in-Nonneg c =
    subst (λ v. GrowBy c.args.place c.in_ok-after.after
    (λ b. map (λ negated. flipped negated (number_at c.args.terms.now b)) (signs v))
    c.args.rows.now c.put_across.new.lists) (sym c.in-Nonneg.is)
    (nonneg_grows c.args.rows.now c.put_across.new.lists c.args.place c.in_ok-after.after
    c.args.terms.now c.in_ok-put_across.ensures c.in_ok-after.ensures)

pub returns-in_ok-put_across-in-Free : goal.returns-in_ok-put_across-in-Free
returns-in_ok-put_across-in-Free c =
    IfOk-weaker c.next-in-Free.result _ _ (λ next e. subst (λ v. GrowBy c.args.place next
    (λ b. map (λ negated. flipped negated (number_at c.args.terms.now b)) (signs v))
    c.args.rows.now c.put_across-in-Free.new.lists) (sym c.in-Free.is)
    (free_grows c.args.rows.now c.put_across.new.lists c.put_across-in-Free.new.lists c.args.place
    c.in_ok-after.after next c.args.terms.now c.in_ok-put_across.ensures c.in_ok-after.ensures
    c.in_ok-put_across-in-Free.ensures e)) c.next-in-Free.ensures

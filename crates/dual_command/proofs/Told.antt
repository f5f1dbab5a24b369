-- What is answered to a dual that is solved.
use Rattle.std.proofs.Common.{◌≡◌, ◌∙◌, ℕ, suc, ◌+◌, List, [], ◌∷◌, ap, ap₂, flat_map, length, length-append, refl, subst, sym, Ok, Err}
use Rattle.std.specs.Prelude.{IfOk, Result}
use Rattle.std.proofs.lemmas.Result.{IfOk-weaker}
use Rattle.cache_layer.specs.CacheState.{CacheState}
use Rattle.certificates.specs.Good.{IsOptimal, IsUnbounded}
use Rattle.certificates.specs.declared.certificate.Certificate.{Certificate}
use Rattle.certificates.specs.declared.certificate.Certificate.TheVariants.{Infeasible, Unbounded}
use Rattle.dual_command.specs.Says.{NoneRight, SaysCarried, SaysDual, SaysDualCertificate}
use Rattle.dual_command.specs.Text.{duals_text, file_line, none_text, unbounded_text}
use Rattle.dual_command.specs.declared.command.Task.{Task}
use Rattle.dual_command.specs.declared.command.Task.TheVariants.{Solve, Write}
use Rattle.group_numbering.specs.NewGroups.{NewGroup, numbered_groups, variable_count}
use Rattle.dual_model.specs.Carried.{carried_rows, carried_variables}
use Rattle.dual_model.specs.DualOf.{dual_of_model, new_groups}
use Rattle.dual_model.specs.Solved.{AreBestDuals}
use Rattle.dualization.specs.Answers.{CarriesPoint}
use Rattle.dualization.specs.declared.carrying.Carried.{Carried}
use Rattle.dualization.specs.declared.fault.DualFault.{DualFault}
use Rattle.dualization.specs.declared.fault.DualFault.TheVariants as dual
use Rattle.file_answers.specs.FileAnswers.{refused}
use Rattle.fresh_bridging.specs.TheRules.{Setting}
use Rattle.lists.specs.declared.memory.Memory.{Memory as NoMemory}
use Rattle.model_command.specs.Alone.{alone}
use Rattle.model_command.specs.Solved.{SaysSolved}
use Rattle.ratio_core.specs.Rational.{Rational}
use Rattle.report_core.specs.declared.answer.Answer.{Answer}
use Rattle.report_core.specs.declared.answer.Answer.TheVariants.{Printed}
use Rattle.report_core.specs.declared.refused.Place.{Place}
use Rattle.report_core.specs.declared.refused.Refused.TheVariants.{Overflow}
use Rattle.user_model.specs.Edited.{numbered_from}
use Rattle.user_model.specs.Model.{ModelValue}
use Rattle.user_model.specs.declared.group.Group.{Group}

module _ (model : ModelValue) (told : Result Answer NoMemory) where
  -- the dual alone
  pub says_alone : (s : CacheState) (setting : Setting) (dual : ModelValue) → s ≡ alone setting dual
      → dual ≡ dual_of_model model → IfOk told (SaysSolved (SaysDualCertificate model) s)
      → IfOk told (SaysDual model setting Solve)
  says_alone s setting dual is same =
      subst (λ t. IfOk told (SaysSolved (SaysDualCertificate model) t)) (is ∙ ap (alone setting) same)

  -- ---- the task

  pub says_written : (setting : Setting) (task : Task) (dual : ModelValue) → task ≡ Write
      → dual ≡ dual_of_model model → IfOk told (λ answer. answer ≡ Printed (file_line dual))
      → IfOk told (SaysDual model setting task)
  says_written setting task dual is same h =
      subst (λ t. IfOk told (SaysDual model setting t)) (sym is)
      (subst (λ m. IfOk told (λ answer. answer ≡ Printed (file_line m))) same h)

  pub says_solved : (setting : Setting) (task : Task) → task ≡ Solve
      → IfOk told (SaysDual model setting Solve) → IfOk told (SaysDual model setting task)
  says_solved setting task is h =
      subst (λ t. IfOk told (SaysDual model setting t)) (sym is) h

  -- ---- by the kind of certificate

  pub says_none : (c : Certificate) (gap : Rational) (rows : List (List Rational))
      (vars : List Rational) → c ≡ Infeasible gap rows vars → NoneRight model
      → IfOk told (λ answer. answer ≡ Printed none_text) → IfOk told (SaysDualCertificate model c)
  says_none c gap rows vars is none h =
      subst (λ d. IfOk told (SaysDualCertificate model d)) (sym is)
      (IfOk-weaker told (λ answer. answer ≡ Printed none_text)
      (SaysDualCertificate model (Infeasible gap rows vars)) (λ answer said. (none, said)) h)

  pub says_unbounded : (c : Certificate) (x d : List Rational) → c ≡ Unbounded x d
      → IsUnbounded (dual_of_model model) x d
      → IfOk told (λ answer. answer ≡ Printed unbounded_text)
      → IfOk told (SaysDualCertificate model c)
  says_unbounded c x d is ray h =
      subst (λ e. IfOk told (SaysDualCertificate model e)) (sym is)
      (IfOk-weaker told (λ answer. answer ≡ Printed unbounded_text)
      (SaysDualCertificate model (Unbounded x d)) (λ answer said. (ray, said)) h)

  -- ---- the way back

  pub says_uncarried : (value : Rational) (x : List Rational) (place : Place)
      → CarriesPoint model x (Err (dual.Overflow place))
      → IfOk told (λ answer. answer ≡ refused (Overflow place))
      → IfOk told (λ answer. (c : Result Carried DualFault) × CarriesPoint model x c
      × SaysCarried model value c answer)
  says_uncarried value x place at =
      IfOk-weaker told (λ answer. answer ≡ refused (Overflow place))
      (λ answer. (c : Result Carried DualFault) × CarriesPoint model x c
      × SaysCarried model value c answer)
      (λ answer said. (Err (dual.Overflow place), at, said))

  pub says_best : (value : Rational) (x : List Rational) (carried : Carried)
      → AreBestDuals model value (carried_rows model.rows x)
      (carried_variables model (carried_rows model.rows x))
      → CarriesPoint model x (Ok carried)
      → IfOk told (λ answer. answer
      ≡ Printed (duals_text model value carried.rows carried.vars))
      → IfOk told (λ answer. (c : Result Carried DualFault) × CarriesPoint model x c
      × SaysCarried model value c answer)
  says_best value x carried best is =
      IfOk-weaker told (λ answer. answer ≡ Printed (duals_text model value carried.rows carried.vars))
      (λ answer. (c : Result Carried DualFault) × CarriesPoint model x c
      × SaysCarried model value c answer)
      (λ answer said. (
        Ok carried,
        is,
        (
          subst (λ rows. AreBestDuals model value rows carried.vars) (sym is.rows)
              (subst (AreBestDuals model value (carried_rows model.rows x)) (sym is.vars) best),
          said,
        ),
      ))

-- ---- how many numbers a point of the dual has

numbered_count : (n : ℕ) (names : List (List ℕ)) → length (numbered_from n names) ≡ length names
numbered_count n [] = refl
numbered_count n (name ∷ names) = ap suc (numbered_count (suc n) names)

group_count : (id n : ℕ) (gs : List NewGroup)
    → length (flat_map (λ (g : Group). g.vars) (numbered_groups id n gs)) ≡ variable_count gs
group_count id n [] = refl
group_count id n (g ∷ gs) =
    length-append (numbered_from n g.names)
    (flat_map (λ (h : Group). h.vars) (numbered_groups (suc id) (n + length g.names) gs))
    ∙ ap₂ ◌+◌ (numbered_count n g.names) (group_count (suc id) (n + length g.names) gs)

pub point_size : (model : ModelValue) (value : Rational) (x : List Rational)
    (rows : List (List Rational)) (vars : List Rational)
    → IsOptimal (dual_of_model model) value x rows vars
    → length x ≡ variable_count (new_groups model)
point_size model value x rows vars optimal =
    optimal.feasible.size ∙ group_count 0 0 (new_groups model)

-- Bland's rule never repeats.
use Rattle.std.specs.Prelude.{◌≡◌, ℕ, suc, ◌+◌, ◌<◌, Bool, true, false, refl}
use Rattle.std.specs.List.{Contains}
use Rattle.std.proofs.Common.{inl, inr, sym, ◌∙◌, arith, true≢false}
use Rattle.simplex_form.specs.declared.turn.Phase.{Phase}
use Rattle.simplex_form.specs.declared.turn.Phase.TheVariants.{First, Second, Sweep}
use Rattle.simplex_form.specs.Basis.{BasisState, IsBasis, basic}
use Rattle.simplex_form.specs.Form.{Form, IsStandard, first_cost, second_cost}
use Rattle.simplex_form.specs.Search.{some_below}
use Rattle.simplex_form.specs.Standing.{StandsAtBasis}
use Rattle.simplex_form.specs.Trail.{IsWithinPhase, reached}
use Rattle.simplex_laws.specs.SearchLaws.{some_below_false, some_below_true}
use Rattle.simplex_laws.specs.TrailLaws.{reached_stands}
use Rattle.bland_rule_laws.specs.BasicColumns.{Contains-basic, basic-Contains, basic_if, is_basic}
use Rattle.bland_rule_laws.specs.Cycles.{DifferInAColumn, NeverRepeats}
use Rattle.bland_rule_laws.specs.Fickle.{not_again}
use Rattle.bland_rule_laws.specs.PhaseSteps.{IsSweepStep, phase_step}
use Rattle.bland_rule_laws.specs.Sequences.{carried, differ, differ_false}
use Rattle.bland_rule_laws.specs.Steps.{artificial-leaves, artificial-stays_out}

module _ (F : Form) (standard : IsStandard F) where
  abbrev at : ℕ → ℕ → Bool
  at j k = is_basic F (reached F k) j

  abbrev stands : (k : ℕ) → StandsAtBasis F (reached F k)
  stands k = reached_stands F standard k

  -- in the sweep what leaves is artificial, and never enters again
  sweeps_out : (a b : ℕ) (c : a < b) → IsWithinPhase F Sweep a b
      → (j : ℕ) × (j < F.reals + F.rows) × (at j a ≡ true) × (at j b ≡ false)
  sweeps_out a b c within =
      let first : IsSweepStep F (reached F a) (reached F (suc a)) =
      phase_step F (reached F a) (stands a) Sweep (within a (omega arith) c) in (
        basic (reached F a) first.moves.row,
        (stands a).basis.within first.moves.row first.moves.within,
        basic_if F (reached F a) (basic (reached F a) first.moves.row) first.moves.row
            first.moves.within refl,
        carried (λ k. at (basic (reached F a) first.moves.row) k ≡ false) (suc a) b
            (λ k g f h. artificial-stays_out F (reached F k) (reached F (suc k))
            (phase_step F (reached F k) (stands k) Sweep (within k (omega (arith, g)) f)).moves
            (basic (reached F a) first.moves.row) first.artificial h)
            (suc a) b (omega arith) (omega (arith, c)) (omega arith)
            (artificial-leaves F (reached F a) (reached F (suc a)) first.moves (stands a).basis
            first.artificial),
      )

  -- the sets of basic columns aren't equal
  pub never_equal : (phase : Phase) (a b : ℕ) → a < b → IsWithinPhase F phase a b
      → ¬ ((j : ℕ) → j < F.reals + F.rows → at j a ≡ at j b)
  never_equal First a b c within same =
      not_again F (first_cost F) (reached F) a b stands
      (λ k g d. phase_step F (reached F k) (stands k) First (within k g d)) c same
  never_equal Sweep a b c within same =
      let found : (j : ℕ) × (j < F.reals + F.rows) × (at j a ≡ true) × (at j b ≡ false) =
      sweeps_out a b c within in
      true≢false (sym found.2 ∙ same found.0 found.1 ∙ found.3)
  never_equal Second a b c within same =
      not_again F (second_cost F) (reached F) a b stands
      (λ k g d. phase_step F (reached F k) (stands k) Second (within k g d)) c same

  -- ---- so some column is basic at one and not at the other

  outside : (s : BasisState) → IsBasis F s → (j : ℕ) → is_basic F s j ≡ false
      → ¬ (Contains s.basis j)
  outside s basis j e h = true≢false (sym (basic-Contains F s basis j h) ∙ e)

  differ_at : (s t : BasisState) → IsBasis F s → IsBasis F t → (j : ℕ)
      → differ (is_basic F s j) (is_basic F t j) ≡ true → DifferInAColumn s t
  differ_at s t left right j e = by_tests (is_basic F s j) (is_basic F t j) refl refl e
    where
      by_tests : (u v : Bool) → is_basic F s j ≡ u → is_basic F t j ≡ v → differ u v ≡ true
          → DifferInAColumn s t
      by_tests true true e g h = absurd (true≢false (sym h))
      by_tests true false e g h = (j, inl (Contains-basic F s left j e, outside t right j g))
      by_tests false true e g h = (j, inr (outside s left j e, Contains-basic F t right j g))
      by_tests false false e g h = absurd (true≢false (sym h))

  -- whether a column is basic at one of two places and not at the other
  abbrev differs : ℕ → ℕ → ℕ → Bool
  differs a b j = differ (is_basic F (reached F a) j) (is_basic F (reached F b) j)

  pub never_repeats : NeverRepeats F
  never_repeats phase a b c within = by_test (some_below (F.reals + F.rows) (differs a b)) refl
    where
      by_test : (v : Bool) → some_below (F.reals + F.rows) (differs a b) ≡ v
          → DifferInAColumn (reached F a) (reached F b)
      by_test true e =
          let found : (j : ℕ) × (j < F.reals + F.rows) × (differs a b j ≡ true) =
          some_below_true (F.reals + F.rows) (differs a b) e in
          differ_at (reached F a) (reached F b) (stands a).basis (stands b).basis found.0 found.2
      by_test false e =
          absurd (never_equal phase a b c within (λ j d. sym (differ_false
          (is_basic F (reached F a) j) (is_basic F (reached F b) j)
          (some_below_false (F.reals + F.rows) (differs a b) e j d))))

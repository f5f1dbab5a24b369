-- The loop: what holds of the rest of the trail holds of all of it.
use Rattle.std.specs.Prelude.{◌≡◌, ℕ, zero, suc, ◌+◌, ◌-◌, ◌<◌, Bool, true, false, Result, Ok, Err, OnOk, List, if◌then◌else◌, IsTrue, length, refl}
use Rattle.std.proofs.Common.{sym, ◌∙◌, ap, arith, subst}
use Rattle.std.proofs.lemmas.Bool.{cond-false, cond-true}
use Rattle.simplex_form.specs.declared.turn.Phase.{Phase}
use Rattle.simplex_form.specs.declared.turn.Phase.TheVariants.{First}
use Rattle.simplex_form.specs.declared.turn.Turn.{Turn}
use Rattle.simplex_form.specs.declared.turn.Turn.TheVariants.{Pivot}
use Rattle.simplex_form.specs.Form.{Form, IsStandard}
use Rattle.simplex_form.specs.Basis.{BasisState, start}
use Rattle.simplex_form.specs.Board.{pivot}
use Rattle.simplex_form.specs.Readings.{readings}
use Rattle.simplex_form.specs.Turns as bland
use Rattle.simplex_form.specs.Fit.{pivot_fits, turn_fits, uses_first}
use Rattle.simplex_form.specs.Standing.{StandsAtBasis}
use Rattle.simplex_form.specs.Trail.{after, ends, next}
use Rattle.simplex_form.specs.TrailOutcome.{ended, limited, outcome_from, overflowing}
use Rattle.simplex_laws.specs.AgreementLaws.{agrees_less, turn_same}
use Rattle.simplex_laws.specs.TurnLaws.{turn_says}
use Rattle.simplex_laws.specs.StandingLaws.{after_stands}
use Rattle.simplex_laws.specs.TrailLaws.{start_stands}
use Rattle.tableau_core.specs.BoardContents.{IsBoardOf, IsPivoted, BoardContents, readings_of}
use Rattle.tableau_core.specs.ContentsLaws.{fits_same, next_board}
use Rattle.simplex_core.specs.declared.answer.SolverAnswer.{SolverAnswer}
use Rattle.simplex_core.specs.declared.fault.SolveFault.TheVariants.{Limit, Overflow}
use Rattle.simplex_core.specs.Answer.{IsReadOff, TellsOutcome}
use Rattle.simplex_core.specs.Phases.{IsInPhase, IsTurnWithin, in_phase}
use Rattle.simplex_core.specs.Steps.{IsDue}

-- ---- the rest of the trail

ended_at : (F : Form) (n : ℕ) (s : BasisState) → ends (bland.turn F s) ≡ true
    → outcome_from F n s ≡ ended s (bland.turn F s)
ended_at F zero s e = cond-true _ _ _ e
ended_at F (suc n) s e = cond-true _ _ _ e

limited_at : (F : Form) (n : ℕ) (s : BasisState) → n ≡ 0 → ends (bland.turn F s) ≡ false
    → outcome_from F n s ≡ limited s
limited_at F n s z e = ap (λ k. outcome_from F k s) z ∙ cond-false _ _ _ e

-- where the turn doesn't end and a step is left, by the test that it fits
goes_on_at : (F : Form) (n : ℕ) (s : BasisState) → 0 < n → ends (bland.turn F s) ≡ false
    → outcome_from F n s ≡ (if turn_fits (readings F s) (bland.turn F s) then outcome_from F (n - 1)
    (next F s) else overflowing s)
goes_on_at F zero s b e = absurd (omega (arith, b))
goes_on_at F (suc n) s b e =
    cond-false _ _ _ e
    ∙ ap (λ k. if turn_fits (readings F s) (bland.turn F s) then outcome_from F k
    (next F s) else overflowing s) (back_lem n)
  where
    back_lem : (n : ℕ) → n ≡ suc n - 1
    back_lem n = omega arith

-- ---- a result and what it says

pub on_ok_then : {T E : Type 0} (r : Result T E) (P Q : Type 0) → (P → Q) → OnOk r P → OnOk r Q
on_ok_then (Ok x) P Q f p = f p
on_ok_then (Err e) P Q f p = tt

-- ---- the loop

-- the board is that of a basis with this phase, from which `left` steps more come out as n do from
-- the start
pub record IsAtStep (F : Form) (n left : ℕ) (phase : Phase) (t : BoardContents) : Type 0 where
  pub state : BasisState
  pub stands : StandsAtBasis F state
  pub board : IsBoardOf F state t
  pub told : state.phase ≡ phase
  pub rest : outcome_from F n (start F) ≡ outcome_from F left state

phase-start : (F : Form) → (start F).phase ≡ First
unfolding start
phase-start F = refl

phase-pivot : (F : Form) (s : BasisState) (phase : Phase) (r q : ℕ)
    → (pivot F s phase r q).phase ≡ phase
unfolding pivot
phase-pivot F s phase r q = refl

pub at_start : (F : Form) (n : ℕ) (t : BoardContents) → IsStandard F → IsBoardOf F (start F) t
    → IsAtStep F n n First t
at_start F n t h b =
    record {
      state = start F;
      stands = start_stands F h;
      board = b;
      told = phase-start F;
      rest = refl;
    }

-- the board with the first cost row as the phase has it
board_in : (F : Form) (s : BasisState) (t : BoardContents) (phase : Phase)
    → (IsTrue (uses_first phase) → IsTrue t.in_first) → IsBoardOf F s t
    → IsBoardOf F s (in_phase phase t)
board_in F s t phase u h =
    agrees_less (uses_first phase) t.in_first (readings_of t) (readings F s) u h

module _ {F : Form} {n left : ℕ} {phase : Phase} {t : BoardContents} (a : IsAtStep F n left phase t)
    (kept : IsInPhase phase t) {turn : Turn} (by : turn ≡ bland.turn_in phase (readings_of t)) where
  is_due : IsDue F a.state t turn
  is_due = record {
    stands = a.stands;
    board = a.board;
    due = by
        ∙ turn_same t.in_first (readings_of t) (readings F a.state) a.board phase
        (λ u. subst IsTrue (sym kept) u)
        ∙ ap (λ p. bland.turn_in p (readings F a.state)) (sym a.told);
  }

  due_ends : {b : Turn} {answer : Bool} → turn ≡ b → ends b ≡ answer
      → ends (bland.turn F a.state) ≡ answer
  due_ends e k = ap ends (sym is_due.due ∙ e) ∙ k

  pub tells_end : {b : Turn} (answer : SolverAnswer) → turn ≡ b → ends b ≡ true
      → (IsDue F a.state t b → IsReadOff F a.state b answer)
      → TellsOutcome F n (outcome_from F n (start F)) (Ok answer)
  tells_end {b} answer e k read =
      let due : IsDue F a.state t b = subst (IsDue F a.state t) e is_due in (
        a.state,
        b,
        a.rest ∙ ended_at F left a.state (due_ends e k) ∙ ap (ended a.state) (sym due.due),
        read due,
      )

  pub tells_limit : {b : Turn} {basis : List ℕ} → turn ≡ b → ends b ≡ false → left ≡ 0
      → basis ≡ t.basis → TellsOutcome F n (outcome_from F n (start F)) (Err (Limit basis n))
  tells_limit e k z same = (
    a.state,
    a.rest ∙ limited_at F left a.state z (due_ends e k),
    same ∙ a.board.basis,
    refl,
  )

  -- what comes out by whether the turn fits
  stepped : {b : Turn} {fit : Bool} → turn ≡ b → ends b ≡ false → 0 < left
      → turn_fits (readings F a.state) b ≡ fit → outcome_from F n (start F)
      ≡ (if fit then outcome_from F (left - 1) (next F a.state) else overflowing a.state)
  stepped e k c fits =
      a.rest ∙ goes_on_at F left a.state c (due_ends e k)
      ∙ ap (λ x. if x then outcome_from F (left - 1) (next F a.state) else overflowing a.state)
      (ap (turn_fits (readings F a.state)) (sym is_due.due ∙ e) ∙ fits)

  pub tells_overflow : {b : Turn} {basis : List ℕ} → turn ≡ b → ends b ≡ false → 0 < left
      → turn_fits (readings F a.state) b ≡ false → basis ≡ t.basis
      → TellsOutcome F n (outcome_from F n (start F)) (Err (Overflow basis))
  tells_overflow e k c fits same = (a.state, stepped e k c fits, same ∙ a.board.basis)

  -- a pivot
  module _ {next_phase : Phase} {r q : ℕ} (is : turn ≡ Pivot next_phase r q)
      (within : IsTurnWithin t (Pivot next_phase r q)) where
    column : q < t.reals → q < t.reals + length t.rows
    column b = omega (arith, b)

    before : IsBoardOf F a.state (in_phase next_phase t)
    before = board_in F a.state t next_phase within.0 a.board

    pivot_fit : {made fit : Bool} → made ≡ pivot_fits (uses_first next_phase) (readings_of t) r q
        → made ≡ fit → turn_fits (readings F a.state) (Pivot next_phase r q) ≡ fit
    pivot_fit e made =
        sym (e ∙ fits_same F a.state next_phase r q (in_phase next_phase t) before within.1
        (column within.2)) ∙ made

    pub tells_refused : {made : Bool} {basis : List ℕ} {u : BoardContents} → 0 < left
        → made ≡ pivot_fits (uses_first next_phase) (readings_of t) r q → made ≡ false
        → u ≡ in_phase next_phase t → basis ≡ u.basis
        → TellsOutcome F n (outcome_from F n (start F))
        (Err (Overflow basis))
    tells_refused c e failed stays same =
        tells_overflow is refl c (pivot_fit e failed) (same ∙ ap (λ x. x.basis) stays)

    next_is : next F a.state ≡ pivot F a.state next_phase r q
    next_is = ap (after F a.state) (sym is_due.due ∙ is)

    pub at_next : {made : Bool} {u : BoardContents} → 0 < left
        → made ≡ pivot_fits (uses_first next_phase) (readings_of t) r q → made ≡ true
        → IsPivoted r q (in_phase next_phase t) u → IsAtStep F n (left - 1) next_phase u
    at_next {u = u} c e ok p = record {
      state = next F a.state;
      stands = after_stands F a.state a.stands (bland.turn F a.state)
          (turn_says F a.state a.stands);
      board = subst (λ x. IsBoardOf F x u) (sym next_is) (next_board F a.state next_phase r q
          (in_phase next_phase t) before within.1 (column within.2) u a.stands.basis within.3 p);
      told = ap (λ x. x.phase) next_is ∙ phase-pivot F a.state next_phase r q;
      rest = stepped is refl c (pivot_fit e ok);
    }

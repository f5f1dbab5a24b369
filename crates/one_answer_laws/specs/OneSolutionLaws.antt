-- A leaf model has one answer, or one reason why there is none.
use Rattle.std.specs.Prelude.{◌≡◌, ◌<◌, ℕ, suc, List, [], ◌∷◌, length, refl}
use Rattle.std.proofs.Common.{ap, ap₂, arith, sym, subst, ◌∙◌}
use Rattle.cache_layer.specs.Outcome.{IsFormSolved, IsReadBackAs, Stops, at_a_pivot, at_a_right_side, at_reading_back, form_in, out_of_pivots, too_large}
use Rattle.cache_layer.specs.declared.fault.OptFault.{OptFault}
use Rattle.equality_form.specs.ReadBack.{AnswerByAddress, AnswerFits, read_back}
use Rattle.leaf_model.specs.LeafModel.{LeafModel}
use Rattle.ratio_core.specs.Rational.{Rational}
use Rattle.simplex_core.specs.Answer.{IsReadOff}
use Rattle.simplex_core.specs.declared.answer.SolverAnswer.{SolverAnswer}
use Rattle.simplex_core.specs.declared.answer.SolverAnswer.TheVariants.{Infeasible, Optimal, Unbounded}
use Rattle.simplex_form.specs.Basis.{BasisState}
use Rattle.simplex_form.specs.Board.{ray}
use Rattle.simplex_form.specs.Form.{Form}
use Rattle.simplex_form.specs.TrailOutcome.{ended, limited, overflowing}
use Rattle.simplex_form.specs.declared.turn.Turn.{Turn}
use Rattle.simplex_form.specs.declared.turn.Turn.TheVariants as turn
use Rattle.tableau_core.specs.Row.{cell}
use Rattle.tableau_core.specs.Start.{IsListOf}

-- ---- what is read off a basis

same_cells : (xs ys : List Rational) → length xs ≡ length ys
    → ((j : ℕ) → j < length xs → cell xs j ≡ cell ys j) → xs ≡ ys
same_cells [] [] e h = refl
same_cells [] (y ∷ ys) e h = absurd (omega (arith, e))
same_cells (x ∷ xs) [] e h = absurd (omega (arith, e))
same_cells (x ∷ xs) (y ∷ ys) e h =
    ap₂ (λ z zs. z ∷ zs) (h 0 (omega arith))
    (same_cells xs ys (omega (arith, e)) (λ j b. h (suc j) (omega (arith, b))))

listed_once : (n : ℕ) (f : ℕ → Rational) (xs ys : List Rational) → IsListOf n f xs
    → IsListOf n f ys → xs ≡ ys
listed_once n f xs ys one other =
    same_cells xs ys (one.long ∙ sym other.long)
    (λ j b. one.cells j (omega (arith, b, one.long))
    ∙ sym (other.cells j (omega (arith, b, one.long))))

optimal_or_infeasible : turn.Optimal ≡ turn.Infeasible → ⊥
optimal_or_infeasible e = cc

optimal_or_unbounded : (q : ℕ) → turn.Optimal ≡ turn.Unbounded q → ⊥
optimal_or_unbounded q e = cc

infeasible_or_unbounded : (q : ℕ) → turn.Infeasible ≡ turn.Unbounded q → ⊥
infeasible_or_unbounded q e = cc

column_of : (q r : ℕ) → turn.Unbounded q ≡ turn.Unbounded r → q ≡ r
column_of q r e = cc

module _ (F : Form) (s : BasisState) (t : Turn) where
  read_off_once : (a b : SolverAnswer) → IsReadOff F s t a → IsReadOff F s t b → a ≡ b
  read_off_once (Optimal x y basis) (Optimal u v other) h k =
      let first = listed_once _ _ x u h.1 k.1 in
      let second = listed_once _ _ y v h.2 k.2 in
      let third = h.3 ∙ sym k.3 in
      λ i. Optimal (first i) (second i) (third i)
  read_off_once (Infeasible y basis) (Infeasible v other) h k =
      ap₂ Infeasible (listed_once _ _ y v h.1 k.1) (h.2 ∙ sym k.2)
  read_off_once (Unbounded x d basis) (Unbounded u e other) h k =
      let first = listed_once _ _ x u h.2 k.2 in
      let column = column_of h.0 k.0 (sym h.1 ∙ k.1) in
      let second = listed_once _ _ d e
      (subst (λ q. IsListOf F.reals (ray F s q) d) column h.3) k.3 in
      let third = h.4 ∙ sym k.4 in
      λ i. Unbounded (first i) (second i) (third i)
  read_off_once (Optimal x y basis) (Infeasible v other) h k =
      absurd (optimal_or_infeasible (sym h.0 ∙ k.0))
  read_off_once (Infeasible y basis) (Optimal u v other) h k =
      absurd (optimal_or_infeasible (sym k.0 ∙ h.0))
  read_off_once (Optimal x y basis) (Unbounded u e other) h k =
      absurd (optimal_or_unbounded k.0 (sym h.0 ∙ k.1))
  read_off_once (Unbounded x d basis) (Optimal u v other) h k =
      absurd (optimal_or_unbounded h.0 (sym k.0 ∙ h.1))
  read_off_once (Infeasible y basis) (Unbounded u e other) h k =
      absurd (infeasible_or_unbounded k.0 (sym h.0 ∙ k.1))
  read_off_once (Unbounded x d basis) (Infeasible v other) h k =
      absurd (infeasible_or_unbounded h.0 (sym k.0 ∙ h.1))

-- ---- how a trail comes out

ended_state : (s r : BasisState) (t u : Turn) → ended s t ≡ ended r u → s ≡ r
ended_state s r t u e = cc

ended_turn : (s r : BasisState) (t u : Turn) → ended s t ≡ ended r u → t ≡ u
ended_turn s r t u e = cc

ended_or_limited : (s r : BasisState) (t : Turn) → ended s t ≡ limited r → ⊥
ended_or_limited s r t e = cc

ended_or_overflowing : (s r : BasisState) (t : Turn) → ended s t ≡ overflowing r → ⊥
ended_or_overflowing s r t e = cc

limited_or_overflowing : (s r : BasisState) → limited s ≡ overflowing r → ⊥
limited_or_overflowing s r e = cc

-- ---- a leaf model

module _ (model : LeafModel) (pivots : ℕ) where
  solved_once : (a b : SolverAnswer) → IsFormSolved model pivots a → IsFormSolved model pivots b
      → a ≡ b
  solved_once a b one other =
      let same = sym one.ends ∙ other.ends in
      read_off_once (form_in model) other.state other.turn a b
      (subst (λ s. IsReadOff (form_in model) s other.turn a)
      (ended_state one.state other.state one.turn other.turn same)
      (subst (λ t. IsReadOff (form_in model) one.state t a)
      (ended_turn one.state other.state one.turn other.turn same) one.read))
      other.read

  pub answered_once : (a b : AnswerByAddress) → IsReadBackAs model pivots a
      → IsReadBackAs model pivots b → a ≡ b
  answered_once a b one other =
      one.read
      ∙ ap (read_back model) (solved_once one.form_answer other.form_answer one.solved other.solved)
      ∙ sym other.read

  -- a reason and an answer exclude each other
  pub never_stopped : (fault : OptFault) (answer : AnswerByAddress) → Stops model pivots fault
      → IsReadBackAs model pivots answer → ⊥
  never_stopped fault answer (too_large more) a = omega (arith, more, a.solved.made.cells)
  never_stopped fault answer (at_a_right_side cells unfit) a = unfit a.solved.made.rights
  never_stopped fault answer (at_a_pivot made state out) a =
      ended_or_overflowing a.solved.state state a.solved.turn (sym a.solved.ends ∙ out)
  never_stopped fault answer (out_of_pivots made state out) a =
      ended_or_limited a.solved.state state a.solved.turn (sym a.solved.ends ∙ out)
  never_stopped fault answer (at_reading_back other solved unfit) a =
      unfit (subst (AnswerFits model)
      (solved_once a.form_answer other a.solved solved) a.fits)

  -- at most one reason
  pub stopped_once : (f g : OptFault) → Stops model pivots f → Stops model pivots g → f ≡ g
  stopped_once f g (too_large more) (too_large over) = refl
  stopped_once f g (too_large more) (at_a_right_side cells unfit) =
      absurd (omega (arith, more, cells))
  stopped_once f g (too_large more) (at_a_pivot made state out) =
      absurd (omega (arith, more, made.cells))
  stopped_once f g (too_large more) (out_of_pivots made state out) =
      absurd (omega (arith, more, made.cells))
  stopped_once f g (too_large more) (at_reading_back answer solved unfit) =
      absurd (omega (arith, more, solved.made.cells))
  stopped_once f g (at_a_right_side cells unfit) (too_large more) =
      absurd (omega (arith, more, cells))
  stopped_once f g (at_a_right_side cells unfit) (out_of_pivots made state out) =
      absurd (unfit made.rights)
  stopped_once f g (at_a_right_side cells unfit) _ = refl
  stopped_once f g (at_a_pivot made state out) (too_large more) =
      absurd (omega (arith, more, made.cells))
  stopped_once f g (at_a_pivot made state out) (out_of_pivots other next limit) =
      absurd (limited_or_overflowing next state (sym limit ∙ out))
  stopped_once f g (at_a_pivot made state out) _ = refl
  stopped_once f g (out_of_pivots made state out) (too_large more) =
      absurd (omega (arith, more, made.cells))
  stopped_once f g (out_of_pivots made state out) (at_a_right_side cells unfit) =
      absurd (unfit made.rights)
  stopped_once f g (out_of_pivots made state out) (at_a_pivot other next over) =
      absurd (limited_or_overflowing state next (sym out ∙ over))
  stopped_once f g (out_of_pivots made state out) (out_of_pivots other next limit) = refl
  stopped_once f g (out_of_pivots made state out) (at_reading_back answer solved unfit) =
      absurd (ended_or_limited solved.state state solved.turn (sym solved.ends ∙ out))
  stopped_once f g (at_reading_back answer solved unfit) (too_large more) =
      absurd (omega (arith, more, solved.made.cells))
  stopped_once f g (at_reading_back answer solved unfit) (out_of_pivots made state out) =
      absurd (ended_or_limited solved.state state solved.turn (sym solved.ends ∙ out))
  stopped_once f g (at_reading_back answer solved unfit) _ = refl

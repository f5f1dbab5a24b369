-- Lists that are read row by row.
use Rattle.std.specs.Prelude.{◌≡◌, ℕ, ◌≤◌, Bool, true, false, cond, List, [], ◌∷◌, ◌++◌, drop, length, take, refl}
use Rattle.std.proofs.Common.{ap, ap₂, arith, sym, ◌∙◌}
use Rattle.std.proofs.lemmas.List.{append-nil, append_assoc, length-drop}
use Rattle.ratio_core.specs.Rational.{Rational}
use Rattle.user_model.specs.declared.edit.Edit.{Edit}
use Rattle.user_model.specs.declared.row.Row.{Row}
use Rattle.relaxed_model.specs.Relaxed.{at_hard_rows, is_hard, is_soft, row_signs, slack_count, slack_violation, slack_violations}
use Rattle.relaxation.proofs.RowLemmas.{first_count, hard_length}
use Rattle.relaxation.specs.Answers.{own_duals, own_violations}
use Rattle.relaxation.specs.RelaxedEdits.{edits_in, edits_of_rows}

-- what is made so far and what is left make the whole, one part later
pub rest_more : {Y : Type 0} (made new own later left whole : List Y) → made ++ left ≡ whole
    → left ≡ own ++ later → new ≡ made ++ own → new ++ later ≡ whole
rest_more made new own later left whole so next is =
    ap (λ ys. ys ++ later) is ∙ append_assoc made own later
    ∙ ap (λ ys. made ++ ys) (sym next) ∙ so

pub rest_all : {Y : Type 0} (made left whole : List Y) → made ++ left ≡ whole → left ≡ []
    → made ≡ whole
rest_all made left whole so e = sym (append-nil made) ∙ ap (λ ys. made ++ ys) (sym e) ∙ so

-- ---- what is read row by row

-- by how much the first row is missed, and those behind it
pub violations_first : (left rest : List Row) (r : Row) (s : List Rational) → left ≡ r ∷ rest
    → slack_violations left s
    ≡ own_violations r (take (length (row_signs r)) s) ++ slack_violations rest (drop (length (row_signs r)) s)
violations_first left rest r s e = ap (λ rs. slack_violations rs s) e ∙ by (is_soft r) refl
  where
    by : (b : Bool) → is_soft r ≡ b
        → cond b (slack_violation (take (length (row_signs r)) s)
        ∷ slack_violations rest (drop (length (row_signs r)) s)) (slack_violations rest s)
        ≡ cond b (slack_violation (take (length (row_signs r)) s) ∷ []) []
        ++ slack_violations rest (drop (length (row_signs r)) s)
    by true soft = refl
    by false hard = ap (λ n. slack_violations rest (drop n s)) (sym (hard_length r hard))

-- the duals of the first row, where it is hard, and those behind it
pub duals_first : (left rest : List Row) (r : Row) (ys others : List (List Rational))
    (y : List Rational) → left ≡ r ∷ rest → ys ≡ y ∷ others
    → at_hard_rows left ys ≡ own_duals r y ++ at_hard_rows rest others
duals_first left rest r ys others y e k = ap₂ at_hard_rows e k ∙ by (is_hard r)
  where
    by : (b : Bool) → cond b (y ∷ at_hard_rows rest others) (at_hard_rows rest others)
        ≡ cond b (y ∷ []) [] ++ at_hard_rows rest others
    by true = refl
    by false = refl

-- of no duals none are kept
pub no_duals : (left : List Row) (ys : List (List Rational)) → ys ≡ [] → at_hard_rows left ys ≡ []
no_duals left ys e = ap (at_hard_rows left) e ∙ none left
  where
    none : (rows : List Row) → at_hard_rows {X = List Rational} rows [] ≡ []
    none [] = refl
    none (r ∷ rows) = refl

-- ---- the edits of the rows

pub edits_first : (left rest : List Row) (r : Row) (names : List (List ℕ)) → left ≡ r ∷ rest
    → edits_of_rows left names
    ≡ edits_in r.name (take (length (row_signs r)) names) (row_signs r)
    ++ edits_of_rows rest (drop (length (row_signs r)) names)
edits_first left rest r names e = ap (λ rs. edits_of_rows rs names) e

-- ---- a row more

-- what is left of a list with an item for each slack of the rows
left_size : (left rest : List Row) (r : Row) {X : Type 0} (xs others : List X) → left ≡ r ∷ rest
    → others ≡ drop (length (row_signs r)) xs → slack_count left ≤ length xs
    → slack_count rest ≤ length others
left_size left rest r xs others e back size =
    omega (
      arith,
      first_count left rest r e,
      ap length back,
      length-drop (length (row_signs r)) xs,
      size,
    )

pub own_size : (left rest : List Row) (r : Row) {X : Type 0} (xs : List X) → left ≡ r ∷ rest
    → slack_count left ≤ length xs → length (row_signs r) ≤ length xs
own_size left rest r xs e size = omega (arith, first_count left rest r e, size)

pub edits_more : (left rest : List Row) (r : Row) (names own others : List (List ℕ))
    (signs : List Rational) (made new whole : List Edit) → left ≡ r ∷ rest
    → own ≡ take (length (row_signs r)) names → others ≡ drop (length (row_signs r)) names
    → signs ≡ row_signs r → made ++ edits_of_rows left names ≡ whole
    → slack_count left ≤ length names → new ≡ made ++ edits_in r.name own signs
    → (new ++ edits_of_rows rest others ≡ whole) × (slack_count rest ≤ length others)
edits_more left rest r names own others signs made new whole e front back are so size is = (
  ap (λ ns. new ++ edits_of_rows rest ns) back
      ∙ rest_more made new (edits_in r.name (take (length (row_signs r)) names) (row_signs r))
      (edits_of_rows rest (drop (length (row_signs r)) names)) (edits_of_rows left names) whole so
      (edits_first left rest r names e)
      (is ∙ ap₂ (λ ns qs. made ++ edits_in r.name ns qs) front are),
  left_size left rest r names others e back size,
)

pub violations_more : (left rest : List Row) (r : Row) (s own others : List Rational)
    (made new whole : List Rational) → left ≡ r ∷ rest → own ≡ take (length (row_signs r)) s
    → others ≡ drop (length (row_signs r)) s → made ++ slack_violations left s ≡ whole
    → slack_count left ≤ length s → new ≡ made ++ own_violations r own
    → (new ++ slack_violations rest others ≡ whole) × (slack_count rest ≤ length others)
violations_more left rest r s own others made new whole e front back so size is = (
  ap (λ t. new ++ slack_violations rest t) back
      ∙ rest_more made new (own_violations r (take (length (row_signs r)) s))
      (slack_violations rest (drop (length (row_signs r)) s)) (slack_violations left s) whole so
      (violations_first left rest r s e) (is ∙ ap (λ t. made ++ own_violations r t) front),
  left_size left rest r s others e back size,
)

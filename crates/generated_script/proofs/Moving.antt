-- From the state before a line its draws lead to the state before the next: what jumps over draws and
-- what makes them one after another give the same lines.
use Rattle.std.proofs.Common.{◌≡◌, ℕ, ◌+◌, ◌-◌, ◌*◌, ◌<◌, ◌≤◌, List, [], ◌++◌, Some, None, sym, ap, ◌∙◌, arith, inl, inr, lt-ltb, le-ltb}
use Rattle.std.specs.Prelude.{cond, nat_eq, nat_lt}
use Rattle.std.proofs.lemmas.Bool.{cases_lt, cond-false, cond-true, ne_eqb}
use Rattle.generated_script.specs.Generator.{after}
use Rattle.generated_script.proofs.Draws.{after_added}
use Rattle.generated_script.specs.ScriptNumbers.{ScriptNumbers}
use Rattle.generated_script.specs.Parts.{draws_before, draws_of, line_count, part_at, part_behind_rows}
use Rattle.generated_script.specs.Script.{line_at, script_line, state_before, text_of}
use Rattle.generated_script.specs.declared.parts.Part.{Part}
use Rattle.generated_script.specs.declared.parts.Part.TheVariants.{Attach, Edit, Objective, Optimize, Row, Variable}

-- ---- what line k is

in_variables : (n : ScriptNumbers) (k : ℕ) → k < n.vars → part_at n k ≡ Variable k
unfolding part_at
in_variables n k low =
    cond-true (nat_lt k n.vars) (Variable k)
    (cond (nat_lt k (n.vars + n.rows)) (Row (k - n.vars))
    (part_behind_rows n (k - (n.vars + n.rows)))) (lt-ltb k n.vars low)

behind_variables : (n : ScriptNumbers) (k : ℕ) → n.vars ≤ k
    → part_at n k ≡ cond (nat_lt k (n.vars + n.rows)) (Row (k - n.vars))
    (part_behind_rows n (k - (n.vars + n.rows)))
unfolding part_at
behind_variables n k low =
    cond-false (nat_lt k n.vars) (Variable k)
    (cond (nat_lt k (n.vars + n.rows)) (Row (k - n.vars))
    (part_behind_rows n (k - (n.vars + n.rows)))) (le-ltb k n.vars low)

in_rows : (n : ScriptNumbers) (k : ℕ) → n.vars ≤ k → k < n.vars + n.rows
    → part_at n k ≡ Row (k - n.vars)
in_rows n k low high =
    behind_variables n k low
    ∙ cond-true (nat_lt k (n.vars + n.rows)) (Row (k - n.vars))
    (part_behind_rows n (k - (n.vars + n.rows))) (lt-ltb k (n.vars + n.rows) high)

behind_rows : (n : ScriptNumbers) (k j : ℕ) → k ≡ n.vars + n.rows + j
    → part_at n k ≡ part_behind_rows n j
behind_rows n k j is =
    let low : n.vars ≤ k = omega (arith, is) in
    let high : n.vars + n.rows ≤ k = omega (arith, is) in
    let left : k - (n.vars + n.rows) ≡ j = omega (arith, is) in
    behind_variables n k low
    ∙ cond-false (nat_lt k (n.vars + n.rows)) (Row (k - n.vars))
    (part_behind_rows n (k - (n.vars + n.rows))) (le-ltb k (n.vars + n.rows) high)
    ∙ ap (part_behind_rows n) left

-- line j + 2 behind the rows
behind_attach : (n : ScriptNumbers) (j : ℕ)
    → part_behind_rows n (j + 2) ≡ cond (nat_lt (j + 2) (n.edits + 2)) (Edit (j + 2 - 2)) Optimize
behind_attach n j =
    let later : Part = cond (nat_lt (j + 2) (n.edits + 2)) (Edit (j + 2 - 2)) Optimize in
    cond-false (nat_eq (j + 2) 0) Objective (cond (nat_eq (j + 2) 1) Attach later)
    (ne_eqb (j + 2) 0 (λ e. omega (arith, e)))
    ∙ cond-false (nat_eq (j + 2) 1) Attach later (ne_eqb (j + 2) 1 (λ e. omega (arith, e)))

in_edits : (n : ScriptNumbers) (j : ℕ) → j < n.edits → part_behind_rows n (j + 2) ≡ Edit j
in_edits n j low =
    let less : j + 2 < n.edits + 2 = omega (arith, low) in
    let left : j + 2 - 2 ≡ j = omega arith in
    behind_attach n j
    ∙ cond-true (nat_lt (j + 2) (n.edits + 2)) (Edit (j + 2 - 2)) Optimize
    (lt-ltb (j + 2) (n.edits + 2) less)
    ∙ ap Edit left

at_end : (n : ScriptNumbers) (j : ℕ) → n.edits ≤ j → part_behind_rows n (j + 2) ≡ Optimize
at_end n j high =
    let more : n.edits + 2 ≤ j + 2 = omega (arith, high) in
    behind_attach n j
    ∙ cond-false (nat_lt (j + 2) (n.edits + 2)) (Edit (j + 2 - 2)) Optimize
    (le-ltb (j + 2) (n.edits + 2) more)

-- ---- how many draws are before it

-- up to the objective
before_rows : (n : ScriptNumbers) (k : ℕ) → n.vars ≤ k → k ≤ n.vars + n.rows
    → draws_before n (part_at n k) ≡ 7 * (k - n.vars)
before_rows n k low high = elim (cases_lt k (n.vars + n.rows)) [
  | inl less ↦ ap (draws_before n) (in_rows n k low less)
  | inr last ↦ ap (draws_before n) (behind_rows n k 0 (omega (arith, high, last)))
      ∙ (let same : 7 * n.rows ≡ 7 * (k - n.vars) = omega (arith, high, last) in same)
]

before_variables : (n : ScriptNumbers) (k : ℕ) → k ≤ n.vars → draws_before n (part_at n k) ≡ 0
before_variables n k high = elim (cases_lt k n.vars) [
  | inl less ↦ ap (draws_before n) (in_variables n k less)
  | inr last ↦ before_rows n k (omega (arith, last)) (omega (arith, high))
      ∙ (let same : 7 * (k - n.vars) ≡ 0 = omega (arith, high, last) in same)
]

-- from the first edit on
before_edits : (n : ScriptNumbers) (k j : ℕ) → k ≡ n.vars + n.rows + (j + 2) → j ≤ n.edits
    → draws_before n (part_at n k) ≡ 7 * n.rows + n.vars + 2 * j
before_edits n k j is high = elim (cases_lt j n.edits) [
  | inl less ↦ ap (draws_before n) (behind_rows n k (j + 2) is ∙ in_edits n j less)
  | inr last ↦ ap (draws_before n) (behind_rows n k (j + 2) is ∙ at_end n j last)
      ∙ (let same : 7 * n.rows + n.vars + 2 * n.edits ≡ 7 * n.rows + n.vars + 2 * j =
      omega (arith, high, last) in same)
]

-- ---- a line's draws are made

abbrev Moves : ScriptNumbers → ℕ → Type 0
Moves n k = draws_before n (part_at n k) + draws_of n (part_at n k)
    ≡ draws_before n (part_at n (k + 1))

-- by what the line is
moves_at : (n : ScriptNumbers) (k : ℕ) (part : Part) → part_at n k ≡ part
    → draws_before n part + draws_of n part ≡ draws_before n (part_at n (k + 1)) → Moves n k
moves_at n k part is moved = ap (λ p. draws_before n p + draws_of n p) is ∙ moved

moves_behind : (n : ScriptNumbers) (k j : ℕ) → k ≡ n.vars + n.rows + (j + 2) → k < line_count n
    → Moves n k
moves_behind n k j is low = elim (cases_lt j n.edits) [
  | inl less ↦ moves_at n k (Edit j) (behind_rows n k (j + 2) is ∙ in_edits n j less)
      (let same : 7 * n.rows + n.vars + 2 * j + 2 ≡ 7 * n.rows + n.vars + 2 * (j + 1) =
      omega arith in
      same ∙ sym (before_edits n (k + 1) (j + 1) (omega (arith, is)) (omega (arith, less))))
  | inr last ↦ moves_at n k Optimize (behind_rows n k (j + 2) is ∙ at_end n j last)
      (let next : part_at n (k + 1) ≡ Optimize =
      behind_rows n (k + 1) (j + 1 + 2) (omega (arith, is)) ∙ at_end n (j + 1) (omega (arith, last)) in
      let same : 7 * n.rows + n.vars + 2 * n.edits + 0 ≡ 7 * n.rows + n.vars + 2 * n.edits =
      omega arith in
      same ∙ sym (ap (draws_before n) next))
]

moves : (n : ScriptNumbers) (k : ℕ) → k < line_count n → Moves n k
moves n k low = elim (cases_lt k n.vars) [
  | inl less ↦ moves_at n k (Variable k) (in_variables n k less)
      (sym (before_variables n (k + 1) (omega (arith, less))))
  | inr variables ↦ elim (cases_lt k (n.vars + n.rows)) [
    | inl less ↦ moves_at n k (Row (k - n.vars)) (in_rows n k variables less)
        (let same : 7 * (k - n.vars) + 7 ≡ 7 * (k + 1 - n.vars) = omega (arith, variables) in
        same ∙ sym (before_rows n (k + 1) (omega (arith, variables)) (omega (arith, less))))
    | inr rows ↦ elim (cases_lt k (n.vars + n.rows + 1)) [
      | inl less ↦ moves_at n k Objective (behind_rows n k 0 (omega (arith, less, rows)))
          (sym (ap (draws_before n) (behind_rows n (k + 1) 1 (omega (arith, less, rows)))))
      | inr objective ↦ elim (cases_lt k (n.vars + n.rows + 2)) [
        | inl less ↦ moves_at n k Attach (behind_rows n k 1 (omega (arith, less, objective)))
            (let same : 7 * n.rows + n.vars + 0 ≡ 7 * n.rows + n.vars + 2 * 0 = omega arith in
            same ∙ sym (before_edits n (k + 1) 0 (omega (arith, less, objective)) (omega arith)))
        | inr attach ↦ moves_behind n k (k - (n.vars + n.rows + 2)) (omega (arith, attach)) low
      ]
    ]
  ]
]

-- the draws of a line lead to the state before the next
pub next_state : (n : ScriptNumbers) (k : ℕ) → k < line_count n
    → after (draws_of n (part_at n k)) (state_before n k) ≡ state_before n (k + 1)
unfolding state_before
next_state n k low =
    after_added (draws_before n (part_at n k)) (draws_of n (part_at n k)) n.seed
    ∙ ap (λ draws. after draws n.seed) (moves n k low)

-- the first line needs none
pub first_state : (n : ScriptNumbers) → n.seed ≡ state_before n 0
unfolding state_before
first_state n = sym (ap (λ draws. after draws n.seed) (before_variables n 0 (omega arith)))

-- ---- what the code makes

pub moves_on : (n : ScriptNumbers) (k : ℕ) (part : Part) (s s' : ℕ) → k < line_count n
    → part ≡ part_at n k → s ≡ state_before n k → s' ≡ after (draws_of n part) s
    → s' ≡ state_before n (k + 1)
moves_on n k part s s' low is at moved =
    moved ∙ ap (λ p. after (draws_of n p) s) is ∙ ap (after (draws_of n (part_at n k))) at
    ∙ next_state n k low

pub starts_at : (n : ScriptNumbers) (k : ℕ) (part : Part) (draws seed s : ℕ) → part ≡ part_at n k
    → draws ≡ draws_before n part → seed ≡ n.seed → s ≡ after draws seed → s ≡ state_before n k
unfolding state_before
starts_at n k part draws seed s is counted same at =
    at ∙ ap (λ d. after d seed) (counted ∙ ap (draws_before n) is)
    ∙ ap (after (draws_before n (part_at n k))) same

pub line_is : (n : ScriptNumbers) (k : ℕ) (part : Part) (s : ℕ) (blank items text : List ℕ)
    → k < line_count n → part ≡ part_at n k → s ≡ state_before n k → blank ≡ []
    → items ≡ blank ++ text_of n part s → text ≡ items → Some text ≡ script_line n k
line_is n k part s blank items text low is at none pushed whole =
    let same : text ≡ line_at n k =
    whole ∙ pushed ∙ ap (λ b. b ++ text_of n part s) none ∙ ap (λ p. text_of n p s) is
    ∙ ap (text_of n (part_at n k)) at in
    ap Some same
    ∙ sym (cond-true (nat_lt k (line_count n)) (Some (line_at n k)) None
    (lt-ltb k (line_count n) low))

-- Where the first row of a model goes last, and its duals with it, they show as much as before.
use Rattle.std.proofs.Common.{◌≡◌, ℕ, suc, List, [], ◌∷◌, ◌++◌, length, ap, arith, refl, subst, sym, ◌∙◌}
use Rattle.std.specs.Prelude.{All}
use Rattle.std.proofs.lemmas.List.{length-append}
use Rattle.std.proofs.lemmas.List.Elements.{All-append, All-cons, All-head, All-nil, All-tail, All-weaker}
use Rattle.map_laws.specs.EachLaws.{all_first, all_second}
use Rattle.ratio_core.specs.Rational.{Rational, zero_ℚ, ◌+ℚ◌}
use Rattle.rational_laws.specs.Field.{+ℚ-zero, +ℚ_comm}
use Rattle.rational_laws.specs.Sums.{sum_by_ℚ, sum_by_ℚ-append}
use Rattle.aff_core.specs.Points.{spread}
use Rattle.certificates.specs.Duals.{groups_with, row_with, rows_with}
use Rattle.certificates.specs.Good.{IsInfeasible}
use Rattle.certificates.specs.Points.{all_addresses}
use Rattle.dual_laws.specs.Held.{DualRow, HasDuals, adjoint, adjoint_of, gap_of}
use Rattle.dual_laws.specs.Held as held
use Rattle.conflict_laws.specs.Contents.{InfeasibleBy, infeasible_of, parts_of}
use Rattle.user_model.specs.Model.{ModelValue}
use Rattle.user_model.specs.declared.group.Group.{Group}
use Rattle.user_model.specs.declared.row.Row.{Row}

-- the first of a list of duals last
abbrev pub rotated_list : List (List Rational) → List (List Rational)
rotated_list [] = []
rotated_list (y ∷ ys) = ys ++ y ∷ []

-- ---- sums in another order

rotated_sum : (f : DualRow → Rational) (h : DualRow) (hs : List DualRow)
    → sum_by_ℚ f (hs ++ h ∷ []) ≡ sum_by_ℚ f (h ∷ hs)
rotated_sum f h hs =
    sum_by_ℚ-append f hs (h ∷ [])
    ∙ ap (λ q. sum_by_ℚ f hs +ℚ q) (+ℚ-zero (f h))
    ∙ +ℚ_comm (sum_by_ℚ f hs) (f h)

rotated_gap : (h : DualRow) (hs gs : List DualRow)
    → held.gap ((hs ++ h ∷ []) ++ gs) ≡ held.gap ((h ∷ hs) ++ gs)
rotated_gap h hs gs =
    sum_by_ℚ-append gap_of (hs ++ h ∷ []) gs
    ∙ ap (λ q. q +ℚ sum_by_ℚ gap_of gs) (rotated_sum gap_of h hs)
    ∙ sym (sum_by_ℚ-append gap_of (h ∷ hs) gs)

rotated_all : (P : DualRow → Type 0) (h : DualRow) (hs gs : List DualRow) → All P ((h ∷ hs) ++ gs)
    → All P ((hs ++ h ∷ []) ++ gs)
rotated_all P h hs gs all =
    All-append P (hs ++ h ∷ []) gs
    (All-append P hs (h ∷ []) (All-tail P h hs (all_first P (h ∷ hs) gs all))
    (All-cons P h [] (All-head P h (hs ++ gs) all) (All-nil P)))
    (all_second P (h ∷ hs) gs all)

-- ---- rows with their duals

rows_with-append : (ys zs : List (List Rational)) (rows others : List Row)
    → length ys ≡ length rows
    → rows_with (ys ++ zs) (rows ++ others) ≡ rows_with ys rows ++ rows_with zs others
rows_with-append [] zs [] others e = refl
rows_with-append [] zs (r ∷ rows) others e = absurd (omega (arith, e))
rows_with-append (y ∷ ys) zs [] others e = absurd (omega (arith, e))
rows_with-append (y ∷ ys) zs (r ∷ rows) others e =
    ap (λ hs. row_with y r ∷ hs) (rows_with-append ys zs rows others (omega (arith, e)))

module _ (gap : Rational) (y : List Rational) (ys : List (List Rational)) (vars : List Rational)
    (groups : List Group) (h : DualRow) (hs : List DualRow) (n : ℕ) where
  rotated_parts : InfeasibleBy gap (y ∷ ys) vars groups (h ∷ hs) (suc n)
      → InfeasibleBy gap (ys ++ y ∷ []) vars groups (hs ++ h ∷ []) (suc n)
  rotated_parts p =
      let gs = groups_with (spread (all_addresses groups) vars) groups in record {
        each_row = (
            let count = length-append ys (y ∷ []) in
            let before = p.each_row in
            omega (arith, count, before)
            );
        each_variable = p.each_variable;
        duals = rotated_all HasDuals h hs gs p.duals;
        equations = All-weaker
            (λ v. adjoint (h ∷ hs) v +ℚ spread (all_addresses groups) vars v ≡ zero_ℚ)
            (λ v. adjoint (hs ++ h ∷ []) v +ℚ spread (all_addresses groups) vars v ≡ zero_ℚ)
            (λ v e. ap (λ q. q +ℚ spread (all_addresses groups) vars v)
            (rotated_sum (λ k. adjoint_of k v) h hs) ∙ e) (all_addresses groups) p.equations;
        is_gap = p.is_gap ∙ sym (rotated_gap h hs gs);
        positive = p.positive;
      }

-- ---- models

pub rotated_infeasible : (model other : ModelValue) (r last : Row) (rest : List Row) (gap : Rational)
    (ys : List (List Rational)) (vars : List Rational) → model.rows ≡ r ∷ rest
    → other.groups ≡ model.groups → other.rows ≡ rest ++ last ∷ []
    → ((y : List Rational) → row_with y last ≡ row_with y r) → IsInfeasible model gap ys vars
    → IsInfeasible other gap (rotated_list ys) vars
rotated_infeasible model other r last rest gap [] vars whole groups now same h =
    let none = h.duals.each_row in
    let some = ap length whole in
    absurd (omega (arith, none, some))
rotated_infeasible model other r last rest gap (y ∷ ys) vars whole groups now same h =
    let short : length ys ≡ length rest =
    (let count = h.duals.each_row in
    let some = ap length whole in
    omega (arith, count, some)) in
    let long : length (rest ++ last ∷ []) ≡ suc (length rest) =
    (let count = length-append rest (last ∷ []) in omega (arith, count)) in
    let before : InfeasibleBy gap (y ∷ ys) vars model.groups
    (row_with y r ∷ rows_with ys rest) (suc (length rest)) =
    subst (λ rows. InfeasibleBy gap (y ∷ ys) vars model.groups (rows_with (y ∷ ys) rows)
    (length rows)) whole (parts_of model gap (y ∷ ys) vars h) in
    let after = rotated_parts gap y ys vars model.groups (row_with y r) (rows_with ys rest)
    (length rest) before in
    let hs : rows_with ys rest ++ row_with y r ∷ []
    ≡ rows_with (ys ++ y ∷ []) (rest ++ last ∷ []) =
    ap (λ k. rows_with ys rest ++ k ∷ []) (sym (same y))
    ∙ sym (rows_with-append ys (y ∷ []) rest (last ∷ []) short) in
    infeasible_of other gap (ys ++ y ∷ []) vars
    (subst (λ rows. InfeasibleBy gap (ys ++ y ∷ []) vars other.groups
    (rows_with (ys ++ y ∷ []) rows) (length rows)) (sym now)
    (subst (λ gs. InfeasibleBy gap (ys ++ y ∷ []) vars gs
    (rows_with (ys ++ y ∷ []) (rest ++ last ∷ [])) (length (rest ++ last ∷ []))) (sym groups)
    (subst (λ n. InfeasibleBy gap (ys ++ y ∷ []) vars model.groups
    (rows_with (ys ++ y ∷ []) (rest ++ last ∷ [])) n) (sym long)
    (subst (λ k. InfeasibleBy gap (ys ++ y ∷ []) vars model.groups k (suc (length rest))) hs
    after))))

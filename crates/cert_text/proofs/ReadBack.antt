-- A printed certificate reads back.
use Rattle.std.proofs.Common.{◌≡◌, ◌≤◌, ℕ, cond, eqb, Option, Some, None, List, [], ◌∷◌, ◌++◌, codes, length, drop, map, refl, ap, ap₂, ◌∙◌, append_assoc, arith, eq-eqb}
use Rattle.std.specs.List.{All, zip}
use Rattle.std.specs.Option.{option_and_then, option_map, option_or}
use Rattle.std.specs.Str.{bytes_eq}
use Rattle.std.proofs.Math.Seq.{drop-append_seam, take-append_seam}
use Rattle.std.proofs.lemmas.List.Elements.{All-append, All-cons, All-head, All-map, All-nil, All-tail, All-weaker}
use Rattle.std.proofs.lemmas.Slice.Eq.{bytes_eq-Decides}
use Rattle.ratio_core.specs.Rational.{Rational}
use Rattle.ratio_core.specs.Text.{rational_of, text_of}
use Rattle.name_index.specs.Escape.{escaped}
use Rattle.user_model.specs.declared.group.GroupVar.{GroupVar}
use Rattle.user_model.specs.declared.row.Row.{Row}
use Rattle.certificates.specs.declared.certificate.Certificate.{Certificate}
use Rattle.certificates.specs.declared.certificate.Certificate.TheVariants as certificate
use Rattle.certificates.specs.Duals.{row_with, rows_with}
use Rattle.certificates.specs.Points.{functions_of}
use Rattle.cert_core.specs.Checked.{HasEachDual, HasRowDuals}
use Rattle.cert_text.specs.declared.heading.Heading.{Heading}
use Rattle.cert_text.specs.declared.heading.Heading.TheVariants.{Optimal, Infeasible, Unbounded}
use Rattle.cert_text.specs.Reading.{Lines, after, at_end, body_of, certificate_in, certificate_of, duals_of, each_line, heading_of, infeasible_of, number_after, numbers_in, numbers_of, optimal_of, point_of, row_duals_of, unbounded_of, variable_number}
use Rattle.cert_text.specs.ReadsBack.{ReadsAsItself, RowReads, VariableReads}
use Rattle.cert_text.specs.Text.{Line, certificate_lines, certificate_text, dual_lines, number_line, numbers_text, row_head, row_line, row_lines, variable_head, variable_line, variable_lines}
use Rattle.script_tokens.specs.Each.{each}
use Rattle.cert_text.proofs.Bytes.{OnLine, by_test, graphic_above, number_above, on_line}
use Rattle.cert_text.proofs.Cuts.{lines_split, numbers_split}

-- ---- numbers

after_joined : (beginning rest : List ℕ) → after beginning (beginning ++ rest) ≡ Some rest
after_joined beginning rest =
    ap (λ t. cond t (Some (drop (length beginning) (beginning ++ rest))) None)
    (ap (λ front. bytes_eq front beginning) (take-append_seam beginning rest)
    ∙ (bytes_eq-Decides beginning beginning).1 refl)
    ∙ ap Some (drop-append_seam beginning rest)

number_read : (beginning : List ℕ) (q : Rational) → ReadsAsItself q
    → number_after beginning (number_line beginning q) ≡ Some q
unfolding number_after
number_read beginning q h =
    ap (λ o. option_and_then rational_of o) (after_joined beginning (text_of q)) ∙ h

each_read : (qs : List Rational) → All ReadsAsItself qs
    → each rational_of (map text_of qs) ≡ Some qs
each_read [] h = refl
each_read (q ∷ qs) h =
    ap₂ (λ o others. option_and_then (λ y. option_and_then (λ ys. Some (y ∷ ys)) others) o)
    (All-head ReadsAsItself q qs h) (each_read qs (All-tail ReadsAsItself q qs h))

numbers_read : (qs : List Rational) → All ReadsAsItself qs → numbers_of (numbers_text qs) ≡ Some qs
unfolding numbers_of
numbers_read qs h = ap numbers_in (numbers_split qs) ∙ each_read qs h

-- ---- lines

duals_read : (row : Row) (qs : List Rational) → length qs ≡ length (functions_of row.func)
    → All ReadsAsItself qs → duals_of row (row_line (row, qs)) ≡ Some qs
unfolding duals_of
duals_read row qs e h =
    ap (λ o. option_and_then (λ rest. option_and_then
    (λ duals. cond (eqb (length duals) (length (functions_of row.func))) (Some duals) None)
    (numbers_of rest)) o)
    (after_joined (row_head row) (numbers_text qs))
    ∙ ap (λ o. option_and_then (λ duals. cond (eqb (length duals) (length (functions_of row.func)))
    (Some duals) None) o) (numbers_read qs h)
    ∙ ap (λ t. cond t (Some qs) None) (eq-eqb _ _ e)

each_line_read : {X Y : Type 0} (f : X → Line → Option Y) (line : X × Y → Line) (xs : List X)
    (ys : List Y) (rest : Lines) → length ys ≡ length xs
    → All (λ e. f e.0 (line e) ≡ Some e.1) (zip xs ys)
    → each_line f xs (map line (zip xs ys) ++ rest) ≡ Some (ys, rest)
unfolding each_line
each_line_read f line [] [] rest e h = refl
each_line_read f line [] (y ∷ ys) rest e h = absurd (omega (arith, e))
each_line_read f line (x ∷ xs) [] rest e h = absurd (omega (arith, e))
each_line_read f line (x ∷ xs) (y ∷ ys) rest e h =
    let same : length ys ≡ length xs = omega (arith, e) in
    ap₂ (λ o others. option_and_then (λ y. option_and_then (λ p. Some (y ∷ p.0, p.1)) others) o)
    (All-head (λ e. f e.0 (line e) ≡ Some e.1) (x, y) (zip xs ys) h)
    (each_line_read f line xs ys rest same (All-tail (λ e. f e.0 (line e) ≡ Some e.1) (x, y)
    (zip xs ys) h))

point_read : (variables : List GroupVar) (word : List ℕ) (x : List Rational) (rest : Lines)
    → length x ≡ length variables → All VariableReads (zip variables x)
    → point_of variables word (variable_lines word variables x ++ rest) ≡ Some (x, rest)
point_read variables word x rest e h =
    each_line_read (variable_number word) (variable_line word) variables x rest e
    (All-weaker VariableReads (λ e. variable_number word e.0 (variable_line word e) ≡ Some e.1)
    (λ e reads. number_read (variable_head word e.0) e.1 reads.number) (zip variables x) h)

each_row_read : (rows : List Row) (duals : List (List Rational))
    → All HasEachDual (rows_with duals rows) → All RowReads (zip rows duals)
    → All (λ e. duals_of e.0 (row_line e) ≡ Some e.1) (zip rows duals)
each_row_read [] duals k h = All-nil (λ e. duals_of e.0 (row_line e) ≡ Some e.1)
each_row_read (r ∷ rows) [] k h = All-nil (λ e. duals_of e.0 (row_line e) ≡ Some e.1)
each_row_read (r ∷ rows) (qs ∷ duals) k h =
    All-cons (λ e. duals_of e.0 (row_line e) ≡ Some e.1) (r, qs) (zip rows duals)
    (duals_read r qs (All-head HasEachDual (row_with qs r) (rows_with duals rows) k)
    (All-head RowReads (r, qs) (zip rows duals) h).numbers)
    (each_row_read rows duals (All-tail HasEachDual (row_with qs r) (rows_with duals rows) k)
    (All-tail RowReads (r, qs) (zip rows duals) h))

rows_read : (rows : List Row) (duals : List (List Rational)) (rest : Lines) → HasRowDuals rows duals
    → All RowReads (zip rows duals)
    → row_duals_of rows (row_lines rows duals ++ rest) ≡ Some (duals, rest)
rows_read rows duals rest k h =
    each_line_read duals_of row_line rows duals rest k.each
    (each_row_read rows duals k.components h)

-- ---- the bytes of lines

number_on_line : (beginning : List ℕ) (q : Rational) → OnLine beginning
    → OnLine (number_line beginning q)
number_on_line beginning q h =
    All-append (λ b. 32 ≤ b) beginning (text_of q) h (on_line (text_of q) (number_above q))

numbers_on_line : (qs : List Rational) → OnLine (numbers_text qs)
numbers_on_line [] = All-nil (λ b. 32 ≤ b)
numbers_on_line (q ∷ qs) =
    All-append (λ b. 32 ≤ b) (codes " " ++ text_of q) (numbers_text qs)
    (number_on_line (codes " ") q (by_test (codes " ") refl)) (numbers_on_line qs)

variables_on_lines : (word : List ℕ) (variables : List GroupVar) (x : List Rational) → OnLine word
    → All VariableReads (zip variables x)
    → All OnLine (variable_lines word variables x)
variables_on_lines word variables x on h =
    All-map OnLine (variable_line word) (zip variables x)
    (All-weaker VariableReads (λ e. OnLine (variable_line word e)) (λ e reads. one e reads)
    (zip variables x) h)
  where
    one : (e : GroupVar × Rational) → VariableReads e → OnLine (variable_line word e)
    one e reads =
        number_on_line (variable_head word e.0) e.1
        (All-append (λ b. 32 ≤ b) (word ++ escaped e.0.name) (codes " ")
        (All-append (λ b. 32 ≤ b) word (escaped e.0.name) on
        (on_line (escaped e.0.name) (graphic_above (escaped e.0.name) reads.name)))
        (by_test (codes " ") refl))

rows_on_lines : (rows : List Row) (duals : List (List Rational)) → All RowReads (zip rows duals)
    → All OnLine (row_lines rows duals)
rows_on_lines rows duals h =
    All-map OnLine row_line (zip rows duals)
    (All-weaker RowReads (λ e. OnLine (row_line e)) (λ e reads. one e reads) (zip rows duals) h)
  where
    one : (e : Row × List Rational) → RowReads e → OnLine (row_line e)
    one e reads =
        All-append (λ b. 32 ≤ b) (row_head e.0) (numbers_text e.1)
        (All-append (λ b. 32 ≤ b) (codes "dual row ") (escaped e.0.name)
        (by_test (codes "dual row ") refl) (on_line (escaped e.0.name)
        (graphic_above (escaped e.0.name) reads.name)))
        (numbers_on_line e.1)

-- ---- one reading after another

module _ {S A B D : Type 0} where
  two : (f : S → Option (A × S)) (g : S → Option (B × S)) (k : A → B → S → Option D) (s t u : S)
      (a : A) (b : B)
      → f s ≡ Some (a, t) → g t ≡ Some (b, u)
      → option_and_then (λ x. option_and_then (λ y. k x.0 y.0 y.1) (g x.1)) (f s) ≡ k a b u
  two f g k s t u a b e h =
      ap (λ o. option_and_then (λ x. option_and_then (λ y. k x.0 y.0 y.1) (g x.1)) o) e
      ∙ ap (λ o. option_and_then (λ y. k a y.0 y.1) o) h

module _ {S A B C D : Type 0} where
  three : (f : S → Option (A × S)) (g : S → Option (B × S)) (h : S → Option (C × S))
      (k : A → B → C → S → Option D) (s t u v : S) (a : A) (b : B) (c : C)
      → f s ≡ Some (a, t) → g t ≡ Some (b, u) → h u ≡ Some (c, v)
      → option_and_then (λ x. option_and_then (λ y. option_and_then (λ z. k x.0 y.0 z.0 z.1)
      (h y.1)) (g x.1)) (f s) ≡ k a b c v
  three f g h k s t u v a b c e i j =
      ap (λ o. option_and_then (λ x. option_and_then (λ y. option_and_then (λ z. k x.0 y.0 z.0 z.1)
      (h y.1)) (g x.1)) o) e
      ∙ ap (λ o. option_and_then (λ y. option_and_then (λ z. k a y.0 z.0 z.1) (h y.1)) o) i
      ∙ ap (λ o. option_and_then (λ z. k a b z.0 z.1) o) j

-- ---- certificates

abbrev last : Lines
last = [] ∷ []

optimal_heading : (value : Rational) → ReadsAsItself value
    → heading_of (number_line (codes "optimal ") value) ≡ Some (Optimal value)
unfolding heading_of
optimal_heading value h =
    let line = number_line (codes "optimal ") value in
    ap (λ o. option_or (option_map Optimal o)
    (option_or (option_map Infeasible (number_after (codes "infeasible ") line))
    (cond (bytes_eq line (codes "unbounded")) (Some Unbounded) None)))
    (number_read (codes "optimal ") value h)

infeasible_heading : (gap : Rational) → ReadsAsItself gap
    → heading_of (number_line (codes "infeasible ") gap) ≡ Some (Infeasible gap)
unfolding heading_of number_after
infeasible_heading gap h =
    let line = number_line (codes "infeasible ") gap in
    ap (λ o. option_or (option_map Infeasible o) (cond (bytes_eq line (codes "unbounded"))
    (Some Unbounded) None))
    (number_read (codes "infeasible ") gap h)

unbounded_heading : heading_of (codes "unbounded") ≡ Some Unbounded
unfolding heading_of number_after
unbounded_heading = refl

-- the first line, and what follows it
first_read : (variables : List GroupVar) (rows : List Row) (first : Line) (lines : Lines)
    (heading : Heading) (c : Certificate) → heading_of first ≡ Some heading
    → body_of variables rows heading lines ≡ Some c
    → certificate_in variables rows (first ∷ lines) ≡ Some c
unfolding certificate_in
first_read variables rows first lines heading c e h =
    ap (λ o. option_and_then (λ heading. body_of variables rows heading lines) o) e ∙ h

-- the lines read, and none has a newline in it
record LinesRead (variables : List GroupVar) (rows : List Row) (c : Certificate) : Type 0 where
  on_lines : All OnLine (certificate_lines variables rows c)
  read : certificate_in variables rows (certificate_lines variables rows c ++ last) ≡ Some c

text_read : (variables : List GroupVar) (rows : List Row) (c : Certificate)
    → LinesRead variables rows c
    → certificate_of variables rows (certificate_text variables rows c) ≡ Some c
unfolding certificate_of certificate_text
text_read variables rows c h =
    ap (certificate_in variables rows) (lines_split (certificate_lines variables rows c) h.on_lines)
    ∙ h.read

module _ (variables : List GroupVar) (rows : List Row) where
  abbrev primal : List Rational → List Line
  primal x = variable_lines (codes "primal ") variables x

  abbrev ray : List Rational → List Line
  ray d = variable_lines (codes "ray ") variables d

  abbrev dual : List Rational → List Line
  dual vars = variable_lines (codes "dual var ") variables vars

  duals_on_lines : (duals : List (List Rational)) (vars : List Rational)
      → All RowReads (zip rows duals) → All VariableReads (zip variables vars)
      → All OnLine (dual_lines variables rows duals vars)
  duals_on_lines duals vars r w =
      All-append OnLine (row_lines rows duals) (dual vars) (rows_on_lines rows duals r)
      (variables_on_lines (codes "dual var ") variables vars
      (by_test (codes "dual var ") refl) w)

  module _ (duals : List (List Rational)) (vars : List Rational) (of_rows : HasRowDuals rows duals)
      (of_vars : length vars ≡ length variables)
      (r : All RowReads (zip rows duals)) (w : All VariableReads (zip variables vars)) where
    pub optimal_read : (value : Rational) (x : List Rational) → length x ≡ length variables
        → ReadsAsItself value → All VariableReads (zip variables x)
        → certificate_of variables rows (certificate_text variables rows
        (certificate.Optimal value x duals vars))
        ≡ Some (certificate.Optimal value x duals vars)
    unfolding body_of optimal_of
    optimal_read value x of_x v p =
        text_read variables rows (certificate.Optimal value x duals vars) (record {
          on_lines =
              All-cons OnLine (number_line (codes "optimal ") value)
              (primal x ++ dual_lines variables rows duals vars)
              (number_on_line (codes "optimal ") value (by_test (codes "optimal ") refl))
              (All-append OnLine (primal x) (dual_lines variables rows duals vars)
              (variables_on_lines (codes "primal ") variables x (by_test (codes "primal ") refl)
              p) (duals_on_lines duals vars r w));
          read =
              first_read variables rows (number_line (codes "optimal ") value)
              ((primal x ++ dual_lines variables rows duals vars) ++ last) (Optimal value)
              (certificate.Optimal value x duals vars)
              (optimal_heading value v)
              (ap (λ lines. optimal_of variables rows value lines)
              (append_assoc (primal x) (dual_lines variables rows duals vars) last
              ∙ ap (λ lines. primal x ++ lines) (append_assoc (row_lines rows duals)
              (dual vars) last))
              ∙ three (point_of variables (codes "primal ")) (row_duals_of rows)
              (point_of variables (codes "dual var "))
              (λ a b c lines. at_end (certificate.Optimal value a b c) lines)
              (primal x ++ (row_lines rows duals ++ (dual vars ++ last)))
              (row_lines rows duals ++ (dual vars ++ last)) (dual vars ++ last)
              last x duals vars
              (point_read variables (codes "primal ") x
              (row_lines rows duals ++ (dual vars ++ last)) of_x p)
              (rows_read rows duals (dual vars ++ last) of_rows r)
              (point_read variables (codes "dual var ") vars last of_vars w));
        })

    pub infeasible_read : (gap : Rational) → ReadsAsItself gap
        → certificate_of variables rows (certificate_text variables rows
        (certificate.Infeasible gap duals vars)) ≡ Some (certificate.Infeasible gap duals vars)
    unfolding body_of infeasible_of
    infeasible_read gap v =
        text_read variables rows (certificate.Infeasible gap duals vars) (record {
          on_lines = All-cons OnLine (number_line (codes "infeasible ") gap)
              (dual_lines variables rows duals vars) (number_on_line (codes "infeasible ") gap
              (by_test (codes "infeasible ") refl)) (duals_on_lines duals vars r w);
          read =
              first_read variables rows (number_line (codes "infeasible ") gap)
              (dual_lines variables rows duals vars ++ last) (Infeasible gap)
              (certificate.Infeasible gap duals vars)
              (infeasible_heading gap v)
              (ap (λ lines. infeasible_of variables rows gap lines)
              (append_assoc (row_lines rows duals) (dual vars) last)
              ∙ two (row_duals_of rows) (point_of variables (codes "dual var "))
              (λ b c lines. at_end (certificate.Infeasible gap b c) lines)
              (row_lines rows duals ++ (dual vars ++ last)) (dual vars ++ last) last duals vars
              (rows_read rows duals (dual vars ++ last) of_rows r)
              (point_read variables (codes "dual var ") vars last of_vars w));
        })

  pub unbounded_read : (x d : List Rational) → length x ≡ length variables
      → length d ≡ length variables → All VariableReads (zip variables x)
      → All VariableReads (zip variables d)
      → certificate_of variables rows (certificate_text variables rows (certificate.Unbounded x d))
      ≡ Some (certificate.Unbounded x d)
  unfolding body_of unbounded_of
  unbounded_read x d of_x of_d p q =
      text_read variables rows (certificate.Unbounded x d) (record {
        on_lines =
            All-cons OnLine (codes "unbounded") (primal x ++ ray d)
            (by_test (codes "unbounded") refl)
            (All-append OnLine (primal x) (ray d) (variables_on_lines (codes "primal ") variables x
            (by_test (codes "primal ") refl) p) (variables_on_lines (codes "ray ") variables d
            (by_test (codes "ray ") refl) q));
        read =
            first_read variables rows (codes "unbounded") ((primal x ++ ray d) ++ last) Unbounded
            (certificate.Unbounded x d) unbounded_heading
            (ap (λ lines. unbounded_of variables lines) (append_assoc (primal x) (ray d) last)
            ∙ two (point_of variables (codes "primal ")) (point_of variables (codes "ray "))
            (λ a b lines. at_end (certificate.Unbounded a b) lines)
            (primal x ++ (ray d ++ last)) (ray d ++ last) last x d
            (point_read variables (codes "primal ") x (ray d ++ last) of_x p)
            (point_read variables (codes "ray ") d last of_d q));
      })

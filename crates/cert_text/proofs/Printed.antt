-- What is printed so far, and what is left.
use Rattle.std.proofs.Common.{◌≡◌, ℕ, Result, Ok, Err, List, [], ◌∷◌, ◌++◌, codes, map, refl, sym, ap, subst, ◌∙◌, append_assoc, append-nil}
use Rattle.std.specs.List.{All, zip}
use Rattle.std.specs.Result.{OnOk}
use Rattle.std.proofs.lemmas.List.Concat.{flat_map-append}
use Rattle.std.proofs.lemmas.List.Elements.{All-cons, All-nil}
use Rattle.ratio_core.specs.Rational.{Rational}
use Rattle.ratio_core.specs.Text.{text_of}
use Rattle.user_model.specs.declared.group.GroupVar.{GroupVar}
use Rattle.user_model.specs.declared.row.Row.{Row}
use Rattle.cert_text.specs.ReadsBack.{ReadsAsItself, RowReads, VariableReads}
use Rattle.certificates.specs.declared.certificate.Certificate.TheVariants.{Infeasible, Optimal, Unbounded}
use Rattle.cert_text.specs.Text.{certificate_text, dual_lines, ended, number_line, numbers_text, row_line, row_lines, text_of_lines, variable_line, variable_lines}

-- of nothing with anything there are no pairs
pub none_zipped : {X Y : Type 0} (xs : List X) (ys : List Y) → xs ≡ [] → zip xs ys ≡ []
none_zipped xs ys e = ap (λ l. zip l ys) e

pub zipped_with_none : {X Y : Type 0} (xs : List X) (ys : List Y) → ys ≡ [] → zip xs ys ≡ []
zipped_with_none xs ys e = ap (zip xs) e ∙ none xs
  where
    none : {X Y : Type 0} (xs : List X) → zip {K = X} {X = Y} xs [] ≡ []
    none [] = refl
    none (x ∷ xs) = refl

-- ---- the lines of variables

-- with the lines of what is left all are there, and if these read back, all do
pub record VariablesPrinted (word : List ℕ) (variables : List GroupVar) (x : List Rational)
    (start : List ℕ) (left : List GroupVar) (numbers : List Rational)
    (text : List ℕ) : Type 0 where
  pub written : text ++ text_of_lines (variable_lines word left numbers)
      ≡ start ++ text_of_lines (variable_lines word variables x)
  pub reads : All VariableReads (zip left numbers) → All VariableReads (zip variables x)

module _ {word : List ℕ} {variables : List GroupVar} {x : List Rational} {start : List ℕ} where
  pub variables_more : (left others : List GroupVar) (numbers rest : List Rational) (v : GroupVar)
      (q : Rational) (text new : List ℕ)
      → VariablesPrinted word variables x start left numbers text → left ≡ v ∷ others
      → numbers ≡ q ∷ rest
      → new ≡ text ++ ended (variable_line word (v, q)) → VariableReads (v, q)
      → VariablesPrinted word variables x start others rest new
  variables_more left others numbers rest v q text new h l n e reads =
      let both = subst (λ qs. VariablesPrinted word variables x start (v ∷ others) qs text) n
      (subst (λ vs. VariablesPrinted word variables x start vs numbers text) l h) in
      record {
        written =
            ap (λ t. t ++ text_of_lines (variable_lines word others rest)) e
            ∙ append_assoc text (ended (variable_line word (v, q)))
            (text_of_lines (variable_lines word others rest))
            ∙ both.written;
        reads = λ all. both.reads (All-cons VariableReads (v, q) (zip others rest) reads all);
      }

  -- nothing is left of the variables, or of the numbers
  pub variables_all : (left : List GroupVar) (numbers : List Rational) (text : List ℕ)
      → VariablesPrinted word variables x start left numbers text
      → zip left numbers ≡ [] → (text ≡ start ++ text_of_lines (variable_lines word variables x))
      × All VariableReads (zip variables x)
  variables_all left numbers text h e = (
    sym (append-nil text) ∙ sym (ap (λ es. text ++ text_of_lines (map (variable_line word) es)) e)
        ∙ h.written,
    h.reads (subst (λ es. All VariableReads es) (sym e) (All-nil VariableReads)),
  )

-- ---- the lines of rows

pub record RowsPrinted (rows : List Row) (duals : List (List Rational)) (start : List ℕ)
    (left : List Row) (numbers : List (List Rational)) (text : List ℕ) : Type 0 where
  pub written : text ++ text_of_lines (row_lines left numbers)
      ≡ start ++ text_of_lines (row_lines rows duals)
  pub reads : All RowReads (zip left numbers) → All RowReads (zip rows duals)

module _ {rows : List Row} {duals : List (List Rational)} {start : List ℕ} where
  pub rows_more : (left others : List Row) (numbers rest : List (List Rational)) (r : Row)
      (qs : List Rational) (text new : List ℕ)
      → RowsPrinted rows duals start left numbers text → left ≡ r ∷ others → numbers ≡ qs ∷ rest
      → new ≡ text ++ ended (row_line (r, qs)) → RowReads (r, qs)
      → RowsPrinted rows duals start others rest new
  rows_more left others numbers rest r qs text new h l n e reads =
      let both = subst (λ ns. RowsPrinted rows duals start (r ∷ others) ns text) n
      (subst (λ rs. RowsPrinted rows duals start rs numbers text) l h) in
      record {
        written =
            ap (λ t. t ++ text_of_lines (row_lines others rest)) e
            ∙ append_assoc text (ended (row_line (r, qs))) (text_of_lines (row_lines others rest))
            ∙ both.written;
        reads = λ all. both.reads (All-cons RowReads (r, qs) (zip others rest) reads all);
      }

  pub rows_all : (left : List Row) (numbers : List (List Rational)) (text : List ℕ)
      → RowsPrinted rows duals start left numbers text
      → zip left numbers ≡ [] → (text ≡ start ++ text_of_lines (row_lines rows duals))
      × All RowReads (zip rows duals)
  rows_all left numbers text h e = (
    sym (append-nil text) ∙ sym (ap (λ es. text ++ text_of_lines (map row_line es)) e) ∙ h.written,
    h.reads (subst (λ es. All RowReads es) (sym e) (All-nil RowReads)),
  )

-- ---- numbers

pub record NumbersPrinted (all : List Rational) (start : List ℕ) (left : List Rational)
    (text : List ℕ) : Type 0 where
  pub written : text ++ numbers_text left ≡ start ++ numbers_text all
  pub reads : All ReadsAsItself left → All ReadsAsItself all

module _ {all : List Rational} {start : List ℕ} where
  pub numbers_more : (q : Rational) (left others : List Rational) (text new : List ℕ)
      → NumbersPrinted all start left text → left ≡ q ∷ others
      → new ≡ (text ++ codes " ") ++ text_of q → ReadsAsItself q
      → NumbersPrinted all start others new
  numbers_more q left others text new h is e reads = record {
    written =
        ap (λ t. t ++ numbers_text others) (e ∙ append_assoc text (codes " ") (text_of q))
        ∙ append_assoc text (codes " " ++ text_of q) (numbers_text others)
        ∙ sym (ap (λ qs. text ++ numbers_text qs) is) ∙ h.written;
    reads = λ rest. h.reads (subst (λ qs. All ReadsAsItself qs) (sym is)
        (All-cons ReadsAsItself q others reads rest));
  }

-- ---- certificates

pub both_ok : {T E : Type 0} (r : Result T E) (P Q R : Type 0) → (P → Q → R) → OnOk r P
    → OnOk r Q → OnOk r R
both_ok (Ok x) P Q R f p q = f p q
both_ok (Err e) P Q R f p q = tt

module _ (variables : List GroupVar) (rows : List Row) (duals : List (List Rational))
    (vars : List Rational) where
  pub optimal_text : (value : Rational) (x : List Rational) (start first second new : List ℕ)
      → first ≡ start ++ ended (number_line (codes "optimal ") value)
      → second ≡ first ++ text_of_lines (variable_lines (codes "primal ") variables x)
      → new ≡ second ++ text_of_lines (dual_lines variables rows duals vars)
      → new ≡ start ++ certificate_text variables rows (Optimal value x duals vars)
  unfolding certificate_text
  optimal_text value x start first second new e h k =
      let line = ended (number_line (codes "optimal ") value) in
      let xs = variable_lines (codes "primal ") variables x in
      let ys = dual_lines variables rows duals vars in
      k ∙ ap (λ t. t ++ text_of_lines ys) (h ∙ ap (λ t. t ++ text_of_lines xs) e)
      ∙ append_assoc (start ++ line) (text_of_lines xs) (text_of_lines ys)
      ∙ append_assoc start line (text_of_lines xs ++ text_of_lines ys)
      ∙ ap (λ t. start ++ (line ++ t)) (sym (flat_map-append ended xs ys))

  pub infeasible_text : (gap : Rational) (start first new : List ℕ)
      → first ≡ start ++ ended (number_line (codes "infeasible ") gap)
      → new ≡ first ++ text_of_lines (dual_lines variables rows duals vars)
      → new ≡ start ++ certificate_text variables rows (Infeasible gap duals vars)
  unfolding certificate_text
  infeasible_text gap start first new e k =
      let line = ended (number_line (codes "infeasible ") gap) in
      let ys = dual_lines variables rows duals vars in
      k ∙ ap (λ t. t ++ text_of_lines ys) e ∙ append_assoc start line (text_of_lines ys)

pub unbounded_text : (variables : List GroupVar) (rows : List Row) (x d : List Rational)
    (start first second new : List ℕ)
    → first ≡ start ++ ended (codes "unbounded")
    → second ≡ first ++ text_of_lines (variable_lines (codes "primal ") variables x)
    → new ≡ second ++ text_of_lines (variable_lines (codes "ray ") variables d)
    → new ≡ start ++ certificate_text variables rows (Unbounded x d)
unfolding certificate_text
unbounded_text variables rows x d start first second new e h k =
    let line = ended (codes "unbounded") in
    let xs = variable_lines (codes "primal ") variables x in
    let ys = variable_lines (codes "ray ") variables d in
    k ∙ ap (λ t. t ++ text_of_lines ys) (h ∙ ap (λ t. t ++ text_of_lines xs) e)
    ∙ append_assoc (start ++ line) (text_of_lines xs) (text_of_lines ys)
    ∙ append_assoc start line (text_of_lines xs ++ text_of_lines ys)
    ∙ ap (λ t. start ++ (line ++ t)) (sym (flat_map-append ended xs ys))

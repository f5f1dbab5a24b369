-- Lines of rows so far, and what is left; and the text of the best duals by its parts.
use Rattle.std.proofs.Common.{◌≡◌, ℕ, List, [], ◌∷◌, ◌++◌, append-nil, append_assoc, ap, ap₂, codes, map, refl, sym, ◌∙◌}
use Rattle.std.specs.List.{zip}
use Rattle.cert_text.specs.Text.{Line, ended, number_line, row_line, row_lines, text_of_lines, variable_lines}
use Rattle.certificates.specs.Points.{variables_of}
use Rattle.dual_command.specs.Text.{duals_text}
use Rattle.file_command.specs.Numbers.{numbers_text}
use Rattle.ratio_core.specs.Rational.{Rational}
use Rattle.ratio_core.specs.Text.{text_of}
use Rattle.user_model.specs.Model.{ModelValue}
use Rattle.user_model.specs.declared.row.Row.{Row}

abbrev rows_text : List Row → List (List Rational) → List ℕ
rows_text rows duals = text_of_lines (row_lines rows duals)

-- a line more
pub rows_more : (left others : List Row) (duals rest : List (List Rational)) (r : Row)
    (own : List Rational) (text new whole : List ℕ) → text ++ rows_text left duals ≡ whole
    → left ≡ r ∷ others → duals ≡ own ∷ rest → new ≡ text ++ ended (row_line (r, own))
    → new ++ rows_text others rest ≡ whole
rows_more left others duals rest r own text new whole h l n e =
    ap (λ t. t ++ rows_text others rest) e
    ∙ append_assoc text (ended (row_line (r, own))) (rows_text others rest)
    ∙ sym (ap₂ (λ rs ds. text ++ rows_text rs ds) l n) ∙ h

-- nothing is left
rows_all : (left : List Row) (duals : List (List Rational)) (text whole : List ℕ)
    → text ++ rows_text left duals ≡ whole → zip left duals ≡ [] → text ≡ whole
rows_all left duals text whole h e =
    sym (append-nil text) ∙ sym (ap (λ es. text ++ text_of_lines (map row_line es)) e) ∙ h

pub no_rows : (left : List Row) (duals : List (List Rational)) (text whole : List ℕ)
    → text ++ rows_text left duals ≡ whole → left ≡ [] → text ≡ whole
no_rows left duals text whole h e = rows_all left duals text whole h (ap (λ rs. zip rs duals) e)

pub no_duals_left : (left : List Row) (duals : List (List Rational)) (text whole : List ℕ)
    → text ++ rows_text left duals ≡ whole → duals ≡ [] → text ≡ whole
no_duals_left left duals text whole h e =
    rows_all left duals text whole h (ap (zip left) e ∙ none left)
  where
    none : (rs : List Row) → zip {K = Row} {X = List Rational} rs [] ≡ []
    none [] = refl
    none (r ∷ rs) = refl

-- the text of some lines and of others
pub lines_together : (lines others : List Line)
    → text_of_lines (lines ++ others) ≡ text_of_lines lines ++ text_of_lines others
lines_together [] others = refl
lines_together (line ∷ lines) others =
    ap (λ t. ended line ++ t) (lines_together lines others)
    ∙ sym (append_assoc (ended line) (text_of_lines lines) (text_of_lines others))

-- `dual V`, the rows and the variables, one after another
pub best_text : (model : ModelValue) (value : Rational) (rows : List (List Rational))
    (vars : List Rational) (t₁ t₂ t₃ t₄ t₅ : List ℕ) → t₁ ≡ [] ++ codes "dual "
    → t₂ ≡ t₁ ++ text_of value → t₃ ≡ t₂ ++ codes "\n"
    → t₄ ≡ t₃ ++ text_of_lines (row_lines model.rows rows)
    → t₅ ≡ t₄ ++ numbers_text (codes "dual var ") (variables_of model.groups) vars
    → t₅ ≡ duals_text model value rows vars
best_text model value rows vars t₁ t₂ t₃ t₄ t₅ e₁ e₂ e₃ e₄ e₅ =
    let first : List ℕ = ended (number_line (codes "dual ") value) in
    let others : List Line = variable_lines (codes "dual var ") (variables_of model.groups) vars in
    let lines : List Line = row_lines model.rows rows in
    e₅
    ∙ ap (λ t. t ++ text_of_lines others) (e₄ ∙ ap (λ t. t ++ text_of_lines lines) (e₃
    ∙ ap (λ t. t ++ codes "\n") (e₂ ∙ ap (λ t. t ++ text_of value) e₁)))
    ∙ append_assoc first (text_of_lines lines) (text_of_lines others)
    ∙ ap (λ t. first ++ t) (sym (lines_together lines others))

-- Lines of some of the rows so far, and what is left.
use Rattle.std.proofs.Common.{◌≡◌, ℕ, List, [], ◌∷◌, ◌++◌, append-nil, append_assoc, ap, ap₂, arith, length, map, refl, sym, ◌∙◌}
use Rattle.std.specs.List.{zip}
use Rattle.std.specs.Prelude.{OnOk, Result}
use Rattle.std.proofs.lemmas.Result.{on_ok_weaker}
use Rattle.cert_text.specs.Text.{Line, ended, number_line, text_of_lines}
use Rattle.lists.specs.declared.memory.Memory.{Memory as NoMemory}
use Rattle.ratio_core.specs.Rational.{Rational}
use Rattle.ratio_core.specs.Text.{text_of}
use Rattle.relax_command.specs.Text.{relaxation_text}
use Rattle.relaxation.specs.declared.reading.Relaxation.{Relaxation}
use Rattle.user_model.specs.Model.{ModelValue}
use Rattle.user_model.specs.declared.row.Row.{Row}

module _ {X : Type 0} (line : Row × X → Line) where
  abbrev lines_text : List Row → List X → List ℕ
  lines_text rows xs = text_of_lines (map line (zip rows xs))

  -- a line more
  pub line_more : (left others : List Row) (xs rest : List X) (r : Row) (x : X)
      (text new whole : List ℕ) → text ++ lines_text left xs ≡ whole → left ≡ r ∷ others
      → xs ≡ x ∷ rest → new ≡ text ++ ended (line (r, x)) → new ++ lines_text others rest ≡ whole
  line_more left others xs rest r x text new whole h l n e =
      ap (λ t. t ++ lines_text others rest) e
      ∙ append_assoc text (ended (line (r, x))) (lines_text others rest)
      ∙ sym (ap₂ (λ rs ys. text ++ lines_text rs ys) l n) ∙ h

  -- the same rows are left
  pub line_same : (left others : List Row) (xs : List X) (text whole : List ℕ)
      → text ++ lines_text left xs ≡ whole → left ≡ others → text ++ lines_text others xs ≡ whole
  line_same left others xs text whole h e = sym (ap (λ rs. text ++ lines_text rs xs) e) ∙ h

  -- nothing is left
  line_all : (left : List Row) (xs : List X) (text whole : List ℕ)
      → text ++ lines_text left xs ≡ whole → zip left xs ≡ [] → text ≡ whole
  line_all left xs text whole h e =
      sym (append-nil text) ∙ sym (ap (λ es. text ++ text_of_lines (map line es)) e) ∙ h

  pub no_rows : (left : List Row) (xs : List X) (text whole : List ℕ)
      → text ++ lines_text left xs ≡ whole → left ≡ [] → text ≡ whole
  no_rows left xs text whole h e = line_all left xs text whole h (ap (λ rs. zip rs xs) e)

  pub none_left : (left : List Row) (xs : List X) (text whole : List ℕ)
      → text ++ lines_text left xs ≡ whole → length xs ≡ 0 → text ≡ whole
  none_left left [] text whole h e = line_all left [] text whole h (none left)
    where
      none : (rs : List Row) → zip {K = Row} {X = X} rs [] ≡ []
      none [] = refl
      none (r ∷ rs) = refl
  none_left left (x ∷ xs) text whole h e = absurd (omega (arith, e))

-- ---- parts of a text

-- the text of some lines and of others
lines_together : (lines others : List Line)
    → text_of_lines (lines ++ others) ≡ text_of_lines lines ++ text_of_lines others
lines_together [] others = refl
lines_together (line ∷ lines) others =
    ap (λ t. ended line ++ t) (lines_together lines others)
    ∙ sym (append_assoc (ended line) (text_of_lines lines) (text_of_lines others))

-- the text of what a relaxation is
pub text_same : (model : ModelValue) (answer other : Relaxation) (told : Result Unit NoMemory)
    (text new : List ℕ) → answer ≡ other → OnOk told (new ≡ text ++ relaxation_text model other)
    → OnOk told (new ≡ text ++ relaxation_text model answer)
text_same model answer other told text new is =
    on_ok_weaker told (λ e. e ∙ ap (λ r. text ++ relaxation_text model r) (sym is))

-- a line with a number, some lines and others, one after another
pub all_lines : (word : List ℕ) (q : Rational) (some others : List Line)
    (t₀ t₁ t₂ t₃ t₄ t₅ : List ℕ) → t₁ ≡ t₀ ++ word → t₂ ≡ t₁ ++ text_of q → t₃ ≡ t₂ ++ 10 ∷ []
    → t₄ ≡ t₃ ++ text_of_lines some → t₅ ≡ t₄ ++ text_of_lines others
    → t₅ ≡ t₀ ++ text_of_lines (number_line word q ∷ some ++ others)
all_lines word q some others t₀ t₁ t₂ t₃ t₄ t₅ e₁ e₂ e₃ e₄ e₅ =
    let first : List ℕ = ended (number_line word q) in
    let begun : t₃ ≡ t₀ ++ first =
    e₃ ∙ ap (λ t. t ++ 10 ∷ []) (e₂ ∙ ap (λ t. t ++ text_of q) e₁
    ∙ append_assoc t₀ word (text_of q)) ∙ append_assoc t₀ (word ++ text_of q) (10 ∷ []) in
    e₅
    ∙ ap (λ t. t ++ text_of_lines others) (e₄ ∙ ap (λ t. t ++ text_of_lines some) begun
    ∙ append_assoc t₀ first (text_of_lines some))
    ∙ append_assoc t₀ (first ++ text_of_lines some) (text_of_lines others)
    ∙ ap (λ t. t₀ ++ t) (append_assoc first (text_of_lines some) (text_of_lines others)
    ∙ ap (λ t. first ++ t) (sym (lines_together some others)))

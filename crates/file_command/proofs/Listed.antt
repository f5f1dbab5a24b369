-- Lines of numbers so far, and what is left.
use Rattle.std.proofs.Common.{◌≡◌, ℕ, List, [], ◌∷◌, ◌++◌, append-nil, append_assoc, ap, ap₂, codes, map, refl, sym, ◌∙◌}
use Rattle.std.specs.List.{zip}
use Rattle.cert_text.specs.Text.{ended, text_of_lines, variable_line}
use Rattle.cert_text.specs.Text.{numbers_text as each_text}
use Rattle.file_command.specs.Numbers.{numbers_text}
use Rattle.ratio_core.specs.Rational.{Rational}
use Rattle.ratio_core.specs.Text.{text_of}
use Rattle.user_model.specs.declared.group.GroupVar.{GroupVar}

module _ (beginning : List ℕ) where
  -- a line more
  pub numbers_more : (left others : List GroupVar) (numbers rest : List Rational) (v : GroupVar)
      (q : Rational) (text new whole : List ℕ)
      → text ++ numbers_text beginning left numbers ≡ whole → left ≡ v ∷ others
      → numbers ≡ q ∷ rest → new ≡ text ++ ended (variable_line beginning (v, q))
      → new ++ numbers_text beginning others rest ≡ whole
  numbers_more left others numbers rest v q text new whole h l n e =
      ap (λ t. t ++ numbers_text beginning others rest) e
      ∙ append_assoc text (ended (variable_line beginning (v, q)))
      (numbers_text beginning others rest)
      ∙ sym (ap₂ (λ vs qs. text ++ numbers_text beginning vs qs) l n) ∙ h

  -- nothing is left
  numbers_all : (left : List GroupVar) (numbers : List Rational) (text whole : List ℕ)
      → text ++ numbers_text beginning left numbers ≡ whole → zip left numbers ≡ []
      → text ≡ whole
  numbers_all left numbers text whole h e =
      sym (append-nil text)
      ∙ sym (ap (λ es. text ++ text_of_lines (map (variable_line beginning) es)) e) ∙ h

  pub no_variables : (left : List GroupVar) (numbers : List Rational) (text whole : List ℕ)
      → text ++ numbers_text beginning left numbers ≡ whole → left ≡ [] → text ≡ whole
  no_variables left numbers text whole h e =
      numbers_all left numbers text whole h (ap (λ vs. zip vs numbers) e)

  pub no_numbers : (left : List GroupVar) (numbers : List Rational) (text whole : List ℕ)
      → text ++ numbers_text beginning left numbers ≡ whole → numbers ≡ [] → text ≡ whole
  no_numbers left numbers text whole h e =
      numbers_all left numbers text whole h (ap (zip left) e ∙ none left)
    where
      none : (vs : List GroupVar) → zip {K = GroupVar} {X = Rational} vs [] ≡ []
      none [] = refl
      none (v ∷ vs) = refl

-- ---- numbers, each after a space

-- a number more
pub each_more : (left others : List Rational) (q : Rational) (text new whole : List ℕ)
    → text ++ each_text left ≡ whole → left ≡ q ∷ others
    → new ≡ (text ++ codes " ") ++ text_of q → new ++ each_text others ≡ whole
each_more left others q text new whole h is e =
    ap (λ t. t ++ each_text others) (e ∙ append_assoc text (codes " ") (text_of q))
    ∙ append_assoc text (codes " " ++ text_of q) (each_text others)
    ∙ sym (ap (λ qs. text ++ each_text qs) is) ∙ h

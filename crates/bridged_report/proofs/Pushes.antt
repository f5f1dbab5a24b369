-- Texts that are pushed one by one.
use Rattle.std.proofs.Common.{◌≡◌, ℕ, Bool, true, false, cond, List, [], ◌∷◌, ◌++◌, flat_map, map, refl, sym, ap, ◌∙◌, append_assoc, arith, ◌↔◌}
use Rattle.std.specs.Prelude.{codes}
use Rattle.std.proofs.lemmas.List.{append-nil}
use Rattle.std.proofs.lemmas.Fmt.{decimal_digit}
use Rattle.std.proofs.lemmas.Grind.{flat_map-append}
use Rattle.ratio_core.specs.Rational.{Rational, zero_ℚ, whole_ℚ, rational_eq}
use Rattle.ratio_core.specs.RationalLaws.{rational_eq_Decides}
use Rattle.ratio_core.specs.Text.{text_of, denominator_text}
use Rattle.aff_core.specs.Address.{Address}
use Rattle.aff_core.specs.Function.{Function, terms_of}
use Rattle.report_core.specs.Words.{spaced}
use Rattle.user_model.specs.Model.{ModelValue}
use Rattle.bridged_report.specs.Functions.{constant_texts, term_text, sum_text, function_text}

module _ {X : Type 0} (f : X → List ℕ) where
  -- one more was pushed, and the rest is left
  pub pushed_more : (line new : List ℕ) {all : List ℕ} {left : List X} (rest : List X) (x : X)
      → line ++ flat_map f left ≡ all → left ≡ x ∷ rest → new ≡ line ++ f x
      → new ++ flat_map f rest ≡ all
  pushed_more line new rest x h l n =
      ap (λ t. t ++ flat_map f rest) n ∙ append_assoc line (f x) (flat_map f rest)
      ∙ ap (λ xs. line ++ flat_map f xs) (sym l) ∙ h

  -- nothing is left
  pub pushed_all : (line : List ℕ) {all : List ℕ} {left : List X} → line ++ flat_map f left ≡ all
      → left ≡ [] → line ≡ all
  pushed_all line h l = sym (append-nil line) ∙ ap (λ xs. line ++ flat_map f xs) (sym l) ∙ h

-- a text after another
pub pushed_after : (line : List ℕ) {mid : List ℕ} (first text : List ℕ) → mid ≡ line ++ first
    → mid ++ text ≡ line ++ (first ++ text)
pushed_after line first text e = ap (λ m. m ++ text) e ∙ append_assoc line first text

-- ---- the constant

pub constant_texts_zero : (q : Rational) → q ≡ zero_ℚ → constant_texts q ≡ []
constant_texts_zero q e = ap (λ b. cond b [] (text_of q ∷ [])) ((rational_eq_Decides q zero_ℚ).1 e)

pub constant_texts_other : (q : Rational) (zero : Bool) → zero ≡ false
    → (zero ≡ true ↔ (q ≡ zero_ℚ)) → constant_texts q ≡ text_of q ∷ []
constant_texts_other q zero other h = unequal (rational_eq q zero_ℚ) refl
  where
    unequal : (b : Bool) → rational_eq q zero_ℚ ≡ b → cond b [] (text_of q ∷ []) ≡ text_of q ∷ []
    unequal true e = absurd (cc (h.1 ((rational_eq_Decides q zero_ℚ).0 e)))
    unequal false e = refl

pub pushed_constant : (line : List ℕ) {mid : List ℕ} (q : Rational) → mid ≡ line ++ 32 ∷ []
    → constant_texts q ≡ text_of q ∷ [] → mid ++ text_of q
    ≡ line ++ flat_map spaced (constant_texts q)
pushed_constant line q e h =
    pushed_after line (32 ∷ []) (text_of q) e
    ∙ ap (λ t. line ++ t) (sym (append-nil (32 ∷ text_of q)))
    ∙ ap (λ ts. line ++ flat_map spaced ts) (sym h)

-- ---- a function

zero_text : text_of zero_ℚ ≡ codes "0"
unfolding text_of zero_ℚ whole_ℚ denominator_text
zero_text = ap (λ d. d ++ []) (decimal_digit 0 (omega arith))

-- the constant alone
pub function_text_alone : (model : ModelValue) (f : Function) → terms_of f ≡ []
    → function_text model f ≡ text_of f.constant
unfolding function_text
function_text_alone model f e =
    ap (λ ts. sum_text (map (term_text model) ts ++ constant_texts f.constant)) e
    ∙ alone f.constant (rational_eq f.constant zero_ℚ) refl
  where
    alone : (q : Rational) (b : Bool) → rational_eq q zero_ℚ ≡ b
        → sum_text (cond b [] (text_of q ∷ [])) ≡ text_of q
    alone q true h = sym (ap text_of ((rational_eq_Decides q zero_ℚ).0 h) ∙ zero_text)
    alone q false h = append-nil (text_of q)

-- a first term, the others and the constant
pub function_text_parts : (model : ModelValue) (f : Function) (t : Address × Rational)
    (ts : List (Address × Rational)) → terms_of f ≡ t ∷ ts
    → function_text model f ≡ term_text model t ++ (flat_map spaced
    (map (term_text model) ts) ++ flat_map spaced (constant_texts f.constant))
unfolding function_text
function_text_parts model f t ts e =
    ap (λ ts. sum_text (map (term_text model) ts ++ constant_texts f.constant)) e
    ∙ ap (λ r. term_text model t ++ r) (flat_map-append spaced (map (term_text model) ts)
    (constant_texts f.constant))

pub pushed_function : (model : ModelValue) (f : Function) (t : Address × Rational)
    (ts : List (Address × Rational)) (q : Rational) (line : List ℕ) {one more all : List ℕ}
    → terms_of f ≡ t ∷ ts → q ≡ f.constant → one ≡ line ++ term_text model t
    → more ≡ one ++ flat_map spaced (map (term_text model) ts)
    → all ≡ more ++ flat_map spaced (constant_texts q) → all ≡ line ++ function_text model f
pushed_function model f t ts q line {more = more} terms constant first others last =
    let further = flat_map spaced (map (term_text model) ts) in
    let end = flat_map spaced (constant_texts f.constant) in
    last
    ∙ ap (λ q. more ++ flat_map spaced (constant_texts q)) constant
    ∙ ap (λ l. l ++ end) (others ∙ ap (λ l. l ++ further) first)
    ∙ append_assoc (line ++ term_text model t) further end
    ∙ append_assoc line (term_text model t) (further ++ end)
    ∙ ap (λ text. line ++ text) (sym (function_text_parts model f t ts terms))

-- Lists that are appended to, one item after another.
use Rattle.std.specs.Prelude.{◌≡◌, List, [], ◌∷◌, ◌++◌, flat_map}
use Rattle.std.proofs.Common.{sym, ◌∙◌, ap}
use Rattle.std.proofs.lemmas.List.{append-nil, append_assoc}

module _ {X Y : Type 0} (f : X → List Y) where
  pub flat_none : (old new : List Y) (left all : List X) → new ≡ old → left ≡ all
      → new ++ flat_map f left ≡ old ++ flat_map f all
  flat_none old new left all e n = ap (λ ys. ys ++ flat_map f left) e ∙ ap (λ xs. old ++ flat_map f xs) n

  pub flat_more : (made new : List Y) (left rest : List X) (x : X) (own whole : List Y)
      → made ++ flat_map f left ≡ whole → left ≡ x ∷ rest → new ≡ made ++ own → own ≡ f x
      → new ++ flat_map f rest ≡ whole
  flat_more made new left rest x own whole so next is own_is =
      ap (λ ys. ys ++ flat_map f rest) is
      ∙ append_assoc made own (flat_map f rest)
      ∙ ap (λ ys. made ++ (ys ++ flat_map f rest)) own_is
      ∙ ap (λ xs. made ++ flat_map f xs) (sym next) ∙ so

  pub flat_all : (made : List Y) (left : List X) (whole : List Y)
      → made ++ flat_map f left ≡ whole → left ≡ [] → made ≡ whole
  flat_all made left whole so e =
      sym (append-nil made) ∙ ap (λ xs. made ++ flat_map f xs) (sym e) ∙ so

-- the same of any lists that are left
pub rest_more : {Y : Type 0} (made new own later left whole : List Y) → made ++ left ≡ whole
    → left ≡ own ++ later → new ≡ made ++ own → new ++ later ≡ whole
rest_more made new own later left whole so next is =
    ap (λ ys. ys ++ later) is ∙ append_assoc made own later
    ∙ ap (λ ys. made ++ ys) (sym next) ∙ so

pub rest_all : {Y : Type 0} (made left whole : List Y) → made ++ left ≡ whole → left ≡ []
    → made ≡ whole
rest_all made left whole so e = sym (append-nil made) ∙ ap (λ ys. made ++ ys) (sym e) ∙ so

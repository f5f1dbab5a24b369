-- Loops that push what an item gives, where it gives something: what was pushed, and what the items
-- that are left give, is all.
use Rattle.std.specs.Prelude.{◌≡◌, List, [], ◌∷◌, ◌++◌, Option, Some, None, filter_map, map, option_to_list, refl}
use Rattle.std.specs.List.{cons_option}
use Rattle.std.specs.Option.{option_map}
use Rattle.std.proofs.Common.{sym, ◌∙◌, ap}
use Rattle.std.proofs.lemmas.List.{append_assoc, map-append}

given : {Y : Type 0} (o : Option Y) (ys : List Y) → option_to_list o ++ ys ≡ cons_option o ys
given None ys = refl
given (Some y) ys = refl

mapped : {Y Z : Type 0} (g : Z → Y) (o : Option Z)
    → map g (option_to_list o) ≡ option_to_list (option_map g o)
mapped g None = refl
mapped g (Some z) = refl

module _ {X Y : Type 0} (f : X → Option Y) (left rest : List X) (x : X) (next : left ≡ x ∷ rest)
    (all : List Y) where
  pub given_more : (old new : List Y) (o : Option Y) → old ++ filter_map f left ≡ all → o ≡ f x
      → new ≡ old ++ option_to_list o → new ++ filter_map f rest ≡ all
  given_more old new o so_far item pushed =
      ap (λ ys. ys ++ filter_map f rest) (pushed ∙ ap (λ p. old ++ option_to_list p) item)
      ∙ append_assoc old (option_to_list (f x)) (filter_map f rest)
      ∙ ap (λ ys. old ++ ys) (given (f x) (filter_map f rest))
      ∙ ap (λ xs. old ++ filter_map f xs) (sym next) ∙ so_far

  -- the same, where what is pushed is borrowed
  pub borrowed_more : {Z : Type 0} (g : Z → Y) (old new : List Z) (o : Option Z)
      → map g old ++ filter_map f left ≡ all → option_map g o ≡ f x
      → new ≡ old ++ option_to_list o → map g new ++ filter_map f rest ≡ all
  borrowed_more g old new o so_far item pushed =
      given_more (map g old) (map g new) (option_map g o) so_far item
      (ap (map g) pushed ∙ map-append g old (option_to_list o)
      ∙ ap (λ ys. map g old ++ ys) (mapped g o))

-- What is left of a list that is gone through.
use Rattle.std.specs.Prelude.{◌≡◌, ℕ, zero, suc, ◌<◌, List, [], ◌∷◌, ◌++◌, map, take, length, refl}
use Rattle.std.proofs.Common.{arith, get_or, drop, sym, ap, ◌∙◌}
use Rattle.std.proofs.Math.ListN.{drop_of_length-le}
use Rattle.std.proofs.lemmas.List.{append-nil, get_or-map, take_all}

-- the item at a place
pub some_item : {X : Type 0} (xs : List X) (i : ℕ) → i < length xs
    → (x : X) × (x ≡ get_or xs i x)
some_item [] i lt = absurd (omega arith)
some_item (x ∷ xs) zero lt = (x, refl)
some_item (x ∷ xs) (suc i) lt = some_item xs i (omega arith)

-- what is made of the item at a place stands at the place
pub made_there : {X Y : Type 0} (f : X → Y) (xs : List X) (ys : List Y) (i : ℕ) (x : X) (y : Y)
    → map f xs ≡ ys → x ≡ get_or xs i x → i < length xs → y ≡ get_or ys i y → y ≡ f x
made_there f xs ys i x y made x_is lt y_is =
    y_is ∙ ap (λ l. get_or l i y) (sym made) ∙ get_or-map f xs i x y lt ∙ ap f (sym x_is)

-- a slice written back over all of a vector
pub written_back : {X : Type 0} (n : ℕ) (items new : List X) → n ≡ length items
    → length new ≡ length items → take n (new ++ drop (length new) items) ≡ new
written_back n items new n_is same =
    ap (λ l. take n (new ++ l)) (drop_of_length-le items (omega (arith, same)))
    ∙ ap (take n) (append-nil new) ∙ take_all n new (omega (arith, n_is, same))

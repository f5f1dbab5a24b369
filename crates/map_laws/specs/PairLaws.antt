-- Laws of lists whose items are apart two by two.
use Rattle.std.specs.Prelude.{◌≡◌, ◌≢◌, ◌⊎◌, suc, List, [], ◌∷◌, ◌++◌, Option, Some, None, IfSome, All, AllPairs, map, slice_index_or}
use Rattle.std.specs.List.{filter_map, cons_option}
use Rattle.std.proofs.Common.{arith, sym, inl, inr, ◌∙◌}
use Rattle.std.proofs.lemmas.List.Elements.{All-nil, All-cons, All-head, All-tail, All-append}
use Rattle.std.proofs.lemmas.List.Kept.{AllPairs-cons}
use Rattle.map_laws.specs.EachLaws.{All-filter_map, all_first, all_second}

module _ {X : Type 0} (R : X → X → Type 0) where
  pub AllPairs-nil : AllPairs R []
  AllPairs-nil = λ i j d lt end. absurd (omega arith)

  pub AllPairs-head : (x : X) (xs : List X) → AllPairs R (x ∷ xs) → All (R x) xs
  AllPairs-head x xs h = λ k d end. h 0 (suc k) d (omega arith) (omega arith)

  pub AllPairs-tail : (x : X) (xs : List X) → AllPairs R (x ∷ xs) → AllPairs R xs
  AllPairs-tail x xs h = λ i j d lt end. h (suc i) (suc j) d (omega arith) (omega arith)

  pub AllPairs-append : (xs ys : List X) → AllPairs R xs → AllPairs R ys
      → All (λ x. All (R x) ys) xs → AllPairs R (xs ++ ys)
  AllPairs-append [] ys h k across = k
  AllPairs-append (x ∷ xs) ys h k across =
      AllPairs-cons R x (xs
      ++ ys) (All-append (R x) xs ys (AllPairs-head x xs h)
      (All-head (λ x. All (R x) ys) x xs across)) (AllPairs-append xs ys (AllPairs-tail x xs h)
      k (All-tail (λ x. All (R x) ys) x xs across))

  -- of two lists one after the other: each alone, and the items of the one with those of the other
  pub AllPairs-first : (xs ys : List X) → AllPairs R (xs ++ ys) → AllPairs R xs
  AllPairs-first [] ys h = AllPairs-nil
  AllPairs-first (x ∷ xs) ys h =
      AllPairs-cons R x xs (all_first (R x) xs ys (AllPairs-head x (xs ++ ys) h))
      (AllPairs-first xs ys (AllPairs-tail x (xs ++ ys) h))

  pub AllPairs-second : (xs ys : List X) → AllPairs R (xs ++ ys) → AllPairs R ys
  AllPairs-second [] ys h = h
  AllPairs-second (x ∷ xs) ys h = AllPairs-second xs ys (AllPairs-tail x (xs ++ ys) h)

  pub AllPairs-across : (xs ys : List X) → AllPairs R (xs ++ ys)
      → All {X = X} (λ y. All {X = X} (λ x. R x y) xs) ys
  AllPairs-across [] ys h = λ k d within. All-nil (λ x. R x (slice_index_or ys k d))
  AllPairs-across (x ∷ xs) ys h = λ k d within.
      All-cons (λ z. R z (slice_index_or ys k d)) x xs
      (all_second (R x) xs ys (AllPairs-head x (xs ++ ys) h) k d within)
      (AllPairs-across xs ys (AllPairs-tail x (xs ++ ys) h) k d within)

  -- the items before one, and those after it
  pub AllPairs-before : (xs : List X) (y : X) (ys : List X) → AllPairs R (xs ++ (y ∷ ys))
      → All (λ x. R x y) xs
  AllPairs-before xs y ys h =
      All-head (λ z. All (λ x. R x z) xs) y ys (AllPairs-across xs (y ∷ ys) h)

  pub AllPairs-after : (xs : List X) (y : X) (ys : List X) → AllPairs R (xs ++ (y ∷ ys))
      → All (R y) ys
  AllPairs-after xs y ys h = AllPairs-head y ys (AllPairs-second xs (y ∷ ys) h)

  -- another item in an item's place
  pub AllPairs-replaced : (xs : List X) (y z : X) (ys : List X) → AllPairs R (xs ++ (y ∷ ys))
      → All (λ x. R x z) xs → All (R z) ys → AllPairs R (xs ++ (z ∷ ys))
  AllPairs-replaced [] y z ys h before after = AllPairs-cons R z ys after (AllPairs-tail y ys h)
  AllPairs-replaced (x ∷ xs) y z ys h before after =
      let first = AllPairs-head x (xs ++ (y ∷ ys)) h in
      let later = All-tail (R x) y ys (all_second (R x) xs (y ∷ ys) first) in
      AllPairs-cons R x (xs
      ++ (z ∷ ys)) (All-append (R x) xs (z ∷ ys) (all_first (R x) xs (y ∷ ys) first)
      (All-cons (R x) z ys (All-head (λ x. R x z) x xs before) later))
      (AllPairs-replaced xs y z ys (AllPairs-tail x (xs ++ (y ∷ ys)) h)
      (All-tail (λ x. R x z) x xs before) after)

  -- items made of items so that what was apart stays apart
  pub AllPairs-map : {Y : Type 0} (f : Y → X) (S : Y → Y → Type 0) (xs : List Y)
      → ((x y : Y) → S x y → R (f x) (f y)) → AllPairs S xs → AllPairs R (map f xs)
  AllPairs-map f S [] each h = AllPairs-nil
  AllPairs-map {Y = Y} f S (x ∷ xs) each h = AllPairs-cons R (f x) (map f xs)
      (apart xs (λ k d end. h 0 (suc k) d (omega arith) (omega arith)))
      (AllPairs-map f S xs each (λ i j d lt end. h (suc i) (suc j) d (omega arith) (omega arith)))
    where
      apart : (ys : List Y) → All (S x) ys → All (R (f x)) (map f ys)
      apart [] k = All-nil (R (f x))
      apart (y ∷ ys) k = All-cons (R (f x)) (f y) (map f ys) (each x y (All-head (S x) y ys k))
          (apart ys (All-tail (S x) y ys k))

module _ {X K : Type 0} (name_of : X → K) where
  -- names stay distinct where an edit of each item keeps its name, or drops it
  pub distinct-filter_map : (f : X → Option X) (xs : List X)
      → ((x : X) → IfSome (f x) (λ y. name_of y ≡ name_of x))
      → AllPairs (λ x y. name_of x ≢ name_of y) xs
      → AllPairs (λ x y. name_of x ≢ name_of y) (filter_map f xs)
  distinct-filter_map f [] keeps h = AllPairs-nil (λ x y. name_of x ≢ name_of y)
  distinct-filter_map f (x ∷ xs) keeps h = first (f x) (keeps x)
      (distinct-filter_map f xs keeps (AllPairs-tail (λ x y. name_of x ≢ name_of y) x xs h))
    where
      others : All (λ y. name_of x ≢ name_of y) (filter_map f xs)
      others = All-filter_map (λ y. name_of x ≢ name_of y) (λ y. name_of x ≢ name_of y) f xs
          (λ y ne. other y ne (f y) (keeps y)) (AllPairs-head (λ x y. name_of x ≢ name_of y) x xs h)
        where
          other : (y : X) → name_of x ≢ name_of y → (o : Option X)
              → IfSome o (λ z. name_of z ≡ name_of y) → IfSome o (λ z. name_of x ≢ name_of z)
          other y ne None at = tt
          other y ne (Some z) at = λ same. ne (same ∙ at)

      first : (o : Option X) → IfSome o (λ y. name_of y ≡ name_of x)
          → AllPairs (λ x y. name_of x ≢ name_of y) (filter_map f xs)
          → AllPairs (λ x y. name_of x ≢ name_of y) (cons_option o (filter_map f xs))
      first None at rest = rest
      first (Some z) at rest =
          AllPairs-cons (λ x y. name_of x ≢ name_of y) z (filter_map f xs)
          (λ k d end same. others k d end (sym at ∙ same)) rest

  -- another item in an item's place, with its name or with a name that no item has
  pub distinct-replaced : (xs : List X) (y z : X) (ys : List X)
      → (name_of z ≡ name_of y) ⊎ All (λ x. name_of x ≢ name_of z) (xs ++ (y ∷ ys))
      → AllPairs (λ x y. name_of x ≢ name_of y) (xs ++ (y ∷ ys))
      → AllPairs (λ x y. name_of x ≢ name_of y) (xs ++ (z ∷ ys))
  distinct-replaced xs y z ys named h =
      elim named [
        | inl e ↦
            AllPairs-replaced (λ x y. name_of x ≢ name_of y) xs y z ys h
            (λ k d end same. AllPairs-before (λ x y. name_of x ≢ name_of y) xs y ys h k d end
            (same ∙ e)) (λ k d end same. AllPairs-after (λ x y. name_of x ≢ name_of y) xs y ys h
            k d end (sym e ∙ same))
        | inr free ↦
            AllPairs-replaced (λ x y. name_of x ≢ name_of y) xs y z ys h
            (all_first (λ x. name_of x ≢ name_of z) xs (y ∷ ys) free)
            (λ k d end same. All-tail (λ x. name_of x ≢ name_of z) y ys
            (all_second (λ x. name_of x ≢ name_of z) xs (y ∷ ys) free) k d end (sym same))
      ]

-- What holds of each of a list, by parts.
use Rattle.std.specs.Prelude.{◌≡◌, ◌+◌, ◌<◌, ◌≤◌, ℕ, zero, suc, Bool, true, List, [], ◌∷◌, ◌++◌, All, Contains, IfSome, Option, Some, None, length, map, slice_get, refl}
use Rattle.std.proofs.Common.{ap, ap₂, arith, subst, sym, ◌∙◌}
use Rattle.std.specs.List.{cons_option, filter_map, list_all, range_with_len, zip}
use Rattle.std.proofs.lemmas.Bool.{and_parts}
use Rattle.std.proofs.lemmas.Option.{none-some, same_Some}
use Rattle.std.proofs.lemmas.List.Elements.{All-cons, All-head, All-nil, All-tail}

pub all_both : {A : Type 0} (P Q : A → Type 0) (xs : List A) → All P xs → All Q xs
    → All (λ x. P x × Q x) xs
all_both P Q [] p q = All-nil (λ x. P x × Q x)
all_both P Q (x ∷ xs) p q =
    All-cons (λ y. P y × Q y) x xs (All-head P x xs p, All-head Q x xs q)
    (all_both P Q xs (All-tail P x xs p) (All-tail Q x xs q))

pub all_first : {A : Type 0} (P : A → Type 0) (xs ys : List A) → All P (xs ++ ys) → All P xs
all_first P [] ys h = All-nil P
all_first P (x ∷ xs) ys h =
    All-cons P x xs (All-head P x (xs ++ ys) h) (all_first P xs ys (All-tail P x (xs ++ ys) h))

pub all_second : {A : Type 0} (P : A → Type 0) (xs ys : List A) → All P (xs ++ ys) → All P ys
all_second P [] ys h = h
all_second P (x ∷ xs) ys h = all_second P xs ys (All-tail P x (xs ++ ys) h)

pub all_from_map : {A B : Type 0} (P : B → Type 0) (f : A → B) (xs : List A) → All P (map f xs)
    → All (λ x. P (f x)) xs
all_from_map P f [] h = All-nil (λ x. P (f x))
all_from_map P f (x ∷ xs) h =
    All-cons (λ y. P (f y)) x xs (All-head P (f x) (map f xs) h)
    (all_from_map P f xs (All-tail P (f x) (map f xs) h))

module _ {X : Type 0} (P : X → Type 0) where
  -- what holds of every item that is kept, as f makes it
  pub All-filter_map : (Q : X → Type 0) (f : X → Option X) (xs : List X)
      → ((x : X) → Q x → IfSome (f x) P) → All Q xs → All P (filter_map f xs)
  All-filter_map Q f [] each h = All-nil P
  All-filter_map Q f (x ∷ xs) each h =
      first (f x) (each x (All-head Q x xs h)) (All-filter_map Q f xs each (All-tail Q x xs h))
    where
      first : (o : Option X) → IfSome o P → All P (filter_map f xs)
          → All P (cons_option o (filter_map f xs))
      first None at rest = rest
      first (Some y) at rest = All-cons P y (filter_map f xs) at rest

-- of a zip, what holds of each second
pub all_seconds : {A B : Type 0} (P : B → Type 0) (xs : List A) (ys : List B) → All P ys
    → All (λ p. P p.1) (zip xs ys)
all_seconds P [] ys h = All-nil (λ p. P p.1)
all_seconds P (x ∷ xs) [] h = All-nil (λ p. P p.1)
all_seconds P (x ∷ xs) (y ∷ ys) h =
    All-cons (λ p. P p.1) (x, y) (zip xs ys) (All-head P y ys h)
    (all_seconds P xs ys (All-tail P y ys h))

pub all_at : {A : Type 0} (p : A → Bool) (xs : List A) (n : ℕ) (x : A) → list_all p xs ≡ true
    → slice_get xs n ≡ Some x → p x ≡ true
all_at p [] n x h e = absurd (none-some x e)
all_at p (y ∷ xs) zero x h e =
    ap p (sym (same_Some y x e)) ∙ (and_parts (p y) (list_all p xs) h).0
all_at p (y ∷ xs) (suc n) x h e = all_at p xs n x (and_parts (p y) (list_all p xs) h).1 e

pub contains_here : {A : Type 0} (x : A) (xs : List A) → Contains (x ∷ xs) x
contains_here x xs = (0, omega arith, refl)

pub contains_later : {A : Type 0} (y x : A) (xs : List A) → Contains xs x → Contains (y ∷ xs) x
contains_later y x xs c = (suc c.0, omega (arith, c.1), c.2)

-- ---- equal lists

pub cons_head : {B : Type 0} (a b : B) (xs ys : List B) → a ∷ xs ≡ b ∷ ys → a ≡ b
cons_head a b xs ys e = cc

pub cons_tail : {B : Type 0} (a b : B) (xs ys : List B) → a ∷ xs ≡ b ∷ ys → xs ≡ ys
cons_tail a b xs ys e = cc

pub map_same_on : {A B : Type 0} (f g : A → B) (xs : List A) → All (λ x. f x ≡ g x) xs
    → map f xs ≡ map g xs
map_same_on f g [] h = refl
map_same_on f g (x ∷ xs) h =
    ap₂ ◌∷◌ (All-head (λ y. f y ≡ g y) x xs h)
    (map_same_on f g xs (All-tail (λ y. f y ≡ g y) x xs h))

pub zip_of_maps : {A B C D : Type 0} (f : A → C) (g : B → D) (xs : List A) (ys : List B)
    → zip (map f xs) (map g ys) ≡ map (λ p. (f p.0, g p.1)) (zip xs ys)
zip_of_maps f g [] ys = refl
zip_of_maps f g (x ∷ xs) [] = refl
zip_of_maps f g (x ∷ xs) (y ∷ ys) = ap (λ ps. (f x, g y) ∷ ps) (zip_of_maps f g xs ys)

-- ---- elements that stand at the numbers from a first one on

-- the element is what stands at a number of these
pub record StandsFrom {A B : Type 0} (f : A → B) (g : ℕ → B) (low high : ℕ) (x : A) : Type 0 where
  pub place : ℕ
  pub from : low ≤ place
  pub to : place < high
  pub is : f x ≡ g place

module _ {A B : Type 0} (f : A → B) (g : ℕ → B) where
  pub stand_from : (xs : List A) (low high : ℕ) → low + length xs ≤ high
      → map f xs ≡ map g (range_with_len low (length xs)) → All (StandsFrom f g low high) xs
  stand_from [] low high h e = All-nil (StandsFrom f g low high)
  stand_from (x ∷ xs) low high h e =
      All-cons (StandsFrom f g low high) x xs
      (record {
        place = low;
        from = omega arith;
        to = omega (arith, h);
        is = cons_head (f x) (g low) (map f xs) (map g (range_with_len (low + 1) (length xs))) e;
      })
      (lowered xs (stand_from xs (low + 1) high (omega (arith, h))
      (cons_tail (f x) (g low) (map f xs) (map g (range_with_len (low + 1) (length xs))) e)))
    where
      lowered : (ys : List A) → All (StandsFrom f g (low + 1) high) ys
          → All (StandsFrom f g low high) ys
      lowered [] k = All-nil (StandsFrom f g low high)
      lowered (y ∷ ys) k =
          let first = All-head (StandsFrom f g (low + 1) high) y ys k in
          All-cons (StandsFrom f g low high) y ys
          (record {
            place = first.place;
            from = omega (arith, first.from);
            to = first.to;
            is = first.is;
          })
          (lowered ys (All-tail (StandsFrom f g (low + 1) high) y ys k))

  -- of two lists one after the other
  pub stand_first : (xs ys : List A) (low : ℕ)
      → map f (xs ++ ys) ≡ map g (range_with_len low (length (xs ++ ys)))
      → All (StandsFrom f g low (low + length xs)) xs
  stand_first [] ys low e = All-nil (StandsFrom f g low (low + 0))
  stand_first (x ∷ xs) ys low e =
      All-cons (StandsFrom f g low (low + length (x ∷ xs))) x xs
      (record {
        place = low;
        from = omega arith;
        to = omega arith;
        is = cons_head (f x) (g low) (map f (xs ++ ys))
            (map g (range_with_len (low + 1) (length (xs ++ ys)))) e;
      })
      (lowered xs (stand_first xs ys (low
      + 1) (cons_tail (f x) (g low) (map f (xs ++ ys))
      (map g (range_with_len (low + 1) (length (xs ++ ys)))) e)))
    where
      lowered : (zs : List A) → All (StandsFrom f g (low + 1) ((low + 1) + length xs)) zs
          → All (StandsFrom f g low (low + length (x ∷ xs))) zs
      lowered [] k = All-nil (StandsFrom f g low (low + length (x ∷ xs)))
      lowered (z ∷ zs) k =
          let first = All-head (StandsFrom f g (low + 1) ((low + 1) + length xs)) z zs k in
          All-cons (StandsFrom f g low (low + length (x ∷ xs))) z zs
          (record {
            place = first.place;
            from = omega (arith, first.from);
            to = omega (arith, first.to);
            is = first.is;
          })
          (lowered zs (All-tail (StandsFrom f g (low + 1) ((low + 1) + length xs)) z zs k))

  pub stand_second : (xs ys : List A) (low : ℕ)
      → map f (xs ++ ys) ≡ map g (range_with_len low (length (xs ++ ys)))
      → All (StandsFrom f g (low + length xs) (low + length (xs ++ ys))) ys
  stand_second [] ys low e =
      let none : low ≡ low + 0 = omega arith in
      subst (λ n. All (StandsFrom f g n (low + length ys)) ys) none
      (stand_from ys low (low + length ys) (omega arith) e)
  stand_second (x ∷ xs) ys low e =
      subst (λ n. All (StandsFrom f g n (low + length (x ∷ (xs ++ ys)))) ys) first
      (subst (λ n. All (StandsFrom f g ((low + 1) + length xs) n) ys) second
      (stand_second xs ys (low
      + 1) (cons_tail (f x) (g low) (map f (xs ++ ys))
      (map g (range_with_len (low + 1) (length (xs ++ ys)))) e)))
    where
      first : low + 1 + length xs ≡ low + length (x ∷ xs)
      first = omega arith

      second : low + 1 + length (xs ++ ys) ≡ low + length (x ∷ (xs ++ ys))
      second = omega arith

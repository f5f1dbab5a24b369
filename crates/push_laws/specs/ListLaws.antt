-- Lists of which some elements are kept.
use Rattle.std.specs.Prelude.{◌≡◌, ◌⊎◌, ◌++◌, zero, suc, Bool, true, false, cond, List, [], ◌∷◌, Contains, filter, flat_map, map, refl}
use Rattle.std.proofs.Common.{arith, inl, inr, ap, ap₂, subst, sym, ◌∙◌}
use Rattle.std.proofs.lemmas.List.Elements.{Contains-append_cases, Contains-append_left, Contains-append_right}
use Rattle.map_laws.specs.EachLaws.{contains_here, contains_later}

pub filter_mapped : {A B : Type 0} (p : B → Bool) (f : A → B) (xs : List A)
    → filter p (map f xs) ≡ map f (filter (λ x. p (f x)) xs)
filter_mapped p f [] = refl
filter_mapped p f (x ∷ xs) = by (p (f x)) (filter_mapped p f xs)
  where
    by : (b : Bool) → filter p (map f xs) ≡ map f (filter (λ x. p (f x)) xs)
        → cond b (f x ∷ filter p (map f xs)) (filter p (map f xs))
        ≡ map f (cond b (x ∷ filter (λ x. p (f x)) xs) (filter (λ x. p (f x)) xs))
    by true e = ap (λ l. f x ∷ l) e
    by false e = e

-- lists of lists of which those that are left out are empty
pub flat_kept : {A B : Type 0} (f : A → List B) (p : A → Bool) (xs : List A)
    → ((x : A) → p x ≡ false → f x ≡ []) → flat_map f xs ≡ flat_map f (filter p xs)
flat_kept f p [] h = refl
flat_kept f p (x ∷ xs) h = by (p x) refl (flat_kept f p xs h)
  where
    by : (b : Bool) → p x ≡ b → flat_map f xs ≡ flat_map f (filter p xs)
        → f x ++ flat_map f xs ≡ flat_map f (cond b (x ∷ filter p xs) (filter p xs))
    by true e later = ap (λ l. f x ++ l) later
    by false e later = ap₂ ◌++◌ (h x e) later

module _ {A B : Type 0} (f : A → List B) where
  pub in_some : (xs : List A) (v : B) → Contains (flat_map f xs) v
      → (x : A) × Contains xs x × Contains (f x) v
  in_some [] v c = absurd (omega (arith, c.1))
  in_some (x ∷ xs) v c = by (Contains-append_cases (f x) (flat_map f xs) v c) (in_some xs v)
    where
      by : Contains (f x) v ⊎ Contains (flat_map f xs) v
          → (Contains (flat_map f xs) v → (y : A) × Contains xs y × Contains (f y) v)
          → (y : A) × Contains (x ∷ xs) y × Contains (f y) v
      by (inl k) later = (x, contains_here x xs, k)
      by (inr k) later =
          let r = later k in
          (r.0, contains_later x r.0 xs r.1, r.2)

  pub in_all : (xs : List A) (x : A) (v : B) → Contains xs x → Contains (f x) v
      → Contains (flat_map f xs) v
  in_all [] x v c k = absurd (omega (arith, c.1))
  in_all (y ∷ xs) x v (zero, inside, is) k =
      Contains-append_left (f y) (flat_map f xs) v (subst (λ z. Contains (f z) v) (sym is) k)
  in_all (y ∷ xs) x v (suc i, inside, is) k =
      Contains-append_right (f y) (flat_map f xs) v
      (in_all xs x v (i, omega (arith, inside), is) k)

-- an element that passes is kept
pub kept_item : {A : Type 0} (p : A → Bool) (xs : List A) (x : A) → Contains xs x → p x ≡ true
    → Contains (filter p xs) x
kept_item p [] x c t = absurd (omega (arith, c.1))
kept_item p (y ∷ xs) x (zero, inside, is) t =
    subst (λ b. Contains (cond b (y ∷ filter p xs) (filter p xs)) x) (sym (ap p is ∙ t))
    (subst (Contains (y ∷ filter p xs)) is (contains_here y (filter p xs)))
kept_item p (y ∷ xs) x (suc i, inside, is) t =
    by (p y) (kept_item p xs x (i, omega (arith, inside), is) t)
  where
    by : (b : Bool) → Contains (filter p xs) x
        → Contains (cond b (y ∷ filter p xs) (filter p xs)) x
    by true c = contains_later y x (filter p xs) c
    by false c = c

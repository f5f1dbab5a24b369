-- The first count of a list that passes its limit.
use Rattle.std.specs.Prelude.{◌≡◌, ℕ, Bool, true, false, nat_lt, List, [], ◌∷◌, ◌++◌, map, Option, Some, None, if◌then◌else◌, refl}
use Rattle.std.proofs.Common.{ap}
use Rattle.user_model.specs.declared.refusal.Refusal.{Refusal}
use Rattle.user_model.specs.declared.refusal.Refusal.TheVariants.{Full}
use Rattle.user_model.specs.Refusals.{first_of, full_at}

abbrev pub first_full : List (ℕ × ℕ) → Option Refusal
first_full counts = first_of (map full_at counts)

later : (b : Bool) (r : Refusal) (rest more : Option Refusal) (P : Option Refusal)
    → (if b then Some r else rest) ≡ None → (rest ≡ None → more ≡ P)
    → (if b then Some r else more) ≡ P
later true r rest more P e h = cc
later false r rest more P e h = h e

-- none of the first passes
pub first_later : (xs ys : List (ℕ × ℕ)) → first_full xs ≡ None
    → first_full (xs ++ ys) ≡ first_full ys
first_later [] ys e = refl
first_later (x ∷ xs) ys e =
    later (nat_lt x.1 x.0) (Full x.0 x.1) (first_full xs) (first_full (xs ++ ys)) (first_full ys) e
    (first_later xs ys)

found : (b : Bool) (r s : Refusal) (rest more : Option Refusal)
    → (if b then Some r else rest) ≡ Some s → (rest ≡ Some s → more ≡ Some s)
    → (if b then Some r else more) ≡ Some s
found true r s rest more e h = e
found false r s rest more e h = h e

-- one of the first passes
pub first_found : (xs ys : List (ℕ × ℕ)) (s : Refusal) → first_full xs ≡ Some s
    → first_full (xs ++ ys) ≡ Some s
first_found [] ys s e = cc
first_found (x ∷ xs) ys s e =
    found (nat_lt x.1 x.0) (Full x.0 x.1) s (first_full xs) (first_full (xs ++ ys)) e
    (first_found xs ys s)

-- a count within its limit, and one above
pub first_within : (n limit : ℕ) (rest : List (ℕ × ℕ)) → nat_lt limit n ≡ false
    → first_full ((n, limit) ∷ rest) ≡ first_full rest
first_within n limit rest e = ap (λ b. if b then Some (Full n limit) else first_full rest) e

pub first_above : (n limit : ℕ) (rest : List (ℕ × ℕ)) → nat_lt limit n ≡ true
    → first_full ((n, limit) ∷ rest) ≡ Some (Full n limit)
first_above n limit rest e = ap (λ b. if b then Some (Full n limit) else first_full rest) e

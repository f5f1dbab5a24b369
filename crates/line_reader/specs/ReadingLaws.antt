-- Bytes that are known, by those before them.
use Rattle.std.proofs.Common.{◌≡◌, ℕ, List, ◌++◌, refl, sym, ap, subst, Option, None, Some, append_assoc, IfSome}
use Rattle.std.specs.Io.KnownBytes.{prepend_known}

-- ---- bytes before known bytes

pub prepend-append : (front more : List ℕ) (known : Option (List ℕ))
    → prepend_known (front ++ more) known ≡ prepend_known front (prepend_known more known)
prepend-append front more None = refl
prepend-append front more (Some bytes) = ap Some (append_assoc front more bytes)

-- ---- what is said of all bytes

-- from what holds of those that come behind the known front
pub told_behind : (Q : List ℕ → Type 0) (all behind : Option (List ℕ)) (front : List ℕ)
    → all ≡ prepend_known front behind → IfSome behind (λ bytes. Q (front ++ bytes)) → IfSome all Q
told_behind Q all None front is h = subst (λ o. IfSome o Q) (sym is) h
told_behind Q all (Some bytes) front is h = subst (λ o. IfSome o Q) (sym is) h

-- always
pub told_always : (Q : List ℕ → Type 0) (known : Option (List ℕ)) → ((bytes : List ℕ) → Q bytes)
    → IfSome known Q
told_always Q None h = tt
told_always Q (Some bytes) h = h bytes

-- from what holds of each
pub told_weaker : (P Q : List ℕ → Type 0) (known : Option (List ℕ))
    → ((bytes : List ℕ) → P bytes → Q bytes) → IfSome known P → IfSome known Q
told_weaker P Q None h p = tt
told_weaker P Q (Some bytes) h p = h bytes p

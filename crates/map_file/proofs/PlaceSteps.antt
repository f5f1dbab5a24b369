-- The places of maps by their names.
use Rattle.std.specs.Prelude.{◌≡◌, ℕ, suc, ◌+◌, ◌<◌, Bool, true, false, List, [], ◌∷◌, ◌++◌, Option, Some, None, IfSome, bytes_eq, cond, length, refl}
use Rattle.std.specs.List.{position_from}
use Rattle.std.proofs.Common.{sym, ◌∙◌, ap, arith, true≢false}
use Rattle.std.proofs.lemmas.Bool.{false_from_ne_true}
use Rattle.std.proofs.lemmas.Slice.Eq.{bytes_eq-Decides}
use Rattle.map_file.specs.declared.map_text.MapText.{MapText}
use Rattle.map_file.specs.Lines.{place_of}

abbrev named : List ℕ → MapText → Bool
named name m = bytes_eq name m.name

zero_more : (n : ℕ) → 0 + n ≡ n
zero_more n = omega arith

more_zero : (n : ℕ) → n ≡ n + 0
more_zero n = omega arith

one_more : (i n : ℕ) → (i + 1) + n ≡ i + suc n
one_more i n = omega arith

no_place : {X : Type 0} (x : X) → ¬ (Some x ≡ None)
no_place x e = cc

-- where a map has no place, one more may have the next
from_more : (name : List ℕ) (i : ℕ) (maps : List MapText) (m : MapText)
    → position_from (named name) i maps ≡ None
    → position_from (named name) i (maps ++ m ∷ [])
    ≡ cond (named name m) (Some (i + length maps)) None
from_more name i [] m none = ap (λ k. cond (named name m) (Some k) None) (more_zero i)
from_more name i (x ∷ maps) m none =
    by (named name x) none (from_more name (i + 1) maps m)
  where
    by : (b : Bool) → cond b (Some i) (position_from (named name) (i + 1) maps) ≡ None
        → (position_from (named name) (i + 1) maps ≡ None
        → position_from (named name) (i + 1) (maps ++ m ∷ [])
        ≡ cond (named name m) (Some ((i + 1) + length maps)) None)
        → cond b (Some i) (position_from (named name) (i + 1) (maps ++ m ∷ []))
        ≡ cond (named name m) (Some (i + suc (length maps))) None
    by true none later = absurd (no_place i none)
    by false none later =
        later none ∙ ap (λ k. cond (named name m) (Some k) None) (one_more i (length maps))

-- where it has one, it keeps it
from_kept : (name : List ℕ) (i : ℕ) (maps : List MapText) (m : MapText)
    → named name m ≡ false
    → position_from (named name) i (maps ++ m ∷ []) ≡ position_from (named name) i maps
from_kept name i [] m other = ap (λ b. cond b (Some i) None) other
from_kept name i (x ∷ maps) m other =
    ap (cond (named name x) (Some i)) (from_kept name (i + 1) maps m other)

-- with a map of a new name
pub place_more : (maps : List MapText) (m : MapText) (name : List ℕ)
    → place_of maps m.name ≡ None
    → place_of (maps ++ m ∷ []) name
    ≡ cond (bytes_eq m.name name) (Some (length maps)) (place_of maps name)
place_more maps m name new = by (bytes_eq m.name name) refl
  where
    by : (b : Bool) → bytes_eq m.name name ≡ b
        → place_of (maps ++ m ∷ []) name ≡ cond b (Some (length maps)) (place_of maps name)
    by true e =
        let same : m.name ≡ name = (bytes_eq-Decides m.name name).0 e in
        from_more name 0 maps m (ap (place_of maps) (sym same) ∙ new)
        ∙ ap (λ b. cond b (Some (0 + length maps)) None)
        ((bytes_eq-Decides name m.name).1 (sym same))
        ∙ ap (λ k. cond true (Some k) None) (zero_more (length maps))
    by false e =
        from_kept name 0 maps m (false_from_ne_true (bytes_eq name m.name)
        (λ t. true≢false (sym ((bytes_eq-Decides m.name name).1
        (sym ((bytes_eq-Decides name m.name).0 t))) ∙ e)))

same_place : (i place : ℕ) → Some i ≡ Some place → i ≡ place
same_place i place e = cc

-- a place is that of a map
place_within : (maps : List MapText) (name : List ℕ) (i place : ℕ)
    → position_from (named name) i maps ≡ Some place → place < i + length maps
place_within [] name i place e = absurd (no_place place (sym e))
place_within (x ∷ maps) name i place e =
    by (named name x) e (place_within maps name (i + 1) place)
  where
    by : (b : Bool) → cond b (Some i) (position_from (named name) (i + 1) maps) ≡ Some place
        → (position_from (named name) (i + 1) maps ≡ Some place
        → place < (i + 1) + length maps) → place < i + suc (length maps)
    by true e later = let same : i ≡ place = same_place i place e in omega (arith, same)
    by false e later = let lt : place < (i + 1) + length maps = later e in omega (arith, lt)

pub place_found : (maps : List MapText) (name : List ℕ) (found : Option ℕ)
    → found ≡ place_of maps name → IfSome found (λ place. place < length maps)
place_found maps name None e = tt
place_found maps name (Some place) e =
    let lt : place < 0 + length maps = place_within maps name 0 place (sym e) in omega (arith, lt)

-- Walks over what was written: each step gives what it was written of.
use Rattle.std.specs.Prelude.{◌≡◌, ℕ, suc, All, ⊤, Bool, true, cond, List, [], ◌∷◌, ◌++◌, map, Some, Ok, Err, codes, is_some, length, slice_get, refl}
use Rattle.std.proofs.Common.{ap, append-nil, append_assoc, sym, ◌∙◌}
use Rattle.std.proofs.lemmas.List.Elements.{All-head, All-tail}
use Rattle.serde_json.specs.Data.{Data, string}
use Rattle.serde_json.specs.Find.{as_object, get}
use Rattle.serde_json.specs.View.{items_of}
use Rattle.mof_values.specs.declared.fault.MofFault.TheVariants.{Shape}
use Rattle.mof_values.specs.Sets.{by_kind, kind_of}
use Rattle.mof_values.specs.Values.{a_text, an_object, field, field_at, walk_at}
use Rattle.mof_values.specs.Walked.{Walked, ◌>>=◌, at, each, here, index, key_part, or_fault}
use Rattle.mof_file.specs.File.{walk_found}

module _ {A : Type 0} (walk : Data → Walked A) (name : List ℕ) (d e : Data) (x : A)
    (found : get name d ≡ Some e) (walked : walk e ≡ Ok x) where
  pub field_back : walk_at walk name d ≡ Ok x
  unfolding walk_at field_at
  field_back =
      ap (λ o. at (key_part name) (or_fault (Shape here) o)
      >>= (λ e. at (key_part name) (walk e))) found
      ∙ ap (at (key_part name)) walked

  pub found_back : (missing : A) → walk_found missing walk (key_part name) (get name d) ≡ Ok x
  found_back missing =
      ap (walk_found missing walk (key_part name)) found ∙ ap (at (key_part name)) walked

abbrev if_object : Bool → Walked ⊤
if_object b = cond b (Ok tt) (Err (Shape here))

-- a value that is an object
pub object_then : {A : Type 0} (d : Data) (rest : Walked A) → is_some (as_object d) ≡ true
    → (an_object d >>= (λ _. rest)) ≡ rest
unfolding an_object
object_then d rest e = ap (λ b. if_object b >>= (λ _. rest)) e

text_is : (text : List ℕ) → a_text (string text) ≡ Ok text
unfolding a_text
text_is text = refl

kind_back : (d : Data) (type : List ℕ) → is_some (as_object d) ≡ true
    → get (codes "type") d ≡ Some (string type) → kind_of d ≡ Ok type
unfolding kind_of
kind_back d type object typed =
    object_then d (field a_text "type" d) object
    ∙ field_back a_text (codes "type") d (string type) type typed (text_is type)

-- an object that is walked by its type
pub by_type : {A : Type 0} (walk : List ℕ → Data → Walked A) (d : Data) (type : List ℕ) (r : A)
    → is_some (as_object d) ≡ true → get (codes "type") d ≡ Some (string type)
    → walk type d ≡ Ok r → by_kind walk d ≡ Ok r
by_type walk d type r object typed is =
    ap (λ w. w >>= (λ t. walk t d)) (kind_back d type object typed) ∙ is

-- ---- arrays

-- what stands behind those that are done
pub get_behind : {X : Type 0} (done : List X) (x : X) (rest : List X)
    → slice_get (done ++ x ∷ rest) (length done) ≡ Some x
get_behind [] x rest = refl
get_behind (d ∷ ds) x rest = get_behind ds x rest

-- each item passes, behind those that come before it
abbrev pub AllGood : {X Y : Type 0} → (X → Y) → (List Y → X → Type 0) → List Y → List X → Type 0
AllGood g Good s [] = ⊤
AllGood g Good s (x ∷ xs) = Good s x × AllGood g Good (s ++ g x ∷ []) xs

-- each step puts one thing more last
pub each_appends : {X Y : Type 0} (step : List Y → Data → Walked (List Y)) (f : X → Data) (g : X
    → Y)
    (Good : List Y → X → Type 0) → ((s : List Y) (x : X) → Good s x
    → step s (f x) ≡ Ok (s ++ g x ∷ []))
    → (i : ℕ) (s : List Y) (xs : List X) → AllGood g Good s xs
    → each step i s (items_of (map f xs)) ≡ Ok (s ++ map g xs)
each_appends step f g Good steps i s [] h = ap Ok (sym (append-nil s))
each_appends step f g Good steps i s (x ∷ xs) h =
    ap (λ w. at (index i) w >>= (λ more. each step (suc i) more (items_of (map f xs))))
    (steps s x h.0)
    ∙ each_appends step f g Good steps (suc i) (s ++ g x ∷ []) xs h.1
    ∙ ap Ok (append_assoc s (g x ∷ []) (map g xs))

-- items that pass wherever they stand
pub always_good : {X Y : Type 0} (g : X → Y) (P : X → Type 0) (s : List Y) (xs : List X) → All P xs
    → AllGood g (λ _ x. P x) s xs
always_good g P s [] h = tt
always_good g P s (x ∷ xs) h =
    (All-head P x xs h, always_good g P (s ++ g x ∷ []) xs (All-tail P x xs h))

-- the same with more items behind them
pub each_then : {X Y : Type 0} (step : List Y → Data → Walked (List Y)) (f : X → Data) (g : X → Y)
    (Good : List Y → X → Type 0) → ((s : List Y) (x : X) → Good s x
    → step s (f x) ≡ Ok (s ++ g x ∷ []))
    → (more : List Data) (r : Walked (List Y)) (s : List Y) (xs : List X) → AllGood g Good s xs
    → ((j : ℕ) → each step j (s ++ map g xs) (items_of more) ≡ r)
    → (i : ℕ) → each step i s (items_of (map f xs ++ more)) ≡ r
each_then step f g Good steps more r s [] h next i =
    ap (λ u. each step i u (items_of more)) (sym (append-nil s)) ∙ next i
each_then step f g Good steps more r s (x ∷ xs) h next i =
    ap (λ w. at (index i) w >>= (λ u. each step (suc i) u (items_of (map f xs ++ more))))
    (steps s x h.0)
    ∙ each_then step f g Good steps more r (s ++ g x ∷ []) xs h.1
    (λ j. ap (λ u. each step j u (items_of more)) (append_assoc s (g x ∷ []) (map g xs))
    ∙ next j) (suc i)

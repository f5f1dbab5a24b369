-- Lists that are read item by item: what is read so far, and what is left.
use Rattle.std.proofs.Common.{◌≡◌, Option, Some, None, List, [], ◌∷◌, ◌++◌, refl, sym, ap, ap₂, ◌∙◌, append_assoc, append-nil}
use Rattle.std.specs.Option.{option_and_then, option_map}
use Rattle.cert_text.specs.Reading.{Lines, each_line}
use Rattle.cert_text.specs.Text.{Line}

module _ {X Y : Type 0} (f : X → Line → Option Y) where
  -- with what is read of the items that are left
  abbrev pub lined : List Y → Option (List Y × Lines) → Option (List Y × Lines)
  lined made o = option_map (λ p. (made ++ p.0, p.1)) o

  abbrev pub line_left : List Y → List X → Lines → Option (List Y × Lines)
  line_left made xs lines = lined made (each_line f xs lines)

  pub line_missing : (made : List Y) (x : X) (xs : List X) → line_left made (x ∷ xs) [] ≡ None
  unfolding each_line
  line_missing made x xs = refl

  pub line_unread : (made : List Y) (x : X) (xs : List X) (line : Line) (lines : Lines)
      → f x line ≡ None → line_left made (x ∷ xs) (line ∷ lines) ≡ None
  unfolding each_line
  line_unread made x xs line lines h =
      ap (λ o. lined made (option_and_then (λ y. option_and_then (λ p. Some (y ∷ p.0, p.1))
      (each_line f xs lines)) o)) h

  pub line_more : (made : List Y) (y : Y) (x : X) (xs : List X) (line : Line) (lines : Lines)
      → f x line ≡ Some y
      → line_left made (x ∷ xs) (line ∷ lines) ≡ line_left (made ++ y ∷ []) xs lines
  unfolding each_line
  line_more made y x xs line lines h =
      ap (λ o. lined made (option_and_then (λ y. option_and_then (λ p. Some (y ∷ p.0, p.1))
      (each_line f xs lines)) o)) h
      ∙ more (each_line f xs lines)
    where
      more : (o : Option (List Y × Lines))
          → lined made (option_and_then (λ p. Some (y ∷ p.0, p.1)) o) ≡ lined (made ++ y ∷ []) o
      more None = refl
      more (Some p) = ap (λ ys. Some (ys, p.1)) (sym (append_assoc made (y ∷ []) p.0))

  pub line_all : (made : List Y) (lines : Lines) → line_left made [] lines ≡ Some (made, lines)
  unfolding each_line
  line_all made lines = ap (λ ys. Some (ys, lines)) (append-nil made)

  -- ---- by what is left

  module _ (made : List Y) (left : List X) (lines : Lines) (all : Option (List Y × Lines))
      (so_far : line_left made left lines ≡ all) where
    -- an item is left, and no line
    pub missing : (x : X) (xs : List X) → left ≡ x ∷ xs → lines ≡ [] → None ≡ all
    missing x xs l n =
        sym (line_missing made x xs) ∙ sym (ap₂ (λ l n. line_left made l n) l n) ∙ so_far

    pub unread : (x : X) (xs : List X) (line : Line) (others : Lines) → left ≡ x ∷ xs
        → lines ≡ line ∷ others → f x line ≡ None → None ≡ all
    unread x xs line others l n h =
        sym (line_unread made x xs line others h) ∙ sym (ap₂ (λ l n. line_left made l n) l n)
        ∙ so_far

    pub more : (x : X) (xs : List X) (line : Line) (others : Lines) (y : Y) → left ≡ x ∷ xs
        → lines ≡ line ∷ others → f x line ≡ Some y → line_left (made ++ y ∷ []) xs others ≡ all
    more x xs line others y l n h =
        sym (line_more made y x xs line others h) ∙ sym (ap₂ (λ l n. line_left made l n) l n)
        ∙ so_far

    pub all_read : left ≡ [] → Some (made, lines) ≡ all
    all_read l = sym (line_all made lines) ∙ sym (ap (λ l. line_left made l lines) l) ∙ so_far

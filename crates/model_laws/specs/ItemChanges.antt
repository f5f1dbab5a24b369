-- Changes that set an item in its place, take one out, or edit each item that is touched; and what
-- differs after changes.
use Rattle.std.specs.Prelude.{◌≡◌, ◌≢◌, ℕ, ◌<◌, ◌==◌, Bool, true, false, cond, List, [], ◌∷◌, ◌++◌, Option, Some, None, All, filter, map, slice_index_or, refl}
use Rattle.std.specs.List.{filter_map, cons_option}
use Rattle.std.specs.Option.{option_and_then, option_map, option_map_or}
use Rattle.std.proofs.Common.{sym, ap, ◌∙◌}
use Rattle.std.proofs.lemmas.List.Elements.{All-nil, All-map}
use Rattle.numbered_list.specs.declared.change.Change.{Change}
use Rattle.numbered_list.specs.Numbered.{Rise, IsAt, find}
use Rattle.numbered_list.specs.Changes.{AreChanges, changed_number, old, olds, set_all}
use Rattle.numbered_list.specs.Laws.{KeepsNumbers, Rise-filter, find-filter_map, same_lists, Rise-filter_map}
use Rattle.numbered_list.specs.SetLaws.{put_last}
use Rattle.numbered_list.specs.ChangeLaws.{AreChanges-cons, AreChanges-nil, AreChanges-olds, Rise-set_all, find-changed, find-olds, find-set_all}
use Rattle.user_model.specs.Undone.{AreDifferences}
use Rattle.map_laws.specs.PairLaws.{AllPairs-map}

module _ {X : Type 0} (number_of : X → ℕ) where
  -- an item is to stand at its number
  abbrev pub set_to : X → Change X
  set_to x = record { number = number_of x; content = Some x }

  -- an item is to be what f makes of it
  abbrev pub edit_of : (X → Option X) → X → Change X
  edit_of f x = record { number = number_of x; content = f x }

  -- each item that is touched is to be what f makes of it
  abbrev pub edits_of : (X → Option X) → (X → Bool) → List X → List (Change X)
  edits_of f touched xs = map (edit_of f) (filter touched xs)

  -- one change
  pub one_change : (n : ℕ) (new : Option X) → IsAt number_of n new
      → AreChanges number_of (record { number = n; content = new } ∷ [])
  one_change n new at = AreChanges-cons number_of (record { number = n; content = new }) [] at
      (All-nil (λ c. n < c.number)) (AreChanges-nil number_of)

  -- a new item goes last
  pub set_all_last : (x : X) (xs : List X) → All (λ y. number_of y < number_of x) xs
      → set_all number_of (set_to x ∷ []) xs ≡ xs ++ x ∷ []
  set_all_last x xs h = put_last number_of x xs h

  -- what a filter finds: the item that was found, where it passes
  module _ (passes : X → Bool) where
    abbrev kept : X → Option X
    kept x = cond (passes x) (Some x) None

    filter_kept : (xs : List X) → filter passes xs ≡ filter_map kept xs
    filter_kept [] = refl
    filter_kept (x ∷ xs) =
        elim (passes x) as (λ b. cond b (x ∷ filter passes xs) (filter passes xs)
        ≡ cons_option (cond b (Some x) None) (filter_map kept xs))
        [ true ↦ ap (λ ys. x ∷ ys) (filter_kept xs) | false ↦ filter_kept xs ]

    kept_numbers : KeepsNumbers number_of kept
    kept_numbers = record {
      keeps = λ x. elim (passes x) as
          (λ b. IsAt number_of (number_of x) (cond b (Some x) None)) [ true ↦ refl | false ↦ tt ];
    }

    pub find-filter : (n : ℕ) (xs : List X) → Rise number_of xs
        → find number_of n (filter passes xs)
        ≡ option_and_then (λ x. cond (passes x) (Some x) None) (find number_of n xs)
    find-filter n xs rise = ap (find number_of n) (filter_kept xs)
        ∙ find-filter_map number_of kept n xs kept_numbers rise

  module _ (f : X → Option X) (touched : X → Bool) (keeps : KeepsNumbers number_of f) where
    rising_edits : (ys : List X) → Rise number_of ys → Rise changed_number (map (edit_of f) ys)
    rising_edits ys h = record {
      rising = AllPairs-map {X = Change X} (λ c d. c.number < d.number)
          (edit_of f) (λ x y. number_of x < number_of y) ys (λ x y lt. lt) h.rising;
    }

    own_edits : (ys : List X)
        → All {X = Change X} (λ c. IsAt number_of c.number c.content) (map (edit_of f) ys)
    own_edits ys = All-map {X = Change X} (λ c. IsAt number_of c.number c.content) (edit_of f) ys
        (λ k d end. keeps.keeps (slice_index_or ys k d))

    pub AreChanges-edits : (xs : List X) → Rise number_of xs
        → AreChanges number_of (edits_of f touched xs)
    AreChanges-edits xs rise = record {
      rising = rising_edits (filter touched xs)
          (Rise-filter number_of touched xs rise);
      own = own_edits (filter touched xs);
    }

    find-edits : (n : ℕ) (ys : List X)
        → find changed_number n (map (edit_of f) ys) ≡ option_map (edit_of f) (find number_of n ys)
    find-edits n [] = refl
    find-edits n (y ∷ ys) =
        elim (number_of y
        == n) as (λ b. cond b (Some (edit_of f y)) (find changed_number n (map (edit_of f) ys))
        ≡ option_map (edit_of f) (cond b (Some y) (find number_of n ys)))
        [ true ↦ refl | false ↦ find-edits n ys ]

    -- where an item that isn't touched stays, the edits make of the list what f makes of each item
    pub set_all_edits : ((x : X) → touched x ≡ false → f x ≡ Some x) → (xs : List X)
        → Rise number_of xs → set_all number_of (edits_of f touched xs) xs ≡ filter_map f xs
    set_all_edits stays xs rise =
        let are = AreChanges-edits xs rise in
        same_lists number_of _ _ (Rise-set_all number_of (edits_of f touched xs) xs are rise)
        (Rise-filter_map number_of f xs keeps rise) (λ n.
        find-set_all number_of n (edits_of f touched xs) xs are
        ∙ (ap (λ o. option_map_or {T = Change X} (λ c. c.content) o (find number_of n xs))
        (find-edits n (filter touched xs)
        ∙ ap (option_map (edit_of f)) (find-filter touched n xs rise))
        ∙ (at (find number_of n xs) ∙ sym (find-filter_map number_of f n xs keeps rise))))
      where
        at : (o : Option X)
            → option_map_or {T = Change X} (λ c. c.content)
            (option_map (edit_of f) (option_and_then (kept touched) o)) o ≡ option_and_then f o
        at None = refl
        at (Some x) = test (touched x) refl
          where
            test : (b : Bool) → touched x ≡ b
                → option_map_or {T = Change X} (λ c. c.content)
                (option_map (edit_of f) (cond b (Some x) None)) (Some x) ≡ f x
            test true e = refl
            test false e = sym (stays x e)

  -- changes that each put other content than stood there list, with the old content, exactly what
  -- differs
  pub differences : (xs : List X) (cs : List (Change X)) → AreChanges number_of cs
      → All (λ c. find number_of c.number xs ≢ c.content) cs
      → AreDifferences number_of xs (set_all number_of cs xs) (olds number_of cs xs)
  differences xs cs are differ = record {
    rising = (AreChanges-olds number_of cs xs are).rising;
    contents = All-map {X = Change X} (λ c. c.content ≡ find number_of c.number xs)
        (old number_of xs) cs (λ k d end. refl);
    differ = All-map {X = Change X} (λ c. find number_of c.number xs
        ≢ find number_of c.number (set_all number_of cs xs)) (old number_of xs) cs
        (λ k d end same. differ k d end (same ∙ find-changed number_of cs xs are k d end));
    all = λ n none. sym (find-set_all number_of n cs xs are
        ∙ unlisted n (find changed_number n cs) (sym (find-olds number_of n cs xs) ∙ none));
  }
    where
      unlisted : (n : ℕ) (o : Option (Change X)) → option_map (old number_of xs) o ≡ None
          → option_map_or {T = Change X} (λ c. c.content) o (find number_of n xs)
          ≡ find number_of n xs
      unlisted n None e = refl
      unlisted n (Some c) e = cc

-- Items that differ are separated one after another.
use Rattle.std.specs.Prelude.{◌≡◌, ◌≢◌, ◌⊎◌, ◌<◌, ◌+◌, ◌==◌, ◌++◌, ℕ, zero, suc, Bool, true, false, List, [], ◌∷◌, All, Contains, MatchBool, Option, Some, None, drop, get_or, length, map, take, refl}
use Rattle.std.specs.Option.{option_map, option_map_or, option_or, option_to_list}
use Rattle.std.proofs.Common.{arith, sym, ap, ap₂, inl, inr, subst, ◌∙◌, append-nil}
use Rattle.std.proofs.lemmas.Bool.{cases_eq}
use Rattle.std.proofs.lemmas.List.{map-append, take-append-drop}
use Rattle.std.proofs.lemmas.List.Elements.{All-append, All-cons, All-contains, All-head, All-nil, All-tail}
use Rattle.std.proofs.lemmas.List.Folds.{find-append}
use Rattle.map_laws.specs.LoopLaws.{map-take_more, next_item}
use Rattle.map_laws.specs.PairLaws.{AllPairs-before}
use Rattle.numbered_list.specs.Changes.{AreChanges, changed_number}
use Rattle.numbered_list.specs.Laws.{Rise-head, Rise-nil, Rise-push, Rise-tail, find-first, find-none_below, find-rest}
use Rattle.numbered_list.specs.Numbered.{IsAt, Rise, find}
use Rattle.numbered_list.specs.declared.change.Change.{Change}
use Rattle.touched_items.specs.FirstChanges.{stood_at}
use Rattle.touched_items.specs.Sides.{AreSides, IsSeparated, differ, same}

or_none : {A : Type 0} (o : Option A) → option_or o None ≡ o
or_none None = refl
or_none (Some a) = refl

module _ {A : Type 0} (P : A → Type 0) where
  front : (xs ys : List A) → All P (xs ++ ys) → All P xs
  front [] ys h = All-nil P
  front (x ∷ xs) ys h =
      All-cons P x xs (All-head P x (xs ++ ys) h) (front xs ys (All-tail P x (xs ++ ys) h))

  back : (xs ys : List A) → All P (xs ++ ys) → All P ys
  back [] ys h = h
  back (x ∷ xs) ys h = back xs ys (All-tail P x (xs ++ ys) h)

-- an item of a rising list is found by its number
pub found_itself : {X : Type 0} (number_of : X → ℕ) (xs : List X) (x : X) → Rise number_of xs
    → Contains xs x → find number_of (number_of x) xs ≡ Some x
found_itself number_of [] x rise c = absurd (omega (arith, c.1))
found_itself number_of (y ∷ ys) x rise (zero, inside, is) =
    find-first number_of (number_of x) y ys (ap number_of is) ∙ ap Some is
found_itself number_of (y ∷ ys) x rise (suc i, inside, is) =
    let there : Contains ys x = (i, omega (arith, inside), is) in
    let lt : number_of y < number_of x =
    All-contains (λ z. number_of y < number_of z) ys x (Rise-head number_of y ys rise) there in
    find-rest number_of (number_of x) y ys (λ e. omega arith)
    ∙ found_itself number_of ys x (Rise-tail number_of y ys rise) there

-- ---- an item of a number, or none, is appended

module _ {X : Type 0} (number_of : X → ℕ) (k : ℕ) where
  pushed_here : (xs : List X) (o : Option X) → All (λ x. number_of x < k) xs
      → IsAt number_of k o → find number_of k (xs ++ option_to_list o) ≡ o
  pushed_here xs o low at =
      find-append (λ x. number_of x == k) xs (option_to_list o)
      ∙ ap (λ p. option_or p (find number_of k (option_to_list o)))
      (find-none_below number_of k xs low)
      ∙ by o at
    where
      by : (o : Option X) → IsAt number_of k o → find number_of k (option_to_list o) ≡ o
      by None at = refl
      by (Some x) at = find-first number_of k x [] at

  pushed_elsewhere : (n : ℕ) → k ≢ n → (xs : List X) (o : Option X) → IsAt number_of k o
      → find number_of n (xs ++ option_to_list o) ≡ find number_of n xs
  pushed_elsewhere n other xs o at =
      find-append (λ x. number_of x == n) xs (option_to_list o)
      ∙ ap (option_or (find number_of n xs)) (by o at)
      ∙ or_none (find number_of n xs)
    where
      by : (o : Option X) → IsAt number_of k o → find number_of n (option_to_list o) ≡ None
      by None at = refl
      by (Some x) at = find-rest number_of n x [] (λ e. other (sym at ∙ e))

  pushed_rises : (xs : List X) (o : Option X) → Rise number_of xs
      → All (λ x. number_of x < k) xs → IsAt number_of k o
      → Rise number_of (xs ++ option_to_list o)
  pushed_rises xs None rise low at = subst (Rise number_of) (sym (append-nil xs)) rise
  pushed_rises xs (Some x) rise low at =
      Rise-push number_of xs x rise
      (subst (λ m. All (λ y. number_of y < m) xs) (sym at) low)

  pushed_low : (b : ℕ) (xs : List X) (o : Option X) → All (λ x. number_of x < b) xs
      → k < b → IsAt number_of k o → All (λ x. number_of x < b) (xs ++ option_to_list o)
  pushed_low b xs o low lt at =
      All-append (λ x. number_of x < b) xs (option_to_list o) low (by o at)
    where
      by : (o : Option X) → IsAt number_of k o → All (λ x. number_of x < b) (option_to_list o)
      by None at = All-nil (λ x. number_of x < b)
      by (Some x) at =
          All-cons (λ x. number_of x < b) x [] (subst (λ m. m < b) (sym at) lt)
          (All-nil (λ x. number_of x < b))

module _ {X Item : Type 0} (number_of : X → ℕ) (item_of : X → Item) (now : ℕ → Option X) where
  -- the sides of what is listed so far
  pub record AreSidesOf (listed : List (Change X)) (before after : List X) : Type 0 where
    pub sides : AreSides number_of item_of (stood_at now listed) now before after
    pub low_before :
        (b : ℕ) → All (λ (c : Change X). c.number < b) listed → All (λ x. number_of x < b) before
    pub low_after :
        (b : ℕ) → All (λ (c : Change X). c.number < b) listed → All (λ x. number_of x < b) after

  pub none_listed : AreSidesOf [] [] []
  none_listed = record {
    sides = record {
      rising_before = Rise-nil number_of;
      rising_after = Rise-nil number_of;
      each = λ n. same refl refl refl;
    };
    low_before = λ b h. All-nil (λ x. number_of x < b);
    low_after = λ b h. All-nil (λ x. number_of x < b);
  }

  module _ (listed : List (Change X)) (c : Change X) (before after : List X)
      (so_far : AreSidesOf listed before after)
      (lower : All (λ (d : Change X). d.number < c.number) listed)
      (own : IsAt number_of c.number c.content)
      (own_now : IsAt number_of c.number (now c.number)) where
    abbrev content_or : ℕ → Option (Change X) → Option X
    content_or n o = option_map_or (λ (d : Change X). d.content) o (now n)

    stood_here : stood_at now (listed ++ c ∷ []) c.number ≡ c.content
    stood_here =
        ap (content_or c.number)
        (find-append (λ (d : Change X). d.number == c.number) listed (c ∷ [])
        ∙ ap₂ option_or (find-none_below changed_number c.number listed lower)
        (find-first changed_number c.number c [] refl))

    stood_elsewhere : (n : ℕ) → c.number ≢ n
        → stood_at now (listed ++ c ∷ []) n ≡ stood_at now listed n
    stood_elsewhere n other =
        ap (content_or n)
        (find-append (λ (d : Change X). d.number == n) listed (c ∷ [])
        ∙ ap (option_or (find changed_number n listed)) (find-rest changed_number n c [] other)
        ∙ or_none (find changed_number n listed))

    low_here : All (λ x. number_of x < c.number) before
    low_here = so_far.low_before c.number lower

    low_now : All (λ x. number_of x < c.number) after
    low_now = so_far.low_after c.number lower

    -- of the numbers up to a bound
    first_low : (b : ℕ) → All (λ (d : Change X). d.number < b) (listed ++ c ∷ [])
        → All (λ (d : Change X). d.number < b) listed
    first_low b h = front (λ (d : Change X). d.number < b) listed (c ∷ []) h

    last_low : (b : ℕ) → All (λ (d : Change X). d.number < b) (listed ++ c ∷ []) → c.number < b
    last_low b h =
        All-head (λ (d : Change X). d.number < b) c []
        (back (λ (d : Change X). d.number < b) listed (c ∷ []) h)

    moved : (n : ℕ) (was was' b b' a a' : Option X) → was' ≡ was → b' ≡ b → a' ≡ a
        → IsSeparated item_of was (now n) b a → IsSeparated item_of was' (now n) b' a'
    moved n was was' b b' a a' e f g (same i j k) =
        same (ap (option_map item_of) e ∙ i) (f ∙ j) (g ∙ k)
    moved n was was' b b' a a' e f g (differ i j k) =
        differ (λ h. i (ap (option_map item_of) (sym e) ∙ h)) (f ∙ j ∙ sym e) (g ∙ k)

    both_given : option_map item_of c.content ≢ option_map item_of (now c.number)
        → AreSidesOf (listed ++ c ∷ []) (before ++ option_to_list c.content)
        (after ++ option_to_list (now c.number))
    both_given apart = record {
      sides = record {
        rising_before =
            pushed_rises number_of c.number before c.content so_far.sides.rising_before low_here own;
        rising_after =
            pushed_rises number_of c.number after (now c.number) so_far.sides.rising_after low_now
            own_now;
        each = λ n. by n (cases_eq c.number n);
      };
      low_before = λ b h.
          pushed_low number_of c.number b before c.content (so_far.low_before b (first_low b h))
          (last_low b h) own;
      low_after = λ b h.
          pushed_low number_of c.number b after (now c.number) (so_far.low_after b (first_low b h))
          (last_low b h) own_now;
    }
      where
        At : ℕ → Type 0
        At n =
            IsSeparated item_of (stood_at now (listed ++ c ∷ []) n) (now n)
            (find number_of n (before ++ option_to_list c.content))
            (find number_of n (after ++ option_to_list (now c.number)))

        here : At c.number
        here =
            differ (λ e. apart (ap (option_map item_of) (sym stood_here) ∙ e))
            (pushed_here number_of c.number before c.content low_here own ∙ sym stood_here)
            (pushed_here number_of c.number after (now c.number) low_now own_now)

        by : (n : ℕ) → (c.number ≡ n) ⊎ (c.number ≢ n) → At n
        by n (inl e) = subst At e here
        by n (inr other) =
            moved n (stood_at now listed n) (stood_at now (listed ++ c ∷ []) n)
            (find number_of n before) (find number_of n (before ++ option_to_list c.content))
            (find number_of n after) (find number_of n (after ++ option_to_list (now c.number)))
            (stood_elsewhere n other)
            (pushed_elsewhere number_of c.number n other before c.content own)
            (pushed_elsewhere number_of c.number n other after (now c.number) own_now)
            (so_far.sides.each n)

    none_given : option_map item_of c.content ≡ option_map item_of (now c.number)
        → AreSidesOf (listed ++ c ∷ []) before after
    none_given alike = record {
      sides = record {
        rising_before = so_far.sides.rising_before;
        rising_after = so_far.sides.rising_after;
        each = λ n. by n (cases_eq c.number n);
      };
      low_before = λ b h. so_far.low_before b (first_low b h);
      low_after = λ b h. so_far.low_after b (first_low b h);
    }
      where
        At : ℕ → Type 0
        At n =
            IsSeparated item_of (stood_at now (listed ++ c ∷ []) n) (now n)
            (find number_of n before) (find number_of n after)

        here : At c.number
        here =
            same (ap (option_map item_of) stood_here ∙ alike)
            (find-none_below number_of c.number before low_here)
            (find-none_below number_of c.number after low_now)

        by : (n : ℕ) → (c.number ≡ n) ⊎ (c.number ≢ n) → At n
        by n (inl e) = subst At e here
        by n (inr other) =
            moved n (stood_at now listed n) (stood_at now (listed ++ c ∷ []) n)
            (find number_of n before) (find number_of n before)
            (find number_of n after) (find number_of n after)
            (stood_elsewhere n other) refl refl (so_far.sides.each n)

    -- as the code does
    pub one_separated : (b : Bool) (before' after' : List X)
        → MatchBool b (option_map item_of c.content ≡ option_map item_of (now c.number))
        (option_map item_of c.content ≢ option_map item_of (now c.number))
        → MatchBool b (before' ≡ before) (before' ≡ before ++ option_to_list c.content)
        → MatchBool b (after' ≡ after) (after' ≡ after ++ option_to_list (now c.number))
        → AreSidesOf (listed ++ c ∷ []) before' after'
    one_separated true before' after' alike e f =
        subst (λ l. AreSidesOf (listed ++ c ∷ []) l after') (sym e)
        (subst (AreSidesOf (listed ++ c ∷ []) before) (sym f) (none_given alike))
    one_separated false before' after' apart e f =
        subst (λ l. AreSidesOf (listed ++ c ∷ []) l after') (sym e)
        (subst (AreSidesOf (listed ++ c ∷ []) (before ++ option_to_list c.content)) (sym f)
        (both_given apart))

  -- ---- the loop

  module _ {B : Type 0} (read : B → Change X) (all : List B)
      (changes : AreChanges number_of (map read all)) (i : ℕ) (x : B) (is : x ≡ get_or all i x)
      (lt : i < length all) where
    parts : map read all ≡ map read (take i all) ++ read x ∷ map read (drop (i + 1) all)
    parts =
        ap (map read) (sym (take-append-drop i all) ∙ ap (λ l. take i all ++ l) (next_item all all i x refl is lt))
        ∙ map-append read (take i all) (x ∷ drop (i + 1) all)

    pub next_separated : (before after before' after' : List X) (b : Bool)
        → IsAt number_of (read x).number (now (read x).number)
        → AreSidesOf (map read (take i all)) before after
        → MatchBool b
        (option_map item_of (read x).content ≡ option_map item_of (now (read x).number))
        (option_map item_of (read x).content ≢ option_map item_of (now (read x).number))
        → MatchBool b (before' ≡ before) (before' ≡ before ++ option_to_list (read x).content)
        → MatchBool b (after' ≡ after) (after' ≡ after ++ option_to_list (now (read x).number))
        → AreSidesOf (map read (take (i + 1) all)) before' after'
    next_separated before after before' after' b own_now so_far test e f =
        subst (λ l. AreSidesOf l before' after') (sym (map-take_more read all i x is lt))
        (one_separated (map read (take i all)) (read x) before after so_far lower own own_now b before'
        after' test e f)
      where
        whole : AreChanges number_of
            (map read (take i all) ++ read x ∷ map read (drop (i + 1) all))
        whole = subst (AreChanges number_of) parts changes

        lower : All (λ (d : Change X). d.number < (read x).number) (map read (take i all))
        lower =
            AllPairs-before (λ (c d : Change X). c.number < d.number) (map read (take i all))
            (read x) (map read (drop (i + 1) all)) whole.rising.rising

        own : IsAt number_of (read x).number (read x).content
        own =
            All-head (λ (c : Change X). IsAt number_of c.number c.content) (read x)
            (map read (drop (i + 1) all))
            (back (λ (c : Change X). IsAt number_of c.number c.content)
            (map read (take i all)) (read x ∷ map read (drop (i + 1) all)) whole.own)

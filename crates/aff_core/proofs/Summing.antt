-- Two lists of terms summed, step by step.
use Rattle.std.specs.Prelude.{◌≡◌, ℕ, ◌+◌, ◌<◌, ◌≤◌, true, cond, T, List, [], ◌∷◌, ◌++◌, length, take, drop, filter, slice_index_or, Option, Some, None, refl}
use Rattle.std.proofs.Common.{sym, ap, subst, ◌∙◌, arith, append_assoc}
use Rattle.std.proofs.lemmas.List.{append-nil, take_more, take-append-drop}
use Rattle.std.proofs.lemmas.List.Elements.{All-drop, All-head, filter-append}
use Rattle.std.proofs.lemmas.List.Sums.{AllPass-from_list_all, list_all-from_AllPass}
use Rattle.std.proofs.Math.ListN.{drop_of_length-le}
use Rattle.std.specs.Ordering.{is_lt, is_eq, ordering_reverse}
use Rattle.std.specs.declared.cmp.Ordering.{Ordering}
use Rattle.std.specs.declared.cmp.Ordering.TheVariants.{Less, Equal, Greater}
use Rattle.std.specs.Cmp.{IsTotalOrder, tied_back, tied_itself}
use Rattle.std.specs.FinMap.{FinMap, entries, from_sorted, entries-from_sorted, find, get, get-entries, entries-insert, is_sorted}
use Rattle.std.specs.FinMap.Entries.{put, below_all, by_order}
use Rattle.ratio_core.specs.Rational.{Rational, ◌+ℚ◌, SumFits}
use Rattle.aff_core.specs.Arithmetic.{TermsFit, MeetsFit, met, added_terms, added_at}
use Rattle.aff_core.specs.ArithmeticLaws.{added_terms-append}
use Rattle.map_laws.specs.EntryLaws.{below_less, find_below, is_sorted-drop}
use Rattle.map_laws.specs.TestLaws.{both, first, second, is_less}
use Rattle.aff_core.specs.FunctionLaws.{nonzero-filter, rises}
use Rattle.aff_core.specs.Rising.{RiseBy}
use Rattle.aff_core.specs.Terms.{HaveNoZero, is_nonzero}

-- what is left of terms that are not 0, and the first of them
pub drop_nonzero : {K : Type 0} (n : ℕ) (ts : List (K × Rational)) → HaveNoZero ts
    → HaveNoZero (drop n ts)
drop_nonzero n ts h =
    list_all-from_AllPass is_nonzero (drop n ts) (All-drop (λ t. is_nonzero t ≡ true) n ts
    (AllPass-from_list_all is_nonzero ts h))

pub first_kept : {K : Type 0} (n : ℕ) (ts rest summed : List (K × Rational))
    {next : List (K × Rational)} {s t : K × Rational} → HaveNoZero ts → drop n ts ≡ t ∷ rest
    → next ≡ summed ++ s ∷ [] → s ≡ t → next ≡ summed ++ filter is_nonzero (t ∷ [])
first_kept n ts rest summed {t = t} h e pushed same =
    pushed ∙ ap (λ s. summed ++ s ∷ []) same
    ∙ sym (ap (λ b. summed ++ cond b (t ∷ []) []) (All-head (λ t. is_nonzero t ≡ true) t rest
    (AllPass-from_list_all is_nonzero (t ∷ rest) (subst HaveNoZero e (drop_nonzero n ts h)))))

-- ---- terms added one list after another

module _ {K : Type 0} {R : K → K → Ordering} where
  pub TermsFit-append : (m : FinMap R Rational) (ts us : List (K × Rational)) → TermsFit m ts
      → TermsFit (added_terms m ts) us → TermsFit m (ts ++ us)
  unfolding added_terms TermsFit
  TermsFit-append m [] us h k = k
  TermsFit-append m (s ∷ ts) us h k = (h.0, TermsFit-append (added_at m s.0 s.1) ts us h.1 k)

  pub TermsFit-parts : (m : FinMap R Rational) (ts us : List (K × Rational)) → TermsFit m (ts ++ us)
      → TermsFit m ts × TermsFit (added_terms m ts) us
  unfolding added_terms TermsFit
  TermsFit-parts m [] us h = (tt, h)
  TermsFit-parts m (s ∷ ts) us h =
      let rest = TermsFit-parts (added_at m s.0 s.1) ts us h.1 in ((h.0, rest.0), rest.1)

  added_terms-push : (m : FinMap R Rational) (ts : List (K × Rational)) (t : K × Rational)
      → added_terms m (ts ++ t ∷ []) ≡ added_at (added_terms m ts) t.0 t.1
  unfolding added_terms
  added_terms-push m [] t = refl
  added_terms-push m (s ∷ ts) t = added_terms-push (added_at m s.0 s.1) ts t

  TermsFit-push : (m : FinMap R Rational) (ts : List (K × Rational)) (t : K × Rational)
      → TermsFit m ts → MeetsFit (get (added_terms m ts) t.0) t.1 → TermsFit m (ts ++ t ∷ [])
  unfolding added_terms TermsFit
  TermsFit-push m [] t h meets = (meets, tt)
  TermsFit-push m (s ∷ ts) t h meets = (h.0, TermsFit-push (added_at m s.0 s.1) ts t h.1 meets)

  TermsFit-at : (m : FinMap R Rational) (ts us : List (K × Rational)) (t : K × Rational)
      → TermsFit m (ts ++ t ∷ us) → MeetsFit (get (added_terms m ts) t.0) t.1
  unfolding added_terms TermsFit
  TermsFit-at m [] us t h = h.0
  TermsFit-at m (s ∷ ts) us t h = TermsFit-at (added_at m s.0 s.1) ts us t h.1

-- ---- terms added past all that stands below them

module _ {K : Type 0} {R : K → K → Ordering} (total : IsTotalOrder R) where
  -- each of these terms stands below the key
  abbrev Below : List (K × Rational) → K → Type 0
  Below [] at = Unit {0}
  Below (t ∷ ts) at = (R t.0 at ≡ Less) × Below ts at

  -- and below the first of some others
  abbrev BelowHead : List (K × Rational) → List (K × Rational) → Type 0
  BelowHead front [] = Unit {0}
  BelowHead front (t ∷ ts) = Below front t.0

  Below-push : (ts : List (K × Rational)) (t : K × Rational) (at : K) → Below ts at
      → R t.0 at ≡ Less → Below (ts ++ t ∷ []) at
  Below-push [] t at h lt = (lt, tt)
  Below-push (s ∷ ts) t at h lt = (h.0, Below-push ts t at h.1 lt)

  Below-trans : (ts : List (K × Rational)) (at up : K) → Below ts at → R at up ≡ Less → Below ts up
  Below-trans [] at up h lt = tt
  Below-trans (s ∷ ts) at up h lt = (total.trans s.0 at up h.0 lt, Below-trans ts at up h.1 lt)

  above : (t : K × Rational) (at : K) → R t.0 at ≡ Less → R at t.0 ≡ Greater
  above t at lt = total.antisymm at t.0 ∙ ap ordering_reverse lt

  put-past : (at : K) (q : Rational) (front rest : List (K × Rational)) → Below front at
      → put R at q (front ++ rest) ≡ front ++ put R at q rest
  put-past at q [] rest h = refl
  put-past at q (t ∷ front) rest h =
      ap (λ o. by_order o ((at, q) ∷ t ∷ (front ++ rest)) ((t.0, q) ∷ (front ++ rest))
      (t ∷ put R at q (front ++ rest))) (above t at h.0)
      ∙ ap (λ l. t ∷ l) (put-past at q front rest h.1)

  find-past : (at : K) (front rest : List (K × Rational)) → Below front at
      → find R at (front ++ rest) ≡ find R at rest
  find-past at [] rest h = refl
  find-past at (t ∷ front) rest h =
      ap (λ o. cond (is_eq o) (Some t.1) (find R at (front ++ rest))) (above t at h.0)
      ∙ find-past at front rest h.1

  module _ (m : FinMap R Rational) (front rest : List (K × Rational)) (t : K × Rational)
      (made : entries m ≡ front ++ rest) (below : Below front t.0) where
    met_past : get m t.0 ≡ find R t.0 rest
    met_past = get-entries m t.0 ∙ ap (find R t.0) made ∙ find-past t.0 front rest below

    added_past : entries (added_at m t.0 t.1) ≡ front ++ put R t.0 (met (find R t.0 rest) t.1) rest
    added_past =
        entries-insert total m t.0 (met (get m t.0) t.1)
        ∙ (λ i. put R t.0 (met (met_past i) t.1) (made i))
        ∙ put-past t.0 (met (find R t.0 rest) t.1) front rest below

  -- a term of a key that ties with the next, put before what stands above that
  next_below : (front : List (K × Rational)) (s t : K × Rational) (ts : List (K × Rational))
      → R s.0 t.0 ≡ Equal → Below front t.0 → T (below_all R t.0 ts)
      → BelowHead (front ++ s ∷ []) ts
  next_below front s t [] tied h less = tt
  next_below front s t (u ∷ ts) tied h less =
      let up : R t.0 u.0 ≡ Less = is_less _ (first _ _ less) in
      Below-push front s u.0 (Below-trans front t.0 u.0 h up) (total.congr s.0 t.0 u.0 tied ∙ up)

  itself : (k : K) → R k k ≡ Equal
  itself k = tied_itself total k

  -- terms above all that is there are put after it
  rest_added : (ts : List (K × Rational)) (m : FinMap R Rational) (front : List (K × Rational))
      → T (is_sorted R ts) → BelowHead front ts → entries m ≡ front
      → (entries (added_terms m ts) ≡ front ++ ts) × TermsFit m ts
  unfolding added_terms TermsFit
  rest_added [] m front s below made = (made ∙ sym (append-nil front), tt)
  rest_added (t ∷ ts) m front s below made =
      let whole : entries m ≡ front ++ [] = made ∙ sym (append-nil front) in
      let more = rest_added ts (added_at m t.0 t.1) (front ++ t ∷ []) (second _ _ s)
      (next_below front t t ts (itself t.0) below (first _ _ s))
      (added_past m front [] t whole below) in (
        more.0 ∙ append_assoc front (t ∷ []) ts,
        (subst (λ o. MeetsFit o t.1) (sym (met_past m front [] t whole below)) tt, more.1),
      )

  -- ---- the loop

  -- the sums so far and what is left of the left list are the left list with what was read of the
  -- right list added
  pub record IsMergedSoFar (left right : List (K × Rational)) (i j : ℕ)
      (sums : List (K × Rational)) : Type 0 where
    pub left_in_range : i ≤ length left
    pub right_in_range : j ≤ length right
    pub made : entries (added_terms (from_sorted {R = R} left) (take j right)) ≡ sums ++ drop i left
    pub below : BelowHead sums (drop j right)
    pub fits : TermsFit (from_sorted {R = R} left) (take j right)

  pub merged-start : (left right : List (K × Rational)) → RiseBy R left
      → IsMergedSoFar left right 0 0 []
  unfolding added_terms TermsFit
  merged-start left right h = record {
    left_in_range = omega arith;
    right_in_range = omega arith;
    made = entries-from_sorted R left (rises left h);
    below = none_below (drop 0 right);
    fits = tt;
  }
    where
      none_below : (ts : List (K × Rational)) → BelowHead [] ts
      none_below [] = tt
      none_below (t ∷ ts) = tt

  -- a turn of the loop, where f and g come next
  pub record IsTurn (left right : List (K × Rational)) (i j : ℕ) (sums : List (K × Rational))
      (f g : K × Rational) : Type 0 where
    pub left_rises : RiseBy R left
    pub right_rises : RiseBy R right
    pub so_far : IsMergedSoFar left right i j sums
    pub i_in : i < length left
    pub j_in : j < length right
    pub at_i : drop i left ≡ f ∷ drop (i + 1) left
    pub at_j : drop j right ≡ g ∷ drop (j + 1) right
    pub g_is : slice_index_or right j g ≡ g

  module _ {left right : List (K × Rational)} {i j : ℕ} {sums : List (K × Rational)}
      {f g : K × Rational} (turn : IsTurn left right i j sums f g) where
    more : take (j + 1) right ≡ take j right ++ g ∷ []
    more = take_more right j g turn.j_in ∙ ap (λ t. take j right ++ t ∷ []) turn.g_is

    below_g : Below sums g.0
    below_g = subst (BelowHead sums) turn.at_j turn.so_far.below

    whole : entries (added_terms (from_sorted {R = R} left) (take j right))
        ≡ sums ++ f ∷ drop (i + 1) left
    whole = turn.so_far.made ∙ ap (λ l. sums ++ l) turn.at_i

    meets : get (added_terms (from_sorted {R = R} left) (take j right)) g.0
        ≡ find R g.0 (f ∷ drop (i + 1) left)
    meets =
        met_past (added_terms (from_sorted left) (take j right)) sums (f ∷ drop (i + 1) left) g
        whole below_g

    pub merged-less : R f.0 g.0 ≡ Less → IsMergedSoFar left right (i + 1) j (sums ++ f ∷ [])
    merged-less lt = record {
      left_in_range = omega arith;
      right_in_range = turn.so_far.right_in_range;
      made = whole ∙ sym (append_assoc sums (f ∷ []) (drop (i + 1) left));
      below = subst (BelowHead (sums ++ f ∷ [])) (sym turn.at_j) (Below-push sums f g.0 below_g lt);
      fits = turn.so_far.fits;
    }

    -- g is added to what is left of the left list, which then begins with s
    merged-more : (o : Option Rational) (s : K × Rational) (next : ℕ)
        → find R g.0 (f ∷ drop (i + 1) left) ≡ o → MeetsFit o g.1
        → put R g.0 (met o g.1) (f ∷ drop (i + 1) left) ≡ s ∷ drop next left → R s.0 g.0 ≡ Equal
        → next ≤ length left → IsMergedSoFar left right next (j + 1) (sums ++ s ∷ [])
    merged-more o s next found fit puts tied within = record {
      left_in_range = within;
      right_in_range = omega arith;
      made = ap (λ l. entries (added_terms (from_sorted {R = R} left) l)) more
          ∙ ap entries (added_terms-push (from_sorted left) (take j right) g)
          ∙ added_past (added_terms (from_sorted left) (take j right)) sums
          (f ∷ drop (i + 1) left) g whole below_g
          ∙ ap (λ o. sums ++ put R g.0 (met o g.1) (f ∷ drop (i + 1) left)) found
          ∙ ap (λ l. sums ++ l) puts ∙ sym (append_assoc sums (s ∷ []) (drop next left));
      below = next_below sums s g (drop (j + 1) right) tied below_g
          (first _ _ (subst (λ l. T (is_sorted R l)) turn.at_j
          (is_sorted-drop R j right (rises right turn.right_rises))));
      fits = subst (TermsFit (from_sorted {R = R} left)) (sym more)
          (TermsFit-push (from_sorted left) (take j right) g turn.so_far.fits
          (subst (λ o. MeetsFit o g.1) (sym (meets ∙ found)) fit));
    }

    pub merged-greater : R f.0 g.0 ≡ Greater → IsMergedSoFar left right i (j + 1) (sums ++ g ∷ [])
    merged-greater gt =
        let lt : R g.0 f.0 ≡ Less = total.antisymm g.0 f.0 ∙ ap ordering_reverse gt in
        let above : T (below_all R f.0 (drop (i + 1) left)) =
        first _ _ (subst (λ l. T (is_sorted R l)) turn.at_i
        (is_sorted-drop R i left (rises left turn.left_rises))) in
        let none : find R g.0 (f ∷ drop (i + 1) left) ≡ None =
        find_below R g.0 (f ∷ drop (i + 1) left)
        (both _ _ (subst (λ r. T (is_lt r)) (sym lt) tt)
        (below_less total g.0 f.0 (drop (i + 1) left) lt above)) in
        merged-more None g i none tt
        (ap (λ o. by_order o (g ∷ f ∷ drop (i + 1) left) ((f.0, g.1) ∷ drop (i + 1) left)
        (f ∷ put R g.0 g.1 (drop (i + 1) left))) lt ∙ ap (λ l. g ∷ l) (sym turn.at_i))
        (itself g.0) turn.so_far.left_in_range

    module _ (tied : R f.0 g.0 ≡ Equal) where
      found : find R g.0 (f ∷ drop (i + 1) left) ≡ Some f.1
      found =
          ap (λ o. cond (is_eq o) (Some f.1) (find R g.0 (drop (i + 1) left)))
          (tied_back total f.0 g.0 tied)

      pub merged-equal : SumFits f.1 g.1 → IsMergedSoFar left right (i + 1) (j + 1)
          (sums ++ (f.0, f.1 +ℚ g.1) ∷ [])
      merged-equal fits =
          merged-more (Some f.1) (f.0, f.1 +ℚ g.1) (i + 1) found fits
          (ap (λ o. by_order o ((g.0, f.1 +ℚ g.1) ∷ f ∷ drop (i + 1) left)
          ((f.0, f.1 +ℚ g.1) ∷ drop (i + 1) left) (f ∷ put R g.0 (f.1 +ℚ g.1)
          (drop (i + 1) left))) (tied_back total f.0 g.0 tied)) tied (omega arith)

      pub merged-refused : TermsFit (from_sorted {R = R} left) right → SumFits f.1 g.1
      merged-refused h =
          let split : right ≡ take j right ++ g ∷ drop (j + 1) right =
          sym (take-append-drop j right) ∙ ap (λ l. take j right ++ l) turn.at_j in
          subst (λ o. MeetsFit o g.1) (meets ∙ found) (TermsFit-at (from_sorted left) (take j right)
          (drop (j + 1) right) g (subst (TermsFit (from_sorted {R = R} left)) split h))

  -- ---- without the sums that came to 0

  pub record IsSummedSoFar (left right : List (K × Rational)) (i j : ℕ)
      (summed : List (K × Rational)) : Type 0 where
    pub sums : List (K × Rational)
    pub merged : IsMergedSoFar left right i j sums
    pub kept : summed ≡ filter is_nonzero sums

  pub summed-more : {left right : List (K × Rational)} {i j : ℕ} {summed next : List (K × Rational)}
      (sums : List (K × Rational)) (t : K × Rational)
      → IsMergedSoFar left right i j (sums ++ t ∷ []) → summed ≡ filter is_nonzero sums
      → next ≡ summed ++ filter is_nonzero (t ∷ []) → IsSummedSoFar left right i j next
  summed-more sums t merged is e = record {
    sums = sums ++ t ∷ [];
    merged = merged;
    kept = e ∙ ap (λ l. l ++ filter is_nonzero (t ∷ [])) is
        ∙ sym (filter-append is_nonzero sums (t ∷ []));
  }

  module _ {left right : List (K × Rational)} {i j : ℕ} {summed : List (K × Rational)}
      (so_far : IsSummedSoFar left right i j summed) (left_nonzero : HaveNoZero left)
      (right_nonzero : HaveNoZero right) where
    abbrev pub Sums : Type 0
    Sums =
        TermsFit (from_sorted {R = R} left) right × ((summed ++ drop i left) ++ drop j right
        ≡ filter is_nonzero (entries (added_terms (from_sorted {R = R} left) right)))

    all_kept : (summed ++ drop i left) ++ drop j right
        ≡ filter is_nonzero ((so_far.sums ++ drop i left) ++ drop j right)
    all_kept =
        (λ k. (so_far.kept k ++ sym (nonzero-filter (drop i left)
        (drop_nonzero i left left_nonzero)) k) ++ sym
        (nonzero-filter (drop j right) (drop_nonzero j right right_nonzero)) k)
        ∙ sym (filter-append is_nonzero (so_far.sums ++ drop i left) (drop j right)
        ∙ ap (λ l. l ++ filter is_nonzero (drop j right)) (filter-append is_nonzero so_far.sums
        (drop i left)))

    -- where the right list is read, what is left of the left list is appended
    pub summed-end_right : length right ≤ j → Sums
    summed-end_right h =
        let none : drop j right ≡ [] = drop_of_length-le right h in
        let whole : take j right ≡ right =
        sym (append-nil (take j right)) ∙ ap (λ l. take j right ++ l)
        (sym none) ∙ take-append-drop j right in
        let merged = so_far.merged in (
          subst (TermsFit (from_sorted {R = R} left)) whole merged.fits,
          all_kept ∙ ap (filter is_nonzero) (ap (λ l. (so_far.sums ++ drop i left) ++ l) none
              ∙ append-nil (so_far.sums ++ drop i left) ∙ sym merged.made
              ∙ ap (λ l. entries (added_terms (from_sorted {R = R} left) l)) whole),
        )

    -- and where the left list is read, what is left of the right list
    pub summed-end_left : RiseBy R right → length left ≤ i → Sums
    summed-end_left right_rises h =
        let merged = so_far.merged in
        let none : drop i left ≡ [] = drop_of_length-le left h in
        let all : so_far.sums ++ drop i left ≡ so_far.sums =
        ap (λ l. so_far.sums ++ l) none ∙ append-nil so_far.sums in
        let more = rest_added (drop j right) (added_terms (from_sorted left) (take j right))
        so_far.sums (is_sorted-drop R j right (rises right right_rises)) merged.below
        (merged.made ∙ all) in (
          subst (TermsFit (from_sorted {R = R} left)) (take-append-drop j right)
              (TermsFit-append (from_sorted left) (take j right) (drop j right) merged.fits more.1),
          all_kept ∙ ap (filter is_nonzero) (ap (λ l. l ++ drop j right) all ∙ sym more.0
              ∙ ap entries (sym (added_terms-append (from_sorted left) (take j right)
              (drop j right))) ∙ ap (λ l. entries (added_terms (from_sorted {R = R} left) l))
              (take-append-drop j right)),
        )

-- Lines in the order of their addresses: those of rows between those of variables.
use Rattle.std.specs.Prelude.{◌≡◌, ℕ, suc, ◌+◌, ◌<◌, ◌≤◌, Bool, true, false, ◌&&◌, not, cond, T, List, [], ◌∷◌, ◌++◌, drop, length, map, slice_index_or, take, refl}
use Rattle.std.specs.FinMap.{is_sorted}
use Rattle.std.specs.FinMap.Entries.{below_all}
use Rattle.std.specs.List.{position_or_len}
use Rattle.std.specs.Ordering.{is_le, is_lt, ordering_reverse}
use Rattle.std.specs.declared.cmp.Ordering.{Ordering}
use Rattle.std.specs.declared.cmp.Ordering.TheVariants.{Less, Equal, Greater}
use Rattle.std.proofs.Common.{sym, ◌∙◌, ap, append_assoc, arith, subst}
use Rattle.std.proofs.lemmas.Grind.{flat_map-append}
use Rattle.std.proofs.lemmas.List.{at_drop_all, drop-map, drop_more, take-map}
use Rattle.aff_core.specs.Address.{Address, address_cmp, address_total}
use Rattle.aff_core.specs.FunctionLaws.{rises, tested}
use Rattle.aff_core.specs.Rising.{RiseStrictly}
use Rattle.map_laws.specs.EntryLaws.{below_less, is_sorted-drop}
use Rattle.map_laws.specs.TestLaws.{both, first, is_less, second}
use Rattle.bridged_report.specs.Lines.{LeafLine, in_order, joined, put_before}

-- ---- two addresses

less_le : (o : Ordering) → o ≡ Less → T (is_le o)
less_le o e = subst (λ r. T (is_le r)) (sym e) tt

turned_greater : (o : Ordering) → is_le o ≡ false → ordering_reverse o ≡ Less
turned_greater Less e = cc
turned_greater Equal e = cc
turned_greater Greater e = refl

-- what isn't at most another is above it
greater : (a b : Address) → is_le (address_cmp a b) ≡ false → address_cmp b a ≡ Less
greater a b e = address_total.antisymm b a ∙ turned_greater (address_cmp a b) e

not_le : (a b : Address) → address_cmp b a ≡ Less → is_le (address_cmp a b) ≡ false
not_le a b e = ap is_le (address_total.antisymm a b ∙ ap ordering_reverse e)

le_less : (a b c : Address) → T (is_le (address_cmp a b)) → address_cmp b c ≡ Less
    → T (is_le (address_cmp a c))
le_less a b c h less = by_order (address_cmp a b) refl h
  where
    by_order : (o : Ordering) → address_cmp a b ≡ o → T (is_le o) → T (is_le (address_cmp a c))
    by_order Less e k = less_le (address_cmp a c) (address_total.trans a b c e less)
    by_order Equal e k = less_le (address_cmp a c) (address_total.congr a b c e ∙ less)
    by_order Greater e k = absurd k

-- ---- an address that is no higher than a line's, or than those of all lines

abbrev no_higher : Address → List LeafLine → Bool
no_higher at [] = true
no_higher at (line ∷ lines) = is_le (address_cmp at line.0) && no_higher at lines

no_higher_below : (at : Address) (lines : List LeafLine) → T (below_all address_cmp at lines)
    → T (no_higher at lines)
no_higher_below at [] h = tt
no_higher_below at (line ∷ lines) h =
    both _ _ (less_le _ (is_less _ (first _ _ h))) (no_higher_below at lines (second _ _ h))

no_higher_than : (at other : Address) (lines : List LeafLine) → T (is_le (address_cmp at other))
    → T (below_all address_cmp other lines) → T (no_higher at lines)
no_higher_than at other [] le h = tt
no_higher_than at other (line ∷ lines) le h =
    both _ _ (le_less at other line.0 le (is_less _ (first _ _ h)))
    (no_higher_than at other lines le (second _ _ h))

no_higher-append : (at : Address) (lines others : List LeafLine) → T (no_higher at lines)
    → T (no_higher at others) → T (no_higher at (lines ++ others))
no_higher-append at [] others h k = k
no_higher-append at (line ∷ lines) others h k =
    both _ _ (first _ _ h) (no_higher-append at lines others (second _ _ h) k)

no_higher_put : (at : Address) (line : LeafLine) (lines : List LeafLine)
    → T (is_le (address_cmp at line.0))
    → T (no_higher at lines) → T (no_higher at (put_before line lines))
no_higher_put at line [] le h = both _ _ le tt
no_higher_put at line (other ∷ others) le h =
    by_test (is_le (address_cmp line.0 other.0)) (no_higher_put at line others le (second _ _ h))
  where
    by_test : (b : Bool) → T (no_higher at (put_before line others))
        → T (no_higher at (cond b (line ∷ other ∷ others) (other ∷ put_before line others)))
    by_test true rest = both _ _ le h
    by_test false rest = both _ _ (first _ _ h) rest

no_higher_in_order : (at : Address) (lines : List LeafLine) → T (no_higher at lines)
    → T (no_higher at (in_order lines))
no_higher_in_order at [] h = tt
no_higher_in_order at (line ∷ lines) h =
    no_higher_put at line (in_order lines) (first _ _ h)
    (no_higher_in_order at lines (second _ _ h))

-- ---- which line is the first

put_first : (line : LeafLine) (lines : List LeafLine) → T (no_higher line.0 lines)
    → put_before line lines ≡ line ∷ lines
put_first line [] h = refl
put_first line (other ∷ others) h =
    ap (λ b. cond b (line ∷ other ∷ others) (other ∷ put_before line others))
    (tested _ (first _ _ h))

put_behind : (line other : LeafLine) (others : List LeafLine) → address_cmp other.0 line.0 ≡ Less
    → put_before line (other ∷ others) ≡ other ∷ put_before line others
put_behind line other others less =
    ap (λ b. cond b (line ∷ other ∷ others) (other ∷ put_before line others))
    (not_le line.0 other.0 less)

-- lines whose addresses rise stay as they are
in_order_rising : (lines : List LeafLine) → T (is_sorted address_cmp lines) → in_order lines ≡ lines
in_order_rising [] h = refl
in_order_rising (line ∷ lines) h =
    ap (put_before line) (in_order_rising lines (second _ _ h))
    ∙ put_first line lines (no_higher_below line.0 lines (first _ _ h))

-- a line below all others is the first
goes_first : (row : LeafLine) (variables rows : List LeafLine)
    → T (below_all address_cmp row.0 variables)
    → T (below_all address_cmp row.0 rows) → in_order (variables ++ row ∷ rows)
    ≡ row ∷ in_order (variables ++ rows)
goes_first row [] rows h k =
    put_first row (in_order rows) (no_higher_in_order row.0 rows (no_higher_below row.0 rows k))
goes_first row (variable ∷ variables) rows h k =
    ap (put_before variable) (goes_first row variables rows (second _ _ h) k)
    ∙ put_behind variable row (in_order (variables ++ rows)) (is_less _ (first _ _ h))

-- how many lines stand before the address
abbrev lower : Address → List LeafLine → ℕ
lower at lines = position_or_len (λ line. is_le (address_cmp at line.0)) lines

-- before the first variable are the rows that are lower
rows_before : (variable : LeafLine) (variables rows : List LeafLine)
    → T (below_all address_cmp variable.0 variables) → T (is_sorted address_cmp rows)
    → in_order (variable ∷ variables ++ rows)
    ≡ take (lower variable.0 rows) rows ++ (variable ∷ in_order
    (variables ++ drop (lower variable.0 rows) rows))
rows_before variable variables [] h k =
    put_first variable (in_order (variables ++ []))
    (no_higher_in_order variable.0 (variables ++ []) (no_higher-append variable.0 variables []
    (no_higher_below variable.0 variables h) tt))
rows_before variable variables (row ∷ rows) h k =
    by_test (is_le (address_cmp variable.0 row.0)) refl (rows_before variable variables rows h
    (second _ _ k))
  where
    one_more : (n : ℕ) → suc n ≡ 1 + n
    one_more n = omega arith

    by_test : (b : Bool) → is_le (address_cmp variable.0 row.0) ≡ b
        → in_order (variable ∷ variables ++ rows)
        ≡ take (lower variable.0 rows) rows ++ (variable ∷ in_order
        (variables ++ drop (lower variable.0 rows) rows))
        → in_order (variable ∷ variables ++ row ∷ rows)
        ≡ take (cond (not b) (1 + lower variable.0 rows) 0)
        (row ∷ rows) ++ (variable ∷ in_order (variables ++ drop
        (cond (not b) (1 + lower variable.0 rows) 0) (row ∷ rows)))
    by_test true e rest =
        let le : T (is_le (address_cmp variable.0 row.0)) = subst T (sym e) tt in
        put_first variable (in_order (variables ++ row ∷ rows))
        (no_higher_in_order variable.0 (variables ++ row ∷ rows)
        (no_higher-append variable.0 variables (row ∷ rows) (no_higher_below variable.0 variables h)
        (both _ _ le (no_higher_than variable.0 row.0 rows le (first _ _ k)))))
    by_test false e rest =
        let less = greater variable.0 row.0 e in
        goes_first row (variable ∷ variables) rows
        (both _ _ (subst (λ o. T (is_lt o)) (sym less) tt)
        (below_less address_total row.0 variable.0 variables less h))
        (first _ _ k)
        ∙ ap (λ lines. row ∷ lines) rest
        ∙ ap (λ n. take n (row ∷ rows) ++ (variable ∷ in_order (variables ++ drop n (row ∷ rows))))
        (one_more (lower variable.0 rows))

-- ---- lines of entries

module _ {X : Type 0} (text : Address × X → List ℕ) where
  abbrev pub line_of : Address × X → LeafLine
  line_of e = (e.0, text e)

  below_lines : (at : Address) (es : List (Address × X)) → below_all address_cmp at (map line_of es)
      ≡ below_all address_cmp at es
  below_lines at [] = refl
  below_lines at (e ∷ es) = ap (λ b. is_lt (address_cmp at e.0) && b) (below_lines at es)

  sorted_lines : (es : List (Address × X)) → is_sorted address_cmp (map line_of es)
      ≡ is_sorted address_cmp es
  sorted_lines [] = refl
  sorted_lines (e ∷ es) = λ i. below_lines e.0 es i && sorted_lines es i

  rising_lines : (es : List (Address × X)) → RiseStrictly es
      → T (is_sorted address_cmp (map line_of es))
  rising_lines es h = subst T (sym (sorted_lines es)) (rises es h)

  lower_lines : (at : Address) (es : List (Address × X))
      → lower at (map line_of es) ≡ position_or_len (λ e. is_le (address_cmp at e.0)) es
  lower_lines at [] = refl
  lower_lines at (e ∷ es) =
      ap (λ n. cond (not (is_le (address_cmp at e.0))) (1 + n) 0) (lower_lines at es)

-- ---- the loop over the variables

module _ {X : Type 0} (variable_text row_text : Address × X → List ℕ) where
  -- the lines of the variables and rows that are left, behind what stands there
  abbrev pub with_left : List ℕ → List (Address × X) → List (Address × X) → List ℕ
  with_left text variables rows =
      text ++ joined (in_order (map (line_of variable_text) variables ++ map
      (line_of row_text) rows))

  -- the rows before the first variable, and this variable, were pushed
  one_less : (v : Address × X) (vs rows before others : List (Address × X)) (n : ℕ)
      (start mid new : List ℕ)
      → T (is_sorted address_cmp (v ∷ vs)) → RiseStrictly rows
      → n ≡ position_or_len (λ e. is_le (address_cmp v.0 e.0)) rows → before ≡ take n rows
      → others ≡ drop n rows
      → mid ≡ start ++ joined (map (line_of row_text) before) → new ≡ mid ++ variable_text v
      → with_left new vs others ≡ with_left start (v ∷ vs) rows
  one_less v vs rows before others n start mid new rise rows_rise place before_is others_is
      rows_pushed pushed =
      let variable = line_of variable_text v in
      let variables = map (line_of variable_text) vs in
      let lines = map (line_of row_text) rows in
      let count : n ≡ lower v.0 lines = place ∙ sym (lower_lines row_text v.0 rows) in
      let front : map (line_of row_text) before ≡ take (lower v.0 lines) lines =
      ap (map (line_of row_text)) before_is ∙ sym (take-map (line_of row_text) n rows)
      ∙ ap (λ k. take k lines) count in
      let back : map (line_of row_text) others ≡ drop (lower v.0 lines) lines =
      ap (map (line_of row_text)) others_is ∙ sym (drop-map (line_of row_text) n rows)
      ∙ ap (λ k. drop k lines) count in
      let below : T (below_all address_cmp v.0 variables) =
      subst T (sym (below_lines variable_text v.0 vs)) (first _ _ rise) in
      let later = in_order (variables ++ map (line_of row_text) others) in
      ap (λ text. text ++ joined later) (pushed ∙ ap (λ text. text ++ variable_text v) rows_pushed)
      ∙ append_assoc (start ++ joined (map (line_of row_text) before)) (variable_text v)
      (joined later)
      ∙ append_assoc start (joined (map (line_of row_text) before))
      (variable_text v ++ joined later)
      ∙ ap (λ text. start ++ text) (sym (flat_map-append (λ l. l.1) (map (line_of row_text) before)
      (variable ∷ later)))
      ∙ (λ i. start ++ joined (front i ++ (variable ∷ in_order (variables ++ back i))))
      ∙ ap (λ ls. start ++ joined ls) (sym (rows_before variable variables lines below
      (rising_lines row_text rows rows_rise)))

  pub record AreLeft (text all : List ℕ) (variables rows : List (Address × X)) : Type 0 where
    pub rise : RiseStrictly rows
    pub whole : with_left text variables rows ≡ all

  pub less_left : (variables : List (Address × X)) (i : ℕ) (v : Address × X)
      (rows before others : List (Address × X)) (n : ℕ) (start mid new : List ℕ) {all : List ℕ}
      → RiseStrictly variables → (i < length variables) × (v ≡ slice_index_or variables i v)
      → AreLeft start all (drop i variables) rows
      → n ≡ position_or_len (λ e. is_le (address_cmp v.0 e.0)) rows → before ≡ take n rows
      → others ≡ drop n rows
      → mid ≡ start ++ joined (map (line_of row_text) before) → new ≡ mid ++ variable_text v
      → AreLeft new all (drop (i + 1) variables) others
  less_left variables i v rows before others n start mid new rise item left place before_is
      others_is rows_pushed pushed =
      let next : drop i variables ≡ v ∷ drop (i + 1) variables =
      drop_more variables i v item.0 ∙ ap (λ e. e ∷ drop (i + 1) variables) (sym item.1) in
      let sorted : T (is_sorted address_cmp (v ∷ drop (i + 1) variables)) =
      subst (λ es. T (is_sorted address_cmp es)) next (is_sorted-drop address_cmp i variables
      (rises variables rise)) in
      record {
        rise = subst (λ es. RiseStrictly es) (sym others_is)
            (record {
              rising = tested _ (is_sorted-drop address_cmp n rows (rises rows left.rise));
            });
        whole =
            one_less v (drop (i + 1) variables) rows before others n start mid new sorted left.rise
            place before_is others_is rows_pushed pushed
            ∙ sym (ap (λ vs. with_left start vs rows) next) ∙ left.whole;
      }

  -- no variable is left
  pub rows_left : (variables rows : List (Address × X)) (i : ℕ) (text : List ℕ) {all : List ℕ}
      → length variables ≤ i → AreLeft text all (drop i variables) rows
      → text ++ joined (map (line_of row_text) rows) ≡ all
  rows_left variables rows i text end left =
      ap (λ ls. text ++ joined ls) (sym (in_order_rising (map (line_of row_text) rows)
      (rising_lines row_text rows left.rise)))
      ∙ sym (at_drop_all (λ vs. with_left text vs rows) variables i end)
      ∙ left.whole

-- The edits that give each soft row its slacks lead to the rows of the relaxation.
use Rattle.std.specs.Prelude.{◌≡◌, ◌≢◌, ℕ, suc, ◌+◌, ◌<◌, ◌≤◌, Bool, true, false, cond, List, [], ◌∷◌, ◌++◌, All, AllPairs, Option, Some, bytes_eq, drop, find, is_some, length, map, nat_lt, not, take, refl}
use Rattle.std.specs.Option.{option_map_or}
use Rattle.std.proofs.Common.{ap, ap₂, arith, subst, sym, true≢false, ◌∙◌}
use Rattle.std.proofs.lemmas.Bool.{or_from}
use Rattle.std.proofs.lemmas.List.{append-nil, append_assoc, length-append, length-map, length-take-le, map-append, take-append-drop}
use Rattle.std.proofs.lemmas.List.Elements.{All-append, All-cons, All-head, All-nil, All-tail, All-weaker, filter-append}
use Rattle.std.proofs.lemmas.Slice.Eq.{bytes_eq-Decides}
use Rattle.limit_laws.specs.Leads.{Leads, PassesTests}
use Rattle.limit_laws.specs.LeadsLaws.{leads_both, leads_first, leads_none}
use Rattle.limit_laws.specs.NewNames.{none_passes, other_name}
use Rattle.map_laws.specs.EachLaws.{all_first, all_second, cons_head, cons_tail}
use Rattle.map_laws.specs.PairLaws.{AllPairs-head, AllPairs-tail}
use Rattle.ratio_core.specs.Rational.{Rational}
use Rattle.aff_core.specs.Address.{Address}
use Rattle.aff_core.specs.Function.{Function, with_coefficient}
use Rattle.model_laws.specs.Changed.{change_row-found}
use Rattle.numbered_list.specs.Laws.{Rise-head, Rise-tail}
use Rattle.numbered_list.specs.Numbered.{Rise, above, below, put, set_at}
use Rattle.numbered_list.specs.SetLaws.{above-all, above-none, below-all, below-none}
use Rattle.user_model.specs.declared.edit.Edit.TheVariants.{Coef}
use Rattle.user_model.specs.declared.function.UserFunc.{UserFunc}
use Rattle.user_model.specs.declared.row.Row.{Row}
use Rattle.user_model.specs.Edited.{edited, on_affine, row_number}
use Rattle.user_model.specs.Model.{ModelValue, address_named, row_named, variable_address}
use Rattle.user_model.specs.Functions.{is_scalar_affine}
use Rattle.user_model.specs.Refusals.{has_variable_named}
use Rattle.group_numbering.specs.PlaceLaws.{addresses_from, addresses_on, joined_alike, length-addresses_from}
use Rattle.relaxed_model.specs.Relaxed.{is_soft, relaxed_row, relaxed_rows, row_signs, signs_on, slack_count, with_slacks}
use Rattle.relaxed_model.specs.RowLaws.{with_func}
use Rattle.relaxed_model.specs.SoftOrHard.{SoftOrHard, of_hard, of_soft, soft_or_hard}
use Rattle.relaxation.specs.RelaxedEdits.{edits_in, edits_of_rows}

-- ---- one row

abbrev pub with_rows : ModelValue → List Row → ModelValue
with_rows model rows = record model { rows = rows }

abbrev on_func : (UserFunc → UserFunc) → Row → Row
on_func h r = record r { func = h r.func }

-- a row between others of lesser and greater numbers and other names
record IsBetween (before : List Row) (r : Row) (after : List Row) : Type 0 where
  pub low : All (λ (s : Row). s.id < r.id) before
  pub high : All (λ (s : Row). r.id < s.id) after
  pub other : All (λ (s : Row). s.name ≢ r.name) before

row_found : (before : List Row) (r : Row) (after : List Row)
    → All (λ (s : Row). s.name ≢ r.name) before
    → find (λ (s : Row). bytes_eq s.name r.name) (before ++ r ∷ after) ≡ Some r
row_found [] r after other =
    ap (λ b. cond b (Some r) (find (λ (s : Row). bytes_eq s.name r.name) after))
    ((bytes_eq-Decides r.name r.name).1 refl)
row_found (s ∷ before) r after other =
    ap (λ b. cond b (Some s) (find (λ (s : Row). bytes_eq s.name r.name) (before ++ r ∷ after)))
    (other_name s.name r.name (All-head (λ (s : Row). s.name ≢ r.name) s before other))
    ∙ row_found before r after (All-tail (λ (s : Row). s.name ≢ r.name) s before other)

-- another row of its number takes its place
put_between : (before : List Row) (r q : Row) (after : List Row) → IsBetween before r after
    → q.id ≡ r.id → put row_number q (before ++ r ∷ after) ≡ before ++ q ∷ after
unfolding set_at
put_between before r q after between same =
    ap₂ (λ few many. few ++ q ∷ many) lesser greater
  where
    lesser : below row_number q.id (before ++ r ∷ after) ≡ before
    lesser =
        ap (λ n. below row_number n (before ++ r ∷ after)) same
        ∙ filter-append (λ (s : Row). nat_lt s.id r.id) before (r ∷ after)
        ∙ ap₂ (λ few many. few ++ many) (below-all row_number r.id before between.low)
        (below-none row_number r.id (r ∷ after)
        (All-cons (λ (s : Row). r.id ≤ s.id) r after (omega arith)
        (All-weaker (λ (s : Row). r.id < s.id) (λ (s : Row). r.id ≤ s.id)
        (λ s h. omega (arith, h)) after between.high)))
        ∙ append-nil before

    greater : above row_number q.id (before ++ r ∷ after) ≡ after
    greater =
        ap (λ n. above row_number n (before ++ r ∷ after)) same
        ∙ filter-append (λ (s : Row). nat_lt r.id s.id) before (r ∷ after)
        ∙ ap₂ (λ few many. few ++ many)
        (above-none row_number r.id before
        (All-weaker (λ (s : Row). s.id < r.id) (λ (s : Row). s.id ≤ r.id)
        (λ s h. omega (arith, h)) before between.low))
        (filter-append (λ (s : Row). nat_lt r.id s.id) (r ∷ []) after
        ∙ ap₂ (λ few many. few ++ many)
        (above-none row_number r.id (r ∷ [])
        (All-cons (λ (s : Row). s.id ≤ r.id) r [] (omega arith)
        (All-nil (λ (s : Row). s.id ≤ r.id))))
        (above-all row_number r.id after between.high))

one_changed : (model : ModelValue) (before : List Row) (r : Row) (after : List Row)
    → IsBetween before r after → (name : List ℕ) (q : Rational)
    → edited (with_rows model (before ++ r ∷ after)) (Coef r.name name q)
    ≡ with_rows model (before ++ on_func
    (on_affine (λ f. with_coefficient f (address_named model name) q)) r ∷ after)
unfolding edited
one_changed model before r after between name q =
    change_row-found (with_rows model (before ++ r ∷ after)) r.name
    (on_func (on_affine (λ f. with_coefficient f (address_named model name) q))) r
    (row_found before r after between.other)
    ∙ ap (with_rows model) (put_between before r
    (on_func (on_affine (λ f. with_coefficient f (address_named model name) q)) r) after between
    refl)

-- a coefficient of a variable that is there, in a soft row
one_passes : (model : ModelValue) (before : List Row) (r : Row) (after : List Row)
    → IsBetween before r after → is_soft r ≡ true → (name : List ℕ) (q : Rational)
    → has_variable_named model name ≡ true
    → PassesTests (with_rows model (before ++ r ∷ after)) (Coef r.name name q)
one_passes model before r after between soft name q known =
    let found : row_named (with_rows model (before ++ r ∷ after)) r.name ≡ Some r =
    row_found before r after between.other in
    let is_unknown : List ℕ → Bool = λ other. not (has_variable_named model other) in record {
      known = or_from _ _
          (none_passes is_unknown (name ∷ [])
          (All-cons (λ other. is_unknown other ≡ false) name [] (ap not known)
          (All-nil (λ other. is_unknown other ≡ false))))
          (ap (λ (o : Option Row). not (is_some o)) found);
      free = refl;
      shaped = ap (λ (o : Option Row). option_map_or (λ (s : Row). not (is_scalar_affine s.func)) o false) found
          ∙ ap not soft;
      dimension = refl;
      output = refl;
      interval = refl;
      lower = refl;
      upper = refl;
      of_type = refl;
      deletable = refl;
    }

-- a soft row stays one
soft_stays : (h : Function → Function) (func : UserFunc) → is_scalar_affine func ≡ true
    → is_scalar_affine (on_affine h func) ≡ true
soft_stays h func = by (soft_or_hard func)
  where
    by : {func : UserFunc} → SoftOrHard func → is_scalar_affine func ≡ true
        → is_scalar_affine (on_affine h func) ≡ true
    by (of_soft f) e = refl
    by (of_hard isnt same) e = absurd (true≢false (sym e ∙ isnt))

slacks_twice : (n : ℕ) (q : Rational) (qs : List Rational) (func : UserFunc)
    → on_affine (with_slacks (suc n) qs) (on_affine
    (λ f. with_coefficient f (variable_address n) q) func)
    ≡ on_affine (with_slacks n (q ∷ qs)) func
slacks_twice n q qs func = by (soft_or_hard func)
  where
    by : {func : UserFunc} → SoftOrHard func
        → on_affine (with_slacks (suc n) qs) (on_affine
        (λ f. with_coefficient f (variable_address n) q) func)
        ≡ on_affine (with_slacks n (q ∷ qs)) func
    by (of_soft f) = refl
    by (of_hard isnt same) =
        ap (on_affine (with_slacks (suc n) qs))
        (same (λ f. with_coefficient f (variable_address n) q))
        ∙ same (with_slacks (suc n) qs)
        ∙ sym (same (with_slacks n (q ∷ qs)))

no_slacks : (n : ℕ) (func : UserFunc) → func ≡ on_affine (with_slacks n []) func
no_slacks n func = by (soft_or_hard func)
  where
    by : {func : UserFunc} → SoftOrHard func → func ≡ on_affine (with_slacks n []) func
    by (of_soft f) = refl
    by (of_hard isnt same) = sym (same (with_slacks n []))

abbrev pub AreKnown : ModelValue → List (List ℕ) → Type 0
AreKnown model names = All (λ name. has_variable_named model name ≡ true) names

-- the edits of one row's slacks, which are found at the numbers from n on
row_leads : (model : ModelValue) (before : List Row) (r : Row) (after : List Row)
    → IsBetween before r after → (n : ℕ) (names : List (List ℕ)) (qs : List Rational)
    → length names ≡ length qs → (1 ≤ length qs → is_soft r ≡ true) → AreKnown model names
    → map (address_named model) names ≡ addresses_from n (length names)
    → Leads (with_rows model (before ++ r ∷ after)) (edits_in r.name names qs)
    (with_rows model (before ++ on_func (on_affine (with_slacks n qs)) r ∷ after))
row_leads model before r after between n [] [] size soft known located = record {
  passes = tt;
  is = ap (λ (func : UserFunc). with_rows model (before ++ record r { func = func } ∷ after))
      (no_slacks n r.func);
}
row_leads model before r after between n [] (q ∷ qs) size soft known located =
    absurd (omega (arith, size))
row_leads model before r after between n (name ∷ names) [] size soft known located =
    absurd (omega (arith, size))
row_leads model before r after between n (name ∷ names) (q ∷ qs) size soft known located =
    let at : address_named model name ≡ variable_address n =
    cons_head (address_named model name) (variable_address n) (map (address_named model) names)
    (addresses_from (suc n) (length names)) located in
    let next : Row =
    on_func (on_affine (λ f. with_coefficient f (variable_address n) q)) r in
    let is_soft_row : is_soft r ≡ true = soft (omega arith) in
    let others : Leads (with_rows model (before ++ next ∷ after)) (edits_in r.name names qs)
    (with_rows model (before ++ on_func (on_affine (with_slacks (suc n) qs)) next ∷ after)) =
    row_leads model before next after
    (record { low = between.low; high = between.high; other = between.other }) (suc n) names qs
    (omega (arith, size))
    (λ some. soft_stays (λ f. with_coefficient f (variable_address n) q) r.func is_soft_row)
    (All-tail (λ name. has_variable_named model name ≡ true) name names known)
    (cons_tail (address_named model name) (variable_address n) (map (address_named model) names)
    (addresses_from (suc n) (length names)) located) in
    leads_first (Coef r.name name q) (edits_in r.name names qs)
    (with_rows model (before ++ r ∷ after)) (with_rows model (before ++ next ∷ after))
    (with_rows model (before ++ on_func (on_affine (with_slacks n (q ∷ qs))) r ∷ after))
    (one_passes model before r after between is_soft_row name q
    (All-head (λ name. has_variable_named model name ≡ true) name names known))
    (one_changed model before r after between name q
    ∙ ap (λ (a : Address). with_rows model (before ++ on_func
    (on_affine (λ f. with_coefficient f a q)) r ∷ after)) at)
    (subst (λ (func : UserFunc). Leads (with_rows model (before ++ next ∷ after))
    (edits_in r.name names qs) (with_rows model (before ++ record r { func = func } ∷ after)))
    (slacks_twice n q qs r.func) others)

-- a row with the slacks of its own is the row relaxed
row_relaxed : (n : ℕ) (r : Row) → on_func (on_affine (with_slacks n (row_signs r))) r
    ≡ relaxed_row n r
row_relaxed n r = by (soft_or_hard r.func)
  where
    by : {func : UserFunc} → SoftOrHard func
        → on_func (on_affine (with_slacks n (row_signs (with_func r func)))) (with_func r func)
        ≡ relaxed_row n (with_func r func)
    by (of_soft f) = refl
    by (of_hard {func} isnt same) = ap (with_func r)
        (same (with_slacks n (row_signs (with_func r func)))
        ∙ sym (same (with_slacks n (signs_on r.set))))

-- a row that has slacks is soft
has_slacks : (r : Row) → 1 ≤ length (row_signs r) → is_soft r ≡ true
has_slacks r some = by (is_soft r) some
  where
    by : (b : Bool) → 1 ≤ length (cond b (signs_on r.set) []) → b ≡ true
    by true some = refl
    by false some = absurd (omega (arith, some))

-- ---- all rows

-- the rows that are still to be relaxed, after those that are
pub record AreBehind (before rows : List Row) : Type 0 where
  pub rise : Rise row_number rows
  pub low : All (λ (r : Row). All (λ (s : Row). s.id < r.id) before) rows
  pub apart : AllPairs (λ (r s : Row). r.name ≢ s.name) rows
  pub other : All (λ (r : Row). All (λ (s : Row). s.name ≢ r.name) before) rows

between_of : (before : List Row) (r : Row) (rows : List Row) → AreBehind before (r ∷ rows)
    → IsBetween before r rows
between_of before r rows behind = record {
  low = All-head (λ (r : Row). All (λ (s : Row). s.id < r.id) before) r rows behind.low;
  high = Rise-head row_number r rows behind.rise;
  other = All-head (λ (r : Row). All (λ (s : Row). s.name ≢ r.name) before) r rows behind.other;
}

-- a row of this number and name joins those before
one_behind : (before : List Row) (r q : Row) (rows : List Row) → AreBehind before (r ∷ rows)
    → q.id ≡ r.id → q.name ≡ r.name → AreBehind (before ++ q ∷ []) rows
one_behind before r q rows behind same_id same_name = record {
  rise = Rise-tail row_number r rows behind.rise;
  low = All-weaker
      (λ (t : Row). (r.id < t.id) × All (λ (s : Row). s.id < t.id) before)
      (λ (t : Row). All (λ (s : Row). s.id < t.id) (before ++ q ∷ []))
      (λ t both. All-append (λ (s : Row). s.id < t.id) before (q ∷ []) both.1
      (All-cons (λ (s : Row). s.id < t.id) q []
      (let less = both.0 in omega (arith, less, same_id))
      (All-nil (λ (s : Row). s.id < t.id)))) rows
      (λ k d end. (
        Rise-head row_number r rows behind.rise k d end,
        All-tail (λ (r : Row). All (λ (s : Row). s.id < r.id) before) r rows behind.low k d end,
      ));
  apart = AllPairs-tail (λ (r s : Row). r.name ≢ s.name) r rows behind.apart;
  other = All-weaker
      (λ (t : Row). (r.name ≢ t.name) × All (λ (s : Row). s.name ≢ t.name) before)
      (λ (t : Row). All (λ (s : Row). s.name ≢ t.name) (before ++ q ∷ []))
      (λ t both. All-append (λ (s : Row). s.name ≢ t.name) before (q ∷ []) both.1
      (All-cons (λ (s : Row). s.name ≢ t.name) q [] (λ e. both.0 (sym same_name ∙ e))
      (All-nil (λ (s : Row). s.name ≢ t.name)))) rows
      (λ k d end. (
        AllPairs-head (λ (r s : Row). r.name ≢ s.name) r rows behind.apart k d end,
        All-tail (λ (r : Row). All (λ (s : Row). s.name ≢ r.name) before) r rows behind.other k d
            end,
      ));
}

-- all rows are relaxed, whose slacks are found at the numbers from n on
pub rows_lead : (model : ModelValue) (rows before : List Row) (n : ℕ) (names : List (List ℕ))
    → AreBehind before rows → length names ≡ slack_count rows → AreKnown model names
    → map (address_named model) names ≡ addresses_from n (length names)
    → Leads (with_rows model (before ++ rows)) (edits_of_rows rows names)
    (with_rows model (before ++ relaxed_rows n rows))
rows_lead model [] before n names behind size known located = leads_none (with_rows model (before ++ []))
rows_lead model (r ∷ rows) before n names behind size known located =
    let own : ℕ = length (row_signs r) in
    let mine : List (List ℕ) = take own names in
    let others : List (List ℕ) = drop own names in
    let whole : mine ++ others ≡ names = take-append-drop own names in
    let mine_size : length mine ≡ own = length-take-le own names (omega (arith, size)) in
    let others_size : length others ≡ slack_count rows =
    omega (arith, size, mine_size, ap length whole, length-append mine others) in
    let all_known : AreKnown model (mine ++ others) = subst (AreKnown model) (sym whole) known in
    let both = joined_alike (map (address_named model) mine) (map (address_named model) others)
    (addresses_from n own) (addresses_from (n + own) (slack_count rows))
    (length-map mine (address_named model) ∙ mine_size ∙ sym (length-addresses_from n own))
    (sym (map-append (address_named model) mine others)
    ∙ ap (map (address_named model)) whole ∙ located ∙ ap (addresses_from n) size
    ∙ addresses_on n own (slack_count rows)) in
    let first : Row = relaxed_row n r in
    let from : ModelValue = with_rows model (before ++ r ∷ rows) in
    let middle : ModelValue = with_rows model ((before ++ first ∷ []) ++ rows) in
    leads_both (edits_in r.name mine (row_signs r)) (edits_of_rows rows others) from middle
    (with_rows model (before ++ first ∷ relaxed_rows (n + own) rows))
    (subst (Leads from (edits_in r.name mine (row_signs r)))
    (ap (λ (q : Row). with_rows model (before ++ q ∷ rows)) (row_relaxed n r)
    ∙ ap (with_rows model) (sym (append_assoc before (first ∷ []) rows)))
    (row_leads model before r rows (between_of before r rows behind) n mine (row_signs r) mine_size
    (has_slacks r) (all_first (λ name. has_variable_named model name ≡ true) mine others all_known)
    (both.0 ∙ ap (addresses_from n) (sym mine_size))))
    (subst (Leads middle (edits_of_rows rows others))
    (ap (with_rows model) (append_assoc before (first ∷ []) (relaxed_rows (n + own) rows)))
    (rows_lead model rows (before ++ first ∷ []) (n + own) others
    (one_behind before r first rows behind refl refl) others_size
    (all_second (λ name. has_variable_named model name ≡ true) mine others all_known)
    (both.1 ∙ ap (addresses_from (n + own)) (sym others_size))))

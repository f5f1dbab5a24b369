-- Several steps one after another, and what they make together.
use Rattle.std.specs.Prelude.{◌≡◌, ◌⊎◌, ◌+◌, ◌++◌, ℕ, List, [], ◌∷◌, All, AllPairs, Contains, IsSome, is_some, map, refl}
use Rattle.std.specs.FinMap as finite
use Rattle.std.specs.FinMap.{FinMap}
use Rattle.std.proofs.Common.{inl, inr, arith, sym, ◌∙◌, ap, subst}
use Rattle.std.proofs.lemmas.List.{map-append, append_assoc}
use Rattle.std.proofs.lemmas.List.Elements.{All-cons, All-head, All-nil, All-tail, All-weaker, Contains-append_left, Contains-append_right}
use Rattle.aff_core.specs.Address.{Address, address_cmp, address_total, exact_addresses}
use Rattle.aff_core.specs.KeyOrder.{address_order, same_or_other}
use Rattle.address_map.specs.AddressMap.{AddressMap}
use Rattle.item_core.specs.declared.item.Body.{Body}
use Rattle.leaf_update.specs.CoverLaws.{row_where}
use Rattle.leaf_update.specs.Named.{NamesEach}
use Rattle.leaf_update.specs.Puts.{put_all, rows_in, variables_in}
use Rattle.leaf_model.specs.LeafModel.{Differ, IsCountOf}
use Rattle.map_laws.specs.EachLaws.{all_both, all_first, all_second, contains_here, contains_later}
use Rattle.map_laws.specs.PairLaws.{AllPairs-first, AllPairs-head, AllPairs-second, AllPairs-tail}
use Rattle.solver_store.specs.SolverModel.{Leaves}
use Rattle.solver_store.specs.declared.leaf.LeafVar.{LeafVar}
use Rattle.leaf_update.specs.Steps.{CallsAtMost, CountsFrom, DropsRow, SetsRow, SetsVariable, StaysBeside, StaysBesideRows}
use Rattle.leaf_update.proofs.Counted.{contains_first}
use Rattle.leaf_update.specs.SplicedLaws.{get_beside, get_gone, get_left, get_past, get_put}
use Rattle.leaf_update.specs.Splice.{HaveDistinctKeys, keys_of, without_all}
use Rattle.leaf_update.specs.Phases.{ChangesAtKeys, DropsRows, SetsRows, SetsVariables}

-- ---- keys that are apart

no_contains : (k : Address) → ¬ (Contains [] k)
no_contains k c = absurd (omega (arith, c.1))

-- those of the second list stand not in the first
pub apart_across : (ks ls : List Address) → AllPairs (λ a b. ¬ (b ≡ a)) (ks ++ ls)
    → All (λ k. ¬ (Contains ks k)) ls
apart_across [] ls h = each ls
  where
    each : (ls : List Address) → All (λ k. ¬ (Contains [] k)) ls
    each [] = All-nil (λ k. ¬ (Contains [] k))
    each (l ∷ ls) = All-cons (λ k. ¬ (Contains [] k)) l ls (no_contains l) (each ls)
apart_across (x ∷ ks) ls h =
    All-weaker (λ k. (¬ (k ≡ x)) × (¬ (Contains ks k))) (λ k. ¬ (Contains (x ∷ ks) k))
    (λ k n c. from k n (contains_first x k ks c)) ls
    (all_both (λ k. ¬ (k ≡ x)) (λ k. ¬ (Contains ks k)) ls
    (all_second (λ k. ¬ (k ≡ x)) ks ls (AllPairs-head (λ a b. ¬ (b ≡ a)) x (ks ++ ls) h))
    (apart_across ks ls (AllPairs-tail (λ a b. ¬ (b ≡ a)) x (ks ++ ls) h)))
  where
    from : (k : Address) → (¬ (k ≡ x)) × (¬ (Contains ks k)) → (k ≡ x) ⊎ Contains ks k → ⊥
    from k n (inl e) = n.0 e
    from k n (inr c) = n.1 c

-- of all there are, some, the next, and the rest
pub next_apart : (all ks ls rest : List Address) → AllPairs (λ a b. ¬ (b ≡ a)) all
    → ks ++ (ls ++ rest) ≡ all → All (λ k. ¬ (Contains ks k)) ls
next_apart all ks ls rest h e =
    apart_across ks ls (AllPairs-first (λ a b. ¬ (b ≡ a)) (ks ++ ls) rest
    (subst (AllPairs (λ a b. ¬ (b ≡ a))) (sym e ∙ sym (append_assoc ks ls rest)) h))

-- and these are apart
pub these_apart : (all ks ls rest : List Address) → AllPairs (λ a b. ¬ (b ≡ a)) all
    → ks ++ (ls ++ rest) ≡ all → AllPairs (λ a b. ¬ (b ≡ a)) ls
these_apart all ks ls rest h e =
    AllPairs-first (λ a b. ¬ (b ≡ a)) ls rest
    (AllPairs-second (λ a b. ¬ (b ≡ a)) ks (ls ++ rest)
    (subst (AllPairs (λ a b. ¬ (b ≡ a))) (sym e) h))

module _ {X : Type 0} where
  pub changes_none : (m : FinMap address_cmp X) → ChangesAtKeys m m [] 0
  changes_none m = record {
    outside = λ q h. refl;
    counts = λ start h k c. subst (IsCountOf (Differ start m)) (zero_more k) c;
  }
    where
      zero_more : (k : ℕ) → k ≡ k + 0
      zero_more k = omega arith

  pub changes_one : (m n : FinMap address_cmp X) (at : Address) (c : ℕ)
      → ((q : Address) → ¬ (q ≡ at) → finite.get n q ≡ finite.get m q)
      → CountsFrom m n at c → ChangesAtKeys m n (at ∷ []) c
  changes_one m n at c beside counts = record {
    outside = λ q h. beside q (λ e. h (subst (Contains (at ∷ [])) (sym e) (contains_here at [])));
    counts = λ start h. counts start
        (All-head (λ at. finite.get m at ≡ finite.get start at) at [] h);
  }

  pub changes_both : (m n o : FinMap address_cmp X) (ks ls : List Address) (c d : ℕ)
      → ChangesAtKeys m n ks c → ChangesAtKeys n o ls d → All (λ k. ¬ (Contains ks k)) ls
      → ChangesAtKeys m o (ks ++ ls) (c + d)
  changes_both m n o ks ls c d first second apart = record {
    outside = λ q h.
        second.outside q (λ k. h (Contains-append_right ks ls q k))
        ∙ first.outside q (λ k. h (Contains-append_left ks ls q k));
    counts = λ start h k counts. subst (IsCountOf (Differ start o)) (add k c d)
        (second.counts start
        (All-weaker (λ at. (finite.get m at ≡ finite.get start at) × (¬ (Contains ks at)))
        (λ at. finite.get n at ≡ finite.get start at) (λ at p. first.outside at p.1 ∙ p.0) ls
        (all_both (λ at. finite.get m at ≡ finite.get start at) (λ at. ¬ (Contains ks at)) ls
        (all_second (λ at. finite.get m at ≡ finite.get start at) ks ls h) apart)) (k + c)
        (first.counts start (all_first (λ at. finite.get m at ≡ finite.get start at) ks ls h) k
        counts));
  }
    where
      add : (k c d : ℕ) → k + c + d ≡ k + (c + d)
      add k c d = omega arith

  -- ---- maps

  pub put_all_both : (m : FinMap address_cmp X) (es fs : List (Address × X))
      → put_all m (es ++ fs) ≡ put_all (put_all m es) fs
  put_all_both m [] fs = refl
  put_all_both m (e ∷ es) fs = put_all_both (finite.insert m e.0 e.1) es fs

  pub without_both : (m : FinMap address_cmp X) (ks ls : List Address)
      → without_all m (ks ++ ls) ≡ without_all (without_all m ks) ls
  without_both m [] ls = refl
  without_both m (k ∷ ks) ls = without_both (finite.remove m k) ks ls

  -- what is put beside one that is taken out
  put_beside : (m : FinMap address_cmp X) (at k : Address) (x : X) → ¬ (at ≡ k)
      → finite.remove (finite.insert m k x) at ≡ finite.insert (finite.remove m at) k x
  put_beside m at k x n = finite.same_map address_total exact_addresses _ _ (λ q.
      same_or_other address_order _ q at
      (λ e. ap (finite.get (finite.remove (finite.insert m k x) at)) e
      ∙ get_gone address_order (finite.insert m k x) at
      ∙ sym (ap (finite.get (finite.insert (finite.remove m at) k x)) e
      ∙ get_past address_order (finite.remove m at) k x at n ∙ get_gone address_order m at))
      (λ other. get_beside address_order (finite.insert m k x) at q other
      ∙ same_or_other address_order _ q k
      (λ e. ap (finite.get (finite.insert m k x)) e ∙ get_put address_order m k x
      ∙ sym (ap (finite.get (finite.insert (finite.remove m at) k x)) e
      ∙ get_put address_order (finite.remove m at) k x))
      (λ past. get_past address_order m k x q past
      ∙ sym (get_past address_order (finite.remove m at) k x q past
      ∙ get_beside address_order m at q other))))

  put_all_beside : (m : FinMap address_cmp X) (at : Address) (es : List (Address × X))
      → All (λ e. ¬ (at ≡ e.0)) es
      → finite.remove (put_all m es) at ≡ put_all (finite.remove m at) es
  put_all_beside m at [] h = refl
  put_all_beside m at (e ∷ es) h =
      put_all_beside (finite.insert m e.0 e.1) at es (All-tail (λ e. ¬ (at ≡ e.0)) e es h)
      ∙ ap (λ n. put_all n es) (put_beside m at e.0 e.1 (All-head (λ e. ¬ (at ≡ e.0)) e es h))

  -- so it is one whether what goes does so before or after
  pub spliced_after : (m : FinMap address_cmp X) (gone : List Address) (es : List (Address × X))
      → All (λ e. ¬ (Contains gone e.0)) es
      → without_all (put_all m es) gone ≡ put_all (without_all m gone) es
  spliced_after m [] es h = refl
  spliced_after m (at ∷ gone) es h =
      ap (λ n. without_all n gone)
      (put_all_beside m at es (All-weaker (λ e. ¬ (Contains (at ∷ gone) e.0)) (λ e. ¬ (at ≡ e.0))
      (λ e k s. k (subst (Contains (at ∷ gone)) s (contains_here at gone))) es h))
      ∙ spliced_after (finite.remove m at) gone es
      (All-weaker (λ e. ¬ (Contains (at ∷ gone) e.0)) (λ e. ¬ (Contains gone e.0))
      (λ e k c. k (contains_later at e.0 gone c)) es h)

-- ---- calls and indices

pub calls_none : (leaves : Leaves) → CallsAtMost leaves leaves 0
calls_none leaves = record { rises = omega arith; bound = omega arith }

pub calls_both : (a b c : Leaves) (n m : ℕ) → CallsAtMost a b n → CallsAtMost b c m
    → CallsAtMost a c (n + m)
calls_both a b c n m first second = record {
  rises = omega (arith, first.rises, second.rises);
  bound = omega (arith, first.bound, second.bound);
}

pub beside_both : (a b c : AddressMap) (x y z : Leaves) → StaysBeside a x b y → StaysBeside b y c z
    → StaysBeside a x c z
beside_both a b c x y z first second = record {
  named = second.named;
  rows = second.rows ∙ first.rows;
  objective = second.objective ∙ first.objective;
  row_places = second.row_places ∙ first.row_places;
  rest = second.rest ∙ first.rest;
}

pub beside_rows_both : (a b c : AddressMap) (x y z : Leaves) → StaysBesideRows a x b y
    → StaysBesideRows b y c z → StaysBesideRows a x c z
beside_rows_both a b c x y z first second = record {
  named = second.named;
  var_places = second.var_places ∙ first.var_places;
  vars = second.vars ∙ first.vars;
  objective = second.objective ∙ first.objective;
  rest = second.rest ∙ first.rest;
}

-- ---- several leaf variables are set

pub sets_none : (map : AddressMap) (leaves : Leaves) → NamesEach map leaves
    → SetsVariables map leaves [] 0 map leaves
sets_none map leaves names = record {
  beside = record { named = names; rows = refl; objective = refl; row_places = refl; rest = refl };
  set = refl;
  extends = λ at i e. e;
  calls = calls_none leaves;
  changes = changes_none (variables_in map leaves);
}

pub sets_one : (old : AddressMap) (leaves : Leaves) (at : Address) (var : LeafVar) (n : ℕ)
    (new : AddressMap) (after : Leaves) → SetsVariable old leaves at var n new after
    → SetsVariables old leaves ((at, var) ∷ []) n new after
sets_one old leaves at var n new after step = record {
  beside = step.beside;
  set = step.set;
  extends = step.extends;
  calls = step.calls;
  changes = changes_one (variables_in old leaves) (variables_in new after) at n
      (λ q k. ap (λ o. finite.get o q) step.set
      ∙ get_past address_order (variables_in old leaves) at var q k) step.counts;
}

pub sets_both : (a b c : AddressMap) (x y z : Leaves) (es fs : List (Address × LeafVar)) (n m : ℕ)
    → SetsVariables a x es n b y → SetsVariables b y fs m c z
    → All (λ k. ¬ (Contains (keys_of es) k)) (keys_of fs)
    → SetsVariables a x (es ++ fs) (n + m) c z
sets_both a b c x y z es fs n m first second apart = record {
  beside = beside_both a b c x y z first.beside second.beside;
  set = second.set ∙ ap (λ m. put_all m fs) first.set ∙ sym (put_all_both (variables_in a x) es fs);
  extends = λ at i e. second.extends at i (first.extends at i e);
  calls = calls_both x y z n m first.calls second.calls;
  changes = subst (λ ks. ChangesAtKeys (variables_in a x) (variables_in c z) ks (n + m))
      (sym (map-append (λ e. e.0) es fs))
      (changes_both (variables_in a x) (variables_in b y) (variables_in c z) (keys_of es)
      (keys_of fs) n m first.changes second.changes apart);
}

-- ---- several rows are set, or taken out

pub sets_no_row : (map : AddressMap) (leaves : Leaves) → NamesEach map leaves
    → SetsRows map leaves [] 0 map leaves
sets_no_row map leaves names = record {
  beside = record { named = names; var_places = refl; vars = refl; objective = refl; rest = refl };
  set = refl;
  extends = λ at i e. e;
  calls = calls_none leaves;
  changes = changes_none (rows_in map leaves);
}

pub sets_one_row : (old : AddressMap) (leaves : Leaves) (at : Address) (body : Body) (n : ℕ)
    (new : AddressMap) (after : Leaves) → SetsRow old leaves at body n new after
    → SetsRows old leaves ((at, body) ∷ []) n new after
sets_one_row old leaves at body n new after step = record {
  beside = step.beside;
  set = step.set;
  extends = step.extends;
  calls = step.calls;
  changes = changes_one (rows_in old leaves) (rows_in new after) at n
      (λ q k. ap (λ o. finite.get o q) step.set
      ∙ get_past address_order (rows_in old leaves) at body q k) step.counts;
}

pub sets_rows_both : (a b c : AddressMap) (x y z : Leaves) (es fs : List (Address × Body)) (n m : ℕ)
    → SetsRows a x es n b y → SetsRows b y fs m c z
    → All (λ k. ¬ (Contains (keys_of es) k)) (keys_of fs)
    → SetsRows a x (es ++ fs) (n + m) c z
sets_rows_both a b c x y z es fs n m first second apart = record {
  beside = beside_rows_both a b c x y z first.beside second.beside;
  set = second.set ∙ ap (λ m. put_all m fs) first.set ∙ sym (put_all_both (rows_in a x) es fs);
  extends = λ at i e. second.extends at i (first.extends at i e);
  calls = calls_both x y z n m first.calls second.calls;
  changes = subst (λ ks. ChangesAtKeys (rows_in a x) (rows_in c z) ks (n + m))
      (sym (map-append (λ e. e.0) es fs))
      (changes_both (rows_in a x) (rows_in b y) (rows_in c z) (keys_of es)
      (keys_of fs) n m first.changes second.changes apart);
}

pub drops_no_row : (map : AddressMap) (leaves : Leaves) → NamesEach map leaves
    → DropsRows map leaves [] 0 map leaves
drops_no_row map leaves names = record {
  beside = record { named = names; var_places = refl; vars = refl; objective = refl; rest = refl };
  dropped = refl;
  extends = λ at i e. e;
  calls = calls_none leaves;
  changes = changes_none (rows_in map leaves);
}

pub drops_one_row : (old : AddressMap) (leaves : Leaves) (at : Address) (n : ℕ)
    (new : AddressMap) (after : Leaves) → DropsRow old leaves at n new after
    → DropsRows old leaves (at ∷ []) n new after
drops_one_row old leaves at n new after step = record {
  beside = step.beside;
  dropped = step.dropped;
  extends = step.extends;
  calls = step.calls;
  changes = changes_one (rows_in old leaves) (rows_in new after) at n
      (λ q k. ap (λ o. finite.get o q) step.dropped
      ∙ get_beside address_order (rows_in old leaves) at q k) step.counts;
}

pub drops_rows_both : (a b c : AddressMap) (x y z : Leaves) (ks ls : List Address) (n m : ℕ)
    → DropsRows a x ks n b y → DropsRows b y ls m c z → All (λ k. ¬ (Contains ks k)) ls
    → DropsRows a x (ks ++ ls) (n + m) c z
drops_rows_both a b c x y z ks ls n m first second apart = record {
  beside = beside_rows_both a b c x y z first.beside second.beside;
  dropped = second.dropped ∙ ap (λ m. without_all m ls) first.dropped
      ∙ sym (without_both (rows_in a x) ks ls);
  extends = λ at i e. first.extends at i (second.extends at i e);
  calls = calls_both x y z n m first.calls second.calls;
  changes = changes_both (rows_in a x) (rows_in b y) (rows_in c z) ks ls n m first.changes
      second.changes apart;
}

-- ---- a loop: those so far, these, and the rest are all

module _ {X : Type 0} (all es fs rest : List (Address × X)) (e : es ++ (fs ++ rest) ≡ all) where
  keys_are : keys_of es ++ (keys_of fs ++ keys_of rest) ≡ keys_of all
  keys_are =
      sym (map-append (λ e. e.0) es (fs ++ rest)
      ∙ ap (λ ks. keys_of es ++ ks) (map-append (λ e. e.0) fs rest)) ∙ ap keys_of e

  pub next_keys : HaveDistinctKeys all → All (λ k. ¬ (Contains (keys_of es) k)) (keys_of fs)
  next_keys h = next_apart (keys_of all) (keys_of es) (keys_of fs) (keys_of rest) h keys_are

  pub these_keys : HaveDistinctKeys all → HaveDistinctKeys fs
  these_keys h = these_apart (keys_of all) (keys_of es) (keys_of fs) (keys_of rest) h keys_are

pub sets_more : (a b c : AddressMap) (x y z : Leaves) (all es fs rest : List (Address × LeafVar))
    (n m : ℕ) → HaveDistinctKeys all → es ++ (fs ++ rest) ≡ all → SetsVariables a x es n b y
    → SetsVariables b y fs m c z
    → (ds : List (Address × LeafVar)) × (ds ++ rest ≡ all) × SetsVariables a x ds (n + m) c z
sets_more a b c x y z all es fs rest n m h e first second = (
  es ++ fs,
  append_assoc es fs rest ∙ e,
  sets_both a b c x y z es fs n m first second (next_keys all es fs rest e h),
)

pub sets_rows_more : (a b c : AddressMap) (x y z : Leaves) (all es fs rest : List (Address × Body))
    (n m : ℕ) → HaveDistinctKeys all → es ++ (fs ++ rest) ≡ all → SetsRows a x es n b y
    → SetsRows b y fs m c z
    → (ds : List (Address × Body)) × (ds ++ rest ≡ all) × SetsRows a x ds (n + m) c z
sets_rows_more a b c x y z all es fs rest n m h e first second = (
  es ++ fs,
  append_assoc es fs rest ∙ e,
  sets_rows_both a b c x y z es fs n m first second (next_keys all es fs rest e h),
)

pub drops_rows_more : (a b c : AddressMap) (x y z : Leaves) (all ks ls rest : List Address)
    (n m : ℕ) → AllPairs (λ a b. ¬ (b ≡ a)) all → ks ++ (ls ++ rest) ≡ all
    → DropsRows a x ks n b y → DropsRows b y ls m c z
    → (js : List Address) × (js ++ rest ≡ all) × DropsRows a x js (n + m) c z
drops_rows_more a b c x y z all ks ls rest n m h e first second = (
  ks ++ ls,
  append_assoc ks ls rest ∙ e,
  drops_rows_both a b c x y z ks ls n m first second (next_apart all ks ls rest h e),
)

-- rows that are left stand still
left_rows : (m : FinMap address_cmp Body) (ks : List Address) (q : Address) → ¬ (Contains ks q)
    → finite.get (without_all m ks) q ≡ finite.get m q
left_rows m ks q n = get_left q m ks n

pub next_stands : (a : AddressMap) (x : Leaves) (b : AddressMap) (y : Leaves)
    (all ks rest : List Address) (at : Address) (n : ℕ)
    → NamesEach a x → AllPairs (λ a b. ¬ (b ≡ a)) all → ks ++ (at ∷ rest) ≡ all
    → All (λ q. IsSome (finite.get a.rows.indices q)) all → DropsRows a x ks n b y
    → IsSome (finite.get b.rows.indices at)
next_stands a x b y all ks rest at n names h e there done =
    row_where b y done.beside.named at
    ∙ ap (λ o. is_some (finite.get o at)) done.dropped
    ∙ ap is_some (left_rows (rows_in a x) ks at
    (All-head (λ k. ¬ (Contains ks k)) at [] (next_apart all ks (at ∷ []) rest h e)))
    ∙ sym (row_where a x names at)
    ∙ All-head (λ q. IsSome (finite.get a.rows.indices q)) at rest
    (all_second (λ q. IsSome (finite.get a.rows.indices q)) ks (at ∷ rest)
    (subst (All (λ q. IsSome (finite.get a.rows.indices q))) (sym e) there))

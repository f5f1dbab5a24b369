-- The rows that the uses name, one after the other: what each leaves of the rows by their names.
use Rattle.std.specs.Prelude.{◌≡◌, ℕ, ◌+◌, ◌<◌, ◌≤◌, ◌⊎◌, Bool, true, false, cond, List, [], ◌∷◌, ◌++◌, Option, Some, None, bytes_eq, drop, length, map, take, unwrap_or, refl}
use Rattle.std.specs.Option.{option_map_or}
use Rattle.std.proofs.Common.{ap, ap₂, get_or, inl, inr, sym, ◌∙◌}
use Rattle.std.proofs.Math.ListN.{drop_of_length-le}
use Rattle.std.proofs.lemmas.Bool.{cases_Bool}
use Rattle.std.proofs.lemmas.List.{drop_more, take_all}
use Rattle.std.proofs.lemmas.Slice.Eq.{bytes_eq-Decides}
use Rattle.map_laws.specs.LoopLaws.{map-take_more}
use Rattle.map_file.specs.declared.map_text.MapText.{MapText}
use Rattle.map_file.specs.declared.use_text.UseText.{UseText}
use Rattle.mapped_model.proofs.Names.{found_before, named_gone, named_others}
use Rattle.mapped_model.specs.Uses.{is_free_vector, map_at, named_in, no_row, others, usable, used, wrong_use}
use Rattle.user_model.specs.declared.row.Row.{Row}
use Rattle.user_model.specs.Model.{ModelValue}

module _ (model : ModelValue) (maps : List MapText) (uses : List UseText) where
  -- what the uses before a place took out, and what their rows are
  pub record IsUsing (i : ℕ) (get : List ℕ → Option Row) (rows : List Row) : Type 0 where
    pub left : List Row
    pub found : (name : List ℕ) → get name ≡ named_in left name
    pub known : (name : List ℕ) (r : Row) → named_in left name ≡ Some r
        → named_in model.rows name ≡ Some r
    pub wrong : wrong_use maps left (drop i uses) ≡ wrong_use maps model.rows uses
    pub are : rows ≡ map (λ u. (used model maps u).row) (take i uses)

  pub none_taken : (get : List ℕ → Option Row)
      → ((name : List ℕ) → get name ≡ named_in model.rows name) → IsUsing 0 get []
  none_taken get all = record {
    left = model.rows;
    found = all;
    known = λ name r found. found;
    wrong = refl;
    are = refl;
  }

  -- a row that a map fits was found
  usable_found : (o : Option Row) (u : UseText) (r : Row) → usable maps o u ≡ Some r → o ≡ Some r
  usable_found None u r e = cc
  usable_found (Some s) u r e = by (is_free_vector (map_at maps u.map).size s) e
    where
      by : (b : Bool) → cond b (Some s) None ≡ Some r → Some s ≡ Some r
      by true e = e
      by false e = cc

  module _ (i : ℕ) (get : List ℕ → Option Row) (rows : List Row) (h : IsUsing i get rows)
      (u : UseText) (here : u ≡ get_or uses i u) (within : i < length uses) where
    rest : drop i uses ≡ u ∷ drop (i + 1) uses
    rest = drop_more uses i u within ∙ ap (λ v. v ∷ drop (i + 1) uses) (sym here)

    next : wrong_use maps h.left (u ∷ drop (i + 1) uses) ≡ wrong_use maps model.rows uses
    next = ap (wrong_use maps h.left) (sym rest) ∙ h.wrong

    -- the first wrong use
    pub wrong_here : usable maps (get u.row) u ≡ None
        → wrong_use maps model.rows uses ≡ Some u.line
    wrong_here e =
        sym next
        ∙ ap (λ o. option_map_or (λ r. wrong_use maps (others u.row h.left) (drop (i + 1) uses)) o
        (Some u.line)) (ap (λ o. usable maps o u) (sym (h.found u.row)) ∙ e)

    pub one_taken : (r : Row) (get' : List ℕ → Option Row) (rows' : List Row)
        → usable maps (get u.row) u ≡ Some r
        → ((name : List ℕ) → get' name ≡ cond (bytes_eq u.row name) None (get name))
        → rows' ≡ rows ++ r ∷ [] → IsUsing (i + 1) get' rows'
    one_taken r get' rows' e takes pushed = record {
      left = others u.row h.left;
      found = λ name. takes name ∙ by name (cases_Bool (bytes_eq u.row name));
      known = λ name s found. h.known name s (found_before u.row h.left name s found);
      wrong = sym (ap (λ o. option_map_or
          (λ r. wrong_use maps (others u.row h.left) (drop (i + 1) uses)) o (Some u.line))
          (ap (λ o. usable maps o u) (sym (h.found u.row)) ∙ e)) ∙ next;
      are = pushed
          ∙ ap₂ (λ xs x. xs ++ x ∷ []) h.are
          (sym (ap (λ o. unwrap_or o no_row) (h.known u.row r
          (sym (h.found u.row) ∙ usable_found (get u.row) u r e))))
          ∙ sym (map-take_more (λ v. (used model maps v).row) uses i u here within);
    }
      where
        by : (name : List ℕ)
            → (bytes_eq u.row name ≡ true) ⊎ (bytes_eq u.row name ≡ false)
            → cond (bytes_eq u.row name) None (get name) ≡ named_in (others u.row h.left) name
        by name (inl same) =
            ap (λ b. cond b None (get name)) same
            ∙ sym (ap (named_in (others u.row h.left)) (sym ((bytes_eq-Decides u.row name).0 same))
            ∙ named_gone u.row h.left)
        by name (inr other) =
            ap (λ b. cond b None (get name)) other ∙ h.found name
            ∙ sym (named_others u.row name other h.left)

  -- no use is wrong, and all rows are found
  pub record AllUsed (rows : List Row) : Type 0 where
    pub right : wrong_use maps model.rows uses ≡ None
    pub are : rows ≡ map (λ u. (used model maps u).row) uses

  pub all_used : (i : ℕ) (get : List ℕ → Option Row) (rows : List Row) → IsUsing i get rows
      → length uses ≤ i → AllUsed rows
  all_used i get rows h le = record {
    right = sym h.wrong ∙ ap (wrong_use maps h.left) (drop_of_length-le uses le);
    are = h.are ∙ ap (map (λ u. (used model maps u).row)) (take_all i uses le);
  }

-- Rows by their names, as they are put into a map and taken out of it.
use Rattle.std.specs.Prelude.{◌≡◌, ◌≢◌, ℕ, true, false, cond, ◌⊎◌, List, [], ◌∷◌, Option, Some, None, All, AllPairs, bytes_eq, slice_index_or}
use Rattle.std.specs.Option.{option_or}
use Rattle.std.proofs.Common.{ap, inl, inr, subst, sym, ◌∙◌}
use Rattle.std.proofs.lemmas.Bool.{cases_Bool, false_from_ne_true}
use Rattle.std.proofs.lemmas.List.Elements.{All-head, All-tail}
use Rattle.std.proofs.lemmas.Slice.Eq.{bytes_eq-Decides}
use Rattle.map_laws.specs.PairLaws.{AllPairs-head, AllPairs-tail}
use Rattle.mapped_model.specs.Uses.{named_in}
use Rattle.user_model.specs.declared.row.Row.{Row}

-- what is put in, and then the rows that are left, are all rows
pub record IsFilling (rows left : List Row) (get : List ℕ → Option Row) : Type 0 where
  pub whole : (name : List ℕ) → option_or (get name) (named_in left name) ≡ named_in rows name
  pub new : All (λ r. get r.name ≡ None) left
  pub apart : AllPairs {X = Row} (λ r s. r.name ≢ s.name) left

pub nothing_filled : (rows : List Row) (get : List ℕ → Option Row)
    → ((name : List ℕ) → get name ≡ None) → AllPairs {X = Row} (λ r s. r.name ≢ s.name) rows
    → IsFilling rows rows get
nothing_filled rows get none apart = record {
  whole = λ name. ap (λ o. option_or o (named_in rows name)) (none name);
  new = λ k d within. none _;
  apart = apart;
}

pub one_filled : (rows left others : List Row) (r : Row) (get next : List ℕ → Option Row)
    → left ≡ r ∷ others → ((name : List ℕ) → next name ≡ cond (bytes_eq r.name name) (Some r) (get name))
    → IsFilling rows left get → IsFilling rows others next
one_filled rows left others r get next is puts h = record {
  whole = λ name. at name (cases_Bool (bytes_eq r.name name));
  new = λ k d within.
      let s : Row = slice_index_or others k d in
      puts s.name
      ∙ ap (λ b. cond b (Some r) (get s.name))
      (false_from_ne_true (bytes_eq r.name s.name)
      (λ e. AllPairs-head (λ r s. r.name ≢ s.name) r others apart k d within
      ((bytes_eq-Decides r.name s.name).0 e)))
      ∙ All-tail (λ r. get r.name ≡ None) r others new k d within;
  apart = AllPairs-tail (λ r s. r.name ≢ s.name) r others apart;
}
  where
    new : All (λ r. get r.name ≡ None) (r ∷ others)
    new = subst (All (λ r. get r.name ≡ None)) is h.new

    apart : AllPairs {X = Row} (λ r s. r.name ≢ s.name) (r ∷ others)
    apart = subst (AllPairs {X = Row} (λ r s. r.name ≢ s.name)) is h.apart

    at : (name : List ℕ)
        → (bytes_eq r.name name ≡ true) ⊎ (bytes_eq r.name name ≡ false)
        → option_or (next name) (named_in others name) ≡ named_in rows name
    at name (inl same) =
        ap (λ o. option_or o (named_in others name))
        (puts name ∙ ap (λ b. cond b (Some r) (get name)) same)
        ∙ sym (ap (λ b. cond b (Some r) (named_in others name)) same)
        ∙ sym (ap (λ o. option_or o (named_in (r ∷ others) name))
        (ap get (sym ((bytes_eq-Decides r.name name).0 same))
        ∙ All-head (λ r. get r.name ≡ None) r others new))
        ∙ ap (λ rs. option_or (get name) (named_in rs name)) (sym is)
        ∙ h.whole name
    at name (inr other) =
        ap (λ o. option_or o (named_in others name))
        (puts name ∙ ap (λ b. cond b (Some r) (get name)) other)
        ∙ ap (option_or (get name))
        (sym (ap (λ b. cond b (Some r) (named_in others name)) other))
        ∙ ap (λ rs. option_or (get name) (named_in rs name)) (sym is)
        ∙ h.whole name

pub all_filled : (rows left : List Row) (get : List ℕ → Option Row) → left ≡ []
    → IsFilling rows left get → (name : List ℕ) → get name ≡ named_in rows name
all_filled rows left get is h name =
    by (get name) (ap (λ rs. option_or (get name) (named_in rs name)) (sym is) ∙ h.whole name)
  where
    by : (o : Option Row) → option_or o None ≡ named_in rows name → o ≡ named_in rows name
    by None e = e
    by (Some r) e = e

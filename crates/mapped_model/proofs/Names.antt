-- Rows by name, where those of one name are left out.
use Rattle.std.specs.Prelude.{◌≡◌, ◌≢◌, ℕ, true, false, not, cond, List, [], ◌∷◌, ◌++◌, Some, None, AllPairs, bytes_eq, refl}
use Rattle.std.proofs.Common.{ap, inl, inr, sym, ◌∙◌}
use Rattle.std.proofs.lemmas.Bool.{cases_Bool, false_from_ne_true}
use Rattle.std.proofs.lemmas.List.Elements.{All-weaker}
use Rattle.std.proofs.lemmas.Option.{none-some}
use Rattle.std.proofs.lemmas.Slice.Eq.{bytes_eq-Decides}
use Rattle.map_laws.specs.EachLaws.{all_second}
use Rattle.map_laws.specs.PairLaws.{AllPairs-head, AllPairs-tail}
use Rattle.map_laws.specs.PlaceLaws.{filter_all}
use Rattle.mapped_model.specs.Uses.{named_in, others}
use Rattle.user_model.specs.declared.row.Row.{Row}

-- ---- what is found without the rows of a name

module _ (n : List ℕ) where
  left_out : (r : Row) (rows : List Row) → bytes_eq r.name n ≡ true
      → others n (r ∷ rows) ≡ others n rows
  left_out r rows is = ap (λ b. cond (not b) (r ∷ others n rows) (others n rows)) is

  left_in : (r : Row) (rows : List Row) → bytes_eq r.name n ≡ false
      → others n (r ∷ rows) ≡ r ∷ others n rows
  left_in r rows off = ap (λ b. cond (not b) (r ∷ others n rows) (others n rows)) off

  pub named_others : (name : List ℕ) → bytes_eq n name ≡ false → (rows : List Row)
      → named_in (others n rows) name ≡ named_in rows name
  named_others name apart [] = refl
  named_others name apart (r ∷ rows) =
      elim (cases_Bool (bytes_eq r.name n)) [
        | inl is ↦
            ap (λ rs. named_in rs name) (left_out r rows is)
            ∙ named_others name apart rows
            ∙ sym (ap (λ b. cond b (Some r) (named_in rows name))
            (ap (λ m. bytes_eq m name) ((bytes_eq-Decides r.name n).0 is) ∙ apart))
        | inr off ↦
            ap (λ rs. named_in rs name) (left_in r rows off)
            ∙ ap (cond (bytes_eq r.name name) (Some r)) (named_others name apart rows)
      ]

  pub named_gone : (rows : List Row) → named_in (others n rows) n ≡ None
  named_gone [] = refl
  named_gone (r ∷ rows) =
      elim (cases_Bool (bytes_eq r.name n)) [
        | inl is ↦ ap (λ rs. named_in rs n) (left_out r rows is) ∙ named_gone rows
        | inr off ↦
            ap (λ rs. named_in rs n) (left_in r rows off)
            ∙ ap (λ b. cond b (Some r) (named_in (others n rows) n)) off ∙ named_gone rows
      ]

  -- what is found then was found before
  pub found_before : (rows : List Row) (name : List ℕ) (r : Row)
      → named_in (others n rows) name ≡ Some r → named_in rows name ≡ Some r
  found_before rows name r found =
      elim (cases_Bool (bytes_eq n name)) [
        | inl is ↦ absurd (none-some r
            (sym (named_gone rows) ∙ ap (named_in (others n rows)) ((bytes_eq-Decides n name).0 is)
            ∙ found))
        | inr apart ↦ sym (named_others name apart rows) ∙ found
      ]

  -- ---- rows behind one of the name, where no two have one name

  pub none_behind : (left added : List Row) (r : Row)
      → AllPairs {X = Row} (λ r s. r.name ≢ s.name) (left ++ added) → named_in left n ≡ Some r
      → others n added ≡ added
  none_behind [] added r apart found = absurd (none-some r found)
  none_behind (x ∷ left) added r apart found =
      elim (cases_Bool (bytes_eq x.name n)) [
        | inl is ↦
            filter_all (λ s. not (bytes_eq s.name n)) added
            (All-weaker (λ s. x.name ≢ s.name) (λ s. not (bytes_eq s.name n) ≡ true)
            (λ s ne. ap not (false_from_ne_true (bytes_eq s.name n)
            (λ e. ne ((bytes_eq-Decides x.name n).0 is ∙ sym ((bytes_eq-Decides s.name n).0 e)))))
            added
            (all_second (λ s. x.name ≢ s.name) left added
            (AllPairs-head (λ r s. r.name ≢ s.name) x (left ++ added) apart)))
        | inr off ↦
            none_behind left added r
            (AllPairs-tail (λ r s. r.name ≢ s.name) x (left ++ added) apart)
            (sym (ap (λ b. cond b (Some x) (named_in left n)) off) ∙ found)
      ]

-- Sums over lists of numbered items, as contents are set.
use Rattle.std.proofs.Common.{◌≡◌, add-zero, ℕ, ◌+◌, List, [], ◌∷◌, ◌++◌, Option, Some, None, refl, ap, ◌∙◌, arith}
use Rattle.std.specs.Prelude.{sum_by}
use Rattle.std.specs.Option.{option_to_list}
use Rattle.std.proofs.lemmas.List.Sums.{sum_by-cons, sum_by-append}
use Rattle.numbered_list.specs.declared.change.Change.{Change}
use Rattle.numbered_list.specs.Numbered.{Rise, find, below, above, set_at}
use Rattle.numbered_list.specs.Changes.{AreChanges, changed_number, olds, old, set_all}
use Rattle.numbered_list.specs.Laws.{Rise-head}
use Rattle.numbered_list.specs.SetLaws.{set_at_found, Rise-set_at}
use Rattle.numbered_list.specs.ChangeLaws.{AreChanges-rest, IsAt-first, olds-set_at}
use Rattle.model_catalog.specs.Index.{weight}

module _ {X : Type 0} (number_of : X → ℕ) (w : X → ℕ) where
  sum_option : (o : Option X) → sum_by w (option_to_list o) ≡ weight w o
  sum_option None = refl
  sum_option (Some x) = sum_by-cons w x [] ∙ add-zero (w x)

  sum_parts : (n : ℕ) (o : Option X) (xs : List X) → sum_by w (set_at number_of n o xs)
      ≡ sum_by w (below number_of n xs) + (weight w o + sum_by w (above number_of n xs))
  unfolding set_at
  sum_parts n o xs =
      sum_by-append w (below number_of n xs) (option_to_list o ++ above number_of n xs)
      ∙ ap (λ k. sum_by w (below number_of n xs) + k) (sum_by-append w (option_to_list o)
      (above number_of n xs) ∙ ap (λ k. k + sum_by w (above number_of n xs)) (sum_option o))

  -- one content that takes another's place
  pub sum_set_at : (n : ℕ) (new : Option X) (xs : List X) → Rise number_of xs
      → sum_by w (set_at number_of n new xs) + weight w (find number_of n xs)
      ≡ sum_by w xs + weight w new
  sum_set_at n new xs rise =
      omega (
        arith,
        sum_parts n new xs,
        sum_parts n (find number_of n xs) xs,
        ap (sum_by w) (set_at_found number_of n xs rise),
      )

  -- all contents that take others' places
  pub sum_set_all : (cs : List (Change X)) (xs : List X) → AreChanges number_of cs
      → Rise number_of xs → sum_by w (set_all number_of cs xs) + sum_by (λ c. weight w c.content)
      (olds number_of cs xs) ≡ sum_by w xs + sum_by (λ c. weight w c.content) cs
  sum_set_all [] xs h rise = refl
  sum_set_all (c ∷ cs) xs h rise =
      let own = IsAt-first number_of c cs h in
      let later = Rise-head changed_number c cs h.rising in
      let ys = set_at number_of c.number c.content xs in
      let rest = sum_set_all cs ys (AreChanges-rest number_of c cs h)
      (Rise-set_at number_of c.number c.content xs own rise) in
      let same = ap (sum_by (λ (d : Change X). weight w d.content))
      (olds-set_at number_of c.number c.content cs xs own later) in
      let one = sum_set_at c.number c.content xs rise in
      omega (
        arith,
        rest,
        same,
        one,
        sum_by-cons (λ (d : Change X). weight w d.content)
            (old number_of xs c) (olds number_of cs xs),
        sum_by-cons (λ (d : Change X). weight w d.content) c cs,
      )

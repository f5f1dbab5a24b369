-- Numbers of a model's variables, group by group.
use Rattle.std.specs.Prelude.{◌≡◌, ◌+◌, List, ◌∷◌, ◌++◌, map, length, take, drop}
use Rattle.std.proofs.Common.{sym, ◌∙◌, ap, arith, subst}
use Rattle.std.proofs.Math.Seq.{drop-append_seam, take-append_seam}
use Rattle.std.proofs.lemmas.List.{length-append, length-drop, length-map, map-append}
use Rattle.ratio_core.specs.Rational.{Rational}
use Rattle.aff_core.specs.Address.{Address}
use Rattle.user_model.specs.declared.group.Group.{Group}
use Rattle.certificates.specs.PointLaws.{split_addresses}
use Rattle.certificates.specs.Points.{address_of, addresses_of, all_addresses}

count_split : (g : Group) (gs : List Group)
    → length (all_addresses (g ∷ gs)) ≡ length g.vars + length (all_addresses gs)
count_split g gs =
    ap length (split_addresses g gs) ∙ length-append (addresses_of g.vars) (all_addresses gs)
    ∙ ap (λ n. n + length (all_addresses gs)) (length-map g.vars address_of)

module _ (x : Address → Rational) (g : Group) (gs : List Group) (numbers : List Rational)
    (is : map x (all_addresses (g ∷ gs)) ≡ numbers) where
  parted : map x (addresses_of g.vars) ++ map x (all_addresses gs) ≡ numbers
  parted =
      sym (ap (map x) (split_addresses g gs)
      ∙ map-append x (addresses_of g.vars) (all_addresses gs)) ∙ is

  count : length (map x (addresses_of g.vars)) ≡ length g.vars
  count = length-map (addresses_of g.vars) x ∙ length-map g.vars address_of

  -- the numbers of the first group
  own_numbers : take (length g.vars) numbers ≡ map x (addresses_of g.vars)
  own_numbers =
      ap (λ n. take n numbers) (sym count) ∙ ap (take (length (map x (addresses_of g.vars))))
      (sym parted)
      ∙ take-append_seam (map x (addresses_of g.vars)) (map x (all_addresses gs))

  -- and those of the others
  other_numbers : map x (all_addresses gs) ≡ drop (length g.vars) numbers
  other_numbers =
      sym (ap (λ n. drop n numbers) (sym count)
      ∙ ap (drop (length (map x (addresses_of g.vars)))) (sym parted)
      ∙ drop-append_seam (map x (addresses_of g.vars)) (map x (all_addresses gs)))

-- ---- groups gone through, with the numbers of their variables

-- for each point with these numbers: it has those left, and so it is of the groups left
pub record GroupsSoFar (So : (Address → Rational) → List Group → Type 0)
    (groups left_groups : List Group) (numbers left : List Rational) : Type 0 where
  pub size : length left ≡ length (all_addresses left_groups)
  pub at_left : (x : Address → Rational) → map x (all_addresses groups) ≡ numbers
      → map x (all_addresses left_groups) ≡ left
  pub so_far : (x : Address → Rational) → map x (all_addresses groups) ≡ numbers
      → So x left_groups

module _ (So : (Address → Rational) → List Group → Type 0) (groups left_groups rest : List Group)
    (numbers left : List Rational) (g : Group)
    (h : GroupsSoFar So groups left_groups numbers left) (next : left_groups ≡ g ∷ rest) where
  at_first : (x : Address → Rational) → map x (all_addresses groups) ≡ numbers
      → map x (all_addresses (g ∷ rest)) ≡ left
  at_first x is = subst (λ gs. map x (all_addresses gs) ≡ left) next (h.at_left x is)

  whole : length left ≡ length g.vars + length (all_addresses rest)
  whole = h.size ∙ ap (λ gs. length (all_addresses gs)) next ∙ count_split g rest

  -- the numbers of the next group
  pub next_numbers : (x : Address → Rational) → map x (all_addresses groups) ≡ numbers
      → take (length g.vars) left ≡ map x (addresses_of g.vars)
  next_numbers x is = own_numbers x g rest left (at_first x is)

  pub groups_more : (Now : (Address → Rational) → List Group → Type 0)
      → ((x : Address → Rational) → map x (all_addresses groups) ≡ numbers → Now x rest)
      → GroupsSoFar Now groups rest numbers (drop (length g.vars) left)
  groups_more Now told = record {
    size = length-drop (length g.vars) left ∙ omega (arith, whole);
    at_left = λ x is. other_numbers x g rest left (at_first x is);
    so_far = told;
  }

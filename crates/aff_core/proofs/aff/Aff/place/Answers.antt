use Rattle.std.specs.Prelude.{ℕ, length, Result, Ok, Err, IfOk, OnErr}
use Rattle.std.proofs.Common.{rules, ◌∙◌}
use Rattle.std.specs.FinMap.{entries_sorted, get-entries}
use Rattle.std.specs.List.Sorted.{IsBinarySearchResult, IsSearchInRange}
use Rattle.std.proofs.lemmas.Fn.{always_returns_same}
use Rattle.aff_core.specs.Address.{Address, address_cmp, address_total}
use Rattle.aff_core.specs.Function.{Function, terms_of}
use Rattle.aff_core.specs.Kept.{IsTermPlace, IsAbsent}
use Rattle.aff_core.proofs.Changed.{span_found}
use Rattle.map_laws.specs.EntryLaws.{searched}
use Rattle.aff_core.proofs.aff.Aff.place.Goals as goal
use Rattle.aff_core.proofs.aff.Aff.place.Goals.{After-binary_search_by}

-- what a search among the terms finds
placed : (f : Function) (at : Address) (r : Result ℕ ℕ) → IsSearchInRange r (length (terms_of f))
    → IsBinarySearchResult (λ t. address_cmp t.0 at) (terms_of f) r
    → IfOk r (IsTermPlace f at) × OnErr r (IsAbsent f at)
placed f at (Ok n) range found = (
  record {
    in_range = range;
    found = λ d. get-entries f.terms at
        ∙ searched address_total at (terms_of f) (Ok n) (entries_sorted f.terms) range found d;
  },
  tt,
)
placed f at (Err n) range parted = (
  tt,
  record {
    absent = get-entries f.terms at ∙ searched address_total at (terms_of f) (Err n)
        (entries_sorted f.terms) range parted;
  },
)

found : (c : After-binary_search_by)
    → IsSearchInRange c.binary_search_by.result (length (terms_of c.args.self.now))
    × IsBinarySearchResult (λ t. address_cmp t.0 c.args.at.now) (terms_of c.args.self.now)
    c.binary_search_by.result
found c =
    let by_address = c.binary_search_by.ensures.position (λ t. address_cmp t.0 c.args.at.now)
    (always_returns_same _ _ _ (λ a r f called. search rules)) in (
      rw (← c.terms.ensures.all) c.binary_search_by.ensures.bound,
      rw (← c.terms.ensures.all) by_address,
    )

pub returns-clause-found : goal.returns-clause-found
returns-clause-found c =
    (placed c.args.self.now c.args.at.now _ (found c).0 (found c).1).0

pub returns-clause-absent : goal.returns-clause-absent
returns-clause-absent c =
    (placed c.args.self.now c.args.at.now _ (found c).0 (found c).1).1

pub returns-clause-span : goal.returns-clause-span
returns-clause-span c = span_found c.args.self.now c.args.at.now _ (found c).0 (found c).1

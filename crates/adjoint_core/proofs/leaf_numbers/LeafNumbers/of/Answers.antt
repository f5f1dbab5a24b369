use Rattle.std.specs.Prelude.{◌≡◌, ◌++◌, ◌∷◌, [], ℕ, map}
use Rattle.std.specs.FinMap as finite
use Rattle.std.proofs.Common.{◌∙◌, ap, ap₂, subst, sym}
use Rattle.aff_core.specs.Address.{Address}
use Rattle.aff_core.specs.Points.{spread}
use Rattle.cert_core.specs.Variables.{Ascend}
use Rattle.adjoint_core.proofs.Spread.{keys_ascend, made_all, made_next, number_at, spread_entries}
use Rattle.adjoint_core.proofs.leaf_numbers.LeafNumbers.of.Goals as goal

pub loop-entry-preserved : goal.loop-entry-preserved
loop-entry-preserved c =
    let l = c.loop-entry in
    let vars = c.args.places.now.vars.indices in
    let number = number_at c.args.x.now in
    let next = c.in-Some.ensures.steps in (
      made_next (λ (e : Address × ℕ). e.0) l.entry-iterator c.next.new.self c.in-Some.entry.now
          l.addresses.items c.push.new.self.items (finite.keys vars) next l.invariant.0
          c.in_ok-push.ensures.items,
      made_next number l.entry-iterator c.next.new.self c.in-Some.entry.now
          l.numbers.items c.push-in-loop-entry.new.self.items (map number (finite.entries vars)) next
          l.invariant.1
          (c.in_ok-push-2.ensures.items ∙ ap (λ q. l.numbers.items ++ q ∷ []) c.number.ensures),
    )

pub ascending-requires : goal.ascending-requires
ascending-requires c =
    let l = c.loop-entry in
    let vars = c.args.places.now.vars.indices in
    subst Ascend (sym (made_all (λ (e : Address × ℕ). e.0) l.entry-iterator l.addresses.items
    (finite.keys vars) c.in-None.ensures.steps.0 l.invariant.0)) (keys_ascend vars)

pub returns : goal.returns
returns c =
    let l = c.loop-entry in
    let vars = c.args.places.now.vars.indices in
    let number = number_at c.args.x.now in
    let none = c.in-None.ensures.steps.0 in
    ap₂ spread (c.ascending.ensures ∙ made_all (λ (e : Address × ℕ). e.0) l.entry-iterator
    l.addresses.items (finite.keys vars) none l.invariant.0)
    (made_all number l.entry-iterator l.numbers.items (map number (finite.entries vars)) none
    l.invariant.1)
    ∙ spread_entries c.args.places.now c.args.x.now

-- How an address is kept: forty places, of which those past its depth are zero.
use Rattle.std.specs.Prelude.{◌≡◌, ◌-◌, ◌≤◌, ◌++◌, length, take, drop, replicate}
use Rattle.std.proofs.Common.{ap, sym, ◌∙◌, arith}
use Rattle.std.proofs.lemmas.List.{length-take-le, take-append-drop}
use Rattle.aff_core.specs.declared.address.Address.TheInside.{Inside}
use Rattle.aff_core.specs.Address.{Address}

abbrev pub address_of : Inside → Address
address_of a = record { root = a.root; number = a.number; positions = take a.depth a.positions }

-- nothing stands past the depth
pub record IsPadded (a : Inside) : Type 0 where
  pub depth : a.depth ≤ 40
  pub places : length a.positions ≡ 40
  pub zeros : drop a.depth a.positions ≡ replicate (40 - a.depth) 0

abbrev pub padded : Address → Inside
padded v = record {
  root = v.root;
  number = v.number;
  positions = v.positions ++ replicate (40 - length v.positions) 0;
  depth = length v.positions;
}

-- the places come back from the address
pub padded-address_of : (a : Inside) → IsPadded a → padded (address_of a) ≡ a
padded-address_of a h =
    let long : length (take a.depth a.positions) ≡ a.depth =
    length-take-le a.depth a.positions (omega (arith, h.depth, h.places)) in
    let whole : take a.depth a.positions ++ replicate (40 - length (take a.depth a.positions)) 0
    ≡ a.positions =
    ap (λ n. take a.depth a.positions ++ replicate (40 - n) 0) long
    ∙ ap (λ t. take a.depth a.positions ++ t) (sym h.zeros)
    ∙ take-append-drop a.depth a.positions in
    λ i. record { root = a.root; number = a.number; positions = whole i; depth = long i }

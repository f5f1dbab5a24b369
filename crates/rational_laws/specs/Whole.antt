-- The ring of whole numbers: what std leaves out.
use Rattle.std.specs.Prelude.{◌≡◌, ◌+◌, ◌*◌, ℤ, pos, ◌+ℤ◌, ◌*ℤ◌, neg_ℤ}
use Rattle.std.proofs.Common.{ap, arith}
use borrow.Author.Differences.{up, down, same_in, product_is, sum_is_lem, neg_is}

pub *ℤ_assoc : (x y z : ℤ) → (x *ℤ y) *ℤ z ≡ x *ℤ (y *ℤ z)
*ℤ_assoc x y z =
    let left : (up (x *ℤ y) ≡ up x * up y + down x * down y)
    × (down (x *ℤ y) ≡ up x * down y + down x * up y) = product_is x y in
    let right : (up (y *ℤ z) ≡ up y * up z + down y * down z)
    × (down (y *ℤ z) ≡ up y * down z + down y * up z) = product_is y z in
    same_in _ _ (omega (
      arith,
      product_is (x *ℤ y) z,
      product_is x (y *ℤ z),
      ap (λ n. n * up z) left.0,
      ap (λ n. n * down z) left.1,
      ap (λ n. n * down z) left.0,
      ap (λ n. n * up z) left.1,
      ap (λ n. up x * n) right.0,
      ap (λ n. down x * n) right.1,
      ap (λ n. up x * n) right.1,
      ap (λ n. down x * n) right.0,
    ))

pub *ℤ-+ℤ : (x y z : ℤ) → x *ℤ (y +ℤ z) ≡ (x *ℤ y) +ℤ (x *ℤ z)
*ℤ-+ℤ x y z =
    let inner : up (y +ℤ z) + down y + down z ≡ down (y +ℤ z) + up y + up z = sum_is_lem y z in
    same_in _ _ (omega (
      arith,
      product_is x (y +ℤ z),
      product_is x y,
      product_is x z,
      sum_is_lem (x *ℤ y) (x *ℤ z),
      ap (λ n. up x * n) inner,
      ap (λ n. down x * n) inner,
    ))

pub neg_ℤ-*ℤ : (x y : ℤ) → neg_ℤ x *ℤ y ≡ neg_ℤ (x *ℤ y)
neg_ℤ-*ℤ x y =
    let turned : (up (neg_ℤ x) ≡ down x) × (down (neg_ℤ x) ≡ up x) = neg_is x in
    same_in _ _ (omega (
      arith,
      product_is (neg_ℤ x) y,
      product_is x y,
      neg_is (x *ℤ y),
      ap (λ n. n * up y) turned.0,
      ap (λ n. n * down y) turned.1,
      ap (λ n. n * down y) turned.0,
      ap (λ n. n * up y) turned.1,
    ))

pub *ℤ_pos_one : (x : ℤ) → x *ℤ pos 1 ≡ x
*ℤ_pos_one x = same_in _ _ (omega (arith, product_is x (pos 1)))

-- Many draws at once are as many draws.
use Rattle.std.proofs.Common.{◌≡◌, ◌≢◌, ℕ, zero, suc, ◌+◌, ◌*◌, ◌/◌, ◌%◌, ◌^◌, refl, sym, ap, ◌∙◌, arith}
use Rattle.std.proofs.Math.Nat.{add-mod-mod, mod-add-mod}
use Rattle.std.proofs.lemmas.Nat.{mul-mod_first, mul-mod_second}
use Rattle.std.specs.Fn.{iterate}
use Rattle.generated_script.specs.Generator.{after, step}
use Rattle.generated_script.specs.Jump.{mapped, one_draw, twice}
use Rattle.generated_script.specs.declared.jump.AffineMap.{AffineMap}

-- equal maps, as often
iterate_same : (f g : ℕ → ℕ) → ((x : ℕ) → g x ≡ f x) → (n x : ℕ) → iterate g n x ≡ iterate f n x
iterate_same f g same zero x = refl
iterate_same f g same (suc n) x =
    iterate_same f g same n (g x) ∙ ap (iterate f n) (same x)

-- a map that is another one twice, half as often
iterate_twice : (f g : ℕ → ℕ) → ((x : ℕ) → g x ≡ f (f x)) → (n x : ℕ)
    → iterate g n x ≡ iterate f (2 * n) x
iterate_twice f g same zero x = refl
iterate_twice f g same (suc n) x =
    let more : suc (suc (2 * n)) ≡ 2 * suc n = omega arith in
    iterate_twice f g same n (g x) ∙ ap (iterate f (2 * n)) (same x) ∙ ap (λ k. iterate f k x) more

halved_odd : (f g : ℕ → ℕ) → ((x : ℕ) → g x ≡ f (f x)) → (n x : ℕ) → n % 2 ≡ 1
    → iterate g (n / 2) (f x) ≡ iterate f n x
halved_odd f g same n x odd =
    let whole : suc (2 * (n / 2)) ≡ n = omega (arith, odd) in
    iterate_twice f g same (n / 2) (f x) ∙ ap (λ k. iterate f k x) whole

halved_even : (f g : ℕ → ℕ) → ((x : ℕ) → g x ≡ f (f x)) → (n x : ℕ) → n % 2 ≢ 1
    → iterate g (n / 2) x ≡ iterate f n x
halved_even f g same n x even =
    let whole : 2 * (n / 2) ≡ n = omega (arith, even) in
    iterate_twice f g same (n / 2) x ∙ ap (λ k. iterate f k x) whole

-- ---- the maps

-- what is taken modulo m before is taken so after
inner : (a f c m : ℕ) → (a % m * f + c) % m ≡ (a * f + c) % m
inner a f c m =
    sym (mod-add-mod (a % m * f) m c) ∙ ap (λ x. (x + c) % m) (mul-mod_first a f m)
    ∙ mod-add-mod (a * f) m c

outer : (s f c m : ℕ) → (s * (f % m) + c % m) % m ≡ (s * f + c) % m
outer s f c m =
    add-mod-mod (s * (f % m)) c m ∙ sym (mod-add-mod (s * (f % m)) m c)
    ∙ ap (λ x. (x + c) % m) (mul-mod_second s f m) ∙ mod-add-mod (s * f) m c

expanded : (s f c : ℕ) → s * (f * f) + (c * f + c) ≡ (s * f + c) * f + c
expanded s f c = omega arith

twice_is : (m : AffineMap) (s : ℕ) → mapped (twice m) s ≡ mapped m (mapped m s)
unfolding mapped
twice_is m s =
    let f : ℕ = m.factor in
    let c : ℕ = m.shift in
    outer s (f * f) (c * f + c) (2 ^ 31) ∙ ap (λ x. x % 2 ^ 31) (expanded s f c)
    ∙ sym (inner (s * f + c) f c (2 ^ 31))

one_is : (s : ℕ) → mapped one_draw s ≡ step s
unfolding mapped step
one_is s = refl

pub of_one_draw : (n s : ℕ) → iterate (mapped one_draw) n s ≡ after n s
of_one_draw n s = iterate_same step (mapped one_draw) one_is n s

-- ---- a step of the squaring

pub squared_odd : (m m' : AffineMap) (n s s' : ℕ) → m' ≡ twice m → s' ≡ mapped m s → n % 2 ≡ 1
    → iterate (mapped m') (n / 2) s' ≡ iterate (mapped m) n s
squared_odd m m' n s s' is moved odd =
    ap (λ k. iterate (mapped k) (n / 2) s') is ∙ ap (iterate (mapped (twice m)) (n / 2)) moved
    ∙ halved_odd (mapped m) (mapped (twice m)) (twice_is m) n s odd

pub squared_even : (m m' : AffineMap) (n s s' : ℕ) → m' ≡ twice m → s' ≡ s → n % 2 ≢ 1
    → iterate (mapped m') (n / 2) s' ≡ iterate (mapped m) n s
squared_even m m' n s s' is stays even =
    ap (λ k. iterate (mapped k) (n / 2) s') is ∙ ap (iterate (mapped (twice m)) (n / 2)) stays
    ∙ halved_even (mapped m) (mapped (twice m)) (twice_is m) n s even

-- Where the first newline stands in what a reader holds.
use Rattle.std.proofs.Common.{◌≡◌, ℕ, ◌+◌, ◌-◌, ◌<◌, ◌≤◌, false, List, ◌∷◌, ◌++◌, length, take, drop, get_or, sym, ◌∙◌, ap, subst, arith, eqb}
use Rattle.std.proofs.lemmas.List.{length-take, get_or-take, take-append-drop, drop_more, drop-take, drop-drop}
use Rattle.std.proofs.lemmas.List.Elements.{All-from_get_or}
use Rattle.std.proofs.lemmas.Bool.{false_from_ne_true, eqb-true}
use Rattle.memchr.specs.Find.{Nowhere, NoneBefore, Passes, is_byte}
use Rattle.line_reader.specs.Lines.{IsUnended}

-- what stands before the first newline has none
pub unended_front : (held : List ℕ) (n : ℕ)
    → NoneBefore (Passes (is_byte 10) held) 0 (length held) n → IsUnended (take n held)
unended_front held n first = All-from_get_or (λ b. eqb b 10 ≡ false) (take n held) 0 (λ i l.
    let low : i < n = omega (arith, length-take n held, l, first.high) in
    rw (get_or-take n held i 0 low) (false_from_ne_true _ (first.before i (omega arith) low)))

pub unended_whole : (held : List ℕ) → Nowhere (Passes (is_byte 10) held) 0 (length held)
    → IsUnended held
unended_whole held none =
    All-from_get_or (λ b. eqb b 10 ≡ false) held 0
    (λ i l. false_from_ne_true _ (none i (omega arith) l))

-- the held bytes are a piece, a newline and what stands behind it
pub split_at_newline : (held : List ℕ) (n : ℕ) → n < length held → Passes (is_byte 10) held n
    → held ≡ take n held ++ 10 ∷ drop (n + 1) held
split_at_newline held n l is =
    let byte : get_or held n 0 ≡ 10 = eqb-true _ _ is in
    sym (take-append-drop n held) ∙ ap (λ rest. take n held ++ rest) (drop_more held n 0 l
    ∙ ap (λ b. b ∷ drop (n + 1) held) byte)

-- the range of a buffer, as its beginning less what was given
pub range_held : (start end : ℕ) (items : List ℕ) → start ≤ end
    → take (end - start) (drop start items) ≡ drop start (take end items)
range_held start end items l =
    let whole : start + (end - start) ≡ end = omega arith in
    sym (drop-take start (end - start) items) ∙ ap (λ n. drop start (take n items)) whole

-- what was found in the range that a buffer holds, said of the bytes held
pub found_newline : (seen items held : List ℕ) (start end n : ℕ) → seen ≡ items
    → drop start (take end items) ≡ held → start ≤ end
    → NoneBefore (Passes (is_byte 10) (take (end - start) (drop start seen))) 0 (length
    (take (end - start) (drop start seen))) n
    → Passes (is_byte 10) (take (end - start) (drop start seen)) n
    → IsUnended (take n (take (end - start) (drop start seen)))
    × (held ≡ take n (take (end - start) (drop start seen)) ++ 10 ∷ drop (start + (n + 1))
    (take end items))
found_newline seen items held start end n same view l first is =
    let range = take (end - start) (drop start seen) in
    let held_is : range ≡ held = ap (λ xs. take (end - start) (drop start xs)) same ∙ range_held
    start end items l ∙ view in
    let behind : drop (n + 1) range ≡ drop (start + (n + 1)) (take end items) =
    ap (drop (n + 1)) (held_is ∙ sym view) ∙ drop-drop (n + 1) start (take end items) in (
      unended_front range n first,
      sym held_is ∙ split_at_newline range n first.high is
          ∙ ap (λ rest. take n range ++ 10 ∷ rest) behind,
    )

pub found_no_newline : (seen items held : List ℕ) (start end : ℕ) → seen ≡ items
    → drop start (take end items) ≡ held → start ≤ end
    → Nowhere (Passes (is_byte 10) (take (end - start) (drop start seen))) 0 (length
    (take (end - start) (drop start seen)))
    → IsUnended held × (held ≡ take (end - start) (drop start seen))
found_no_newline seen items held start end same view l none =
    let range = take (end - start) (drop start seen) in
    let held_is : range ≡ held = ap (λ xs. take (end - start) (drop start xs)) same ∙ range_held
    start end items l ∙ view in
    (subst IsUnended held_is (unended_whole range none), sym held_is)

-- How the reader stays in step with what the lines so far say.
use Rattle.std.specs.Prelude.{◌≡◌, ℕ, ◌+◌, ◌*◌, ◌<◌, ◌≤◌, List, [], ◌∷◌, ◌++◌, All, Option, Some, None, bytes_eq, cond, length, ◌==◌, if◌then◌else◌}
use Rattle.std.specs.HashMap.{get_by_text}
use Rattle.std.proofs.Common.{sym, ◌∙◌, ap, arith, subst, lt-ltb}
use Rattle.std.proofs.lemmas.Bool.{cond-true, eq-eqb}
use Rattle.std.proofs.lemmas.List.{length-append}
use Rattle.std.proofs.lemmas.List.Elements.{All-push, All-weaker}
use Rattle.ratio_core.specs.Rational.{Rational}
use Rattle.script_tokens.specs.Each.{◌>>=◌}
use Rattle.map_file.specs.declared.map_text.MapText.{MapText}
use Rattle.map_file.specs.declared.reader.Reader.{Reader}
use Rattle.map_file.specs.declared.use_text.UseText.{UseText}
use Rattle.map_file.specs.Lines.{Progress, kept_with, numbers_in, numbers_read, place_of}
use Rattle.map_file.specs.Progress.{IsNext, IsReaderInStep}
use Rattle.map_file.specs.Shaped.{HasShape, IsBegun, IsMapWhole, NamesMap}
use Rattle.map_file.proofs.PlaceSteps.{place_more}

none_some : {X : Type 0} (o : Option X) (x : X) → o ≡ None → o ≡ Some x → ⊥
none_some o x e k = cc

abbrev pub of_parts : List MapText → List UseText → Option MapText → Progress
of_parts maps uses lacking = record { maps = maps; uses = uses; lacking = lacking }

-- a map with a line more
abbrev pub with_line : MapText → List Rational → MapText
with_line m numbers = record m { lines = m.lines ++ numbers ∷ [] }

module _ (m new : MapText) (numbers : List Rational) (h : IsBegun m)
    (is : new ≡ with_line m numbers) (long : length numbers ≡ m.size) where
  lines : length (with_line m numbers).lines ≡ length m.lines + 1
  lines = length-append m.lines (numbers ∷ [])

  shape : HasShape (with_line m numbers)
  shape = record {
    some = h.shape.some;
    few = h.shape.few;
    numbers = All-push (λ row. length row ≡ m.size) m.lines numbers h.shape.numbers long;
  }

  pub still_begun : length new.lines < 2 * new.size → IsBegun new
  still_begun lt =
      let fewer : length (with_line m numbers).lines < 2 * m.size =
      subst (λ (n : MapText). length n.lines < 2 * n.size) is lt in
      subst IsBegun (sym is) (record { shape = shape; lines = fewer })

  pub now_whole : 2 * new.size ≤ length new.lines → IsMapWhole new
  now_whole ge =
      let more : length (with_line m numbers).lines ≡ length m.lines + 1 = lines in
      let fewer : length m.lines < 2 * m.size = h.lines in
      let all : 2 * m.size ≤ length (with_line m numbers).lines =
      subst (λ (n : MapText). 2 * n.size ≤ length n.lines) is ge in
      subst IsMapWhole (sym is) (record { shape = shape; lines = omega (arith, more, fewer, all) })

  -- a line that isn't the last
  pub line_more : (so_far : Progress) (line : List ℕ) → numbers_in line ≡ Some numbers
      → length new.lines < 2 * new.size
      → numbers_read so_far m line ≡ Some (record so_far { lacking = Some new })
  unfolding numbers_read
  line_more so_far line e lt =
      let fewer : length (with_line m numbers).lines < 2 * m.size =
      subst (λ (n : MapText). length n.lines < 2 * n.size) is lt in
      ap (λ (o : Option (List Rational)). o >>= (λ ns. if length ns == m.size
      then Some (kept_with so_far (with_line m ns)) else None)) e
      ∙ cond-true _ _ _ (eq-eqb (length numbers) m.size long)
      ∙ ap (λ (p : Progress). Some p)
      (cond-true _ _ _ (lt-ltb (length (with_line m numbers).lines) (2 * m.size) fewer))
      ∙ ap (λ (n : MapText). Some (record so_far { lacking = Some n })) (sym is)

-- a map whose lines are to come
pub with_lacking : (old new : Reader) (m : MapText) → IsReaderInStep old → IsNext old.maps m
    → new ≡ record old { lacking = Some m } → IsReaderInStep new
with_lacking old new m h next e = subst IsReaderInStep (sym e) (record {
  places = h.places;
  whole = h.whole;
  begun = λ x k. subst (IsNext old.maps) (same m x k) next;
  uses = h.uses;
})
  where
    same : (m x : MapText) → Some m ≡ Some x → m ≡ x
    same m x k = cc

-- a map more
pub with_map : (old new : Reader) (m : MapText) → IsReaderInStep old → old.lacking ≡ None
    → IsMapWhole m
    → place_of old.maps m.name ≡ None → new.maps ≡ old.maps ++ m ∷ [] → new.uses ≡ old.uses
    → new.lacking ≡ old.lacking
    → ((name : List ℕ) → get_by_text new.places name
    ≡ cond (bytes_eq m.name name) (Some (length old.maps)) (get_by_text old.places name))
    → IsReaderInStep new
with_map old new m h alone whole free maps uses lacking places = record {
  places = λ name.
      places name
      ∙ ap (cond (bytes_eq m.name name) (Some (length old.maps))) (h.places name)
      ∙ sym (place_more old.maps m name free) ∙ ap (λ (ms : List MapText). place_of ms name) (sym maps);
  whole = subst (All IsMapWhole) (sym maps) (All-push IsMapWhole old.maps m h.whole whole);
  begun = λ x k. absurd (none_some new.lacking x (lacking ∙ alone) k);
  uses = subst (λ (ms : List MapText). All (NamesMap ms) new.uses) (sym maps)
      (subst (All (NamesMap (old.maps ++ m ∷ []))) (sym uses)
      (All-weaker (NamesMap old.maps) (NamesMap (old.maps ++ m ∷ [])) later old.uses h.uses));
}
  where
    later : (u : UseText) → u.map < length old.maps → u.map < length (old.maps ++ m ∷ [])
    later u lt =
        let more : length (old.maps ++ m ∷ []) ≡ length old.maps + 1 =
        length-append old.maps (m ∷ []) in
        omega (arith, lt, more)

-- a use more
pub with_use : (old new : Reader) (u : UseText) → IsReaderInStep old → u.map < length old.maps
    → new ≡ record old { uses = old.uses ++ u ∷ [] } → IsReaderInStep new
with_use old new u h within e = subst IsReaderInStep (sym e) (record {
  places = h.places;
  whole = h.whole;
  begun = h.begun;
  uses = All-push (NamesMap old.maps) old.uses u h.uses within;
})

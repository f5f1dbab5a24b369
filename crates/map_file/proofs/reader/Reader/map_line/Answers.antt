use Rattle.std.proofs.Common.{◌≡◌, ◌<◌, ◌*◌, length, refl, rules, arith, sym, subst, Some, None}
use Rattle.std.specs.Str.{IsUtf8}
use Rattle.map_file.specs.Lines.{numbers_in, place_of, whole_of}
use Rattle.map_file.specs.Progress.{progress_of}
use Rattle.map_file.proofs.InStep.{line_more, now_whole, still_begun, with_lacking, with_line}
use Rattle.map_file.proofs.reader.Reader.map_line.Goals as goal

pub keep-requires-clause-whole : goal.keep-requires-clause-whole
keep-requires-clause-whole c =
    let is : c.in_ok-map.map ≡ with_line c.args.map c.in-Some.numbers = c.in_ok-map.ensures in
    let long : length c.in-Some.numbers ≡ c.args.map.size = omega arith in
    now_whole c.args.map c.in_ok-map.map c.in-Some.numbers c.requires.begun is long (omega arith)

pub returns-then-len-map-2 : goal.returns-then-len-map-2
returns-then-len-map-2 c =
    let is : c.in_ok-map.map ≡ with_line c.args.map c.in-Some.numbers = c.in_ok-map.ensures in
    let long : length c.in-Some.numbers ≡ c.args.map.size = omega arith in
    let lt : length c.in_ok-map.map.lines < 2 * c.in_ok-map.map.size = omega arith in
    let numbers : numbers_in c.args.line.now ≡ Some c.in-Some.numbers = search rules in (
      with_lacking c.args.self.now _ c.in_ok-map.map c.requires.in_step
          (record {
            begun = still_begun c.args.map c.in_ok-map.map c.in-Some.numbers c.requires.begun is long lt;
            new = subst (λ m. place_of c.args.self.now.maps m.name ≡ None) (sym is) c.requires.new_name;
            name = subst (λ m. IsUtf8 m.name) (sym is) c.requires.name;
          }) refl,
      (line_more c.args.map c.in_ok-map.map c.in-Some.numbers c.requires.begun is long
          (whole_of (progress_of c.args.self.now)) c.args.line.now numbers lt),
    )

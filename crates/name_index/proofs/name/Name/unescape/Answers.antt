use Rattle.std.proofs.Common.{◌≡◌, ◌≤◌, length, sym, ap, subst, ◌∙◌, true≢false, arith}
use Rattle.std.specs.Str.{IsUtf8}
use Rattle.std.proofs.lemmas.Str.{IsUtf8-had}
use Rattle.name_index.specs.Escape.{percent_decoded}
use Rattle.name_index.specs.Name.{IsName, HasNameLength}
use Rattle.name_index.proofs.EscapeLemmas.{percent_decode-decoded}
use Rattle.name_index.proofs.NameLemmas.{name_of_token-name, name_of_token-none}
use Rattle.name_index.proofs.name.Name.unescape.Goals as goal

pub returns-then-not-is_name_length-clause-value : goal.returns-then-not-is_name_length-clause-value
returns-then-not-is_name_length-clause-value c =
    let decoded = rw (c.new-bytes.ensures.items, c.percent_decode.ensures.bytes) at
    c.in_ok-append_to.ensures.ok in
    let is : c.append_to.new.out.items ≡ percent_decoded c.args.token.now =
    decoded ∙ percent_decode-decoded _ in
    let counted = c.append_to.new.out.ok.0 in
    sym (name_of_token-none _ (λ name.
    let short : 1 ≤ c.len.result = omega (arith, counted, ap length is, name.length.0) in
    let long : c.len.result ≤ 4096 = omega (arith, counted, ap length is, name.length.1) in
    true≢false (sym (c.is_name_length.ensures.1 (short, long)) ∙ c.if-not-is_name_length.true)))

pub returns-in-Ok-clause-is_name : goal.returns-in-Ok-clause-is_name
returns-in-Ok-clause-is_name c =
    let counted = c.append_to.new.out.ok.0 in
    let fits = c.is_name_length.ensures.0 c.if-not-is_name_length.false in
    let length : HasNameLength c.in-Ok.text.bytes.items =
    rw c.in-Ok.ensures.ok (omega (arith, counted, fits.0), omega (arith, counted, fits.1)) in
    record { utf8 = IsUtf8-had _ c.in-Ok.text.ok; length = length }

pub returns-in-Ok-clause-value : goal.returns-in-Ok-clause-value
returns-in-Ok-clause-value c =
    let decoded = rw (c.new-bytes.ensures.items, c.percent_decode.ensures.bytes) at
    c.in_ok-append_to.ensures.ok in
    let is : c.in-Ok.text.bytes.items ≡ percent_decoded c.args.token.now =
    rw c.in-Ok.ensures.ok (decoded ∙ percent_decode-decoded _) in
    rw is (sym (name_of_token-name _ (subst IsName is (returns-in-Ok-clause-is_name c))))

pub returns-clause-value : goal.returns-clause-value
returns-clause-value c =
    let decoded = rw (c.new-bytes.ensures.items, c.percent_decode.ensures.bytes) at
    c.in_ok-append_to.ensures.ok in
    let is : c.append_to.new.out.items ≡ percent_decoded c.args.token.now =
    decoded ∙ percent_decode-decoded _ in
    sym (name_of_token-none _ (λ name. true≢false
    (sym (c.in-Err.ensures.succeeds (subst IsUtf8 (sym is) name.utf8)))))

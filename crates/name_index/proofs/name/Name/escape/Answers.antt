use Rattle.name_index.proofs.EscapeLemmas.{percent_encode-escaped, graphic-escaped, percent_decoded-escaped}
use Rattle.name_index.proofs.NameLemmas.{bytes_from_name, name_of_token-escaped}
use Rattle.name_index.proofs.name.Name.escape.Goals as goal

pub returns-clause-value : goal.returns-clause-value
returns-clause-value c =
    rw (
      c.from_vec.ensures,
      c.into_bytes.ensures.value,
      c.in_ok-append_to.ensures.ok,
      c.new-token.ensures.bytes,
      c.utf8_percent_encode.ensures.text,
      c.text.ensures.value,
    )
    (percent_encode-escaped _ (bytes_from_name _ c.text.ensures.is_name))

pub returns-clause-graphic : goal.returns-clause-graphic
returns-clause-graphic c = graphic-escaped _ (bytes_from_name _ c.text.ensures.is_name)

pub returns-clause-decodes : goal.returns-clause-decodes
returns-clause-decodes c = percent_decoded-escaped _ (bytes_from_name _ c.text.ensures.is_name)

pub returns-clause-reads_back : goal.returns-clause-reads_back
returns-clause-reads_back c = name_of_token-escaped _ c.text.ensures.is_name

pub returns-in_err-append_to-clause-graphic : goal.returns-in_err-append_to-clause-graphic
returns-in_err-append_to-clause-graphic c =
    graphic-escaped _ (bytes_from_name _ c.text.ensures.is_name)

pub returns-in_err-append_to-clause-decodes : goal.returns-in_err-append_to-clause-decodes
returns-in_err-append_to-clause-decodes c =
    percent_decoded-escaped _ (bytes_from_name _ c.text.ensures.is_name)

pub returns-in_err-append_to-clause-reads_back : goal.returns-in_err-append_to-clause-reads_back
returns-in_err-append_to-clause-reads_back c = name_of_token-escaped _ c.text.ensures.is_name

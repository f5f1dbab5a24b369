-- The first file with the name is the one that stands there by name.
use Rattle.std.proofs.Common.{ap, ◌∙◌}
use Rattle.std.specs.Option.{option_map}
use Rattle.io_face.proofs.FoundFiles.{bytes_of, found_by_name}
use Rattle.io_face.proofs.named_file.file_named.Goals as goal

pub returns : goal.returns
returns c =
    ap (option_map bytes_of) c.first_named.ensures
    ∙ found_by_name c.args.name.now c.args.files.now

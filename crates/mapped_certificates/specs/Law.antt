-- The laws of certificates that are good for rows as they are seen.
use Rattle.std.specs.Prelude.{◌↔◌, List, []}
use Rattle.certificates.specs.declared.certificate.Certificate.{Certificate}
use Rattle.certificates.specs.Good.{Good}
use Rattle.user_model.specs.Model.{ModelValue}
use Rattle.user_model.specs.Valid.{IsValid}
use Rattle.mapped_certificates.specs.GoodSeen.{GoodMapped, GoodSeen}
use Rattle.mapped_certificates.specs.SeenRow.{SeenRow}
use Rattle.mapped_certificates.specs.ShowsSeen.{ShowsSeen}
use Rattle.mapped_certificates.specs.TakenBack.{StandForSeen, taken_back}

-- where the rows of a model stand for rows as they are seen, its good certificates are good for these
-- with the duals taken back
abbrev pub GoodTakenBack : Type 0
GoodTakenBack =
    (model : ModelValue) (rows : List SeenRow) → StandForSeen model.rows rows → (c : Certificate)
    → Good model c → GoodSeen model.groups rows model.objective (taken_back rows c)

-- where the rows of a valid model stand for rows as they are seen, a certificate that is good for these
-- shows what it says
abbrev pub GoodSeenShow : Type 0
GoodSeenShow =
    (model : ModelValue) (rows : List SeenRow) → StandForSeen model.rows rows → IsValid model
    → (c : Certificate) → GoodSeen model.groups rows model.objective c
    → ShowsSeen model.groups rows model.objective c

-- without uses it is what is good for the model
abbrev pub GoodWithoutUses : Type 0
GoodWithoutUses = (model : ModelValue) (c : Certificate) → GoodMapped model [] c ↔ Good model c

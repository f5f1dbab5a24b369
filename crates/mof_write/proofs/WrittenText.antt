-- What the writer of JSON tells of the text of a model's value.
use Rattle.std.specs.Prelude.{◌≡◌, ◌≤◌, ℕ, false, List, Some}
use Rattle.std.proofs.Common.{ap, arith, sym, ◌∙◌}
use Rattle.std.specs.Str.{IsUtf8}
use Rattle.serde_json.specs.Data.{Data, depth}
use Rattle.serde_json.specs.Read.{max_depth, read}
use Rattle.serde_json.specs.Written.{compact_text, has_float}
use Rattle.mof_text.specs.Rewritten.{rewritten}
use Rattle.user_model.specs.Model.{ModelValue}
use Rattle.user_model.specs.Valid.{IsValid}
use Rattle.mof_write.specs.Written.{IsTextOf, model_data, written}
use Rattle.mof_write.proofs.ShortModel.{model_short}
use Rattle.mof_write.proofs.ShortTexts.{depth_within, float_free, stays_as_it_is}

module _ (model : ModelValue) (d : Data) (text : List ℕ) (valid : IsValid model)
    (is : d ≡ model_data model) (told : has_float d ≡ false → text ≡ compact_text d) where
  pub text_is : text ≡ written model
  unfolding written
  text_is =
      told (ap has_float is ∙ float_free 7 (model_data model) (model_short model valid))
      ∙ ap compact_text is

  pub reads_as : IsUtf8 text → (depth d ≤ max_depth → read text ≡ Some d)
      → IsTextOf text (model_data model)
  unfolding written
  reads_as utf8 reads =
      let short = model_short model valid in
      let deep : depth d ≤ max_depth =
      omega (arith, ap depth is, depth_within 7 (model_data model) short) in
      record {
        utf8 = utf8;
        exact = ap rewritten text_is ∙ stays_as_it_is 7 (model_data model) short ∙ sym text_is;
        value = reads deep ∙ ap Some is;
      }

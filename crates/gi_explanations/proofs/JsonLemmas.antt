-- Lines of JSON objects, one after the other.
use Rattle.std.proofs.Common.{◌≡◌, ℕ, List, ◌++◌, ap, sym, ◌∙◌, append_assoc}
use Rattle.std.proofs.lemmas.List.Concat.{flat_map-append}
use Rattle.serde_json.specs.Data.{Data}
use Rattle.gi_exports.specs.Json.{line_of}
use Rattle.gi_explanations.specs.Json.{object_lines}

-- some objects, and more behind them
pub objects_more : (text bytes next : List ℕ) (ds es : List Data) → bytes ≡ text ++ object_lines ds → next ≡ bytes ++ object_lines es → next ≡ text ++ object_lines (ds ++ es)
objects_more text bytes next ds es first second =
    second ∙ ap (λ (l : List ℕ). l ++ object_lines es) first ∙ append_assoc text (object_lines ds) (object_lines es)
    ∙ ap (λ (l : List ℕ). text ++ l) (sym (flat_map-append line_of ds es))

use Rattle.std.proofs.Common.{◌≡◌, ◌++◌, ◌∷◌, map, length}
use Rattle.std.specs.List.{flat_map}
use Rattle.rcp_model.specs.Attributes.{segments_in, number_width}
use Rattle.path_attrs.specs.Texts.{space, segment_text, text_of_path}
use Rattle.path_attrs.proofs.text.put_path.Given as goal

abbrev pub invariant-loop-segment : goal.invariant-loop-segment
invariant-loop-segment l =
    l.text.items ++ flat_map (λ t. space ∷ t) (map segment_text (segments_in number_width l.rest))
    ≡ l.fn.text.items ++ text_of_path (segments_in number_width l.octets)

abbrev pub decreases-loop-segment : goal.decreases-loop-segment
decreases-loop-segment l = length l.rest

use Rattle.std.proofs.Common.{ℕ, List, ◌∷◌, ◌++◌, map, sym, ap, ◌∙◌}
use Rattle.std.specs.List.{flat_map}
use Rattle.rcp_model.specs.Attributes.{Segment, segment_of, segments_in, number_width}
use Rattle.path_attrs.specs.Texts.{space, segment_text, text_of_path}
use Rattle.path_attrs.proofs.Texting.{added, joined}
use Rattle.path_attrs.proofs.text.put_path.Goals as goal

pub loop-segment-init : goal.loop-segment-init
loop-segment-init c =
    let text = c.args.text.now.items in
    let first = segment_text (segment_of number_width c.in-Some.first.now) in
    let others = map segment_text (segments_in number_width c.in-Some.rest.now) in
    added text c.put_segment.new.text.items first (flat_map (λ (t : List ℕ). space ∷ t) others) c.in_ok-put_segment.ensures
    ∙ ap (λ (t : List ℕ). text ++ t) (sym (joined space first others))
    ∙ ap (λ (path : List Segment). text ++ text_of_path path) (sym c.in-Some.ensures.front)

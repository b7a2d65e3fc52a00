-- The text of an AS_PATH.
use Rattle.std.specs.Prelude.{ℕ, List, [], ◌∷◌, ◌++◌, map, codes, ◌==◌, if◌then◌else◌}
use Rattle.std.specs.List.{join_with_byte}
use Rattle.std.specs.Fmt.{decimal}
use Rattle.rcp_model.specs.Attributes.{Segment, AS_SET, attributes_in, number_width}
use Rattle.rcp_model.specs.Routes.{path_of}

abbrev pub comma : ℕ
comma = 44

abbrev pub space : ℕ
space = 32

-- the numbers of a sequence with spaces between them, those of a set in braces with commas
abbrev pub segment_text : Segment → List ℕ
segment_text segment =
    if segment.kind == AS_SET
    then codes "{" ++ join_with_byte comma (map decimal segment.numbers) ++ codes "}"
    else join_with_byte space (map decimal segment.numbers)

-- the segments with spaces between them; a hyphen where there is none
abbrev pub text_of_path : List Segment → List ℕ
text_of_path [] = codes "-"
text_of_path (segment ∷ segments) = join_with_byte space (map segment_text (segment ∷ segments))

-- the text of the path among attributes of these octets
abbrev pub path_text : List ℕ → List ℕ
path_text octets = text_of_path (path_of number_width (attributes_in octets))

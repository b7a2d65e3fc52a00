-- The report of the ends of sessions.
use Rattle.std.specs.Prelude.{ℕ, ◌==◌, suc, List, [], ◌∷◌, ◌++◌, length, min, Option, Some, None, if◌then◌else◌, codes}
use Rattle.std.specs.Fmt.{decimal}
use Rattle.std.specs.List.{concat, flat_map}
use Rattle.rcp_base.specs.Text.{address_text}
use Rattle.rcp_base.specs.declared.names.Member.{Member}
use Rattle.session_serve.specs.declared.ends.EndWhy.{EndWhy}
use Rattle.session_serve.specs.declared.ends.EndWhy.TheVariants as why
use Rattle.session_serve.specs.declared.ends.SessionEnd.{SessionEnd}

-- why a session ended
abbrev pub why_text : EndWhy → List ℕ
why_text (why.Fault code sub) = codes "fault " ++ decimal code ++ codes "/" ++ decimal sub
why_text (why.Received code sub) = codes "received " ++ decimal code ++ codes "/" ++ decimal sub
why_text why.PeerClosed = codes "peer-closed"
why_text (why.SeatOut out) = codes "seat-out"
why_text why.LinkFault = codes "link-fault"
why_text why.Stopped = codes "stopped"
why_text why.NoMemory = codes "no-memory"

-- `session ROUTER generation N WHY messages N updates N`
abbrev pub end_line : List ℕ → SessionEnd → List ℕ
end_line router end = concat (codes "session " ∷ router ∷ codes " generation " ∷ decimal end.generation ∷ codes " " ∷ why_text end.why
    ∷ codes " messages " ∷ decimal end.messages ∷ codes " updates " ∷ decimal end.updates ∷ codes "\n" ∷ [])

-- the place of an end in the report: that of its router in the roster, and after all of them where there is none
abbrev pub place_of : ℕ → Option ℕ → ℕ
place_of routers None = routers
place_of routers (Some slot) = min slot routers

-- the line of an end at this place
abbrev pub line_at : (routers place : ℕ) → List ℕ → SessionEnd → List ℕ
line_at routers place router end = if place_of routers end.slot == place then end_line router end else []

-- the lines of the ends at this place, in their order
abbrev pub lines_at : (routers place : ℕ) → List ℕ → List SessionEnd → List ℕ
lines_at routers place router ends = flat_map (line_at routers place router) ends

-- the lines for some members, of which the first has this place, and then those for no router
abbrev pub lines_from : (routers place : ℕ) → List Member → List SessionEnd → List ℕ
lines_from routers place [] ends = lines_at routers place (codes "unknown") ends
lines_from routers place (member ∷ members) ends = lines_at routers place (address_text member.router) ends ++ lines_from routers (suc place) members ends

-- the lines by the places of the routers in the roster
abbrev pub report_of : List Member → List SessionEnd → List ℕ
report_of members ends = lines_from (length members) 0 members ends

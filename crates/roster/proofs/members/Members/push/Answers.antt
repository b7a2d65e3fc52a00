use Rattle.std.proofs.Common.{◌≡◌, List, [], ◌∷◌, ◌++◌, length, map, refl, sym, ap, ◌∙◌, arith, length-append}
use Rattle.std.proofs.lemmas.List.{length-map}
use Rattle.indexmap.proofs.CallerLemmas.{insert_entry-new}
use Rattle.rcp_base.specs.declared.names.Member.{Member}
use Rattle.roster.specs.Entries.{member_of, identifier_of}
use Rattle.roster.proofs.EntryLemmas.{taken-more, router-new, popped, identifiers-more, members-more}
use Rattle.roster.proofs.members.Members.push.Goals as goal
use Rattle.roster.proofs.members.Members.push.Goals.{In-Ok-insert}

entries : (c : In-Ok-insert) → c.insert-in-Ok.new.self.entries ≡ c.self.inside.identifiers.entries ++ (c.args.member.router, c.args.member.bgp_id) ∷ []
entries c =
    c.in-Ok-insert.ensures.entries
    ∙ insert_entry-new _ c.self.inside.identifiers c.args.member.router c.args.member.bgp_id
    (router-new _ (λ a b. refl) c.self.inside.identifiers.entries c.args.self.now c.args.member.router c.self.view_is c.requires.new_router)

pub invariant_of-self : goal.invariant_of-self
invariant_of-self c =
    let es = c.self.inside.identifiers.entries in
    let few : length (map member_of es) ≡ length c.args.self.now = ap length c.self.view_is in (
      taken-more _ (λ a b. refl) es c.args.self.now c.self.inside.taken.keys c.insert.new.self.keys c.args.member.bgp_id c.self.invariant.0 c.self.view_is c.requires.new_identifier c.in-Ok.ensures.keys
          ∙ sym (identifiers-more es c.insert-in-Ok.new.self.entries c.args.member.router c.args.member.bgp_id (entries c)),
      omega (arith, simp length-append at (ap length (entries c)), simp length-map at few, c.requires.room),
    )

pub invariant_of-self-in-Err-insert : goal.invariant_of-self-in-Err-insert
invariant_of-self-in-Err-insert c =
    let es = c.self.inside.identifiers.entries in
    let put = taken-more _ (λ a b. refl) es c.args.self.now c.self.inside.taken.keys c.insert.new.self.keys c.args.member.bgp_id c.self.invariant.0 c.self.view_is c.requires.new_identifier c.in-Ok.ensures.keys in
    let left = popped (map identifier_of es) c.pop.new.self.keys c.args.member.bgp_id c.pop.result (sym put ∙ c.pop.ensures.keys)
    (c.pop.ensures.found.1 (omega (arith, simp length-append at (ap length put)))) in
    let same = c.in-Err-insert.ensures.err in
    (left ∙ ap (map identifier_of) (sym same), omega (arith, ap length same, c.self.invariant.1))

pub returns-in-Ok-insert-clause-ok : goal.returns-in-Ok-insert-clause-ok
returns-in-Ok-insert-clause-ok c =
    members-more c.self.inside.identifiers.entries c.insert-in-Ok.new.self.entries c.args.member.router c.args.member.bgp_id (entries c)
    ∙ ap (λ (members : List Member). members ++ c.args.member ∷ []) c.self.view_is

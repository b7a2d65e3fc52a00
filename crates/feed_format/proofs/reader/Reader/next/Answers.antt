use Rattle.feed_format.proofs.AgainLemmas.{gives_record}
use Rattle.feed_format.proofs.reader.Reader.next.Goals as goal

pub returns-in-Ok-clause-told : goal.returns-in-Ok-clause-told
returns-in-Ok-clause-told g c =
    let taken = c.in-Ok.ensures.takes in
    gives_record c.args.self.now c.in-Ok.item (g.S.Source.left c.args.source.now) _ taken.form taken.lawful taken.given

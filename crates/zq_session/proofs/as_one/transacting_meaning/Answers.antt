use Rattle.std.specs.Prelude.{[]}
use Rattle.zq_dots.specs.Rule.{rule_of}
use Rattle.zq_notes.specs.Calls.{notes_of}
use Rattle.zq_notes.specs.Gathered.{gathered}
use Rattle.zq_notes.specs.Sites.{has_at, made_of}
use Rattle.zq_session.proofs.Transactions.{read_off, transacted_stands}
use Rattle.zq_session.proofs.as_one.transacting_meaning.Goals as goal
use Rattle.zq_spread.specs.Calls.{heaps_of}

pub returns-clause-stands : goal.returns-clause-stands
returns-clause-stands c = transacted_stands

pub returns-clause-runs : goal.returns-clause-runs
returns-clause-runs c = λ W opening before called after old new asked answer world are over of is.
    read_off (rule_of old.site.rule) (heaps_of old.site) old.site.number (gathered W (notes_of before) []) asked answer called.note is.asked is.answered
    (c.reading_notes.ensures.serves old.site W opening before called after world are over of)

pub returns-clause-linked_runs : goal.returns-clause-linked_runs
returns-clause-linked_runs c = λ limits rule K sites events before e after old new asked answer two are at is.
    let links = c.linking.ensures.links limits rule K sites events two are in
    read_off rule K e.site (has_at (made_of events) e.site before) asked answer e.call.note is.asked is.answered (links.answers before e after at)

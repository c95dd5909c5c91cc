use Rattle.std.proofs.Common.{[], subst, sym, ◌∷◌}
use Rattle.zq_dots.specs.Rule.{rule_of}
use Rattle.zq_notes.specs.Calls.{notes_of}
use Rattle.zq_notes.specs.Gathered.{gathered}
use Rattle.zq_notes.specs.Sites.{has_at, made_of}
use Rattle.zq_dialect.specs.Further.{call_of}
use Rattle.zq_semantics.specs.Reading.{heaps_in, queues_over}
use Rattle.zq_session.proofs.FurtherHistory.{all_stand_further, asked_off, further_stands, told}
use Rattle.zq_session.proofs.Seen.{session-seen}
use Rattle.zq_session.specs.Among.{AnyRequest}
use Rattle.zq_session.specs.Calling.{AnswersFurther}
use Rattle.zq_session.specs.FurtherCalls.{IsToldOver, StandsFurther}
use Rattle.zq_spread.specs.Calls.{heaps_of}
use Rattle.zq_session.proofs.further.calling_meaning.Goals as goal

pub returns-clause-stands : goal.returns-clause-stands
returns-clause-stands c = λ p old new words reply is. further_stands c.noting.ensures.calls p old new reply (call_of words) words is

pub returns-clause-sessions : goal.returns-clause-sessions
returns-clause-sessions c = λ p old new requests replies is. all_stand_further c.noting.ensures.calls p old new requests replies is

pub returns-clause-connections : goal.returns-clause-connections
returns-clause-connections c = λ p begun now text written ended is.
    session-seen (λ s. s) (AnyRequest AnswersFurther) (AnyRequest (StandsFurther p)) AnswersFurther (StandsFurther p)
    (λ old new any. (any.0, any.1, further_stands c.noting.ensures.calls p old new any.1 (call_of any.0) any.0 any.2))
    (λ old new words reply is. further_stands c.noting.ensures.calls p old new reply (call_of words) words is) begun now text written ended is

pub returns-clause-runs : goal.returns-clause-runs
returns-clause-runs c = λ W opening before called after old new call bytes world are over of is.
    asked_off (rule_of old.site.rule) (heaps_of old.site) old.site.number (gathered W (notes_of before) []) call bytes called.note is.asked is.answer
    (c.reading_notes.ensures.serves old.site W opening before called after world are over of)

pub returns-clause-asks : goal.returns-clause-asks
returns-clause-asks c = told

pub returns-clause-reads : goal.returns-clause-reads
returns-clause-reads c = λ W opening before called after old new call bytes world are over of reads is.
    let off = returns-clause-runs c W opening before called after old new call bytes world are over of is in
    (told (queues_over (rule_of old.site.rule) (gathered W (notes_of before) []) (heaps_in (heaps_of old.site))) call off.0 bytes reads off.1).1

pub returns-clause-linked_runs : goal.returns-clause-linked_runs
returns-clause-linked_runs c = λ limits rule K sites events before e after old new call bytes two are at is.
    let links = c.linking.ensures.links limits rule K sites events two are in
    asked_off rule K e.site (has_at (made_of events) e.site before) call bytes e.call.note is.asked is.answer (links.answers before e after at)

pub returns-clause-linked : goal.returns-clause-linked
returns-clause-linked c = λ limits rule K sites events before e after old new call bytes two are at reads is.
    let off = returns-clause-linked_runs c limits rule K sites events before e after old new call bytes two are at is in
    (told (queues_over rule (has_at (made_of events) e.site before) (heaps_in K)) call off.0 bytes reads off.1).1

pub returns-clause-converging : goal.returns-clause-converging
returns-clause-converging c = λ limits rule K sites events one other call two are reads is_one is_other same.
    let links = c.linking.ensures.links limits rule K sites events two are in
    let W = made_of events in
    let S = has_at W one.event.site one.before in
    let T = has_at W other.event.site other.before in
    let inside = links.within one.event.site one.before (one.event ∷ one.after) is_one.at in (
      returns-clause-linked c limits rule K sites events one.before one.event one.after one.old one.new call one.bytes two are is_one.at reads is_one.is,
      subst (λ q. IsToldOver q call other.bytes) (sym (c.reading_notes.ensures.alike rule K W S T links.world inside same))
          (returns-clause-linked c limits rule K sites events other.before other.event other.after other.old other.new call other.bytes two are is_other.at reads is_other.is),
    )

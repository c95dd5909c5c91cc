use Rattle.std.proofs.Common.{[], subst, sym, ◌∷◌}
use Rattle.zq_dots.specs.Rule.{rule_of}
use Rattle.zq_model.proofs.Worlds.{world_part}
use Rattle.zq_notes.specs.Calls.{notes_of}
use Rattle.zq_notes.specs.Gathered.{gathered}
use Rattle.zq_notes.specs.Sites.{has_at, made_of}
use Rattle.zq_resp.specs.Reply.{reply_bytes}
use Rattle.zq_session.proofs.InHistory.{all_stand, answered_so, run_off, stands}
use Rattle.zq_session.proofs.Seen.{session-seen}
use Rattle.zq_session.specs.Among.{AnyRequest}
use Rattle.zq_session.specs.Calls.{IsAnsweredBy, StandsBy}
use Rattle.zq_session.specs.Passing.{AnswersByCall, words_for}
use Rattle.zq_spread.specs.Calls.{heaps_of}
use Rattle.zq_words.specs.Command.{command_of}
use Rattle.zq_session.proofs.histories.passing_meaning.Goals as goal

pub returns-clause-stands : goal.returns-clause-stands
returns-clause-stands c = λ p old new words reply is. stands c.noting.ensures.calls p old new (reply_bytes reply) (command_of words) is

pub returns-clause-sessions : goal.returns-clause-sessions
returns-clause-sessions c = λ p old new requests replies is. all_stand c.noting.ensures.calls p old new requests replies is

pub returns-clause-connections : goal.returns-clause-connections
returns-clause-connections c = λ p begun now text written ended is.
    session-seen (λ s. s) (AnyRequest AnswersByCall) (AnyRequest (StandsBy p)) AnswersByCall (StandsBy p)
    (λ old new any. (any.0, any.1, stands c.noting.ensures.calls p old new (reply_bytes any.1) (command_of any.0) any.2))
    (λ old new words reply is. stands c.noting.ensures.calls p old new (reply_bytes reply) (command_of words) is) begun now text written ended is

pub returns-clause-runs : goal.returns-clause-runs
returns-clause-runs c = λ W opening before call after old new command bytes world are over of is.
    let off = c.reading_notes.ensures.serves old.site W opening before call after world are over of in
    run_off (rule_of old.site.rule) (heaps_of old.site) old.site.number (gathered W (notes_of before) []) (words_for command old.draws).0 (words_for command old.draws).1 command bytes call.note is.asked is.answer off

pub returns-clause-reads : goal.returns-clause-reads
returns-clause-reads c = λ W opening before call after old new words command bytes world are over of question read is.
    let runs = returns-clause-runs c W opening before call after old new command bytes world are over of is in
    let reads = c.asking.ensures.reads words command question read in
    answered_so (rule_of old.site.rule) (heaps_of old.site) (gathered W (notes_of before) []) words command bytes read
    (c.reading_notes.ensures.asks (rule_of old.site.rule) (heaps_of old.site) (gathered W (notes_of before) []) (words_for command old.draws).0 (words_for command old.draws).1 command runs.0 bytes
    old.site.some (c.reading_notes.ensures.stays old.site W opening before call after world are over of) reads runs.1)

pub returns-clause-linked : goal.returns-clause-linked
returns-clause-linked c = λ limits rule K sites events before e after old new words command bytes two are at question read is.
    let links = c.linking.ensures.links limits rule K sites events two are in
    let S = has_at (made_of events) e.site before in
    let off = links.answers before e after at in
    let runs = run_off rule K e.site S (words_for command old.draws).0 (words_for command old.draws).1 command bytes e.call.note is.asked is.answer off in
    let reads = c.asking.ensures.reads words command question read in
    answered_so rule K S words command bytes read
    (c.reading_notes.ensures.asks rule K S (words_for command old.draws).0 (words_for command old.draws).1 command runs.0 bytes two
    (world_part K S (made_of events) (links.within e.site before (e ∷ after) at) links.world) reads runs.1)

pub returns-clause-converging : goal.returns-clause-converging
returns-clause-converging c = λ limits rule K sites events one other words two are question is_one is_other same.
    let links = c.linking.ensures.links limits rule K sites events two are in
    let W = made_of events in
    let S = has_at W one.event.site one.before in
    let T = has_at W other.event.site other.before in
    let inside = links.within one.event.site one.before (one.event ∷ one.after) is_one.at in (
      returns-clause-linked c limits rule K sites events one.before one.event one.after one.old one.new words one.command one.bytes two are is_one.at question is_one.read is_one.call,
      subst (λ q. IsAnsweredBy q words other.bytes) (sym (c.reading_notes.ensures.alike rule K W S T links.world inside same))
          (returns-clause-linked c limits rule K sites events other.before other.event other.after other.old other.new words other.command other.bytes two are is_other.at question is_other.read is_other.call),
    )

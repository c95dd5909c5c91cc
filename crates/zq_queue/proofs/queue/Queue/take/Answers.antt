use Rattle.std.proofs.Common.{ap, subst, sym, ◌∙◌, ◌≡◌}
use Rattle.std.specs.FinMap.{get}
use Rattle.std.specs.Prelude.{unwrap_or}
use Rattle.zq_model.specs.Image.{no_additions}
use Rattle.zq_posheap.proofs.Entries.{none_of}
use Rattle.zq_queue.specs.Effects.{HasRoom, affected}
use Rattle.zq_queue.proofs.Seen.{seen}
use Rattle.zq_queue.proofs.Sinking.{added_or_not, exchanged}
use Rattle.zq_queue.specs.Entries.{entry_in, set_entry}
use Rattle.zq_queue.specs.Place.{index_of}
use Rattle.zq_queue.specs.Sinks.{Sinks}
use Rattle.zq_queue.proofs.queue.Queue.take.Goals as goal

pub changed-requires-clause-room : goal.changed-requires-clause-room
changed-requires-clause-room c =
    let m = c.args.member.now in
    let got = c.at.ensures m c.in-Some.ensures.place in
    let its : entry_in c.args.self.now.entries m ≡ c.at.result.now
    = ap (λ q. entry_in q.entries m) (sym c.self.view_is) ∙ ap (λ r. unwrap_or r no_additions) got in
    subst (HasRoom c.args.effect.now) its c.requires.room

pub changed-requires-in-None-clause-room : goal.changed-requires-in-None-clause-room
changed-requires-in-None-clause-room c =
    let m = c.args.member.now in
    let none = none_of (get c.self.inside.members.entries m) c.in-None.ensures.there in
    let its : entry_in c.args.self.now.entries m ≡ c.new.result
    = ap (λ q. entry_in q.entries m) (sym c.self.view_is) ∙ ap (λ r. unwrap_or r no_additions) none ∙ sym c.new.ensures in
    subst (HasRoom c.args.effect.now) its c.requires.room

pub add-requires : goal.add-requires
add-requires c = ap (λ q. get q.entries c.args.member.now) (sym c.self.view_is) ∙ none_of (get c.self.inside.members.entries c.args.member.now) c.in-None.ensures.there

pub returns-in_ok-entry-in-Some-clause-taken : goal.returns-in_ok-entry-in-Some-clause-taken
returns-in_ok-entry-in-Some-clause-taken c =
    let m = c.args.member.now in
    let held = c.self.inside.members.entries in
    let its : entry_in held m ≡ c.at.result.now = ap (λ r. unwrap_or r no_additions) (c.at.ensures m c.in-Some.ensures.place) in
    c.exchange.ensures.set
    ∙ ap (set_entry held m) (c.in_ok-entry-in-Some.ensures ∙ ap (affected c.args.effect.now) (sym its))
    ∙ ap (λ q. set_entry q.entries m (affected c.args.effect.now (entry_in q.entries m))) c.self.view_is

pub returns-in_ok-add-in-None-clause-taken : goal.returns-in_ok-add-in-None-clause-taken
returns-in_ok-add-in-None-clause-taken c =
    let m = c.args.member.now in
    let none = none_of (get c.self.inside.members.entries m) c.in-None.ensures.there in
    let its : entry_in c.args.self.now.entries m ≡ c.new.result
    = ap (λ q. entry_in q.entries m) (sym c.self.view_is) ∙ ap (λ r. unwrap_or r no_additions) none ∙ sym c.new.ensures in
    c.in_ok-add-in-None.ensures.added
    ∙ ap (set_entry c.args.self.now.entries m) (c.in_ok-entry-in-None.ensures ∙ ap (affected c.args.effect.now) (sym its))

pub returns-in_ok-add-in-None-clause-before : goal.returns-in_ok-add-in-None-clause-before
returns-in_ok-add-in-None-clause-before c =
    sym (ap (λ q. get q.entries c.args.member.now) (sym c.self.view_is) ∙ none_of (get c.self.inside.members.entries c.args.member.now) c.in-None.ensures.there)

pub returns-in_ok-entry-in-Some-clause-sinks : goal.returns-in_ok-entry-in-Some-clause-sinks
returns-in_ok-entry-in-Some-clause-sinks c =
    subst (λ q. Sinks q (seen c.exchange.new.self)) c.self.view_is
    (exchanged (seen c.self.inside.members) (seen c.exchange.new.self) (index_of c.in-Some.place) c.args.member.now c.in_ok-entry-in-Some.entry c.in-Some.ensures.place c.exchange.ensures.places c.exchange.ensures.set)

pub returns-in_ok-add-in-None-clause-sinks : goal.returns-in_ok-add-in-None-clause-sinks
returns-in_ok-add-in-None-clause-sinks c =
    added_or_not c.args.self.now c.add.new.self c.args.member.now c.in_ok-entry-in-None.entry c.in_ok-add-in-None.ensures.places

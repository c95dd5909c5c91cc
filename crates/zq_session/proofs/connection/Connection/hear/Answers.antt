use Rattle.std.proofs.Common.{◌≡◌, ◌∙◌, [], ap, drop, inl, inr, refl, subst, sym, true}
use Rattle.std.proofs.lemmas.List.{take_rest}
use Rattle.zq_session.proofs.AnsweredPart.{some-short}
use Rattle.zq_session.proofs.Connections.{along-broken, along-has, along-heard, along-short, heard-requests, lost-requests}
use Rattle.zq_session.specs.Connection.{ConnectionState, IsAlong, WantsToRead}
use Rattle.zq_session.proofs.connection.Connection.hear.Goals as goal

pub returns-in_default-clause-along : goal.returns-in_default-clause-along
returns-in_default-clause-along g c = λ begun text written p.
    let s = c.self.inside in
    let old : ConnectionState = record { unfinished = s.reader; waiting = s.waiting.items; replies = s.replies.items; sent = s.sent; is_closed = s.is_closed } in
    let view : old ≡ c.args.self.now = c.self.view_is in
    let wants = subst WantsToRead (sym view) c.requires.wants in
    let along = subst (IsAlong g.A.Answers.others g.A.Answers.answers begun c.args.answerer.now text written) (sym view) p in
    along-short g.A.Answers.others g.A.Answers.answers begun _ _ text written c.args.piece.now old _ along wants.is_open wants.none c.self.invariant.0 refl c.requires.one_read refl
    (λ had is. let a = c.in_default.ensures.answers had is in (a.0, some-short g.A.Answers.answers _ _ had c.args.piece.now a.0 c.answer_some-answered.new.input c.in_default.field-0 a.1, a.2))

pub returns-then-is_broken-clause-along : goal.returns-then-is_broken-clause-along
returns-then-is_broken-clause-along g c = λ begun text written p.
    let s = c.self.inside in
    let old : ConnectionState = record { unfinished = s.reader; waiting = s.waiting.items; replies = s.replies.items; sent = s.sent; is_closed = s.is_closed } in
    let view : old ≡ c.args.self.now = c.self.view_is in
    let wants = subst WantsToRead (sym view) c.requires.wants in
    let along = subst (IsAlong g.A.Answers.others g.A.Answers.answers begun c.args.answerer.now text written) (sym view) p in
    along-heard g.A.Answers.others g.A.Answers.answers begun _ _ text written c.args.piece.now old _ along wants.is_open wants.none c.self.invariant.0 refl
    c.in-Ok.answered.taken c.in-Ok.answered.served (λ had is. c.in-Ok.ensures.answers had is) (λ going. absurd (cc going)) (λ broke. refl)

pub returns-in-Ok-extend_from_slice-clause-along : goal.returns-in-Ok-extend_from_slice-clause-along
returns-in-Ok-extend_from_slice-clause-along g c = λ begun text written p.
    let s = c.self.inside in
    let old : ConnectionState = record { unfinished = s.reader; waiting = s.waiting.items; replies = s.replies.items; sent = s.sent; is_closed = s.is_closed } in
    let view : old ≡ c.args.self.now = c.self.view_is in
    let wants = subst WantsToRead (sym view) c.requires.wants in
    let along = subst (IsAlong g.A.Answers.others g.A.Answers.answers begun c.args.answerer.now text written) (sym view) p in
    let taken = c.in-Ok.answered.taken in
    let waits : drop taken c.args.piece.now ≡ c.extend_from_slice.new.self.items =
    sym (rw (take_rest c.args.piece.now taken, wants.none) at c.in-Ok-extend_from_slice.ensures.items) in
    along-heard g.A.Answers.others g.A.Answers.answers begun _ _ text written c.args.piece.now old _ along wants.is_open wants.none c.self.invariant.0 refl
    taken c.in-Ok.answered.served (λ had is. c.in-Ok.ensures.answers had is) (λ going. waits) (λ broke. absurd (cc (c.is_broken.ensures.1 broke, c.if-is_broken.false)))

pub returns-in-Err-clause-along : goal.returns-in-Err-clause-along
returns-in-Err-clause-along g c = λ begun text written p.
    let s = c.self.inside in
    let old : ConnectionState = record { unfinished = s.reader; waiting = s.waiting.items; replies = s.replies.items; sent = s.sent; is_closed = s.is_closed } in
    let view : old ≡ c.args.self.now = c.self.view_is in
    let wants = subst WantsToRead (sym view) c.requires.wants in
    let along = subst (IsAlong g.A.Answers.others g.A.Answers.answers begun c.args.answerer.now text written) (sym view) p in
    along-heard g.A.Answers.others g.A.Answers.answers begun _ _ text written c.args.piece.now old _ along wants.is_open wants.none c.self.invariant.0 refl
    c.in-Ok.answered.taken c.in-Ok.answered.served (λ had is. c.in-Ok.ensures.answers had is) (λ going. absurd (cc going)) (λ broke. refl)

pub returns-in_default-clause-requests : goal.returns-in_default-clause-requests
returns-in_default-clause-requests g c = λ begun text written p.
    let s = c.self.inside in
    let old : ConnectionState = record { unfinished = s.reader; waiting = s.waiting.items; replies = s.replies.items; sent = s.sent; is_closed = s.is_closed } in
    let view : old ≡ c.args.self.now = c.self.view_is in
    let wants = subst WantsToRead (sym view) c.requires.wants in
    let along = subst (IsAlong g.A.Answers.others g.A.Answers.answers begun c.args.answerer.now text written) (sym view) p in
    let new : ConnectionState = record old { unfinished = c.answer_some-answered.new.input; replies = c.answer_some-answered.new.out.items } in
    lost-requests g.A.Answers.others g.A.Answers.answers begun _ _ text written c.args.piece.now old new along wants.is_open
    (λ had is. let a = c.in_default.ensures.answers had is in (a.0, some-short g.A.Answers.answers _ _ had c.args.piece.now a.0 c.answer_some-answered.new.input c.in_default.field-0 a.1, a.2))

pub returns-then-is_broken-clause-requests : goal.returns-then-is_broken-clause-requests
returns-then-is_broken-clause-requests g c = λ begun text written p.
    let s = c.self.inside in
    let old : ConnectionState = record { unfinished = s.reader; waiting = s.waiting.items; replies = s.replies.items; sent = s.sent; is_closed = s.is_closed } in
    let view : old ≡ c.args.self.now = c.self.view_is in
    let wants = subst WantsToRead (sym view) c.requires.wants in
    let along = subst (IsAlong g.A.Answers.others g.A.Answers.answers begun c.args.answerer.now text written) (sym view) p in
    let new : ConnectionState = record old { unfinished = c.answer_some-answered.new.input; replies = c.answer_some-answered.new.out.items } in
    heard-requests g.A.Answers.others g.A.Answers.answers begun _ _ text written _ old new along wants.is_open c.in-Ok.answered.served (λ had is. c.in-Ok.ensures.answers had is)

pub returns-in-Ok-extend_from_slice-clause-requests : goal.returns-in-Ok-extend_from_slice-clause-requests
returns-in-Ok-extend_from_slice-clause-requests g c = λ begun text written p.
    let s = c.self.inside in
    let old : ConnectionState = record { unfinished = s.reader; waiting = s.waiting.items; replies = s.replies.items; sent = s.sent; is_closed = s.is_closed } in
    let view : old ≡ c.args.self.now = c.self.view_is in
    let wants = subst WantsToRead (sym view) c.requires.wants in
    let along = subst (IsAlong g.A.Answers.others g.A.Answers.answers begun c.args.answerer.now text written) (sym view) p in
    let new : ConnectionState = record old { unfinished = c.answer_some-answered.new.input; replies = c.answer_some-answered.new.out.items } in
    heard-requests g.A.Answers.others g.A.Answers.answers begun _ _ text written _ old new along wants.is_open c.in-Ok.answered.served (λ had is. c.in-Ok.ensures.answers had is)

pub returns-in-Err-clause-requests : goal.returns-in-Err-clause-requests
returns-in-Err-clause-requests g c = λ begun text written p.
    let s = c.self.inside in
    let old : ConnectionState = record { unfinished = s.reader; waiting = s.waiting.items; replies = s.replies.items; sent = s.sent; is_closed = s.is_closed } in
    let view : old ≡ c.args.self.now = c.self.view_is in
    let wants = subst WantsToRead (sym view) c.requires.wants in
    let along = subst (IsAlong g.A.Answers.others g.A.Answers.answers begun c.args.answerer.now text written) (sym view) p in
    let new : ConnectionState = record old { unfinished = c.answer_some-answered.new.input; replies = c.answer_some-answered.new.out.items } in
    heard-requests g.A.Answers.others g.A.Answers.answers begun _ _ text written _ old new along wants.is_open c.in-Ok.answered.served (λ had is. c.in-Ok.ensures.answers had is)

pub returns-then-is_broken-clause-broken : goal.returns-then-is_broken-clause-broken
returns-then-is_broken-clause-broken g c = λ begun text written p closed.
    let s = c.self.inside in
    let old : ConnectionState = record { unfinished = s.reader; waiting = s.waiting.items; replies = s.replies.items; sent = s.sent; is_closed = s.is_closed } in
    let view : old ≡ c.args.self.now = c.self.view_is in
    let wants = subst WantsToRead (sym view) c.requires.wants in
    let along = subst (IsAlong g.A.Answers.others g.A.Answers.answers begun c.args.answerer.now text written) (sym view) p in
    let new : ConnectionState = record old { unfinished = c.answer_some-answered.new.input; replies = c.answer_some-answered.new.out.items; is_closed = true } in
    along-broken g.A.Answers.others g.A.Answers.answers begun _ _ text written c.args.piece.now old new along wants.is_open wants.none c.self.invariant.0 refl
    c.in-Ok.answered.taken c.in-Ok.answered.served (c.is_broken.ensures.0 c.if-is_broken.true) (λ had is. c.in-Ok.ensures.answers had is)

pub returns-in_default-clause-short : goal.returns-in_default-clause-short
returns-in_default-clause-short g c = λ begun text written p.
    let s = c.self.inside in
    let old : ConnectionState = record { unfinished = s.reader; waiting = s.waiting.items; replies = s.replies.items; sent = s.sent; is_closed = s.is_closed } in
    let view : old ≡ c.args.self.now = c.self.view_is in
    let wants = subst WantsToRead (sym view) c.requires.wants in
    let along = subst (IsAlong g.A.Answers.others g.A.Answers.answers begun c.args.answerer.now text written) (sym view) p in
    let has = along-has g.A.Answers.others g.A.Answers.answers begun _ text written old along wants.is_open in
    inl (c.in_default.ensures.full has.0 has.1)

pub returns-in-Err-clause-short : goal.returns-in-Err-clause-short
returns-in-Err-clause-short g c = λ begun text written p.
    let s = c.self.inside in
    let none : s.waiting.items ≡ [] = ap (λ c. c.waiting) c.self.view_is ∙ c.requires.wants.none in
    inr (c.in-Ok.answered.taken, record { kept = s.waiting; has = none; full = rw (take_rest c.args.piece.now c.in-Ok.answered.taken) at c.in-Err.ensures.full })

use Rattle.std.proofs.Common.{◌≡◌, ◌++◌, ◌<◌, length, rules, take, drop, ap, sym, ◌∙◌, append_assoc, arith}
use Rattle.std.proofs.lemmas.List.{length-append, take-append-drop, take_rest}
use Rattle.zq_wire.specs.Framed.{framed}
use Rattle.zq_wire.specs.Memory.{kept_after}
use Rattle.zq_wire.specs.Stream.{frames_in}
use Rattle.zq_wire.specs.Unfinished.{text_so_far}
use Rattle.zq_wire.proofs.Asking.{asks_here, asks_if, asks_still, none_kept, reads_again, reads_on}
use Rattle.zq_wire.proofs.Framed.{framed_length}
use Rattle.zq_wire.proofs.Streams.{reaches_at, reaches_with}
use Rattle.zq_wire.proofs.reader.read_on.Goals as goal

pub loop-rest-smaller-in-Some : goal.loop-rest-smaller-in-Some
loop-rest-smaller-in-Some c =
    let spelled = rw c.in-Some.is at c.in_ok-frame.ensures.spelled in
    let longer = ap length spelled ∙ length-append (framed c.in-Some.frame.now) c.in-Some.after.now in
    omega (arith, framed_length c.in-Some.frame.now)

pub loop-rest-preserved-in-Some : goal.loop-rest-preserved-in-Some
loop-rest-preserved-in-Some c =
    let rest = c.loop-rest.rest.now in
    let after = c.in-Some.after.now in
    let text = text_so_far c.loop-rest.unfinished in
    let none = rw c.in-Some.is at c.in_ok-frame.ensures.none in
    let spelled = rw c.in-Some.is at c.in_ok-frame.ensures.spelled in
    let small = rw c.in-Some.is at c.in_ok-frame.ensures.small in
    let copied : c.in_ok-from_slice.field-0.items ≡ c.in-Some.frame.now = c.in_ok-from_slice.ensures.items in
    let front : text ++ rest ≡ framed c.in_ok-from_slice.field-0.items ++ after =
    ap (λ text. text ++ rest) none ∙ (spelled ∙ ap (λ frame. framed frame ++ after) (sym copied)) in
    let had = text_so_far c.args.unfinished in
    let bytes = had ++ c.args.piece.now in
    record {
      stands = c.loop-rest.invariant.stands;
      asks = reads_again c.args.most (kept_after (frames_in c.push.new.self) had) text after (none_kept c.loop-rest.frames c.push.new.self c.in_ok-from_slice.field-0 had c.in_ok-push.ensures.items) none;
      reads = reaches_at c.args.most bytes after (text ++ after) (frames_in c.push.new.self)
          (reaches_with c.args.most bytes (text ++ rest) after c.loop-rest.frames c.push.new.self c.in_ok-from_slice.field-0 c.loop-rest.invariant.reads front
          (rw copied small) c.in_ok-push.ensures.items)
          (ap (λ text. text ++ after) (sym none));
    }

pub loop-rest-preserved-in-More : goal.loop-rest-preserved-in-More
loop-rest-preserved-in-More c =
    let rest = c.loop-rest.rest.now in
    let taken = c.in_ok-progress.taken in
    let text = text_so_far c.loop-rest.unfinished in
    let more = text_so_far c.in-More.more in
    let step = rw c.in-More.is at c.in_ok-progress.ensures.step in
    let kept = kept_after (frames_in c.loop-rest.frames) (text_so_far c.args.unfinished) in
    let front : text ++ rest ≡ more ++ drop taken rest =
    ap (λ rest. text ++ rest) (sym (take-append-drop taken rest)) ∙ (sym (append_assoc text (take taken rest) (drop taken rest)) ∙ ap (λ front. front ++ drop taken rest) (sym step.1)) in
    record {
      stands = step.0;
      asks = rw (take_rest rest taken)
          (reads_on c.args.most kept text rest (take taken rest) (drop taken rest) more c.loop-rest.invariant.asks c.in_ok-frame.ensures.within (sym (take-append-drop taken rest)) step.1);
      reads = rw (take_rest rest taken)
          (reaches_at c.args.most (text_so_far c.args.unfinished ++ c.args.piece.now) (text ++ rest) (more ++ drop taken rest) (frames_in c.loop-rest.frames) c.loop-rest.invariant.reads front);
    }

pub loop-rest-preserved : goal.loop-rest-preserved
loop-rest-preserved c =
    let rest = c.loop-rest.rest.now in
    let taken = c.in_ok-progress.taken in
    let text = text_so_far c.loop-rest.unfinished in
    let frame = c.in-Whole.frame in
    let had = text_so_far c.args.unfinished in
    let step = rw c.in-Whole.is at c.in_ok-progress.ensures.step in
    let front : text ++ rest ≡ framed frame.items ++ drop taken rest =
    ap (λ rest. text ++ rest) (sym (take-append-drop taken rest)) ∙ (sym (append_assoc text (take taken rest) (drop taken rest)) ∙ ap (λ front. front ++ drop taken rest) (sym step.1)) in
    record {
      stands = c.new.ensures.stands c.args.most;
      asks = rw (take_rest rest taken)
          (reads_again c.args.most (kept_after (frames_in c.push-in-Whole.new.self) had) (text_so_far c.new.result) (drop taken rest)
          (none_kept c.loop-rest.frames c.push-in-Whole.new.self frame had c.in_ok-push-in-Whole.ensures.items) c.new.ensures.nothing);
      reads = rw (c.new.ensures.nothing, take_rest rest taken)
          (reaches_with c.args.most (had ++ c.args.piece.now) (text ++ rest) (drop taken rest) c.loop-rest.frames c.push-in-Whole.new.self frame c.loop-rest.invariant.reads front step.0
          c.in_ok-push-in-Whole.ensures.items);
    }

pub returns-in_err-push-clause-memory : goal.returns-in_err-push-clause-memory
returns-in_err-push-clause-memory c =
    let some : 0 < length c.loop-rest.rest.now = search rules in
    let had = text_so_far c.args.unfinished in
    asks_if c.from_residual-in_err-push.result
    (asks_still c.args.most had c.args.piece.now c.loop-rest.frames c.push.new.self c.in_err-push.ensures.items
    (asks_here c.args.most had c.args.piece.now (text_so_far c.loop-rest.unfinished) c.loop-rest.rest.now (frames_in c.loop-rest.frames) c.loop-rest.invariant.reads c.loop-rest.invariant.asks some c.in_ok-frame.ensures.within))

pub returns-in_err-progress-clause-memory : goal.returns-in_err-progress-clause-memory
returns-in_err-progress-clause-memory c =
    let some : 0 < length c.loop-rest.rest.now = search rules in
    asks_if c.from_residual-in_err-progress.result
    (asks_here c.args.most (text_so_far c.args.unfinished) c.args.piece.now (text_so_far c.loop-rest.unfinished) c.loop-rest.rest.now (frames_in c.loop-rest.frames) c.loop-rest.invariant.reads c.loop-rest.invariant.asks some c.in_ok-frame.ensures.within)

pub returns-in_err-push-in-Whole-clause-memory : goal.returns-in_err-push-in-Whole-clause-memory
returns-in_err-push-in-Whole-clause-memory c =
    let some : 0 < length c.loop-rest.rest.now = search rules in
    let had = text_so_far c.args.unfinished in
    asks_if c.from_residual-in_err-push-in-Whole.result
    (asks_still c.args.most had c.args.piece.now c.loop-rest.frames c.push-in-Whole.new.self c.in_err-push-in-Whole.ensures.items
    (asks_here c.args.most had c.args.piece.now (text_so_far c.loop-rest.unfinished) c.loop-rest.rest.now (frames_in c.loop-rest.frames) c.loop-rest.invariant.reads c.loop-rest.invariant.asks some c.in_ok-frame.ensures.within))

use Rattle.std.proofs.Common.{All, length, map, take, ◌≡◌, ◌≤◌}
use Rattle.std.specs.Prelude.{vec_capacity}
use Rattle.zq_session.specs.Places.{ArePlacesOf}
use Rattle.zq_session.specs.Transacting.{calls_in}
use Rattle.zq_words.specs.Calls.{IsCallWithinLimits, call_shown}
use Rattle.zq_session.proofs.transacting.read_program.Given as goal

abbrev pub invariant-loop-queued : goal.invariant-loop-queued
invariant-loop-queued l = record {
  called : map call_shown l.calls.items ≡ calls_in (take l.queued-index l.queue);
  limits : All (λ asked. IsCallWithinLimits (call_shown asked)) l.calls.items;
  placed : ArePlacesOf l.places.items (take l.queued-index l.queue);
  number : length l.places.items ≡ l.queued-index;
  few : length l.calls.items ≤ l.queued-index;
  room : length l.queue ≤ vec_capacity l.places;
  space : length l.queue ≤ vec_capacity l.calls;
}

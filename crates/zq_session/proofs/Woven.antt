-- What is queued, place by place.

use Rattle.std.proofs.Common.{ap, append-nil, append_assoc, arith, refl, subst, sym, ◌∙◌}
use Rattle.std.proofs.lemmas.List.{drop_all, drop_more, length-append, length-map, map_push}
use Rattle.std.specs.Prelude.{Err, List, Ok, Result, [], drop, get_or, length, map, ℕ, ◌+◌, ◌++◌, ◌<◌, ◌∷◌, ◌≡◌, ◌≤◌}
use Rattle.zq_resp.specs.Reply.{reply_bytes}
use Rattle.zq_resp.specs.declared.reply.Reply.{Reply}
use Rattle.zq_session.specs.Places.{ArePlacesOf, IsPlaceBy, IsPlaceOf, IsReplyAt}
use Rattle.zq_session.specs.Transacting.{calls_in, place_of, with_call, woven, woven_in}
use Rattle.zq_session.specs.declared.queued.Queued.{Queued}
use Rattle.zq_session.specs.declared.transacting.Place.{Place}
use Rattle.zq_session.specs.declared.transacting.Place.TheVariants as place
use Rattle.zq_words.specs.Calls.{Call, call_shown}
use Rattle.zq_words.specs.Words.{Word}
use Rattle.zq_words.specs.declared.site_call.SiteCall.{SiteCall}

-- ---- one more is queued

with_more : (at : Result Call Word) (xs ys : List Call) → with_call at (xs ++ ys) ≡ with_call at xs ++ ys
with_more (Ok call) xs ys = refl
with_more (Err bytes) xs ys = refl

pub calls_more : (front : List Queued) (q : Queued) → calls_in (front ++ q ∷ []) ≡ calls_in front ++ with_call (place_of q) []
calls_more [] q = refl
calls_more (first ∷ front) q = ap (with_call (place_of first)) (calls_more front q) ∙ with_more (place_of first) (calls_in front) (with_call (place_of q) [])

pub places_more : (places : List Place) (front : List Queued) (at : Place) (q : Queued) → ArePlacesOf places front → IsPlaceOf at q → ArePlacesOf (places ++ at ∷ []) (front ++ q ∷ [])
places_more [] [] at q are is = (is, tt)
places_more (first ∷ places) (head ∷ front) at q are is = (are.0, places_more places front at q are.1 is)
places_more [] (head ∷ front) at q are is = absurd are
places_more (first ∷ places) [] at q are is = absurd are

-- at most one call more
pub few_more : (at : Result Call Word) (old new : List SiteCall) → map call_shown new ≡ map call_shown old ++ with_call at [] → length new ≤ length old + 1
few_more at old new is =
    let long = sym (length-map new call_shown) ∙ ap length is ∙ length-append (map call_shown old) (with_call at []) in
    let had = length-map old call_shown in
    let most = one at in
    omega (arith, long, had, most)
  where
    one : (at : Result Call Word) → length (with_call at []) ≤ 1
    one (Ok call) = omega arith
    one (Err bytes) = omega arith

-- ---- the replies at the places

-- what is still to be woven: the places left are those of what is left of the queue, and these are
-- the replies to its calls
pub record IsLeft (places : List Place) (replies : List Reply) (so_far all : List Word) : Type 0 where
  pub queue : List Queued
  pub placed : ArePlacesOf places queue
  pub called : length (calls_in queue) ≡ length replies
  pub whole : so_far ++ woven queue (map reply_bytes replies) ≡ all

module _ (queue : List Queued) (places : List Place) (reply : Reply) (so_far all : List Word) (placed : ArePlacesOf places queue) where
  goes_on : (bytes : Word) (left after : List Reply) → reply_bytes reply ≡ bytes → after ≡ left → length (calls_in queue) ≡ length left →
      so_far ++ bytes ∷ woven queue (map reply_bytes left) ≡ all → IsLeft places after (so_far ++ reply_bytes reply ∷ []) all
  goes_on bytes left after says same called whole = record {
    queue = queue;
    placed = placed;
    called = called ∙ ap length (sym same);
    whole = rw (says, same) (append_assoc so_far (bytes ∷ []) (woven queue (map reply_bytes left)) ∙ whole);
  }

  placed_next : (at : Place) (is : Result Call Word) (before after : List Reply) → IsPlaceBy at is → IsReplyAt at before reply after →
      length (with_call is (calls_in queue)) ≡ length before → so_far ++ woven_in is (woven queue) (map reply_bytes before) ≡ all →
      IsLeft places after (so_far ++ reply_bytes reply ∷ []) all
  placed_next place.Call (Ok call) [] after here said called whole = absurd (omega (arith, called))
  placed_next place.Call (Ok call) (first ∷ others) after here said called whole =
      goes_on (reply_bytes first) others after (ap reply_bytes said.0) said.1 (omega (arith, called)) whole
  placed_next place.Call (Err bytes) before after here said called whole = absurd here
  placed_next (place.Refused refused) (Ok call) before after here said called whole = absurd here
  placed_next (place.Refused refused) (Err bytes) before after here said called whole = goes_on bytes before after (said.0 ∙ sym here) said.1 called whole
  placed_next place.Own (Ok call) before after here said called whole = absurd here
  placed_next place.Own (Err bytes) before after here said called whole = goes_on bytes before after (said.0 ∙ sym here) said.1 called whole

-- at the next place
left_more : (at : Place) (places : List Place) (before after : List Reply) (reply : Reply) (so_far all : List Word) → IsReplyAt at before reply after →
    IsLeft (at ∷ places) before so_far all → IsLeft places after (so_far ++ reply_bytes reply ∷ []) all
left_more at places before after reply so_far all said left = by left.queue left.placed left.called left.whole
  where
    by : (queue : List Queued) → ArePlacesOf (at ∷ places) queue → length (calls_in queue) ≡ length before → so_far ++ woven queue (map reply_bytes before) ≡ all →
        IsLeft places after (so_far ++ reply_bytes reply ∷ []) all
    by [] placed called whole = absurd placed
    by (q ∷ queue) placed called whole = placed_next queue places reply so_far all placed.1 at (place_of q) before after placed.0 said called whole

-- with a reply more
pub woven_more : (places : List Place) (i : ℕ) (d : Place) (before after had now : List Reply) (reply : Reply) (all : List Word) → i < length places →
    IsReplyAt (get_or places i d) before reply after → now ≡ had ++ reply ∷ [] → IsLeft (drop i places) before (map reply_bytes had) all →
    IsLeft (drop (i + 1) places) after (map reply_bytes now) all
woven_more places i d before after had now reply all here said put left =
    let more = left_more (get_or places i d) (drop (i + 1) places) before after reply (map reply_bytes had) all said
    (subst (λ ps. IsLeft ps before (map reply_bytes had) all) (drop_more places i d here) left) in
    subst (λ words. IsLeft (drop (i + 1) places) after words all) (sym (map_push reply_bytes had reply) ∙ ap (map reply_bytes) (sym put)) more

-- before the first place
pub woven_begun : (places : List Place) (queue : List Queued) (left replies : List Reply) (had : List Word) → left ≡ replies → ArePlacesOf places queue →
    length (calls_in queue) ≡ length replies → IsLeft places left had (had ++ woven queue (map reply_bytes replies))
woven_begun places queue left replies had same placed called = record {
  queue = queue;
  placed = placed;
  called = called ∙ ap length (sym same);
  whole = ap (λ rs. had ++ woven queue (map reply_bytes rs)) same;
}

-- behind the last place
pub woven_whole : (places : List Place) (i : ℕ) (left : List Reply) (now all : List Word) → length places ≤ i → IsLeft (drop i places) left now all → now ≡ all
woven_whole places i left now all past is = by is.queue (subst (λ ps. ArePlacesOf ps is.queue) (drop_all i places past) is.placed) is.whole
  where
    by : (queue : List Queued) → ArePlacesOf [] queue → now ++ woven queue (map reply_bytes left) ≡ all → now ≡ all
    by [] placed whole = sym (append-nil now) ∙ whole
    by (q ∷ queue) placed whole = absurd placed

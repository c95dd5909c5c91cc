-- What has each place among the answers to what is queued.

use Rattle.std.specs.List.{All}
use Rattle.std.specs.Prelude.{Err, List, Ok, Result, Vec, [], codes, length, map, ◌≡◌, ◌≤◌, ◌∷◌}
use Rattle.std.specs.Vec.{vec_capacity}
use Rattle.std.specs.declared.alloc.Global.{Global}
use Rattle.zq_resp.specs.Reply.{reply_bytes}
use Rattle.zq_resp.specs.declared.reply.Reply.{Reply}
use Rattle.zq_session.specs.Transacting.{calls_in, place_of, refused_bytes}
use Rattle.zq_session.specs.declared.queued.Queued.{Queued}
use Rattle.zq_session.specs.declared.transacting.Place.{Place}
use Rattle.zq_session.specs.declared.transacting.Place.TheVariants as place
use Rattle.zq_words.specs.Calls.{Call, IsCallWithinLimits, call_shown}
use Rattle.zq_words.specs.Words.{Word}
use Rattle.zq_words.specs.declared.site_call.SiteCall.{SiteCall}

abbrev pub IsPlaceBy : Place → Result Call Word → Type 0
IsPlaceBy place.Call (Ok call) = Unit {0}
IsPlaceBy place.Call (Err bytes) = ⊥
IsPlaceBy (place.Refused refused) (Ok call) = ⊥
IsPlaceBy (place.Refused refused) (Err bytes) = bytes ≡ refused_bytes refused
IsPlaceBy place.Own (Ok call) = ⊥
IsPlaceBy place.Own (Err bytes) = bytes ≡ codes "*-1\r\n"

-- the place is that of what is queued
abbrev pub IsPlaceOf : Place → Queued → Type 0
IsPlaceOf at q = IsPlaceBy at (place_of q)

abbrev pub ArePlacesOf : List Place → List Queued → Type 0
ArePlacesOf [] [] = Unit {0}
ArePlacesOf (at ∷ places) (q ∷ queue) = IsPlaceOf at q × ArePlacesOf places queue
ArePlacesOf places queue = ⊥

-- the reply at a place, of the replies to calls before it, and those after it: at that of a call
-- the first, where there is one, and else one of its own
abbrev pub IsReplyAt : Place → List Reply → Reply → List Reply → Type 0
IsReplyAt place.Call [] reply after = after ≡ []
IsReplyAt place.Call (first ∷ others) reply after = (reply ≡ first) × (after ≡ others)
IsReplyAt (place.Refused refused) before reply after =
    (reply_bytes reply ≡ refused_bytes refused) × (after ≡ before)
IsReplyAt place.Own before reply after = (reply_bytes reply ≡ codes "*-1\r\n") × (after ≡ before)

-- the calls are those of the queue, each within its limits, the places are its, and there is room
-- for a reply at each
pub record IsProgramOf (calls : List SiteCall) (places : List Place) (room : Vec Reply Global)
    (queue : List Queued) : Type 0 where
  pub called : map call_shown calls ≡ calls_in queue
  pub limits : All (λ asked. IsCallWithinLimits (call_shown asked)) calls
  pub placed : ArePlacesOf places queue
  pub none : room.items ≡ []
  pub enough : length places ≤ vec_capacity room

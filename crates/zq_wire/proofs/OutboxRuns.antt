-- What is sent was put, and the newest is not lost.
use Rattle.std.proofs.Common.{◌≡◌, ℕ, Bool, true, false, List, [], ◌∷◌, ◌++◌, Some, refl, sym, ap, subst, ◌∙◌, append_assoc}
use Rattle.std.specs.Prelude.{◌||◌, cond}
use Rattle.std.proofs.lemmas.List.{append-nil}
use Rattle.zq_wire.specs.declared.topic.Topic.{Topic}
use Rattle.zq_wire.specs.Outbox.{AreParcels, Parcels, put_in, waits}
use Rattle.zq_wire.specs.Runs.{AreBelow, AreSome, Event, KeepsItsPlace, NewestIsLast, NoneIsInvented, WaitFew, first_of, frames_about, last_of, left_by, or_last, put_by, rest_of, taken_by, topics_of}
use Rattle.zq_wire.specs.Runs.AreSome.{Kept, Left, Nothing}
use Rattle.zq_wire.specs.Runs.Event.{Put, Taken}
use Rattle.zq_wire.specs.Topic.{same_topic}
use Rattle.zq_wire.proofs.Parcels.{few, put_keeps}
use Rattle.zq_wire.proofs.Topics.{same_is}

-- ---- some of a list

some_own : (frames : List (List ℕ)) → AreSome frames frames
some_own [] = Nothing
some_own (frame ∷ frames) = Kept frame frames frames (some_own frames)

some_behind : (front some all : List (List ℕ)) → AreSome some all → AreSome (front ++ some) (front ++ all)
some_behind [] some all are = are
some_behind (frame ∷ front) some all are = Kept frame (front ++ some) (front ++ all) (some_behind front some all are)

some_later : (front some all : List (List ℕ)) → AreSome some all → AreSome some (front ++ all)
some_later [] some all are = are
some_later (frame ∷ front) some all are = Left frame some (front ++ all) (some_later front some all are)

-- ---- the last of a list

last_more : (frame : List ℕ) (some all : List (List ℕ)) → last_of some ≡ last_of all → last_of (frame ∷ some) ≡ last_of (frame ∷ all)
last_more frame [] [] same = refl
last_more frame [] (x ∷ all) same = absurd cc
last_more frame (x ∷ some) [] same = absurd cc
last_more frame (x ∷ some) (y ∷ all) same = same

last_behind : (front some all : List (List ℕ)) → last_of some ≡ last_of all → last_of (front ++ some) ≡ last_of (front ++ all)
last_behind [] some all same = same
last_behind (frame ∷ front) some all same = last_more frame (front ++ some) (front ++ all) (last_behind front some all same)

or_last_later : (first frame : List ℕ) (front all : List (List ℕ)) → or_last first (front ++ frame ∷ all) ≡ or_last frame all
or_last_later first frame [] all = refl
or_last_later first frame (x ∷ front) all = or_last_later x frame front all

last_later : (frame : List ℕ) (front all : List (List ℕ)) → last_of (front ++ frame ∷ all) ≡ last_of (frame ∷ all)
last_later frame [] all = refl
last_later frame (x ∷ front) all = ap Some (or_last_later x frame front all)

-- ---- the frames of a topic

-- a parcel before others, by whether it is of the topic
about_more : (topic : Topic) (p : Topic × List ℕ) (parcels : Parcels) → frames_about topic (p ∷ parcels) ≡ frames_about topic (p ∷ []) ++ frames_about topic parcels
about_more topic p parcels =
    let goes : Bool → Type 0 = λ b. cond b (p.1 ∷ frames_about topic parcels) (frames_about topic parcels) ≡ cond b (p.1 ∷ []) [] ++ frames_about topic parcels in
    let cases : (b : Bool) → goes b = λ b. elim b as goes [ true ↦ refl | false ↦ refl ] in
    cases (same_topic p.0 topic)

about_first : (topic : Topic) (parcels : Parcels) → frames_about topic parcels ≡ frames_about topic (first_of parcels) ++ frames_about topic (rest_of parcels)
about_first topic [] = refl
about_first topic (p ∷ parcels) = about_more topic p parcels

about_then : (topic : Topic) (parcels others : Parcels) → frames_about topic (first_of parcels ++ others) ≡ frames_about topic (first_of parcels) ++ frames_about topic others
about_then topic [] others = refl
about_then topic (p ∷ parcels) others = about_more topic p others

none_about : (topic : Topic) (parcels : Parcels) → waits topic parcels ≡ false → frames_about topic parcels ≡ []
none_about topic [] none = refl
none_about topic (p ∷ parcels) none =
    let goes : Bool → Type 0 = λ b. (b || waits topic parcels) ≡ false → cond b (p.1 ∷ frames_about topic parcels) (frames_about topic parcels) ≡ [] in
    let cases : (b : Bool) → goes b = λ b. elim b as goes [ true ↦ λ has. absurd cc | false ↦ λ later. none_about topic parcels later ] in
    cases (same_topic p.0 topic) none

-- where a frame was put, it is the one of its topic
put_about : (heaps : ℕ) (topic : Topic) (frame : List ℕ) (parcels : Parcels) → same_topic topic topic ≡ true → AreParcels heaps parcels → frames_about topic (put_in topic frame parcels) ≡ frame ∷ []
put_about heaps topic frame [] own are = rw own refl
put_about heaps topic frame (p ∷ parcels) own are =
    let goes : Bool → Type 0 = λ b. same_topic p.0 topic ≡ b → frames_about topic (cond b ((topic, frame) ∷ parcels) (p ∷ put_in topic frame parcels)) ≡ frame ∷ [] in
    let cases : (b : Bool) → goes b = λ b. elim b as goes [
      | true ↦ λ same. rw own (ap (λ rest. frame ∷ rest) (none_about topic parcels (ap (λ first. waits first parcels) (sym (same_is p.0 topic same)) ∙ are.1)))
      | false ↦ λ apart. rw apart (put_about heaps topic frame parcels own are.2)
    ] in
    cases (same_topic p.0 topic) refl

-- and those of other topics stay
put_beside : (topic other : Topic) (frame : List ℕ) (parcels : Parcels) → same_topic topic other ≡ false → frames_about other (put_in topic frame parcels) ≡ frames_about other parcels
put_beside topic other frame [] apart = rw apart refl
put_beside topic other frame (p ∷ parcels) apart =
    let goes : Bool → Type 0 = λ b. same_topic p.0 topic ≡ b → frames_about other (cond b ((topic, frame) ∷ parcels) (p ∷ put_in topic frame parcels)) ≡ frames_about other (p ∷ parcels) in
    let cases : (b : Bool) → goes b = λ b. elim b as goes [
      | true ↦ λ same.
          let beside : same_topic p.0 other ≡ false = ap (λ first. same_topic first other) (same_is p.0 topic same) ∙ apart in
          rw (apart, beside) refl
      | false ↦ λ differs.
          about_more other p (put_in topic frame parcels) ∙ (ap (λ rest. frames_about other (p ∷ []) ++ rest) (put_beside topic other frame parcels apart) ∙ sym (about_more other p parcels))
    ] in
    cases (same_topic p.0 topic) refl

-- ---- runs

-- what is put of the topic and what waited of it, where one more is put
after_put : (topic other : Topic) (frame : List ℕ) (heaps : ℕ) (parcels puts : Parcels) → AreParcels heaps parcels → (P : List (List ℕ) → List (List ℕ) → Type 0)
    → ((front all : List (List ℕ)) → P (frame ∷ all) (front ++ frame ∷ all)) → ((all : List (List ℕ)) → P all all)
    → P (frames_about other (put_in topic frame parcels) ++ frames_about other puts) (frames_about other parcels ++ frames_about other ((topic, frame) ∷ puts))
after_put topic other frame heaps parcels puts are P newer same =
    let goes : Bool → Type 0 = λ b. same_topic topic other ≡ b
    → P (frames_about other (put_in topic frame parcels) ++ frames_about other puts) (frames_about other parcels ++ cond b (frame ∷ frames_about other puts) (frames_about other puts)) in
    let cases : (b : Bool) → goes b = λ b. elim b as goes [
      | true ↦ λ one.
          let is = same_is topic other one in
          let own : same_topic other other ≡ true = ap (λ first. same_topic first other) (sym is) ∙ one in
          let about : frames_about other (put_in topic frame parcels) ≡ frame ∷ [] =
          ap (λ first. frames_about other (put_in first frame parcels)) is ∙ put_about heaps other frame parcels own are in
          subst (λ front. P (front ++ frames_about other puts) (frames_about other parcels ++ frame ∷ frames_about other puts)) (sym about)
          (newer (frames_about other parcels) (frames_about other puts))
      | false ↦ λ apart.
          subst (λ front. P (front ++ frames_about other puts) (frames_about other parcels ++ frames_about other puts)) (sym (put_beside topic other frame parcels apart))
          (same (frames_about other parcels ++ frames_about other puts))
    ] in
    cases (same_topic topic other) refl

rest_keeps : (heaps : ℕ) (parcels : Parcels) → AreParcels heaps parcels → AreParcels heaps (rest_of parcels)
rest_keeps heaps [] are = tt
rest_keeps heaps (p ∷ parcels) are = are.2

-- of a topic, what is taken and what is left
abbrev sent_from : Topic → Parcels → List Event → List (List ℕ)
sent_from topic parcels events = frames_about topic (taken_by parcels events) ++ frames_about topic (left_by parcels events)

abbrev given_to : Topic → Parcels → List Event → List (List ℕ)
given_to topic parcels events = frames_about topic parcels ++ frames_about topic (put_by events)

-- taking one sends it first
sent_taken : (topic : Topic) (parcels : Parcels) (events : List Event) → sent_from topic parcels (Taken ∷ events) ≡ frames_about topic (first_of parcels) ++ sent_from topic (rest_of parcels) events
sent_taken topic parcels events =
    let left = frames_about topic (left_by (rest_of parcels) events) in
    ap (λ front. front ++ left) (about_then topic parcels (taken_by (rest_of parcels) events))
    ∙ append_assoc (frames_about topic (first_of parcels)) (frames_about topic (taken_by (rest_of parcels) events)) left

given_taken : (topic : Topic) (parcels : Parcels) (events : List Event) → given_to topic parcels (Taken ∷ events) ≡ frames_about topic (first_of parcels) ++ given_to topic (rest_of parcels) events
given_taken topic parcels events =
    ap (λ front. front ++ frames_about topic (put_by events)) (about_first topic parcels)
    ∙ append_assoc (frames_about topic (first_of parcels)) (frames_about topic (rest_of parcels)) (frames_about topic (put_by events))

invented_from : (heaps : ℕ) (topic : Topic) (parcels : Parcels) (events : List Event) → AreParcels heaps parcels → AreBelow heaps (put_by events)
    → AreSome (sent_from topic parcels events) (given_to topic parcels events)
invented_from heaps topic parcels [] are below = subst (λ all. AreSome (frames_about topic parcels) all) (sym (append-nil (frames_about topic parcels))) (some_own (frames_about topic parcels))
invented_from heaps topic parcels (Put other frame ∷ events) are below =
    let rest = invented_from heaps topic (put_in other frame parcels) events (put_keeps heaps other frame parcels below.0 are) below.1 in
    after_put other topic frame heaps parcels (put_by events) are
    (λ less all. AreSome (sent_from topic (put_in other frame parcels) events) less → AreSome (sent_from topic (put_in other frame parcels) events) all)
    (λ front all is. some_later front (sent_from topic (put_in other frame parcels) events) (frame ∷ all) is) (λ all is. is) rest
invented_from heaps topic parcels (Taken ∷ events) are below =
    let rest = invented_from heaps topic (rest_of parcels) events (rest_keeps heaps parcels are) below in
    subst (λ some. AreSome some (given_to topic parcels (Taken ∷ events))) (sym (sent_taken topic parcels events))
    (subst (λ all. AreSome (frames_about topic (first_of parcels) ++ sent_from topic (rest_of parcels) events) all) (sym (given_taken topic parcels events))
    (some_behind (frames_about topic (first_of parcels)) (sent_from topic (rest_of parcels) events) (given_to topic (rest_of parcels) events) rest))

newest_from : (heaps : ℕ) (topic : Topic) (parcels : Parcels) (events : List Event) → AreParcels heaps parcels → AreBelow heaps (put_by events)
    → last_of (sent_from topic parcels events) ≡ last_of (given_to topic parcels events)
newest_from heaps topic parcels [] are below = ap last_of (sym (append-nil (frames_about topic parcels)))
newest_from heaps topic parcels (Put other frame ∷ events) are below =
    let rest = newest_from heaps topic (put_in other frame parcels) events (put_keeps heaps other frame parcels below.0 are) below.1 in
    rest ∙ after_put other topic frame heaps parcels (put_by events) are (λ less all. last_of less ≡ last_of all) (λ front all. sym (last_later frame front all)) (λ all. refl)
newest_from heaps topic parcels (Taken ∷ events) are below =
    let rest = newest_from heaps topic (rest_of parcels) events (rest_keeps heaps parcels are) below in
    ap last_of (sent_taken topic parcels events)
    ∙ (last_behind (frames_about topic (first_of parcels)) (sent_from topic (rest_of parcels) events) (given_to topic (rest_of parcels) events) rest
    ∙ ap last_of (sym (given_taken topic parcels events)))

left_keeps : (heaps : ℕ) (parcels : Parcels) (events : List Event) → AreParcels heaps parcels → AreBelow heaps (put_by events) → AreParcels heaps (left_by parcels events)
left_keeps heaps parcels [] are below = are
left_keeps heaps parcels (Put topic frame ∷ events) are below = left_keeps heaps (put_in topic frame parcels) events (put_keeps heaps topic frame parcels below.0 are) below.1
left_keeps heaps parcels (Taken ∷ events) are below = left_keeps heaps (rest_of parcels) events (rest_keeps heaps parcels are) below

-- ---- the laws

pub none_is_invented : NoneIsInvented
none_is_invented heaps topic events below = invented_from heaps topic [] events tt below

pub newest_is_last : NewestIsLast
newest_is_last heaps topic events below = newest_from heaps topic [] events tt below

pub wait_few : WaitFew
wait_few heaps events below = few heaps (left_by [] events) (left_keeps heaps [] events tt below)

front_in : (first topic : Topic) (topics : List Topic) (b : Bool) → first ∷ cond b topics (topics ++ topic ∷ []) ≡ cond b (first ∷ topics) ((first ∷ topics) ++ topic ∷ [])
front_in first topic topics true = refl
front_in first topic topics false = refl

pub keeps_its_place : KeepsItsPlace
keeps_its_place topic frame [] = refl
keeps_its_place topic frame (p ∷ parcels) =
    let goes : Bool → Type 0 = λ b. same_topic p.0 topic ≡ b
    → topics_of (cond b ((topic, frame) ∷ parcels) (p ∷ put_in topic frame parcels)) ≡ cond (b || waits topic parcels) (topics_of (p ∷ parcels)) (topics_of (p ∷ parcels) ++ topic ∷ []) in
    let cases : (b : Bool) → goes b = λ b. elim b as goes [
      | true ↦ λ same. ap (λ first. first ∷ topics_of parcels) (sym (same_is p.0 topic same))
      | false ↦ λ apart. ap (λ rest. p.0 ∷ rest) (keeps_its_place topic frame parcels) ∙ front_in p.0 topic (topics_of parcels) (waits topic parcels)
    ] in
    cases (same_topic p.0 topic) refl

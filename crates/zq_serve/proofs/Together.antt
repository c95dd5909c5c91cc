-- What waits at a connection is answered as one.

use Rattle.std.proofs.Common.{Err, List, Ok, Result, Some, [], ap, append_assoc, append-nil, refl, subst, sym, ◌++◌, ◌∙◌, ◌∷◌, ◌≡◌}
use Rattle.zq_client.specs.Clients.{Client}
use Rattle.zq_client.specs.declared.profile.Profile.{Profile}
use Rattle.zq_resp.specs.declared.reply.Reply.{Reply}
use Rattle.zq_serve.specs.Callers.{Caller, resting}
use Rattle.zq_serve.specs.Desks.{AnswersAtDesk, IsAnsweredBy, way_of}
use Rattle.zq_serve.specs.Preparing.{Inside}
use Rattle.zq_serve.specs.Queues.{Broken, Idle, IsPutOff, Line, Open, spoiled}
use Rattle.zq_serve.specs.Together.{AreRead, Waits}
use Rattle.zq_serve.specs.Transactions.{IsExecutedBy, IsPutOffAs, IsReadAs, IsRun}
use Rattle.zq_serve.specs.declared.control.Control.TheVariants as control
use Rattle.zq_serve.specs.declared.knowing.Way.{Way}
use Rattle.zq_serve.specs.declared.knowing.Way.TheVariants as way
use Rattle.zq_session.specs.declared.queued.Queued.{Queued}
use Rattle.zq_words.specs.Words.{Word}

module _ {S : Type 0} (i : Inside S) (profile : Profile) where
  -- ---- one request comes to wait

  abbrev pub Longer : Line → List Word → Line → Type 0
  Longer (Open old) words (Open new) = (state : S) × (q : Queued) × IsReadAs i.prepares state words (Ok q) × (new ≡ old ++ q ∷ [])
  Longer (Open old) words Idle = ⊥
  Longer (Open old) words Broken = Unit {0}
  Longer Broken words Broken = Unit {0}
  Longer Broken words other = ⊥
  Longer Idle words other = Unit {0}

  put_off : (state : S) (words : List Word) (q : Queued) (reply : Reply) (old new : Line) → IsReadAs i.prepares state words (Ok q) → IsPutOff old q reply new → Longer old words new
  put_off state words q reply (Open old) (Open new) read put = (state, q, read, put.0)
  put_off state words q reply (Open old) Idle read put = put
  put_off state words q reply (Open old) Broken read put = tt
  put_off state words q reply Broken Broken read put = tt
  put_off state words q reply Broken Idle read put = cc put.0
  put_off state words q reply Broken (Open new) read put = cc put.0
  put_off state words q reply Idle new read put = tt

  refused : (words : List Word) (old : Line) → Longer old words (spoiled old)
  refused words Idle = tt
  refused words (Open old) = tt
  refused words Broken = tt

  -- it stands behind the others, or none of them will be answered; all else is as it was
  pub record IsLonger (before : Caller) (words : List Word) (after : Caller) : Type 0 where
    pub line : Longer before.queue words after.queue
    pub client : after.client ≡ before.client
    pub watching : after.watching ≡ before.watching

  longer_as : (state : S) (before after : Caller) (words : List Word) (read : Result Queued Reply) (reply : Reply) → IsReadAs i.prepares state words read →
      IsPutOffAs before read reply after → IsLonger before words after
  longer_as state before after words (Ok q) reply read put = record {
    line = put_off state words q reply before.queue after.queue read put.0;
    client = ap (λ (c : Caller). c.client) put.1;
    watching = ap (λ (c : Caller). c.watching) put.1;
  }
  longer_as state before after words (Err why) reply read put = record {
    line = subst (λ line. Longer before.queue words line) (sym (ap (λ (c : Caller). c.queue) put.1)) (refused words before.queue);
    client = ap (λ (c : Caller). c.client) put.1;
    watching = ap (λ (c : Caller). c.watching) put.1;
  }

  same : (own before : Caller) → Some before ≡ Some own → before ≡ own
  same own before is = cc is

  longer : (old new : S) (before after : Caller) (words : List Word) (reply : Reply) → way_of before words ≡ way.PutOff →
      AnswersAtDesk i profile old (Some before) words reply new (Some after) → IsLonger before words after
  longer old new before after words reply is p =
      let put = subst (λ (w : Way). IsAnsweredBy i profile w old p.before words reply new p.after) (ap (λ (c : Caller). way_of c words) p.has_begun ∙ is) p.answered in
      let had = longer_as old p.before p.after words put.0.0 reply put.0.1 put.0.2 in
      subst (λ (c : Caller). IsLonger before words c) (sym (same p.after after p.left)) (subst (λ (c : Caller). IsLonger c words p.after) p.has_begun had)

  -- ---- several do

  broken_stays : (before after : Caller) (requests : List (List Word)) → before.queue ≡ Broken → Waits i profile before requests after → after.queue ≡ Broken
  broken_stays before after [] is same = ap (λ (c : Caller). c.queue) same ∙ is
  broken_stays before after (words ∷ requests) is w =
      let at = longer w.0 w.1 before w.3 words w.2 w.4 w.5 in
      broken_stays w.3 after requests (stays w.3.queue (subst (λ line. Longer line words w.3.queue) is at.line)) w.6
    where
      stays : (line : Line) → Longer Broken words line → line ≡ Broken
      stays Broken at = refl
      stays Idle at = absurd at
      stays (Open new) at = absurd at

  -- those behind a part of them
  pub record AreBehind (first : List Queued) (requests : List (List Word)) (queue : List Queued) : Type 0 where
    pub others : List Queued
    pub whole : queue ≡ first ++ others
    pub read : AreRead i.prepares requests others

  pub record HaveWaited (before : Caller) (first : List Queued) (requests : List (List Word)) (queue : List Queued) (after : Caller) : Type 0 where
    pub behind : AreBehind first requests queue
    pub client : after.client ≡ before.client
    pub watching : after.watching ≡ before.watching

  goes_by : (before mid after : Caller) (first queue : List Queued) (words : List Word) (requests : List (List Word)) (line : Line) → mid.queue ≡ line → IsLonger before words mid →
      Longer (Open first) words line → after.queue ≡ Open queue → Waits i profile mid requests after →
      ((more : List Queued) → mid.queue ≡ Open more → HaveWaited mid more requests queue after) → HaveWaited before first (words ∷ requests) queue after
  goes_by before mid after first queue words requests (Open more) here at long end waits others =
      let had = others more here in record {
        behind = record {
          others = long.1 ∷ had.behind.others;
          whole = had.behind.whole ∙ ap (λ l. l ++ had.behind.others) long.3 ∙ append_assoc first (long.1 ∷ []) had.behind.others;
          read = (long.0, long.2, had.behind.read);
        };
        client = had.client ∙ at.client;
        watching = had.watching ∙ at.watching;
      }
  goes_by before mid after first queue words requests Broken here at long end waits others = let never = sym end ∙ broken_stays mid after requests here waits in cc never
  goes_by before mid after first queue words requests Idle here at long end waits others = absurd long

  goes_on : (before mid after : Caller) (first queue : List Queued) (words : List Word) (requests : List (List Word)) → IsLonger before words mid → Longer (Open first) words mid.queue →
      after.queue ≡ Open queue → Waits i profile mid requests after → ((more : List Queued) → mid.queue ≡ Open more → HaveWaited mid more requests queue after) →
      HaveWaited before first (words ∷ requests) queue after
  goes_on before mid after first queue words requests at long = goes_by before mid after first queue words requests mid.queue refl at long

  pub have_waited : (before after : Caller) (first queue : List Queued) (requests : List (List Word)) → before.queue ≡ Open first → after.queue ≡ Open queue →
      Waits i profile before requests after → HaveWaited before first requests queue after
  have_waited before after first queue [] is end same = record {
    behind = record { others = []; whole = one (sym end ∙ ap (λ (c : Caller). c.queue) same ∙ is) ∙ sym (append-nil first); read = refl };
    client = ap (λ (c : Caller). c.client) same;
    watching = ap (λ (c : Caller). c.watching) same;
  }
    where
      one : Open queue ≡ Open first → queue ≡ first
      one is = cc is
  have_waited before after first queue (words ∷ requests) is end w =
      let at = longer w.0 w.1 before w.3 words w.2 w.4 w.5 in
      goes_on before w.3 after first queue words requests at (subst (λ line. Longer line words w.3.queue) is at.line) end w.6
      (λ mid here. have_waited w.3 after mid queue requests here end w.6)

  -- ---- and are answered

  executed : (old new : S) (waited ended : Caller) (queue : List Queued) (reply : Reply) (line : Line) → line ≡ Open queue → IsExecutedBy i.transacts profile old waited line reply new ended →
      (client : Client) × IsRun i.transacts profile old waited.client queue waited.watching reply new client × (ended ≡ resting client)
  executed old new waited ended queue reply line is done = subst (λ l. IsExecutedBy i.transacts profile old waited l reply new ended) is done

  pub answered_as_one : (begun waited ended : Caller) (requests : List (List Word)) (queue : List Queued) (old new : S) (name : Word) (reply : Reply) → begun.queue ≡ Open [] →
      Waits i profile begun requests waited → waited.queue ≡ Open queue → way_of waited (name ∷ []) ≡ way.Control control.Exec →
      AnswersAtDesk i profile old (Some waited) (name ∷ []) reply new (Some ended) →
      AreRead i.prepares requests queue × (client : Client) × IsRun i.transacts profile old begun.client queue begun.watching reply new client × (ended ≡ resting client)
  answered_as_one begun waited ended requests queue old new name reply start waits end is p =
      let had = have_waited begun waited [] queue requests start end waits in
      let done = subst (λ (w : Way). IsAnsweredBy i profile w old p.before (name ∷ []) reply new p.after) (ap (λ (c : Caller). way_of c (name ∷ [])) p.has_begun ∙ is) p.answered in
      let ran = executed old new p.before p.after queue reply p.before.queue (ap (λ (c : Caller). c.queue) p.has_begun ∙ end) done in
      let client = ap (λ (c : Caller). c.client) p.has_begun ∙ had.client in
      let watching = ap (λ (c : Caller). c.watching) p.has_begun ∙ had.watching in (
        subst (λ q. AreRead i.prepares requests q) (sym had.behind.whole) had.behind.read,
        ran.0,
        subst (λ w. IsRun i.transacts profile old begun.client queue w reply new ran.0) watching
            (subst (λ (c : Client). IsRun i.transacts profile old c queue p.before.watching reply new ran.0) client ran.1),
        same p.after ended p.left ∙ ran.2,
      )

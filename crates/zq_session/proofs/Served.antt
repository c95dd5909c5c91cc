-- What a session has served, with one more piece.
use Rattle.std.proofs.Common.{◌≡◌, List, ℕ, [], ◌++◌, Option, None, Some, Result, Ok, Err, sym, ap, subst, ◌∙◌, append_assoc, append-nil, refl, ◌≤◌, length, inl, inr, take, drop, take-append-drop}
use Rattle.zq_resp.specs.Front.{Part}
use Rattle.zq_resp.specs.Grammar.{request_at}
use Rattle.zq_resp.specs.Stream.{Breaks, Feeds, Reaches, Requests, Splits, Stops, handed}
use Rattle.zq_resp.specs.declared.reply.Reply.{Reply}
use Rattle.zq_resp.specs.declared.fault.FeedFault.TheVariants as fault
use Rattle.zq_resp.specs.declared.fault.FeedFault.{FeedFault}
use Rattle.zq_session.specs.declared.serving.Served.{Served}
use Rattle.zq_session.specs.declared.serving.Served.TheVariants.{More, Broken}
use Rattle.zq_session.specs.declared.outcome.End.{End}
use Rattle.zq_session.specs.declared.outcome.End.TheVariants.{Clean, Inside, Protocol}
use Rattle.zq_session.specs.declared.outcome.SessionFault.{SessionFault}
use Rattle.zq_session.specs.declared.outcome.SessionFault.TheVariants as stop
use Rattle.zq_session.specs.Session.{Relation, IsAnswered, IsBegun, IsClosed, IsOwed, IsStopped, IsWanting, Serves, closing}
use Rattle.zq_session.specs.Serving.{AnswersAll, EndsWith, ServesLast, ServesPiece}
use Rattle.zq_session.proofs.Runs.{answered-none, answered-join, begun-whole, stopped-join, stopped-begun}
use Rattle.zq_session.proofs.Streams.{breaks-more, reaches-more, reaches-on, splits-on, breaks-on, splits-none, handed-append}

module _ {S : Type 0} (answers : Relation S) where
  -- the text so far is answered whole, but for the unfinished request
  pub record Stands (old new : S) (text written had : List ℕ) : Type 0 where
    pub all : Requests
    pub splits : Splits text all had
    pub answered : IsAnswered answers old new (handed all) written

  pub stands-first : (s : S) → Stands s s [] [] []
  stands-first s = record { all = []; splits = splits-none; answered = answered-none answers s }

  answered-on : (old mid new : S) (all more : Requests) (written bytes : List ℕ)
      → IsAnswered answers old mid (handed all) written → IsAnswered answers mid new (handed more) bytes
      → IsAnswered answers old new (handed (all ++ more)) (written ++ bytes)
  answered-on old mid new all more written bytes p q =
      subst (λ requests. IsAnswered answers old new requests (written ++ bytes)) (sym (handed-append all more))
      (answered-join answers old mid new (handed all) (handed more) written bytes p q)

  closed-on : (old mid new : S) (all more : Requests) (written bytes : List ℕ)
      → IsAnswered answers old mid (handed all) written → IsClosed answers mid new (handed more) bytes
      → IsClosed answers old new (handed (all ++ more)) (written ++ bytes)
  closed-on old mid new all more written bytes p q =
      (written ++ q.0, answered-on old mid new all more written q.0 p q.1, ap (λ l. written ++ l) q.2 ∙ sym (append_assoc written q.0 closing))

  begun-on : (old mid new : S) (all more : Requests) (written bytes : List ℕ)
      → IsAnswered answers old mid (handed all) written → IsBegun answers mid new (handed more) bytes
      → IsBegun answers old new (handed (all ++ more)) (written ++ bytes)
  begun-on old mid new all more written bytes p q = (
    handed all ++ q.0,
    q.1,
    q.2,
    handed-append all more ∙ (ap (λ l. handed all ++ l) q.3 ∙ sym (append_assoc (handed all) q.0 q.1)),
    subst (IsAnswered answers old new (handed all ++ q.0)) (sym (append_assoc written bytes q.2))
        (answered-join answers old mid new (handed all) q.0 written (bytes ++ q.2) p q.4),
  )

  pub stands-on : (old mid new : S) (text written had piece : List ℕ) (bytes : List ℕ) (kept : Option (List ℕ))
      → Stands old mid text written had → ServesPiece answers mid new had piece kept bytes (Ok More)
      → (has : List ℕ) × (kept ≡ Some has) × Stands old new (text ++ piece) (written ++ bytes) has
  stands-on old mid new text written had piece bytes kept s p = (
    p.1,
    p.2,
    record {
      all = s.all ++ p.0;
      splits = splits-on text had piece p.1 s.all p.0 s.splits p.3;
      answered = answered-on old mid new s.all p.0 written bytes s.answered p.4;
    },
  )

  owed-on : (old mid new : S) (text written had piece bytes : List ℕ)
      → Stands old mid text written had → IsOwed answers mid new (had ++ piece) bytes → IsOwed answers old new (text ++ piece) (written ++ bytes)
  owed-on old mid new text written had piece bytes s (inl p) =
      inl (s.all ++ p.0, p.1, reaches-on text had piece p.1 s.all p.0 s.splits.reaches p.2, begun-on old mid new s.all p.0 written bytes s.answered p.3)
  owed-on old mid new text written had piece bytes s (inr p) =
      inr (
        s.all ++ p.0,
        p.1,
        p.2,
        breaks-on text had piece s.all p.0 p.1 s.splits p.3,
        subst (IsClosed answers old new (handed (s.all ++ p.0))) (sym (append_assoc written bytes p.2)) (closed-on old mid new s.all p.0 written (bytes ++ p.2) s.answered p.4),
      )

  stopped-on : (old mid new : S) (all more : Requests) (written bytes : List ℕ) (unwritten : List Reply)
      → IsAnswered answers old mid (handed all) written → IsStopped answers mid new (handed more) bytes unwritten
      → IsStopped answers old new (handed (all ++ more)) (written ++ bytes) unwritten
  stopped-on old mid new all more written bytes unwritten p q =
      subst (λ requests. IsStopped answers old new requests (written ++ bytes) unwritten) (sym (handed-append all more))
      (stopped-join answers old mid new (handed all) (handed more) written bytes unwritten p q)

  -- a piece of which nothing is taken yet
  pub piece-begins : (s : S) (had : List ℕ) → request_at had ≡ Part → ServesPiece answers s s had [] (Some had) [] (Ok More)
  piece-begins s had part = ([], had, refl, record { reaches = append-nil had; partial = part }, answered-none answers s)

  piece-goes-on : (old mid new : S) (had front back written bytes has : List ℕ) (kept : Option (List ℕ)) (result : Result Served SessionFault)
      → Stands old mid (had ++ front) written has → ServesPiece answers mid new has back kept bytes result → ServesPiece answers old new had (front ++ back) kept (written ++ bytes) result
  piece-goes-on old mid new had front back written bytes has kept (Ok More) s p = (
    s.all ++ p.0,
    p.1,
    p.2,
    subst (λ text. Splits text (s.all ++ p.0) p.1) (append_assoc had front back) (splits-on (had ++ front) has back p.1 s.all p.0 s.splits p.3),
    answered-on old mid new s.all p.0 written bytes s.answered p.4,
  )
  piece-goes-on old mid new had front back written bytes has kept (Ok Broken) s p = (
    s.all ++ p.0,
    p.1,
    subst (λ text. Breaks text (s.all ++ p.0) p.1) (append_assoc had front back) (breaks-on (had ++ front) has back s.all p.0 p.1 s.splits p.2),
    closed-on old mid new s.all p.0 written bytes s.answered p.3,
  )
  piece-goes-on old mid new had front back written bytes has kept (Err stop.Read) s p = absurd p
  piece-goes-on old mid new had front back written bytes has kept (Err stop.Write) s p =
      subst (λ text. IsOwed answers old new text (written ++ bytes)) (append_assoc had front back) (owed-on old mid new (had ++ front) written has back bytes s p)
  piece-goes-on old mid new had front back written bytes has kept (Err stop.NoMemory) s p = (
    s.all ++ p.0,
    p.1,
    p.2,
    subst (λ text. Reaches text (s.all ++ p.0) p.1) (append_assoc had front back) (reaches-on (had ++ front) has back p.1 s.all p.0 s.splits.reaches p.3),
    stopped-on old mid new s.all p.0 written bytes p.2 s.answered p.4,
    p.5,
  )

  -- a piece whose front was served, of which these bytes were kept
  pub piece-after : (old mid new : S) (had front back written bytes : List ℕ) (between kept : Option (List ℕ)) (result : Result Served SessionFault)
      (s : ServesPiece answers old mid had front between written (Ok More)) → ServesPiece answers mid new s.1 back kept bytes result
      → ServesPiece answers old new had (front ++ back) kept (written ++ bytes) result
  piece-after old mid new had front back written bytes between kept result s p =
      piece-goes-on old mid new had front back written bytes s.1 kept result (record { all = s.0; splits = s.3; answered = s.4 }) p

  -- more follows what breaks the protocol
  pub piece-broken : (old new : S) (had piece more bytes : List ℕ) (kept : Option (List ℕ))
      → ServesPiece answers old new had piece kept bytes (Ok Broken) → ServesPiece answers old new had (piece ++ more) kept bytes (Ok Broken)
  piece-broken old new had piece more bytes kept p =
      (p.0, p.1, subst (λ text. Breaks text p.0 p.1) (append_assoc had piece more) (breaks-more (had ++ piece) more p.0 p.1 p.2), p.3)

  -- a piece whose front was served
  pub piece-then : (old mid new : S) (had front back written bytes : List ℕ) (between kept : Option (List ℕ)) (result : Result Served SessionFault)
      → ServesPiece answers old mid had front between written (Ok More)
      → ((has : List ℕ) → between ≡ Some has → ServesPiece answers mid new has back kept bytes result)
      → ServesPiece answers old new had (front ++ back) kept (written ++ bytes) result
  piece-then old mid new had front back written bytes between kept result s p =
      piece-goes-on old mid new had front back written bytes s.1 kept result (record { all = s.0; splits = s.3; answered = s.4 }) (p s.1 s.2)

  pub piece-on : (old mid new : S) (had piece written bytes : List ℕ) (at : ℕ) (between kept : Option (List ℕ)) (result : Result Served SessionFault)
      → ServesPiece answers old mid had (take at piece) between written (Ok More)
      → ((has : List ℕ) → between ≡ Some has → ServesPiece answers mid new has (drop at piece) kept bytes result)
      → ServesPiece answers old new had piece kept (written ++ bytes) result
  piece-on old mid new had piece written bytes at between kept result s p =
      subst (λ piece. ServesPiece answers old new had piece kept (written ++ bytes) result) (take-append-drop at piece)
      (piece-then old mid new had (take at piece) (drop at piece) written bytes between kept result s p)

  -- the input breaks the protocol in a piece
  pub breaks-off : (old mid new : S) (text written had piece bytes : List ℕ) (kept : Option (List ℕ))
      → Stands old mid text written had → ServesPiece answers mid new had piece kept bytes (Ok Broken) → Serves answers old new (text ++ piece) (written ++ bytes) (Ok Protocol)
  breaks-off old mid new text written had piece bytes kept s p =
      (s.all ++ p.0, p.1, breaks-on text had piece s.all p.0 p.1 s.splits p.2, closed-on old mid new s.all p.0 written bytes s.answered p.3)

  -- what a piece is answered with is owed
  pub owed-whole : (old new : S) (had piece bytes : List ℕ) (kept : Option (List ℕ)) (result : Result Served SessionFault)
      → ServesPiece answers old new had piece kept bytes result → IsOwed answers old new (had ++ piece) bytes
  owed-whole old new had piece bytes kept (Ok More) p = inl (p.0, p.1, p.3.reaches, begun-whole answers old new (handed p.0) bytes p.4)
  owed-whole old new had piece bytes kept (Ok Broken) p =
      inr (p.0, p.1, [], p.2, subst (IsClosed answers old new (handed p.0)) (sym (append-nil bytes)) p.3)
  owed-whole old new had piece bytes kept (Err stop.Read) p = absurd p
  owed-whole old new had piece bytes kept (Err stop.Write) p = p
  owed-whole old new had piece bytes kept (Err stop.NoMemory) p = inl (p.0, p.1, p.3, stopped-begun answers old new (handed p.0) bytes p.2 p.4)

  -- what a session writes that ends with a fault of the protocol is owed
  pub owed-broken : (old new : S) (text bytes : List ℕ) → Serves answers old new text bytes (Ok Protocol) → IsOwed answers old new text bytes
  owed-broken old new text bytes p = inr (p.0, p.1, [], p.2, subst (IsClosed answers old new (handed p.0)) (sym (append-nil bytes)) p.3)

  -- so is what one writes that ends for want of memory
  pub owed-refused : (old new : S) (text bytes : List ℕ) → Serves answers old new text bytes (Err stop.NoMemory) → IsOwed answers old new text bytes
  owed-refused old new text bytes (inl p) =
      subst (λ text. IsOwed answers old new text bytes) (sym p.nothing_read) (subst (λ bytes. IsOwed answers old new [] bytes) (sym p.nothing_written)
      (subst (λ new. IsOwed answers old new [] []) p.none_answered (inl ([], [], splits-none.reaches, begun-whole answers old old [] [] (answered-none answers old)))))
  owed-refused old new text bytes (inr p) =
      let requests = p.all ++ p.more in
      subst (λ text. IsOwed answers old new text bytes) (sym p.text_is)
      (inl (
        requests,
        p.rest,
        reaches-on p.before p.had p.piece p.rest p.all p.more p.splits.reaches p.reaches,
        subst (IsBegun answers old new (handed requests)) (sym p.bytes_are)
            (begun-on old p.mid new p.all p.more p.written p.last p.answered (stopped-begun answers p.mid new (handed p.more) p.last p.unwritten p.stopped)),
      ))

  -- What is owed of a text is owed of a longer one.
  pub owed-longer : (old new : S) (text more bytes : List ℕ) → IsOwed answers old new text bytes → IsOwed answers old new (text ++ more) bytes
  owed-longer old new text more bytes (inl p) = inl (p.0, p.1 ++ more, reaches-more text more p.1 p.0 p.2, p.3)
  owed-longer old new text more bytes (inr p) = inr (p.0, p.1, p.2, breaks-more text more p.0 p.1 p.3, p.4)

  -- A front of what is owed is owed.
  pub owed-front : (old new : S) (text front back : List ℕ) → IsOwed answers old new text (front ++ back) → IsOwed answers old new text front
  owed-front old new text front back (inl p) =
      let b = p.3 in
      inl (p.0, p.1, p.2, (b.0, b.1, back ++ b.2, b.3, subst (IsAnswered answers old new b.0) (append_assoc front back b.2) b.4))
  owed-front old new text front back (inr p) =
      inr (p.0, p.1, back ++ p.2, p.3, subst (IsClosed answers old new (handed p.0)) (append_assoc front back p.2) p.4)

  -- what was written of a piece's answer is owed
  pub owed-written : (old new : S) (had piece bytes front back : List ℕ) (kept : Option (List ℕ)) (result : Result Served SessionFault)
      → ServesPiece answers old new had piece kept bytes result → bytes ≡ front ++ back → IsOwed answers old new (had ++ piece) front
  owed-written old new had piece bytes front back kept result p e =
      owed-front old new (had ++ piece) front back (subst (IsOwed answers old new (had ++ piece)) e (owed-whole old new had piece bytes kept result p))

  -- a fault within the requests of a piece
  pub piece-stops : (old new : S) (had piece bytes rest : List ℕ) (all : Requests) (kept : Option (List ℕ)) (why : SessionFault)
      → Reaches (had ++ piece) all rest → AnswersAll answers old new (handed all) bytes (Err why) → ServesPiece answers old new had piece kept bytes (Err why)
  piece-stops old new had piece bytes rest all kept stop.Read r p = absurd p
  piece-stops old new had piece bytes rest all kept stop.Write r p = absurd p
  piece-stops old new had piece bytes rest all kept stop.NoMemory r p = (all, rest, p.0, r, p.2, inl p.1)

  -- a piece whose requests are answered
  piece-is-more : (old new : S) (had piece bytes : List ℕ) (requests : Requests) (kept : Option (List ℕ))
      → Feeds (Some had) piece (Ok requests) kept → IsAnswered answers old new requests bytes → ServesPiece answers old new had piece kept bytes (Ok More)
  piece-is-more old new had piece bytes requests None f p = absurd f
  piece-is-more old new had piece bytes requests (Some has) f p =
      (f.0, has, refl, f.1, subst (λ handed_out. IsAnswered answers old new handed_out bytes) f.2 p)

  pub piece-more : (old new : S) (had piece bytes : List ℕ) (requests : Requests) (before kept : Option (List ℕ))
      → before ≡ Some had → Feeds before piece (Ok requests) kept → IsAnswered answers old new requests bytes → ServesPiece answers old new had piece kept bytes (Ok More)
  piece-more old new had piece bytes requests before kept is f p =
      piece-is-more old new had piece bytes requests kept (subst (λ b. Feeds b piece (Ok requests) kept) is f) p

  piece-is-cut : (old new : S) (had piece more bytes : List ℕ) (requests : Requests) (fed kept : Option (List ℕ)) (why : SessionFault)
      → Feeds (Some had) piece (Ok requests) fed → AnswersAll answers old new requests bytes (Err why) → ServesPiece answers old new had (piece ++ more) kept bytes (Err why)
  piece-is-cut old new had piece more bytes requests None kept why f p = absurd f
  piece-is-cut old new had piece more bytes requests (Some has) kept why f p =
      piece-stops old new had (piece ++ more) bytes (has ++ more) f.0 kept why
      (subst (λ text. Reaches text f.0 (has ++ more)) (append_assoc had piece more) (reaches-more (had ++ piece) more has f.0 f.1.reaches))
      (subst (λ handed_out. AnswersAll answers old new handed_out bytes (Err why)) f.2 p)

  pub piece-cut : (old new : S) (had piece bytes : List ℕ) (taken : ℕ) (requests : Requests) (before fed kept : Option (List ℕ)) (why : SessionFault)
      → before ≡ Some had → Feeds before (take taken piece) (Ok requests) fed → AnswersAll answers old new requests bytes (Err why) → ServesPiece answers old new had piece kept bytes (Err why)
  piece-cut old new had piece bytes taken requests before fed kept why is f p =
      subst (λ piece. ServesPiece answers old new had piece kept bytes (Err why)) (take-append-drop taken piece)
      (piece-is-cut old new had (take taken piece) (drop taken piece) bytes requests fed kept why (subst (λ b. Feeds b (take taken piece) (Ok requests) fed) is f) p)

  -- The requests before a fault are the first of the text's. What follows them is wrong, or there was no memory for it.
  reached : (text : List ℕ) (why : FeedFault) (requests : Requests) → Stops text why requests
      → (all : Requests) × (rest : List ℕ) × Reaches text all rest × (requests ≡ handed all) × IsWanting rest []
  reached text fault.Protocol requests f = (f.0, f.1.rest, f.1.reaches, f.2, inr (inr (fault.Protocol, f.1.wrong)))
  reached text fault.TooLong requests f = (f.0, f.1.rest, f.1.reaches, f.2, inr (inr (fault.TooLong, f.1.wrong)))
  reached text fault.NoMemory requests f = (f.0, f.1, f.2, f.3, inr (inl f.4))
  reached text fault.Over requests f = absurd f

  -- a piece that is the last
  piece-ends : (old new : S) (had piece bytes : List ℕ) (requests : Requests) (kept : Option (List ℕ)) (why : FeedFault) (result : Result Served SessionFault)
      → Stops (had ++ piece) why requests → ServesLast answers old new why requests bytes result → ServesPiece answers old new had piece kept bytes result
  piece-ends old new had piece bytes requests kept why (Ok More) f p = absurd p
  piece-ends old new had piece bytes requests kept fault.Protocol (Ok Broken) f p =
      (f.0, fault.Protocol, f.1, subst (λ handed_out. IsClosed answers old new handed_out bytes) f.2 p.1)
  piece-ends old new had piece bytes requests kept fault.TooLong (Ok Broken) f p =
      (f.0, fault.TooLong, f.1, subst (λ handed_out. IsClosed answers old new handed_out bytes) f.2 p.1)
  piece-ends old new had piece bytes requests kept fault.Over (Ok Broken) f p = absurd p.0
  piece-ends old new had piece bytes requests kept fault.NoMemory (Ok Broken) f p = absurd p.0
  piece-ends old new had piece bytes requests kept why (Err stop.Read) f p = absurd p
  piece-ends old new had piece bytes requests kept why (Err stop.Write) f p =
      let r = reached (had ++ piece) why requests f in
      inl (r.0, r.1, r.2, subst (λ handed_out. IsBegun answers old new handed_out bytes) r.3 p)
  piece-ends old new had piece bytes requests kept why (Err stop.NoMemory) f p =
      let r = reached (had ++ piece) why requests f in
      (r.0, r.1, [], r.2, subst (λ handed_out. IsStopped answers old new handed_out bytes []) r.3 p, r.4)

  piece-is-last : (old new : S) (had piece bytes : List ℕ) (requests : Requests) (kept : Option (List ℕ)) (why : FeedFault) (result : Result Served SessionFault)
      → Feeds (Some had) piece (Err (why, requests)) kept → ServesLast answers old new why requests bytes result → ServesPiece answers old new had piece kept bytes result
  piece-is-last old new had piece bytes requests None why result f p = piece-ends old new had piece bytes requests None why result f p
  piece-is-last old new had piece bytes requests (Some has) why result f p = absurd f

  pub piece-last : (old new : S) (had piece bytes : List ℕ) (requests : Requests) (before kept : Option (List ℕ)) (why : FeedFault) (result : Result Served SessionFault)
      → before ≡ Some had → Feeds before piece (Err (why, requests)) kept → ServesLast answers old new why requests bytes result → ServesPiece answers old new had piece kept bytes result
  piece-last old new had piece bytes requests before kept why result is f p =
      piece-is-last old new had piece bytes requests kept why result (subst (λ b. Feeds b piece (Err (why, requests)) kept) is f) p

  -- a fault within a piece
  pub goes-no-further : (old mid new : S) (text written had piece bytes : List ℕ) (kept : Option (List ℕ)) (why : SessionFault)
      → Stands old mid text written had → length piece ≤ 65536 → ServesPiece answers mid new had piece kept bytes (Err why) → Serves answers old new (text ++ piece) (written ++ bytes) (Err why)
  goes-no-further old mid new text written had piece bytes kept stop.Read s small p = absurd p
  goes-no-further old mid new text written had piece bytes kept stop.Write s small p = owed-on old mid new text written had piece bytes s p
  goes-no-further old mid new text written had piece bytes kept stop.NoMemory s small p = inr (record {
    before = text;
    piece = piece;
    text_is = refl;
    one_read = small;
    all = s.all;
    had = had;
    splits = s.splits;
    mid = mid;
    written = written;
    answered = s.answered;
    more = p.0;
    rest = p.1;
    reaches = p.3;
    last = bytes;
    unwritten = p.2;
    stopped = p.4;
    wanting = p.5;
    bytes_are = refl;
  })

  -- a session that stops between two pieces
  pub serves-so-far : (old new : S) (text written had : List ℕ) → Stands old new text written had → Serves answers old new text written (Err stop.Read)
  serves-so-far old new text written had s = (s.all, had, s.splits, s.answered)

  pub serves-to-end : (old new : S) (text written had : List ℕ) (end : End) → Stands old new text written had → EndsWith had end → Serves answers old new text written (Ok end)
  serves-to-end old new text written had Clean s e = (s.all, subst (Splits text s.all) e s.splits, s.answered)
  serves-to-end old new text written had Inside s e = (s.all, had, s.splits, e, s.answered)
  serves-to-end old new text written had Protocol s e = absurd e

  pub serves-nothing : (s : S) → Serves answers s s [] [] (Err stop.NoMemory)
  serves-nothing s = inl (record { nothing_read = refl; nothing_written = refl; none_answered = refl })

-- Sessions of states that are seen as others, which answer as the states do.
use Rattle.std.proofs.Common.{List, ℕ, [], ◌∷◌, ◌++◌, Result, Ok, Err, ap, inl, inr, map}
use Rattle.zq_resp.specs.declared.reply.Reply.{Reply}
use Rattle.zq_resp.specs.Stream.{Requests, handed}
use Rattle.zq_session.specs.Among.{Among, Change, Leads, Meanwhile}
use Rattle.zq_session.specs.Connection.{IsSession}
use Rattle.zq_session.specs.Session.{IsAnswered, IsBegun, IsClosed, IsStopped, Relation, Runs, Serves}
use Rattle.zq_session.specs.declared.outcome.End.{End}
use Rattle.zq_session.specs.declared.outcome.End.TheVariants.{Clean, Inside, Protocol}
use Rattle.zq_session.specs.declared.outcome.SessionFault.{SessionFault}
use Rattle.zq_session.specs.declared.outcome.SessionFault.TheVariants as stop

module _ {S T : Type 0} (see : S → T) (answers : Relation S) (seen : Relation T)
    (so : (a b : S) (request : List (List ℕ)) (reply : Reply) → answers a request reply b → seen (see a) request reply (see b)) where
  runs-seen : (a b : S) (xs : Requests) (rs : List Reply) → Runs answers a xs rs b → Runs seen (see a) xs rs (see b)
  runs-seen a b [] [] p = ap see p
  runs-seen a b (x ∷ xs) (r ∷ rs) p = (see p.0, so a p.0 x r p.1, runs-seen p.0 b xs rs p.2)
  runs-seen a b [] (r ∷ rs) p = absurd p
  runs-seen a b (x ∷ xs) [] p = absurd p

  answered-seen : (a b : S) (xs : Requests) (bytes : List ℕ) → IsAnswered answers a b xs bytes → IsAnswered seen (see a) (see b) xs bytes
  answered-seen a b xs bytes p = (p.0, runs-seen a b xs p.0 p.1, p.2)

  closed-seen : (a b : S) (xs : Requests) (bytes : List ℕ) → IsClosed answers a b xs bytes → IsClosed seen (see a) (see b) xs bytes
  closed-seen a b xs bytes p = (p.0, answered-seen a b xs p.0 p.1, p.2)

  begun-seen : (a b : S) (xs : Requests) (bytes : List ℕ) → IsBegun answers a b xs bytes → IsBegun seen (see a) (see b) xs bytes
  begun-seen a b xs bytes p = (p.0, p.1, p.2, p.3, answered-seen a b p.0 (bytes ++ p.2) p.4)

  stopped-seen : (a b : S) (xs : Requests) (bytes : List ℕ) (unwritten : List Reply) → IsStopped answers a b xs bytes unwritten → IsStopped seen (see a) (see b) xs bytes unwritten
  stopped-seen a b xs bytes unwritten p = record {
    first = p.first;
    others = p.others;
    split = p.split;
    replies = p.replies;
    runs = runs-seen a b p.first (p.replies ++ unwritten) p.runs;
    at_most_one = p.at_most_one;
    all_else = p.all_else;
    written = p.written;
  }

  pub serves-seen : (a b : S) (text bytes : List ℕ) (ended : Result End SessionFault) → Serves answers a b text bytes ended → Serves seen (see a) (see b) text bytes ended
  serves-seen a b text bytes (Ok Clean) p = (p.0, p.1, answered-seen a b (handed p.0) bytes p.2)
  serves-seen a b text bytes (Ok Inside) p = (p.0, p.1, p.2, p.3, answered-seen a b (handed p.0) bytes p.4)
  serves-seen a b text bytes (Ok Protocol) p = (p.0, p.1, p.2, closed-seen a b (handed p.0) bytes p.3)
  serves-seen a b text bytes (Err stop.Read) p = (p.0, p.1, p.2, answered-seen a b (handed p.0) bytes p.3)
  serves-seen a b text bytes (Err stop.Write) (inl p) = inl (p.0, p.1, p.2, begun-seen a b (handed p.0) bytes p.3)
  serves-seen a b text bytes (Err stop.Write) (inr p) = inr (p.0, p.1, p.2, p.3, closed-seen a b (handed p.0) (bytes ++ p.2) p.4)
  serves-seen a b text bytes (Err stop.NoMemory) (inl p) =
      inl (record { nothing_read = p.nothing_read; nothing_written = p.nothing_written; none_answered = ap see p.none_answered })
  serves-seen a b text bytes (Err stop.NoMemory) (inr p) =
      inr (record {
        before = p.before;
        piece = p.piece;
        text_is = p.text_is;
        one_read = p.one_read;
        all = p.all;
        had = p.had;
        splits = p.splits;
        mid = see p.mid;
        written = p.written;
        answered = answered-seen a p.mid (handed p.all) p.written p.answered;
        more = p.more;
        rest = p.rest;
        reaches = p.reaches;
        last = p.last;
        unwritten = p.unwritten;
        stopped = stopped-seen p.mid b (handed p.more) p.last p.unwritten p.stopped;
        wanting = p.wanting;
        bytes_are = p.bytes_are;
      })

module _ {S T : Type 0} (see : S → T) (others : Change S) (seen_others : Change T) (answers : Relation S) (seen : Relation T)
    (others_so : (a b : S) → others a b → seen_others (see a) (see b))
    (so : (a b : S) (request : List (List ℕ)) (reply : Reply) → answers a request reply b → seen (see a) request reply (see b)) where
  leads-seen : (a b : S) (mids : List S) → Leads others a mids b → Leads seen_others (see a) (map see mids) (see b)
  leads-seen a b [] p = ap see p
  leads-seen a b (mid ∷ mids) p = (others_so a mid p.0, leads-seen mid b mids p.1)

  meanwhile-seen : (a b : S) → Meanwhile others a b → Meanwhile seen_others (see a) (see b)
  meanwhile-seen a b p = (map see p.0, leads-seen a b p.0 p.1)

  among-seen : (a b : S) (request : List (List ℕ)) (reply : Reply) → Among others answers a request reply b → Among seen_others seen (see a) request reply (see b)
  among-seen a b request reply p = record { mid = see p.mid; meanwhile = meanwhile-seen a p.mid p.meanwhile; answered = so p.mid b request reply p.answered }

  pub session-seen : (begun now : S) (text written : List ℕ) (ended : Result End SessionFault) → IsSession others answers begun now text written ended
      → IsSession seen_others seen (see begun) (see now) text written ended
  session-seen begun now text written ended p = record {
    last = see p.last;
    meanwhile = meanwhile-seen p.last now p.meanwhile;
    taken = p.taken;
    rest = p.rest;
    text_is = p.text_is;
    serves = serves-seen see (Among others answers) (Among seen_others seen) among-seen begun p.last p.taken written ended p.serves;
  }

-- Requests of one connection that are answered while others are served between them.
use Rattle.std.proofs.Common.{List, ℕ, [], ◌∷◌, ◌++◌, Option, Ok, Err, refl, sym, subst}
use Rattle.zq_resp.specs.declared.reply.Reply.{Reply}
use Rattle.zq_resp.specs.Stream.{Requests, handed}
use Rattle.zq_session.specs.Among.{Among, AnyRequest, Change, Leads, Meanwhile}
use Rattle.zq_session.specs.Serving.{ServesPiece}
use Rattle.zq_session.specs.Session.{IsAnswered, IsStopped, Relation, Runs}
use Rattle.zq_session.specs.declared.outcome.SessionFault.TheVariants as stop
use Rattle.zq_session.specs.declared.serving.Served.{Served}
use Rattle.zq_session.specs.declared.serving.Served.TheVariants.{Broken, More}

module _ {S : Type 0} (others : Change S) where
  pub meanwhile-none : (s : S) → Meanwhile others s s
  meanwhile-none s = ([], refl)

  leads-join : (a b c : S) (xs ys : List S) → Leads others a xs b → Leads others b ys c → Leads others a (xs ++ ys) c
  leads-join a b c [] ys p q = subst (λ s. Leads others s ys c) (sym p) q
  leads-join a b c (x ∷ xs) ys p q = (p.0, leads-join x b c xs ys p.1 q)

  pub meanwhile-join : (a b c : S) → Meanwhile others a b → Meanwhile others b c → Meanwhile others a c
  meanwhile-join a b c p q = (p.0 ++ q.0, leads-join a b c p.0 q.0 p.1 q.1)

  module _ (answers : Relation S) where
    -- requests that are answered in turn are answered among others
    runs-among : (last now new : S) (xs : Requests) (rs : List Reply) → Meanwhile others last now → Runs answers now xs rs new
        → (end : S) × Runs (Among others answers) last xs rs end × Meanwhile others end new
    runs-among last now new [] [] o r = (last, refl, subst (λ s. Meanwhile others last s) r o)
    runs-among last now new (x ∷ xs) (r ∷ rs) o p =
        let rest = runs-among p.0 p.0 new xs rs (meanwhile-none p.0) p.2 in
        (rest.0, (p.0, record { mid = now; meanwhile = o; answered = p.1 }, rest.1), rest.2)
    runs-among last now new [] (r ∷ rs) o p = absurd p
    runs-among last now new (x ∷ xs) [] o p = absurd p

    answered-among : (last now new : S) (xs : Requests) (bytes : List ℕ) → Meanwhile others last now → IsAnswered answers now new xs bytes
        → (end : S) × IsAnswered (Among others answers) last end xs bytes × Meanwhile others end new
    answered-among last now new xs bytes o p =
        let q = runs-among last now new xs p.0 o p.1 in
        (q.0, (p.0, q.1, p.2), q.2)

    stopped-among : (last now new : S) (xs : Requests) (bytes : List ℕ) (unwritten : List Reply) → Meanwhile others last now → IsStopped answers now new xs bytes unwritten
        → (end : S) × IsStopped (Among others answers) last end xs bytes unwritten × Meanwhile others end new
    stopped-among last now new xs bytes unwritten o p =
        let q = runs-among last now new p.first (p.replies ++ unwritten) o p.runs in (
          q.0,
          record {
            first = p.first;
            others = p.others;
            split = p.split;
            replies = p.replies;
            runs = q.1;
            at_most_one = p.at_most_one;
            all_else = p.all_else;
            written = p.written;
          },
          q.2,
        )

    -- a piece that is served is served among others
    pub piece-among : (last now new : S) (had piece bytes : List ℕ) (kept : Option (List ℕ)) (served : Served) → Meanwhile others last now
        → ServesPiece answers now new had piece kept bytes (Ok served)
        → (end : S) × ServesPiece (Among others answers) last end had piece kept bytes (Ok served) × Meanwhile others end new
    piece-among last now new had piece bytes kept More o p =
        let q = answered-among last now new (handed p.0) bytes o p.4 in
        (q.0, (p.0, p.1, p.2, p.3, q.1), q.2)
    piece-among last now new had piece bytes kept Broken o p =
        let q = answered-among last now new (handed p.0) p.3.0 o p.3.1 in
        (q.0, (p.0, p.1, p.2, (p.3.0, q.1, p.3.2)), q.2)

    -- so is one within which memory is refused
    pub short-among : (last now new : S) (had piece bytes : List ℕ) (kept : Option (List ℕ)) → Meanwhile others last now
        → ServesPiece answers now new had piece kept bytes (Err stop.NoMemory)
        → (end : S) × ServesPiece (Among others answers) last end had piece kept bytes (Err stop.NoMemory) × Meanwhile others end new
    short-among last now new had piece bytes kept o p =
        let q = stopped-among last now new (handed p.0) bytes p.2 o p.4 in
        (q.0, (p.0, p.1, p.2, p.3, q.1, p.5), q.2)

-- what answers went on by requests alone
module _ {S : Type 0} (answers : Relation S) where
  runs-requests : (a b : S) (xs : Requests) (rs : List Reply) → Runs answers a xs rs b → Meanwhile (AnyRequest answers) a b
  runs-requests a b [] [] p = ([], p)
  runs-requests a b (x ∷ xs) (r ∷ rs) p =
      let more = runs-requests p.0 b xs rs p.2 in
      (p.0 ∷ more.0, ((x, r, p.1), more.1))
  runs-requests a b [] (r ∷ rs) p = absurd p
  runs-requests a b (x ∷ xs) [] p = absurd p

  pub piece-requests : (now new : S) (had piece bytes : List ℕ) (kept : Option (List ℕ)) (served : Served) → ServesPiece answers now new had piece kept bytes (Ok served) → Meanwhile (AnyRequest answers) now new
  piece-requests now new had piece bytes kept More p = runs-requests now new (handed p.0) p.4.0 p.4.1
  piece-requests now new had piece bytes kept Broken p = runs-requests now new (handed p.0) p.3.1.0 p.3.1.1

  pub short-requests : (now new : S) (had piece bytes : List ℕ) (kept : Option (List ℕ)) → ServesPiece answers now new had piece kept bytes (Err stop.NoMemory) → Meanwhile (AnyRequest answers) now new
  short-requests now new had piece bytes kept p = runs-requests now new p.4.first (p.4.replies ++ p.2) p.4.runs

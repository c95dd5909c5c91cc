-- A text that comes in pieces is split piece by piece.
use Rattle.std.proofs.Common.{◌≡◌, List, ℕ, [], ◌∷◌, ◌++◌, refl, sym, ap, subst}
use Rattle.std.proofs.lemmas.List.Elements.{filter-append}
use Rattle.zq_resp.specs.declared.fault.FeedFault.{FeedFault}
use Rattle.zq_resp.specs.Front.{Part}
use Rattle.zq_resp.specs.Grammar.{request_at}
use Rattle.zq_resp.specs.Stream.{Requests, Reaches, Splits, Breaks, handed}
use Rattle.zq_resp.proofs.Stable.{got_stays, wrong_stays}

-- more bytes
pub reaches-more : (bytes more rest : List ℕ) (all : Requests) → Reaches bytes all rest → Reaches (bytes ++ more) all (rest ++ more)
reaches-more bytes more rest [] r = ap (λ text. text ++ more) r
reaches-more bytes more rest (request ∷ all) r = (r.0 ++ more, got_stays bytes more r.0 request r.1, reaches-more r.0 more rest all r.2)

reaches-join : (a b c : List ℕ) (xs ys : Requests) → Reaches a xs b → Reaches b ys c → Reaches a (xs ++ ys) c
reaches-join a b c [] ys p q = subst (λ text. Reaches text ys c) (sym p) q
reaches-join a b c (x ∷ xs) ys p q = (p.0, p.1, reaches-join p.0 b c xs ys p.2 q)

-- the text, with one more piece
pub reaches-on : (text had piece rest : List ℕ) (all more : Requests) → Reaches text all had → Reaches (had ++ piece) more rest → Reaches (text ++ piece) (all ++ more) rest
reaches-on text had piece rest all more p q = reaches-join (text ++ piece) (had ++ piece) rest all more (reaches-more text piece had all p) q

pub splits-on : (text had piece rest : List ℕ) (all more : Requests) → Splits text all had → Splits (had ++ piece) more rest → Splits (text ++ piece) (all ++ more) rest
splits-on text had piece rest all more p q = record { reaches = reaches-on text had piece rest all more p.reaches q.reaches; partial = q.partial }

pub breaks-on : (text had piece : List ℕ) (all more : Requests) (why : FeedFault) → Splits text all had → Breaks (had ++ piece) more why → Breaks (text ++ piece) (all ++ more) why
breaks-on text had piece all more why p q = record { rest = q.rest; reaches = reaches-on text had piece q.rest all more p.reaches q.reaches; wrong = q.wrong }

-- more bytes, behind what begins no request
pub breaks-more : (text more : List ℕ) (all : Requests) (why : FeedFault) → Breaks text all why → Breaks (text ++ more) all why
breaks-more text more all why p = record { rest = p.rest ++ more; reaches = reaches-more text more p.rest all p.reaches; wrong = wrong_stays p.rest more why p.wrong }

pub handed-append : (xs ys : Requests) → handed (xs ++ ys) ≡ handed xs ++ handed ys
handed-append xs ys = filter-append _ xs ys

none-begun : request_at [] ≡ Part
unfolding request_at
none-begun = refl

pub splits-none : Splits [] [] []
splits-none = record { reaches = refl; partial = none-begun }

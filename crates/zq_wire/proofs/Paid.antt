-- The answer of this site is written once.

use Rattle.std.proofs.Common.{Bool, Err, List, None, Ok, Option, Result, Some, [], ap, drop, false, refl, subst, sym, true, ℕ, ◌++◌, ◌≡◌, ◌∙◌}
use Rattle.std.specs.Io.KnownBytes.{Appends, Consumes}
use Rattle.zq_wire.proofs.Known.{appends_join, appends_none, consumes_join}
use Rattle.zq_wire.proofs.Stays.{answer_stays}
use Rattle.zq_wire.specs.GreetingLaws.{StillOwes}
use Rattle.zq_wire.specs.Links.{ComesOf, Greets, Hears, Pays, UnlessLost, answer_bytes, answer_in, reason_of}
use Rattle.zq_wire.specs.Opened.{opening_of}
use Rattle.zq_wire.specs.Said.{said_by}
use Rattle.zq_wire.specs.declared.form.Form.TheVariants as form
use Rattle.zq_wire.specs.declared.link.Opened.{Opened}
use Rattle.zq_wire.specs.declared.link.Unopened.{Unopened}
use Rattle.zq_wire.specs.declared.link.Unopened.TheVariants.{Lost, Old, Refused}
use Rattle.zq_wire.specs.declared.opening.Opening.{Opening}
use Rattle.zq_wire.specs.declared.opening.Opening.TheVariants.{Answers, Waits, Welcome}
use Rattle.zq_wire.specs.declared.refusal.Refusal.{Refusal}
use Rattle.zq_wire.specs.declared.refusal.Refusal.TheVariants as refusal
use Rattle.zq_wire.specs.declared.run.Run.{Run}
use Rattle.zq_wire.specs.declared.side.Side.{Side}

-- what was written of these that were heard: nothing where the answer is owed, and else the answer that is due
abbrev pub IsOwed : Side → List ℕ → Option (List ℕ) → Option (List ℕ) → List ℕ → Bool → Type 0
IsOwed side said held holds heard true = holds ≡ held
IsOwed side said held holds heard false = (own : List ℕ) × (opening_of side said heard ≡ Ok (Answers own)) × Appends held holds own

-- the same of those that were heard when it was looked last
pub record WasOwed (side : Side) (said : List ℕ) (held holds : Option (List ℕ)) (heard : List ℕ) (owes : Bool) : Type 0 where
  pub seen : List ℕ
  pub more : List ℕ
  pub split : heard ≡ seen ++ more
  pub owed : IsOwed side said held holds seen owes

-- once the peer is welcome the answer is written, and else it is owed, or it was written
abbrev pub IsSettled : Side → List ℕ → Option (List ℕ) → Option (List ℕ) → List ℕ → Bool → Opening → Type 0
IsSettled side said held holds heard owes Waits = IsOwed side said held holds heard owes
IsSettled side said held holds heard owes (Answers own) = IsOwed side said held holds heard owes
IsSettled side said held holds heard owes (Welcome peer version run own used) = Appends held holds (answer_bytes own)

-- nothing was written before
at_first : (side : Side) (said : List ℕ) (held holds now : Option (List ℕ)) (heard : List ℕ) (owes : Bool) (opening : Opening)
    → opening_of side said heard ≡ Ok opening → holds ≡ held → Pays true owes holds now (answer_in opening) → IsSettled side said held now heard owes opening
at_first side said held holds now heard owes Waits is same paid = subst (IsOwed side said held now heard) (sym paid.0) (paid.1 ∙ same)
at_first side said held holds now heard owes (Answers own) is same paid =
    subst (IsOwed side said held now heard) (sym paid.0) (own, is, subst (λ h. Appends h now own) same paid.1)
at_first side said held holds now heard owes (Welcome peer version run None used) is same paid =
    subst (λ h. Appends held h []) (sym (paid.1 ∙ same)) (appends_none held)
at_first side said held holds now heard owes (Welcome peer version run (Some own) used) is same paid = subst (λ h. Appends h now own) same paid.1

-- the answer was written before
afterwards : (side : Side) (said : List ℕ) (held holds now : Option (List ℕ)) (heard : List ℕ) (owes : Bool) (own : List ℕ) (opening : Opening)
    → opening_of side said heard ≡ Ok opening → StillOwes own (Ok opening) → Appends held holds own → owes ≡ false → now ≡ holds → IsSettled side said held now heard owes opening
afterwards side said held holds now heard owes own Waits is due written paid same = absurd due
afterwards side said held holds now heard owes own (Answers again) is due written paid same =
    subst (IsOwed side said held now heard) (sym paid) (own, is ∙ (λ i. Ok (Answers (due i))), subst (λ h. Appends held h own) (sym same) written)
afterwards side said held holds now heard owes own (Welcome peer version run again used) is due written paid same =
    subst (λ a. Appends held now (answer_bytes a)) (sym due) (subst (λ h. Appends held h own) (sym same) written)

settled : (side : Side) (said : List ℕ) (held holds now : Option (List ℕ)) (heard piece : List ℕ) (owed owes : Bool) (opening : Opening)
    → IsOwed side said held holds heard owed → opening_of side said (heard ++ piece) ≡ Ok opening → Pays owed owes holds now (answer_in opening)
    → IsSettled side said held now (heard ++ piece) owes opening
settled side said held holds now heard piece true owes opening before is paid = at_first side said held holds now (heard ++ piece) owes opening is before paid
settled side said held holds now heard piece false owes opening (own, was, written) is paid =
    let due : StillOwes own (Ok opening) = subst (StillOwes own) is (answer_stays side said heard piece own was) in
    afterwards side said held holds now (heard ++ piece) owes own opening is due written paid.0 paid.1

-- it was looked at what was heard, and what was due was written
pub looked : (side : Side) (said : List ℕ) (held holds now : Option (List ℕ)) (heard seen : List ℕ) (owed owes : Bool) (result : Result Opening Refusal) (opening : Opening) (answer : Option (List ℕ))
    → WasOwed side said held holds heard owed → seen ≡ heard → result ≡ opening_of side said seen → result ≡ Ok opening → answer ≡ answer_in opening
    → Pays owed owes holds now answer → IsSettled side said held now heard owes opening
looked side said held holds now heard seen owed owes result opening answer was same found is due paid =
    let opens : opening_of side said (was.seen ++ was.more) ≡ Ok opening = sym (found ∙ ap (opening_of side said) (same ∙ was.split)) ∙ is in
    subst (λ bytes. IsSettled side said held now bytes owes opening) (sym was.split)
    (settled side said held holds now was.seen was.more owed owes opening was.owed opens (subst (Pays owed owes holds now) due paid))

still_owed : (side : Side) (said : List ℕ) (held now : Option (List ℕ)) (heard : List ℕ) (owes : Bool) (opening : Opening)
    → ((peer version : ℕ) (run : Option Run) (own : Option (List ℕ)) (used : ℕ) → opening ≡ Welcome peer version run own used → ⊥) → IsSettled side said held now heard owes opening → IsOwed side said held now heard owes
still_owed side said held now heard owes Waits other h = h
still_owed side said held now heard owes (Answers own) other h = h
still_owed side said held now heard owes (Welcome peer version run own used) other h = absurd (other peer version run own used refl)

-- one more piece was heard then
pub heard_on : (side : Side) (said : List ℕ) (held now : Option (List ℕ)) (heard piece longer : List ℕ) (owes : Bool) (opening : Opening)
    → ((peer version : ℕ) (run : Option Run) (own : Option (List ℕ)) (used : ℕ) → opening ≡ Welcome peer version run own used → ⊥) → IsSettled side said held now heard owes opening → longer ≡ heard ++ piece
    → WasOwed side said held now longer owes
heard_on side said held now heard piece longer owes opening other paid more =
    record { seen = heard; more = piece; split = more; owed = still_owed side said held now heard owes opening other paid }

-- the peer is welcome
pub welcomed : (side : Side) (said : List ℕ) (held holds : Option (List ℕ)) (text seen : List ℕ) (owes : Bool) (opening : Opening) (peer version : ℕ) (run : Option Run) (own : Option (List ℕ)) (used : ℕ) (opened : Opened)
    → opening_of side said text ≡ Ok opening → opening ≡ Welcome peer version run own used → IsSettled side said held holds text owes opening
    → opened.peer ≡ peer → opened.version ≡ version → opened.run ≡ run → opened.first.items ≡ drop used seen → seen ≡ text → ComesOf side said text held holds [] (Ok opened)
welcomed side said held holds text seen owes opening peer version run own used opened is welcome paid peer_is version_is run_is first same =
    record {
      own = own;
      used = used;
      welcome = is ∙ (ap (λ o. Ok o) welcome ∙ (λ i. Ok (Welcome (sym peer_is i) (sym version_is i) (sym run_is i) own used)));
      frames = first ∙ ap (drop used) same;
      written = subst (IsSettled side said held holds text owes) welcome paid;
    }

-- the peer is refused, or has to be greeted in the old form
pub turned_away : (side : Side) (said text : List ℕ) (held holds : Option (List ℕ)) (had has : Option (List ℕ)) (heard piece : List ℕ) (why : Refusal)
    → Consumes had has piece → text ≡ heard ++ piece → opening_of side said text ≡ Err why → Hears side said heard had has held holds (Err (reason_of why))
turned_away side said text held holds had has heard piece (refusal.Form form.Old) read split is = (piece, read, subst (λ t. opening_of side said t ≡ Err (refusal.Form form.Old)) split is)
turned_away side said text held holds had has heard piece (refusal.Form form.New) read split is = (piece, read, subst (λ t. opening_of side said t ≡ Err (refusal.Form form.New)) split is)
turned_away side said text held holds had has heard piece refusal.Magic read split is = (piece, read, subst (λ t. opening_of side said t ≡ Err refusal.Magic) split is)
turned_away side said text held holds had has heard piece (refusal.Version one other) read split is = (piece, read, subst (λ t. opening_of side said t ≡ Err (refusal.Version one other)) split is)
turned_away side said text held holds had has heard piece refusal.SameSite read split is = (piece, read, subst (λ t. opening_of side said t ≡ Err refusal.SameSite) split is)
turned_away side said text held holds had has heard piece (refusal.Unexpected n) read split is = (piece, read, subst (λ t. opening_of side said t ≡ Err (refusal.Unexpected n)) split is)
turned_away side said text held holds had has heard piece (refusal.Heaps n) read split is = (piece, read, subst (λ t. opening_of side said t ≡ Err (refusal.Heaps n)) split is)
turned_away side said text held holds had has heard piece refusal.Rule read split is = (piece, read, subst (λ t. opening_of side said t ≡ Err refusal.Rule) split is)
turned_away side said text held holds had has heard piece refusal.SecretThere read split is = (piece, read, subst (λ t. opening_of side said t ≡ Err refusal.SecretThere) split is)
turned_away side said text held holds had has heard piece refusal.SecretHere read split is = (piece, read, subst (λ t. opening_of side said t ≡ Err refusal.SecretHere) split is)
turned_away side said text held holds had has heard piece refusal.Answer read split is = (piece, read, subst (λ t. opening_of side said t ≡ Err refusal.Answer) split is)

-- the link was lost
pub was_lost : (side : Side) (said heard : List ℕ) (had has held holds : Option (List ℕ)) (why : Unopened) → why ≡ Lost → Hears side said heard had has held holds (Err why)
was_lost side said heard had has held holds why is = subst (λ w. Hears side said heard had has held holds (Err w)) (sym is) tt

-- ---- the greeting before

front_first : (side : Side) (said text : List ℕ) (held mid holds : Option (List ℕ)) (front : List ℕ) (result : Result Opened Unopened)
    → Appends held mid front → ComesOf side said text mid holds [] result → ComesOf side said text held holds front result
front_first side said text held mid holds front (Ok opened) before heard =
    record { own = heard.own; used = heard.used; welcome = heard.welcome; frames = heard.frames; written = appends_join held mid holds front (answer_bytes heard.own) before heard.written }
front_first side said text held mid holds front (Err (Refused why)) before heard = heard
front_first side said text held mid holds front (Err Old) before heard = heard
front_first side said text held mid holds front (Err Lost) before heard = tt

over : (result : Result Opened Unopened) (P Q : Type 0) → (P → Q) → UnlessLost result P → UnlessLost result Q
over (Ok opened) P Q f p = f p
over (Err (Refused why)) P Q f p = f p
over (Err Old) P Q f p = f p
over (Err Lost) P Q f p = tt

-- what was written first, and what comes of the link then
pub greeted : (side : Side) (said heard : List ℕ) (had has held mid holds : Option (List ℕ)) (result : Result Opened Unopened)
    → said ≡ said_by side → Appends held mid said → Hears side said heard had has mid holds result → Greets side heard had has held holds result
greeted side said heard had has held mid holds result is before hears =
    let front = subst (λ bytes. Appends held mid bytes) is before in
    let same = subst (λ bytes. Hears side bytes heard had has mid holds result) is hears in
    over result ((piece : List ℕ) × Consumes had has piece × ComesOf side (said_by side) (heard ++ piece) mid holds [] result)
    ((piece : List ℕ) × Consumes had has piece × ComesOf side (said_by side) (heard ++ piece) held holds (said_by side) result)
    (λ x. (x.0, x.1, front_first side (said_by side) (heard ++ x.0) held mid holds (said_by side) result front x.2)) same

-- a side for each text: from the bytes that were heard first on
pub begun : (side : Side) (side_of : List ℕ → Side) (heard : List ℕ) (start had has held holds : Option (List ℕ)) (result : Result Opened Unopened)
    → ((piece : List ℕ) → side_of (heard ++ piece) ≡ side) → Consumes start had heard → Greets side heard had has held holds result
    → UnlessLost result ((text : List ℕ) × Consumes start has text × ComesOf (side_of text) (said_by (side_of text)) text held holds (said_by (side_of text)) result)
begun side side_of heard start had has held holds result same before greets =
    over result ((piece : List ℕ) × Consumes had has piece × ComesOf side (said_by side) (heard ++ piece) held holds (said_by side) result)
    ((text : List ℕ) × Consumes start has text × ComesOf (side_of text) (said_by (side_of text)) text held holds (said_by (side_of text)) result)
    (λ x. (heard ++ x.0, consumes_join start had has heard x.0 before x.1, subst (λ s. ComesOf s (said_by s) (heard ++ x.0) held holds (said_by s) result) (sym (same x.0)) x.2)) greets

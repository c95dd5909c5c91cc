-- What becomes of a request.

use Rattle.http.specs.HeaderMap.{ContainsKey, get}
use Rattle.http.specs.Request.{head_of}
use Rattle.http.specs.Uri.{uri_path, uri_query}
use Rattle.http.specs.declared.request.Request.{Request}
use Rattle.http_server.specs.declared.response.Response.{Response}
use Rattle.std.specs.Prelude.{Bool, Err, IsTrue, List, None, Ok, Option, Result, Some, codes, false, option_copied, true, ◌||◌, ◌↔◌, ◌≡◌, ◌⊎◌, ℕ}
use Rattle.zq_admin.specs.Asked.{asked_by}
use Rattle.zq_admin.specs.Replies.{code_for, code_of, words_for, words_of_denial}
use Rattle.zq_admin.specs.Tokens.{SaysToken}
use Rattle.zq_admin.specs.declared.asked.Asked.{Asked}
use Rattle.zq_admin.specs.declared.asked.Asked.TheVariants.{Alive, Ready, Show, Stop}
use Rattle.zq_admin.specs.declared.asked.Denial.{Denial}
use Rattle.zq_admin.specs.declared.clerk.Clerk.{Clerk}
use Rattle.zq_admin.specs.declared.page.Page.{Page}
use Rattle.zq_admin.specs.declared.readiness.Readiness.{Readiness}

-- the request has the header of who changes something
abbrev pub HasMark : Request (List ℕ) → Type 0
HasMark request = ContainsKey (head_of request).headers (codes "x-zqueue-admin")

-- What a request asks for. It is known by the token, where one is asked for, and can be trusted only
-- where it has the mark.
pub record IsAskedIn (token : Option (List ℕ)) (request : Request (List ℕ)) (asked : Result Asked Denial) :
    Type 0 where
  pub known : Bool
  pub trusted : Bool
  pub direct : Bool
  pub says_token : IsTrue known
      ↔ SaysToken token (get (head_of request).headers (codes "authorization"))
  pub has_mark : IsTrue trusted → HasMark request
  pub is_asked : asked ≡ asked_by (head_of request).method (uri_path (head_of request).uri)
      (uri_query (head_of request).uri)
      (record { known = known; trusted = trusted; direct = direct })

-- the response has this status and this body
abbrev pub IsFilled : ℕ → List ℕ → Response → Type 0
IsFilled code words response = (response.status ≡ code) × (response.body.items ≡ words)

-- what a site gives for a page is answered, or that it cannot give it
abbrev pub Shows : {D : Type 0} → (D → Page → Option (List ℕ) → Type 0) → D → Readiness → Page →
    Response → Type 0
Shows gives desk readiness page response =
    ((text : List ℕ) × gives desk page (Some text) × IsFilled 200 text response)
    ⊎ (gives desk page None
    × IsFilled (code_for (Show page) readiness) (words_for (Show page) readiness) response)

-- what is answered by a site that is so ready
abbrev pub Answers : {D : Type 0} → (D → Page → Option (List ℕ) → Type 0) → D → Readiness →
    Result Asked Denial → Response → Type 0
Answers gives desk readiness (Ok Alive) response =
    IsFilled (code_for Alive readiness) (words_for Alive readiness) response
Answers gives desk readiness (Ok Ready) response =
    IsFilled (code_for Ready readiness) (words_for Ready readiness) response
Answers gives desk readiness (Ok Stop) response =
    IsFilled (code_for Stop readiness) (words_for Stop readiness) response
Answers gives desk readiness (Ok (Show page)) response = Shows gives desk readiness page response
Answers gives desk readiness (Err denial) response =
    IsFilled (code_of denial) (words_of_denial denial) response

-- it is asked that the site ends
abbrev pub is_stop : Result Asked Denial → Bool
is_stop (Ok Alive) = false
is_stop (Ok Ready) = false
is_stop (Ok Stop) = true
is_stop (Ok (Show page)) = false
is_stop (Err denial) = false

-- A request is answered by what it asks for, how ready the site is, and what it gives for a page;
-- and what is noted is whether it asks that the site ends.
pub record IsAnswered {D : Type 0} (gives : D → Page → Option (List ℕ) → Type 0) (old : Clerk D)
    (request : Request (List ℕ)) (response : Response) (new : Clerk D) : Type 0 where
  pub asked : Result Asked Denial
  pub is_asked : IsAskedIn (option_copied old.token) request asked
  pub answers : Answers gives old.desk.now old.readiness asked response
  pub desk : new.desk ≡ old.desk
  pub token : new.token ≡ old.token
  pub readiness : new.readiness ≡ old.readiness
  pub stops : new.stops ≡ (old.stops || is_stop asked)

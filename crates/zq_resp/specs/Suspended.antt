-- Reading that is suspended between two bytes, and goes on with more of them.
use Rattle.std.specs.Prelude.{◌≡◌, ℕ, ◌<◌, ◌≤◌, List, ◌++◌, length, map}
use Rattle.std.specs.declared.vec.Vec.{Vec}
use Rattle.std.specs.declared.alloc.Global.{Global}
use Rattle.zq_resp.specs.declared.fault.FeedFault.{FeedFault}
use Rattle.zq_resp.specs.declared.fault.FeedFault.TheVariants.{Protocol, TooLong, NoMemory, Over}
use Rattle.zq_resp.specs.Front.{Front, Got, Wrong}

-- the words that some vectors hold
abbrev pub views : Vec (Vec ℕ Global) Global → List (List ℕ)
views words = map (λ w. w.items) words.items

-- What a fault says of the bytes: they are wrong for that reason. Want of memory says nothing of
-- them.
abbrev pub Fails : {X : Type 0} → FeedFault → Front X → Type 0
Fails Protocol read = read ≡ Wrong Protocol
Fails TooLong read = read ≡ Wrong TooLong
Fails NoMemory read = Unit {0}
Fails Over read = ⊥

-- The bytes are wrong for that reason: no memory was asked for.
abbrev pub IsWrong : {X : Type 0} → FeedFault → Front X → Type 0
IsWrong Protocol read = read ≡ Wrong Protocol
IsWrong TooLong read = read ≡ Wrong TooLong
IsWrong NoMemory read = ⊥
IsWrong Over read = ⊥

-- A suspended reading has read a text, and gives something with more bytes. From an old state to a
-- new one the text grows by the bytes taken, and what more bytes give stays the same.
pub record Goes {P X : Type 0} (text : P → List ℕ) (resume : P → List ℕ →
    Front X) (old new : P) (taken : List ℕ) : Type 0 where
  pub text_grows : text new ≡ text old ++ taken
  pub resumes : (more : List ℕ) → resume old (taken ++ more) ≡ resume new more

-- The reading ends with a value, and all the bytes read are its spelling.
pub record Ends {P X : Type 0} (text : P → List ℕ) (resume : P → List ℕ →
    Front (X × List ℕ)) (old : P) (taken : List ℕ) (value : X) (spelling : List ℕ) : Type 0 where
  pub spelled : spelling ≡ text old ++ taken
  pub found : (more : List ℕ) → resume old (taken ++ more) ≡ Got (value, more)

-- how many of the bytes a step took
abbrev pub IsStep : {X : Type 0} → List ℕ → X × ℕ → Type 0
IsStep bytes x = (0 < x.1) × (x.1 ≤ length bytes)

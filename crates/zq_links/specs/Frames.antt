-- Frames that are passed on, and those that a link holds back.
use Rattle.std.specs.Prelude.{ℕ, ◌-◌, Option, Some, None, List, [], map, length, drop, Vec}
use Rattle.std.specs.declared.alloc.Global.{Global}
use Rattle.std.specs.declared.collections.VecDeque.{VecDeque}
use Rattle.zq_links.specs.Limits.{most_held}

-- the bytes of each frame
abbrev pub frames_in : Vec (Vec ℕ Global) Global → List (List ℕ)
frames_in frames = map (λ frame. frame.items) frames.items

-- the bytes of each frame that is held, the oldest first
abbrev pub held_in : Option (VecDeque (Vec ℕ Global) Global) → List (List ℕ)
held_in None = []
held_in (Some frames) = map (λ frame. frame.items) frames.items

-- the last of these, as many as a link holds
abbrev pub newest : {A : Type 0} → List A → List A
newest frames = drop (length frames - most_held) frames

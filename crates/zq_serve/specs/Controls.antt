-- The requests by which a connection has several others answered as one, or has the site end.

use Rattle.std.specs.Prelude.{Bool, List, None, Option, Some, [], codes, false, if◌then◌else◌, ◌&&◌, ◌||◌, ◌∷◌}
use Rattle.zq_serve.specs.declared.control.Control.{Control}
use Rattle.zq_serve.specs.declared.control.Control.TheVariants as control
use Rattle.zq_words.specs.Words.{Word, is}

abbrev pub control_named : Word → Option Control
control_named word =
    if is word (codes "MULTI") then Some control.Multi else
    if is word (codes "EXEC") then Some control.Exec else
    if is word (codes "DISCARD") then Some control.Discard else
    if is word (codes "WATCH") then Some control.Watch else
    if is word (codes "UNWATCH") then Some control.Unwatch else
    if is word (codes "SHUTDOWN") then Some control.Shutdown else None

-- the one that the first word names
abbrev pub control_of : List Word → Option Control
control_of [] = None
control_of (name ∷ words) = control_named name

-- a connection answers it itself where it is queued, once the others are answered
abbrev pub is_own_at_end : List Word → Bool
is_own_at_end [] = false
is_own_at_end (name ∷ words) = is name (codes "ECHO") || is name (codes "TIME")

-- and has as many words as it takes
abbrev pub is_whole : List Word → Bool
is_whole (name ∷ []) = is name (codes "TIME")
is_whole (name ∷ word ∷ []) = is name (codes "ECHO")
is_whole _ = false

-- the connection is as it began afterwards
abbrev pub is_reset : List Word → Bool
is_reset (name ∷ []) = is name (codes "RESET")
is_reset _ = false

-- it is answered at once, whatever waits
abbrev pub ends_all : List Word → Bool
ends_all [] = false
ends_all (name ∷ words) = is name (codes "QUIT") || is_reset (name ∷ words)

-- words that may stand behind SHUTDOWN
abbrev pub is_shutdown_option : Word → Bool
is_shutdown_option word = is word (codes "SAVE") || (is word (codes "NOSAVE")
    || (is word (codes "NOW") || is word (codes "FORCE")))

abbrev pub are_shutdown_options : List Word → Bool
are_shutdown_options (first ∷ []) = is_shutdown_option first
are_shutdown_options (first ∷ second ∷ []) = is_shutdown_option first && is_shutdown_option second
are_shutdown_options (first ∷ second ∷ third ∷ []) =
    is_shutdown_option first && (is_shutdown_option second && is_shutdown_option third)
are_shutdown_options _ = false

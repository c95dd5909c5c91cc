-- What can happen to a site, as its log says it.

use Rattle.log.specs.declared.level.Level.{Level}
use Rattle.log.specs.declared.level.Level.TheVariants.{Debug, Info, Warn}
use Rattle.std.specs.Prelude.{List, codes, ℕ}
use Rattle.zq_site.specs.declared.happening.Happening.{Happening}
use Rattle.zq_site.specs.declared.happening.Happening.TheVariants.{AcceptedByPeer, CallerLeft, CaughtUp, DialFailed, DiskFree, DiskFull, DrainUnfinished, Fenced, FrameDropped, FrameTooLong, Joined, LinkLost, LinkNotOpened, LinkUp, Listening, LogRead, LogReading, LogSwitched, NoPeerHeard, NumberUsedTwice, PeerNotHeard, PeerReachable, PeerRefused, PeerUnreachable, RefusedByPeer, Stopped, Stopping}

-- which lines say it
abbrev pub level_of : Happening → Level
level_of PeerRefused = Warn
level_of RefusedByPeer = Warn
level_of LinkNotOpened = Warn
level_of Fenced = Warn
level_of NumberUsedTwice = Warn
level_of PeerNotHeard = Warn
level_of NoPeerHeard = Warn
level_of LinkLost = Warn
level_of FrameDropped = Warn
level_of FrameTooLong = Warn
level_of PeerUnreachable = Warn
level_of DrainUnfinished = Warn
level_of DiskFull = Warn
level_of Listening = Info
level_of LogReading = Info
level_of LogRead = Info
level_of LogSwitched = Info
level_of DiskFree = Info
level_of LinkUp = Info
level_of PeerReachable = Info
level_of AcceptedByPeer = Info
level_of Joined = Info
level_of CaughtUp = Info
level_of Stopping = Info
level_of Stopped = Info
level_of CallerLeft = Debug
level_of DialFailed = Debug

-- and in which words
abbrev pub words_of : Happening → List ℕ
words_of PeerRefused = codes "peer refused"
words_of RefusedByPeer = codes "refused by peer"
words_of LinkNotOpened = codes "link not opened"
words_of Fenced = codes "fenced"
words_of NumberUsedTwice = codes "number used twice"
words_of PeerNotHeard = codes "peer not heard"
words_of NoPeerHeard = codes "no peer heard"
words_of LinkLost = codes "link lost"
words_of FrameDropped = codes "frame dropped"
words_of FrameTooLong = codes "frame too long"
words_of PeerUnreachable = codes "peer unreachable"
words_of DrainUnfinished = codes "drain unfinished"
words_of DiskFull = codes "disk full"
words_of Listening = codes "listening"
words_of LogReading = codes "log reading"
words_of LogRead = codes "log read"
words_of LogSwitched = codes "log switched"
words_of DiskFree = codes "disk free"
words_of LinkUp = codes "link up"
words_of PeerReachable = codes "peer reachable"
words_of AcceptedByPeer = codes "accepted by peer"
words_of Joined = codes "joined"
words_of CaughtUp = codes "caught up"
words_of Stopping = codes "stopping"
words_of Stopped = codes "stopped"
words_of CallerLeft = codes "caller left"
words_of DialFailed = codes "dial failed"
